-- How `decide::decide` meets its contract. Assumes nothing.
use Rattle.std.proofs.Common.{◌∙◌, refl}
use Rattle.std.proofs.lemmas.Result.{err_from_is_err_and}
use Rattle.figure.proofs.Numbers.{not-none}
use Rattle.decide.proofs.Says.{unsound-move, badly-formed, well-formed}
use Rattle.decide.proofs.decide.Goals as goal

pub returns-then-not-l : goal.returns-then-not-l
returns-then-not-l c = unsound-move _ _ _ c.if-not-l.true

pub returns-in_err-kind : goal.returns-in_err-kind
returns-in_err-kind c = let p = err_from_is_err_and c.from_residual.result c.from_residual.ensures.1 in rw (p.1, p.2) (badly-formed _ _ _ c.if-not-l.false c.in_err-kind.ensures.refused (not-none _))

pub returns : goal.returns
returns c = c.decided.ensures ∙ well-formed _ _ _ c.if-not-l.false c.in_ok-kind.ensures.refused refl _ c.in_ok-kind.ensures.kind
