-- A turn that is accepted is the move carried out; one that is refused keeps the store.
use Rattle.std.proofs.Common.{ap, ◌∙◌}
use Rattle.std.proofs.lemmas.Result.{err_from_is_err_and}
use Rattle.figure.proofs.Numbers.{not-none}
use Rattle.shape.specs.declared.Answer.{Answer}
use Rattle.shape.proofs.Kept.{refused-keeps}
use Rattle.store.proofs.Deciding.{said-is}
use Rattle.store.proofs.Running.{turn-decided}
use Rattle.store.proofs.turns.Running.turn.Goals as goal

pub returns-in_err-m : goal.returns-in_err-m
returns-in_err-m c s h =
    let p = err_from_is_err_and c.from_residual.result c.from_residual.ensures.1 in
    let a = said-is (turn-decided h (c.look.ensures s h) c.in_err-m.ensures) in
    rw (p.1, p.2) (a, rw ((refused-keeps s c.args.x (λ e. not-none c.in_err-m.field-0.0 (ap (λ (r : Answer). r.number) a ∙ e))).0) h)

pub carry_out-requires : goal.carry_out-requires
carry_out-requires c = let (s, h) = c.requires in (s, (h, turn-decided h (c.look.ensures s h) c.in_ok-m.ensures))

pub returns : goal.returns
returns c s h = let d = turn-decided h (c.look.ensures s h) c.in_ok-m.ensures in (said-is d, c.carry_out.ensures s h d)
