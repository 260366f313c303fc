use Rattle.std.proofs.lemmas.Result.{err_from_is_err_and}
use Rattle.figure.proofs.Numbers.{not-none}
use Rattle.store.proofs.Turning.{none-turned}
use Rattle.store.proofs.turns_from_fresh.Goals as goal

pub returns-in_err-given : goal.returns-in_err-given
returns-in_err-given c =
    let p = err_from_is_err_and c.from_residual.result c.from_residual.ensures.1 in
    rw (p.1, p.2) (none-turned c.in_err-given.ensures.number (not-none c.in_err-given.field-0.0))

pub returns : goal.returns
returns c = let e = c.in_ok-given.ensures.same in rw (e.0, e.1) at c.take_turns.ensures
