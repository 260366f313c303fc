-- A step that is accepted is the move carried out; one that is refused keeps the store.
use Rattle.std.proofs.Common.{sym, ap, ◌∙◌}
use Rattle.std.proofs.lemmas.Result.{err_from_is_err_and}
use Rattle.figure.proofs.Numbers.{not-none}
use Rattle.shape.specs.declared.Answer.{Answer}
use Rattle.shape.proofs.Kept.{refused-keeps}
use Rattle.store.proofs.Deciding.{look-decides, said-is}
use Rattle.store.proofs.step_in_place.Goals as goal

pub returns-in_err-m : goal.returns-in_err-m
returns-in_err-m c =
    let p = err_from_is_err_and c.from_residual.result c.from_residual.ensures.1 in
    let a = said-is (look-decides c.look.ensures c.in_err-m.ensures) in
    rw (p.1, p.2) (sym (refused-keeps c.args.s.now c.args.x (λ e. not-none c.in_err-m.field-0.0 (ap (λ (r : Answer). r.number) a ∙ e))).0, a)

pub carry_out-requires : goal.carry_out-requires
carry_out-requires c = look-decides c.look.ensures c.in_ok-m.ensures

pub returns : goal.returns
returns c = (c.carry_out.ensures, said-is (look-decides c.look.ensures c.in_ok-m.ensures))
