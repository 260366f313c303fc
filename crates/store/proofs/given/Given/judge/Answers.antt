use Rattle.std.proofs.Common.{◌≡◌, ℕ, List, length, sym, ◌∙◌}
use Rattle.figure.specs.Refusals.{sizes_refused, first_of}
use Rattle.figure.specs.declared.Sizes.{Sizes}
use Rattle.std.proofs.lemmas.Result.{err_from_is_err_and}
use Rattle.figure.proofs.First.{first-front, first-append, same_not, other-not, sizes-numbered}
use Rattle.figure.proofs.Numbers.{not-none}
use Rattle.shape.specs.Fresh.{fresh_refused}
use Rattle.store.proofs.given.Given.judge.Goals as goal

module _ (z : Sizes) (table : List ℕ) where
  missized : {n : ℕ} → n ≡ first_of (sizes_refused z) → ¬ (n ≡ 0) → n ≡ first_of (fresh_refused z table)
  unfolding fresh_refused
  missized {n} e h = rw (first-front (sizes_refused z) _ (λ o. h (e ∙ o))) e

  miscounted : first_of (sizes_refused z) ≡ 0 → ¬ (length table ≡ z.addresses) → 10 ≡ first_of (fresh_refused z table)
  unfolding fresh_refused
  miscounted e h = rw (first-append (sizes_refused z) _ e (sizes-numbered z), other-not _ _ h)

  accepted : first_of (sizes_refused z) ≡ 0 → length table ≡ z.addresses → 0 ≡ first_of (fresh_refused z table)
  unfolding fresh_refused
  accepted e h = rw (first-append (sizes_refused z) _ e (sizes-numbered z), same_not _ _ h)

pub returns-in_err-judge_sizes-clause-number : goal.returns-in_err-judge_sizes-clause-number
returns-in_err-judge_sizes-clause-number c =
    let p = err_from_is_err_and c.from_residual.result c.from_residual.ensures.1 in
    rw (p.1, p.2) (missized _ _ c.in_err-judge_sizes.ensures (not-none c.in_err-judge_sizes.field-0.0))

pub returns-then-table-from-clause-number : goal.returns-then-table-from-clause-number
returns-then-table-from-clause-number c = miscounted _ _ (sym c.in_ok-judge_sizes.ensures) (rw c.from.ensures at c.if-table-from.true)

pub invariant_of-result : goal.invariant_of-result
invariant_of-result c = record { right = sym (accepted _ _ (sym c.in_ok-judge_sizes.ensures) (c.if-table-from.false ∙ c.from.ensures)) }
