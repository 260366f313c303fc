-- The first refusal that applies, or the fresh store.
use Rattle.std.proofs.Common.{◌≡◌, ℕ, List, zero, suc, refl, sym, ◌∙◌}
use Rattle.std.proofs.lemmas.Result.{err_from_is_err_and}
use Rattle.figure.specs.Refusals.{first_of}
use Rattle.figure.specs.declared.Sizes.{Sizes}
use Rattle.figure.proofs.Numbers.{not-none}
use Rattle.shape.specs.declared.Store.{Store}
use Rattle.shape.specs.Fresh.{Made, fresh_of, zeros, fresh_refused, made, made_as}
use Rattle.store.proofs.fresh.Goals as goal

module _ (z : Sizes) (table : List ℕ) {n : ℕ} (e : n ≡ first_of (fresh_refused z table)) where
  refused : ¬ (n ≡ 0) → ◌≡◌ {A = Made} (record { number = n; store = zeros }) (made z table)
  unfolding made
  refused h = rw (← (e)) (at n h)
    where
      at : (n : ℕ) → ¬ (n ≡ 0) → ◌≡◌ {A = Made} (record { number = n; store = zeros }) (made_as n z table)
      at zero h = absurd (h refl)
      at (suc n) h = refl

  accepted : {s : Store} → n ≡ 0 → s ≡ fresh_of z table → ◌≡◌ {A = Made} (record { number = 0; store = s }) (made z table)
  unfolding made
  accepted h o = rw (o, sym e ∙ h)

pub returns-in_err-given : goal.returns-in_err-given
returns-in_err-given c =
    let p = err_from_is_err_and c.from_residual.result c.from_residual.ensures.1 in
    rw (p.1, p.2) (refused _ _ c.in_err-given.ensures.number (not-none c.in_err-given.field-0.0))

pub returns : goal.returns
returns c =
    let e = c.in_ok-given.ensures.same in
    accepted _ _ c.in_ok-given.ensures.number refl (rw (e.0, e.1) at c.store.ensures)
