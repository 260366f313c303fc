-- Laws of "begins", of lists and slot by slot. Assumes nothing.
use Prim.Native.Nat.{ℕ}
use mathlib.Core.Path.{◌≡◌, refl, sym, ap, ◌∙◌}
use mathlib.Core.List.{List, [], ◌∷◌, ◌++◌, append_assoc, append-nil}
use lib.ListN.{length, take}
use lib.Seq.{take_at}
use Rattle.figure.specs.Account.{Item, flat}
use Rattle.figure.specs.Demand.{Begins, Opens, none, last, more}

module _ {A : Type 0} where
  pub begins-more-of : (x y : List A) → Begins x (x ++ y)
  begins-more-of x y = record { rest = y; whole = refl }

  pub begins-trans : {x y z : List A} → Begins x y → Begins y z → Begins x z
  begins-trans {x} p q = record { rest = p.rest ++ q.rest; whole = sym (append_assoc x p.rest q.rest) ∙ rw p.whole q.whole }

  pub begins-under : (s : List A) {x y : List A} → Begins x y → Begins (s ++ x) (s ++ y)
  begins-under s {x} p = record { rest = p.rest; whole = append_assoc s x p.rest ∙ ap (λ (l : List A). s ++ l) p.whole }

  -- whatever follows the longer
  pub begins-on : {x y : List A} (z : List A) → Begins x y → Begins x (y ++ z)
  begins-on {x} {y} z p = begins-trans p (begins-more-of y z)

  pub begins-take : {x y : List A} (n : ℕ) → Begins x y → length x ≡ n → take n y ≡ x
  begins-take {x} n p e = rw (← p.whole) (take_at x p.rest n e)

-- ---- slot by slot

pub opens-refl : (ss : List (List Item)) → Opens ss ss
opens-refl [] = none
opens-refl (s ∷ ss) = more s (opens-refl ss)

pub opens-trans : {ss ts us : List (List Item)} → Opens ss ts → Opens ts us → Opens ss us
opens-trans none q = none
opens-trans (last p) (last q) = last (begins-trans p q)
opens-trans (last p) (more t q) = last p
opens-trans (more s none) (last q) = last q
opens-trans (more s p) (more t q) = more s (opens-trans p q)

pub opens-flat : {ss ts : List (List Item)} → Opens ss ts → Begins (flat ss) (flat ts)
opens-flat {ts = ts} none = begins-more-of [] (flat ts)
opens-flat (last {s} {t} {ts} p) = rw (append-nil s) (begins-on (flat ts) p)
opens-flat (more s p) = begins-under s (opens-flat p)
