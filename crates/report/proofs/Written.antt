-- What a printed text leaves open: nothing. Assumes nothing.
use mathlib.Core.Path.{◌≡◌, sym, ap, ◌∙◌}
use mathlib.Core.List.{List, [], ◌∷◌, ◌++◌, append-nil, append_assoc}
use Prim.Native.Nat.{ℕ, ◌+◌}
use lib.ListN.{length, length-append}
use Rattle.report.specs.Text.{Printed}

-- two results that the contract allows are equal
pub wrote-unique : {text old new new' : List ℕ} {i r r' : ℕ} → Printed text old i r new → Printed text old i r' new' → (r ≡ r') × (new ≡ new')
wrote-unique w v = (w.place ∙ sym v.place, w.bytes ∙ sym v.bytes)

-- ---- texts one after another: docs/DECISIONS.md 59 names what is said of their length
unfoldable pub onward : List ℕ → List (List ℕ) → List ℕ
onward t [] = t
onward t (u ∷ ts) = onward (t ++ u) ts

unfoldable pub joined : List (List ℕ) → List ℕ
joined [] = []
joined (t ∷ ts) = onward t ts

onward-joined : (t : List ℕ) (ts : List (List ℕ)) → onward t ts ≡ t ++ joined ts
unfolding onward joined
onward-joined t [] = sym (append-nil t)
onward-joined t (u ∷ ts) = onward-joined (t ++ u) ts ∙ (append_assoc t u (joined ts) ∙ ap (λ (x : List ℕ). t ++ x) (sym (onward-joined u ts)))

length-joined : (t : List ℕ) (ts : List (List ℕ)) → length (joined (t ∷ ts)) ≡ length t + length (joined ts)
unfolding joined
length-joined t ts = ap length (onward-joined t ts) ∙ length-append t (joined ts)
