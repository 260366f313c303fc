-- Text after text at a place of a buffer. Assumes nothing.
use Rattle.std.proofs.Common.{◌≡◌, refl, sym, ap, ◌∙◌, ℕ, suc, ◌+◌, ◌^◌, ◌<◌, List, [], ◌∷◌, ◌++◌, length, take, get_or, add-zero, zero-add, add-one, ◌%◌, arith}
use native.Mathlib.Nat.{suc-add, add-suc}
use Rattle.std.proofs.lemmas.List.{take_more}
use Rattle.std.specs.Borrow.{MutBor}
use borrow.Rule.Slice.Relend.{set_name}
use Rattle.report.specs.declared.text.Text.{Text}
use Rattle.report.specs.Text.{written, series, Printed}
use Rattle.report.specs.Cursor.{started, pushed, appended}

pub appended_none : (t : Text) → appended [] t ≡ t
unfolding appended
appended_none t = refl

-- a byte and then the rest
pub appended_first : (b : ℕ) (bs : List ℕ) (t : Text) → appended (b ∷ bs) t ≡ appended bs (appended (b ∷ []) t)
unfolding appended
appended_first b bs t = refl

pub appended_append : (xs ys : List ℕ) (t : Text) → appended (xs ++ ys) t ≡ appended ys (appended xs t)
unfolding appended
appended_append [] ys t = refl
appended_append (x ∷ xs) ys t = appended_append xs ys (pushed x t)

-- a loop over bytes, and over the texts of a series
pub appended_take : (k : ℕ) (xs : List ℕ) (t : Text) → k < length xs → appended (take (k + 1) xs) t ≡ appended (get_or xs k 0 ∷ []) (appended (take k xs) t)
appended_take k xs t h = ap (λ (ys : List ℕ). appended ys t) (take_more xs k 0 h) ∙ appended_append (take k xs) (get_or xs k 0 ∷ []) t

pub series_none : (f : ℕ → List ℕ) (t : Text) → appended (series f 0) t ≡ t
unfolding series appended
series_none f t = refl

pub series_more : (f : ℕ → List ℕ) (k : ℕ) (t : Text) → appended (series f (k + 1)) t ≡ appended (f k) (appended (series f k) t)
unfolding series
series_more f k t = rw (add-one k) (appended_append (series f k) (f k) t)

pub ruleset appending = (appended_none, appended_append, appended_first, appended_take, series_none, series_more)

-- ---- from the front, where the text is not too long, it is what the contracts say
pub appended-written : (text : List ℕ) (t : Text) → t.at + length text < 2 ^ 64 → appended text t ≡ record { out = record t.out { now = written t.out.now t.at text }; at = t.at + length text }
unfolding appended written
appended-written [] t h = rw (add-zero t.at) refl
appended-written (b ∷ bs) t h =
    let next : (t.at + 1) % 2 ^ 64 ≡ suc t.at = omega arith in
    appended-written bs (pushed b t) (omega arith) ∙ rw (next, suc-add t.at (length bs), add-suc) refl

-- ---- a text that began at the front of a lent buffer: the place after it, and new, what the lent buffer holds afterwards
module _ (text : List ℕ) (out : MutBor (List ℕ)) (name : ℕ) (begun t : Text) (h : length text < 2 ^ 64) (b : begun ≡ started (set_name name out)) (e : t ≡ appended text begun) where
  from_front : t ≡ record { out = record (set_name name out) { now = written out.now 0 text }; at = 0 + length text }
  from_front = e ∙ (ap (appended text) b ∙ appended-written text (started (set_name name out)) (omega arith))

  pub ends : t.at ≡ length text
  ends = ap (λ (x : Text). x.at) from_front ∙ zero-add (length text)

  pub printed : (new : List ℕ) → (name ≡ t.out.ghost_name → new ≡ t.out.now) → Printed text out.now 0 t.at new
  printed new w = record { place = ap (λ (x : Text). x.at) from_front; bytes = w (sym (ap (λ (x : Text). x.out.ghost_name) from_front)) ∙ ap (λ (x : Text). x.out.now) from_front }
