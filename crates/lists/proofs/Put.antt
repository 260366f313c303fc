-- Bytes put into a buffer, one part after another, and bytes laid over its front. Assumes nothing.
use mathlib.Core.Path.{◌≡◌, refl, sym, ap, ◌∙◌}
use mathlib.Core.Bool.{Bool, true, false}
use mathlib.Core.List.{List, [], ◌++◌, append_assoc}
use Prim.Native.Nat.{ℕ, ◌+◌, ◌≤◌}
use native.Mathlib.Nat.{zero-add}
use native.Mathlib.Omega.{arith}
use lib.Dec.{leb}
use lib.ListN.{length, take, drop, length-append, length-drop}
use lib.Seq.{take_at, drop-append-add, drop-drop, length-take-le}
use borrow.Author.Tests.{le-leb, leb-true}
use Rattle.figure.specs.Refusals.{pick}
use Rattle.lists.specs.Bytes.{put, laid}

module _ (old : List ℕ) (i : ℕ) (bytes : List ℕ) where
  pub put_in : i + length bytes ≤ length old → put old i bytes ≡ take i old ++ bytes ++ drop (i + length bytes) old
  unfolding put
  put_in h = rw (le-leb (i + length bytes) (length old) h)

  pub length-put : length (put old i bytes) ≡ length old
  unfolding put
  length-put = at (leb (i + length bytes) (length old)) refl
    where
      at : (t : Bool) → leb (i + length bytes) (length old) ≡ t → length (pick t (take i old ++ bytes ++ drop (i + length bytes) old) old) ≡ length old
      at true e =
          let h : i + length bytes ≤ length old = leb-true (i + length bytes) (length old) e in
          simp (length-append, length-drop, length-take-le i old (omega arith)) (omega arith)
      at false e = refl

-- bytes put just past bytes that were put
pub put-put : (old : List ℕ) (i : ℕ) (xs ys : List ℕ) → i + length (xs ++ ys) ≤ length old → put (put old i xs) (i + length xs) ys ≡ put old i (xs ++ ys)
put-put old i xs ys h =
    let e : length (xs ++ ys) ≡ length xs + length ys = length-append xs ys in
    let front : List ℕ = take i old ++ xs in
    let long : length front ≡ i + length xs = length-append (take i old) xs ∙ ap (λ (n : ℕ). n + length xs) (length-take-le i old (omega arith)) in
    let sum : i + length xs + length ys ≡ i + length (xs ++ ys) = omega arith in
    let past : drop (i + length xs + length ys) (front ++ drop (i + length xs) old) ≡ drop (i + length (xs ++ ys)) old
    = ap (λ (n : ℕ). drop (n + length ys) (front ++ drop (i + length xs) old)) (sym long) ∙ (drop-append-add front (drop (i + length xs) old) (length ys) ∙ (drop-drop (length ys) (i + length xs) old ∙ ap (λ (n : ℕ). drop n old) sum)) in
    put_in (put old i xs) (i + length xs) ys (rw (length-put old i xs) (omega arith))
    ∙ (rw (put_in old i xs (omega arith), take_at front (drop (i + length xs) old) (i + length xs) long, past, append_assoc (take i old) xs ys)
    (sym (put_in old i (xs ++ ys) h)))

pub put_front : (old bytes : List ℕ) → length bytes ≤ length old → put old 0 bytes ≡ laid bytes old
unfolding laid
put_front old bytes h = put_in old 0 bytes (omega arith) ∙ rw (zero-add)

-- bytes put just past what is laid over the front are laid after it
pub laid-put : (xs ys old : List ℕ) → length (xs ++ ys) ≤ length old → put (laid xs old) (length xs) ys ≡ laid (xs ++ ys) old
laid-put xs ys old h =
    let e : length (xs ++ ys) ≡ length xs + length ys = length-append xs ys in
    rw (← (put_front old xs (omega arith)), ← (put_front old (xs ++ ys) h))
    (ap (λ (n : ℕ). put (put old 0 xs) n ys) (sym (zero-add (length xs))) ∙ put-put old 0 xs ys (omega arith))

pub laid_none : (old : List ℕ) → laid [] old ≡ old
unfolding laid
laid_none old = refl
