-- The things of a codec in a list of bytes: how many, which, one more, there and back. Assumes nothing.
use mathlib.Core.Path.{◌≡◌, refl, ap, ◌∙◌}
use mathlib.Core.List.{List, [], ◌∷◌, ◌++◌, append_assoc}
use Prim.Native.Nat.{ℕ, zero, suc, ◌+◌, ◌*◌, ◌≤◌, ◌<◌}
use native.Mathlib.Nat.{add-zero, zero-add, mul-zero, mul-suc}
use native.Mathlib.Omega.{arith}
use lib.ListN.{length, get_or, take, drop}
use lib.Seq.{drop_at, drop-drop, take-add}
use Rattle.lists.specs.Bytes.{Bytes, rows}
use Rattle.lists.specs.Codec.{Codec, Lawful, things_at}
use Rattle.lists.proofs.Rows.{length-rows}

module _ {A : Type 0} (c : Codec A) where
  pub length-things : (s : List ℕ) (i n : ℕ) → length (things_at c s i n) ≡ n
  unfolding things_at
  length-things s i zero = refl
  length-things s i (suc n) = ap suc (length-things s (i + c.width) n)

  next_place : (i n : ℕ) → i + c.width + c.width * n ≡ i + c.width * suc n
  next_place i n = omega (arith, mul-suc c.width n)

  -- one more
  pub things-more : (s : List ℕ) (i n : ℕ) → things_at c s i (suc n) ≡ things_at c s i n ++ (c.reads s (i + c.width * n) ∷ [])
  unfolding things_at
  things-more s i zero = rw (mul-zero c.width, add-zero i)
  things-more s i (suc n) = ap (λ (l : List A). c.reads s i ∷ l) (things-more s (i + c.width) n ∙ rw (next_place i n))

  -- the thing at place k
  pub get_or-things : (s : List ℕ) (i n k : ℕ) (d : A) → k < n → get_or (things_at c s i n) k d ≡ c.reads s (i + c.width * k)
  unfolding things_at
  get_or-things s i zero k d h = absurd (omega arith)
  get_or-things s i (suc n) zero d h = rw (mul-zero c.width, add-zero i)
  get_or-things s i (suc n) (suc k) d h = get_or-things s (i + c.width) n k d (omega arith) ∙ rw (next_place i k)

-- ---- back and forth
module _ {A : Type 0} {c : Codec A} (l : Lawful c) where
  pub things-drop : (s : List ℕ) (i n : ℕ) → things_at c s i n ≡ things_at c (drop i s) 0 n
  unfolding things_at
  things-drop s i zero = refl
  things-drop s i (suc n) =
      let w = c.width in
      let e : things_at c s (i + w) n ≡ things_at c (drop i s) (0 + w) n = things-drop s (i + w) n ∙ rw (zero-add w, things-drop (drop i s) w n, drop-drop w i s) in
      rw (l.shift s i, e)

  -- what is read off rows is what they are the rows of
  pub things-rows : (xs : List A) (rest : List ℕ) → things_at c (rows c.bytes xs ++ rest) 0 (length xs) ≡ xs
  unfolding things_at rows
  things-rows [] rest = refl
  things-rows (x ∷ xs) rest =
      let w = c.width in
      let row = c.bytes x in
      let more = rows c.bytes xs ++ rest in
      let e : things_at c (row ++ more) (0 + w) (length xs) ≡ xs = rw (zero-add w, things-drop (row ++ more) w (length xs), drop_at row more w (l.wide x)) (things-rows xs rest) in
      let whole : rows c.bytes (x ∷ xs) ++ rest ≡ row ++ more = append_assoc row (rows c.bytes xs) rest in
      ap (λ (s : List ℕ). things_at c s 0 (suc (length xs))) whole
      ∙ (ap (λ (y : A). y ∷ things_at c (row ++ more) (0 + w) (length xs)) (l.back x more) ∙ ap (λ (ys : List A). x ∷ ys) e)

  -- the rows of what is read are the bytes that it was read off
  pub rows-things : (s : List ℕ) → Bytes s → (i n : ℕ) → i + c.width * n ≤ length s → rows c.bytes (things_at c s i n) ≡ take (c.width * n) (drop i s)
  unfolding things_at rows
  rows-things s b i zero h = rw (mul-zero c.width)
  rows-things s b i (suc n) h =
      let w = c.width in
      let m : w * suc n ≡ w + w * n = mul-suc w n ∙ omega arith in
      rw (m, take-add w (w * n) (drop i s), drop-drop w i s, l.again s i b (omega arith), rows-things s b (i + w) n (omega arith))

  pub length-coded : (xs : List A) → length (rows c.bytes xs) ≡ c.width * length xs
  length-coded = length-rows c.bytes c.width l.wide
