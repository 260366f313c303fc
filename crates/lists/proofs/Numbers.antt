-- Four bytes and their number, eight bytes and their record: each way round. Assumes nothing.
use mathlib.Core.Path.{◌≡◌, refl, sym, ap, ◌∙◌}
use mathlib.Core.List.{List, [], ◌∷◌, ◌++◌}
use Prim.Native.Nat.{ℕ, ◌+◌, ◌/◌, ◌%◌, ◌≤◌, ◌<◌}
use native.Mathlib.Nat.{add-zero}
use native.Mathlib.Omega.{arith}
use lib.ListN.{length, take, drop, length-drop}
use lib.Seq.{get_or-drop, drop-drop, take-add}
use Rattle.figure.specs.declared.Record.{Record}
use Rattle.lists.specs.Bytes.{Bytes, byte_at, number_of, u32_at, u32_bytes}
use Rattle.lists.specs.Line.{line_at}
use Rattle.lists.specs.Record.{record_width, record_at, record_of, record_bytes}

-- ---- what stands at a place is what stands at the front of the rest
pub number-drop : (s : List ℕ) (i : ℕ) → u32_at s i ≡ u32_at (drop i s) 0
unfolding u32_at
number-drop s i = simp (get_or-drop, add-zero)

pub record-drop : (s : List ℕ) (i : ℕ) → record_at s i ≡ record_of (drop i s)
record-drop s i = rw (number-drop s (i + 4), number-drop (drop i s) 4) (simp (get_or-drop, add-zero, drop-drop))

pub line-drop : (s : List ℕ) (i : ℕ) → line_at s i ≡ line_at (drop i s) 0
line-drop s i = rw (record-drop s i, number-drop s (i + record_width), number-drop (drop i s) record_width) (simp drop-drop)

-- ---- round trips
pub number-back : (x : ℕ) (rest : List ℕ) → u32_at (u32_bytes x ++ rest) 0 ≡ x
unfolding u32_at
number-back x rest = omega arith

pub record-back : (r : Record) (rest : List ℕ) → record_of (record_bytes r ++ rest) ≡ r
unfolding u32_at
record-back r rest =
    let e : number_of (r.«data» / 16777216) (r.«data» / 65536 % 256) (r.«data» / 256 % 256) (r.«data» % 256) ≡ r.«data» = omega arith in
    ap (λ (x : ℕ). record { kind = r.kind; engine = r.engine; origin = r.origin; address = r.address; «data» = x }) e

-- four numbers below 256 are the bytes of their number
bytes_of : (a b c d : ℕ) → a < 256 → b < 256 → c < 256 → d < 256 → u32_bytes (number_of a b c d) ≡ a ∷ b ∷ c ∷ d ∷ []
bytes_of a b c d ha hb hc hd =
    let n = number_of a b c d in
    let ea : n / 16777216 ≡ a = omega arith in
    let eb : n / 65536 % 256 ≡ b = omega arith in
    let ec : n / 256 % 256 ≡ c = omega arith in
    let ed : n % 256 ≡ d = omega arith in
    rw (ea, eb, ec, ed)

-- the first four of a list
front-four : (l : List ℕ) → 4 ≤ length l → take 4 l ≡ byte_at l 0 ∷ byte_at l 1 ∷ byte_at l 2 ∷ byte_at l 3 ∷ []
front-four [] h = absurd (omega arith)
front-four (a ∷ []) h = absurd (omega arith)
front-four (a ∷ b ∷ []) h = absurd (omega arith)
front-four (a ∷ b ∷ c ∷ []) h = absurd (omega arith)
front-four (a ∷ b ∷ c ∷ d ∷ l) h = refl

pub four-at : (s : List ℕ) (i : ℕ) → i + 4 ≤ length s → take 4 (drop i s) ≡ byte_at s i ∷ byte_at s (i + 1) ∷ byte_at s (i + 2) ∷ byte_at s (i + 3) ∷ []
four-at s i h = front-four (drop i s) (simp length-drop (omega arith)) ∙ simp (get_or-drop, add-zero)

pub number-bytes : (s : List ℕ) (i : ℕ) → Bytes s → i + 4 ≤ length s → u32_bytes (u32_at s i) ≡ take 4 (drop i s)
unfolding u32_at
number-bytes s i b h =
    bytes_of (byte_at s i) (byte_at s (i + 1)) (byte_at s (i + 2)) (byte_at s (i + 3)) (b i) (b (i + 1)) (b (i + 2)) (b (i + 3)) ∙ sym (four-at s i h)

pub record-bytes : (s : List ℕ) (i : ℕ) → Bytes s → i + record_width ≤ length s → record_bytes (record_at s i) ≡ take record_width (drop i s)
record-bytes s i b h =
    let e : take 8 (drop i s) ≡ take 4 (drop i s) ++ take 4 (drop 4 (drop i s)) = take-add 4 4 (drop i s) in
    rw (number-bytes s (i + 4) b (omega arith), e, four-at s i (omega arith), drop-drop 4 i s)
