-- A codec: how things of one sort stand in bytes. Assumes nothing.
use Rattle.std.specs.Prelude.{◌≡◌, List, [], ◌∷◌, ◌++◌, ℕ, zero, suc, ◌+◌, ◌≤◌, length, take, drop}
use Rattle.lists.specs.Bytes.{Bytes, word_width, u32_at, u32_bytes}

-- how many bytes a thing has, which they are, and the thing whose bytes stand at a place
pub record Codec (A : Type 0) : Type 0 where
  pub width : ℕ
  pub bytes : A → List ℕ
  pub reads : List ℕ → ℕ → A

-- every thing has so many bytes; what stands at a place is what stands at the front of the rest; what is written reads back the same; what is read, written again, has the same bytes
pub record Lawful {A : Type 0} (c : Codec A) : Type 0 where
  pub wide : (x : A) → length (c.bytes x) ≡ c.width
  pub shift : (s : List ℕ) (i : ℕ) → c.reads s i ≡ c.reads (drop i s) 0
  pub back : (x : A) (rest : List ℕ) → c.reads (c.bytes x ++ rest) 0 ≡ x
  pub again : (s : List ℕ) (i : ℕ) → Bytes s → i + c.width ≤ length s → c.bytes (c.reads s i) ≡ take c.width (drop i s)

-- the n things that stand from place i on, one after another
unfoldable pub things_at : {A : Type 0} → Codec A → List ℕ → ℕ → ℕ → List A
things_at c s i zero = []
things_at c s i (suc n) = c.reads s i ∷ things_at c s (i + c.width) n

-- a number of four bytes
abbrev pub word_codec : Codec ℕ
word_codec = record { width = word_width; bytes = u32_bytes; reads = u32_at }
