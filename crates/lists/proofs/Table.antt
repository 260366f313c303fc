-- The memory values of a list and the table of them: their laws for callers, and the loop of `memory_of`. Assumes nothing.
use mathlib.Core.Path.{◌≡◌, refl, sym, ap, ◌∙◌}
use mathlib.Core.List.{List, [], ◌++◌, append_assoc, append-nil}
use Prim.Native.Nat.{ℕ, suc, ◌+◌, ◌-◌, ◌*◌, ◌≤◌, ◌<◌, zero-le}
use native.Mathlib.Numerals.{add-one}
use native.Mathlib.Omega.{arith}
use lib.ListN.{length, get_or, take, drop, set, replicate, drop_of_length-le, length-append, length-replicate}
use lib.Seq.{take_at, set_at, drop-cons, length-take-le}
use Rattle.std.proofs.lemmas.List.{drop-replicate}
use Rattle.figure.specs.Refusals.{most_addresses}
use Rattle.lists.specs.Bytes.{u32_at}
use Rattle.lists.specs.Codec.{things_at, word_codec}
use Rattle.lists.specs.Read.{Reading, refused_as, read_of, memory_of, memory_table}
use Rattle.lists.proofs.Things.{length-things, get_or-things, things-more}
use Rattle.lists.proofs.Sized.{held}

module _ (s : List ℕ) where
  pub length-memory : length (memory_of s) ≡ (read_of s).sizes.addresses
  unfolding memory_of
  length-memory = length-things word_codec s (read_of s).memory_at (read_of s).sizes.addresses

  pub get_or-memory : (k : ℕ) → k < (read_of s).sizes.addresses → get_or (memory_of s) k 0 ≡ u32_at s ((read_of s).memory_at + 4 * k)
  unfolding memory_of
  get_or-memory k h = get_or-things word_codec s (read_of s).memory_at (read_of s).sizes.addresses k 0 h

  -- the front of the table, as a part of it is handed on
  pub memory-front : take (read_of s).sizes.addresses (memory_table s) ≡ memory_of s
  memory-front = take_at (memory_of s) (replicate (most_addresses - length (memory_of s)) 0) (read_of s).sizes.addresses length-memory

  pub length-table : length (memory_table s) ≡ most_addresses
  length-table =
      let few = (held s (read_of s) refl).addresses_most in
      length-append (memory_of s) (replicate (most_addresses - length (memory_of s)) 0) ∙ rw (length-replicate) (omega (arith, length-memory))

  -- the same of what `read` and `memory_of` returned
  module _ (l : Reading) (el : l ≡ read_of s) (table : List ℕ) (et : table ≡ memory_table s) where
    pub part_in : l.sizes.addresses ≤ length table
    part_in = omega (arith, (held s l el).addresses_most, ap length et, length-table)

    pub part-is : take l.sizes.addresses table ≡ memory_of s
    part-is = rw (el, et) memory-front

-- ---- the loop: of so many numbers the first k are read
pub record Filling (s : List ℕ) (i : ℕ) (old words : List ℕ) (k : ℕ) : Type 0 where
  pub upto : k ≤ length old
  pub words_are : words ≡ things_at word_codec s i k ++ drop k old

module _ {s old : List ℕ} {i : ℕ} where
  pub filling-none : Filling s i old old 0
  unfolding things_at
  filling-none = record { upto = zero-le; words_are = refl }

  pub filling-more : {words : List ℕ} {k v : ℕ} → Filling s i old words k → k < length old → v ≡ u32_at s (i + 4 * k) → Filling s i old (set words k v) (k + 1)
  filling-more {words} {k} {v} f h e =
      let v' = u32_at s (i + 4 * k) in
      record {
        upto = omega arith;
        words_are =
            rw (add-one, f.words_are, e, things-more word_codec s i k, drop-cons old k 0 h, append_assoc)
            (set_at (things_at word_codec s i k) (get_or old k 0) (drop (suc k) old) v' k (length-things word_codec s i k));
      }

  pub filling-all : {words : List ℕ} {k : ℕ} → Filling s i old words k → length old ≤ k → words ≡ things_at word_codec s i (length old)
  filling-all {words} {k} f h =
      let full : k ≡ length old = omega (arith, f.upto) in
      let none : drop (length old) old ≡ [] = drop_of_length-le old (omega arith) in
      f.words_are ∙ rw (full, none, append-nil)

-- ---- the table: zeros, whose front are the values that are read
abbrev zeros : List ℕ
zeros = replicate most_addresses 0

module _ (s : List ℕ) (l : Reading) (e : l ≡ read_of s) {m : ℕ} (em : m ≡ l.sizes.addresses) where
  pub front-most : m ≤ most_addresses
  front-most = omega (arith, (held s l e).addresses_most)

  pub front-many : m ≡ length (take m zeros)
  front-many = sym (length-take-le m zeros (rw (length-replicate) front-most))

  pub front-inside : l.memory_at + 4 * length (take m zeros) ≤ length s
  front-inside = let h = held s l e in rw (← front-many) (omega arith)

  pub table-is : {words : List ℕ} → words ≡ things_at word_codec s l.memory_at (length (take m zeros)) → words ++ drop m zeros ≡ memory_table s
  unfolding memory_of
  table-is h = rw (h, ← front-many, em, e, drop-replicate, length-things word_codec s (read_of s).memory_at (read_of s).sizes.addresses)

-- a refused list has no values
pub table-none : (s : List ℕ) (n : ℕ) → refused_as n ≡ read_of s → zeros ≡ memory_table s
unfolding memory_of things_at
table-none s n e = rw (← (e))
