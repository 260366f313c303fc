-- Lists on the wire, and what the reader finds in them. Assumes nothing.
use Rattle.std.specs.Prelude.{List, [], ◌∷◌, ◌++◌, not, ℕ, zero, suc, ◌+◌, ◌-◌, ◌*◌, ◌/◌, ◌%◌, length, take, drop, ltb, eqb, Result, Ok, Err}
use Rattle.figure.specs.declared.Sizes.{Sizes}
use Rattle.figure.specs.declared.Record.{Record}
use Rattle.figure.specs.Refusals.{Refusal, ◌when◌, first_of, sizes_refused, most_addresses, most_actions}
use Rattle.lists.specs.Bytes.{word_width, byte_at, u32_at, u32_bytes, rows, padded}
use Rattle.lists.specs.Codec.{things_at, word_codec}
use Rattle.lists.specs.Record.{record_width, record_codec}
use Rattle.figure.specs.declared.refused.Refused.{Refused}
use Rattle.figure.specs.Refused.{number_of}
use Rattle.lists.specs.declared.reader.Layout.{Layout}

-- "Then one version byte, 1."
abbrev pub version : ℕ
version = 1

-- the bytes before the memory values: the length field, the version and the sizes
abbrev pub header_width : ℕ
header_width = 8

-- "Then one version byte, 1. Then one byte each for engines, addresses (their number m) and depth, m memory values of 4 bytes big-endian, and the 8-byte actions to the end."
unfoldable pub body_of : Sizes → List ℕ → List ℕ → List ℕ
body_of z memory actions = version ∷ z.engines ∷ z.addresses ∷ z.depth ∷ rows u32_bytes memory ++ actions

-- "Length first: 4 bytes, big-endian, counting all bytes after them."
unfoldable pub list_bytes : Sizes → List ℕ → List ℕ → List ℕ
list_bytes z memory actions = u32_bytes (length (body_of z memory actions)) ++ body_of z memory actions

-- the first bytes of a list that has so many after its length field
abbrev pub header_bytes : ℕ → Sizes → List ℕ
header_bytes after z = u32_bytes after ++ version ∷ z.engines ∷ z.addresses ∷ z.depth ∷ []

-- ---- the reader

-- what stands where
abbrev pub version_at : List ℕ → ℕ
version_at s = byte_at s 4

abbrev pub sizes_at : List ℕ → Sizes
sizes_at s = record { engines = byte_at s 5; addresses = byte_at s 6; depth = byte_at s 7 }

-- how many bytes stand after the header, and after the memory values
abbrev pub after_header : List ℕ → ℕ
after_header s = length s - header_width

abbrev pub after_memory : List ℕ → ℕ
after_memory s = after_header s - word_width * (sizes_at s).addresses

-- "Reader, in this order: 1 fewer than 8 bytes; 2 length field differs from total minus 4; 3 version; 4 engines; 5 addresses; 6 depth; 7 less than 4m bytes after the first 8; 8 the rest no multiple of 8; 9 more than 2,048 actions."
unfoldable pub read_refused : List ℕ → List Refusal
read_refused s =
    1 when ltb (length s) header_width
    ∷ 2 when not (eqb (u32_at s 0) (length s - word_width))
    ∷ 3 when not (eqb (version_at s) version)
    ∷ sizes_refused (sizes_at s)
    ++ 7 when ltb (after_header s) (word_width * (sizes_at s).addresses)
    ∷ 8 when not (eqb (after_memory s % record_width) 0)
    ∷ 9 when ltb most_actions (after_memory s / record_width)
    ∷ []

-- what the reader says: 0 or the number of what it refuses, the sizes, and where memory and actions begin
pub record Reading : Type 0 where
  pub number : ℕ
  pub sizes : Sizes
  pub memory_at : ℕ
  pub actions_at : ℕ
  pub actions : ℕ

-- "all 0 on a refusal"
abbrev pub refused_as : ℕ → Reading
refused_as n =
    record { number = n; sizes = record { engines = 0; addresses = 0; depth = 0 }; memory_at = 0; actions_at = 0; actions = 0 }

-- "The reader gives the sizes and where memory and actions begin"
abbrev pub taken_as : List ℕ → Reading
taken_as s =
    record { number = 0; sizes = sizes_at s; memory_at = header_width; actions_at = header_width + word_width * (sizes_at s).addresses; actions = after_memory s / record_width }

unfoldable pub layout_of : ℕ → List ℕ → Reading
layout_of zero s = taken_as s
layout_of (suc n) s = refused_as (suc n)

unfoldable pub read_of : List ℕ → Reading
read_of s = layout_of (first_of (read_refused s)) s

-- what each answer of the reader says
abbrev pub reading : Result Layout Refused → Reading
reading (Ok l) =
    record { number = 0; sizes = l.sizes; memory_at = l.memory_at; actions_at = l.actions_at; actions = l.actions }
reading (Err e) = refused_as (number_of e)

-- ---- what a list holds; nothing where the reader refuses

-- its m memory values
unfoldable pub memory_of : List ℕ → List ℕ
memory_of s = things_at word_codec s (read_of s).memory_at (read_of s).sizes.addresses

-- its actions, and their bytes
unfoldable pub actions_of : List ℕ → List Record
actions_of s = things_at record_codec s (read_of s).actions_at (read_of s).actions

unfoldable pub action_bytes_of : List ℕ → List ℕ
action_bytes_of s = take (record_width * (read_of s).actions) (drop (read_of s).actions_at s)

-- the memory values, and zeros up to the most addresses there are
abbrev pub memory_table : List ℕ → List ℕ
memory_table s = padded most_addresses (memory_of s)
