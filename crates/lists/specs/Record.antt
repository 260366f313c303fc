-- "A record is 8 bytes: kind, engine, origin, address, then data big-endian." Assumes nothing.
use Rattle.std.specs.Prelude.{List, ◌∷◌, ℕ, ◌+◌}
use Rattle.figure.specs.declared.Record.{Record}
use Rattle.lists.specs.Bytes.{byte_at, u32_at, u32_bytes}
use Rattle.lists.specs.Codec.{Codec}

-- how many bytes a record has
abbrev pub record_width : ℕ
record_width = 8

abbrev pub record_bytes : Record → List ℕ
record_bytes r = r.kind ∷ r.engine.0 ∷ r.origin.0 ∷ r.address.0 ∷ u32_bytes r.«data»

-- the record whose bytes stand at place i
abbrev pub record_at : List ℕ → ℕ → Record
record_at s i =
    record { kind = byte_at s i; engine = record { 0 = byte_at s (i + 1) }; origin = record { 0 = byte_at s (i + 2) }; address = record { 0 = byte_at s (i + 3) }; «data» = u32_at s (i + 4) }

-- the record that the list's first bytes are
abbrev pub record_of : List ℕ → Record
record_of bytes = record_at bytes 0

abbrev pub record_codec : Codec Record
record_codec = record { width = record_width; bytes = record_bytes; reads = record_at }
