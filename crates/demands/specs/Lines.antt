-- The account in bytes. Assumes nothing.
use Rattle.std.specs.Prelude.{List, [], ◌∷◌, ◌++◌, ℕ, suc}
use Rattle.figure.specs.Account.{Item, reading, writing, Book, unpublished, settled_slots}
use Rattle.figure.specs.declared.Record.{Record}
use Rattle.figure.specs.declared.Sizes.{Sizes}
use Rattle.lists.specs.Bytes.{rows}
use Rattle.lists.specs.Line.{line_bytes, no_number}
use Rattle.lists.specs.declared.line.Line.{Line}

-- "an 8-byte event of kind 1 or 2"
abbrev pub item_record : Item → Record
item_record (reading t i a d) = record { kind = 1; engine = record { 0 = i }; origin = record { 0 = 0 }; address = record { 0 = a }; «data» = d }
item_record (writing t i a d) = record { kind = 2; engine = record { 0 = i }; origin = record { 0 = 0 }; address = record { 0 = a }; «data» = d }

-- its line, "then big-endian the slot or write number", and the line's bytes
abbrev pub item_line : ℕ → Item → Line
item_line k x = record { event = item_record x; number = record { 0 = k } }

abbrev pub item_bytes : ℕ → Item → List ℕ
item_bytes k x = line_bytes (item_line k x)

-- the slots from slot k on
unfoldable pub slot_lines : ℕ → List (List Item) → List ℕ
slot_lines k [] = []
slot_lines k (s ∷ ss) = rows (item_bytes k) s ++ slot_lines (suc k) ss

abbrev pub account_bytes : Sizes → Book → List ℕ
account_bytes z b = slot_lines 0 b.slots ++ rows (item_bytes no_number) (unpublished z.engines b.pending)

-- what is settled of them: the 12-byte records of its slots, slot numbers included
abbrev pub settled_bytes : Sizes → Book → List ℕ
settled_bytes z b = slot_lines 0 (settled_slots z b)
