-- The 8-byte record as a struct: kind, engine, origin, address, data. Assumes nothing.
use Rattle.figure.specs.declared.Record.{Record}

-- "a record of eight zero bytes"
abbrev pub no_record : Record
no_record = record { kind = 0; engine = record { 0 = 0 }; origin = record { 0 = 0 }; address = record { 0 = 0 }; «data» = 0 }
