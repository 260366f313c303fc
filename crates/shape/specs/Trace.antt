-- What a step leaves in a trace. Assumes nothing.
use Rattle.std.specs.Prelude.{ℕ, zero, suc}
use Rattle.figure.specs.declared.Record.{Record}
use Rattle.shape.specs.Step.{Stepped}

-- "Its trace record is kind 0, the refusal number in the engine byte, then zeros."
abbrev pub refusal_record : ℕ → Record
refusal_record n = record { kind = 0; engine = record { 0 = n }; origin = record { 0 = 0 }; address = record { 0 = 0 }; «data» = 0 }

abbrev pub traced_as : ℕ → Record → Record
traced_as zero e = e
traced_as (suc n) e = refusal_record (suc n)

-- what a step leaves in the trace
abbrev pub traced : Stepped → Record
traced t = traced_as t.number t.event
