-- The refusals by number: "Where an answer is an enum, a definition gives this paper's number and values for each of its cases." Assumes nothing.
use Rattle.std.specs.Prelude.{ℕ, Result, Ok, Err}
use Rattle.figure.specs.declared.refused.Refused.{Refused}
use Rattle.figure.specs.declared.refused.Refused.TheVariants as R

abbrev pub number_of : Refused → ℕ
-- "Reader, in this order: 1 fewer than 8 bytes; 2 length field differs from total minus 4; 3 version; 4 engines; 5 addresses; 6 depth; 7 less than 4m bytes after the first 8; 8 the rest no multiple of 8; 9 more than 2,048 actions."
number_of R.TooShort = 1
number_of R.LengthField = 2
number_of R.Version = 3
number_of R.Engines = 4
number_of R.Addresses = 5
number_of R.Depth = 6
number_of R.MemoryCut = 7
number_of R.ActionCut = 8
number_of R.TooManyActions = 9
-- "then 10, the memory table has not m entries"
number_of R.TableLength = 10
-- of any step: "kind not 1 to 6", "engine not 1 to the engine count", "address not below m", "a field that the kind holds at 0 is not 0", and first of all 17, "state unsound"
number_of R.Kind = 11
number_of R.Engine = 12
number_of R.Address = 13
number_of R.UnusedField = 14
number_of R.Unsound = 17
-- of one kind: "R: out queue not empty", "R: own entry waits in the in queue", "R: address not in cache", "W: out queue full", "MW: out queue empty", "MW: some in queue full", "MR: in queue full", "CU: in queue empty"
number_of R.OutWaiting = 21
number_of R.OwnWaiting = 22
number_of R.NotCached = 23
number_of R.OutFull = 24
number_of R.OutEmpty = 25
number_of R.SomeInFull = 26
number_of R.InFull = 27
number_of R.InEmpty = 28
-- "then 29, trace buffer shorter than 8 bytes an action; 30, account buffer shorter than 12 bytes an account event (for the writer: output shorter than the list)"
number_of R.TraceShort = 29
number_of R.OutputShort = 30

-- "0 if none does"
abbrev pub number_in : {A : Type 0} → Result A Refused → ℕ
number_in (Ok a) = 0
number_in (Err e) = number_of e
