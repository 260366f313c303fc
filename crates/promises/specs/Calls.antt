-- The public calls, each by its contract as the checker reads it: `Post` holds of what goes in, what is answered and what the lent parts are at the end.
-- `EveryStep P` says that whatever the contract of `store::step` allows has P; the arguments of P are the plain values, in the call's own order: what goes in, the answer, the lent parts at the end.
-- Where a call answers a Result, the definition that gives the rules' number and values for each of its cases stands between (`made_by`, `stepped_by`, `answer_by`, `reading`, `written`, `answered_by`, `number_in`).
-- Assumes nothing.
use Rattle.std.specs.Prelude.{List, Bool, ℕ, Option, Result}
use contract.Lifetimes.{Lfts}
use Rattle.std.specs.Borrow.{Bor}
use Rattle.history.proofs as history
use Rattle.lists.proofs as lists
use Rattle.report.proofs as report
use Rattle.store.proofs as store
use Rattle.demands.specs.declared.Counts.{Counts}
use Rattle.demands.specs.Run.{Answered, answered_by}
use Rattle.figure.specs.Refused.{number_in}
use Rattle.figure.specs.declared.Record.{Record}
use Rattle.figure.specs.declared.refused.Refused.{Refused}
use Rattle.figure.specs.declared.Sizes.{Sizes}
use Rattle.lists.specs.Read.{Reading, reading}
use Rattle.lists.specs.Write.{Written, written}
use Rattle.lists.specs.declared.reader.Layout.{Layout}
use Rattle.lists.specs.declared.walker.Walker.{Walker}
use Rattle.shape.specs.Fresh.{Made, made_by}
use Rattle.shape.specs.Step.{Stepped, stepped_by, answer_by}
use Rattle.shape.specs.declared.Answer.{Answer}
use Rattle.shape.specs.declared.Store.{Store}

-- ---- the store: sizes and a table in, a store and a number out; a store, and whether it is sound; a store and an action in

abbrev pub EveryFresh : (Sizes → List ℕ → Made → Type 0) → Type 0
EveryFresh P = (κs : Lfts 1) (a : _) (r : Result Store Refused) (e : _) → store.fresh.Reads.Post κs a r e → P a.0 a.1.0.now (made_by r)

abbrev pub EverySound : (Store → Bool → Type 0) → Type 0
EverySound P = (κs : Lfts 0) (a : _) (r : Bool) (e : _) → store.sound.Reads.Post κs a r e → P a.0 r

abbrev pub EveryStep : (Store → Record → Stepped → Type 0) → Type 0
EveryStep P = (κs : Lfts 0) (a : _) (r : Store × Result Record Refused) (e : _) → store.step.Reads.Post κs a r e → P a.0 a.1.0 (stepped_by r)

abbrev pub EveryOnce : (Store → Record → Stepped → Type 0) → Type 0
EveryOnce P = (κs : Lfts 0) (a : _) (r : Store × Result Record Refused) (e : _) → store.once.Reads.Post κs a r e → P a.0 a.1.0 (stepped_by r)

-- the store is lent, and altered where it stands
abbrev pub EveryStepInPlace : (Store → Record → Answer → Store → Type 0) → Type 0
EveryStepInPlace P = (κs : Lfts 1) (a : _) (r : Result Record Refused) (e : _) → store.step_in_place.Reads.Post κs a r e → P a.0.now a.1.0 (answer_by r) e.0.now

-- sizes, a table and actions in, the trace is lent
abbrev pub EveryTurns : (Sizes → List ℕ → List ℕ → List ℕ → ℕ → List ℕ → Type 0) → Type 0
EveryTurns P = (κs : Lfts 3) (a : _) (r : Result (Unit {0}) Refused) (e : _) → store.turns_from_fresh.Reads.Post κs a r e → P a.0 a.1.0.now a.1.1.0.now a.1.1.1.0.now (number_in r) e.1.1.1.0.now

-- ---- lists: bytes in; sizes, memory and actions in, the output is lent; the walker

abbrev pub EveryRead : (List ℕ → Reading → Type 0) → Type 0
EveryRead P = (κs : Lfts 1) (a : _) (r : Result Layout Refused) (e : _) → lists.reader.read.Reads.Post κs a r e → P a.0.now (reading r)

abbrev pub EveryMemoryOf : (List ℕ → List ℕ → Type 0) → Type 0
EveryMemoryOf P = (κs : Lfts 1) (a : _) (r : List ℕ) (e : _) → lists.memory.memory_of.Reads.Post κs a r e → P a.0.now r

abbrev pub EveryWrite : (Sizes → List ℕ → List ℕ → List ℕ → Written → List ℕ → Type 0) → Type 0
EveryWrite P = (κs : Lfts 3) (a : _) (r : Result ℕ Refused) (e : _) → lists.writer.write.Reads.Post κs a r e → P a.0 a.1.0.now a.1.1.0.now a.1.1.1.0.now (written r) e.1.1.1.0.now

abbrev pub EveryStart : (Bor (List ℕ) → Walker → Type 0) → Type 0
EveryStart P = (κs : Lfts 1) (a : _) (r : Walker) (e : _) → lists.walker.start.Reads.Post κs a r e → P a.0 r

abbrev pub EveryNext : (Walker → Option Record → Walker → Type 0) → Type 0
EveryNext P = (κs : Lfts 2) (a : _) (r : Option Record) (e : _) → lists.walker.WalkerIterator.next.Reads.Post κs a r e → P a.0.now r e.0.now

abbrev pub EveryCount : (List ℕ → ℕ → Type 0) → Type 0
EveryCount P = (κs : Lfts 1) (a : _) (r : ℕ) (e : _) → lists.walker.count.Reads.Post κs a r e → P a.0.now r

-- ---- the run: a list in, trace and account are lent

abbrev pub EveryRun : (List ℕ → List ℕ → List ℕ → Answered → List ℕ → List ℕ → Type 0) → Type 0
EveryRun P = (κs : Lfts 3) (a : _) (r : Result Counts Refused) (e : _) → history.run.Reads.Post κs a r e → P a.0.now a.1.0.now a.1.1.0.now (answered_by r) e.1.0.now e.1.1.0.now

-- ---- what is handed on of a run's answer

abbrev pub EveryNumbered : (Answered → Result Counts ℕ → Type 0) → Type 0
EveryNumbered P = (κs : Lfts 0) (a : _) (r : Result Counts ℕ) (e : _) → report.numbered.Reads.Post κs a r e → P (answered_by a.0) r

-- ---- what people read: counts and account (a hash; a list, counts, trace and account) in, the output is lent, the text's length out

abbrev pub EveryAccountText : (Result Counts ℕ → List ℕ → List ℕ → ℕ → List ℕ → Type 0) → Type 0
EveryAccountText P = (κs : Lfts 2) (a : _) (r : ℕ) (e : _) → report.account_text.Reads.Post κs a r e → P a.0 a.1.0.now a.1.1.0.now r e.1.1.0.now

abbrev pub EveryTraceText : (ℕ → List ℕ → ℕ → List ℕ → Type 0) → Type 0
EveryTraceText P = (κs : Lfts 1) (a : _) (r : ℕ) (e : _) → report.trace_text.Reads.Post κs a r e → P a.0 a.1.0.now r e.1.0.now

abbrev pub EveryShowText : (List ℕ → Result Counts ℕ → List ℕ → List ℕ → List ℕ → ℕ → List ℕ → Type 0) → Type 0
EveryShowText P = (κs : Lfts 4) (a : _) (r : ℕ) (e : _) → report.show_text.Reads.Post κs a r e → P a.0.now a.1.0 a.1.1.0.now a.1.1.1.0.now a.1.1.1.1.0.now r e.1.1.1.1.0.now
