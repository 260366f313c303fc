-- Demand 2. "On a sound store a well-formed step is accepted exactly when Figure 2 allows it and the queues it adds to have room; next state and value are the figure's. Every other call refuses exactly when
-- the rules give a number, the first in their order, and the run takes each action in turn as that step does. Lists round-trip, both ways, to the byte." Assumes nothing.
use Rattle.std.specs.Prelude.{◌≡◌, true, Result, List, [], ◌∷◌, ◌++◌, ℕ, suc, ◌≤◌, ◌*◌, length, take}
use contract.Lifetimes.{Lfts}
use Rattle.std.specs.Borrow.{Array, u8, RattleType}
use denote.Laws.{Is}
use mir.Val.{Val}
use Rattle.shape.specs.contracts as shape
use Rattle.store.proofs as store
use Rattle.demands.specs.Run.{run_sizes, run_action, run_refused}
use Rattle.figure.specs.Refusals.{Refusal, first_of, NoneApplies, numbered}
use Rattle.figure.specs.declared.Record.{Record}
use Rattle.figure.specs.declared.refused.Refused.{Refused}
use Rattle.lists.specs.Bytes.{rows, laid}
use Rattle.lists.specs.Read.{read_refused, read_of, memory_of, action_bytes_of, memory_table}
use Rattle.lists.specs.Record.{record_width, record_bytes}
use Rattle.lists.specs.Write.{write_refused, ListHolds, Rewritten}
use Rattle.shape.specs.Demand.{Steps}
use Rattle.shape.specs.Fresh.{fresh_refused}
use Rattle.shape.specs.Sound.{sound_of}
use Rattle.shape.specs.Step.{Stepped, stepped_by, form_refused, step_refused}
use Rattle.shape.specs.Trace.{traced}
use Rattle.shape.specs.Turns.{action_at, turns_of}
use Rattle.shape.specs.declared.Answer.{Answer}
use Rattle.shape.specs.declared.Store.{Store}
use Rattle.promises.specs.Calls.{EveryFresh, EverySound, EveryStep, EveryOnce, EveryStepInPlace, EveryTurns, EveryRead, EveryMemoryOf, EveryWrite, EveryRun}

-- a value of a Rattle type: some machine value is this value of the type. What is passed always is one
abbrev pub Value : (R : RattleType) → R.Denot → Type 0
Value R x = (vs : List Val) × Is R x vs

-- "On a sound store a well-formed step"
pub record OnSound (s : Store) (x : Record) : Type 0 where
  pub value : Value shape.Store.the_row s
  pub sound : sound_of s ≡ true
  pub formed : first_of (form_refused s.sizes x) ≡ 0

-- "refuses exactly when the rules give a number, the first in their order"; "0 if none does"
pub record Judged (rules : List Refusal) (n : ℕ) : Type 0 where
  pub first : n ≡ first_of rules
  pub none : n ≡ 0 → NoneApplies rules
  pub zero : NoneApplies rules → n ≡ 0
  -- request [10], "Numbers are not used again.": none of the rules' numbers is retired, or 0
  pub numbers : numbered rules ≡ true

-- what the step in place answers and leaves, as one
abbrev pub together : Answer → Store → Stepped
together r s = record { number = r.number; store = s; event = r.event }

-- steps by the call, one after another: after the first k actions of x, from s, the store is t, and the trace es
pub data Chain (s : Store) (x : ℕ → Record) : ℕ → Store → List Record → Type 0 where
  start : Chain s x 0 s []
  after : {k : ℕ} {t : Store} {es : List Record} → Chain s x k t es → (κs : Lfts 0) (r : Store × Result Record Refused) (e : _) → store.step.Reads.Post κs (t, (x k, tt)) r e → Chain s x (suc k) (stepped_by r).store (es ++ (traced (stepped_by r) ∷ []))

pub record Demand2 : Type 0 where
  -- "On a sound store a well-formed step ..", by value and in place
  pub steps : EveryStep (λ s x r. OnSound s x → Steps s x r)
  pub onces : EveryOnce (λ s x r. OnSound s x → Steps s x r)
  pub steps_in_place : EveryStepInPlace (λ s x r s'. OnSound s x → Steps s x (together r s'))
  -- "Every other call refuses exactly when the rules give a number, the first in their order": 17, 11 to 28
  pub step_judges : EveryStep (λ s x r. Judged (step_refused s x) r.number)
  pub in_place_judges : EveryStepInPlace (λ s x r s'. Judged (step_refused s x) r.number)
  pub sound_judges : EverySound (λ s r. r ≡ sound_of s)
  -- 4, 5, 6, 10
  pub fresh_judges : EveryFresh (λ z table r. Judged (fresh_refused z table) r.number)
  pub turns_judges : EveryTurns (λ z table actions trace r trace'. Judged (fresh_refused z table) r)
  -- 1 to 9
  pub read_judges : EveryRead (λ list r. Judged (read_refused list) r.number)
  -- 4, 5, 6, 10, 8, 9, 30
  pub write_judges : EveryWrite (λ z memory actions out r out'. Judged (write_refused z memory actions (length out)) r.number)
  -- 1 to 9, 29, 30
  pub run_judges : EveryRun (λ list trace account r trace' account'. Judged (run_refused list (length trace) (length account)) r.number)
  -- "and the run takes each action in turn as that step does"
  pub in_turn : EveryRun (λ list trace account r trace' account'.
      EveryFresh (λ z table m.
      r.number ≡ 0 → z ≡ run_sizes list → table ≡ memory_of list → (t : Store) (es : List Record) → Chain m.store (run_action list) (read_of list).actions t es
      → take (record_width * (read_of list).actions) trace' ≡ rows record_bytes es))
  -- and so do many turns from a fresh store, as many as there are whole records of actions and room for in the trace
  pub turns_in_turn : EveryTurns (λ z table actions trace r trace'.
      EveryFresh (λ z₂ table₂ m.
      r ≡ 0 → z₂ ≡ z → table₂ ≡ table → (t : Store) (es : List Record) → Chain m.store (action_at actions) (turns_of actions trace) t es
      → trace' ≡ laid (rows record_bytes es) trace))
  -- "Lists round-trip, both ways, to the byte.": what is written is read back the same ..
  pub written_reads_back : EveryWrite (λ z memory actions out r out'. r.number ≡ 0 → ListHolds (take r.length out') z memory actions)
  pub read_is : EveryRead (λ list r. r ≡ read_of list)
  pub memory_is : EveryMemoryOf (λ list r. r ≡ memory_table list)
  -- .. and what is read, written again, has the same bytes
  pub read_writes_back : EveryRead (λ list l. EveryWrite (λ z memory actions out r out'.
      l.number ≡ 0 → Value (Array u8 (length list)) list → z ≡ l.sizes → memory ≡ memory_of list → actions ≡ action_bytes_of list → length list ≤ length out → Rewritten list out r out'))
