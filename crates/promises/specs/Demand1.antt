-- Demand 1. "Every call answers for every list, record, table or state, and ends. No caller has tested anything. A refusal gives its number; the state and all lent buffers stay as they came." Assumes nothing.
use Rattle.std.specs.Prelude.{◌≡◌}
use contract.Lifetimes.{Lfts}
use Rattle.figure.proofs as figure
use Rattle.history.proofs as history
use Rattle.lists.proofs as lists
use Rattle.report.proofs as report
use Rattle.store.proofs as store
use Rattle.demands.specs.Demand.{Untouched}
use Rattle.figure.specs.Record.{no_record}
use Rattle.lists.specs.Read.{refused_as, read_of}
use Rattle.lists.specs.Walk.{NoneLeft}
use Rattle.lists.specs.Write.{Unwritten}
use Rattle.shape.specs.Fresh.{zeros}
use Rattle.promises.specs.Calls.{EveryFresh, EveryStep, EveryOnce, EveryStepInPlace, EveryTurns, EveryRead, EveryWrite, EveryNext, EveryRun}

-- "answers .. and ends": its code meets its contract, at every model of the machine. "No caller has tested anything": its contract asks nothing
pub record Answers (statement : Type 1 → Type 2) (asked : Type 0) : Type 2 where
  pub meets : {M : Type 1} → statement M
  pub asks_nothing : asked

pub record Demand1 : Type 2 where
  -- figure
  pub no_record_answers : Answers figure.no_record.Statement.statement ((κs : Lfts 0) (a : _) → figure.no_record.Reads.Asked κs a)
  pub least_answers : Answers figure.least.Statement.statement ((κs : Lfts 0) (a : _) → figure.least.Reads.Asked κs a)
  pub is_outside_answers : Answers figure.is_outside.Statement.statement ((κs : Lfts 0) (a : _) → figure.is_outside.Reads.Asked κs a)
  pub judge_sizes_answers : Answers figure.judge_sizes.Statement.statement ((κs : Lfts 0) (a : _) → figure.judge_sizes.Reads.Asked κs a)
  pub kind_code_answers : Answers figure.kind.Kind.code.Statement.statement ((κs : Lfts 0) (a : _) → figure.kind.Kind.code.Reads.Asked κs a)
  pub kind_of_answers : Answers figure.kind.KindTryFromU8.try_from.Statement.statement ((κs : Lfts 0) (a : _) → figure.kind.KindTryFromU8.try_from.Reads.Asked κs a)
  pub uses_address_answers : Answers figure.kind.Kind.uses_address.Statement.statement ((κs : Lfts 0) (a : _) → figure.kind.Kind.uses_address.Reads.Asked κs a)
  pub uses_data_answers : Answers figure.kind.Kind.uses_data.Statement.statement ((κs : Lfts 0) (a : _) → figure.kind.Kind.uses_data.Reads.Asked κs a)
  pub is_kind_answers : Answers figure.Record.is.Statement.statement ((κs : Lfts 0) (a : _) → figure.Record.is.Reads.Asked κs a)
  pub is_refusal_answers : Answers figure.Record.is_refusal.Statement.statement ((κs : Lfts 0) (a : _) → figure.Record.is_refusal.Reads.Asked κs a)
  pub engine_place_answers : Answers figure.Engine.place.Statement.statement ((κs : Lfts 0) (a : _) → figure.Engine.place.Reads.Asked κs a)
  pub refusal_number_answers : Answers figure.refused.Refused.number.Statement.statement ((κs : Lfts 0) (a : _) → figure.refused.Refused.number.Reads.Asked κs a)
  pub none_entered_answers : Answers figure.ledger.none_entered.Statement.statement ((κs : Lfts 0) (a : _) → figure.ledger.none_entered.Reads.Asked κs a)
  pub is_engine_answers : Answers figure.ledger.is_engine.Statement.statement ((κs : Lfts 0) (a : _) → figure.ledger.is_engine.Reads.Asked κs a)
  pub entered_answers : Answers figure.ledger.entered.Statement.statement ((κs : Lfts 0) (a : _) → figure.ledger.entered.Reads.Asked κs a)
  -- lists
  pub get_u32_answers : Answers lists.bytes.get_u32.Statement.statement ((κs : Lfts 1) (a : _) → lists.bytes.get_u32.Reads.Asked κs a)
  pub record_at_answers : Answers lists.bytes.record_at.Statement.statement ((κs : Lfts 1) (a : _) → lists.bytes.record_at.Reads.Asked κs a)
  pub put_u32_answers : Answers lists.bytes.put_u32.Statement.statement ((κs : Lfts 1) (a : _) → lists.bytes.put_u32.Reads.Asked κs a)
  pub put_record_answers : Answers lists.bytes.put_record.Statement.statement ((κs : Lfts 1) (a : _) → lists.bytes.put_record.Reads.Asked κs a)
  pub line_at_answers : Answers lists.line.line_at.Statement.statement ((κs : Lfts 1) (a : _) → lists.line.line_at.Reads.Asked κs a)
  pub put_line_answers : Answers lists.line.put_line.Statement.statement ((κs : Lfts 1) (a : _) → lists.line.put_line.Reads.Asked κs a)
  pub read_answers : Answers lists.reader.read.Statement.statement ((κs : Lfts 1) (a : _) → lists.reader.read.Reads.Asked κs a)
  pub memory_of_answers : Answers lists.memory.memory_of.Statement.statement ((κs : Lfts 1) (a : _) → lists.memory.memory_of.Reads.Asked κs a)
  pub write_answers : Answers lists.writer.write.Statement.statement ((κs : Lfts 3) (a : _) → lists.writer.write.Reads.Asked κs a)
  pub action_at_answers : Answers lists.walker.action_at.Statement.statement ((κs : Lfts 1) (a : _) → lists.walker.action_at.Reads.Asked κs a)
  pub taken_at_answers : Answers lists.walker.taken_at.Statement.statement ((κs : Lfts 1) (a : _) → lists.walker.taken_at.Reads.Asked κs a)
  pub start_answers : Answers lists.walker.start.Statement.statement ((κs : Lfts 1) (a : _) → lists.walker.start.Reads.Asked κs a)
  pub next_answers : Answers lists.walker.WalkerIterator.next.Statement.statement ((κs : Lfts 2) (a : _) → lists.walker.WalkerIterator.next.Reads.Asked κs a)
  pub count_answers : Answers lists.walker.count.Statement.statement ((κs : Lfts 1) (a : _) → lists.walker.count.Reads.Asked κs a)
  -- store
  pub fresh_answers : Answers store.fresh.Statement.statement ((κs : Lfts 1) (a : _) → store.fresh.Reads.Asked κs a)
  pub sound_answers : Answers store.sound.Statement.statement ((κs : Lfts 0) (a : _) → store.sound.Reads.Asked κs a)
  pub step_answers : Answers store.step.Statement.statement ((κs : Lfts 0) (a : _) → store.step.Reads.Asked κs a)
  pub once_answers : Answers store.once.Statement.statement ((κs : Lfts 0) (a : _) → store.once.Reads.Asked κs a)
  pub in_place_answers : Answers store.step_in_place.Statement.statement ((κs : Lfts 1) (a : _) → store.step_in_place.Reads.Asked κs a)
  pub turns_answers : Answers store.turns_from_fresh.Statement.statement ((κs : Lfts 3) (a : _) → store.turns_from_fresh.Reads.Asked κs a)
  -- history
  pub run_answers : Answers history.run.Statement.statement ((κs : Lfts 3) (a : _) → history.run.Reads.Asked κs a)
  -- report
  pub numbered_answers : Answers report.numbered.Statement.statement ((κs : Lfts 0) (a : _) → report.numbered.Reads.Asked κs a)
  pub account_text_answers : Answers report.account_text.Statement.statement ((κs : Lfts 2) (a : _) → report.account_text.Reads.Asked κs a)
  pub trace_text_answers : Answers report.trace_text.Statement.statement ((κs : Lfts 1) (a : _) → report.trace_text.Reads.Asked κs a)
  pub show_text_answers : Answers report.show_text.Statement.statement ((κs : Lfts 4) (a : _) → report.show_text.Reads.Asked κs a)
  -- "A refusal gives its number" is demand 2's; "the state and all lent buffers stay as they came":
  -- "A refused fresh store comes back as a state of zeros"
  pub fresh_zeros : EveryFresh (λ z table r. ¬ (r.number ≡ 0) → r.store ≡ zeros)
  -- "A refused step answers with its number, the state it was given, and a record of eight zero bytes."
  pub step_stays : EveryStep (λ s x r. ¬ (r.number ≡ 0) → (r.store ≡ s) × (r.event ≡ no_record))
  pub once_stays : EveryOnce (λ s x r. ¬ (r.number ≡ 0) → (r.store ≡ s) × (r.event ≡ no_record))
  pub in_place_stays : EveryStepInPlace (λ s x r s'. ¬ (r.number ≡ 0) → (s' ≡ s) × (r.event ≡ no_record))
  pub turns_stay : EveryTurns (λ z table actions trace r trace'. ¬ (r ≡ 0) → trace' ≡ trace)
  -- "all 0 on a refusal"
  pub read_zeros : EveryRead (λ list r. ¬ (r.number ≡ 0) → r ≡ refused_as r.number)
  -- "answers with the list's length, 0 on a refusal"
  pub write_stays : EveryWrite (λ z memory actions out r out'. ¬ (r.number ≡ 0) → Unwritten out r out')
  -- "over bytes the reader refuses it has none"
  pub next_none : EveryNext (λ w r w'. ¬ ((read_of w.list.now).number ≡ 0) → NoneLeft w r w')
  -- "A refused run has all counts 0, and both buffers are untouched."
  pub run_stays : EveryRun (λ list trace account r trace' account'. ¬ (r.number ≡ 0) → Untouched r trace account trace' account')
