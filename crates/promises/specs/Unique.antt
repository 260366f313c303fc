-- "The team proves that two results allowed by a contract are equal": one line for each public call of figure, lists, store, history and report, about its contract as the checker reads it. Assumes nothing.
use Rattle.std.specs.Prelude.{◌≡◌, Bool, List, ℕ, Option, Result}
use contract.Lifetimes.{Lfts}
use Rattle.figure.proofs as figure
use Rattle.history.proofs as history
use Rattle.lists.proofs as lists
use Rattle.report.proofs as report
use Rattle.store.proofs as store
use Rattle.demands.specs.declared.Counts.{Counts}
use Rattle.figure.specs.declared.kind.Kind.{Kind}
use Rattle.figure.specs.declared.refused.Refused.{Refused}
use Rattle.figure.specs.declared.Record.{Record}
use Rattle.figure.specs.declared.ledger.Ledger.{Ledger}
use Rattle.lists.specs.declared.line.Line.{Line}
use Rattle.lists.specs.declared.reader.Layout.{Layout}
use Rattle.lists.specs.declared.walker.Taken.{Taken}
use Rattle.lists.specs.declared.walker.Walker.{Walker}
use Rattle.shape.specs.declared.Store.{Store}

pub record Unique : Type 0 where
  -- figure
  pub no_record_one : (κs : Lfts 0) (a : _) (r r' : Record) (e e' : _) → figure.no_record.Reads.Post κs a r e → figure.no_record.Reads.Post κs a r' e' → r ≡ r'
  pub least_one : (κs : Lfts 0) (a : _) (r r' : ℕ) (e e' : _) → figure.least.Reads.Post κs a r e → figure.least.Reads.Post κs a r' e' → r ≡ r'
  pub is_outside_one : (κs : Lfts 0) (a : _) (r r' : Bool) (e e' : _) → figure.is_outside.Reads.Post κs a r e → figure.is_outside.Reads.Post κs a r' e' → r ≡ r'
  pub judge_sizes_one : (κs : Lfts 0) (a : _) (r r' : Result (Unit {0}) Refused) (e e' : _) → figure.judge_sizes.Reads.Post κs a r e → figure.judge_sizes.Reads.Post κs a r' e' → r ≡ r'
  pub kind_code_one : (κs : Lfts 0) (a : _) (r r' : ℕ) (e e' : _) → figure.kind.Kind.code.Reads.Post κs a r e → figure.kind.Kind.code.Reads.Post κs a r' e' → r ≡ r'
  pub kind_of_one : (κs : Lfts 0) (a : _) (r r' : Result Kind Refused) (e e' : _) → figure.kind.KindTryFromU8.try_from.Reads.Post κs a r e → figure.kind.KindTryFromU8.try_from.Reads.Post κs a r' e' → r ≡ r'
  pub uses_address_one : (κs : Lfts 0) (a : _) (r r' : Bool) (e e' : _) → figure.kind.Kind.uses_address.Reads.Post κs a r e → figure.kind.Kind.uses_address.Reads.Post κs a r' e' → r ≡ r'
  pub uses_data_one : (κs : Lfts 0) (a : _) (r r' : Bool) (e e' : _) → figure.kind.Kind.uses_data.Reads.Post κs a r e → figure.kind.Kind.uses_data.Reads.Post κs a r' e' → r ≡ r'
  pub is_kind_one : (κs : Lfts 0) (a : _) (r r' : Bool) (e e' : _) → figure.Record.is.Reads.Post κs a r e → figure.Record.is.Reads.Post κs a r' e' → r ≡ r'
  pub is_refusal_one : (κs : Lfts 0) (a : _) (r r' : Bool) (e e' : _) → figure.Record.is_refusal.Reads.Post κs a r e → figure.Record.is_refusal.Reads.Post κs a r' e' → r ≡ r'
  pub engine_place_one : (κs : Lfts 0) (a : _) (r r' : Option ℕ) (e e' : _) → figure.Engine.place.Reads.Post κs a r e → figure.Engine.place.Reads.Post κs a r' e' → r ≡ r'
  pub refusal_number_one : (κs : Lfts 0) (a : _) (r r' : ℕ) (e e' : _) → figure.refused.Refused.number.Reads.Post κs a r e → figure.refused.Refused.number.Reads.Post κs a r' e' → r ≡ r'
  pub none_entered_one : (κs : Lfts 0) (a : _) (r r' : Ledger) (e e' : _) → figure.ledger.none_entered.Reads.Post κs a r e → figure.ledger.none_entered.Reads.Post κs a r' e' → r ≡ r'
  pub is_engine_one : (κs : Lfts 0) (a : _) (r r' : Bool) (e e' : _) → figure.ledger.is_engine.Reads.Post κs a r e → figure.ledger.is_engine.Reads.Post κs a r' e' → r ≡ r'
  pub entered_one : (κs : Lfts 0) (a : _) (r r' : Ledger) (e e' : _) → figure.ledger.entered.Reads.Post κs a r e → figure.ledger.entered.Reads.Post κs a r' e' → r ≡ r'
  -- lists: the answer, and every lent byte
  pub get_u32_one : (κs : Lfts 1) (a : _) (r r' : ℕ) (e e' : _) → lists.bytes.get_u32.Reads.Post κs a r e → lists.bytes.get_u32.Reads.Post κs a r' e' → r ≡ r'
  pub record_at_one : (κs : Lfts 1) (a : _) (r r' : Record) (e e' : _) → lists.bytes.record_at.Reads.Post κs a r e → lists.bytes.record_at.Reads.Post κs a r' e' → r ≡ r'
  pub put_u32_one : (κs : Lfts 1) (a : _) (r r' : _) (e e' : _) → lists.bytes.put_u32.Reads.Post κs a r e → lists.bytes.put_u32.Reads.Post κs a r' e' → e.0.now ≡ e'.0.now
  pub put_record_one : (κs : Lfts 1) (a : _) (r r' : _) (e e' : _) → lists.bytes.put_record.Reads.Post κs a r e → lists.bytes.put_record.Reads.Post κs a r' e' → e.0.now ≡ e'.0.now
  pub line_at_one : (κs : Lfts 1) (a : _) (r r' : Line) (e e' : _) → lists.line.line_at.Reads.Post κs a r e → lists.line.line_at.Reads.Post κs a r' e' → r ≡ r'
  pub put_line_one : (κs : Lfts 1) (a : _) (r r' : _) (e e' : _) → lists.line.put_line.Reads.Post κs a r e → lists.line.put_line.Reads.Post κs a r' e' → e.0.now ≡ e'.0.now
  pub read_one : (κs : Lfts 1) (a : _) (r r' : Result Layout Refused) (e e' : _) → lists.reader.read.Reads.Post κs a r e → lists.reader.read.Reads.Post κs a r' e' → r ≡ r'
  pub memory_of_one : (κs : Lfts 1) (a : _) (r r' : List ℕ) (e e' : _) → lists.memory.memory_of.Reads.Post κs a r e → lists.memory.memory_of.Reads.Post κs a r' e' → r ≡ r'
  pub write_one : (κs : Lfts 3) (a : _) (r r' : Result ℕ Refused) (e e' : _) → lists.writer.write.Reads.Post κs a r e → lists.writer.write.Reads.Post κs a r' e' → (r ≡ r') × (e.1.1.1.0.now ≡ e'.1.1.1.0.now)
  pub action_at_one : (κs : Lfts 1) (a : _) (r r' : Option Record) (e e' : _) → lists.walker.action_at.Reads.Post κs a r e → lists.walker.action_at.Reads.Post κs a r' e' → r ≡ r'
  pub taken_at_one : (κs : Lfts 1) (a : _) (r r' : Taken) (e e' : _) → lists.walker.taken_at.Reads.Post κs a r e → lists.walker.taken_at.Reads.Post κs a r' e' → r ≡ r'
  pub start_one : (κs : Lfts 1) (a : _) (r r' : Walker) (e e' : _) → lists.walker.start.Reads.Post κs a r e → lists.walker.start.Reads.Post κs a r' e' → r ≡ r'
  pub next_one : (κs : Lfts 2) (a : _) (r r' : Option Record) (e e' : _) → lists.walker.WalkerIterator.next.Reads.Post κs a r e → lists.walker.WalkerIterator.next.Reads.Post κs a r' e' → (r ≡ r') × (e.0.now ≡ e'.0.now)
  pub count_one : (κs : Lfts 1) (a : _) (r r' : ℕ) (e e' : _) → lists.walker.count.Reads.Post κs a r e → lists.walker.count.Reads.Post κs a r' e' → r ≡ r'
  -- store: the answer, the lent store, every byte of the lent trace
  pub fresh_one : (κs : Lfts 1) (a : _) (r r' : Result Store Refused) (e e' : _) → store.fresh.Reads.Post κs a r e → store.fresh.Reads.Post κs a r' e' → r ≡ r'
  pub sound_one : (κs : Lfts 0) (a : _) (r r' : Bool) (e e' : _) → store.sound.Reads.Post κs a r e → store.sound.Reads.Post κs a r' e' → r ≡ r'
  pub step_one : (κs : Lfts 0) (a : _) (r r' : Store × Result Record Refused) (e e' : _) → store.step.Reads.Post κs a r e → store.step.Reads.Post κs a r' e' → r ≡ r'
  pub once_one : (κs : Lfts 0) (a : _) (r r' : Store × Result Record Refused) (e e' : _) → store.once.Reads.Post κs a r e → store.once.Reads.Post κs a r' e' → r ≡ r'
  pub in_place_one : (κs : Lfts 1) (a : _) (r r' : Result Record Refused) (e e' : _) → store.step_in_place.Reads.Post κs a r e → store.step_in_place.Reads.Post κs a r' e' → (r ≡ r') × (e.0.now ≡ e'.0.now)
  pub turns_one : (κs : Lfts 3) (a : _) (r r' : Result (Unit {0}) Refused) (e e' : _) → store.turns_from_fresh.Reads.Post κs a r e → store.turns_from_fresh.Reads.Post κs a r' e' → (r ≡ r') × (e.1.1.1.0.now ≡ e'.1.1.1.0.now)
  -- history: the counts, every byte of trace and account
  pub run_one : (κs : Lfts 3) (a : _) (r r' : Result Counts Refused) (e e' : _) → history.run.Reads.Post κs a r e → history.run.Reads.Post κs a r' e' → (r ≡ r') × ((e.1.0.now ≡ e'.1.0.now) × (e.1.1.0.now ≡ e'.1.1.0.now))
  -- report: what is handed on; the length, every byte of the output
  pub numbered_one : (κs : Lfts 0) (a : _) (r r' : Result Counts ℕ) (e e' : _) → report.numbered.Reads.Post κs a r e → report.numbered.Reads.Post κs a r' e' → r ≡ r'
  pub account_text_one : (κs : Lfts 2) (a : _) (r r' : ℕ) (e e' : _) → report.account_text.Reads.Post κs a r e → report.account_text.Reads.Post κs a r' e' → (r ≡ r') × (e.1.1.0.now ≡ e'.1.1.0.now)
  pub trace_text_one : (κs : Lfts 1) (a : _) (r r' : ℕ) (e e' : _) → report.trace_text.Reads.Post κs a r e → report.trace_text.Reads.Post κs a r' e' → (r ≡ r') × (e.1.0.now ≡ e'.1.0.now)
  pub show_text_one : (κs : Lfts 4) (a : _) (r r' : ℕ) (e e' : _) → report.show_text.Reads.Post κs a r e → report.show_text.Reads.Post κs a r' e' → (r ≡ r') × (e.1.1.1.1.0.now ≡ e'.1.1.1.1.0.now)
