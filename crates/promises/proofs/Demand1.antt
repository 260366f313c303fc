-- Demand 1 holds of the calls. Assumes nothing.
use mathlib.Core.Path.{◌≡◌, ap, ◌∙◌}
use native.Mathlib.Omega.{arith}
use Rattle.figure.proofs as figure
use Rattle.history.proofs as history
use Rattle.lists.proofs as lists
use Rattle.report.proofs as report
use Rattle.store.proofs as store
use Rattle.demands.proofs.Demands.{refused-run}
use Rattle.figure.specs.Record.{no_record}
use Rattle.figure.specs.declared.Record.{Record}
use Rattle.lists.proofs.Walks.{past_the_end, refused_none}
use Rattle.lists.proofs.Wrote.{refused-write}
use Rattle.lists.proofs.Sized.{read-refused}
use Rattle.lists.specs.Read.{reading}
use Rattle.shape.proofs.Kept.{refused-keeps}
use Rattle.shape.proofs.Numbers.{made-zeros}
use Rattle.shape.proofs.Trails.{refused-turns}
use Rattle.shape.specs.Fresh.{Made}
use Rattle.shape.specs.Step.{Stepped, stepped, stepped_by}
use Rattle.shape.specs.declared.Store.{Store}
use Rattle.promises.specs.Demand1.{Demand1}

stays : (s : Store) (x : Record) (t : Stepped) → t ≡ stepped s x → ¬ (t.number ≡ 0) → (t.store ≡ s) × (t.event ≡ no_record)
stays s x t e n = let k = refused-keeps s x (λ z. n (ap (λ (u : Stepped). u.number) e ∙ z)) in (ap (λ (u : Stepped). u.store) e ∙ k.0, ap (λ (u : Stepped). u.event) e ∙ k.1)

pub demand-1 : Demand1
demand-1 =
    record {
      no_record_answers = record { meets = figure.no_record.Met.met; asks_nothing = λ κs a. tt };
      least_answers = record { meets = figure.least.Met.met; asks_nothing = λ κs a. tt };
      is_outside_answers = record { meets = figure.is_outside.Met.met; asks_nothing = λ κs a. tt };
      judge_sizes_answers = record { meets = figure.judge_sizes.Met.met; asks_nothing = λ κs a. tt };
      kind_code_answers = record { meets = figure.kind.Kind.code.Met.met; asks_nothing = λ κs a. tt };
      kind_of_answers = record { meets = figure.kind.KindTryFromU8.try_from.Met.met; asks_nothing = λ κs a. tt };
      uses_address_answers = record { meets = figure.kind.Kind.uses_address.Met.met; asks_nothing = λ κs a. tt };
      uses_data_answers = record { meets = figure.kind.Kind.uses_data.Met.met; asks_nothing = λ κs a. tt };
      is_kind_answers = record { meets = figure.Record.is.Met.met; asks_nothing = λ κs a. tt };
      is_refusal_answers = record { meets = figure.Record.is_refusal.Met.met; asks_nothing = λ κs a. tt };
      engine_place_answers = record { meets = figure.Engine.place.Met.met; asks_nothing = λ κs a. tt };
      refusal_number_answers = record { meets = figure.refused.Refused.number.Met.met; asks_nothing = λ κs a. tt };
      none_entered_answers = record { meets = figure.ledger.none_entered.Met.met; asks_nothing = λ κs a. tt };
      is_engine_answers = record { meets = figure.ledger.is_engine.Met.met; asks_nothing = λ κs a. tt };
      entered_answers = record { meets = figure.ledger.entered.Met.met; asks_nothing = λ κs a. tt };
      get_u32_answers = record { meets = lists.bytes.get_u32.Met.met; asks_nothing = λ κs a. tt };
      record_at_answers = record { meets = lists.bytes.record_at.Met.met; asks_nothing = λ κs a. tt };
      put_u32_answers = record { meets = lists.bytes.put_u32.Met.met; asks_nothing = λ κs a. tt };
      put_record_answers = record { meets = lists.bytes.put_record.Met.met; asks_nothing = λ κs a. tt };
      line_at_answers = record { meets = lists.line.line_at.Met.met; asks_nothing = λ κs a. tt };
      put_line_answers = record { meets = lists.line.put_line.Met.met; asks_nothing = λ κs a. tt };
      read_answers = record { meets = lists.reader.read.Met.met; asks_nothing = λ κs a. tt };
      memory_of_answers = record { meets = lists.memory.memory_of.Met.met; asks_nothing = λ κs a. tt };
      write_answers = record { meets = lists.writer.write.Met.met; asks_nothing = λ κs a. tt };
      action_at_answers = record { meets = lists.walker.action_at.Met.met; asks_nothing = λ κs a. tt };
      taken_at_answers = record { meets = lists.walker.taken_at.Met.met; asks_nothing = λ κs a. tt };
      start_answers = record { meets = lists.walker.start.Met.met; asks_nothing = λ κs a. tt };
      next_answers = record { meets = lists.walker.WalkerIterator.next.Met.met; asks_nothing = λ κs a. tt };
      count_answers = record { meets = lists.walker.count.Met.met; asks_nothing = λ κs a. tt };
      fresh_answers = record { meets = store.fresh.Met.met; asks_nothing = λ κs a. tt };
      sound_answers = record { meets = store.sound.Met.met; asks_nothing = λ κs a. tt };
      step_answers = record { meets = store.step.Met.met; asks_nothing = λ κs a. tt };
      once_answers = record { meets = store.once.Met.met; asks_nothing = λ κs a. tt };
      in_place_answers = record { meets = store.step_in_place.Met.met; asks_nothing = λ κs a. tt };
      turns_answers = record { meets = store.turns_from_fresh.Met.met; asks_nothing = λ κs a. tt };
      run_answers = record { meets = history.run.Met.met; asks_nothing = λ κs a. tt };
      numbered_answers = record { meets = report.numbered.Met.met; asks_nothing = λ κs a. tt };
      account_text_answers = record { meets = report.account_text.Met.met; asks_nothing = λ κs a. tt };
      trace_text_answers = record { meets = report.trace_text.Met.met; asks_nothing = λ κs a. tt };
      show_text_answers = record { meets = report.show_text.Met.met; asks_nothing = λ κs a. tt };
      fresh_zeros = λ κs a r e h n. ap (λ (m : Made). m.store) h ∙ made-zeros a.0 a.1.0.now (λ z. n (ap (λ (m : Made). m.number) h ∙ z));
      step_stays = λ κs a r e h. stays a.0 a.1.0 (stepped_by r) h;
      once_stays = λ κs a r e h. stays a.0 a.1.0 (stepped_by r) h;
      in_place_stays = λ κs a r e h n. let k = refused-keeps a.0.now a.1.0 (λ z. n (rw h.1 z)) in (h.0 ∙ k.0, rw h.1 k.1);
      turns_stay = λ κs a r e h. refused-turns h;
      read_zeros = λ κs a r e h n. read-refused a.0.now (reading r) h n;
      write_stays = λ κs a r e h. refused-write h;
      next_none = λ κs a r e h n. past_the_end h.0 (rw (refused_none a.0.now.list.now n) (omega arith));
      run_stays = λ κs a r e h. refused-run h;
    }
