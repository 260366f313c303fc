-- Two results that a contract allows are equal, of every public call. Assumes nothing.
use mathlib.Core.Path.{◌≡◌, refl, sym, ◌∙◌}
use Rattle.figure.specs.Refused.{number_in}
use Rattle.demands.proofs.Said.{same-answered}
use Rattle.figure.proofs.Numbers.{one-result, one-kind}
use Rattle.lists.proofs.Said.{same-reading, same-written}
use Rattle.lists.proofs.Walks.{handed-same, took-same}
use Rattle.report.proofs.Written.{wrote-unique}
use Rattle.shape.proofs.Said.{same-made, same-said, same-stepped}
use Rattle.promises.specs.Unique.{Unique}

-- two that are one and the same third
same : {A : Type 0} {x y z : A} → x ≡ z → y ≡ z → x ≡ y
same h k = h ∙ sym k

pub unique : Unique
unique =
    record {
      no_record_one = λ κs a r r' e e' h k. same h k;
      least_one = λ κs a r r' e e' h k. same h k;
      is_outside_one = λ κs a r r' e e' h k. same h k;
      judge_sizes_one = λ κs a r r' e e' h k. one-result number_in (λ n. n) (λ n. tt) (λ u. refl) (λ e. refl) (λ u. refl) r r' (same h k);
      kind_code_one = λ κs a r r' e e' h k. same h k;
      kind_of_one = λ κs a r r' e e' h k. one-kind a.0 r r' h k;
      uses_address_one = λ κs a r r' e e' h k. same h k;
      uses_data_one = λ κs a r r' e e' h k. same h k;
      is_kind_one = λ κs a r r' e e' h k. same h k;
      is_refusal_one = λ κs a r r' e e' h k. same h k;
      engine_place_one = λ κs a r r' e e' h k. same h k;
      refusal_number_one = λ κs a r r' e e' h k. same h k;
      none_entered_one = λ κs a r r' e e' h k. same h k;
      is_engine_one = λ κs a r r' e e' h k. same h k;
      entered_one = λ κs a r r' e e' h k. same h k;
      get_u32_one = λ κs a r r' e e' h k. same h k;
      record_at_one = λ κs a r r' e e' h k. same h k;
      put_u32_one = λ κs a r r' e e' h k. same h k;
      put_record_one = λ κs a r r' e e' h k. same h k;
      line_at_one = λ κs a r r' e e' h k. same h k;
      put_line_one = λ κs a r r' e e' h k. same h k;
      read_one = λ κs a r r' e e' h k. same-reading r r' (same h k);
      memory_of_one = λ κs a r r' e e' h k. same h k;
      write_one = λ κs a r r' e e' h k. (same-written r r' (λ i. record { number = same h.number_is k.number_is i; length = same h.length_is k.length_is i }), same h.out_is k.out_is);
      action_at_one = λ κs a r r' e e' h k. handed-same r r' (same h k);
      taken_at_one = λ κs a r r' e e' h k. let s = took-same h k in λ i. record { found = s.0 i; after = s.1 i };
      start_one = λ κs a r r' e e' h k. λ i. record { list = same h.0 k.0 i; place = same h.1 k.1 i };
      next_one = λ κs a r r' e e' h k. let s = took-same h.0.took k.0.took in (s.0, λ i. record { list = same h.0.list_is k.0.list_is i; place = s.1 i });
      count_one = λ κs a r r' e e' h k. same h k;
      fresh_one = λ κs a r r' e e' h k. same-made r r' (same h k);
      sound_one = λ κs a r r' e e' h k. same h k;
      step_one = λ κs a r r' e e' h k. same-stepped r r' (same h k);
      once_one = λ κs a r r' e e' h k. same-stepped r r' (same h k);
      in_place_one = λ κs a r r' e e' h k. (same-said r r' (same h.1 k.1), same h.0 k.0);
      turns_one = λ κs a r r' e e' h k. (one-result number_in (λ n. n) (λ n. tt) (λ u. refl) (λ e. refl) (λ u. refl) r r' (same h.number k.number), same h.trace_is k.trace_is);
      run_one = λ κs a r r' e e' h k. (same-answered r r' (same h.counts k.counts), (same h.trace_is k.trace_is, same h.account_is k.account_is));
      numbered_one = λ κs a r r' e e' h k. same h k;
      account_text_one = λ κs a r r' e e' h k. wrote-unique h.0 k.0;
      trace_text_one = λ κs a r r' e e' h k. wrote-unique h.0 k.0;
      show_text_one = λ κs a r r' e e' h k. wrote-unique h.0 k.0;
    }
