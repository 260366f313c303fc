-- B1 to B9, computed: trace, account and counts of each case's list. One lemma a case, so that a slip is refused by the case that it spoils. Assumes nothing.
use mathlib.Core.Path.{refl}
use Rattle.figure.specs.Refusals.{sizes_refused}
use Rattle.lists.specs.Bytes.{rows, u32_at}
use Rattle.lists.specs.Codec.{things_at}
use Rattle.lists.specs.Read.{read_of, read_refused, layout_of, memory_of, actions_of, list_bytes, body_of}
use Rattle.shape.specs.Case.{Every}
use Rattle.shape.specs.Cases.{B1, B2, B3, B4, B5, B6, B7, B8, B9, cases}
use Rattle.shape.specs.Fresh.{fresh_of}
use Rattle.shape.specs.Sound.{sound_of}
use Rattle.shape.specs.Step.{stepped, step_refused, form_refused, turn_refused}
use Rattle.shape.specs.Turns.{store_after, trace_after}
use Rattle.demands.specs.Bench.{Accounted}
use Rattle.demands.specs.Lines.{slot_lines}
use Rattle.demands.specs.Run.{run_trace, run_book, accepted_in, refused_in}

B1-accounted : Accounted B1
unfolding run_trace run_book accepted_in refused_in slot_lines rows things_at u32_at read_of read_refused layout_of memory_of actions_of list_bytes body_of sizes_refused fresh_of sound_of stepped step_refused form_refused turn_refused store_after trace_after
B1-accounted = record { trace = refl; account = refl; counts = refl }

B2-accounted : Accounted B2
unfolding run_trace run_book accepted_in refused_in slot_lines rows things_at u32_at read_of read_refused layout_of memory_of actions_of list_bytes body_of sizes_refused fresh_of sound_of stepped step_refused form_refused turn_refused store_after trace_after
B2-accounted = record { trace = refl; account = refl; counts = refl }

B3-accounted : Accounted B3
unfolding run_trace run_book accepted_in refused_in slot_lines rows things_at u32_at read_of read_refused layout_of memory_of actions_of list_bytes body_of sizes_refused fresh_of sound_of stepped step_refused form_refused turn_refused store_after trace_after
B3-accounted = record { trace = refl; account = refl; counts = refl }

B4-accounted : Accounted B4
unfolding run_trace run_book accepted_in refused_in slot_lines rows things_at u32_at read_of read_refused layout_of memory_of actions_of list_bytes body_of sizes_refused fresh_of sound_of stepped step_refused form_refused turn_refused store_after trace_after
B4-accounted = record { trace = refl; account = refl; counts = refl }

B5-accounted : Accounted B5
unfolding run_trace run_book accepted_in refused_in slot_lines rows things_at u32_at read_of read_refused layout_of memory_of actions_of list_bytes body_of sizes_refused fresh_of sound_of stepped step_refused form_refused turn_refused store_after trace_after
B5-accounted = record { trace = refl; account = refl; counts = refl }

B6-accounted : Accounted B6
unfolding run_trace run_book accepted_in refused_in slot_lines rows things_at u32_at read_of read_refused layout_of memory_of actions_of list_bytes body_of sizes_refused fresh_of sound_of stepped step_refused form_refused turn_refused store_after trace_after
B6-accounted = record { trace = refl; account = refl; counts = refl }

B7-accounted : Accounted B7
unfolding run_trace run_book accepted_in refused_in slot_lines rows things_at u32_at read_of read_refused layout_of memory_of actions_of list_bytes body_of sizes_refused fresh_of sound_of stepped step_refused form_refused turn_refused store_after trace_after
B7-accounted = record { trace = refl; account = refl; counts = refl }

B8-accounted : Accounted B8
unfolding run_trace run_book accepted_in refused_in slot_lines rows things_at u32_at read_of read_refused layout_of memory_of actions_of list_bytes body_of sizes_refused fresh_of sound_of stepped step_refused form_refused turn_refused store_after trace_after
B8-accounted = record { trace = refl; account = refl; counts = refl }

B9-accounted : Accounted B9
unfolding run_trace run_book accepted_in refused_in slot_lines rows things_at u32_at read_of read_refused layout_of memory_of actions_of list_bytes body_of sizes_refused fresh_of sound_of stepped step_refused form_refused turn_refused store_after trace_after
B9-accounted = record { trace = refl; account = refl; counts = refl }

pub cases-accounted : Every Accounted cases
cases-accounted = (B1-accounted, (B2-accounted, (B3-accounted, (B4-accounted, (B5-accounted, (B6-accounted, (B7-accounted, (B8-accounted, (B9-accounted, tt)))))))))
