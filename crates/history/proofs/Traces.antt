-- The trace of a list that the reader takes: how it is made, and its records read back off its bytes. Assumes nothing.
use mathlib.Core.Path.{◌≡◌, refl, sym, ap, ◌∙◌}
use mathlib.Core.List.{List}
use Rattle.std.specs.Prelude.{Result, Ok, Err, IsOk}
use Rattle.figure.specs.Refused.{number_in}
use Rattle.figure.specs.declared.refused.Refused.{Refused}
use Rattle.figure.proofs.Numbers.{not-none}
use Prim.Native.Nat.{ℕ, zero, suc, ◌+◌, ◌-◌, ◌*◌, ◌≤◌, ◌<◌}
use native.Mathlib.Nat.{zero-add}
use native.Mathlib.Omega.{arith}
use lib.ListN.{length, take, drop, length-drop}
use lib.Seq.{drop-drop, take_all}
use Rattle.figure.specs.Record.{no_record}
use Rattle.figure.specs.Refusals.{first_of, unless}
use Rattle.figure.specs.declared.Record.{Record}
use Rattle.lists.specs.Bytes.{rows, laid}
use Rattle.lists.specs.Codec.{things_at}
use Rattle.lists.specs.Read.{Reading, reading, read_of, memory_table}
use Rattle.lists.specs.Record.{record_width, record_bytes, record_codec}
use Rattle.lists.specs.declared.reader.Layout.{Layout}
use Rattle.lists.proofs.Actions.{get_or-actions}
use Rattle.lists.proofs.Things.{things-more, things-rows}
use Rattle.lists.proofs.Numbers.{record-drop}
use Rattle.lists.proofs.Codecs.{record-lawful}
use Rattle.lists.proofs.Sized.{sized}
use Rattle.lists.proofs.Table.{part_in, part-is}
use Rattle.shape.specs.Fresh.{fresh_of, fresh_refused}
use Rattle.shape.specs.Turns.{action_at, bytes_of, turns_of, FreshTurned}
use Rattle.shape.proofs.Trails.{trace-alike}
use Rattle.demands.proofs.Runs.{fresh-taken, length_run}
use Rattle.history.specs.Pieces.{records_below, Admitted}
use Rattle.demands.specs.Run.{run_sizes, run_fresh, run_action, run_trace}

-- the records that stand in some bytes, one after another
pub records-each : (bytes : List ℕ) (n : ℕ) → records_below (action_at bytes) n ≡ things_at record_codec bytes 0 n
unfolding records_below things_at
records-each bytes zero = refl
records-each bytes (suc n) = rw (things-more record_codec bytes 0 n, records-each bytes n, zero-add (record_width * n))

-- what the run reads back off the bytes that tracing left is the run's trace
pub traced-records : (list t t' : List ℕ) → t' ≡ laid (rows record_bytes (run_trace list)) t → records_below (action_at t') (read_of list).actions ≡ run_trace list
unfolding laid
traced-records list t t' e =
    records-each t' (read_of list).actions
    ∙ rw (e, ← (length_run list))
    (things-rows record-lawful (run_trace list) (drop (length (rows record_bytes (run_trace list))) t))

-- what answers the number 0 refuses nothing
pub none-refused : {A : Type 0} (r : Result A Refused) → number_in r ≡ 0 → IsOk r
none-refused (Ok a) e = refl
none-refused (Err f) e = absurd (not-none f e)

-- ---- tracing: the table's part is the list's memory, and the list's part holds its actions

module _ {list : List ℕ} {l : Layout} {t : List ℕ} (h : Admitted list l t) {table : List ℕ} (b : table ≡ memory_table list) where
  abbrev said : Reading
  said = reading (Ok l)

  pub table-in : l.sizes.addresses ≤ length table
  table-in = part_in list said h.layout table b

  pub actions_within : l.actions_at ≤ length list
  actions_within = let w = (sized list said h.layout refl).whole in omega arith

  sizes_are : l.sizes ≡ run_sizes list
  sizes_are = ap (λ (k : Reading). k.sizes) h.layout

  abbrev part_table : List ℕ
  part_table = take l.sizes.addresses table

  fresh_is : fresh_of l.sizes part_table ≡ run_fresh list
  fresh_is = rw (part-is list said h.layout table b, sizes_are)

  fresh-made : first_of (fresh_refused l.sizes part_table) ≡ 0
  fresh-made = rw (part-is list said h.layout table b, sizes_are) (fresh-taken list (sym (ap (λ (k : Reading). k.number) h.layout)))

  -- so nothing is refused
  pub turns-accepted : {n : ℕ} {t' : List ℕ} → FreshTurned l.sizes part_table (take (length list - l.actions_at) (drop l.actions_at list)) t n t' → n ≡ 0
  turns-accepted d = d.number ∙ fresh-made

  turns-taken : turns_of (drop l.actions_at list) t ≡ (read_of list).actions
  turns-taken =
      let z = sized list said h.layout refl in
      let w = z.whole in
      let f = z.few in
      let a : l.actions ≡ (read_of list).actions = ap (λ (k : Reading). k.actions) h.layout in
      let n : length (drop l.actions_at list) ≡ record_width * (read_of list).actions = length-drop l.actions_at list ∙ omega arith in
      let r = h.room in
      rw n (omega arith)

  same-action : (k : ℕ) → k < (read_of list).actions → action_at (drop l.actions_at list) k ≡ run_action list k
  same-action k b =
      record-drop (drop l.actions_at list) (record_width * k)
      ∙ rw (drop-drop (record_width * k) l.actions_at list, ← (record-drop list (l.actions_at + record_width * k)), ap (λ (k : Reading). k.actions_at) h.layout) (sym (get_or-actions list k no_record b))

  abbrev part : List ℕ
  part = take (length list - l.actions_at) (drop l.actions_at list)

  whole : part ≡ drop l.actions_at list
  whole = take_all (length list - l.actions_at) (drop l.actions_at list) (omega (arith, length-drop l.actions_at list))

  -- what the turns from a fresh store leave
  pub turned-traced : {n : ℕ} {t' : List ℕ} → FreshTurned l.sizes part_table part t n t' → t' ≡ laid (rows record_bytes (run_trace list)) t
  unfolding run_trace unless
  turned-traced d =
      rw (fresh-made, whole, fresh_is, turns-taken) at d.trace_is
      ∙ ap (λ (rs : List Record). laid (bytes_of rs) t) (trace-alike (run_fresh list) (action_at (drop l.actions_at list)) (run_action list) (read_of list).actions same-action)
