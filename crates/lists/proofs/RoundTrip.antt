-- What the writer writes reads back the same, and a list that the reader takes, read and written again, has the same bytes. Assumes nothing.
use mathlib.Core.Path.{◌≡◌, refl, sym, ap, ◌∙◌}
use mathlib.Core.List.{List, [], ◌∷◌, ◌++◌, append-nil}
use Prim.Native.Nat.{ℕ, ◌+◌, ◌-◌, ◌*◌, ◌/◌, ◌%◌, ◌≤◌}
use native.Mathlib.Omega.{arith}
use lib.ListN.{length, take, drop, length-drop, take-append-drop}
use lib.Seq.{take_at, take_all, take-add, drop_at, drop-drop}
use borrow.Author.Tests.{le-ltb}
use Rattle.figure.specs.declared.Sizes.{Sizes}
use Rattle.figure.specs.declared.Record.{Record}
use Rattle.figure.specs.Refusals.{first_of, unless, sizes_refused, most_actions, NoneApplies}
use Rattle.figure.proofs.First.{none_first, sizes-numbered, none-append, same_not}
use Rattle.lists.specs.Bytes.{Bytes, u32_at, u32_bytes, rows, laid}
use Rattle.lists.specs.Codec.{things_at, word_codec}
use Rattle.lists.specs.Record.{record_width, record_bytes, record_codec}
use Rattle.lists.specs.Read.{Reading, version, header_width, header_bytes, version_at, sizes_at, after_header, after_memory, body_of, list_bytes, read_refused, read_of, taken_as, memory_of, actions_of, action_bytes_of}
use Rattle.lists.specs.Write.{Written, write_refused, bytes_written, Wrote, ListHolds, Rewritten}
use Rattle.lists.proofs.Numbers.{number-back, number-bytes, four-at}
use Rattle.lists.proofs.Codecs.{word-lawful, record-lawful}
use Rattle.lists.proofs.Things.{things-drop, things-rows, rows-things, length-coded}
use Rattle.lists.proofs.Table.{length-memory}
use Rattle.lists.proofs.Sized.{none-taken, good}
use Rattle.lists.proofs.Wire.{length-body, length-list, list-parts}
use Rattle.lists.proofs.Wrote.{Writable, writable, write-accepts}

-- ---- from the writer to the reader
module _ (z : Sizes) (memory actions : List ℕ) (room : ℕ) (w : Writable z memory actions room) where
  abbrev list : List ℕ
  list = list_bytes z memory actions

  -- the reader refuses nothing of it
  list-taken : NoneApplies (read_refused list)
  unfolding read_refused list_bytes body_of
  list-taken =
      let long : length list ≡ header_width + 4 * length memory + length actions = length-list z memory actions in
      let after : length (body_of z memory actions) ≡ length list - 4 = omega (arith, length-body z memory actions) in
      let said : u32_at list 0 ≡ length list - 4 = number-back (length (body_of z memory actions)) (body_of z memory actions) ∙ after in (
        le-ltb (length list) header_width (omega arith),
        (
          same_not (u32_at list 0) (length list - 4) said,
          (
            same_not (version_at list) version refl,
            none-append (sizes_refused z) _ (none_first (sizes_refused z) (sizes-numbered z) w.sizes_pass) (
              le-ltb (after_header list) (4 * z.addresses) (omega (arith, w.memory_many)),
              (
                same_not (after_memory list % record_width) 0 (omega (arith, w.memory_many, w.even)),
                (
                  le-ltb most_actions (after_memory list / record_width) (omega (arith, w.memory_many, w.few)),
                  tt,
                ),
              ),
            ),
          ),
        ),
      )

  list-layout : read_of list ≡ taken_as list
  list-layout = (good list (none-taken list list-taken)).layout_is

  list-memory : memory_of list ≡ memory
  unfolding memory_of list_bytes body_of
  list-memory =
      rw (list-layout)
      (ap (λ (n : ℕ). things_at word_codec list header_width n) (sym w.memory_many) ∙ (things-drop word-lawful list header_width (length memory) ∙ things-rows word-lawful memory actions))

  list-action-bytes : action_bytes_of list ≡ actions
  unfolding action_bytes_of list_bytes body_of
  list-action-bytes =
      let m : length (rows u32_bytes memory) ≡ 4 * z.addresses = length-coded word-lawful memory ∙ ap (λ (n : ℕ). 4 * n) w.memory_many in
      let past : drop (header_width + 4 * z.addresses) list ≡ actions = sym (drop-drop (4 * z.addresses) header_width list) ∙ drop_at (rows u32_bytes memory) actions (4 * z.addresses) m in
      let many : length actions ≤ record_width * (after_memory list / record_width) = omega (arith, length-list z memory actions, w.memory_many, w.even) in
      rw (list-layout, past) (take_all (record_width * (after_memory list / record_width)) actions many)

-- ---- from the reader to the writer
module _ (s : List ℕ) (taken : (read_of s).number ≡ 0) where
  abbrev m : ℕ
  m = (sizes_at s).addresses

  taken-layout : read_of s ≡ taken_as s
  taken-layout = (good s taken).layout_is

  taken-memory-long : length (memory_of s) ≡ m
  taken-memory-long = length-memory s ∙ rw (taken-layout)

  -- the actions' bytes go to the end
  pub taken-action-bytes : action_bytes_of s ≡ drop (header_width + 4 * m) s
  unfolding action_bytes_of
  taken-action-bytes =
      let g = good s taken in
      rw (taken-layout)
      (take_all (record_width * (after_memory s / record_width)) (drop (header_width + 4 * m) s) (simp length-drop (omega (arith, g))))

  taken-actions-long : length (action_bytes_of s) ≡ after_memory s
  taken-actions-long =
      let g = good s taken in
      ap length taken-action-bytes ∙ (length-drop (header_width + 4 * m) s ∙ omega arith)

  -- the list's actions are those of its action bytes
  pub taken-actions : actions_of s ≡ things_at record_codec (action_bytes_of s) 0 (read_of s).actions
  unfolding actions_of
  taken-actions = rw (taken-action-bytes, taken-layout) (things-drop record-lawful s (header_width + 4 * m) (after_memory s / record_width))

  module _ (b : Bytes s) where
    -- the actions, written again, are the actions' bytes
    pub taken-actions-rows : rows record_bytes (actions_of s) ≡ action_bytes_of s
    unfolding actions_of action_bytes_of
    taken-actions-rows =
        let g = good s taken in
        rw (taken-layout)
        (rows-things record-lawful s b (header_width + 4 * m) (after_memory s / record_width) (omega (arith, g)))

    taken-memory-rows : rows u32_bytes (memory_of s) ≡ take (4 * m) (drop header_width s)
    unfolding memory_of
    taken-memory-rows =
        let g = good s taken in
        rw (taken-layout) (rows-things word-lawful s b header_width m (omega (arith, g)))

    taken-header : header_bytes (length s - 4) (sizes_at s) ≡ take header_width s
    taken-header =
        let g = good s taken in
        let sizes = version ∷ (sizes_at s).engines ∷ (sizes_at s).addresses ∷ (sizes_at s).depth ∷ [] in
        let first : u32_bytes (length s - 4) ≡ take 4 s = ap u32_bytes (sym g.said) ∙ number-bytes s 0 b (omega (arith, g)) in
        let second : sizes ≡ take 4 (drop 4 s) = rw (← g.version_is) (sym (four-at s 4 (omega (arith, g)))) in
        ap (λ (l : List ℕ). l ++ sizes) first ∙ (ap (λ (l : List ℕ). take 4 s ++ l) second ∙ sym (take-add 4 4 s))

    -- "a list that the reader takes, read and written again, has the same bytes"
    pub same_bytes : list_bytes (read_of s).sizes (memory_of s) (action_bytes_of s) ≡ s
    same_bytes =
        let g = good s taken in
        let n : 4 + 4 * length (memory_of s) + length (action_bytes_of s) ≡ length s - 4 = omega (arith, taken-memory-long, taken-actions-long, g) in
        let z = sizes_at s in
        let words = rows u32_bytes (memory_of s) in
        let head : header_bytes (4 + 4 * length (memory_of s) + length (action_bytes_of s)) z ≡ take header_width s = ap (λ (k : ℕ). header_bytes k z) n ∙ taken-header in
        let front : take header_width s ++ words ≡ take (header_width + 4 * m) s = rw (taken-memory-rows) (sym (take-add header_width (4 * m) s)) in
        rw (taken-layout)
        (list-parts z (memory_of s) (action_bytes_of s)
        ∙ (ap (λ (l : List ℕ). l ++ words ++ action_bytes_of s) head
        ∙ (ap (λ (l : List ℕ). l ++ action_bytes_of s) front ∙ (ap (λ (l : List ℕ). take (header_width + 4 * m) s ++ l) taken-action-bytes ∙ take-append-drop (header_width + 4 * m) s))))

    -- and the writer takes them, where they fit
    pub taken-writable : (room : ℕ) → length s ≤ room → first_of (write_refused (read_of s).sizes (memory_of s) (action_bytes_of s) room) ≡ 0
    taken-writable room h =
        let g = good s taken in
        let z = sizes_at s in
        let fits : length (list_bytes z (memory_of s) (action_bytes_of s)) ≤ room = rw (ap length (ap (λ (l : Reading). list_bytes l.sizes (memory_of s) (action_bytes_of s)) (sym taken-layout) ∙ same_bytes)) h in
        rw (taken-layout) (write-accepts z (memory_of s) (action_bytes_of s) room g.sizes_pass taken-memory-long (rw (taken-actions-long) g.even) (rw (taken-actions-long) g.few) fits)

-- ---- the same of the contracts

pub list-holds : (z : Sizes) (memory actions : List ℕ) (room : ℕ) → first_of (write_refused z memory actions room) ≡ 0 → ListHolds (list_bytes z memory actions) z memory actions
unfolding list_bytes body_of
list-holds z memory actions room h =
    let w = writable z memory actions room h in
    record {
      taken = none-taken (list_bytes z memory actions) (list-taken z memory actions room w);
      sizes_are = rw (list-layout z memory actions room w);
      memory_is = list-memory z memory actions room w;
      action_bytes_are = list-action-bytes z memory actions room w;
    }

-- the actions of a list that was written are those of the action bytes; of records' bytes, the records
pub written-actions : (z : Sizes) (memory actions : List ℕ) (room : ℕ) → first_of (write_refused z memory actions room) ≡ 0 → actions_of (list_bytes z memory actions) ≡ things_at record_codec actions 0 (length actions / record_width)
unfolding list_bytes body_of
written-actions z memory actions room h =
    let w = writable z memory actions room h in
    let list = list_bytes z memory actions in
    let k = list-holds z memory actions room h in
    let n : (read_of list).actions ≡ length actions / record_width = ap (λ (l : Reading). l.actions) (list-layout z memory actions room w) ∙ omega (arith, length-list z memory actions, w.memory_many) in
    taken-actions list k.taken ∙ rw (k.action_bytes_are, n)

pub written-records : (z : Sizes) (memory : List ℕ) (rs : List Record) (room : ℕ) → first_of (write_refused z memory (rows record_bytes rs) room) ≡ 0 → actions_of (list_bytes z memory (rows record_bytes rs)) ≡ rs
written-records z memory rs room h =
    let n : length (rows record_bytes rs) / record_width ≡ length rs = omega (arith, length-coded record-lawful rs) in
    written-actions z memory (rows record_bytes rs) room h
    ∙ rw (n) (rw (append-nil) at (things-rows record-lawful rs []))

module _ {z : Sizes} {memory actions out : List ℕ} {r : Written} {out' : List ℕ} (wrote : Wrote z memory actions out r out') where
  -- what is written is the list, where nothing is refused
  pub front-written : r.number ≡ 0 → take r.length out' ≡ list_bytes z memory actions
  unfolding bytes_written unless laid
  front-written h =
      let e : first_of (write_refused z memory actions (length out)) ≡ 0 = sym wrote.number_is ∙ h in
      let all : bytes_written z memory actions (length out) ≡ list_bytes z memory actions = rw (e) in
      rw (wrote.out_is, wrote.length_is, all) (take_at (list_bytes z memory actions) (drop (length (list_bytes z memory actions)) out) (length (list_bytes z memory actions)) refl)

  -- "what the writer writes reads back the same"
  pub reads-back : r.number ≡ 0 → ListHolds (take r.length out') z memory actions
  reads-back h = rw (front-written h) (list-holds z memory actions (length out) (sym wrote.number_is ∙ h))

pub writes-back : (s : List ℕ) → Bytes s → (read_of s).number ≡ 0 → {out : List ℕ} {r : Written} {out' : List ℕ} → length s ≤ length out → Wrote (read_of s).sizes (memory_of s) (action_bytes_of s) out r out' → Rewritten s out r out'
unfolding bytes_written unless
writes-back s b taken {out} {r} {out'} h wrote =
    let e = taken-writable s taken b (length out) h in
    let all : bytes_written (read_of s).sizes (memory_of s) (action_bytes_of s) (length out) ≡ s = rw (e) (same_bytes s taken b) in
    record { number_is = wrote.number_is ∙ e; length_is = wrote.length_is ∙ ap length all; out_is = wrote.out_is ∙ ap (λ (l : List ℕ). laid l out) all }
