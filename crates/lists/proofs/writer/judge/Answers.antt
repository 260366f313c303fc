-- At each `return` the tests that led there say which refusal is the first that applies.
use Rattle.std.proofs.Common.{◌≡◌, ◌+◌, ◌*◌, ◌≤◌, ◌<◌, ◌/◌, ◌%◌, ℕ, List, length, refl, sym, ◌∙◌}
use borrow.Author.Tests.{lt-ltb, le-ltb}
use Rattle.std.proofs.lemmas.Result.{err_from_is_err_and}
use Rattle.figure.specs.declared.Sizes.{Sizes}
use Rattle.figure.specs.Refused.{number_of}
use Rattle.figure.specs.Refusals.{first_of, sizes_refused, most_actions}
use Rattle.figure.proofs.First.{Passed, passed-more, same_not, other-not}
use Rattle.figure.proofs.Numbers.{not-none}
use Rattle.lists.specs.Bytes.{word_width}
use Rattle.lists.specs.Record.{record_width}
use Rattle.lists.specs.Read.{header_width, list_bytes}
use Rattle.lists.specs.Write.{write_refused}
use Rattle.lists.proofs.Refused.{parts_refused, write-sizes, write-at}
use Rattle.lists.proofs.Wire.{length-list}
use Rattle.lists.proofs.writer.judge.Goals as goal

module _ (z : Sizes) (memory actions : List ℕ) (room : ℕ) where
  abbrev first : ℕ
  first = first_of (write_refused z memory actions room)

  other-sizes : (n : ℕ) → n ≡ first_of (sizes_refused z) → ¬ (n ≡ 0) → n ≡ first
  other-sizes = write-sizes z memory actions room

  module _ (sized : 0 ≡ first_of (sizes_refused z)) where
    other-table : ¬ (length memory ≡ z.addresses) → 10 ≡ first
    other-table h = write-at z memory actions room (sym sized) 0 tt (other-not (length memory) z.addresses h)

    module _ (many : length memory ≡ z.addresses) where
      passed-10 : Passed 1 (parts_refused z memory actions room)
      passed-10 = passed-more 0 (parts_refused z memory actions room) tt (same_not (length memory) z.addresses many)

      action-cut : ¬ (length actions % record_width ≡ 0) → 8 ≡ first
      action-cut h = write-at z memory actions room (sym sized) 1 passed-10 (other-not (length actions % record_width) 0 h)

      module _ (even : length actions % record_width ≡ 0) where
        passed-8 : Passed 2 (parts_refused z memory actions room)
        passed-8 = passed-more 1 (parts_refused z memory actions room) passed-10 (same_not (length actions % record_width) 0 even)

        too-many : most_actions < length actions / record_width → 9 ≡ first
        too-many h = write-at z memory actions room (sym sized) 2 passed-8 (lt-ltb most_actions (length actions / record_width) h)

        module _ (few : length actions / record_width ≤ most_actions) where
          passed-9 : Passed 3 (parts_refused z memory actions room)
          passed-9 = passed-more 2 (parts_refused z memory actions room) passed-8 (le-ltb most_actions (length actions / record_width) few)

          -- the list's length, as the code counts it
          short : room < header_width + word_width * length memory + length actions → 30 ≡ first
          short h =
              write-at z memory actions room (sym sized) 3 passed-9 (lt-ltb room (length (list_bytes z memory actions)) (rw (length-list z memory actions) h))

          none-applies : header_width + word_width * length memory + length actions ≤ room → 0 ≡ first
          none-applies h =
              let fits = le-ltb room (length (list_bytes z memory actions)) (rw (length-list z memory actions) h) in
              write-at z memory actions room (sym sized) 4 (passed-more 3 (parts_refused z memory actions room) passed-9 fits) refl

pub returns-in_err-judge_sizes : goal.returns-in_err-judge_sizes
returns-in_err-judge_sizes c =
    let a = c.args in
    let e = c.in_err-judge_sizes.field-0.0 in
    let p = err_from_is_err_and c.from_residual.result c.from_residual.ensures.1 in
    rw (p.1, p.2) (other-sizes a.sizes a.memory.now a.actions.now a.room (number_of e) c.in_err-judge_sizes.ensures (not-none e))

pub returns-then-memory-from : goal.returns-then-memory-from
returns-then-memory-from c =
    other-table c.args.sizes c.args.memory.now c.args.actions.now c.args.room c.in_ok-judge_sizes.ensures (rw c.from.ensures at c.if-memory-from.true)

pub returns-then-actions-ne0 : goal.returns-then-actions-ne0
returns-then-actions-ne0 c =
    action-cut c.args.sizes c.args.memory.now c.args.actions.now c.args.room c.in_ok-judge_sizes.ensures (c.if-memory-from.false ∙ c.from.ensures) c.if-actions-ne0.true

pub returns-then-actions-gt-MOST_ACTIONS : goal.returns-then-actions-gt-MOST_ACTIONS
returns-then-actions-gt-MOST_ACTIONS c =
    too-many c.args.sizes c.args.memory.now c.args.actions.now c.args.room c.in_ok-judge_sizes.ensures (c.if-memory-from.false ∙ c.from.ensures) c.if-actions-ne0.false c.if-actions-gt-MOST_ACTIONS.true

pub returns-then-room-memory : goal.returns-then-room-memory
returns-then-room-memory c =
    short c.args.sizes c.args.memory.now c.args.actions.now c.args.room c.in_ok-judge_sizes.ensures (c.if-memory-from.false ∙ c.from.ensures) c.if-actions-ne0.false c.if-actions-gt-MOST_ACTIONS.false c.if-room-memory.true

pub returns : goal.returns
returns c =
    none-applies c.args.sizes c.args.memory.now c.args.actions.now c.args.room c.in_ok-judge_sizes.ensures (c.if-memory-from.false ∙ c.from.ensures) c.if-actions-ne0.false c.if-actions-gt-MOST_ACTIONS.false c.if-room-memory.false
