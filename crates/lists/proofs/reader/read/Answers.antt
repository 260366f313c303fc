-- At each `return` the tests that led there say which refusal is the first that applies.
use Rattle.std.proofs.Common.{◌≡◌, ◌<◌, ◌≤◌, ◌-◌, ◌*◌, ◌/◌, ◌%◌, ℕ, List, length, length-drop, length-take-le, take, drop, arith, refl, sym, ◌∙◌}
use borrow.Author.Tests.{lt-ltb, le-ltb}
use Rattle.std.proofs.lemmas.Result.{err_from_is_err_and}
use Rattle.figure.specs.Refused.{number_of}
use Rattle.figure.specs.Refusals.{first_of, sizes_refused, most_actions}
use Rattle.figure.proofs.First.{Passed, passed-more, same_not, other-not}
use Rattle.figure.proofs.Numbers.{not-none}
use Rattle.lists.specs.Bytes.{word_width, u32_at}
use Rattle.lists.specs.Record.{record_width}
use Rattle.lists.specs.Read.{version, header_width, version_at, sizes_at, after_header, after_memory, read_refused, refused_as, taken_as, layout_of, read_of}
use Rattle.lists.proofs.Refused.{lengths_refused, read_at, read-sizes, read-lengths}
use Rattle.lists.proofs.reader.read.Goals as goal

module _ (s : List ℕ) where
  short : length s < header_width → refused_as 1 ≡ read_of s
  unfolding read_refused layout_of
  short h = read_at s 0 tt (lt-ltb (length s) header_width h)

  module _ (long : header_width ≤ length s) where
    passed-1 : Passed 1 (read_refused s)
    unfolding read_refused
    passed-1 = passed-more 0 (read_refused s) tt (le-ltb (length s) header_width long)

    other-length : ¬ (u32_at s 0 ≡ length s - word_width) → refused_as 2 ≡ read_of s
    unfolding read_refused layout_of
    other-length h = read_at s 1 passed-1 (other-not (u32_at s 0) (length s - word_width) h)

    module _ (said : u32_at s 0 ≡ length s - word_width) where
      passed-2 : Passed 2 (read_refused s)
      unfolding read_refused
      passed-2 = passed-more 1 (read_refused s) passed-1 (same_not (u32_at s 0) (length s - word_width) said)

      other-version : ¬ (version_at s ≡ version) → refused_as 3 ≡ read_of s
      unfolding read_refused layout_of
      other-version h = read_at s 2 passed-2 (other-not (version_at s) version h)

      module _ (same : version_at s ≡ version) where
        passed-3 : Passed 3 (read_refused s)
        unfolding read_refused
        passed-3 = passed-more 2 (read_refused s) passed-2 (same_not (version_at s) version same)

        other-sizes : (n : ℕ) → n ≡ first_of (sizes_refused (sizes_at s)) → ¬ (n ≡ 0) → refused_as n ≡ read_of s
        other-sizes = read-sizes s passed-3

        module _ (sized : 0 ≡ first_of (sizes_refused (sizes_at s))) where
          memory-cut : after_header s < word_width * (sizes_at s).addresses → refused_as 7 ≡ read_of s
          unfolding layout_of
          memory-cut h = read-lengths s passed-3 (sym sized) 0 tt (lt-ltb (after_header s) (word_width * (sizes_at s).addresses) h)

          module _ (room : word_width * (sizes_at s).addresses ≤ after_header s) where
            passed-7 : Passed 1 (lengths_refused s)
            passed-7 = passed-more 0 (lengths_refused s) tt (le-ltb (after_header s) (word_width * (sizes_at s).addresses) room)

            action-cut : ¬ (after_memory s % record_width ≡ 0) → refused_as 8 ≡ read_of s
            unfolding layout_of
            action-cut h = read-lengths s passed-3 (sym sized) 1 passed-7 (other-not (after_memory s % record_width) 0 h)

            module _ (even : after_memory s % record_width ≡ 0) where
              passed-8 : Passed 2 (lengths_refused s)
              passed-8 = passed-more 1 (lengths_refused s) passed-7 (same_not (after_memory s % record_width) 0 even)

              too-many : most_actions < after_memory s / record_width → refused_as 9 ≡ read_of s
              unfolding layout_of
              too-many h = read-lengths s passed-3 (sym sized) 2 passed-8 (lt-ltb most_actions (after_memory s / record_width) h)

              none-applies : after_memory s / record_width ≤ most_actions → taken_as s ≡ read_of s
              unfolding layout_of
              none-applies h =
                  read-lengths s passed-3 (sym sized) 3 (passed-more 2 (lengths_refused s) passed-8 (le-ltb most_actions (after_memory s / record_width) h)) refl

-- what stands after the header, and what is left of it after the memory values
length-rest : (s : List ℕ) → length (take (length s - header_width) (drop header_width s)) ≡ after_header s
length-rest s = length-take-le (length s - header_width) (drop header_width s) (omega (arith, length-drop header_width s))

left : (s : List ℕ) {m l : ℕ} → m ≡ (sizes_at s).addresses → (word_width * m ≤ length (take (length s - header_width) (drop header_width s))) × (l ≡ length (take (length s - header_width) (drop header_width s)) - word_width * m) → (word_width * (sizes_at s).addresses ≤ after_header s) × (l ≡ after_memory s)
left s e h = rw (e, length-rest s) at h

pub returns-in_default : goal.returns-in_default
returns-in_default c = short c.args.s.now c.in_default.len_below

pub returns-then-get_u32-s : goal.returns-then-get_u32-s
returns-then-get_u32-s c =
    other-length c.args.s.now c.in-len8-up.len_at_least (λ e. c.if-get_u32-s.true (c.get_u32.ensures ∙ e))

pub returns-then-version-ne-VERSION : goal.returns-then-version-ne-VERSION
returns-then-version-ne-VERSION c =
    other-version c.args.s.now c.in-len8-up.len_at_least (sym c.get_u32.ensures ∙ c.if-get_u32-s.false) c.if-version-ne-VERSION.true

pub returns-in_err-judge_sizes : goal.returns-in_err-judge_sizes
returns-in_err-judge_sizes c =
    let e = c.in_err-judge_sizes.field-0.0 in
    let p = err_from_is_err_and c.from_residual.result c.from_residual.ensures.1 in
    rw (p.1, p.2) (other-sizes c.args.s.now c.in-len8-up.len_at_least (sym c.get_u32.ensures ∙ c.if-get_u32-s.false) c.if-version-ne-VERSION.false (number_of e) c.in_err-judge_sizes.ensures (not-none e))

pub returns-in_default-checked_sub : goal.returns-in_default-checked_sub
returns-in_default-checked_sub c =
    memory-cut c.args.s.now c.in-len8-up.len_at_least (sym c.get_u32.ensures ∙ c.if-get_u32-s.false) c.if-version-ne-VERSION.false c.in_ok-judge_sizes.ensures (omega (arith, length-rest c.args.s.now, c.from-memory.ensures, c.in_default-checked_sub.ensures))

pub returns-then-left-ne0 : goal.returns-then-left-ne0
returns-then-left-ne0 c =
    let l = left c.args.s.now c.from-memory.ensures c.in-Some.ensures in
    action-cut c.args.s.now c.in-len8-up.len_at_least (sym c.get_u32.ensures ∙ c.if-get_u32-s.false) c.if-version-ne-VERSION.false c.in_ok-judge_sizes.ensures l.0 (rw l.1 at c.if-left-ne0.true)

pub returns-then-actions-gt-MOST_ACTIONS : goal.returns-then-actions-gt-MOST_ACTIONS
returns-then-actions-gt-MOST_ACTIONS c =
    let l = left c.args.s.now c.from-memory.ensures c.in-Some.ensures in
    too-many c.args.s.now c.in-len8-up.len_at_least (sym c.get_u32.ensures ∙ c.if-get_u32-s.false) c.if-version-ne-VERSION.false c.in_ok-judge_sizes.ensures l.0 (rw l.1 at c.if-left-ne0.false) (rw l.1 at c.if-actions-gt-MOST_ACTIONS.true)

pub returns : goal.returns
returns c =
    let l = left c.args.s.now c.from-memory.ensures c.in-Some.ensures in
    rw (l.1, c.from-memory.ensures)
    (none-applies c.args.s.now c.in-len8-up.len_at_least (sym c.get_u32.ensures ∙ c.if-get_u32-s.false) c.if-version-ne-VERSION.false c.in_ok-judge_sizes.ensures l.0 (rw l.1 at c.if-left-ne0.false) (rw l.1 at c.if-actions-gt-MOST_ACTIONS.false))
