-- The loop over a list's actions: those before a place are printed, and those from it on are left. Assumes nothing.
use Rattle.std.proofs.Common.{◌≡◌, refl, sym, ap, ◌∙◌, ℕ, suc, ◌+◌, ◌*◌, ◌≤◌, ◌<◌, List, [], ◌∷◌, length, drop, get_or, length-drop, drop-cons, add-one, zero-le, arith}
use Rattle.figure.specs.declared.Record.{Record}
use Rattle.figure.specs.Refusals.{most_actions}
use Rattle.figure.specs.Record.{no_record}
use Rattle.lists.specs.Bytes.{Bytes}
use Rattle.lists.specs.Record.{record_width, record_at}
use Rattle.lists.specs.Read.{read_of, actions_of}
use Rattle.lists.proofs.Actions.{length-actions, few-actions, get_or-actions}
use Rattle.lists.proofs.Sized.{held}
use Rattle.report.specs.declared.text.Text.{Text}
use Rattle.report.specs.Text.{newline, series}
use Rattle.report.specs.Decimal.{decimal}
use Rattle.report.specs.Cursor.{appended}
use Rattle.report.specs.Actions.{step_line, step_lines}
use Rattle.report.specs.Form.{step_said}
use Rattle.report.proofs.Cursor.{series_more}
use Rattle.report.proofs.Forms.{step-same, line-parts}

pub record Walking (list trace : List ℕ) (begun : Text) (left : List Record) (k : ℕ) (t : Text) : Type 0 where
  pub upto : k ≤ length (actions_of list)
  pub left_is : left ≡ drop k (actions_of list)
  pub printed : t ≡ appended (series (step_line list (read_of list).actions_at trace) k) begun

module _ {list trace : List ℕ} {begun : Text} where
  pub walking-none : Walking list trace begun (actions_of list) 0 begun
  unfolding series appended
  walking-none = record { upto = zero-le; left_is = refl; printed = refl }

  -- what is left is no more than a list can have
  pub walking-few : {left : List Record} {k : ℕ} {t : Text} → Walking list trace begun left k t → length left ≤ most_actions
  walking-few {left} {k} w = omega (arith, ap length w.left_is, length-drop k (actions_of list), few-actions list)

  module _ {left rest : List Record} {k : ℕ} {t : Text} {action : Record} (w : Walking list trace begun left k t) (e : left ≡ action ∷ rest) where
    some : drop k (actions_of list) ≡ action ∷ rest
    some = sym w.left_is ∙ e

    pub walking-before : k < length (actions_of list)
    walking-before = omega (arith, ap length some, length-drop k (actions_of list))

    parts : action ∷ rest ≡ get_or (actions_of list) k no_record ∷ drop (suc k) (actions_of list)
    parts = sym some ∙ drop-cons (actions_of list) k no_record walking-before

    action_is : action ≡ record_at list ((read_of list).actions_at + record_width * k)
    action_is = ap (λ (xs : List Record). get_or xs 0 no_record) parts ∙ get_or-actions list k no_record (omega (arith, walking-before, length-actions list))

    rest_is : rest ≡ drop (k + 1) (actions_of list)
    rest_is = rw (add-one k) (ap (drop 1) parts)

    pub walking-more : Bytes list → {t' : Text} → t' ≡ appended newline (appended (step_said action (record_at trace (record_width * k))) (appended (decimal (k + 1)) t)) → Walking list trace begun rest (k + 1) t'
    walking-more b {t'} f =
        let first = (read_of list).actions_at in
        let within : first + record_width * k + record_width ≤ length list = omega (arith, walking-before, length-actions list, (held list (read_of list) refl).actions_within) in
        record {
          upto = omega (arith, walking-before);
          left_is = rest_is;
          printed = rw (series_more, line-parts list first trace k, ← (step-same list (first + record_width * k) b within), ← action_is, ← w.printed) f;
        }

  pub walking-all : {k : ℕ} {t : Text} → Walking list trace begun [] k t → t ≡ appended (step_lines list trace) begun
  unfolding step_lines
  walking-all {k} w =
      let all : k ≡ (read_of list).actions = omega (arith, w.upto, ap length w.left_is, length-drop k (actions_of list), length-actions list) in
      w.printed ∙ ap (λ (n : ℕ). appended (series (step_line list (read_of list).actions_at trace) n) begun) all
