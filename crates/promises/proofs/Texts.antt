-- What people read is what the specs say, of every run. Assumes nothing.
use mathlib.Core.Path.{◌≡◌, refl, sym, ap, subst, ◌∙◌}
use mathlib.Core.Bool.{Bool, true, false}
use mathlib.Core.List.{List, [], ◌∷◌, ◌++◌}
use Prim.Native.Nat.{ℕ, suc, ◌≤◌, min}
use native.Mathlib.Omega.{arith}
use lib.Dec.{eqb}
use lib.ListN.{length, take, set}
use Rattle.demands.proofs.Demands.{few-events}
use Rattle.demands.specs.Run.{Answered, answered_by, Ran}
use Rattle.figure.specs.Refusals.{pick, most_actions}
use Rattle.lists.specs.Bytes.{laid}
use Rattle.report.specs.Actions.{head_line, step_lines, show_text, show_said}
use Rattle.report.specs.Events.{account_line, counts_line, refused_line, account_text, account_said, numbered}
use Rattle.report.specs.Text.{written, Printed, series}
use Rattle.demands.specs.declared.Counts.{Counts}
use Rattle.std.specs.Prelude.{Result, Ok, Err}
use borrow.Author.Tests.{ne_eqb}
use Rattle.figure.proofs.Numbers.{not-none}
use Rattle.figure.specs.Refused.{number_of}
use Rattle.figure.specs.declared.refused.Refused.{Refused}
use Rattle.promises.specs.Texts.{Shown, said_of, account_lines, TextsKept}

written_after : (x : ℕ) (old : List ℕ) (i : ℕ) (text : List ℕ) → written (x ∷ old) (suc i) text ≡ x ∷ written old i text
unfolding written
written_after x old i [] = refl
written_after x old i (b ∷ bs) = written_after x (set old i b) (suc i) bs

-- text that fits, over the front
written-front : (old text : List ℕ) → length text ≤ length old → written old 0 text ≡ laid text old
unfolding written laid
written-front old [] h = refl
written-front [] (b ∷ bs) h = absurd (omega arith)
written-front (x ∷ old) (b ∷ bs) h = written_after b old 0 bs ∙ ap (λ (l : List ℕ). b ∷ l) (written-front old bs (omega arith))

written_none : (i : ℕ) (text : List ℕ) → written [] i text ≡ []
unfolding written
written_none i [] = refl
written_none i (b ∷ bs) = written_none (suc i) bs

-- text that does not
written-cut : (old text : List ℕ) → length old ≤ length text → written old 0 text ≡ take (length old) text
unfolding written
written-cut [] text h = written_none 0 text
written-cut (x ∷ old) [] h = absurd (omega arith)
written-cut (x ∷ old) (b ∷ bs) h = written_after b old 0 bs ∙ ap (λ (l : List ℕ). b ∷ l) (written-cut old bs (omega arith))

pub shown : {text out : List ℕ} {n : ℕ} {out' : List ℕ} → Printed text out 0 n out' → Shown text out n out'
shown {text} {out} h = record { length_is = omega (arith, h.place); front = λ f. h.bytes ∙ written-front out text f; cut = λ f. h.bytes ∙ written-cut out text f }

-- where nothing is refused, the account's text is its lines
pick-within : (t : Bool) (front lines refused : List ℕ) → pick t (front ++ pick t lines refused) refused ≡ pick t (front ++ lines) refused
pick-within true front lines refused = refl
pick-within false front lines refused = refl

handed_on : (r : Result Counts Refused) → said_of (answered_by r) ≡ numbered r
handed_on (Ok c) = refl
handed_on (Err e) = rw (ne_eqb (number_of e) 0 (not-none e)) refl

-- what is handed on says all of the answer
pub account-said : (r : Answered) (account : List ℕ) → account_said (said_of r) account ≡ account_text r account
unfolding account_said account_text counts_line
account-said r account = at (eqb r.number 0) refl
  where
    at : (t : Bool) → eqb r.number 0 ≡ t → account_said (said_of r) account ≡ account_text r account
    at true e = rw (e) refl
    at false e = rw (e) refl

show-said : (list : List ℕ) (r : Answered) (trace account : List ℕ) → show_said list (said_of r) trace account ≡ show_text list r trace account
unfolding show_said show_text account_text counts_line
show-said list r trace account = at (eqb r.number 0) refl
  where
    at : (t : Bool) → eqb r.number 0 ≡ t → show_said list (said_of r) trace account ≡ show_text list r trace account
    at true e = rw (e) refl
    at false e = rw (e) refl

module _ {list trace account : List ℕ} {r : Answered} {trace' account' : List ℕ} (h : Ran list trace account r trace' account') where
  -- no event is left out
  all_lines : account_text r account' ≡ pick (eqb r.number 0) (account_lines r account') (refused_line r.number)
  unfolding account_text
  all_lines =
      let e : min r.events most_actions ≡ r.events = omega (arith, few-events h) in
      ap (λ (k : ℕ). pick (eqb r.number 0) (counts_line r ++ series (account_line account') k) (refused_line r.number)) e

  all_shown : show_text list r trace' account' ≡ pick (eqb r.number 0) (head_line list ++ step_lines list trace' ++ account_lines r account') (refused_line r.number)
  unfolding show_text
  all_shown =
      let front = head_line list ++ step_lines list trace' in
      let refused = refused_line r.number in
      ap (λ (l : List ℕ). pick (eqb r.number 0) (front ++ l) refused) all_lines ∙ pick-within (eqb r.number 0) front (account_lines r account') refused

account-shown : {list trace account : List ℕ} {r : Answered} {trace' account' : List ℕ} → Ran list trace account r trace' account'
    → {c : Result Counts ℕ} {bytes out : List ℕ} {n : ℕ} {out' : List ℕ} → Printed (account_said c bytes) out 0 n out' → c ≡ said_of r → bytes ≡ account'
    → Shown (pick (eqb r.number 0) (account_lines r account') (refused_line r.number)) out n out'
account-shown {r = r} {account' = account'} h {out = out} {n} {out'} p e f = subst (λ (t : List ℕ). Shown t out n out') (rw (e, f) (account-said r account' ∙ all_lines h)) (shown p)

show-shown : {list trace account : List ℕ} {r : Answered} {trace' account' : List ℕ} → Ran list trace account r trace' account'
    → {list₂ : List ℕ} {c : Result Counts ℕ} {records bytes out : List ℕ} {n : ℕ} {out' : List ℕ} → Printed (show_said list₂ c records bytes) out 0 n out' → list₂ ≡ list → c ≡ said_of r → records ≡ trace' → bytes ≡ account'
    → Shown (pick (eqb r.number 0) (head_line list ++ step_lines list trace' ++ account_lines r account') (refused_line r.number)) out n out'
show-shown {list} {r = r} {trace'} {account'} h {out = out} {n} {out'} p d e f g = subst (λ (t : List ℕ). Shown t out n out') (rw (d, e, f, g) (show-said list r trace' account' ∙ all_shown h)) (shown p)

pub texts : TextsKept
texts =
    record {
      handed_on = handed_on;
      handed_on_by = λ κs a r e h. h ∙ sym (handed_on a.0);
      account = λ κs a r e h κs₂ b n e₂ k. account-shown h k.0;
      shown = λ κs a r e h κs₂ b n e₂ k. show-shown h k.0;
      traced = λ κs a r e h. shown h.0;
      account_most = λ κs a r e h. h.1;
      show_most = λ κs a r e h. h.1;
      trace_most = λ κs a r e h. h.1;
    }
