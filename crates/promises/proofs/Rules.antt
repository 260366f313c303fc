-- The rules' other sentences hold of the calls. Assumes nothing.
use mathlib.Core.Path.{◌≡◌, refl, sym, ap, ◌∙◌}
use mathlib.Core.List.{List}
use Rattle.std.specs.Prelude.{Option}
use Prim.Native.Nat.{ℕ, zero, suc, ◌≤◌}
use native.Mathlib.Omega.{arith}
use denote.Ref.{Bor}
use lib.ListN.{length, get_or}
use Rattle.shape.specs.contracts as shape
use Rattle.figure.specs.Agree.{Agrees}
use Rattle.figure.specs.Figure as Figure
use Rattle.figure.specs.Refusals.{first_of, unless}
use Rattle.figure.specs.declared.Record.{Record}
use Rattle.figure.specs.declared.Sizes.{Sizes}
use Rattle.lists.proofs.Largest.{taken-most, written-most}
use Rattle.lists.proofs.Walks.{all-actions, past_the_end}
use Rattle.lists.proofs.Wrote.{not_judged}
use Rattle.lists.specs.Bytes.{rows}
use Rattle.lists.specs.Read.{actions_of}
use Rattle.lists.specs.Walk.{handed, Calls}
use Rattle.lists.specs.Walk as Walk
use Rattle.lists.specs.Write.{Written, write_refused, bytes_written, Wrote}
use Rattle.lists.specs.declared.walker.Walker.{Walker}
use Rattle.shape.proofs.Bridge.{fresh-agrees}
use Rattle.shape.proofs.Kept.{fresh-table}
use Rattle.shape.proofs.Numbers.{made-number, made-store, made-sound, made-unsound}
use Rattle.shape.proofs.Unused.{keeps-unused}
use Rattle.shape.proofs.Used.{same_answer}
use Rattle.shape.specs.Fresh.{made}
use Rattle.shape.specs.Step.{Stepped, stepped, stepped_by, answer_of, answer_by}
use Rattle.shape.specs.Unused.{SameUsed, SameAnswer}
use Rattle.shape.specs.View.{view}
use Rattle.shape.specs.declared.Answer.{Answer}
use Rattle.shape.specs.declared.Store.{Store}
use Rattle.promises.proofs.Typed.{of-shaped}
use Rattle.promises.specs.Demand2.{Value, together}
use Rattle.promises.specs.Rules.{Walked, none, more, RulesKept}

fresh_is : (z : Sizes) (table : List ℕ) → (made z table).number ≡ 0 → Agrees z (view (made z table).store) (Figure.fresh (λ a. get_or table a 0))
fresh_is z table e = rw (made-store z table e) (fresh-agrees z table (fresh-table z table (sym (made-number z table) ∙ e)))

both : (s t : Store) (x y : Record) (r : Stepped) (q : Answer) (t' : Store) → r ≡ stepped s x → (t' ≡ (stepped t y).store) × (q ≡ answer_of (stepped t y)) → s ≡ t → x ≡ y → r ≡ together q t'
both s t x y r q t' h k e f = rw (h, e, f, k.0, k.1)

unused : (s t : Store) (x y : Record) (r q : Stepped) → r ≡ stepped s x → q ≡ stepped t y → Value shape.Store.the_row s → Value shape.Store.the_row t → SameUsed s t → x ≡ y → SameAnswer r q
unused s t x y r q h k v w u e = rw (h, k, ← (e)) (same_answer s t (of-shaped s v.0 v.1) (of-shaped t w.0 w.1) u x)

same-judged : (z z₂ : Sizes) (memory memory₂ actions actions₂ : List ℕ) (m n : ℕ) → z ≡ z₂ → memory ≡ memory₂ → length actions ≡ length actions₂ → m ≡ n
    → first_of (write_refused z memory actions m) ≡ first_of (write_refused z₂ memory₂ actions₂ n)
same-judged z z₂ memory memory₂ actions actions₂ m n e f g k = rw (e, f, k) (not_judged z₂ memory₂ actions actions₂ n g)

most-written : {z : Sizes} {memory actions out : List ℕ} {r : Written} {out' : List ℕ} → Wrote z memory actions out r out' → r.length ≤ 16648
unfolding bytes_written unless
most-written {z} {memory} {actions} {out} h = rw h.length_is (at (first_of (write_refused z memory actions (length out))) refl)
  where
    at : (k : ℕ) → first_of (write_refused z memory actions (length out)) ≡ k → length (bytes_written z memory actions (length out)) ≤ 16648
    at zero e = rw (e) (written-most z memory actions (length out) e)
    at (suc k) e = rw (e) (omega arith)

walked-calls : {w w' : Walker} {fs : List (Option Record)} → Walked w fs w' → Calls w fs w'
walked-calls none = Walk.none
walked-calls (more κs a r e h c) = Walk.more h.0 (walked-calls c)

hands_out : (list : Bor (List ℕ)) (w : Walker) → (w.list ≡ list) × (w.place ≡ 0) → (fs : List (Option Record)) (w' : Walker) → Walked w fs w' → length (actions_of list.now) ≤ length fs → rows handed fs ≡ actions_of list.now
hands_out list w h fs w' c n = rw (← h.0) (all-actions (walked-calls c) h.1 (rw h.0 n))

pub rules : RulesKept
rules =
    record {
      fresh_is = λ κs a r e h n. rw (h) (fresh_is a.0 a.1.0.now (rw (← (h)) n));
      fresh_sound = λ κs a r e h n. rw (h) (made-sound a.0 a.1.0.now (rw (← (h)) n));
      zeros_unsound = λ κs a r e h n. rw (h) (made-unsound a.0 a.1.0.now (rw (← (h)) n));
      both = λ κs a r e h κs₂ b q e₂ k. both a.0 b.0.now a.1.0 b.1.0 (stepped_by r) (answer_by q) e₂.0.now h k;
      unused = λ κs a r e h κs₂ b q e₂ k. unused a.0 b.0 a.1.0 b.1.0 (stepped_by r) (stepped_by q) h k;
      unused_kept = λ κs a r e h. rw (ap (λ (u : Stepped). u.store) h) (keeps-unused a.0 a.1.0);
      not_judged = λ κs a r e h κs₂ b q e₂ k z m s t. h.number_is ∙ (same-judged _ _ _ _ _ _ _ _ z m s t ∙ sym k.number_is);
      largest_read = λ κs a r e h n. taken-most a.0.now (rw (← (h)) n);
      largest_written = λ κs a r e h. most-written h;
      hands_out = λ κs a r e h. hands_out a.0 r h;
      none_left = λ κs a r e h. past_the_end h.0;
      counts = λ κs a r e h. h;
    }
