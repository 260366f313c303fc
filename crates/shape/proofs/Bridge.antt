-- Demand 2: the store is Figure 2. A step is accepted exactly if the figure accepts it; its next state and its event are the figure's. Assumes nothing.
use mathlib.Core.Path.{◌≡◌, refl, sym, ap, ◌∙◌}
use mathlib.Core.Bool.{Bool, true, false}
use mathlib.Core.List.{List, [], map}
use mathlib.Core.Option.{none, some}
use Prim.Native.Nat.{ℕ, suc, pred}
use native.Mathlib.Omega.{arith}
use lib.Dec.{eqb}
use lib.ListN.{length, get_or, get_or-append}
use borrow.Author.Tests.{eqb-true, eqb-false, eq-eqb, ne_eqb, ltb-true}
use Rattle.figure.specs.Account.{refused, event}
use Rattle.figure.specs.Event.{event_view}
use Rattle.figure.specs.Figure.{Step, R, fresh, accepted, step}
use Rattle.figure.specs.Refusals.{pick, first_of, most_engines, most_addresses}
use Rattle.figure.specs.declared.Record.{Record}
use Rattle.figure.specs.declared.Sizes.{Sizes}
use Rattle.figure.proofs.Respects.{agrees-refl}
use Rattle.figure.specs.Agree.{Agrees}
use Rattle.shape.proofs.Exactly.{turn-accepted}
use Rattle.shape.proofs.Kept.{sound-parts, keeps-sound, keeps-sizes}
use Rattle.shape.proofs.Next.{next-agrees, event-agrees}
use Rattle.shape.proofs.Numbers.{form-number, turn-number}
use Rattle.shape.proofs.Places.{get_or-replicate-each}
use Rattle.shape.specs.Shaped.{Shaped}
use Rattle.shape.proofs.Taken.{asked, Answers, takes, keeps, answers}
use Rattle.shape.specs.Demand.{Steps, Meets}
use Rattle.shape.specs.Fresh.{fresh_of, empty_cache, empty_out, empty_in}
use Rattle.shape.specs.Parts.{out_of, in_of, cached_value, no_out, no_in, no_cache}
use Rattle.shape.specs.Sound.{sound_of}
use Rattle.shape.specs.Step.{form_refused, action_of, stepped, Stepped}
use Rattle.shape.specs.Trace.{traced}
use Rattle.shape.specs.View.{out_view, in_view, cache_view, view, step_view}
use Rattle.shape.specs.declared.Cache.{Cache}
use Rattle.shape.specs.declared.InQueue.{InQueue}
use Rattle.shape.specs.declared.OutQueue.{OutQueue}
use Rattle.shape.specs.declared.Store.{Store}

-- ---- the step that a record stands for

pub formed-view : (z : Sizes) (x : Record) → first_of (form_refused z x) ≡ 0 → step_view z x ≡ action_of x
formed-view z x e = rw (eq-eqb (first_of (form_refused z x)) 0 e)

bad-view : (z : Sizes) (x : Record) → ¬ (first_of (form_refused z x) ≡ 0) → step_view z x ≡ R 0 0
bad-view z x n = rw (ne_eqb (first_of (form_refused z x)) 0 n)

module _ (s : Store) (h : sound_of s ≡ true) (g : Shaped s) (x : Record) where
  accepts-formed : first_of (form_refused s.sizes x) ≡ 0 → eqb (stepped s x).number 0 ≡ accepted s.sizes (view s) (action_of x)
  accepts-formed e = ap (λ (n : ℕ). eqb n 0) (turn-number s x h e) ∙ turn-accepted s (sound-parts s h) g (asked s.sizes x e)

  -- accepted exactly if the figure accepts it; a badly formed record never is
  pub accepts : eqb (stepped s x).number 0 ≡ accepted s.sizes (view s) (step_view s.sizes x)
  accepts = at (eqb (first_of (form_refused s.sizes x)) 0) refl
    where
      at : (t : Bool) → eqb (first_of (form_refused s.sizes x)) 0 ≡ t → eqb (stepped s x).number 0 ≡ accepted s.sizes (view s) (step_view s.sizes x)
      at true e = let f = eqb-true _ 0 e in rw (formed-view s.sizes x f) (accepts-formed f)
      at false e = let f = eqb-false _ 0 e in rw (bad-view s.sizes x f, form-number s x h f) e

  -- a step that is taken is the one its record asks for
  taken-view : (stepped s x).number ≡ 0 → step_view s.sizes x ≡ action_of x
  taken-view e = at (eqb (first_of (form_refused s.sizes x)) 0) refl
    where
      at : (t : Bool) → eqb (first_of (form_refused s.sizes x)) 0 ≡ t → step_view s.sizes x ≡ action_of x
      at true f = formed-view s.sizes x (eqb-true _ 0 f)
      at false f = let k = eqb-false _ 0 f in absurd (k (sym (form-number s x h k) ∙ e))

  answer-step : {t : Stepped} → Answers s x t → (y : Step) → (t.number ≡ 0 → y ≡ action_of x) → eqb t.number 0 ≡ accepted s.sizes (view s) y → Agrees s.sizes (view t.store) (step s.sizes (view s) y)
  answer-step (takes i k) y v a = rw (← a, v refl) (next-agrees s (sound-parts s h) g k)
  answer-step (keeps n) y v a = rw (← a, ne_eqb (suc n) 0 (omega arith)) (agrees-refl s.sizes (view s))

  answer-event : {t : Stepped} → Answers s x t → (y : Step) → (t.number ≡ 0 → y ≡ action_of x) → eqb t.number 0 ≡ accepted s.sizes (view s) y
      → event_view (traced t) ≡ pick (accepted s.sizes (view s) y) (event (view s) y) refused
  answer-event (takes i k) y v a = rw (← a, v refl) (event-agrees s (sound-parts s h) g k)
  answer-event (keeps n) y v a = rw (← a, ne_eqb (suc n) 0 (omega arith))

  -- the next state is the figure's, of every record
  pub steps : Agrees s.sizes (view (stepped s x).store) (step s.sizes (view s) (step_view s.sizes x))
  steps = answer-step (answers s x) (step_view s.sizes x) taken-view accepts

  -- what the trace tells is the figure's event, of every record
  pub tells : event_view (traced (stepped s x)) ≡ pick (accepted s.sizes (view s) (step_view s.sizes x)) (event (view s) (step_view s.sizes x)) refused
  tells = answer-event (answers s x) (step_view s.sizes x) taken-view accepts

  -- "a well-formed step"
  pub demand-2 : first_of (form_refused s.sizes x) ≡ 0 → Steps s x (stepped s x)
  demand-2 f =
      let v = formed-view s.sizes x f in
      record {
        exactly = accepts-formed f;
        next_state = λ e. let a = sym (accepts-formed f) ∙ eq-eqb (stepped s x).number 0 e in rw (v, a) at steps;
        value = rw (v) at tells;
        sizes_kept = keeps-sizes s x;
        sound_kept = keeps-sound s x h;
      }

pub meets : Meets stepped
meets s x g h f = demand-2 s h g x f

-- ---- "A fresh store has the given memory, empty caches and empty queues."

pub fresh-agrees : (z : Sizes) (table : List ℕ) → length table ≡ z.addresses → Agrees z (view (fresh_of z table)) (fresh (λ a. get_or table a 0))
unfolding fresh_of
fresh-agrees z table e = record {
  memory = λ a w. get_or-append table _ 0 a (rw (e) (ltb-true a z.addresses w));
  engine = λ i y. record {
    cache = λ a w. get_or-replicate-each (λ (c : Cache). cache_view c a ≡ none) most_engines (pred i) empty_cache no_cache (absent a) refl;
    outs = get_or-replicate-each (λ (q : OutQueue). map out_view (out_of q) ≡ []) most_engines (pred i) empty_out no_out refl refl;
    ins = get_or-replicate-each (λ (q : InQueue). map in_view (in_of q) ≡ []) most_engines (pred i) empty_in no_in refl refl;
  };
}
  where
    absent : (a : ℕ) → cache_view empty_cache a ≡ none
    absent a = get_or-replicate-each (λ (t : Bool). pick t (some (cached_value empty_cache (record { 0 = a }))) none ≡ none) most_addresses a false false refl refl
