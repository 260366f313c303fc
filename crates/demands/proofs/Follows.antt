-- The store's steps follow Figure 2's: one trace, and states that agree after every action. Assumes nothing.
use mathlib.Core.Bool.{Bool, true, false}
use mathlib.Core.List.{List, map}
use mathlib.Core.Path.{◌≡◌, refl, sym, subst, ◌∙◌}
use Prim.Native.Nat.{ℕ}
use Rattle.figure.specs.Account.{refused, event, happened, trace}
use Rattle.figure.specs.Event.{event_view}
use Rattle.figure.specs.Figure.{State, Step, accepted, next, step, after}
use Rattle.figure.specs.Refusals.{pick}
use Rattle.figure.specs.declared.Record.{Record}
use Rattle.figure.specs.declared.Sizes.{Sizes}
use Rattle.figure.proofs.Respects.{agrees-trans, accepted-agrees, next-agrees, event-agrees}
use Rattle.figure.specs.Agree.{Agrees}
use Rattle.figure.proofs.Machines.{below}
use Rattle.figure.proofs.Run.{after-runs, trace-tape}
use Rattle.figure.proofs.Simulates.{simulates-each}
use Rattle.shape.specs.Sound.{sound_of}
use Rattle.shape.specs.Turns.{store_after, trace_after}
use Rattle.shape.specs.View.{view, step_view}
use Rattle.shape.specs.declared.Store.{Store}
use Rattle.shape.proofs.Bridge.{steps, tells}
use Rattle.shape.proofs.Kept.{keeps-sound, keeps-sizes}
use Rattle.shape.proofs.Shaped.{keeps-shaped}
use Rattle.shape.specs.Shaped.{Shaped}
use Rattle.shape.proofs.Trails.{next_store, next_record, store-trail, trace-trail}

-- ---- two states that agree take a step alike

module _ (z : Sizes) (s r : State) (h : Agrees z s r) (x : Step) where
  step-agrees : Agrees z (step z s x) (step z r x)
  step-agrees = at (accepted z s x) (accepted z r x) refl (sym (accepted-agrees z s r h x))
    where
      at : (t u : Bool) → accepted z s x ≡ t → u ≡ accepted z s x → Agrees z (pick t (next s x) s) (pick u (next r x) r)
      at true u e f = rw (f ∙ e) (next-agrees z s r h x e)
      at false u e f = rw (f ∙ e) h

  happened-agrees : happened z s x ≡ happened z r x
  happened-agrees = at (accepted z s x) (accepted z r x) refl (sym (accepted-agrees z s r h x))
    where
      at : (t u : Bool) → accepted z s x ≡ t → u ≡ accepted z s x → pick t (event s x) refused ≡ pick u (event r x) refused
      at true u e f = rw (f ∙ e) (event-agrees z s r h x e)
      at false u e f = rw (f ∙ e) refl

-- ---- a store beside a state

module _ (z : Sizes) where
  pub record Beside (s : Store) (r : State) : Type 0 where
    pub sizes : s.sizes ≡ z
    pub sound : sound_of s ≡ true
    pub shaped : Shaped s
    pub state : Agrees z (view s) r

  module _ (s : Store) (r : State) (b : Beside s r) (x : Record) where
    beside-state : Agrees z (view (next_store s x)) (step z r (step_view z x))
    beside-state =
        agrees-trans z
        (subst (λ (z : Sizes). Agrees z (view (next_store s x)) (step z (view s) (step_view z x))) b.sizes (steps s b.sound b.shaped x))
        (step-agrees z (view s) r b.state (step_view z x))

    beside-event : event_view (next_record s x) ≡ happened z r (step_view z x)
    beside-event =
        subst (λ (z : Sizes). event_view (next_record s x) ≡ happened z (view s) (step_view z x)) b.sizes (tells s b.sound b.shaped x)
        ∙ happened-agrees z (view s) r b.state (step_view z x)

    beside-more : Beside (next_store s x) (step z r (step_view z x)) × (event_view (next_record s x) ≡ happened z r (step_view z x))
    beside-more = (
      record {
        sizes = keeps-sizes s x ∙ b.sizes;
        sound = keeps-sound s x b.sound;
        shaped = keeps-shaped s x b.shaped;
        state = beside-state;
      },
      beside-event,
    )

-- ---- the first n actions

abbrev pub steps_below : Sizes → (ℕ → Record) → ℕ → List Step
steps_below z x n = map (step_view z) (below x n)

pub record Followed (s : Store) (r : State) (x : ℕ → Record) (n : ℕ) : Type 0 where
  pub beside : Beside s.sizes (store_after s x n) (after s.sizes r (steps_below s.sizes x n))
  pub events : map event_view (trace_after s x n) ≡ trace s.sizes r (steps_below s.sizes x n)

pub follows : (s : Store) (r : State) (x : ℕ → Record) → sound_of s ≡ true → Shaped s → Agrees s.sizes (view s) r → (n : ℕ) → Followed s r x n
follows s r x h k a n =
    let z = s.sizes in
    let m = simulates-each next_store next_record (step z) (happened z) (step_view z) event_view (Beside z) (λ s r x b. beside-more z s r b x) s r (below x n) (record { sizes = refl; sound = h; shaped = k; state = a }) in
    record {
      beside = rw (store-trail s x n, after-runs z r (steps_below z x n)) m.0;
      events = rw (trace-trail s x n, trace-tape z r (steps_below z x n)) m.1;
    }
