-- Demand 2 about one step: the store s, the action x, and what the step answers. Assumes nothing.
use Rattle.std.specs.Prelude.{◌≡◌, true, eqb}
use Rattle.figure.specs.Account.{refused, event}
use Rattle.figure.specs.Agree.{Agrees}
use Rattle.figure.specs.Event.{event_view}
use Rattle.figure.specs.Figure.{accepted, next}
use Rattle.figure.specs.Refusals.{pick, first_of}
use Rattle.figure.specs.declared.Record.{Record}
use Rattle.shape.specs.Shaped.{Shaped}
use Rattle.shape.specs.Sound.{sound_of}
use Rattle.shape.specs.Step.{action_of, form_refused, Stepped}
use Rattle.shape.specs.Trace.{traced}
use Rattle.shape.specs.View.{view}
use Rattle.shape.specs.declared.Store.{Store}

pub record Steps (s : Store) (x : Record) (t : Stepped) : Type 0 where
  -- "accepted exactly when Figure 2 allows it and the queues it adds to have room"
  pub exactly : eqb t.number 0 ≡ accepted s.sizes (view s) (action_of x)
  -- "next state and value are the figure's"
  pub next_state : t.number ≡ 0 → Agrees s.sizes (view t.store) (next (view s) (action_of x))
  pub value : event_view (traced t) ≡ pick (accepted s.sizes (view s) (action_of x)) (event (view s) (action_of x)) refused
  -- the sizes stay, and the store stays sound
  pub sizes_kept : t.store.sizes ≡ s.sizes
  pub sound_kept : sound_of t.store ≡ true

-- a step that meets demand 2: "On a sound store a well-formed step .."
abbrev pub Meets : (Store → Record → Stepped) → Type 0
Meets f = (s : Store) (x : Record) → Shaped s → sound_of s ≡ true → first_of (form_refused s.sizes x) ≡ 0 → Steps s x (f s x)
