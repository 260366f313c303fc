-- Document 01's four poor programs: what demand 2 shuts out. "One that refuses all, and one with a constant answer, fall to demand 2's "exactly". One that leaves the store alone, or carries out a whole list
-- at the first action and pretends later, falls to demand 2's next state at each step." Assumes nothing.
use mathlib.Core.Path.{◌≡◌, refl, sym, ap, ◌∙◌}
use mathlib.Core.Bool.{true, false, false≢true}
use mathlib.Core.List.{[], ◌∷◌}
use Prim.Native.Nat.{ℕ}
use native.Mathlib.Omega.{arith}
use lib.Dec.{eqb}
use lib.ListN.{length}
use borrow.Author.Tests.{eqb-true}
use Rattle.figure.specs.Refusals.{sizes_refused}
use Rattle.figure.specs.declared.Record.{Record}
use Rattle.figure.specs.declared.Sizes.{Sizes}
use Rattle.shape.proofs.Shaped.{fresh-shaped}
use Rattle.shape.specs.Demand.{Steps, Meets}
use Rattle.shape.specs.Fresh.{fresh_of}
use Rattle.shape.specs.Sound.{sound_of}
use Rattle.shape.specs.Step.{form_refused, stepped, step_refused, turn_refused, Stepped}
use Rattle.shape.specs.View.{view}
use Rattle.shape.specs.declared.Store.{Store}

-- one engine, one address, depth 1, memory 0: the engine can write, and cannot read
abbrev one : Sizes
one = record { engines = 1; addresses = 1; depth = 1 }

abbrev start : Store
start = fresh_of one (0 ∷ [])

abbrev action : ℕ → ℕ → Record
action k d = record { kind = k; engine = record { 0 = 1 }; origin = record { 0 = 0 }; address = record { 0 = 0 }; «data» = d }

abbrev write : Record
write = action 2 5

abbrev read : Record
read = action 1 0

abbrev publish : Record
publish = action 3 0

start-sound : sound_of start ≡ true
unfolding sound_of fresh_of sizes_refused
start-sound = refl

module _ (f : Store → Record → Stepped) (m : Meets f) where
  on-write : Steps start write (f start write)
  unfolding form_refused fresh_of
  on-write = m start write (fresh-shaped one (0 ∷ []) (omega arith)) start-sound refl

  on_read : Steps start read (f start read)
  unfolding form_refused fresh_of
  on_read = m start read (fresh-shaped one (0 ∷ []) (omega arith)) start-sound refl

  taken : eqb (f start write).number 0 ≡ true
  unfolding fresh_of
  taken = on-write.exactly

  refused : eqb (f start read).number 0 ≡ false
  unfolding fresh_of
  refused = on_read.exactly

  -- the write waits in the out queue
  waits : length ((view (f start write).store).engine 1).outs ≡ 1
  unfolding fresh_of
  waits = ap length ((on-write.next_state (eqb-true _ 0 taken)).engine 1 refl).outs

  -- "One that refuses all"
  pub not-all-refused : ¬ ((s : Store) (x : Record) → ¬ ((f s x).number ≡ 0))
  not-all-refused never = never start write (eqb-true _ 0 taken)

  -- "one with a constant answer", accepted steps too
  pub not-constant : (n : ℕ) → ¬ ((s : Store) (x : Record) → (f s x).number ≡ n)
  not-constant n same = false≢true (sym refused ∙ (ap (λ (k : ℕ). eqb k 0) (same start read ∙ sym (same start write)) ∙ taken))

  -- "One that leaves the store alone"
  pub not-left-alone : ¬ ((s : Store) (x : Record) → (f s x).store ≡ s)
  unfolding fresh_of
  not-left-alone alone = let e : ◌≡◌ {A = ℕ} 0 1 = sym (ap (λ (s : Store). length ((view s).engine 1).outs) (alone start write)) ∙ waits in omega arith

  -- one that "carries out a whole list at the first action": here a write and its publication
  pub not-ahead : ¬ ((f start write).store ≡ (stepped (stepped start write).store publish).store)
  unfolding fresh_of stepped step_refused form_refused turn_refused sound_of sizes_refused
  not-ahead ahead = let e : ◌≡◌ {A = ℕ} 0 1 = sym (ap (λ (s : Store). length ((view s).engine 1).outs) ahead) ∙ waits in omega arith
