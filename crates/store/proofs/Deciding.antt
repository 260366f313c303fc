-- What the action sees of the store decides the step. Assumes nothing.
use mathlib.Core.Path.{◌≡◌, ap}
use mathlib.Core.Bool.{true}
use Prim.Native.Nat.{ℕ, pred}
use native.Mathlib.Omega.{arith}
use Rattle.figure.specs.Refusals.{first_of}
use Rattle.figure.specs.declared.Record.{Record}
use Rattle.shape.specs.Sound.{sound_of}
use Rattle.shape.specs.Step.{form_refused, stepped, answer_of}
use Rattle.shape.specs.declared.Store.{Store}
use Rattle.shape.proofs.Kept.{Ranged, ranged, sound-parts}
use Rattle.shape.proofs.Taken.{asked}
use Rattle.decide.specs.Move.{move_of}
use Rattle.decide.specs.Turned.{Turned}
use Rattle.decide.specs.Effect.{done, Seen}
use Rattle.decide.proofs.Effects.{Carries, carries, decides}
use Rattle.decide.specs.declared.Look.{Look}
use Rattle.scan.specs.Scan.{PlaceIn, Looked, Decided}
use Rattle.scan.proofs.Laws.{formed-place}

module _ {s : Store} {x : Record} {m : Turned} where
  pub look-decides : {l : Look} → Looked s x l → m ≡ move_of s.sizes x l → Decided s x m
  look-decides {l} h w = record { look = l; sound = h.sound; seen = h.seen; is = w }

  -- the move's answer is the step's
  pub said-is : Decided s x m → m.said ≡ answer_of (stepped s x)
  said-is d = ap answer_of (decides s x (pred x.engine.0) d.look d.sound d.seen d.is)

-- the place that the code computes is the engine's
placed : (s : Store) (x : Record) {k : ℕ} → PlaceIn x.engine.0 k → sound_of s ≡ true → first_of (form_refused s.sizes x) ≡ 0 → k ≡ pred x.engine.0
placed s x p h f =
    let r : Ranged s.sizes = ranged s (sound-parts s h) in
    let n = formed-place (asked s.sizes x f) in
    p.exact (omega (arith, n.0, n.1, r.engines))

module _ {s : Store} {x : Record} {m : Turned} (d : Decided s x m) {k : ℕ} (p : PlaceIn x.engine.0 k) where
  seen-there : sound_of s ≡ true → first_of (form_refused s.sizes x) ≡ 0 → Seen s x k d.look
  seen-there h f = rw (placed s x p h f) (d.seen h f)

  -- it can be carried out on the store, and the step is what it does
  pub move-carries : Carries s k m
  move-carries = carries s x k d.look d.sound seen-there d.is

  pub move-steps : done m k s ≡ stepped s x
  move-steps = decides s x k d.look d.sound seen-there d.is
