-- A trace record, by what it tells: a read, a write, a publication, a taking, or nothing that changes the book. Assumes nothing.
use Prim.Native.Nat.{ℕ}
use mathlib.Core.Path.{◌≡◌, refl}
use mathlib.Core.Bool.{Bool, true, false}
use lib.Dec.{eqb}
use borrow.Author.Tests.{eqb-true}
use Rattle.figure.specs.Account.{Event, read, wrote, published, updated, Book, note}
use Rattle.figure.specs.Refusals.{pick}
use Rattle.figure.specs.declared.Record.{Record}
use Rattle.figure.specs.Event.{event_view}

-- the last: the book stays
pub data Told (r : Record) : Event → Type 0 where
  reads : r.kind ≡ 1 → Told r (read r.engine.0 r.address.0 r.«data»)
  writes : r.kind ≡ 2 → Told r (wrote r.engine.0 r.address.0 r.«data»)
  publishes : r.kind ≡ 3 → Told r (published r.engine.0 r.address.0 r.«data»)
  takes : r.kind ≡ 5 → Told r (updated r.engine.0 r.origin.0 r.address.0 r.«data»)
  other : {e : Event} → eqb r.kind 1 ≡ false → eqb r.kind 2 ≡ false → eqb r.kind 3 ≡ false → eqb r.kind 5 ≡ false
      → ((t : ℕ) (b : Book) → note t e b ≡ b) → Told r e

either : {A : Type 0} (P : A → Type 0) (t : Bool) (a b : A) → (t ≡ true → P a) → (t ≡ false → P b) → P (pick t a b)
either P true a b f g = f refl
either P false a b f g = g refl

-- a number that is j is no m
apart : (k j m : ℕ) → eqb j m ≡ false → eqb k j ≡ true → eqb k m ≡ false
apart k j m e q = rw (eqb-true k j q) e

pub told : (r : Record) → Told r (event_view r)
told r =
    let k = r.kind in
    let case = either (Told r) in
    case (eqb k 1) _ _ (λ q. reads (eqb-true k 1 q))
    (λ n. case (eqb k 2) _ _ (λ q. writes (eqb-true k 2 q))
    (λ w. case (eqb k 3) _ _ (λ q. publishes (eqb-true k 3 q))
    (λ m. case (eqb k 4) _ _ (λ q. other n w m (apart k 4 5 refl q) (λ t b. refl))
    (λ _. case (eqb k 5) _ _ (λ q. takes (eqb-true k 5 q))
    (λ l. case (eqb k 6) _ _ (λ q. other n w m l (λ t b. refl))
    (λ _. other n w m l (λ t b. refl)))))))
