-- On every run from fresh: a slot for each published write and one before them, and nobody has taken or published more. Assumes nothing.
use Prim.Native.Nat.{ℕ, zero, suc, ◌≤◌, ◌<◌, zero-le}
use native.Mathlib.Nat.{le_refl}
use native.Mathlib.Omega.{arith}
use mathlib.Core.Path.{◌≡◌, refl, ◌∙◌}
use mathlib.Core.Option.{Option}
use mathlib.Core.List.{List, [], ◌∷◌}
use lib.ListN.{length, length-append}
use Rattle.figure.specs.Account.{Event, published, updated, head_out, head_in, event, Item, Ledger, blank_ledger, enter, ledger, Book, blank, note}
use Rattle.figure.specs.Demand.{trace_of, book_of}
use Rattle.figure.specs.Figure.{Out, In, up, State, Step, R, MW, CU, fresh, after}
use Rattle.figure.specs.declared.Sizes.{Sizes}
use Rattle.figure.proofs.Entries.{book-ledger}
use Rattle.figure.proofs.Laws.{upd-one, length-put, leave}
use Rattle.figure.proofs.Run.{run-keeps}
use Rattle.figure.proofs.Serial.{View, Linked, nil, one, Inv, inv-fresh, inv-next}

-- a floor is below the number of slots
pub floor-within : (T : ℕ) (m : ℕ → ℕ) (ss : List (List Item)) (c : ℕ → Option ℕ) (q : List In) → View T m ss c q → T < length ss
floor-within T m [] c q h = absurd h
floor-within zero m (s ∷ ss) c q h = omega arith
floor-within (suc T) m (s ∷ ss) c q h = omega (arith, floor-within T (leave m s) ss c q h)

-- an engine's last write is one of those that are published, whatever happened
own-most : (es : List Event) (l : Ledger) → ((i : ℕ) → l.own i ≤ l.published) → (i : ℕ) → (ledger es l).own i ≤ (ledger es l).published
own-most [] l h = h
own-most (e ∷ es) l h = own-most es (enter e l) (at e)
  where
    at : (e : Event) (i : ℕ) → (enter e l).own i ≤ (enter e l).published
    at (published i a d) = upd-one (λ j n. n ≤ suc l.published) l.own i (suc l.published) (le_refl _) (λ j _. omega (arith, h j))
    at (updated i zero a d) = h
    at e = h

-- ---- a slot for each published write, and slot 0

abbrev Slotted : Book → Type 0
Slotted b = length b.slots ≡ suc b.ledger.published

module _ (mem : ℕ → ℕ) (z : Sizes) where
  module _ (s : State) (b : Book) (h : Inv mem s b) (k : Slotted b) where
    slotted-out : (t : ℕ) {i : ℕ} {p : List Item} {q : List Out} → b.pending i ≡ p → Linked i p q → Slotted (note t (head_out i q) b)
    slotted-out t e nil = k
    slotted-out t e (one l) = rw (e) (length-append b.slots _ ∙ omega arith)

    slotted-in : (t i : ℕ) (q : List In) → Slotted (note t (head_in i q) b)
    slotted-in t i [] = k
    slotted-in t i (up zero a d ∷ q) = k
    slotted-in t i (up (suc o) a d ∷ q) = k

    slotted-next : (t : ℕ) (x : Step) → Slotted (note t (event s x) b)
    slotted-next t (R i a) = length-put _ (b.ledger.taken i) b.slots ∙ k
    slotted-next t (MW i) = slotted-out t refl (h.linked i)
    slotted-next t (CU i) = slotted-in t i (s.engine i).ins
    slotted-next t x = k

  reached : (xs : List Step) → let b = book_of z mem xs in Inv mem (after z (fresh mem) xs) b × Slotted b
  reached xs =
      run-keeps z (λ s b l. Inv mem s b × Slotted b) (λ t s b l x e h. (inv-next mem s b h.0 z t x e, slotted-next s b h.0 h.1 t x)) 0 (fresh mem) blank [] xs (inv-fresh mem, refl)

  pub slots-published : (xs : List Step) → length (book_of z mem xs).slots ≡ suc (book_of z mem xs).ledger.published
  slots-published xs = (reached xs).1

  pub taken-published : (xs : List Step) (i : ℕ) → (book_of z mem xs).ledger.taken i ≤ (book_of z mem xs).ledger.published
  taken-published xs i =
      let b = book_of z mem xs in
      let r = reached xs in
      omega (arith, r.1, floor-within (b.ledger.taken i) mem b.slots _ _ (r.0.view i))

  pub own-published : (xs : List Step) (i : ℕ) → (book_of z mem xs).ledger.own i ≤ (book_of z mem xs).ledger.published
  own-published xs = rw (book-ledger 0 (trace_of z mem xs) blank) (own-most (trace_of z mem xs) blank_ledger (λ i. zero-le))
