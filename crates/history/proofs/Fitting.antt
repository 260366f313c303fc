-- The events of a run fit the book that stands before each of them. Assumes nothing.
use Prim.Native.Nat.{ℕ, zero, suc, ◌+◌, ◌<◌}
use native.Mathlib.Omega.{arith}
use mathlib.Core.Path.{◌≡◌, refl}
use mathlib.Core.Bool.{Bool, true, false}
use mathlib.Core.List.{List, [], ◌∷◌, ◌++◌, map, map-append}
use lib.ListN.{length, length-map}
use Rattle.figure.specs.declared.Record.{Record}
use Rattle.figure.specs.declared.Sizes.{Sizes}
use Rattle.figure.specs.Refusals.{pick}
use Rattle.figure.specs.Figure.{Out, In, up, State, Step, R, W, MW, MR, CU, CI, engine?, named, accepted, next, step}
use Rattle.figure.specs.Account.{Event, refused, read, wrote, published, refreshed, updated, dropped, head_out, head_in, event, happened, trace, Item, writing, Book, blank, note, book}
use Rattle.figure.specs.Event.{event_view}
use Rattle.figure.proofs.Laws.{and_left}
use Rattle.figure.proofs.Published.{floor-within}
use Rattle.figure.proofs.Run.{book-append}
use Rattle.figure.proofs.Simulates.{in_step}
use Rattle.figure.proofs.Serial.{Linked, nil, one, Inv, inv-next}
use Rattle.history.specs.Pieces.{records_below}
use Rattle.history.proofs.Bounds.{records-long}

-- the oldest of the writes is i's write of d at a
pub record Oldest (i a d : ℕ) (p : List Item) : Type 0 where
  pub time : ℕ
  pub rest : List Item
  pub whole : p ≡ writing time i a d ∷ rest

-- a read falls into a slot that is there, a publication has that very write to publish, and who reads is an engine
abbrev pub Fit : Sizes → Book → Event → Type 0
Fit z b refused = Unit {0}
Fit z b (read i a d) = (engine? z i ≡ true) × (b.ledger.taken i < length b.slots)
Fit z b (wrote i a d) = Unit {0}
Fit z b (published i a d) = Oldest i a d (b.pending i)
Fit z b (refreshed i a d) = Unit {0}
Fit z b (updated i o a d) = Unit {0}
Fit z b (dropped i a) = Unit {0}

-- each event fits the book before it
abbrev pub FitsEach : Sizes → ℕ → List Event → Book → Type 0
FitsEach z t [] b = Unit {0}
FitsEach z t (e ∷ es) b = Fit z b e × FitsEach z (suc t) es (note t e b)

-- ---- the events of a list of steps

module _ (z : Sizes) (mem : ℕ → ℕ) where
  module _ (s : State) (b : Book) (h : Inv mem s b) where
    fit-publish : {i : ℕ} {p : List Item} {q : List Out} → Linked i p q → b.pending i ≡ p → Fit z b (head_out i q)
    fit-publish nil e = tt
    fit-publish (one {t} {p = p} l) e = record { time = t; rest = p; whole = e }

    fit_next : (x : Step) → accepted z s x ≡ true → Fit z b (event s x)
    fit_next (R i a) e =
        (and_left (engine? z i) _ (and_left (named z (R i a)) _ e), floor-within (b.ledger.taken i) mem b.slots _ _ (h.view i))
    fit_next (W i a d) e = tt
    fit_next (MW i) e = fit-publish (h.linked i) refl
    fit_next (MR i a) e = tt
    fit_next (CU i) e = at (s.engine i).ins
      where
        at : (q : List In) → Fit z b (head_in i q)
        at [] = tt
        at (up o a d ∷ q) = tt
    fit_next (CI i a) e = tt

  step_fits : (t : ℕ) (s : State) (b : Book) (x : Step) → Inv mem s b → Fit z b (happened z s x) × Inv mem (step z s x) (note t (happened z s x) b)
  step_fits t s b x h = at (accepted z s x) refl
    where
      at : (y : Bool) → accepted z s x ≡ y → let e = pick y (event s x) refused in Fit z b e × Inv mem (pick y (next s x) s) (note t e b)
      at true y = (fit_next s b h x y, inv-next mem s b h z t x y)
      at false y = (tt, h)

  -- beside the state: the number of the next action, and the book
  pub fits-run : (t : ℕ) (s : State) (b : Book) (xs : List Step) → Inv mem s b → FitsEach z t (trace z s xs) b
  fits-run t s b xs =
      in_step (step z) (λ s k x. (suc k.0, note k.0 (happened z s x) k.1)) (λ s k. Inv mem s k.1) (λ s k x h. (step_fits k.0 s k.1 x h).1)
      (λ s (k : ℕ × Book) xs. FitsEach z k.0 (trace z s xs) k.1) (λ s k h. tt) (λ s k x xs h q. ((step_fits k.0 s k.1 x h).0, q))
      s (t, b) xs

fits_snoc : (z : Sizes) (t : ℕ) (es : List Event) (e : Event) (b : Book) → FitsEach z t (es ++ (e ∷ [])) b → FitsEach z t es b × Fit z (book t es b) e
fits_snoc z t [] e b h = (tt, h.0)
fits_snoc z t (f ∷ es) e b h = let k = fits_snoc z (suc t) es e (note t f b) h.1 in ((h.0, k.0), k.1)

-- ---- the same of trace records, one after the other

module _ (x : ℕ → Record) where
  -- the book before event n
  unfoldable pub book_at : ℕ → Book
  book_at zero = blank
  book_at (suc n) = note n (event_view (x n)) (book_at n)

  abbrev pub events_below : ℕ → List Event
  events_below n = map event_view (records_below x n)

  events-more : (n : ℕ) → events_below (suc n) ≡ events_below n ++ (event_view (x n) ∷ [])
  unfolding records_below
  events-more n = map-append event_view (records_below x n) (x n ∷ [])

  pub book_is : (n : ℕ) → book 0 (events_below n) blank ≡ book_at n
  unfolding records_below book_at
  book_is zero = refl
  book_is (suc n) =
      let long : 0 + length (events_below n) ≡ n = omega (arith, length-map (records_below x n) event_view, records-long x n) in
      rw (events-more n, book-append 0 (events_below n) (event_view (x n) ∷ []) blank, long, book_is n)

  pub fits_more : (z : Sizes) (n : ℕ) → FitsEach z 0 (events_below (suc n)) blank → FitsEach z 0 (events_below n) blank × Fit z (book_at n) (event_view (x n))
  fits_more z n h = let k = fits_snoc z 0 (events_below n) (event_view (x n)) blank (rw (events-more n) at h) in (k.0, rw (book_is n) at k.1)
