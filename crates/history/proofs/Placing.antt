-- The ledger and the keys of a trace are the ledger and the slots of its book. Assumes nothing.
use Prim.Native.Nat.{ℕ, zero, suc, ◌≤◌, ◌<◌}
use native.Mathlib.Omega.{arith}
use mathlib.Core.Path.{◌≡◌, refl, sym, ap, ◌∙◌}
use mathlib.Core.Bool.{Bool, true, false, and-false}
use mathlib.Core.List.{List, [], ◌∷◌, ◌++◌, map, map-append}
use lib.Dec.{eqb, leb, eqb-zero-suc, eqb-suc-zero, eqb-suc-suc}
use lib.ListN.{length, get_or, length-append, get_or-append}
use lib.Seq.{get_or_at}
use borrow.Author.Tests.{ne_eqb, leb-true}
use Rattle.figure.specs.declared.Record.{Record}
use Rattle.figure.specs.declared.Sizes.{Sizes}
use Rattle.figure.specs.declared.WriteNumber.{WriteNumber}
use Rattle.figure.specs.declared.ledger.Ledger.{Ledger}
use Rattle.figure.specs.Refusals.{pick, most_engines, most_actions}
use Rattle.figure.specs.Figure.{engine?}
use Rattle.figure.specs.Account as account
use Rattle.figure.specs.Account.{Event, Item, reading, writing, take_one, Book, blank, join_slot, note}
use Rattle.figure.specs.Event.{event_view}
use Rattle.figure.specs.Ledger.{most_writes, is_engine, is_publication, entered, Small, Mirrors}
use Rattle.figure.proofs.Entries.{note-ledger, engine-is, holds-none, holds_more}
use Rattle.figure.proofs.Laws.{and_left, and_right, length-put}
use Rattle.figure.proofs.Told.{Told, reads, writes, publishes, takes, other, told}
use Rattle.demands.specs.Lines.{item_record}
use Rattle.sort.specs.Order.{add_if, in_slot}
use Rattle.history.specs.Pieces.{nowhere, is_of, is_waiting, tail_key, key_of, ledger_at, many_at, key_at, keys_below, line_record}
use Rattle.history.proofs.Bounds.{keys-long, ledger-small}
use Rattle.history.proofs.Marking.{of-engine}
use Rattle.history.proofs.Fitting.{Fit, FitsEach, book_at, events_below, fits_more}

-- ---- one more item in one slot

map-add_if : {A B : Type 0} (f : A → B) (t : Bool) (l : List A) (y : A) → map f (add_if t l y) ≡ add_if t (map f l) (f y)
map-add_if f true l y = map-append f l (y ∷ [])
map-add_if f false l y = refl

module _ (y : Item) where
  get_or-put : (T : ℕ) (ss : List (List Item)) (k : ℕ) → T < length ss → get_or (join_slot T y ss) k [] ≡ add_if (eqb T k) (get_or ss k []) y
  get_or-put T [] k h = absurd (omega arith)
  get_or-put zero (s ∷ ss) zero h = refl
  get_or-put zero (s ∷ ss) (suc k) h = rw (eqb-zero-suc k)
  get_or-put (suc T) (s ∷ ss) zero h = rw (eqb-suc-zero T)
  get_or-put (suc T) (s ∷ ss) (suc k) h = rw (eqb-suc-suc T k) (get_or-put T ss k (omega arith))

  get_or-open : (ss : List (List Item)) (k : ℕ) → get_or (ss ++ ((y ∷ []) ∷ [])) k [] ≡ add_if (eqb (length ss) k) (get_or ss k []) y
  get_or-open [] zero = refl
  get_or-open [] (suc k) = rw (eqb-zero-suc k)
  get_or-open (s ∷ ss) zero = rw (eqb-suc-zero (length ss))
  get_or-open (s ∷ ss) (suc k) = rw (eqb-suc-suc (length ss) k) (get_or-open ss k)

-- ---- the ledger of the trace is that of the book, which has a slot for each published write and one before them

pub record Even (l : Ledger) (b : Book) : Type 0 where
  pub holds : Mirrors l b.ledger
  pub slotted : length b.slots ≡ suc b.ledger.published

module _ (z : Sizes) (few : z.engines ≤ most_engines) where
  low : (i : ℕ) → engine? z i ≡ true → 1 ≤ i
  low i e = leb-true 1 i (and_left (leb 1 i) _ e)

  high : (i : ℕ) → engine? z i ≡ true → i ≤ most_engines
  high i e = omega (arith, leb-true i z.engines (and_right (leb 1 i) _ e))

  is-engine : (r : Record) → engine? z r.engine.0 ≡ true → is_engine r.engine ≡ true
  is-engine r e = engine-is r.engine (low r.engine.0 e) (high r.engine.0 e)

  module _ (l : Ledger) (b : Book) (h : Even l b) (t : ℕ) (r : Record) where
    -- an entry of origin o is taken
    taken-published : (g : account.Ledger) (i o : ℕ) → (take_one g i o).published ≡ g.published
    taken-published g i zero = refl
    taken-published g i (suc o) = refl

    slotted-more : {e : Event} → Told r e → Fit z b e → length (note t e b).slots ≡ suc (note t e b).ledger.published
    slotted-more (reads q) w = length-put _ (b.ledger.taken r.engine.0) b.slots ∙ h.slotted
    slotted-more (writes q) w = h.slotted
    slotted-more (publishes q) w = rw w.whole (length-append b.slots _ ∙ omega (arith, h.slotted))
    slotted-more (takes q) w = h.slotted ∙ ap suc (sym (taken-published b.ledger r.engine.0 r.origin.0))
    slotted-more (other _ _ _ _ s) w = rw (s t b) h.slotted

    even-more : (n : ℕ) → n < most_writes → Small n l → Fit z b (event_view r) → Even (entered l r) (note t (event_view r) b)
    even-more n m s w = record { holds = rw (note-ledger t (event_view r) b) (holds_more n m l b.ledger s h.holds r); slotted = slotted-more (told r) w }

    -- a key up to n is the slot where the book has the event; what has no slot has a key past n
    module _ (n : ℕ) (small : n < nowhere) (waits : Bool) (past : waits ≡ true → 1 ≤ r.engine.0) where
      abbrev Grows : List (List Item) → Type 0
      Grows ss = (k : ℕ) → k ≤ n → map item_record (get_or ss k []) ≡ add_if (eqb (key_of n l waits r) k) (map item_record (get_or b.slots k [])) (line_record r)

      far : (y : Bool) → (y ≡ true → 1 ≤ r.engine.0) → (k : ℕ) → k ≤ n → eqb (pick y (tail_key n r.engine.0) nowhere) k ≡ false
      far true p k u = ne_eqb (tail_key n r.engine.0) k (λ e. omega (arith, p refl))
      far false p k u = ne_eqb nowhere k (λ e. omega arith)

      grows-not : (ss : List (List Item)) → is_of 1 r ≡ false → is_publication r ≡ false → ss ≡ b.slots → Grows ss
      grows-not ss p q e k u = rw (p, q, far waits past k u, e)

      not-read : eqb r.kind 1 ≡ false → is_of 1 r ≡ false
      not-read e = rw (e) (and-false (is_engine r.engine))

      grows : {e : Event} → Told r e → Fit z b e → Grows (note t e b).slots
      grows (reads q) w k u =
          let i = r.engine.0 in
          let y : is_of 1 r ≡ true = rw (is-engine r w.0, q) in
          let line : item_record (reading t i r.address.0 r.«data») ≡ line_record r = rw (q) in
          rw (y, h.holds.taken.each i (low i w.0) (high i w.0), get_or-put (reading t i r.address.0 r.«data») (b.ledger.taken i) b.slots k w.1, map-add_if, line)
      grows (writes q) w k u = grows-not _ (not-read (rw (q))) (rw (q)) refl k u
      grows (publishes q) w k u =
          let i = r.engine.0 in
          let p : is_publication r ≡ true = rw (q) in
          let y = writing w.time i r.address.0 r.«data» in
          let line : item_record y ≡ line_record r = rw (q) in
          rw (not-read (rw (q)), p, h.holds.published, ← h.slotted, w.whole, get_or-open y b.slots k, map-add_if, line)
      grows (takes q) w k u = grows-not _ (not-read (rw (q))) (rw (q)) refl k u
      grows (other c _ m _ s) w k u = grows-not _ (not-read c) m (ap (λ (d : Book). d.slots) (s t b)) k u

-- ---- the keys of the trace

in-append : (s u : List ℕ) (k n : ℕ) → n ≤ length s → in_slot (s ++ u) k n ≡ in_slot s k n
unfolding in_slot
in-append s u k zero h = refl
in-append s u k (suc n) h = rw (get_or-append s u 0 n h, in-append s u k n (omega arith))

module _ (x : ℕ → Record) where
  -- the line of event j without its number
  abbrev pub line_event : ℕ → Record
  line_event j = line_record (x j)

  module _ (n : ℕ) where
    pub in-more : (k m : ℕ) → in_slot (keys_below x n (suc m)) k (suc m) ≡ add_if (eqb (key_at x n m) k) (in_slot (keys_below x n m) k m) m
    unfolding in_slot keys_below
    in-more k m =
        rw (get_or_at (keys_below x n m) (key_at x n m) [] 0 m (keys-long x n m), in-append (keys_below x n m) (key_at x n m ∷ []) k m (omega (arith, keys-long x n m)))

    -- the first m of n events: their ledger and slots are those of the book
    pub record Placed (m : ℕ) : Type 0 where
      pub even : Even (ledger_at x m) (book_at x m)
      pub slots : (k : ℕ) → k ≤ n → map item_record (get_or (book_at x m).slots k []) ≡ map line_event (in_slot (keys_below x n m) k m)

    waiting-engine : (p w : List WriteNumber) (e : Record) → is_waiting p w e ≡ true → 1 ≤ e.engine.0
    waiting-engine p w e y = (of-engine 2 e (and_left (is_of 2 e) _ y)).0

    pub placed : n ≤ most_actions → (z : Sizes) → z.engines ≤ most_engines → (m : ℕ) → m ≤ most_actions → FitsEach z 0 (events_below x m) blank → Placed m
    unfolding ledger_at book_at in_slot
    placed small z few zero u h = record { even = record { holds = holds-none; slotted = refl }; slots = at }
      where
        at : (k : ℕ) → k ≤ n → map item_record (get_or blank.slots k []) ≡ []
        at zero l = refl
        at (suc k) l = refl
    placed small z few (suc m) u h =
        let w = fits_more x z m h in
        let p = placed small z few m (omega arith) w.0 in
        let l = ledger_at x m in
        let b = book_at x m in
        record {
          even = even-more z few l b p.even m (x m) m (omega arith) (ledger-small x m) w.1;
          slots = λ k v. grows z few l b p.even m (x m) n (omega arith) (is_waiting (many_at x 3 n) (many_at x 2 m) (x m)) (waiting-engine (many_at x 3 n) (many_at x 2 m) (x m)) (told (x m)) w.1 k v
              ∙ rw (p.slots k v, in-more k m) (sym (map-add_if line_event (eqb (key_at x n m) k) (in_slot (keys_below x n m) k m) m));
        }
