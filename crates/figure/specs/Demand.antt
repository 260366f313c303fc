-- Demand 3, about the account of any list of steps from a fresh store. Assumes nothing.
use Rattle.std.specs.Prelude.{ℕ, suc, ◌≤◌, ◌≡◌, Bool, true, false, eqb, length, get_or}
use mathlib.Core.List.{List, [], ◌∷◌, ◌++◌, Perm}
use Rattle.figure.specs.declared.Sizes.{Sizes}
use Rattle.figure.specs.Figure.{upd, Step, fresh, engine?}
use Rattle.figure.specs.Account.{Event, Item, reading, writing, Book, blank, trace, log, book, account, settled_slots, settled}

-- "on one plain memory every read gets the value it got"
abbrev pub Serial : (ℕ → ℕ) → List Item → Type 0
Serial m [] = Unit {0}
Serial m (reading t i a d ∷ xs) = (m a ≡ d) × Serial m xs
Serial m (writing t i a d ∷ xs) = Serial (upd m a d) xs

-- an item's engine and its place in the list of actions
abbrev pub who : Item → ℕ
who (reading t i a d) = i
who (writing t i a d) = i

abbrev pub place : Item → ℕ
place (reading t i a d) = t
place (writing t i a d) = t

-- the events of engine i
abbrev pub keep : Bool → Item → List Item → List Item
keep true x xs = x ∷ xs
keep false x xs = xs

abbrev pub own : ℕ → List Item → List Item
own i [] = []
own i (x ∷ xs) = keep (eqb (who x) i) x (own i xs)

-- the places rise, from lo on and below hi: nothing is there twice
abbrev pub Rises : ℕ → ℕ → List Item → Type 0
Rises lo hi [] = lo ≤ hi
Rises lo hi (x ∷ xs) = (lo ≤ place x) × Rises (suc (place x)) hi xs

-- "begins"
pub record Begins {A : Type 0} (xs ys : List A) : Type 0 where
  pub rest : List A
  pub whole : xs ++ rest ≡ ys

-- the same slot by slot: whole slots, each in its place, and of the last of them a beginning
pub data Opens : List (List Item) → List (List Item) → Type 0 where
  none : {ts : List (List Item)} → Opens [] ts
  last : {s t : List Item} {ts : List (List Item)} → Begins s t → Opens (s ∷ []) (t ∷ ts)
  more : (s : List Item) {ss ts : List (List Item)} → Opens ss ts → Opens (s ∷ ss) (s ∷ ts)

-- the trace and the book of a list of steps from a fresh store with the table mem
abbrev pub trace_of : Sizes → (ℕ → ℕ) → List Step → List Event
trace_of z mem xs = trace z (fresh mem) xs

abbrev pub book_of : Sizes → (ℕ → ℕ) → List Step → Book
book_of z mem xs = book 0 (trace_of z mem xs) blank

abbrev pub log_of : Sizes → (ℕ → ℕ) → List Step → List Item
log_of z mem xs = log 0 (trace_of z mem xs)

-- "For any list the run accepts from a fresh store": every sizes, table and list of steps, refused ones among them
pub record Right (z : Sizes) (mem : ℕ → ℕ) (xs : List Step) : Type 0 where
  pub serial : Serial mem (account z (book_of z mem xs))
  pub once : Perm (account z (book_of z mem xs)) (log_of z mem xs)
  pub ordered : (i : ℕ) → own i (account z (book_of z mem xs)) ≡ own i (log_of z mem xs)
  pub no_other : (i : ℕ) → engine? z i ≡ false → own i (account z (book_of z mem xs)) ≡ []
  pub tagged : Rises 0 (length xs) (log_of z mem xs)
  -- "Within one slot, reads stand in the order they happened": whichever engines they are of, and behind the slot's write, which happened before them
  pub in_slots : (k : ℕ) → Rises 0 (length xs) (get_or (book_of z mem xs).slots k [])
  -- "What is settled at one moment begins what is settled, and the account, at every later moment": each event in its slot, and so event by event
  pub slots_stay : (ys : List Step) → Opens (settled_slots z (book_of z mem xs)) (settled_slots z (book_of z mem (xs ++ ys)))
  pub slots_begin : (ys : List Step) → Opens (settled_slots z (book_of z mem xs)) (book_of z mem (xs ++ ys)).slots
  pub stays : (ys : List Step) → Begins (settled z (book_of z mem xs)) (settled z (book_of z mem (xs ++ ys)))
  pub begins : (ys : List Step) → Begins (settled z (book_of z mem xs)) (account z (book_of z mem (xs ++ ys)))
