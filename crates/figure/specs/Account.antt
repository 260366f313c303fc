-- What happened, and the account of it. Assumes nothing.
use Rattle.std.specs.Prelude.{ℕ, zero, suc, min, List, [], ◌∷◌, ◌++◌, take}
use Rattle.std.proofs.Math.Option.{Option, none, some}
use Rattle.figure.specs.declared.Sizes.{Sizes}
use Rattle.figure.specs.Refusals.{pick}
use Rattle.figure.specs.Figure.{upd, Out, wr, In, up, State, Step, R, W, MW, MR, CU, CI, accepted, step}

-- "The event of an accepted action fills in what happened"; a refused action has none
pub data Event : Type 0 where
  refused : Event
  read : (i a d : ℕ) → Event
  wrote : (i a d : ℕ) → Event
  published : (i a d : ℕ) → Event
  refreshed : (i a d : ℕ) → Event
  updated : (i o a d : ℕ) → Event
  dropped : (i a : ℕ) → Event

-- the value that a cache holds
abbrev pub held : Option ℕ → ℕ
held none = 0
held (some d) = d

-- the head of an out queue, published by i; the head of an in queue, taken by i
abbrev pub head_out : ℕ → List Out → Event
head_out i [] = refused
head_out i (wr a d ∷ q) = published i a d

abbrev pub head_in : ℕ → List In → Event
head_in i [] = refused
head_in i (up o a d ∷ q) = updated i o a d

abbrev pub event : State → Step → Event
event s (R i a) = read i a (held ((s.engine i).cache a))
event s (W i a d) = wrote i a d
event s (MW i) = head_out i (s.engine i).outs
event s (MR i a) = refreshed i a (s.memory a)
event s (CU i) = head_in i (s.engine i).ins
event s (CI i a) = dropped i a

-- what happened, of one action, and action by action
abbrev pub happened : Sizes → State → Step → Event
happened z s x = pick (accepted z s x) (event s x) refused

abbrev pub trace : Sizes → State → List Step → List Event
trace z s [] = []
trace z s (x ∷ xs) = happened z s x ∷ trace z (step z s x) xs

-- ---- the log: the accepted reads and writes as they happened

-- a read or a write, with its place t in the list of actions: "Two events with equal fields are still two events."
pub data Item : Type 0 where
  reading : (t i a d : ℕ) → Item
  writing : (t i a d : ℕ) → Item

abbrev pub logged : ℕ → Event → List Item
logged t refused = []
logged t (read i a d) = reading t i a d ∷ []
logged t (wrote i a d) = writing t i a d ∷ []
logged t (published i a d) = []
logged t (refreshed i a d) = []
logged t (updated i o a d) = []
logged t (dropped i a) = []

abbrev pub log : ℕ → List Event → List Item
log t [] = []
log t (e ∷ es) = logged t e ++ log (suc t) es

-- ---- the ledger: how far publishing and taking have come

-- published: how many writes are published
-- taken: how many writes each engine has removed from its in queue by CU
-- own: the number of the last published write of each engine, 0 where it has none
pub record Ledger : Type 0 where
  pub published : ℕ
  pub taken : ℕ → ℕ
  pub own : ℕ → ℕ

abbrev pub blank_ledger : Ledger
blank_ledger = record { published = 0; taken = λ i. 0; own = λ i. 0 }

-- "Each accepted MW publishes ..; these are write 1, 2, 3 and so on."
abbrev pub publish_one : Ledger → ℕ → Ledger
publish_one l i = record { published = suc l.published; taken = l.taken; own = upd l.own i (suc l.published) }

-- "An engine has taken as many as it has removed from its in queue by CU; entries of origin 0 are not counted."
abbrev pub take_one : Ledger → ℕ → ℕ → Ledger
take_one l i zero = l
take_one l i (suc o) = record { published = l.published; taken = upd l.taken i (suc (l.taken i)); own = l.own }

abbrev pub enter : Event → Ledger → Ledger
enter refused l = l
enter (read i a d) l = l
enter (wrote i a d) l = l
enter (published i a d) l = publish_one l i
enter (refreshed i a d) l = l
enter (updated i o a d) l = take_one l i o
enter (dropped i a) l = l

abbrev pub ledger : List Event → Ledger → Ledger
ledger [] l = l
ledger (e ∷ es) l = ledger es (enter e l)

-- ---- the book: what the account is made of

-- slots: slot 0 holds its reads, slot k holds write k and then its reads
-- pending: the writes of each engine not yet published, oldest first
pub record Book : Type 0 where
  pub slots : List (List Item)
  pub ledger : Ledger
  pub pending : ℕ → List Item

abbrev pub blank : Book
blank = record { slots = [] ∷ []; ledger = blank_ledger; pending = λ i. [] }

-- the item joins slot k
abbrev pub join_slot : ℕ → Item → List (List Item) → List (List Item)
join_slot k x [] = []
join_slot zero x (s ∷ ss) = (s ++ (x ∷ [])) ∷ ss
join_slot (suc k) x (s ∷ ss) = s ∷ join_slot k x ss

-- "Each accepted MW publishes the oldest write of its engine not yet published": it opens the next slot
abbrev pub open_slot : Book → ℕ → List Item → Book
open_slot b i [] = record { slots = b.slots; ledger = publish_one b.ledger i; pending = b.pending }
open_slot b i (x ∷ q) = record { slots = b.slots ++ ((x ∷ []) ∷ []); ledger = publish_one b.ledger i; pending = upd b.pending i q }

-- action t, and what happened; "A read belongs to the slot whose number its engine had taken at that moment."
abbrev pub note : ℕ → Event → Book → Book
note t refused b = b
note t (read i a d) b = record { slots = join_slot (b.ledger.taken i) (reading t i a d) b.slots; ledger = b.ledger; pending = b.pending }
note t (wrote i a d) b = record { slots = b.slots; ledger = b.ledger; pending = upd b.pending i (b.pending i ++ (writing t i a d ∷ [])) }
note t (published i a d) b = open_slot b i (b.pending i)
note t (refreshed i a d) b = b
note t (updated i o a d) b = record { slots = b.slots; ledger = take_one b.ledger i o; pending = b.pending }
note t (dropped i a) b = b

abbrev pub book : ℕ → List Event → Book → Book
book t [] b = b
book t (e ∷ es) b = book (suc t) es (note t e b)

-- ---- the account

abbrev pub flat : List (List Item) → List Item
flat [] = []
flat (s ∷ ss) = s ++ flat ss

-- "Last come unpublished writes, by engine number, oldest first": of the engines 1 to n
abbrev pub unpublished : ℕ → (ℕ → List Item) → List Item
unpublished zero f = []
unpublished (suc n) f = unpublished n f ++ f (suc n)

-- "reads of slot 0, write 1, reads of slot 1, write 2, and so on"
abbrev pub account : Sizes → Book → List Item
account z b = flat b.slots ++ unpublished z.engines b.pending

-- "An engine's floor is the number of writes it has taken, since its next read falls there."
abbrev pub floor : Book → ℕ → ℕ
floor b i = b.ledger.taken i

-- the lowest of the engines 1 to n
abbrev pub lowest : ℕ → (ℕ → ℕ) → ℕ
lowest zero f = 0
lowest (suc zero) f = f 1
lowest (suc (suc n)) f = min (lowest (suc n) f) (f (suc (suc n)))

-- "The settled part ends with the reads so far in the slot of the lowest floor (write of that number included, if it is above 0)": its slots, and its items
abbrev pub settled_slots : Sizes → Book → List (List Item)
settled_slots z b = take (suc (lowest z.engines (floor b))) b.slots

abbrev pub settled : Sizes → Book → List Item
settled z b = flat (settled_slots z b)
