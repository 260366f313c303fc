-- In the order they happened: the items' places in the list of actions rise, in the log and within each slot. Assumes nothing.
use Prim.Native.Nat.{ℕ, zero, suc, ◌+◌}
use native.Mathlib.Omega.{arith}
use mathlib.Core.Path.{◌≡◌, refl}
use mathlib.Core.List.{List, [], ◌∷◌}
use lib.ListN.{length, get_or}
use Rattle.figure.specs.Account.{Event, read, wrote, published, updated, Item, reading, writing, log, Book, blank, open_slot, note, book}
use Rattle.figure.specs.Demand.{place, Rises}
use Rattle.figure.proofs.Laws.{upd-one, rises-lower, rises-higher, rises-between, rises-snoc, SlotsRise, slots-higher, slots-put, slots-open}

-- ---- the log

pub rises-log : (t hi : ℕ) (es : List Event) → t + length es ≡ hi → Rises t hi (log t es)
rises-log t hi [] q = omega arith
rises-log t hi (e ∷ es) q = let h = rises-log (suc t) hi es (omega arith) in at e h (rises-lower t (suc t) hi (log (suc t) es) (omega arith) h)
  where
    at : (e : Event) → Rises (suc t) hi (log (suc t) es) → Rises t hi (log (suc t) es) → Rises t hi (log t (e ∷ es))
    at (read i a d) h k = (omega arith, h)
    at (wrote i a d) h k = (omega arith, h)
    at e h k = k

-- ---- the slots

-- before action t, whatever happened: all that stands in one slot, and all that one engine has not published, rises below t
record Timed (t : ℕ) (b : Book) : Type 0 where
  in_slots : SlotsRise t b.slots
  waiting : (i : ℕ) → Rises 0 t (b.pending i)

timed-later : (t : ℕ) (b : Book) → Timed t b → Timed (suc t) b
timed-later t b h = record { in_slots = slots-higher t b.slots h.in_slots; waiting = λ i. rises-higher 0 t (suc t) (b.pending i) (omega arith) (h.waiting i) }

timed-open : (t : ℕ) (b : Book) (i : ℕ) (p : List Item) → Rises 0 t p → Timed t b → Timed t (open_slot b i p)
timed-open t b i [] r h = record { in_slots = h.in_slots; waiting = h.waiting }
timed-open t b i (x ∷ q) r h =
    record {
      in_slots = slots-open t x b.slots (rises-between (suc (place x)) t q r.1) h.in_slots;
      waiting = upd-one (λ j (p : List Item). Rises 0 t p) b.pending i q (rises-lower 0 (suc (place x)) t q (omega arith) r.1) (λ j _. h.waiting j);
    }

timed-note : (t : ℕ) (e : Event) (b : Book) → Timed t b → Timed (suc t) (note t e b)
timed-note t (read i a d) b h =
    record { in_slots = slots-put t (b.ledger.taken i) (reading t i a d) b.slots refl h.in_slots; waiting = (timed-later t b h).waiting }
timed-note t (wrote i a d) b h =
    let k = timed-later t b h in
    record {
      in_slots = k.in_slots;
      waiting = upd-one (λ j (p : List Item). Rises 0 (suc t) p) b.pending i _ (rises-snoc 0 t (b.pending i) (writing t i a d) refl (h.waiting i)) (λ j _. k.waiting j);
    }
timed-note t (published i a d) b h = timed-later t (open_slot b i (b.pending i)) (timed-open t b i (b.pending i) (h.waiting i) h)
timed-note t (updated i o a d) b h = let k = timed-later t b h in record { in_slots = k.in_slots; waiting = k.waiting }
timed-note t e b h = timed-later t b h

timed-book : (t hi : ℕ) (es : List Event) (b : Book) → t + length es ≡ hi → Timed t b → Timed hi (book t es b)
timed-book t hi [] b q h = let e : t ≡ hi = omega arith in rw e at h
timed-book t hi (e ∷ es) b q h = timed-book (suc t) hi es (note t e b) (omega arith) (timed-note t e b h)

pub slots-rise : (es : List Event) (k : ℕ) → Rises 0 (length es) (get_or (book 0 es blank).slots k [])
slots-rise es = (timed-book 0 (length es) es blank (omega arith) (record { in_slots = none_yet; waiting = λ i. omega arith })).in_slots
  where
    none_yet : (k : ℕ) → Rises 0 0 (get_or blank.slots k [])
    none_yet zero = omega arith
    none_yet (suc k) = omega arith
