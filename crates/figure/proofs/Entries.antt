-- The ledger: what it says of a run, and the struct that holds it. Assumes nothing.
use Prim.Native.Nat.{ℕ, zero, suc, pred, ◌+◌, ◌≤◌, ◌<◌, zero-le}
use native.Mathlib.Omega.{arith}
use mathlib.Core.Path.{◌≡◌, refl, sym, ap, ◌∙◌}
use mathlib.Core.Bool.{Bool, true, false, not, true≢false}
use mathlib.Core.List.{List, [], ◌∷◌, map}
use lib.Dec.{ltb, eqb-suc-zero}
use lib.ListN.{length, get_or, set, replicate, length-set}
use lib.Seq.{get_or-set_same, get_or-set_other}
use borrow.Author.Tests.{ltb-false, lt-ltb, le-ltb, not-true}
use Rattle.std.proofs.lemmas.Bool.{or_parts}
-- an engine's place, as the code computes it
pub use native.Mathlib.Numerals.{sub-one as place_is}
use Rattle.figure.specs.Account as account
use Rattle.figure.specs.Account.{Event, refused, read, wrote, published, refreshed, updated, dropped, blank_ledger, enter, ledger, Book, note, book}
use Rattle.figure.specs.Event.{event_view}
use Rattle.figure.specs.Figure.{upd}
use Rattle.figure.specs.Ledger.{wn, most_writes, one_more, none_entered, taken_at, is_engine, is_publication, is_taking, renumbered, published_by, taken_by, entered, entered_all, Small, Filed, Mirrors}
use Rattle.figure.specs.Refusals.{pick, outside, most_engines}
use Rattle.figure.specs.declared.Engine.{Engine}
use Rattle.figure.specs.declared.Record.{Record}
use Rattle.figure.specs.declared.WriteNumber.{WriteNumber}
use Rattle.figure.specs.declared.ledger.Ledger.{Ledger}
use Rattle.figure.proofs.Laws.{upd-one}
use Rattle.figure.proofs.Told.{Told, reads, writes, publishes, takes, other, told}

-- ---- the book's ledger is the ledger of what happened

pub note-ledger : (t : ℕ) (e : Event) (b : Book) → (note t e b).ledger ≡ enter e b.ledger
note-ledger t (published i a d) b = at (b.pending i)
  where
    at : (p : List account.Item) → (account.open_slot b i p).ledger ≡ account.publish_one b.ledger i
    at [] = refl
    at (x ∷ p) = refl
note-ledger t e b = refl

pub book-ledger : (t : ℕ) (es : List Event) (b : Book) → (book t es b).ledger ≡ ledger es b.ledger
book-ledger t [] b = refl
book-ledger t (e ∷ es) b = book-ledger (suc t) es (note t e b) ∙ ap (ledger es) (note-ledger t e b)

-- ---- an engine's number

inside : (lo hi x : ℕ) → not (outside lo hi x) ≡ true → (lo ≤ x) × (x ≤ hi)
inside lo hi x e = let p = or_parts (ltb x lo) (ltb hi x) (not-true _ e) in (ltb-false x lo p.0, ltb-false hi x p.1)

pub engine-inside : (i : Engine) → is_engine i ≡ true → (1 ≤ i.0) × (i.0 ≤ most_engines)
engine-inside i = inside 1 most_engines i.0

pub engine-is : (i : Engine) → 1 ≤ i.0 → i.0 ≤ most_engines → is_engine i ≡ true
engine-is i lo hi = rw (le-ltb i.0 1 lo, le-ltb most_engines i.0 hi)

-- ---- no number is above the number of events

most-none : (n m k : ℕ) → (get_or (replicate m (wn 0)) k (wn 0)).0 ≤ n
most-none n zero k = zero-le
most-none n (suc m) zero = zero-le
most-none n (suc m) (suc k) = most-none n m k

most-set : (n : ℕ) (ws : List WriteNumber) (i v : ℕ) → v ≤ n → ((k : ℕ) → (get_or ws k (wn 0)).0 ≤ n) → (k : ℕ) → (get_or (set ws i (wn v)) k (wn 0)).0 ≤ n
most-set n [] i v e h k = h k
most-set n (w ∷ ws) zero v e h zero = e
most-set n (w ∷ ws) zero v e h (suc k) = h (suc k)
most-set n (w ∷ ws) (suc i) v e h zero = h zero
most-set n (w ∷ ws) (suc i) v e h (suc k) = most-set n ws i v e (λ j. h (suc j)) k

most-renumbered : (n : ℕ) (ws : List WriteNumber) (i : Engine) (v : ℕ) → v ≤ n → ((k : ℕ) → (get_or ws k (wn 0)).0 ≤ n) → (k : ℕ) → (get_or (renumbered ws i (wn v)) k (wn 0)).0 ≤ n
most-renumbered n ws i v e h = at (is_engine i)
  where
    at : (t : Bool) (k : ℕ) → (get_or (pick t (set ws (pred i.0) (wn v)) ws) k (wn 0)).0 ≤ n
    at true = most-set n ws (pred i.0) v e h
    at false = h

one-more-most : (m n : ℕ) → m ≤ n → one_more m ≤ suc n
one-more-most m n h = at (ltb m most_writes)
  where
    at : (t : Bool) → pick t (suc m) m ≤ suc n
    at true = omega arith
    at false = omega arith

pub small-none : (n : ℕ) → Small n none_entered
small-none n = record { published = zero-le; taken = most-none n most_engines; own = most-none n most_engines }

pub small-le : {m n : ℕ} {l : Ledger} → m ≤ n → Small m l → Small n l
small-le {l = l} h s = record { published = omega (arith, s.published); taken = λ k. omega (arith, s.taken k); own = λ k. omega (arith, s.own k) }

pub small-more : (n : ℕ) (l : Ledger) (e : Record) → Small n l → Small (suc n) (entered l e)
small-more n l e s = at (is_publication e) (is_taking e)
  where
    i : Engine
    i = e.engine

    more : Small (suc n) l
    more = small-le (omega arith) s

    at : (p q : Bool) → Small (suc n) (pick p (published_by l i) (pick q (taken_by l i) l))
    at true q =
        let m = one-more-most l.published.0 n s.published in
        record { published = m; taken = more.taken; own = most-renumbered (suc n) l.own i _ m more.own }
    at false true =
        record { published = more.published; taken = most-renumbered (suc n) l.taken i _ (one-more-most (taken_at l i.0) n (s.taken (pred i.0))) more.taken; own = more.own }
    at false false = more

-- ---- the struct holds the ledger of what happened

one-more-is : (m n : ℕ) → m ≤ n → n < most_writes → one_more m ≡ suc m
one-more-is m n h k = rw (lt-ltb m most_writes (omega arith))

pub filed-none : Filed (replicate most_engines (wn 0)) (λ i. 0)
filed-none = record { long = refl; each = λ i lo hi. omega (arith, most-none 0 most_engines (pred i)) }

-- the number of engine i becomes u
pub filed-more : {ws : List WriteNumber} {f : ℕ → ℕ} (i : Engine) (v u : ℕ) → (1 ≤ i.0 → i.0 ≤ most_engines → v ≡ u) → Filed ws f → Filed (renumbered ws i (wn v)) (upd f i.0 u)
filed-more {ws} {f} i v u q h = at (is_engine i) refl
  where
    at : (t : Bool) → is_engine i ≡ t → Filed (pick t (set ws (pred i.0) (wn v)) ws) (upd f i.0 u)
    at true e =
        let r = engine-inside i e in
        record {
          long = length-set ws (pred i.0) (wn v) ∙ h.long;
          each = upd-one (λ j (x : ℕ). 1 ≤ j → j ≤ most_engines → (get_or (set ws (pred i.0) (wn v)) (pred j) (wn 0)).0 ≡ x) f i.0 u
              (λ lo hi. ap (λ (w : WriteNumber). w.0) (get_or-set_same ws (pred i.0) (wn v) (wn 0) (omega (arith, h.long))) ∙ q lo hi)
              (λ j n lo hi. ap (λ (w : WriteNumber). w.0) (get_or-set_other ws (pred i.0) (pred j) (wn v) (wn 0) (λ p. n (omega arith))) ∙ h.each j lo hi);
        }
    at false e =
        record {
          long = h.long;
          each = upd-one (λ j (x : ℕ). 1 ≤ j → j ≤ most_engines → (get_or ws (pred j) (wn 0)).0 ≡ x) f i.0 u
              (λ lo hi. absurd (true≢false (sym (engine-is i lo hi) ∙ e)))
              (λ j n lo hi. h.each j lo hi);
        }

pub holds-none : Mirrors none_entered blank_ledger
holds-none = record { published = refl; taken = filed-none; own = filed-none }

module _ (n : ℕ) (few : n < most_writes) (l : Ledger) (g : account.Ledger) (s : Small n l) (h : Mirrors l g) where
  holds-published : (i : Engine) → Mirrors (published_by l i) (account.publish_one g i.0)
  holds-published i =
      let q : one_more l.published.0 ≡ suc g.published = one-more-is l.published.0 n s.published few ∙ ap suc h.published in
      record { published = q; taken = h.taken; own = filed-more i _ _ (λ lo hi. q) h.own }

  holds-taken : (i : Engine) (o : ℕ) → Mirrors (taken_by l i) (account.take_one g i.0 (suc o))
  holds-taken i o =
      let q = one-more-is (taken_at l i.0) n (s.taken (pred i.0)) few in
      record { published = h.published; taken = filed-more i _ _ (λ lo hi. q ∙ ap suc (h.taken.each i.0 lo hi)) h.taken; own = h.own }

  -- an entry of origin o leaves the in queue
  holds-updated : (e : Record) (o : ℕ) → e.kind ≡ 5 → e.origin.0 ≡ o → Mirrors (entered l e) (account.take_one g e.engine.0 o)
  holds-updated e zero q w = rw (q, w) h
  holds-updated e (suc o) q w = rw (q, w, eqb-suc-zero o) (holds-taken e.engine o)

  pub holds_more : (e : Record) → Mirrors (entered l e) (enter (event_view e) g)
  holds_more e = at (told e)
    where
      b : Book
      b = record { slots = []; ledger = g; pending = λ i. [] }

      at : {v : Event} → Told e v → Mirrors (entered l e) (enter v g)
      at (reads q) = rw (q) h
      at (writes q) = rw (q) h
      at (publishes q) = rw (q) (holds-published e.engine)
      at (takes q) = holds-updated e e.origin.0 q refl
      at {v} (other _ _ p q k) = rw (p, q, sym (note-ledger 0 v b) ∙ ap (λ (c : Book). c.ledger) (k 0 b)) h

-- as many events as there are numbers
holds-all : (n : ℕ) (rs : List Record) (l : Ledger) (g : account.Ledger) → n + length rs ≤ most_writes → Small n l → Mirrors l g → Mirrors (entered_all rs l) (ledger (map event_view rs) g)
holds-all n [] l g few s h = h
holds-all n (r ∷ rs) l g few s h = holds-all (suc n) rs (entered l r) (enter (event_view r) g) (omega arith) (small-more n l r s) (holds_more n (omega arith) l g s h r)

pub entered-follows : (rs : List Record) → length rs ≤ most_writes → Mirrors (entered_all rs none_entered) (ledger (map event_view rs) blank_ledger)
entered-follows rs few = holds-all 0 rs none_entered blank_ledger (omega arith) (small-none 0) holds-none
