-- Laws of the marks: what a turn of the pass does. Assumes nothing.
use mathlib.Core.Path.{◌≡◌, refl, sym, ◌∙◌}
use mathlib.Core.Bool.{Bool, true, false}
use mathlib.Core.List.{List, [], ◌∷◌, ◌++◌}
use Prim.Native.Nat.{ℕ, suc, ◌+◌, ◌≤◌, ◌<◌}
use native.Mathlib.Numerals.{add-one}
use native.Mathlib.Omega.{arith}
use lib.ListN.{length, set, take, length-set}
use lib.Seq.{take-suc-set}
use Rattle.figure.proofs.Laws.{and_left}
use Rattle.figure.specs.Refusals.{pick, most_engines, most_actions}
use Rattle.figure.specs.declared.ledger.Ledger.{Ledger}
use Rattle.figure.specs.Ledger.{none_entered, is_engine, entered, Small}
use Rattle.figure.proofs.Entries.{engine-inside, small-le}
use Rattle.figure.specs.declared.Record.{Record}
use Rattle.figure.specs.declared.WriteNumber.{WriteNumber}
use Rattle.history.specs.Pieces.{is_of, Few, no_numbers, one_more_of, is_waiting, key_of, ledger_at, many_at, keys_below, records_below}
use Rattle.demands.specs.Run.{is_refused, accepted_in}
use Rattle.history.proofs.Bounds.{ledger-small, many-few, records-long}
use Rattle.demands.proofs.Lengths.{all-counted}

pub of-engine : (kind : ℕ) (e : Record) → is_of kind e ≡ true → (1 ≤ e.engine.0) × (e.engine.0 ≤ most_engines)
of-engine kind e h = engine-inside e.engine (and_left (is_engine e.engine) _ h)

-- ---- accepted

pub accepted-append : (a b : List Record) → accepted_in (a ++ b) ≡ accepted_in a + accepted_in b
unfolding accepted_in
accepted-append [] b = omega arith
accepted-append (r ∷ a) b = at (is_refused r) (accepted-append a b)
  where
    at : (t : Bool) → accepted_in (a ++ b) ≡ accepted_in a + accepted_in b → pick t (accepted_in (a ++ b)) (suc (accepted_in (a ++ b))) ≡ pick t (accepted_in a) (suc (accepted_in a)) + accepted_in b
    at true e = e
    at false e = omega arith

-- ---- how many events of a kind there are among the first k
module _ (x : ℕ → Record) (kind : ℕ) where
  pub counting-none : {ws : List WriteNumber} → ws ≡ no_numbers → ws ≡ many_at x kind 0
  unfolding many_at
  counting-none e = e

  module _ (k : ℕ) {ws : List WriteNumber} (m : ws ≡ many_at x kind k) where
    pub counting-few : k < most_actions → Few most_actions ws
    counting-few h = rw (m) (record { each = λ i lo hi. omega (arith, (many-few x kind k).each i lo hi) })

    pub counting_more : {e : Record} {us : List WriteNumber} → e ≡ x k → us ≡ one_more_of ws kind e → us ≡ many_at x kind (k + 1)
    unfolding many_at
    counting_more p q = rw add-one (rw (q, p, m))

-- ---- the pass over n events: what is known of the first k
pub record Marking (x : ℕ → Record) (n k : ℕ) (l : Ledger) (wrote : List WriteNumber) (accepted : ℕ) (keys : List ℕ) : Type 0 where
  pub long : length keys ≡ n
  pub ledger : l ≡ ledger_at x k
  pub writes : wrote ≡ many_at x 2 k
  pub counted : accepted ≡ accepted_in (records_below x k)
  pub marked : take k keys ≡ keys_below x n k

module _ {x : ℕ → Record} where
  pub marking-none : {l : Ledger} {w : List WriteNumber} {a : ℕ} {keys : List ℕ} → l ≡ none_entered → w ≡ no_numbers → a ≡ 0 → Marking x (length keys) 0 l w a keys
  unfolding ledger_at records_below keys_below accepted_in
  marking-none e f g = record { long = refl; ledger = e; writes = counting-none x 2 f; counted = g; marked = refl }

  module _ {n k : ℕ} {l : Ledger} {w : List WriteNumber} {a : ℕ} {keys : List ℕ} (m : Marking x n k l w a keys) where
    pub marking-small : k < most_actions → Small most_actions l
    marking-small h = rw m.ledger (small-le (omega arith) (ledger-small x k))

    pub accepted-le : a ≤ k
    accepted-le = omega (arith, m.counted, all-counted (records_below x k), records-long x k)

    -- one event more
    accepted-one : (r : Record) (b : ℕ) → b ≡ pick (is_refused r) a (a + 1) → b ≡ a + accepted_in (r ∷ [])
    unfolding accepted_in
    accepted-one r b q = q ∙ at (is_refused r)
      where
        at : (t : Bool) → pick t a (a + 1) ≡ a + pick t 0 1
        at true = omega arith
        at false = refl

    pub marking-more : {e : Record} {p : List WriteNumber} {y : Bool} {v : ℕ} {g : Ledger} {u : List WriteNumber} {b : ℕ} → k < n → e ≡ x k → p ≡ many_at x 3 n → y ≡ is_waiting p w e → v ≡ key_of n l y e → g ≡ entered l e → u ≡ one_more_of w 2 e → b ≡ pick (is_refused e) a (a + 1)
        → Marking x n (k + 1) g u b (set keys k v)
    unfolding ledger_at records_below keys_below
    marking-more {e} {p} {y} {v} {g} {u} {b} i q c d f r s t =
        record {
          long = length-set keys k v ∙ m.long;
          ledger = rw add-one (rw (r, q, m.ledger));
          writes = counting_more x 2 k m.writes q s;
          counted = rw add-one (accepted-one e b t ∙ rw (q, m.counted) (sym (accepted-append (records_below x k) (x k ∷ []))));
          marked = rw add-one (take-suc-set keys k v (omega (arith, m.long)) ∙ rw (m.marked, f, d, c, q, m.ledger, m.writes));
        }
