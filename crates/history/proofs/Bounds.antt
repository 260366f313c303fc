-- Of any records: how many there are, no number of the ledger is above that, and how many are of a kind. Assumes nothing.
use Prim.Native.Nat.{ℕ, zero, suc, pred, min, ◌+◌, ◌<◌, ◌≤◌, zero-le}
use native.Mathlib.Omega.{arith}
use mathlib.Core.Path.{◌≡◌, refl, sym, ap}
use mathlib.Core.Bool.{Bool, true, false, ◌&&◌, and-true, and-false}
use mathlib.Core.List.{List, [], ◌∷◌}
use native.Mathlib.Numerals.{add-one}
use lib.Dec.{eqb}
use lib.ListN.{length, get_or, set, take}
use Rattle.std.specs.Prelude.{Option, Some}
use Rattle.std.specs.List.{fold, reduce}
use Rattle.std.specs.Cmp.{nat_cmp_is}
use Rattle.std.specs.Iterator.{PicksByCmp}
use Rattle.std.specs.Ordering.{nat_cmp, min_by_ordering}
use Rattle.std.specs.declared.iter.Copied.{Copied}
use Rattle.std.proofs.iter.Yields.{copies, fronts}
use Rattle.std.proofs.lemmas.Iterator.{YieldsList-from_slice}
use Rattle.std.proofs.lemmas.Iterator.Consumers.{YieldsList-from_copied, reduce_from_yields_List}
use Rattle.std.proofs.Common.{Iter, ◌⊎◌, inl, inr, Less, Equal, Greater}
use Rattle.std.proofs.lemmas.Bool.{cases_order}
use Rattle.std.proofs.Math.Nat.{min-eq_left, min-eq_right}
use Rattle.std.proofs.lemmas.List.Sums.{fold_more}
use Rattle.figure.specs.declared.Engine.{Engine}
use Rattle.figure.specs.declared.Record.{Record}
use Rattle.figure.specs.declared.WriteNumber.{WriteNumber}
use Rattle.figure.specs.Account.{lowest}
use Rattle.figure.specs.Figure.{upd}
use Rattle.figure.specs.Ledger.{wn, is_engine, Small, Filed}
use Rattle.figure.specs.Refusals.{pick}
use Rattle.figure.proofs.Entries.{small-none, small-more, filed-none, filed-more}
use Rattle.figure.proofs.Laws.{upd-one}
use Rattle.figure.proofs.Machines.{built-long}
use Rattle.history.specs.Pieces.{number_at, lesser, Few, ledger_at, many_at, key_at, keys_below, records_below}

-- ---- the lowest

pub lowest-most : (n m : ℕ) (f : ℕ → ℕ) → ((i : ℕ) → f i ≤ m) → lowest n f ≤ m
lowest-most zero m f h = zero-le
lowest-most (suc zero) m f h = h 1
lowest-most (suc (suc n)) m f h = omega (arith, h (suc (suc n)))

pub lowest-alike : (n : ℕ) (f g : ℕ → ℕ) → ((i : ℕ) → 1 ≤ i → i ≤ n → f i ≡ g i) → lowest n f ≡ lowest n g
lowest-alike zero f g h = refl
lowest-alike (suc zero) f g h = h 1 (omega arith) (omega arith)
lowest-alike (suc (suc n)) f g h =
    rw (lowest-alike (suc n) f g (λ i lo hi. h i lo (omega arith)), h (suc (suc n)) (omega arith) (omega arith))

-- the library's least of two numbers
lesser-is : (p q : WriteNumber) → lesser p q ≡ wn (min p.0 q.0)
lesser-is p q = at (cases_order p.0 q.0)
  where
    at : (p.0 ≡ q.0) ⊎ ((p.0 < q.0) ⊎ (q.0 < p.0)) → lesser p q ≡ wn (min p.0 q.0)
    at (inl e) = rw (← (nat_cmp_is p.0 q.0 Equal e)) (ap wn (sym (min-eq_left (omega (arith, e)))))
    at (inr (inl l)) = rw (← (nat_cmp_is p.0 q.0 Less l)) (ap wn (sym (min-eq_left (omega (arith, l)))))
    at (inr (inr l)) = rw (← (nat_cmp_is p.0 q.0 Greater l)) (ap wn (sym (min-eq_right (omega (arith, l)))))

-- of a whole list
pub least-is : (s : Copied (Iter WriteNumber)) {ws : List WriteNumber} {r : Option WriteNumber} → PicksByCmp (copies fronts) min_by_ordering (λ (p : WriteNumber) (q : WriteNumber). nat_cmp p.0 q.0) s r → s.iter.rest.now ≡ ws → r ≡ reduce lesser ws
least-is s {ws} {r} ran e = reduce_from_yields_List lesser s r ran (YieldsList-from_copied (YieldsList-from_slice ws e))

-- and of the first n of one
lowest-fold : (w : WriteNumber) (ws : List WriteNumber) (m : ℕ) → m ≤ length ws → fold lesser w (take m ws) ≡ wn (lowest (suc m) (number_at (w ∷ ws)))
lowest-fold w ws zero h = refl
lowest-fold w ws (suc m) h =
    let e : fold lesser w (take (m + 1) ws) ≡ lesser (fold lesser w (take m ws)) (get_or ws m (wn 0)) = fold_more lesser w ws m (wn 0) (omega arith) in
    rw (← add-one m, e, lowest-fold w ws m (omega arith)) (lesser-is _ _)

pub lowest-reduced : (ws : List WriteNumber) (n : ℕ) → 1 ≤ n → n ≤ length ws → reduce lesser (take n ws) ≡ Some (wn (lowest n (number_at ws)))
lowest-reduced [] n a b = absurd (omega arith)
lowest-reduced (w ∷ ws) zero a b = absurd (omega arith)
lowest-reduced (w ∷ ws) (suc m) a b = ap Some (lowest-fold w ws m (omega arith))

-- ---- the first n, the ledger after them, and their keys

module _ (x : ℕ → Record) where
  pub records-long : (n : ℕ) → length (records_below x n) ≡ n
  unfolding records_below
  records-long = built-long x (records_below x) refl (λ n. refl)

  pub keys-long : (n k : ℕ) → length (keys_below x n k) ≡ k
  unfolding keys_below
  keys-long n = built-long (key_at x n) (keys_below x n) refl (λ k. refl)

  pub ledger-small : (n : ℕ) → Small n (ledger_at x n)
  unfolding ledger_at
  ledger-small zero = small-none 0
  ledger-small (suc n) = small-more n (ledger_at x n) (x n) (ledger-small n)

  -- ---- how many of the first k events are of a kind, by engine

  module _ (kind : ℕ) where
    unfoldable pub many : ℕ → ℕ → ℕ
    many zero = λ i. 0
    many (suc k) = pick (eqb (x k).kind kind) (upd (many k) (x k).engine.0 (suc (many k (x k).engine.0))) (many k)

    pub many-filed : (k : ℕ) → Filed (many_at x kind k) (many k)
    unfolding many_at many
    many-filed zero = filed-none
    many-filed (suc k) = at (eqb (x k).kind kind) (many-filed k)
      where
        ws : List WriteNumber
        ws = many_at x kind k

        i : Engine
        i = (x k).engine

        new : List WriteNumber
        new = set ws (pred i.0) (wn (suc (number_at ws i.0)))

        at : (t : Bool) → Filed ws (many k) → Filed (pick (is_engine i && t) new ws) (pick t (upd (many k) i.0 (suc (many k i.0))) (many k))
        at true h = rw (and-true (is_engine i)) (filed-more i _ _ (λ lo hi. ap suc (h.each i.0 lo hi)) h)
        at false h = rw (and-false (is_engine i)) h

    many-most : (k i : ℕ) → many k i ≤ k
    unfolding many
    many-most zero = λ i. zero-le
    many-most (suc k) = at (eqb (x k).kind kind) (many-most k)
      where
        at : (t : Bool) → ((i : ℕ) → many k i ≤ k) → (j : ℕ) → pick t (upd (many k) (x k).engine.0 (suc (many k (x k).engine.0))) (many k) j ≤ suc k
        at true h = upd-one (λ j m. m ≤ suc k) (many k) (x k).engine.0 _ (omega (arith, h (x k).engine.0)) (λ j _. omega (arith, h j))
        at false h = λ j. omega (arith, h j)

    pub many-few : (k : ℕ) → Few k (many_at x kind k)
    many-few k = record { each = λ i lo hi. omega (arith, (many-filed k).each i lo hi, many-most k i) }
