-- The writes that wait: an engine's writes without as many as it published, and the keys past the numbers. Assumes nothing.
use Prim.Native.Nat.{ℕ, zero, suc, pred, ◌≤◌, ◌<◌, zero-le}
use native.Mathlib.Nat.{le_refl}
use native.Mathlib.Omega.{arith}
use mathlib.Core.Path.{◌≡◌, refl, sym, ap, ◌∙◌}
use mathlib.Core.Bool.{Bool, true, false, and-false}
use mathlib.Core.List.{List, [], ◌∷◌, ◌++◌, map, map-append, cons≢nil}
use lib.Dec.{eqb, leb}
use lib.ListN.{length, drop, length-append, drop_of_length-le}
use lib.Seq.{drop-append-le, drop-nil}
use borrow.Author.Tests.{eq-eqb, ne_eqb, eqb-true, eqb-false, leb-true, leb-false}
use Rattle.figure.specs.declared.Record.{Record}
use Rattle.figure.specs.declared.Sizes.{Sizes}
use Rattle.figure.specs.Account.{Event, Item, writing, Book, blank, note}
use Rattle.figure.specs.Figure.{upd}
use Rattle.figure.specs.Ledger.{taken_at, is_engine, is_publication}
use Rattle.figure.specs.Refusals.{pick, most_engines, most_actions}
use Rattle.figure.proofs.Entries.{engine-is}
use Rattle.figure.proofs.Laws.{upd-each}
use Rattle.figure.proofs.Told.{Told, reads, writes, publishes, takes, other, told}
use Rattle.demands.specs.Lines.{item_record}
use Rattle.sort.specs.Order.{add_if, in_slot}
use Rattle.history.specs.Pieces.{nowhere, is_of, is_waiting, tail_key, ledger_at, many_at, key_at, keys_below}
use Rattle.history.proofs.Bounds.{ledger-small, many, many-filed}
use Rattle.history.proofs.Fitting.{Fit, FitsEach, book_at, events_below, fits_more}
use Rattle.history.proofs.Placing.{line_event, in-more}

-- ---- a list without its first q

module _ {A B : Type 0} (f : A → B) where
  -- one more of them goes
  drop-one : (q : ℕ) (w : List A) (y : B) (l : List B) → y ∷ l ≡ map f (drop q w) → (l ≡ map f (drop (suc q) w)) × (suc q ≤ length w)
  drop-one zero [] y l e = absurd (cons≢nil e)
  drop-one zero (v ∷ w) y l e = (cc, omega arith)
  drop-one (suc q) [] y l e = absurd (cons≢nil e)
  drop-one (suc q) (v ∷ w) y l e = let h = drop-one q w y l e in (h.0, omega (arith, h.1))

-- one more at the end
drop_more : (q : ℕ) (w : List ℕ) (k : ℕ) → drop q (w ++ (k ∷ [])) ≡ add_if (leb q (length w)) (drop q w) k
drop_more q w k = at (leb q (length w)) refl
  where
    at : (t : Bool) → leb q (length w) ≡ t → drop q (w ++ (k ∷ [])) ≡ add_if t (drop q w) k
    at true e = drop-append-le q w (k ∷ []) (leb-true q (length w) e)
    at false e =
        drop_of_length-le (w ++ (k ∷ [])) {i = q} (omega (arith, leb-false q (length w) e, length-append w (k ∷ []))) ∙ sym (drop_of_length-le w {i = q} (omega (arith, leb-false q (length w) e)))

module _ (x : ℕ → Record) where
  -- the writes of each engine among the first k events
  unfoldable pub writes_of : ℕ → ℕ → List ℕ
  writes_of zero = λ i. []
  writes_of (suc k) = pick (eqb (x k).kind 2) (upd (writes_of k) (x k).engine.0 (writes_of k (x k).engine.0 ++ (k ∷ []))) (writes_of k)

  writes-long : (k i : ℕ) → length (writes_of k i) ≡ many x 2 k i
  unfolding writes_of many
  writes-long zero = λ i. refl
  writes-long (suc k) = at (eqb (x k).kind 2) (writes-long k)
    where
      at : (t : Bool) → ((i : ℕ) → length (writes_of k i) ≡ many x 2 k i) → let j = (x k).engine.0 in
          (i : ℕ) → length (pick t (upd (writes_of k) j (writes_of k j ++ (k ∷ []))) (writes_of k) i) ≡ pick t (upd (many x 2 k) j (suc (many x 2 k j))) (many x 2 k) i
      at true h = upd-each (λ i (w : List ℕ) m. length w ≡ m) (writes_of k) (many x 2 k) (x k).engine.0 _ _ (length-append (writes_of k (x k).engine.0) (k ∷ []) ∙ omega (arith, h (x k).engine.0)) (λ i _. h i)
      at false h = h

  -- ---- what the book has pending

  -- of the writes w the first q are published, and p are the others
  pub record Left (p : List Item) (q : ℕ) (w : List ℕ) : Type 0 where
    pub rest : map item_record p ≡ map (line_event x) (drop q w)
    pub fewer : q ≤ length w

  left-wrote : (k : ℕ) (y : Item) {p : List Item} {q : ℕ} {w : List ℕ} → item_record y ≡ line_event x k → Left p q w → Left (p ++ (y ∷ [])) q (w ++ (k ∷ []))
  left-wrote k y {p} {q} {w} e h =
      record {
        rest = map-append item_record p (y ∷ []) ∙ rw (h.rest, e, drop-append-le q w (k ∷ []) h.fewer) (sym (map-append (line_event x) (drop q w) (k ∷ [])));
        fewer = omega (arith, h.fewer, length-append w (k ∷ []));
      }

  left-published : {y : Item} {p : List Item} {q : ℕ} {w : List ℕ} → Left (y ∷ p) q w → Left p (suc q) w
  left-published {y} {p} {q} {w} h = let d = drop-one (line_event x) q w (item_record y) (map item_record p) h.rest in record { rest = d.0; fewer = d.1 }

  pub pending : (z : Sizes) (k : ℕ) → FitsEach z 0 (events_below x k) blank → (i : ℕ) → Left ((book_at x k).pending i) (many x 3 k i) (writes_of k i)
  unfolding writes_of many book_at
  pending z zero h = λ i. record { rest = refl; fewer = zero-le }
  pending z (suc k) h = let w = fits_more x z k h in at (told (x k)) w.1 (pending z k w.0)
    where
      b : Book
      b = book_at x k

      j : ℕ
      j = (x k).engine.0

      at : {e : Event} → Told (x k) e → Fit z b e → ((i : ℕ) → Left (b.pending i) (many x 3 k i) (writes_of k i))
          → (i : ℕ) → Left ((note k e b).pending i) (pick (eqb (x k).kind 3) (upd (many x 3 k) j (suc (many x 3 k j))) (many x 3 k) i) (pick (eqb (x k).kind 2) (upd (writes_of k) j (writes_of k j ++ (k ∷ []))) (writes_of k) i)
      at (reads q) w h = rw (q) h
      at (writes q) w h =
          let y = writing k j (x k).address.0 (x k).«data» in
          let e : item_record y ≡ line_event x k = rw (q) in
          rw (q) (upd-each (λ i (p : List Item) (l : List ℕ). Left p (many x 3 k i) l) b.pending (writes_of k) j _ _ (left-wrote k y e (h j)) (λ i _. h i))
      at (publishes q) w h =
          let g : Left (writing w.time j (x k).address.0 (x k).«data» ∷ w.rest) (many x 3 k j) (writes_of k j) = rw w.whole at (h j) in
          rw (q, w.whole) (upd-each (λ i (p : List Item) c. Left p c (writes_of k i)) b.pending (many x 3 k) j w.rest _ (left-published g) (λ i _. h i))
      at (takes q) w h = rw (q) h
      at (other _ m c _ s) w h = rw (m, c, s k b) h

  -- ---- the keys past the numbers

  module _ (n : ℕ) (small : n ≤ most_actions) (i : ℕ) (lo : 1 ≤ i) (hi : i ≤ most_engines) where
    -- how many of its writes engine i publishes
    abbrev due : ℕ
    due = many x 3 n i

    module _ (k : ℕ) (h : k < n) where
      abbrev j : ℕ
      j = (x k).engine.0

      abbrev waits : Bool
      waits = is_waiting (many_at x 3 n) (many_at x 2 k) (x k)

      -- an event that does not wait has another key, and so has another engine's write
      not-waiting : waits ≡ false → eqb (key_at x n k) (tail_key n i) ≡ false
      not-waiting w = rw (w) (at (is_of 1 (x k)) (is_publication (x k)))
        where
          at : (p c : Bool) → eqb (pick p (taken_at (ledger_at x k) (x k).engine.0) (pick c (suc (ledger_at x k).published.0) nowhere)) (tail_key n i) ≡ false
          at true c = ne_eqb _ (tail_key n i) (λ e. omega (arith, (ledger-small x k).taken (pred (x k).engine.0)))
          at false true = ne_eqb _ (tail_key n i) (λ e. omega (arith, (ledger-small x k).published))
          at false false = ne_eqb nowhere (tail_key n i) (λ e. omega arith)

      module _ (w : (x k).kind ≡ 2) where
        key-is : key_at x n k ≡ pick waits (tail_key n j) nowhere
        key-is = rw (w, and-false (is_engine (x k).engine))

        same-engine : i ≡ j → eqb (key_at x n k) (tail_key n i) ≡ leb due (length (writes_of k i))
        same-engine e =
            let y : is_engine (x k).engine ≡ true = engine-is (x k).engine (omega arith) (omega arith) in
            let t : waits ≡ leb due (length (writes_of k i)) = rw (y, w, ← (e), (many-filed x 3 n).each i lo hi, (many-filed x 2 k).each i lo hi, writes-long k i) in
            rw (key-is, t, ← (e)) (at (leb due (length (writes_of k i))))
          where
            at : (t : Bool) → eqb (pick t (tail_key n i) nowhere) (tail_key n i) ≡ t
            at true = eq-eqb (tail_key n i) (tail_key n i) refl
            at false = ne_eqb nowhere (tail_key n i) (λ e. omega arith)

        other-engine : ¬ (i ≡ j) → eqb (key_at x n k) (tail_key n i) ≡ false
        other-engine e = rw (key-is) (at waits)
          where
            at : (t : Bool) → eqb (pick t (tail_key n j) nowhere) (tail_key n i) ≡ false
            at true = ne_eqb (tail_key n j) (tail_key n i) (λ q. e (omega arith))
            at false = ne_eqb nowhere (tail_key n i) (λ q. omega arith)

    tail : (k : ℕ) → k ≤ n → in_slot (keys_below x n k) (tail_key n i) k ≡ drop due (writes_of k i)
    unfolding in_slot writes_of
    tail zero h = sym (drop-nil due)
    tail (suc k) h = in-more x n (tail_key n i) k ∙ rw (tail k (omega arith)) (at (told (x k)))
      where
        s : List ℕ
        s = drop due (writes_of k i)

        new : List ℕ
        new = writes_of k (x k).engine.0 ++ (k ∷ [])

        by : (x k).kind ≡ 2 → (t : Bool) → eqb i (x k).engine.0 ≡ t → add_if (eqb (key_at x n k) (tail_key n i)) s k ≡ drop due (elim t [ true ↦ new | false ↦ writes_of k i ])
        by w true e =
            let q = eqb-true i (x k).engine.0 e in
            rw (same-engine k h w q, ← (q)) (sym (drop_more due (writes_of k i) k))
        by w false e = rw (other-engine k h w (eqb-false i (x k).engine.0 e))

        none : eqb (x k).kind 2 ≡ false → add_if (eqb (key_at x n k) (tail_key n i)) s k ≡ drop due (pick (eqb (x k).kind 2) (upd (writes_of k) (x k).engine.0 new) (writes_of k) i)
        none e = rw (not-waiting k h (rw (e, and-false (is_engine (x k).engine))), e)

        at : {e : Event} → Told (x k) e → add_if (eqb (key_at x n k) (tail_key n i)) s k ≡ drop due (pick (eqb (x k).kind 2) (upd (writes_of k) (x k).engine.0 new) (writes_of k) i)
        at (reads q) = none (rw (q))
        at (writes q) = by q (eqb i (x k).engine.0) refl ∙ rw (q)
        at (publishes q) = none (rw (q))
        at (takes q) = none (rw (q))
        at (other _ m _ _ _) = none m

    -- the keys past the numbers are those of the writes that the book has pending
    pub tail-items : (z : Sizes) → FitsEach z 0 (events_below x n) blank → map item_record ((book_at x n).pending i) ≡ map (line_event x) (in_slot (keys_below x n n) (tail_key n i) n)
    tail-items z h = (pending z n h i).rest ∙ ap (map (line_event x)) (sym (tail n (le_refl n)))
