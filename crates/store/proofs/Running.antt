-- The parts of a run hold its store: what an action sees of them, and what a move makes of them. Assumes nothing.
use mathlib.Core.Path.{◌≡◌, refl, sym, ap, ◌∙◌}
use mathlib.Core.Bool.{Bool, true, false, not, ◌&&◌, ◌||◌}
use mathlib.Core.List.{List, [], ◌∷◌, ◌++◌, tail}
use Prim.Native.Nat.{ℕ, zero, suc, pred, ◌≤◌, ◌<◌}
use native.Mathlib.Numerals.{add-one}
use native.Mathlib.Omega.{arith}
use lib.Dec.{eqb, leb, ltb}
use lib.ListN.{length, take, set, get_or, length-take, replicate}
use lib.Seq.{get_or-set_same, get_or-set_other, length-take-le}
use borrow.Author.Tests.{eqb-true, eqb-false, eq-eqb, ne_eqb, ltb-true, ltb-false, leb-true, leb-false}
use Rattle.std.proofs.lemmas.List.{get_or_default, get_or-replicate, length-set}
use Rattle.figure.specs.Refusals.{pick, first_of, most_engines, most_addresses, most_depth}
use Rattle.figure.specs.declared.Record.{Record}
use Rattle.figure.specs.declared.Sizes.{Sizes}
use Rattle.shape.specs.Fresh.{fresh_of, fresh_refused, empty_cache, empty_out, empty_in}
use Rattle.shape.specs.Parts.{any, change, full, over, out_of, in_of, out_joined, out_left, in_joined, in_left, is_from, cached_word, no_out_entry, no_in_entry, no_out, no_in, no_cache}
use Rattle.shape.specs.Sound.{sound_of}
use Rattle.shape.specs.Step.{Stepped, out_entry, some_full, stepped}
use Rattle.shape.specs.declared.InEntry.{InEntry}
use Rattle.shape.specs.declared.InQueue.{InQueue}
use Rattle.shape.specs.declared.OutEntry.{OutEntry}
use Rattle.shape.specs.declared.OutQueue.{OutQueue}
use Rattle.shape.specs.declared.Store.{Store}
use Rattle.shape.proofs.Exactly.{out-fits, in-fits}
use Rattle.shape.proofs.Kept.{Sound, ranged, sound-parts, keeps-sound, fresh_sound, fresh-short}
use Rattle.shape.proofs.Places.{length-change, get_or-change-same, get_or-change-other, get_or-firsts-below, get_or-firsts-above, out-with, in-with}
use Rattle.shape.proofs.Shaped.{keeps-shaped, fresh-shaped}
use Rattle.shape.specs.Shaped.{Shaped}
use Rattle.decide.specs.Effect.{between, moved_out, moved_cache, left_in, moved_ins, moved, Seen}
use Rattle.decide.specs.Move.{stored_as, move_of}
use Rattle.decide.specs.Turned.{Turned, to_memory}
use Rattle.decide.specs.declared.Look.{Look}
use Rattle.decide.proofs.Effects.{Carries}
use Rattle.store.specs.Pieces.{own_after, writes_after, updates_after}
use Rattle.store.specs.Running.{count_from, fresh_side, side_of, side_after, Moves, Holds, some_long, with_update}
use Rattle.store.specs.declared.turns.Running.{Running}
use Rattle.store.specs.declared.turns.Side.{Side}
use Rattle.store.proofs.Deciding.{look-decides, move-carries, move-steps}
use Rattle.scan.proofs.Laws.{Stands, stands}
use Rattle.scan.specs.Scan.{PlaceIn, WordIn, Looked, Decided}
use Rattle.store.proofs.Steps.{length-between}

-- ---- how many entries of an engine's own wait

module _ (i : ℕ) where
  count_most : (l : List InEntry) → count_from i l ≤ length l
  unfolding count_from
  count_most [] = omega arith
  count_most (x ∷ l) = at (eqb x.origin.0 i) (count_most l)
    where
      at : (t : Bool) → count_from i l ≤ length l → pick t (suc (count_from i l)) (count_from i l) ≤ suc (length l)
      at true h = omega arith
      at false h = omega arith

  -- some waits exactly if the count is not 0
  count-any : (l : List InEntry) → any (is_from (record { 0 = i })) l ≡ not (eqb (count_from i l) 0)
  unfolding count_from
  count-any [] = refl
  count-any (x ∷ l) = at (eqb x.origin.0 i) (count-any l)
    where
      at : (t : Bool) → any (is_from (record { 0 = i })) l ≡ not (eqb (count_from i l) 0) → t || any (is_from (record { 0 = i })) l ≡ not (eqb (pick t (suc (count_from i l)) (count_from i l)) 0)
      at true h = rw (ne_eqb (suc (count_from i l)) 0 (λ e. omega arith))
      at false h = h

  count-end : (l : List InEntry) (x : InEntry) → count_from i (l ++ (x ∷ [])) ≡ pick (eqb x.origin.0 i) (suc (count_from i l)) (count_from i l)
  unfolding count_from
  count-end [] x = refl
  count-end (y ∷ l) x = at (eqb y.origin.0 i) (eqb x.origin.0 i) (count-end l x)
    where
      at : (t u : Bool) → count_from i (l ++ (x ∷ [])) ≡ pick u (suc (count_from i l)) (count_from i l)
          → pick t (suc (count_from i (l ++ (x ∷ [])))) (count_from i (l ++ (x ∷ []))) ≡ pick u (suc (pick t (suc (count_from i l)) (count_from i l))) (pick t (suc (count_from i l)) (count_from i l))
      at true true h = ap suc h
      at true false h = ap suc h
      at false true h = h
      at false false h = h

  count-own : (l : List InEntry) (x : InEntry) → eqb x.origin.0 i ≡ true → count_from i (l ++ (x ∷ [])) ≡ suc (count_from i l)
  count-own l x e = rw (count-end l x, e)

  count-other : (l : List InEntry) (x : InEntry) → eqb x.origin.0 i ≡ false → count_from i (l ++ (x ∷ [])) ≡ count_from i l
  count-other l x e = rw (count-end l x, e)

  count-tail : (l : List InEntry) → 0 < length l → count_from i (tail l) ≡ pick (eqb (get_or l 0 no_in_entry).origin.0 i) (pred (count_from i l)) (count_from i l)
  unfolding count_from
  count-tail [] h = absurd (omega arith)
  count-tail (x ∷ l) h = at (eqb x.origin.0 i)
    where
      at : (t : Bool) → count_from i l ≡ pick t (pred (pick t (suc (count_from i l)) (count_from i l))) (pick t (suc (count_from i l)) (count_from i l))
      at true = refl
      at false = refl

-- ---- queues as the lists of their entries

-- as many as the queue says: a sound queue fits its array
out_long : (s : Store) → Sound s → Shaped s → (k : ℕ) → k < s.sizes.engines → length (out_of (get_or s.outs k no_out)) ≡ (get_or s.outs k no_out).len
out_long s h g k b = length-take-le _ _ (out-fits s h g k b)

in-long : (s : Store) → Sound s → Shaped s → (k : ℕ) → k < s.sizes.engines → length (in_of (get_or s.ins k no_in)) ≡ (get_or s.ins k no_in).len
in-long s h g k b = length-take-le _ _ (in-fits s h g k b)

any-alike : {A B : Type 0} (p : A → Bool) (q : B → Bool) (d : A) (e : B) (n : ℕ) (l : List A) (r : List B) → n ≤ length l → n ≤ length r
    → ((k : ℕ) → k < n → p (get_or l k d) ≡ q (get_or r k e)) → any p (take n l) ≡ any q (take n r)
any-alike p q d e zero l r a b h = refl
any-alike p q d e (suc n) [] r a b h = absurd (omega arith)
any-alike p q d e (suc n) (x ∷ l) [] a b h = absurd (omega arith)
any-alike p q d e (suc n) (x ∷ l) (y ∷ r) a b h = rw (h 0 (omega arith), any-alike p q d e n l r (omega arith) (omega arith) (λ k c. h (suc k) (omega arith)))

-- ---- what an action sees

module _ {s : Store} {r : Running} (h : Holds s r) where
  side-at : {k : ℕ} (d : Side) → k < most_engines → get_or r.sides k d ≡ side_of s k
  side-at {k} d b = get_or_default r.sides k d fresh_side (omega (arith, h.long)) ∙ h.sides k b

  some-full-is : some_long r.sizes.depth (take r.sizes.engines r.sides) ≡ some_full s
  some-full-is =
      let sound = sound-parts s h.sound in
      let e = (ranged s sound).engines in
      let n = h.shaped.ins.long in
      rw (h.sizes)
      (any-alike (λ (side : Side). full s.sizes.depth (length side.updates)) (λ (q : InQueue). full s.sizes.depth q.len) fresh_side no_in s.sizes.engines r.sides s.ins
      (omega (arith, h.long))
      (omega arith)
      (λ k b. ap (full s.sizes.depth) (ap (λ (side : Side). length side.updates) (h.sides k (omega arith)) ∙ in-long s sound h.shaped k b)))

  pub looked : {x : Record} {k a : ℕ} {l : Look} (d : Side) → PlaceIn x.engine.0 k → WordIn x.address.0 a → l.sound ≡ true
      → l.outs ≡ length (get_or r.sides k d).writes → l.ins ≡ length (get_or r.sides k d).updates
      → (0 < length (get_or r.sides k d).writes → l.first_out ≡ get_or (get_or r.sides k d).writes 0 no_out_entry)
      → (0 < length (get_or r.sides k d).updates → l.first_in ≡ get_or (get_or r.sides k d).updates 0 no_in_entry)
      → l.own ≡ not (eqb (get_or r.sides k d).own 0)
      → (x.kind ≡ 3 → l.blocked ≡ some_long r.sizes.depth (take r.sizes.engines r.sides))
      → l.cached ≡ cached_word (get_or r.sides k d).cache (record { 0 = a }) → l.stored ≡ get_or r.memory a 0 → Looked s x l
  looked {x} {k} {a} {l} d p w so eo ei fo fi ow bl ca st =
      record {
        sound = so ∙ sym h.sound;
        seen = λ q f. there q (stands s x p w q f);
      }
    where
      e : get_or r.sides k d ≡ side_of s k
      e = side-at d p.within

      there : sound_of s ≡ true → Stands s.sizes x k a → Seen s x (pred x.engine.0) l
      there q t =
          let sound = sound-parts s q in
          let g = h.shaped in
          let kn = t.known in
          let pl : k ≡ pred x.engine.0 = ap pred (sym t.number) in
          rw (← (pl))
          (record {
            place = pl;
            outs = eo ∙ ap (λ (side : Side). length side.writes) e ∙ out_long s sound g k kn ∙ rw (pl);
            ins = ei ∙ ap (λ (side : Side). length side.updates) e ∙ in-long s sound g k kn ∙ rw (pl);
            first_out = λ b. fo (omega (arith, eo)) ∙ ap (λ (side : Side). get_or side.writes 0 no_out_entry) e ∙ rw (pl);
            first_in = λ b. fi (omega (arith, ei)) ∙ ap (λ (side : Side). get_or side.updates 0 no_in_entry) e ∙ rw (pl);
            own = λ b. ow ∙ ap (λ (side : Side). not (eqb side.own 0)) e ∙ rw (t.number) (sym (count-any (suc k) (in_of (get_or s.ins k no_in))));
            blocked = λ b. bl b ∙ some-full-is;
            cached = ca ∙ ap (λ (side : Side). cached_word side.cache (record { 0 = a })) e ∙ rw (pl, t.word);
            stored = st ∙ rw (h.memory, t.word);
          })

  -- what is decided of it is decided of the store
  pub turn-decided : {x : Record} {l : Look} {m : Turned} → Looked s x l → m ≡ move_of r.sizes x l → Decided s x m
  turn-decided w e = look-decides w (e ∙ rw (h.sizes))

-- ---- what a move makes of the parts

-- the entries of a queue that is moved are the moved entries
writes-of : (m : Turned) (q : OutQueue) → out_of (moved_out m q) ≡ writes_after m (out_of q)
writes-of m q = at (eqb m.out_left 1) (eqb m.out_joins 1)
  where
    x : OutEntry
    x = out_entry m.entry.address.0 m.entry.«data»

    at : (t u : Bool) → out_of (pick t (out_left q) (pick u (out_joined x q) q)) ≡ pick t (tail (out_of q)) (pick u (out_of q ++ (x ∷ [])) (out_of q))
    at true u = out-with q (tail (out_of q))
    at false true = out-with q (out_of q ++ (x ∷ []))
    at false false = refl

updates-of : (m : Turned) (q : InQueue) → in_of (left_in m q) ≡ updates_after m (in_of q)
updates-of m q = at (eqb m.in_left 1)
  where
    at : (t : Bool) → in_of (pick t (in_left q) q) ≡ pick t (tail (in_of q)) (in_of q)
    at true = in-with q (tail (in_of q))
    at false = refl

module _ {A : Type 0} (f : A → A) where
  -- a place that is changed, and one that is not
  between_in : (a b e : ℕ) (l : List A) (d : A) → a ≤ e → e < b → e < length l → get_or (between a b f l) e d ≡ f (get_or l e d)
  between_in zero b e l d h i j = get_or-firsts-below b e f l d i j
  between_in (suc a) b e [] d h i j = absurd (omega arith)
  between_in (suc a) b zero (x ∷ l) d h i j = absurd (omega arith)
  between_in (suc a) zero (suc e) (x ∷ l) d h i j = absurd (omega arith)
  between_in (suc a) (suc b) (suc e) (x ∷ l) d h i j = between_in a b e l d (omega arith) (omega arith) (omega arith)

  between-out : (a b e : ℕ) (l : List A) (d : A) → ¬ ((a ≤ e) × (e < b)) → get_or (between a b f l) e d ≡ get_or l e d
  between-out zero b e l d h = get_or-firsts-above b e f l d (omega (arith, below h))
    where
      below : ¬ ((0 ≤ e) × (e < b)) → b ≤ e
      below n = at (ltb e b) refl
        where
          at : (t : Bool) → ltb e b ≡ t → b ≤ e
          at true q = absurd (n (omega arith, ltb-true e b q))
          at false q = ltb-false e b q
  between-out (suc a) b e [] d h = refl
  between-out (suc a) b zero (x ∷ l) d h = refl
  between-out (suc a) zero (suc e) (x ∷ l) d h = between-out a zero e l d (λ n. h (omega (arith, n.0), omega (arith, n.1)))
  between-out (suc a) (suc b) (suc e) (x ∷ l) d h = between-out a b e l d (λ n. h (omega (arith, n.0), omega (arith, n.1)))

module _ {s : Store} {k : ℕ} {m : Turned} (c : Carries s k m) (g : Shaped s) (kb : k < most_engines) where
  in-left-most : m.in_left ≤ length (in_of (get_or s.ins k no_in))
  in-left-most = at (eqb m.in_left 1) refl
    where
      at : (t : Bool) → eqb m.in_left 1 ≡ t → m.in_left ≤ length (in_of (get_or s.ins k no_in))
      at true q =
          let w = eqb-true m.in_left 1 q in
          let b = c.in_leaves w in
          let l : length (in_of (get_or s.ins k no_in)) ≡ (get_or s.ins k no_in).len = length-take-le _ _ (rw (g.ins.each k kb).entries b.1) in
          omega (arith, b.0)
      at false q = let w = eqb-false m.in_left 1 q in omega (arith, c.one_in)

  left-contents : in_of (left_in m (get_or s.ins k no_in)) ≡ updates_after m (in_of (get_or s.ins k no_in))
  left-contents = updates-of m (get_or s.ins k no_in)

  -- how many of its own wait
  abbrev before : List InQueue
  before = change k (left_in m) s.ins

  abbrev after : List InQueue
  after = moved_ins m k s.ins

  long-before : length before ≡ most_engines
  long-before = length-change k (left_in m) s.ins ∙ g.ins.long

  -- the entry joins the queue at e, or does not
  joined_in : (e : ℕ) → m.from ≤ e → e < m.to → e < most_engines → in_of (get_or after e no_in) ≡ in_of (get_or before e no_in) ++ (m.entry ∷ [])
  joined_in e a b d = ap in_of (between_in (in_joined m.entry) m.from m.to e before no_in a b (omega (arith, long-before))) ∙ in-with (get_or before e no_in) _

  joined-out : (e : ℕ) → ¬ ((m.from ≤ e) × (e < m.to)) → in_of (get_or after e no_in) ≡ in_of (get_or before e no_in)
  joined-out e n = ap in_of (between-out (in_joined m.entry) m.from m.to e before no_in n)

  -- another's entry joins, or none does: the count of i's own stays
  same_count : (e i : ℕ) → e < most_engines → ((m.from ≤ e) × (e < m.to) → ¬ (m.entry.origin.0 ≡ i)) → count_from i (in_of (get_or after e no_in)) ≡ count_from i (in_of (get_or before e no_in))
  same_count e i b n = at (leb m.from e) (ltb e m.to) refl refl
    where
      at : (t u : Bool) → leb m.from e ≡ t → ltb e m.to ≡ u → count_from i (in_of (get_or after e no_in)) ≡ count_from i (in_of (get_or before e no_in))
      at true true p q =
          let a = leb-true _ _ p in
          let c = ltb-true _ _ q in
          ap (count_from i) (joined_in e a c b) ∙ count-other i (in_of (get_or before e no_in)) m.entry (ne_eqb m.entry.origin.0 i (n (a, c)))
      at true false p q = ap (count_from i) (joined-out e (λ o. absurd (not-both (ltb-false _ _ q) o.1)))
        where
          not-both : {x y : ℕ} → y ≤ x → x < y → ⊥
          not-both a b = omega arith
      at false u p q = ap (count_from i) (joined-out e (λ o. absurd (not-both (leb-false _ _ p) o.0)))
        where
          not-both : {x y : ℕ} → y < x → x ≤ y → ⊥
          not-both a b = omega arith

  own-before : count_from (suc k) (in_of (get_or before k no_in)) ≡ count_from (suc k) (pick (eqb m.in_left 1) (tail (in_of (get_or s.ins k no_in))) (in_of (get_or s.ins k no_in)))
  own-before = ap (λ (q : InQueue). count_from (suc k) (in_of q)) (get_or-change-same k (left_in m) s.ins no_in (omega (arith, g.ins.long))) ∙ ap (count_from (suc k)) left-contents

  owned-here : count_from (suc k) (in_of (get_or after k no_in)) ≡ own_after m (suc k) (count_from (suc k) (in_of (get_or s.ins k no_in)))
  owned-here = at (eqb m.word to_memory) (eqb m.in_left 1) refl refl own-before
    where
      es : List InEntry
      es = in_of (get_or s.ins k no_in)

      at : (t u : Bool) → eqb m.word to_memory ≡ t → eqb m.in_left 1 ≡ u → count_from (suc k) (in_of (get_or before k no_in)) ≡ count_from (suc k) (pick u (tail es) es)
          → count_from (suc k) (in_of (get_or after k no_in)) ≡ pick t (suc (count_from (suc k) es)) (pick (u && eqb m.entry.origin.0 (suc k)) (pred (count_from (suc k) es)) (count_from (suc k) es))
      at true true p q o = let a = c.published (eqb-true _ _ p) in absurd (omega (arith, a.1.1.1, eqb-true m.in_left 1 q))
      at true false p q o =
          let a = c.published (eqb-true _ _ p) in
          ap (count_from (suc k)) (joined_in k a.1.0 a.1.1.0 kb) ∙ count-own (suc k) (in_of (get_or before k no_in)) m.entry (eq-eqb _ _ a.0) ∙ ap suc o
      at false true p q o =
          let n : ¬ (m.word ≡ to_memory) = eqb-false _ _ p in
          let l = eqb-true m.in_left 1 q in
          let a = c.oldest l in
          same_count k (suc k) kb (λ v. absurd (none a.1 v.1))
          ∙ o
          ∙ count-tail (suc k) es (omega (arith, in-left-most))
          ∙ ap (λ (x : InEntry). pick (eqb x.origin.0 (suc k)) (pred (count_from (suc k) es)) (count_from (suc k) es)) (sym a.0)
        where
          none : {x y : ℕ} → y ≡ 0 → x < y → ⊥
          none a b = omega arith
      at false false p q o =
          let n : ¬ (m.word ≡ to_memory) = eqb-false _ _ p in
          same_count k (suc k) kb (λ v e. none (c.plain n k v.0 v.1) e) ∙ o
        where
          none : {x : ℕ} → x ≡ 0 → x ≡ suc k → ⊥
          none a b = omega arith

  own-other : (e : ℕ) → e < most_engines → ¬ (e ≡ k) → count_from (suc e) (in_of (get_or after e no_in)) ≡ count_from (suc e) (in_of (get_or s.ins e no_in))
  own-other e b d =
      same_count e (suc e) b (other (eqb m.word to_memory) refl) ∙ ap (λ (r : InQueue). count_from (suc e) (in_of r)) (get_or-change-other k e (left_in m) s.ins no_in d)
    where
      other : (t : Bool) → eqb m.word to_memory ≡ t → (m.from ≤ e) × (e < m.to) → ¬ (m.entry.origin.0 ≡ suc e)
      other true p v o = let a = (c.published (eqb-true _ _ p)).0 in d (omega arith)
      other false p v o = let a = c.plain (eqb-false _ _ p) e v.0 v.1 in omega arith

  -- what the store has of engine suc j, but for the entry that joins; its count is that after
  abbrev side_before : ℕ → Side
  side_before j =
      record {
        cache = get_or (change k (moved_cache m) s.caches) j no_cache;
        writes = out_of (get_or (change k (moved_out m) s.outs) j no_out);
        updates = in_of (get_or before j no_in);
        own = count_from (suc j) (in_of (get_or after j no_in));
      }

  side-here : side_after m k (side_of s k) ≡ side_before k
  side-here =
      rw (
        get_or-change-same k (moved_cache m) s.caches no_cache (omega (arith, g.caches.long)),
        get_or-change-same k (moved_out m) s.outs no_out (omega (arith, g.outs.long)),
        get_or-change-same k (left_in m) s.ins no_in (omega (arith, g.ins.long)),
        writes-of m (get_or s.outs k no_out),
        left-contents,
        add-one k,
        owned-here,
      )

  side-other : (j : ℕ) → j < most_engines → ¬ (j ≡ k) → side_of s j ≡ side_before j
  side-other j b n =
      rw (get_or-change-other k j (moved_cache m) s.caches no_cache n, get_or-change-other k j (moved_out m) s.outs no_out n, get_or-change-other k j (left_in m) s.ins no_in n, own-other j b n)

  side-joined : (j : ℕ) → j < most_engines → m.from ≤ j → j < m.to → with_update m.entry (side_before j) ≡ side_of (moved m k s) j
  side-joined j b a n = ap (λ (es : List InEntry). record (side_before j) { updates = es }) (sym (joined_in j a n b))

  side-alone : (j : ℕ) → ¬ ((m.from ≤ j) × (j < m.to)) → side_before j ≡ side_of (moved m k s) j
  side-alone j n = ap (λ (es : List InEntry). record (side_before j) { updates = es }) (sym (joined-out j n))

-- what carrying a move out may rely on, and the parts that it leaves
module _ {s : Store} {x : Record} {m : Turned} {r : Running} (h : Holds s r) (d : Decided s x m) {k : ℕ} (p : PlaceIn x.engine.0 k) where
  abbrev c : Carries s k m
  c = move-carries d p

  pub moves : (e : Side) → Moves m k (get_or r.sides k e)
  moves e =
      let o = get_or s.outs k no_out in
      let i = get_or s.ins k no_in in
      rw (side-at h e p.within)
      (record {
        out_leaves = λ q.
            let b = c.out_leaves q in
            let l : length (out_of o) ≡ o.len = length-take-le _ _ (rw (h.shaped.outs.each k p.within).entries b.1) in
            (omega (arith, b.0), omega (arith, b.1));
        out_joins = λ q. omega (arith, (c.out_joins q).1, length-take o.len o.entries);
        in_leaves = λ q.
            let b = c.in_leaves q in
            let l : length (in_of i) ≡ i.len = length-take-le _ _ (rw (h.shaped.ins.each k p.within).entries b.1) in
            (omega (arith, b.0), omega (arith, b.1));
        address = c.address;
        own = (omega (arith, count_most (suc k) (in_of i), length-take i.len i.entries, (h.shaped.ins.each k p.within).entries), p.within);
      })

  -- the sides once that of the engine whose turn it is has moved
  sides-before : {side : Side} (e : Side) → side ≡ side_after m k (get_or r.sides k e) → (j : ℕ) → j < most_engines → get_or (set r.sides k side) j fresh_side ≡ side_before c h.shaped p.within j
  sides-before {side} e q j b = at (eqb j k) refl
    where
      at : (t : Bool) → eqb j k ≡ t → get_or (set r.sides k side) j fresh_side ≡ side_before c h.shaped p.within j
      at true t =
          let n : j ≡ k = eqb-true j k t in
          rw (n) (get_or-set_same r.sides k side fresh_side (omega (arith, h.long, p.within)) ∙ q ∙ rw (side-at h e p.within) (side-here c h.shaped p.within))
      at false t =
          let n = eqb-false j k t in
          get_or-set_other r.sides k j side fresh_side n ∙ h.sides j b ∙ side-other c h.shaped p.within j b n

  pub updates-room : {side : Side} {j : ℕ} (o e : Side) → side ≡ side_after m k (get_or r.sides k o) → m.from ≤ j → j < m.to → length (get_or (set r.sides k side) j e).updates < most_depth
  updates-room {side} {j} o e eq a b =
      let v = (c.in_joins j a b).1 in
      let t = get_or (change k (left_in m) s.ins) j no_in in
      let n : j < most_engines = omega (arith, c.range) in
      let long = length-set r.sides k side ∙ h.long in
      rw (get_or_default (set r.sides k side) j e fresh_side (omega (arith, long)), sides-before o eq j n)
      (omega (arith, length-take t.len t.entries))

  pub holds-moved : {r' : Running} {b w : ℕ} {side : Side} (e : Side) → r'.sizes ≡ r.sizes → WordIn m.entry.address.0 b → w ≡ stored_as m (get_or r.memory b 0) → r'.memory ≡ set r.memory b w
      → side ≡ side_after m k (get_or r.sides k e) → r'.sides ≡ between m.from m.to (with_update m.entry) (set r.sides k side) → Holds (stepped s x).store r'
  holds-moved {r'} {b} {w} {side} e es wb ew em eq eqs =
      let steps : moved m k s ≡ (stepped s x).store = ap (λ (t : Stepped). t.store) (move-steps d p) in
      let eb : b ≡ m.entry.address.0 = wb.exact c.address in
      let held : Holds (moved m k s) r' =
      record {
        sound = rw (steps) (keeps-sound s x h.sound);
        shaped = rw (steps) (keeps-shaped s x h.shaped);
        sizes = es ∙ h.sizes;
        memory = em ∙ rw (ew, eb, h.memory);
        long = rw (eqs) (length-between (with_update m.entry) m.from m.to (set r.sides k side) ∙ long);
        sides = λ j n. rw (eqs) (at j n (leb m.from j) (ltb j m.to) refl refl);
      } in
      rw (← (steps)) held
    where
      long : length (set r.sides k side) ≡ most_engines
      long = length-set r.sides k side ∙ h.long

      alone : (j : ℕ) → j < most_engines → ¬ ((m.from ≤ j) × (j < m.to)) → get_or (between m.from m.to (with_update m.entry) (set r.sides k side)) j fresh_side ≡ side_of (moved m k s) j
      alone j n o = between-out (with_update m.entry) m.from m.to j (set r.sides k side) fresh_side o ∙ sides-before e eq j n ∙ side-alone c h.shaped p.within j o

      at : (j : ℕ) → j < most_engines → (t u : Bool) → leb m.from j ≡ t → ltb j m.to ≡ u → get_or (between m.from m.to (with_update m.entry) (set r.sides k side)) j fresh_side ≡ side_of (moved m k s) j
      at j n true true t u =
          let a = leb-true _ _ t in
          let b = ltb-true _ _ u in
          between_in (with_update m.entry) m.from m.to j (set r.sides k side) fresh_side a b (omega (arith, long))
          ∙ ap (with_update m.entry) (sides-before e eq j n)
          ∙ side-joined c h.shaped p.within j n a b
      at j n true false t u = alone j n (λ o. absurd (not-both (ltb-false _ _ u) o.1))
        where
          not-both : {x y : ℕ} → y ≤ x → x < y → ⊥
          not-both a b = omega arith
      at j n false u t v = alone j n (λ o. absurd (not-both (leb-false _ _ t) o.0))
        where
          not-both : {x y : ℕ} → y < x → x ≤ y → ⊥
          not-both a b = omega arith

-- ---- before the first turn

pub holds-fresh : (z : Sizes) (table : List ℕ) {r : Running} → first_of (fresh_refused z table) ≡ 0 → r.sizes ≡ z → r.memory ≡ over table (replicate most_addresses 0)
    → r.sides ≡ replicate most_engines fresh_side → Holds (fresh_of z table) r
unfolding fresh_of count_from
holds-fresh z table f es em eq =
    record {
      sound = fresh_sound z table f;
      shaped = fresh-shaped z table (fresh-short z table f);
      sizes = es;
      memory = em;
      long = rw (eq);
      sides = λ k b. rw (
        eq,
        get_or-replicate most_engines k fresh_side fresh_side b,
        get_or-replicate most_engines k empty_cache no_cache b,
        get_or-replicate most_engines k empty_out no_out b,
        get_or-replicate most_engines k empty_in no_in b,
      );
    }
