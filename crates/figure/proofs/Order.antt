-- Each engine's items stand in the account as they happened. Assumes nothing.
use Prim.Native.Nat.{ℕ, zero, suc, ◌≤◌}
use native.Mathlib.Omega.{arith}
use mathlib.Core.Path.{◌≡◌, refl, sym, ap, ◌∙◌}
use mathlib.Core.Bool.{Bool, true, false, not, ◌&&◌, false≢true, and-false}
use mathlib.Core.List.{List, [], ◌∷◌, ◌++◌, append_assoc, append-nil, append-eq-nil_iff}
use lib.Dec.{eqb, leb}
use borrow.Author.Tests.{eqb-true, eqb-false, leb-true, leb-false, not-true}
use Rattle.figure.specs.declared.Sizes.{Sizes}
use Rattle.figure.specs.Figure.{upd, Out, wr, In, up, Engine, State, Step, R, W, MW, MR, CU, CI, fresh, empty, present, none_of, engine?, named, allowed, accepted, next, publish, update, after}
use Rattle.figure.specs.Account.{read, wrote, head_out, head_in, event, trace, Item, reading, writing, logged, log, Book, blank, join_slot, note, flat, account, unpublished}
use Rattle.figure.specs.Demand.{who, own, book_of, log_of}
use Rattle.figure.proofs.Laws.{and_left, and_right, upd-each, upd-one, each, flat_append}
use Rattle.figure.proofs.Run.{run-keeps}
use Rattle.figure.proofs.Serial.{Linked, nil, one, Inv, inv-fresh, inv-next}
use Rattle.figure.proofs.Own.{own-append, own-mine, own-other, snoc-mine, snoc-other}

-- a slot of one item
slot-append : (i : ℕ) (ss : List (List Item)) (e : Item) → own i (flat (ss ++ ((e ∷ []) ∷ []))) ≡ own i (flat ss ++ (e ∷ []))
slot-append i ss e = ap (λ (x : List Item). own i x) (flat_append ss ((e ∷ []) ∷ []))

-- ---- past the floor of i stands an item of i only where the in queue of i holds a write of i

abbrev pub Clear : ℕ → List (List Item) → List In → Type 0
Clear i [] [] = Unit {0}
Clear i (s ∷ ss) [] = ⊥
Clear i ss (up zero a d ∷ q) = Clear i ss q
Clear i [] (up (suc o) a d ∷ q) = ⊥
Clear i (s ∷ ss) (up (suc o) a d ∷ q) = (¬ (suc o ≡ i) → own i s ≡ []) × Clear i ss q

abbrev pub Past : ℕ → ℕ → List (List Item) → List In → Type 0
Past T i [] q = ⊥
Past zero i (s ∷ ss) q = Clear i ss q
Past (suc T) i (s ∷ ss) q = Past T i ss q

clear_none : (i : ℕ) (ss : List (List Item)) (q : List In) → Clear i ss q → none_of i q ≡ true → own i (flat ss) ≡ []
clear_none i [] q h e = refl
clear_none i (s ∷ ss) [] h e = absurd h
clear_none i (s ∷ ss) (up zero a d ∷ q) h e = clear_none i (s ∷ ss) q h (and_right (not (eqb zero i)) (none_of i q) e)
clear_none i (s ∷ ss) (up (suc o) a d ∷ q) h e =
    rw (own-append, h.0 (eqb-false (suc o) i (not-true (eqb (suc o) i) (and_left (not (eqb (suc o) i)) (none_of i q) e))))
    (clear_none i ss q h.1 (and_right (not (eqb (suc o) i)) (none_of i q) e))

-- ---- an item joins a slot

module _ (r : Item) where
  own-put-other : (j k : ℕ) (ss : List (List Item)) → ¬ (who r ≡ j) → own j (flat (join_slot k r ss)) ≡ own j (flat ss)
  own-put-other j k [] h = refl
  own-put-other j zero (s ∷ ss) h = simp (own-append, own-other r j [] h, append-nil)
  own-put-other j (suc k) (s ∷ ss) h = simp (own-append, own-put-other j k ss h)

  own-put-mine : (i T : ℕ) (ss : List (List Item)) (q : List In) → who r ≡ i → Past T i ss q → none_of i q ≡ true
      → own i (flat (join_slot T r ss)) ≡ own i (flat ss) ++ (r ∷ [])
  own-put-mine i T [] q w h e = absurd h
  own-put-mine i zero (s ∷ ss) q w h e = simp (own-append, own-mine r i [] w, clear_none i ss q h e, append-nil)
  own-put-mine i (suc T) (s ∷ ss) q w h e = simp (own-append, own-put-mine i T ss q w h e, append_assoc)

  clear-put : (j k : ℕ) (ss : List (List Item)) (q : List In) → ¬ (who r ≡ j) → Clear j ss q → Clear j (join_slot k r ss) q
  clear-put j k [] q n h = h
  clear-put j zero (s ∷ ss) [] n h = h
  clear-put j (suc k) (s ∷ ss) [] n h = h
  clear-put j zero (s ∷ ss) (up zero a d ∷ q) n h = clear-put j zero (s ∷ ss) q n h
  clear-put j (suc k) (s ∷ ss) (up zero a d ∷ q) n h = clear-put j (suc k) (s ∷ ss) q n h
  clear-put j zero (s ∷ ss) (up (suc o) a d ∷ q) n h = ((λ x. rw (own-append, h.0 x) (own-other r j [] n)), h.1)
  clear-put j (suc k) (s ∷ ss) (up (suc o) a d ∷ q) n h = (h.0, clear-put j k ss q n h.1)

  past-put-other : (T j k : ℕ) (ss : List (List Item)) (q : List In) → ¬ (who r ≡ j) → Past T j ss q → Past T j (join_slot k r ss) q
  past-put-other T j k [] q n h = h
  past-put-other zero j zero (s ∷ ss) q n h = h
  past-put-other (suc T) j zero (s ∷ ss) q n h = h
  past-put-other zero j (suc k) (s ∷ ss) q n h = clear-put j k ss q n h
  past-put-other (suc T) j (suc k) (s ∷ ss) q n h = past-put-other T j k ss q n h

  past-put-mine : (T i : ℕ) (ss : List (List Item)) (q : List In) → Past T i ss q → Past T i (join_slot T r ss) q
  past-put-mine T i [] q h = h
  past-put-mine zero i (s ∷ ss) q h = h
  past-put-mine (suc T) i (s ∷ ss) q h = past-put-mine T i ss q h

-- ---- a write opens a slot; an entry joins or leaves an in queue

module _ (t i a d : ℕ) where
  clear-snoc : (j : ℕ) (ss : List (List Item)) (q : List In) → Clear j ss q → Clear j (ss ++ ((writing t (suc i) a d ∷ []) ∷ [])) (q ++ (up (suc i) a d ∷ []))
  clear-snoc j [] [] h = (own-other (writing t (suc i) a d) j [], tt)
  clear-snoc j (s ∷ ss) [] h = absurd h
  clear-snoc j [] (up zero b e ∷ q) h = clear-snoc j [] q h
  clear-snoc j (s ∷ ss) (up zero b e ∷ q) h = clear-snoc j (s ∷ ss) q h
  clear-snoc j [] (up (suc o) b e ∷ q) h = absurd h
  clear-snoc j (s ∷ ss) (up (suc o) b e ∷ q) h = (h.0, clear-snoc j ss q h.1)

  past-snoc : (T j : ℕ) (ss : List (List Item)) (q : List In) → Past T j ss q → Past T j (ss ++ ((writing t (suc i) a d ∷ []) ∷ [])) (q ++ (up (suc i) a d ∷ []))
  past-snoc T j [] q h = absurd h
  past-snoc zero j (s ∷ ss) q h = clear-snoc j ss q h
  past-snoc (suc T) j (s ∷ ss) q h = past-snoc T j ss q h

clear-filler : (a d j : ℕ) (ss : List (List Item)) (q : List In) → Clear j ss q → Clear j ss (q ++ (up 0 a d ∷ []))
clear-filler a d j ss [] h = h
clear-filler a d j ss (up zero b e ∷ q) h = clear-filler a d j ss q h
clear-filler a d j [] (up (suc o) b e ∷ q) h = absurd h
clear-filler a d j (s ∷ ss) (up (suc o) b e ∷ q) h = (h.0, clear-filler a d j ss q h.1)

past-filler : (a d T j : ℕ) (ss : List (List Item)) (q : List In) → Past T j ss q → Past T j ss (q ++ (up 0 a d ∷ []))
past-filler a d T j [] q h = h
past-filler a d zero j (s ∷ ss) q h = clear-filler a d j ss q h
past-filler a d (suc T) j (s ∷ ss) q h = past-filler a d T j ss q h

past-old : (a d T j : ℕ) (ss : List (List Item)) (q : List In) → Past T j ss (up zero a d ∷ q) → Past T j ss q
past-old a d T j [] q h = h
past-old a d zero j (s ∷ ss) q h = h
past-old a d (suc T) j (s ∷ ss) q h = past-old a d T j ss q h

past-new : (o a d T j : ℕ) (ss : List (List Item)) (q : List In) → Past T j ss (up (suc o) a d ∷ q) → Past (suc T) j ss q
past-new o a d T j [] q h = h
past-new o a d zero j (s ∷ []) q h = h
past-new o a d zero j (s ∷ s' ∷ ss) q h = h.1
past-new o a d (suc T) j (s ∷ ss) q h = past-new o a d T j ss q h

-- ---- the invariant

-- l: the log so far
pub record Order (s : State) (b : Book) (l : List Item) : Type 0 where
  pub past : (i : ℕ) → Past (b.ledger.taken i) i b.slots (s.engine i).ins
  pub same : (i : ℕ) → own i (flat b.slots) ++ b.pending i ≡ own i l

order-fresh : (mem : ℕ → ℕ) → Order (fresh mem) blank []
order-fresh mem = record { past = λ i. tt; same = λ i. refl }

linked-empty : {i : ℕ} {p : List Item} {q : List Out} → Linked i p q → empty q ≡ true → p ≡ []
linked-empty nil e = refl
linked-empty (one k) e = absurd (false≢true e)

module _ (s : State) (b : Book) (l : List Item) (h : Order s b l) where
  on_read : (t i a d : ℕ) → b.pending i ≡ [] → none_of i (s.engine i).ins ≡ true → Order s (note t (read i a d) b) (l ++ logged t (read i a d))
  on_read t i a d p e =
      let r = reading t i a d in
      record {
        past = each (λ j. Past (b.ledger.taken j) j (join_slot (b.ledger.taken i) r b.slots) (s.engine j).ins) i
            (past-put-mine r (b.ledger.taken i) i b.slots _ (h.past i))
            (λ j n. past-put-other r (b.ledger.taken j) j (b.ledger.taken i) b.slots _ (λ q. n (sym q)) (h.past j));
        same = each (λ j. own j (flat (join_slot (b.ledger.taken i) r b.slots)) ++ b.pending j ≡ own j (l ++ (r ∷ []))) i
            (simp (snoc-mine r i l refl, own-put-mine r i (b.ledger.taken i) b.slots (s.engine i).ins refl (h.past i) e, ← (h.same i), p, append-nil))
            (λ j n. rw (own-put-other r j (b.ledger.taken i) b.slots (λ q. n (sym q)), snoc-other r j l (λ q. n (sym q))) (h.same j));
      }

  on-write : (t i a d : ℕ) → Order (next s (W i a d)) (note t (wrote i a d) b) (l ++ logged t (wrote i a d))
  on-write t i a d =
      let w = writing t i a d in
      record {
        past = upd-one (λ j (e : Engine). Past (b.ledger.taken j) j b.slots e.ins) s.engine i _ (h.past i) (λ j _. h.past j);
        same = upd-one (λ j (p : List Item). own j (flat b.slots) ++ p ≡ own j (l ++ (w ∷ []))) b.pending i _
            (simp (snoc-mine w i l refl, ← (h.same i), append_assoc)) (λ j n. rw (snoc-other w j l (λ q. n (sym q))) (h.same j));
      }

  on-publish : (now i : ℕ) (p : List Item) (q : List Out) → b.pending (suc i) ≡ p → Linked (suc i) p q
      → Order (publish s (suc i) q) (note now (head_out (suc i) q) b) (l ++ logged now (head_out (suc i) q))
  on-publish now i p q y nil = rw (append-nil l) h
  on-publish now i p q y (one {t} {a} {d} {p = p'} {q = q'} k) =
      let w = writing t (suc i) a d in
      let g : own (suc i) (flat b.slots) ++ (w ∷ p') ≡ own (suc i) l = rw y at (h.same (suc i)) in
      rw (append-nil l, y)
      record {
        past = upd-one (λ j (e : Engine). Past (b.ledger.taken j) j (b.slots ++ ((w ∷ []) ∷ [])) (e.ins ++ (up (suc i) a d ∷ []))) s.engine (suc i) _
            (past-snoc t i a d (b.ledger.taken (suc i)) (suc i) b.slots _ (h.past (suc i))) (λ j _. past-snoc t i a d (b.ledger.taken j) j b.slots _ (h.past j));
        same = upd-one (λ j (x : List Item). own j (flat (b.slots ++ ((w ∷ []) ∷ []))) ++ x ≡ own j l) b.pending (suc i) p'
            (simp (slot-append, snoc-mine w (suc i) (flat b.slots) refl, append_assoc) g) (λ j n. rw (slot-append, snoc-other w j (flat b.slots) (λ q. n (sym q))) (h.same j));
      }

  -- the cache and the in queue of engine i change
  at-engine : (i : ℕ) (e : Engine) → Past (b.ledger.taken i) i b.slots e.ins → Order (record { memory = s.memory; engine = upd s.engine i e }) b l
  at-engine i e v = record { past = upd-one (λ j (e : Engine). Past (b.ledger.taken j) j b.slots e.ins) s.engine i e v (λ j _. h.past j); same = h.same }

  on-update : (t i : ℕ) (q : List In) → (s.engine i).ins ≡ q → Order (update s i q) (note t (head_in i q) b) (l ++ logged t (head_in i q))
  on-update t i [] e = rw (append-nil l) h
  on-update t i (up zero a d ∷ q) e = rw (append-nil l) (at-engine i _ (past-old a d (b.ledger.taken i) i b.slots q (rw e at (h.past i))))
  on-update t i (up (suc o) a d ∷ q) e =
      rw (append-nil l)
      record {
        past = upd-each (λ j T (e : Engine). Past T j b.slots e.ins) b.ledger.taken s.engine i _ _
            (past-new o a d (b.ledger.taken i) i b.slots q (rw e at (h.past i))) (λ j _. h.past j);
        same = h.same;
      }

  order-next : (z : Sizes) (t : ℕ) (x : Step) → ((i : ℕ) → Linked i (b.pending i) (s.engine i).outs) → accepted z s x ≡ true
      → Order (next s x) (note t (event s x) b) (l ++ logged t (event s x))
  order-next z t (R i a) k e =
      let quiet = and_right (present ((s.engine i).cache a)) _ (and_left (allowed s (R i a)) _ (and_right (named z (R i a)) _ e)) in
      on_read t i a _ (linked-empty (k i) (and_left (empty (s.engine i).outs) _ quiet)) (and_right (empty (s.engine i).outs) _ quiet)
  order-next z t (W i a d) k e = on-write t i a d
  order-next z t (MW zero) k e = absurd (false≢true e)
  order-next z t (MW (suc i)) k e = on-publish t i (b.pending (suc i)) (s.engine (suc i)).outs refl (k (suc i))
  order-next z t (MR i a) k e = rw (append-nil l) (at-engine i _ (past-filler a (s.memory a) (b.ledger.taken i) i b.slots _ (h.past i)))
  order-next z t (CU i) k e = on-update t i (s.engine i).ins refl
  order-next z t (CI i a) k e = rw (append-nil l) (at-engine i _ (h.past i))

-- ---- the writes that are not published

own-pending : {j : ℕ} {p : List Item} {q : List Out} → Linked j p q → own j p ≡ p
own-pending {j} nil = refl
own-pending {j} (one {t} {a} {d} {p = p} l) = own-mine (writing t j a d) j p refl ∙ ap (λ (x : List Item). writing t j a d ∷ x) (own-pending l)

own-not : {j : ℕ} {p : List Item} {q : List Out} (i : ℕ) → ¬ (j ≡ i) → Linked j p q → own i p ≡ []
own-not {j} i n nil = refl
own-not {j} i n (one {t} {a} {d} {p = p} l) = own-other (writing t j a d) i p n ∙ own-not i n l

module _ (f : ℕ → List Item) (g : ℕ → List Out) (l : (i : ℕ) → Linked i (f i) (g i)) where
  own-none : (n i : ℕ) → ((j : ℕ) → 1 ≤ j → j ≤ n → ¬ (j ≡ i)) → own i (unpublished n f) ≡ []
  own-none zero i h = refl
  own-none (suc n) i h = rw (own-append, own-none n i (λ j lo hi. h j lo (omega arith)), own-not i (h (suc n) (omega arith) (omega arith)) (l (suc n)))

  own-unpublished : (n i : ℕ) → 1 ≤ i → i ≤ n → own i (unpublished n f) ≡ f i
  own-unpublished zero i lo hi = absurd (omega arith)
  own-unpublished (suc n) i lo hi = at (eqb i (suc n)) refl (λ k. own-unpublished n i lo k)
    where
      at : (t : Bool) → eqb i (suc n) ≡ t → (i ≤ n → own i (unpublished n f) ≡ f i) → own i (unpublished n f ++ f (suc n)) ≡ f i
      at true e k = let q : i ≡ suc n = eqb-true i (suc n) e in rw (q, own-append, own-none n (suc n) (λ j lo hi e. omega arith)) (own-pending (l (suc n)))
      at false e k = let u : ¬ (i ≡ suc n) = eqb-false i (suc n) e in rw (own-append, k (omega arith), own-not i (λ x. u (sym x)) (l (suc n))) (append-nil (f i))

  -- also where i is no engine
  own-all : (n i : ℕ) → (leb 1 i && leb i n ≡ false → f i ≡ []) → own i (unpublished n f) ≡ f i
  own-all n zero h = own-none n 0 (λ j lo hi e. omega arith) ∙ sym (h refl)
  own-all n (suc i) h = at (leb (suc i) n) refl
    where
      at : (t : Bool) → leb (suc i) n ≡ t → own (suc i) (unpublished n f) ≡ f (suc i)
      at true e = own-unpublished n (suc i) (omega arith) (leb-true (suc i) n e)
      at false e = own-none n (suc i) (λ j lo hi q. omega (arith, leb-false (suc i) n e)) ∙ sym (h (rw e (and-false (leb 1 (suc i)))))

-- ---- an item's engine is an engine

module _ (z : Sizes) (j : ℕ) (no : engine? z j ≡ false) where
  other : (i : ℕ) → engine? z i ≡ true → ¬ (i ≡ j)
  other i y e = false≢true (sym no ∙ ap (λ (k : ℕ). engine? z k) (sym e) ∙ y)

  idle-next : (t : ℕ) (s : State) (x : Step) → accepted z s x ≡ true → own j (logged t (event s x)) ≡ []
  idle-next t s (R i a) e = own-other (reading t i a _) j [] (other i (and_left (engine? z i) _ (and_left (named z (R i a)) _ e)))
  idle-next t s (W i a d) e = own-other (writing t i a d) j [] (other i (and_left (engine? z i) _ (and_left (named z (W i a d)) _ e)))
  idle-next t s (MW i) e = at (s.engine i).outs
    where
      at : (q : List Out) → own j (logged t (head_out i q)) ≡ []
      at [] = refl
      at (wr a d ∷ q) = refl
  idle-next t s (CU i) e = at (s.engine i).ins
    where
      at : (q : List In) → own j (logged t (head_in i q)) ≡ []
      at [] = refl
      at (up o a d ∷ q) = refl
  idle-next t s x e = refl

  pub log-idle : (t : ℕ) (s : State) (xs : List Step) → own j (log t (trace z s xs)) ≡ []
  log-idle t s xs = run-keeps z (λ s b l. own j l ≡ []) (λ t s b l x e h. rw (own-append, h) (idle-next t s x e)) t s blank [] xs refl

-- ---- all together

pub own-order : (z : Sizes) (mem : ℕ → ℕ) (xs : List Step) (i : ℕ) → own i (account z (book_of z mem xs)) ≡ own i (log_of z mem xs)
own-order z mem xs i =
    let b = book_of z mem xs in
    let h = run-keeps z (λ s b l. Inv mem s b × Order s b l) (λ t s b l x e h. (inv-next mem s b h.0 z t x e, order-next s b l h.1 z t x h.0.linked e))
    0 (fresh mem) blank [] xs (inv-fresh mem, order-fresh mem) in
    own-append i (flat b.slots) (unpublished z.engines b.pending)
    ∙ ap (λ (x : List Item). own i (flat b.slots) ++ x) (own-all b.pending (λ j. ((after z (fresh mem) xs).engine j).outs) h.0.linked z.engines i (λ no. (append-eq-nil_iff.0 (h.1.same i ∙ log-idle z i no 0 (fresh mem) xs)).1))
    ∙ h.1.same i
