-- The account is serial. Assumes nothing.
use Prim.Native.Nat.{ℕ, zero, suc}
use mathlib.Core.Path.{◌≡◌, refl, sym, subst, ◌∙◌}
use mathlib.Core.Bool.{true, false≢true}
use mathlib.Core.Option.{Option, none, some}
use mathlib.Core.List.{List, [], ◌∷◌, ◌++◌}
use Rattle.figure.specs.declared.Sizes.{Sizes}
use Rattle.figure.specs.Figure.{upd, Out, wr, In, up, Engine, State, Step, R, W, MW, MR, CU, CI, fresh, present, allowed, accepted, named, next, publish, update, after}
use Rattle.figure.specs.Account.{read, wrote, held, head_out, head_in, event, trace, Item, reading, writing, Book, blank, join_slot, note, book, flat, account, unpublished}
use Rattle.figure.specs.Demand.{Serial, book_of}
use Rattle.figure.proofs.Laws.{and_left, and_right, upd-each, upd-one, flat_append, leave, leave-append, serial-join, serial-split}
use Rattle.figure.proofs.Run.{run-keeps}

-- the cache holds nothing but what m has
abbrev pub Fits : (ℕ → ℕ) → (ℕ → Option ℕ) → Type 0
Fits m c = (a d : ℕ) → c a ≡ some d → m a ≡ d

-- m: the memory at the floor; then the slots past it; then the in queue, which has a write for each of them
abbrev pub Behind : (ℕ → ℕ) → List (List Item) → List In → Type 0
Behind m [] [] = Unit {0}
Behind m (s ∷ ss) [] = ⊥
Behind m ss (up zero a d ∷ q) = (m a ≡ d) × Behind m ss q
Behind m [] (up (suc o) a d ∷ q) = ⊥
Behind m (s ∷ ss) (up (suc o) a d ∷ q) = (leave m s ≡ upd m a d) × Behind (leave m s) ss q

-- the same from slot 0: T is the floor, m the memory before the slots
abbrev pub View : ℕ → (ℕ → ℕ) → List (List Item) → (ℕ → Option ℕ) → List In → Type 0
View T m [] c q = ⊥
View zero m (s ∷ ss) c q = Fits (leave m s) c × Behind (leave m s) ss q
View (suc T) m (s ∷ ss) c q = View T (leave m s) ss c q

-- the unpublished writes of i are the out queue of i
pub data Linked (i : ℕ) : List Item → List Out → Type 0 where
  nil : Linked i [] []
  one : {t a d : ℕ} {p : List Item} {q : List Out} → Linked i p q → Linked i (writing t i a d ∷ p) (wr a d ∷ q)

linked-snoc : {i : ℕ} {p : List Item} {q : List Out} (t a d : ℕ) → Linked i p q → Linked i (p ++ (writing t i a d ∷ [])) (q ++ (wr a d ∷ []))
linked-snoc t a d nil = one nil
linked-snoc t a d (one l) = one (linked-snoc t a d l)

-- ---- a read joins a slot

module _ (t i a v : ℕ) where
  leave-read : (m : ℕ → ℕ) (s : List Item) → leave m (s ++ (reading t i a v ∷ [])) ≡ leave m s
  leave-read m s = leave-append m s (reading t i a v ∷ [])

  leave-put : (k : ℕ) (m : ℕ → ℕ) (ss : List (List Item)) → leave m (flat (join_slot k (reading t i a v) ss)) ≡ leave m (flat ss)
  leave-put k m [] = refl
  leave-put zero m (s ∷ ss) = simp leave-append
  leave-put (suc k) m (s ∷ ss) = simp (leave-append, leave-put k (leave m s) ss)

  behind-put : (k : ℕ) (m : ℕ → ℕ) (ss : List (List Item)) (q : List In) → Behind m ss q → Behind m (join_slot k (reading t i a v) ss) q
  behind-put k m [] q h = h
  behind-put zero m (s ∷ ss) [] h = h
  behind-put (suc k) m (s ∷ ss) [] h = h
  behind-put zero m (s ∷ ss) (up zero b d ∷ q) h = (h.0, behind-put zero m (s ∷ ss) q h.1)
  behind-put (suc k) m (s ∷ ss) (up zero b d ∷ q) h = (h.0, behind-put (suc k) m (s ∷ ss) q h.1)
  behind-put zero m (s ∷ ss) (up (suc o) b d ∷ q) h = rw leave-read h
  behind-put (suc k) m (s ∷ ss) (up (suc o) b d ∷ q) h = (h.0, behind-put k (leave m s) ss q h.1)

  view-put : (T k : ℕ) (m : ℕ → ℕ) (ss : List (List Item)) (c : ℕ → Option ℕ) (q : List In) → View T m ss c q → View T m (join_slot k (reading t i a v) ss) c q
  view-put T k m [] c q h = h
  view-put zero zero m (s ∷ ss) c q h = rw leave-read h
  view-put (suc T) zero m (s ∷ ss) c q h = subst (λ (x : ℕ → ℕ). View T x ss c q) (sym (leave-read m s)) h
  view-put zero (suc k) m (s ∷ ss) c q h = (h.0, behind-put k (leave m s) ss q h.1)
  view-put (suc T) (suc k) m (s ∷ ss) c q h = view-put T k (leave m s) ss c q h

  serial-put : (T : ℕ) (m : ℕ → ℕ) (ss : List (List Item)) (c : ℕ → Option ℕ) (q : List In)
      → View T m ss c q → c a ≡ some v → Serial m (flat ss) → Serial m (flat (join_slot T (reading t i a v) ss))
  serial-put T m [] c q h e p = p
  serial-put zero m (s ∷ ss) c q h e p =
      let r = serial-split m s (flat ss) p in
      serial-join m (s ++ (reading t i a v ∷ [])) (flat ss) (serial-join m s (reading t i a v ∷ []) r.0 (h.0 a v e, tt)) (rw leave-read r.1)
  serial-put (suc T) m (s ∷ ss) c q h e p =
      let r = serial-split m s (flat ss) p in
      serial-join m s (flat (join_slot T (reading t i a v) ss)) r.0 (serial-put T (leave m s) ss c q h e r.1)

-- ---- a write opens a slot, and joins every in queue

module _ (t i a d : ℕ) where
  behind-snoc : (m : ℕ → ℕ) (ss : List (List Item)) (q : List In) → Behind m ss q → Behind m (ss ++ ((writing t (suc i) a d ∷ []) ∷ [])) (q ++ (up (suc i) a d ∷ []))
  behind-snoc m [] [] h = (refl, tt)
  behind-snoc m (s ∷ ss) [] h = absurd h
  behind-snoc m [] (up zero b e ∷ q) h = (h.0, behind-snoc m [] q h.1)
  behind-snoc m (s ∷ ss) (up zero b e ∷ q) h = (h.0, behind-snoc m (s ∷ ss) q h.1)
  behind-snoc m [] (up (suc o) b e ∷ q) h = absurd h
  behind-snoc m (s ∷ ss) (up (suc o) b e ∷ q) h = (h.0, behind-snoc (leave m s) ss q h.1)

  view-snoc : (T : ℕ) (m : ℕ → ℕ) (ss : List (List Item)) (c : ℕ → Option ℕ) (q : List In)
      → View T m ss c q → View T m (ss ++ ((writing t (suc i) a d ∷ []) ∷ [])) c (q ++ (up (suc i) a d ∷ []))
  view-snoc T m [] c q h = absurd h
  view-snoc zero m (s ∷ ss) c q h = (h.0, behind-snoc (leave m s) ss q h.1)
  view-snoc (suc T) m (s ∷ ss) c q h = view-snoc T (leave m s) ss c q h

-- ---- a value of the memory joins an in queue

behind-filler : (a : ℕ) (m : ℕ → ℕ) (ss : List (List Item)) (q : List In) → Behind m ss q → Behind m ss (q ++ (up 0 a (leave m (flat ss) a) ∷ []))
behind-filler a m [] [] h = (refl, tt)
behind-filler a m (s ∷ ss) [] h = absurd h
behind-filler a m [] (up zero b d ∷ q) h = (h.0, behind-filler a m [] q h.1)
behind-filler a m (s ∷ ss) (up zero b d ∷ q) h = (h.0, behind-filler a m (s ∷ ss) q h.1)
behind-filler a m [] (up (suc o) b d ∷ q) h = absurd h
behind-filler a m (s ∷ ss) (up (suc o) b d ∷ q) h = (h.0, rw leave-append (behind-filler a (leave m s) ss q h.1))

view-filler : (a T : ℕ) (m : ℕ → ℕ) (ss : List (List Item)) (c : ℕ → Option ℕ) (q : List In) → View T m ss c q → View T m ss c (q ++ (up 0 a (leave m (flat ss) a) ∷ []))
view-filler a T m [] c q h = absurd h
view-filler a zero m (s ∷ ss) c q h = (h.0, rw leave-append (behind-filler a (leave m s) ss q h.1))
view-filler a (suc T) m (s ∷ ss) c q h = rw leave-append (view-filler a T (leave m s) ss c q h)

-- ---- an entry leaves an in queue

fits-upd : (m : ℕ → ℕ) (c : ℕ → Option ℕ) (a d : ℕ) → Fits m c → m a ≡ d → Fits m (upd c a (some d))
fits-upd m c a d h e = upd-one (λ b (x : Option ℕ). (v : ℕ) → x ≡ some v → m b ≡ v) c a (some d) (λ v p. cc) (λ b _ v p. h b v p)

fits-none : (m : ℕ → ℕ) (c : ℕ → Option ℕ) (a : ℕ) → Fits m c → Fits m (upd c a none)
fits-none m c a h = upd-one (λ b (x : Option ℕ). (v : ℕ) → x ≡ some v → m b ≡ v) c a none (λ v p. cc) (λ b _ v p. h b v p)

-- the memory too has d at a
fits-write : (m : ℕ → ℕ) (c : ℕ → Option ℕ) (a d : ℕ) → Fits m c → Fits (upd m a d) (upd c a (some d))
fits-write m c a d h = upd-each (λ b (x : Option ℕ) (y : ℕ). (v : ℕ) → x ≡ some v → y ≡ v) c m a (some d) d (λ v p. cc) (λ b _ v p. h b v p)

view-old : (a d T : ℕ) (m : ℕ → ℕ) (ss : List (List Item)) (c : ℕ → Option ℕ) (q : List In)
    → View T m ss c (up zero a d ∷ q) → View T m ss (upd c a (some d)) q
view-old a d T m [] c q h = h
view-old a d zero m (s ∷ ss) c q h = (fits-upd (leave m s) c a d h.0 h.1.0, h.1.1)
view-old a d (suc T) m (s ∷ ss) c q h = view-old a d T (leave m s) ss c q h

view-new : (a d o T : ℕ) (m : ℕ → ℕ) (ss : List (List Item)) (c : ℕ → Option ℕ) (q : List In)
    → View T m ss c (up (suc o) a d ∷ q) → View (suc T) m ss (upd c a (some d)) q
view-new a d o T m [] c q h = h
view-new a d o zero m (s ∷ []) c q h = absurd h.1
view-new a d o zero m (s ∷ s' ∷ ss) c q h = (rw h.1.0 (fits-write (leave m s) c a d h.0), h.1.1)
view-new a d o (suc T) m (s ∷ ss) c q h = view-new a d o T (leave m s) ss c q h

view-drop : (a T : ℕ) (m : ℕ → ℕ) (ss : List (List Item)) (c : ℕ → Option ℕ) (q : List In) → View T m ss c q → View T m ss (upd c a none) q
view-drop a T m [] c q h = h
view-drop a zero m (s ∷ ss) c q h = (fits-none (leave m s) c a h.0, h.1)
view-drop a (suc T) m (s ∷ ss) c q h = view-drop a T (leave m s) ss c q h

-- ---- the invariant

held-some : (o : Option ℕ) → present o ≡ true → o ≡ some (held o)
held-some none e = absurd (false≢true e)
held-some (some d) e = refl

module _ (mem : ℕ → ℕ) where
  pub record Inv (s : State) (b : Book) : Type 0 where
    pub serial : Serial mem (flat b.slots)
    pub memory : s.memory ≡ leave mem (flat b.slots)
    pub view : (i : ℕ) → View (b.ledger.taken i) mem b.slots (s.engine i).cache (s.engine i).ins
    pub linked : (i : ℕ) → Linked i (b.pending i) (s.engine i).outs

  pub inv-fresh : Inv (fresh mem) blank
  inv-fresh = record { serial = tt; memory = refl; view = λ i. ((λ a d p. cc), tt); linked = λ i. nil }

  module _ (s : State) (b : Book) (h : Inv s b) where
    on_read : (t i a : ℕ) → present ((s.engine i).cache a) ≡ true → Inv s (note t (read i a (held ((s.engine i).cache a))) b)
    on_read t i a y =
        let c = (s.engine i).cache in
        record {
          serial = serial-put t i a (held (c a)) (b.ledger.taken i) mem b.slots c (s.engine i).ins (h.view i) (held-some (c a) y) h.serial;
          memory = h.memory ∙ sym (leave-put t i a (held (c a)) (b.ledger.taken i) mem b.slots);
          view = λ j. view-put t i a (held (c a)) (b.ledger.taken j) (b.ledger.taken i) mem b.slots (s.engine j).cache (s.engine j).ins (h.view j);
          linked = h.linked;
        }

    on-write : (t i a d : ℕ) → Inv (next s (W i a d)) (note t (wrote i a d) b)
    on-write t i a d =
        record {
          serial = h.serial;
          memory = h.memory;
          view = upd-one (λ j (e : Engine). View (b.ledger.taken j) mem b.slots e.cache e.ins) s.engine i _ (h.view i) (λ j _. h.view j);
          linked = upd-each (λ j (p : List Item) (e : Engine). Linked j p e.outs) b.pending s.engine i _ _ (linked-snoc t a d (h.linked i)) (λ j _. h.linked j);
        }

    on-publish : (now i : ℕ) (p : List Item) (q : List Out) → b.pending (suc i) ≡ p → Linked (suc i) p q → Inv (publish s (suc i) q) (note now (head_out (suc i) q) b)
    on-publish now i p q y nil = h
    on-publish now i p q y (one {t} {a} {d} {p = p'} {q = q'} l) =
        rw (y)
        record {
          serial = rw flat_append (serial-join mem (flat b.slots) _ h.serial tt);
          memory = rw (flat_append, leave-append, ← h.memory) refl;
          view = upd-one (λ j (e : Engine). View (b.ledger.taken j) mem (b.slots ++ ((writing t (suc i) a d ∷ []) ∷ [])) e.cache (e.ins ++ (up (suc i) a d ∷ []))) s.engine (suc i) _
              (view-snoc t i a d (b.ledger.taken (suc i)) mem b.slots _ _ (h.view (suc i))) (λ j _. view-snoc t i a d (b.ledger.taken j) mem b.slots _ _ (h.view j));
          linked = upd-each (λ j (x : List Item) (e : Engine). Linked j x e.outs) b.pending s.engine (suc i) p' _ l (λ j _. h.linked j);
        }

    -- the cache and the in queue of engine i change
    at-engine : (i : ℕ) (c : ℕ → Option ℕ) (q : List In) → View (b.ledger.taken i) mem b.slots c q
        → Inv (record { memory = s.memory; engine = upd s.engine i (record { cache = c; outs = (s.engine i).outs; ins = q }) }) b
    at-engine i c q v =
        record {
          serial = h.serial;
          memory = h.memory;
          view = upd-one (λ j (e : Engine). View (b.ledger.taken j) mem b.slots e.cache e.ins) s.engine i _ v (λ j _. h.view j);
          linked = upd-one (λ j (e : Engine). Linked j (b.pending j) e.outs) s.engine i _ (h.linked i) (λ j _. h.linked j);
        }

    on-fill : (i a : ℕ) → Inv (next s (MR i a)) b
    on-fill i a = at-engine i _ _ (rw h.memory (view-filler a (b.ledger.taken i) mem b.slots _ _ (h.view i)))

    on-update : (t i : ℕ) (q : List In) → (s.engine i).ins ≡ q → Inv (update s i q) (note t (head_in i q) b)
    on-update t i [] e = h
    on-update t i (up zero a d ∷ q) e = at-engine i _ q (view-old a d (b.ledger.taken i) mem b.slots _ q (rw e at (h.view i)))
    on-update t i (up (suc o) a d ∷ q) e =
        record {
          serial = h.serial;
          memory = h.memory;
          view = upd-each (λ j T (e : Engine). View T mem b.slots e.cache e.ins) b.ledger.taken s.engine i _ _
              (view-new a d o (b.ledger.taken i) mem b.slots _ q (rw e at (h.view i))) (λ j _. h.view j);
          linked = upd-one (λ j (e : Engine). Linked j (b.pending j) e.outs) s.engine i _ (h.linked i) (λ j _. h.linked j);
        }

    on-drop : (i a : ℕ) → Inv (next s (CI i a)) b
    on-drop i a = at-engine i _ _ (view-drop a (b.ledger.taken i) mem b.slots _ _ (h.view i))

    pub inv-next : (z : Sizes) (t : ℕ) (x : Step) → accepted z s x ≡ true → Inv (next s x) (note t (event s x) b)
    inv-next z t (R i a) e = on_read t i a (and_left (present ((s.engine i).cache a)) _ (and_left (allowed s (R i a)) _ (and_right (named z (R i a)) _ e)))
    inv-next z t (W i a d) e = on-write t i a d
    inv-next z t (MW zero) e = absurd (false≢true e)
    inv-next z t (MW (suc i)) e = on-publish t i (b.pending (suc i)) (s.engine (suc i)).outs refl (h.linked (suc i))
    inv-next z t (MR i a) e = on-fill i a
    inv-next z t (CU i) e = on-update t i (s.engine i).ins refl
    inv-next z t (CI i a) e = on-drop i a

  pub inv-run : (z : Sizes) (t : ℕ) (s : State) (b : Book) (xs : List Step) → Inv s b → Inv (after z s xs) (book t (trace z s xs) b)
  inv-run z t s b xs = run-keeps z (λ s b l. Inv s b) (λ t s b l x e h. inv-next s b h z t x e) t s b [] xs

-- ---- the writes that are not published

serial-pending : {i : ℕ} {p : List Item} {q : List Out} (m : ℕ → ℕ) → Linked i p q → Serial m p
serial-pending m nil = tt
serial-pending m (one {a = a} {d = d} l) = serial-pending (upd m a d) l

serial-unpublished : (n : ℕ) (m : ℕ → ℕ) (f : ℕ → List Item) (g : ℕ → List Out) → ((i : ℕ) → Linked i (f i) (g i)) → Serial m (unpublished n f)
serial-unpublished zero m f g l = tt
serial-unpublished (suc n) m f g l = serial-join m (unpublished n f) (f (suc n)) (serial-unpublished n m f g l) (serial-pending _ (l (suc n)))

pub serial : (z : Sizes) (mem : ℕ → ℕ) (xs : List Step) → Serial mem (account z (book_of z mem xs))
serial z mem xs =
    let b = book_of z mem xs in
    let h = inv-run mem z 0 (fresh mem) blank xs (inv-fresh mem) in
    serial-join mem (flat b.slots) _ h.serial (serial-unpublished z.engines _ b.pending (λ i. ((after z (fresh mem) xs).engine i).outs) h.linked)
