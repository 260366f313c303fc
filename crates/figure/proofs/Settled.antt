-- What is settled stays, slot by slot. Assumes nothing.
use Prim.Native.Nat.{ℕ, zero, suc, min, ◌≤◌, suc-le-suc}
use native.Mathlib.Nat.{le_of_suc-le-suc, not-suc-le-zero, le_refl}
use native.Mathlib.Omega.{arith}
use mathlib.Core.Path.{◌≡◌, refl}
use mathlib.Core.Bool.{Bool, true, false}
use mathlib.Core.List.{List, [], ◌∷◌, ◌++◌}
use lib.Dec.{leb}
use lib.ListN.{take}
use borrow.Author.Tests.{leb-true, leb-false}
use Rattle.figure.specs.declared.Sizes.{Sizes}
use Rattle.figure.specs.Figure.{Out, wr, In, up, State, Step, R, MW, CU, engine?, named, accepted}
use Rattle.figure.specs.Account.{read, updated, head_out, head_in, event, trace, Item, reading, Book, join_slot, open_slot, note, book, floor, lowest, settled_slots}
use Rattle.figure.specs.Demand.{Opens, none, last, more}
use Rattle.figure.proofs.Begins.{begins-more-of, opens-refl, opens-trans}
use Rattle.figure.proofs.Laws.{and_left, and_right, upd-one}
use Rattle.figure.proofs.Run.{run-keeps}

-- ---- slots

opens-further : (f g : ℕ) (ss : List (List Item)) → f ≤ g → Opens (take f ss) (take g ss)
opens-further zero g ss h = none
opens-further (suc f) zero ss h = absurd (not-suc-le-zero h)
opens-further (suc f) (suc g) [] h = none
opens-further (suc f) (suc g) (s ∷ ss) h = more s (opens-further f g ss (le_of_suc-le-suc h))

opens-all : (f : ℕ) (ss : List (List Item)) → Opens (take f ss) ss
opens-all zero ss = none
opens-all (suc f) [] = none
opens-all (suc f) (s ∷ ss) = more s (opens-all f ss)

opens-snoc : (f : ℕ) (ss ts : List (List Item)) → Opens (take f ss) (take f (ss ++ ts))
opens-snoc zero ss ts = none
opens-snoc (suc f) [] ts = none
opens-snoc (suc f) (s ∷ ss) ts = more s (opens-snoc f ss ts)

-- a read that joins the last of the slots or one past it
opens-put : (f k : ℕ) (r : Item) (ss : List (List Item)) → f ≤ k → Opens (take (suc f) ss) (take (suc f) (join_slot k r ss))
opens-put f k r [] h = none
opens-put zero zero r (s ∷ ss) h = last (begins-more-of s (r ∷ []))
opens-put zero (suc k) r (s ∷ ss) h = opens-refl _
opens-put (suc f) zero r (s ∷ ss) h = absurd (not-suc-le-zero h)
opens-put (suc f) (suc k) r (s ∷ ss) h = more s (opens-put f k r ss (le_of_suc-le-suc h))

-- ---- the lowest floor

lowest-le : (n : ℕ) (f : ℕ → ℕ) (i : ℕ) → 1 ≤ i → i ≤ n → lowest n f ≤ f i
lowest-le zero f i l h = omega arith
lowest-le (suc zero) f i l h = let e : i ≡ 1 = omega arith in rw e (le_refl _)
lowest-le (suc (suc n)) f i l h = at (leb i (suc n)) refl (λ k. lowest-le (suc n) f i l k)
  where
    at : (t : Bool) → leb i (suc n) ≡ t → (i ≤ suc n → lowest (suc n) f ≤ f i) → min (lowest (suc n) f) (f (suc (suc n))) ≤ f i
    at true e k = omega (arith, k (leb-true i (suc n) e))
    at false e k = let q : i ≡ suc (suc n) = omega (arith, leb-false i (suc n) e) in rw q (omega arith)

lowest-mono : (n : ℕ) (f g : ℕ → ℕ) → ((i : ℕ) → f i ≤ g i) → lowest n f ≤ lowest n g
lowest-mono zero f g h = le_refl _
lowest-mono (suc zero) f g h = h 1
lowest-mono (suc (suc n)) f g h = omega (arith, lowest-mono (suc n) f g h, h (suc (suc n)))

-- ---- a step

-- a read falls behind what is settled: its engine's floor is no lower than the lowest
one-read : (z : Sizes) (t : ℕ) (b : Book) (i a d : ℕ) → engine? z i ≡ true → Opens (settled_slots z b) (settled_slots z (note t (read i a d) b))
one-read z t b i a d y =
    opens-put (lowest z.engines (floor b)) (b.ledger.taken i) (reading t i a d) b.slots
    (lowest-le z.engines (floor b) i (leb-true 1 i (and_left (leb 1 i) _ y)) (leb-true i z.engines (and_right (leb 1 i) _ y)))

opened : (z : Sizes) (b : Book) (i : ℕ) (p : List Item) → Opens (settled_slots z b) (settled_slots z (open_slot b i p))
opened z b i [] = opens-refl _
opened z b i (w ∷ p) = opens-snoc (suc (lowest z.engines (floor b))) b.slots ((w ∷ []) ∷ [])

one-taken : (z : Sizes) (t : ℕ) (b : Book) (i o a d : ℕ) → Opens (settled_slots z b) (settled_slots z (note t (updated i o a d) b))
one-taken z t b i zero a d = opens-refl _
one-taken z t b i (suc o) a d =
    opens-further _ _ b.slots (suc-le-suc (lowest-mono z.engines _ _ (upd-one (λ j T. b.ledger.taken j ≤ T) b.ledger.taken i _ (omega arith) (λ j _. le_refl _))))

step-settled : (z : Sizes) (t : ℕ) (s : State) (b : Book) (x : Step) → accepted z s x ≡ true → Opens (settled_slots z b) (settled_slots z (note t (event s x) b))
step-settled z t s b (R i a) e = one-read z t b i a _ (and_left (engine? z i) _ (and_left (named z (R i a)) _ e))
step-settled z t s b (MW i) e = at (s.engine i).outs
  where
    at : (q : List Out) → Opens (settled_slots z b) (settled_slots z (note t (head_out i q) b))
    at [] = opens-refl _
    at (wr a d ∷ q) = opened z b i (b.pending i)
step-settled z t s b (CU i) e = at (s.engine i).ins
  where
    at : (q : List In) → Opens (settled_slots z b) (settled_slots z (note t (head_in i q) b))
    at [] = opens-refl _
    at (up o a d ∷ q) = one-taken z t b i o a d
step-settled z t s b x e = opens-refl _

-- at every later moment what was settled begins what is settled, and the slots
pub slots_stay : (z : Sizes) (t : ℕ) (s : State) (b : Book) (xs : List Step) → Opens (settled_slots z b) (settled_slots z (book t (trace z s xs) b))
slots_stay z t s b xs =
    run-keeps z (λ r c l. Opens (settled_slots z b) (settled_slots z c)) (λ u r c l x e h. opens-trans h (step-settled z u r c x e)) t s b [] xs (opens-refl _)

pub slots_begin : (z : Sizes) (b : Book) → Opens (settled_slots z b) b.slots
slots_begin z b = opens-all (suc (lowest z.engines (floor b))) b.slots
