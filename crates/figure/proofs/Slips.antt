-- Document 01's "Slips we have made or nearly made": rules with one slip each, and a list whose account shows it. Assumes nothing.
use Prim.Native.Nat.{ℕ, suc}
use native.Mathlib.Omega.{arith}
use mathlib.Core.Path.{◌≡◌, refl, sym, ap, ◌∙◌}
use mathlib.Core.Bool.{Bool, ◌&&◌}
use mathlib.Core.Option.{some}
use mathlib.Core.List.{List, [], ◌∷◌}
use borrow.Author.Tests.{eqb-false}
use Rattle.figure.specs.declared.Sizes.{Sizes}
use Rattle.figure.specs.Refusals.{pick}
use Rattle.figure.specs.Figure.{upd, Out, wr, up, State, Step, R, W, MW, MR, CU, fresh, empty, present, named, accepted, join_in, next}
use Rattle.figure.specs.Account.{Event, refused, updated, event, Item, reading, writing, log, Book, blank, note, book, account}
use Rattle.figure.specs.Demand.{Serial, own, log_of, book_of}
use Rattle.figure.proofs.Machines.{runs, tape}
use Rattle.figure.proofs.Run.{trace-tape}
use Rattle.figure.proofs.Simulates.{alone}
use Rattle.figure.proofs.Bench.{sizes1, all_zero, list1, sizes4, threes, list4}

-- ---- a run by given rules

pub record Rules : Type 0 where
  pub accepts : Sizes → State → Step → Bool
  pub moves : State → Step → State
  pub notes : ℕ → Event → Book → Book

abbrev pub figure : Rules
figure = record { accepts = accepted; moves = next; notes = note }

abbrev pub trace_by : Rules → Sizes → State → List Step → List Event
trace_by g z = tape (λ s x. pick (g.accepts z s x) (g.moves s x) s) (λ s x. pick (g.accepts z s x) (event s x) refused)

-- beside the book: the number of the next action
abbrev pub book_by : Rules → ℕ → List Event → Book → Book
book_by g t es b = (runs (λ (k : ℕ × Book) e. (suc k.0, g.notes k.0 e k.1)) (t, b) es).1

abbrev pub log_by : Rules → Sizes → (ℕ → ℕ) → List Step → List Item
log_by g z mem xs = log 0 (trace_by g z (fresh mem) xs)

abbrev pub account_by : Rules → Sizes → (ℕ → ℕ) → List Step → List Item
account_by g z mem xs = account z (book_by g 0 (trace_by g z (fresh mem) xs) blank)

-- by the rules of the figure it is the run of the figure
book-by : (t : ℕ) (es : List Event) (b : Book) → book_by figure t es b ≡ book t es b
book-by t es b = alone (λ (k : ℕ × Book) e. (suc k.0, note k.0 e k.1)) (λ k es. book_by figure k.0 es k.1 ≡ book k.0 es k.1) (λ k. refl) (λ k e es h. h) (t, b) es

pub log-by : (z : Sizes) (mem : ℕ → ℕ) (xs : List Step) → log_by figure z mem xs ≡ log_of z mem xs
log-by z mem xs = rw (trace-tape z (fresh mem) xs)

pub account-by : (z : Sizes) (mem : ℕ → ℕ) (xs : List Step) → account_by figure z mem xs ≡ account z (book_of z mem xs)
account-by z mem xs = rw (trace-tape z (fresh mem) xs) (ap (account z) (book-by 0 (trace_by figure z (fresh mem) xs) blank))

-- f at one kind of step, and g at the others
module _ {A : Type 0} where
  abbrev at_r : (ℕ → ℕ → A) → (Step → A) → Step → A
  at_r f g (R i a) = f i a
  at_r f g x = g x

  abbrev at_mw : (ℕ → A) → (Step → A) → Step → A
  at_mw f g (MW i) = f i
  at_mw f g x = g x

  abbrev at_mr : (ℕ → ℕ → A) → (Step → A) → Step → A
  at_mr f g (MR i a) = f i a
  at_mr f g x = g x

-- ---- "A refresh put in the cache at once. In B1 cache 2 would hold 7": engine 2 reads 7 before it has taken the write of it

abbrev pub at_once : Rules
at_once = record {
  -- nothing joins the in queue, so no room is asked
  accepts = λ z s. at_mr (λ i a. named z (MR i a)) (accepted z s);
  moves = λ s. at_mr
      (λ i a. let e = s.engine i in record { memory = s.memory; engine = upd s.engine i (record { cache = upd e.cache a (some (s.memory a)); outs = e.outs; ins = e.ins }) })
      (next s);
  notes = note;
}

pub at-once-account : account_by at_once sizes1 all_zero list1
    ≡ reading 6 2 0 0 ∷ writing 4 1 1 1 ∷ reading 11 2 1 1 ∷ reading 12 2 0 7 ∷ writing 5 1 0 7 ∷ reading 14 2 0 7 ∷ []
at-once-account = refl

pub at-once-breaks : ¬ Serial all_zero (account_by at_once sizes1 all_zero list1)
at-once-breaks h = eqb-false 0 7 refl h.1.1.0

-- ---- "Reading as soon as the out queue is empty, with the engine's own update still waiting": engine 1 writes 1, and then reads 0 before that write

abbrev pub too_early : Rules
too_early = record {
  accepts = λ z s. at_r (λ i a. named z (R i a) && (present ((s.engine i).cache a) && empty (s.engine i).outs)) (accepted z s);
  moves = next;
  notes = note;
}

-- B2, with address 0 in the cache: the first read is 21, the second 22
abbrev pub list2 : List Step
list2 = MR 1 0 ∷ CU 1 ∷ W 1 0 1 ∷ R 1 0 ∷ MW 1 ∷ R 1 0 ∷ []

pub list2-account : account sizes1 (book_of sizes1 all_zero list2) ≡ writing 2 1 0 1 ∷ []
list2-account = refl

pub too-early-account : own 1 (account_by too_early sizes1 all_zero list2) ≡ reading 5 1 0 0 ∷ writing 2 1 0 1 ∷ []
too-early-account = refl

pub too-early-log : own 1 (log_by too_early sizes1 all_zero list2) ≡ writing 2 1 0 1 ∷ reading 5 1 0 0 ∷ []
too-early-log = refl

pub too-early-breaks : ¬ (own 1 (account_by too_early sizes1 all_zero list2) ≡ own 1 (log_by too_early sizes1 all_zero list2))
too-early-breaks e =
    let k = sym too-early-account ∙ e ∙ too-early-log in
    let n : ◌≡◌ {A = ℕ} 0 1 = cc (k) in
    omega arith

-- ---- "MW skipping the writer's own in queue.": engine 1 reads its 5 from memory, and never takes the write of it

abbrev pub skip_own : State → ℕ → List Out → State
skip_own s i [] = s
skip_own s i (wr a d ∷ q) =
    let e = s.engine i in
    record {
      memory = upd s.memory a d;
      engine = upd (λ j. join_in (s.engine j) (up i a d)) i (record { cache = e.cache; outs = q; ins = e.ins });
    }

abbrev pub skipping : Rules
skipping = record { accepts = accepted; moves = λ s. at_mw (λ i. skip_own s i (s.engine i).outs) (next s); notes = note }

-- B5, with a refresh
abbrev pub list5 : List Step
list5 = W 1 0 5 ∷ MW 1 ∷ MR 1 0 ∷ CU 1 ∷ R 1 0 ∷ []

pub list5-account : account sizes1 (book_of sizes1 all_zero list5) ≡ writing 0 1 0 5 ∷ reading 4 1 0 5 ∷ []
list5-account = refl

pub skipping-account : account_by skipping sizes1 all_zero list5 ≡ reading 4 1 0 5 ∷ writing 0 1 0 5 ∷ []
skipping-account = refl

pub skipping-breaks : ¬ Serial all_zero (account_by skipping sizes1 all_zero list5)
skipping-breaks h = eqb-false 0 5 refl h.0

-- ---- "The order of issue given as the account. B1 then has 7 written before a read of 0."

pub issue-order-breaks : ¬ Serial all_zero (log_of sizes1 all_zero list1)
issue-order-breaks h = eqb-false 7 0 refl h.0

-- ---- "Counting refreshes as taken writes": in B4 the read of 3 then falls behind the write of 4, and the read of 4 into no slot

abbrev pub counted : ℕ → Event → Book → Book
counted t (updated i o a d) b = note t (updated i (suc o) a d) b
counted t e b = note t e b

abbrev pub counting : Rules
counting = record { accepts = accepted; moves = next; notes = counted }

pub counting-account : account_by counting sizes4 threes list4 ≡ writing 1 2 0 4 ∷ reading 4 1 0 3 ∷ []
counting-account = refl

pub counting-breaks : ¬ Serial threes (account_by counting sizes4 threes list4)
counting-breaks h = eqb-false 4 3 refl h.0
