-- Lists of steps, one after the other, and what every step keeps. Assumes nothing.
use Prim.Native.Nat.{ℕ, suc, ◌+◌}
use native.Mathlib.Omega.{arith}
use mathlib.Core.Path.{◌≡◌, refl, ap, ◌∙◌}
use mathlib.Core.Bool.{Bool, true, false}
use mathlib.Core.List.{List, [], ◌∷◌, ◌++◌, append_assoc, append-nil}
use lib.ListN.{length}
use Rattle.figure.specs.declared.Sizes.{Sizes}
use Rattle.figure.specs.Refusals.{pick}
use Rattle.figure.specs.Figure.{State, Step, accepted, next, step, after}
use Rattle.figure.specs.Account.{Event, refused, event, happened, trace, Item, logged, log, Book, note, book}
use Rattle.figure.proofs.Machines.{runs, tape, tape-append, tape-length}
use Rattle.figure.proofs.Simulates.{in_step, alone}

-- a list of steps is a run of the machine whose step is the figure's, and which tells what happened
module _ (z : Sizes) where
  pub after-runs : (s : State) (xs : List Step) → after z s xs ≡ runs (step z) s xs
  after-runs s xs = alone (step z) (λ s xs. after z s xs ≡ runs (step z) s xs) (λ s. refl) (λ s x xs e. e) s xs

  pub trace-tape : (s : State) (xs : List Step) → trace z s xs ≡ tape (step z) (happened z) s xs
  trace-tape s xs = alone (step z) (λ s xs. trace z s xs ≡ tape (step z) (happened z) s xs) (λ s. refl) (λ s x xs e. ap (λ (es : List Event). happened z s x ∷ es) e) s xs

  pub trace-append : (s : State) (xs ys : List Step) → trace z s (xs ++ ys) ≡ trace z s xs ++ trace z (after z s xs) ys
  trace-append s xs ys = rw (after-runs s xs, trace-tape s (xs ++ ys), trace-tape s xs, trace-tape (runs (step z) s xs) ys) (tape-append (step z) (happened z) s xs ys)

  pub trace-length : (s : State) (xs : List Step) → length (trace z s xs) ≡ length xs
  trace-length s xs = rw (trace-tape s xs) (tape-length (step z) (happened z) s xs)

pub book-append : (t : ℕ) (es fs : List Event) (b : Book) → book t (es ++ fs) b ≡ book (t + length es) fs (book t es b)
book-append t [] fs b = ap (λ (k : ℕ). book k fs b) (omega arith)
book-append t (e ∷ es) fs b = book-append (suc t) es fs (note t e b) ∙ ap (λ (k : ℕ). book k fs (book (suc t) es (note t e b))) (omega arith)

pub run-append : (z : Sizes) (t : ℕ) (s : State) (b : Book) (xs ys : List Step)
    → book t (trace z s (xs ++ ys)) b ≡ book (t + length xs) (trace z (after z s xs) ys) (book t (trace z s xs) b)
run-append z t s b xs ys = rw (trace-append, book-append, trace-length)

-- what is kept beside a state: the number of the next action, the book and the log so far
pub record Keeping : Type 0 where
  pub next_is : ℕ
  pub book_is : Book
  pub log_is : List Item

abbrev pub keeping_more : Keeping → Event → Keeping
keeping_more k e = record { next_is = suc k.next_is; book_is = note k.next_is e k.book_is; log_is = k.log_is ++ logged k.next_is e }

-- what every accepted step keeps, of the state, the book and the log so far, a list of steps keeps
module _
    (z : Sizes)
    (P : State → Book → List Item → Type 0)
    (keeps : (t : ℕ) (s : State) (b : Book) (l : List Item) (x : Step) → accepted z s x ≡ true → P s b l → P (next s x) (note t (event s x) b) (l ++ logged t (event s x)))
  where
    abbrev Keeps : State → Keeping → Type 0
    Keeps s k = P s k.book_is k.log_is

    step_keeps : (s : State) (k : Keeping) (x : Step) → Keeps s k → Keeps (step z s x) (keeping_more k (happened z s x))
    step_keeps s k x h = at (accepted z s x) refl
      where
        at : (y : Bool) → accepted z s x ≡ y → Keeps (pick y (next s x) s) (keeping_more k (pick y (event s x) refused))
        at true y = keeps k.next_is s k.book_is k.log_is x y h
        at false y = rw append-nil h

    pub run-keeps : (t : ℕ) (s : State) (b : Book) (l : List Item) (xs : List Step) → P s b l → P (after z s xs) (book t (trace z s xs) b) (l ++ log t (trace z s xs))
    run-keeps t s b l xs =
        in_step (step z) (λ s k x. keeping_more k (happened z s x)) Keeps step_keeps
        (λ s k xs. let es = trace z s xs in P (after z s xs) (book k.next_is es k.book_is) (k.log_is ++ log k.next_is es))
        (λ s k h. rw append-nil h)
        (λ s k x xs h q. rw (← (append_assoc k.log_is (logged k.next_is (happened z s x)) (log (suc k.next_is) (trace z (step z s x) xs)))) q)
        s (record { next_is = t; book_is = b; log_is = l }) xs
