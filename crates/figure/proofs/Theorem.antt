-- Demand 3, of every list of steps from a fresh store. Assumes nothing.
use Prim.Native.Nat.{ℕ, ◌+◌}
use native.Mathlib.Omega.{arith}
use mathlib.Core.Path.{◌∙◌}
use mathlib.Core.List.{List, ◌++◌}
use lib.ListN.{length}
use Rattle.figure.specs.declared.Sizes.{Sizes}
use Rattle.figure.specs.Figure.{Step, fresh, after}
use Rattle.figure.specs.Account.{blank, settled_slots}
use Rattle.figure.specs.Demand.{Opens, trace_of, book_of, Right}
use Rattle.figure.proofs.Run.{trace-length, run-append}
use Rattle.figure.proofs.Serial.{serial}
use Rattle.figure.proofs.Own.{rearranged}
use Rattle.figure.proofs.Order.{own-order, log-idle}
use Rattle.figure.proofs.Begins.{begins-on, opens-trans, opens-flat}
use Rattle.figure.proofs.Places.{rises-log, slots-rise}
use Rattle.figure.proofs.Settled.{slots_stay, slots_begin}

-- what is settled after xs, beside what is settled and the slots after more steps
settled-later : (z : Sizes) (mem : ℕ → ℕ) (xs ys : List Step) → Opens (settled_slots z (book_of z mem xs)) (settled_slots z (book_of z mem (xs ++ ys)))
settled-later z mem xs ys =
    rw (run-append z 0 (fresh mem) blank xs ys) (slots_stay z (0 + length xs) (after z (fresh mem) xs) (book_of z mem xs) ys)

settled_before : (z : Sizes) (mem : ℕ → ℕ) (xs ys : List Step) → Opens (settled_slots z (book_of z mem xs)) (book_of z mem (xs ++ ys)).slots
settled_before z mem xs ys = opens-trans (settled-later z mem xs ys) (slots_begin z (book_of z mem (xs ++ ys)))

pub right : (z : Sizes) (mem : ℕ → ℕ) (xs : List Step) → Right z mem xs
right z mem xs =
    record {
      serial = serial z mem xs;
      once = rearranged _ _ (own-order z mem xs);
      ordered = own-order z mem xs;
      no_other = λ i no. own-order z mem xs i ∙ log-idle z i no 0 (fresh mem) xs;
      tagged = rises-log 0 (length xs) (trace_of z mem xs) (omega (arith, trace-length z (fresh mem) xs));
      in_slots = λ k. rw (← (trace-length z (fresh mem) xs)) (slots-rise (trace_of z mem xs) k);
      slots_stay = settled-later z mem xs;
      slots_begin = settled_before z mem xs;
      stays = λ ys. opens-flat (settled-later z mem xs ys);
      begins = λ ys. begins-on _ (opens-flat (settled_before z mem xs ys));
    }
