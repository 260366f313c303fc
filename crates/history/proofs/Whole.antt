-- The pieces of the run together: what they leave is the account of the run's book. Assumes nothing.
use mathlib.Core.List.{List, map}
use mathlib.Core.Path.{◌≡◌, refl, sym, ap, ◌∙◌}
use Prim.Native.Nat.{ℕ, ◌-◌, ◌≤◌}
use Rattle.std.specs.Prelude.{Ok}
use native.Mathlib.Omega.{arith}
use lib.ListN.{length}
use Rattle.figure.specs.Account.{Book, blank, book, account, settled}
use Rattle.figure.specs.Event.{event_view}
use Rattle.figure.specs.declared.Record.{Record}
use Rattle.figure.specs.declared.Sizes.{Sizes}
use Rattle.lists.specs.Bytes.{rows}
use Rattle.lists.specs.Read.{read_of}
use Rattle.lists.proofs.Sized.{Sized, sized}
use Rattle.demands.specs.Lines.{account_bytes}
use Rattle.demands.specs.Run.{run_sizes, run_memory, run_trace, run_book, run_account, accepted_in, refused_in, Answered, answered_by, counts_as}
use Rattle.demands.specs.declared.Counts.{Counts}
use Rattle.demands.proofs.Lengths.{all-counted}
use Rattle.demands.proofs.Runs.{run-events}
use Rattle.demands.specs.Demand.{run_steps}
use Rattle.history.specs.Pieces.{records_below, keys_of, order_of, placed_line, Arranged}
use Rattle.history.proofs.Bounds.{records-long}
use Rattle.history.proofs.Built as built
use Rattle.history.proofs.Built.{Run}

abbrev four : ℕ → ℕ → ℕ → ℕ → Answered
four a r e s = record { number = 0; accepted = a; refused = r; events = e; settled = s }

-- a list that the reader takes, and records x 0, x 1, .. whose first are its trace
module _ (list : List ℕ) (ok : (read_of list).number ≡ 0) (x : ℕ → Record) (recs : records_below x (read_of list).actions ≡ run_trace list) where
  abbrev n : ℕ
  n = (read_of list).actions

  abbrev z : Sizes
  z = run_sizes list

  fits : Sized list (read_of list)
  fits = sized list (read_of list) refl ok

  run : Run z (run_memory list) x n (run_steps list)
  run =
      record {
        trace_is = ap (map event_view) recs ∙ run-events list ok;
        few = fits.few;
        engines = fits.sizes_in.engines_in.high;
      }

  book_is : book 0 (map event_view (records_below x n)) blank ≡ run_book list
  unfolding run_book
  book_is = ap (λ (rs : List Record). book 0 (map event_view rs) blank) recs

  pub account-bytes : rows (placed_line x (keys_of x n)) (order_of x n z.engines) ≡ account_bytes z (run_book list)
  account-bytes = sym (built.account_is run) ∙ ap (account_bytes z) book_is

  pub events-most : length (run_account list) ≤ n
  events-most = rw (ap (λ (b : Book). length (account z b)) book_is) at (built.account_most run)

  refused-are : n - accepted_in (run_trace list) ≡ refused_in (run_trace list)
  refused-are = omega (arith, all-counted (run_trace list), ap length recs, records-long x n)

  -- what the run's pieces count
  pub counts-are : {r : Counts} {keys' order' : List ℕ} → Arranged x n z r keys' order' → answered_by (Ok r) ≡ counts_as 0 list
  counts-are {r} h =
      let p1 : r.accepted ≡ accepted_in (run_trace list) = h.accepted ∙ ap accepted_in recs in
      let p2 : r.refused ≡ refused_in (run_trace list) = h.refused ∙ (ap (λ (l : List Record). n - accepted_in l) recs ∙ refused-are) in
      let p3 : r.events ≡ length (run_account list) = h.events ∙ (sym (built.account-long run) ∙ ap (λ (b : Book). length (account z b)) book_is) in
      let p4 : r.settled ≡ length (settled z (run_book list)) = h.settled ∙ (sym (built.settled-long run) ∙ ap (λ (b : Book). length (settled z b)) book_is) in
      let g : four r.accepted r.refused r.events r.settled ≡ four (accepted_in (run_trace list)) (refused_in (run_trace list)) (length (run_account list)) (length (settled z (run_book list))) = cc in
      g
