-- The demands about a run, one after another, each with what proves it. Assumes nothing.
use mathlib.Core.Bool.{true}
use mathlib.Core.List.{List, [], ◌++◌, map, map-append}
use mathlib.Core.Path.{◌≡◌, refl, sym, ap, ◌∙◌}
use Prim.Native.Nat.{ℕ, zero, suc, ◌+◌, ◌-◌, ◌*◌, ◌≤◌}
use native.Mathlib.Omega.{arith}
use lib.ListN.{length, take, length-map}
use lib.Seq.{take_at}
use borrow.Author.Tests.{le-ltb}
use Rattle.figure.specs.Account.{Event, blank, log, book, settled_slots, settled}
use Rattle.figure.specs.Event.{event_view}
use Rattle.figure.specs.Demand.{Begins, Opens, book_of, Right}
use Rattle.figure.specs.Refusals.{first_of, numbered, unless, sizes_refused, most_actions}
use Rattle.figure.specs.declared.Record.{Record}
use Rattle.figure.specs.declared.Sizes.{Sizes}
use Rattle.figure.proofs.Begins.{begins-on, opens-flat}
use Rattle.figure.proofs.First.{first-none, none_first, none-append, none-split}
use Rattle.figure.proofs.Machines.{below, below-append}
use Rattle.figure.proofs.Theorem.{right}
use Rattle.lists.specs.Bytes.{rows, laid}
use Rattle.lists.specs.Read.{read_refused, read_of}
use Rattle.lists.specs.Record.{record_width, record_bytes}
use Rattle.lists.specs.Line.{line_width}
use Rattle.lists.proofs.Sized.{read_number, taken_none, held}
use Rattle.shape.specs.Fresh.{fresh_of}
use Rattle.shape.specs.View.{step_view}
use Rattle.shape.proofs.Trails.{trace-alike}
use Rattle.demands.proofs.Account.{run-book}
use Rattle.demands.proofs.Follows.{steps_below}
use Rattle.demands.proofs.Listed.{listed-account}
use Rattle.demands.proofs.Lengths.{log-most, perm-long, length-account, all-counted, opens-lines, settled-front}
use Rattle.demands.proofs.Runs.{length_run, run-bytes-long, followed, run-events}
use Rattle.demands.specs.Demand.{run_steps, Untouched, book_after, Demand3, Shorter}
use Rattle.demands.specs.Lines.{account_bytes, settled_bytes}
use Rattle.demands.specs.Run.{Answered, run_sizes, run_fresh, run_memory, run_action, run_trace, run_book, run_account, own_refused, run_refused, run_number, counts_as, Ran}

-- ==== Demand 1. "A refusal gives its number; the state and all lent buffers stay as they came."

pub number_of : (k : ℕ) (list : List ℕ) → (counts_as k list).number ≡ k
number_of zero list = refl
number_of (suc k) list = refl

module _ {list trace account : List ℕ} {r : Answered} {trace' account' : List ℕ} (h : Ran list trace account r trace' account') where
  run-number : r.number ≡ run_number list trace account
  run-number = ap (λ (c : Answered). c.number) h.counts ∙ number_of (run_number list trace account) list

  pub refused-run : ¬ (r.number ≡ 0) → Untouched r trace account trace' account'
  unfolding laid unless
  refused-run n = at (run_number list trace account) _ _ (sym run-number) h.counts h.trace_is h.account_is
    where
      -- whatever an accepted run would have left
      at : (k : ℕ) (records lines : List ℕ) → k ≡ r.number → r ≡ counts_as k list → trace' ≡ laid (unless k records []) trace → account' ≡ laid (unless k lines []) account → Untouched r trace account trace' account'
      at zero records lines e c p q = absurd (n (sym e))
      at (suc k) records lines e c p q = record { counts = c ∙ rw e; trace_stays = p; account_stays = q }

-- ==== Demand 2. "Every other call refuses exactly when the rules give a number, the first in their order"

pub run-refuses : {list trace account : List ℕ} {r : Answered} {trace' account' : List ℕ} → Ran list trace account r trace' account' → r.number ≡ first_of (run_refused list (length trace) (length account))
unfolding run_number
run-refuses h = run-number h

pub run-numbered : (list : List ℕ) (trace-room account-room : ℕ) → numbered (run_refused list trace-room account-room) ≡ true
unfolding run_refused read_refused sizes_refused
run-numbered list trace-room account-room = refl

-- where the run refuses nothing, the reader does not either
pub reader-takes : (list trace account : List ℕ) → run_number list trace account ≡ 0 → (read_of list).number ≡ 0
unfolding run_number run_refused
reader-takes list trace account e =
    let none = none_first (run_refused list (length trace) (length account)) (run-numbered list (length trace) (length account)) e in
    read_number list ∙ first-none (read_refused list) (none-split (read_refused list) (own_refused list (length trace) (length account)) none).0

-- ==== Demand 3. "For any list the run accepts from a fresh store": h and ok.

module _ (list : List ℕ) (ok : (read_of list).number ≡ 0) where
  abbrev z : Sizes
  z = run_sizes list

  -- what Figure 2 has of these steps
  right_of : Right z (run_memory list) (run_steps list)
  right_of = right z (run_memory list) (run_steps list)

  book-after : (k : ℕ) → book_after list k ≡ book_of z (run_memory list) (steps_below z (run_action list) k)
  unfolding fresh_of
  book-after k = ap (λ (es : List Event). book 0 es blank) (followed list ok k).events

  more-steps : (j d : ℕ) → steps_below z (run_action list) (d + j) ≡ steps_below z (run_action list) j ++ steps_below z (λ i. run_action list (i + j)) d
  more-steps j d = rw (below-append (run_action list) j d) (map-append (step_view z) (below (run_action list) j) (below (λ i. run_action list (i + j)) d))

  later : (j k : ℕ) → j ≤ k → k ≡ (k - j) + j
  later j k h = omega arith

  slots_stay : (j k : ℕ) → j ≤ k → Opens (settled_slots z (book_after list j)) (settled_slots z (book_after list k))
  slots_stay j k h = rw (book-after j, book-after k, later j k h, more-steps j (k - j)) ((right z (run_memory list) (steps_below z (run_action list) j)).slots_stay (steps_below z (λ i. run_action list (i + j)) (k - j)))

  slots_begin : (j k : ℕ) → j ≤ k → Opens (settled_slots z (book_after list j)) (book_after list k).slots
  slots_begin j k h = rw (book-after j, book-after k, later j k h, more-steps j (k - j)) ((right z (run_memory list) (steps_below z (run_action list) j)).slots_begin (steps_below z (λ i. run_action list (i + j)) (k - j)))

  -- a list that the reader takes, and buffers that are long enough: the run takes them
  pub run-taken : (trace account' : List ℕ) → record_width * (read_of list).actions ≤ length trace → line_width * length (run_account list) ≤ length account' → run_number list trace account' ≡ 0
  unfolding run_number run_refused
  run-taken trace account' t a =
      first-none (run_refused list (length trace) (length account'))
      (none-append (read_refused list) (own_refused list (length trace) (length account')) (taken_none list ok)
      (le-ltb (length trace) (record_width * (read_of list).actions) t, (le-ltb (length account') (line_width * length (run_account list)) a, tt)))

module _ {list trace account' : List ℕ} {r : Answered} {trace'' account'' : List ℕ} (h : Ran list trace account' r trace'' account'') (ok : r.number ≡ 0) where
  number-zero : run_number list trace account' ≡ 0
  number-zero = sym (run-number h) ∙ ok

  pub reader-took : (read_of list).number ≡ 0
  reader-took = reader-takes list trace account' number-zero

  -- what stands at the front of the trace buffer
  pub run-trace : take (record_width * (read_of list).actions) trace'' ≡ rows record_bytes (run_trace list)
  unfolding laid unless
  run-trace = rw (h.trace_is, number-zero) (take_at (rows record_bytes (run_trace list)) _ _ (run-bytes-long list))

  counts_of_lem : r ≡ counts_as 0 list
  counts_of_lem = h.counts ∙ ap (λ (k : ℕ). counts_as k list) number-zero

  pub demand-3 : Demand3 list account'' r
  unfolding laid unless
  demand-3 =
      let z' = run_sizes list in
      let f = run-events list reader-took in
      let g = right_of list reader-took in
      record {
        bytes = rw (h.account_is, number-zero, counts_of_lem) (take_at (account_bytes z' (run_book list)) _ _ (length-account z' (run_book list)));
        lines = rw (h.account_is, number-zero) (listed-account z' (run_book list) _);
        events = ap (λ (c : Answered). c.events) counts_of_lem;
        counted = rw (counts_of_lem) (all-counted (run_trace list));
        settled_count = ap (λ (c : Answered). c.settled) counts_of_lem;
        settled_in_bytes = rw (h.account_is, number-zero, counts_of_lem) (settled-front z' (run_book list) _);
        once = rw (run-book list reader-took, f) g.once;
        tagged = rw (f) g.tagged;
        in_slots = λ k. rw (run-book list reader-took) (g.in_slots k);
        ordered = λ i. rw (run-book list reader-took, f) (g.ordered i);
        no_other = λ i e. rw (run-book list reader-took) (g.no_other i e);
        serial = h.serial ok;
        stays = λ j k l. opens-flat (slots_stay list reader-took j k l);
        begins = λ j k l. begins-on _ (opens-flat (slots_begin list reader-took j k l));
        bytes_stay = λ j k l. opens-lines 0 (slots_stay list reader-took j k l);
        bytes_begin = λ j k l. begins-on _ (opens-lines 0 (slots_begin list reader-took j k l));
      }

-- an account has no more events than a list may have actions
pub few-events : {list trace account' : List ℕ} {r : Answered} {trace'' account'' : List ℕ} → Ran list trace account' r trace'' account'' → r.events ≤ most_actions
few-events {list} {trace} {account'} {r} h = at r.number refl
  where
    at : (k : ℕ) → r.number ≡ k → r.events ≤ most_actions
    at zero q =
        let d = demand-3 h q in
        let es = map event_view (run_trace list) in
        omega (arith, perm-long _ (log 0 es) d.once, log-most 0 es, length-map (run_trace list) event_view, length_run list, (held list (read_of list) refl).few)
    at (suc k) q = rw (refused-run h (λ e. omega arith)).counts (omega arith)

module _ {list longer : List ℕ} (s : Shorter list longer) where
  shorter-book : run_book list ≡ book_after longer (read_of list).actions
  unfolding run_book run_trace
  shorter-book =
      rw (s.sizes, s.memory)
      (ap (λ (rs : List Record). book 0 (map event_view rs) blank) (trace-alike (run_fresh longer) (run_action list) (run_action longer) (read_of list).actions s.same))

  module _ (ok : (read_of longer).number ≡ 0) where
    shorter-slots-stay : Opens (settled_slots (run_sizes list) (run_book list)) (settled_slots (run_sizes longer) (run_book longer))
    unfolding run_book run_trace
    shorter-slots-stay = rw (shorter-book, s.sizes) (slots_stay longer ok (read_of list).actions (read_of longer).actions s.fewer)

    shorter-slots-begin : Opens (settled_slots (run_sizes list) (run_book list)) (run_book longer).slots
    unfolding run_book run_trace
    shorter-slots-begin = rw (shorter-book, s.sizes) (slots_begin longer ok (read_of list).actions (read_of longer).actions s.fewer)

    pub shorter-stays : Begins (settled (run_sizes list) (run_book list)) (settled (run_sizes longer) (run_book longer))
    shorter-stays = opens-flat shorter-slots-stay

    pub shorter-begins : Begins (settled (run_sizes list) (run_book list)) (run_account longer)
    shorter-begins = begins-on _ (opens-flat shorter-slots-begin)

    pub shorter-bytes-stay : Begins (settled_bytes (run_sizes list) (run_book list)) (settled_bytes (run_sizes longer) (run_book longer))
    shorter-bytes-stay = opens-lines 0 shorter-slots-stay

    pub shorter-bytes-begin : Begins (settled_bytes (run_sizes list) (run_book list)) (account_bytes (run_sizes longer) (run_book longer))
    shorter-bytes-begin = begins-on _ (opens-lines 0 shorter-slots-begin)
