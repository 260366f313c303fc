-- The run's answer, from what its parts leave. Assumes nothing.
use mathlib.Core.List.{List, [], ◌++◌, append-nil}
use Rattle.std.specs.Prelude.{Ok, Err}
use Rattle.figure.specs.Refused.{number_of}
use Rattle.figure.specs.declared.refused.Refused.{Refused}
use Rattle.figure.specs.declared.refused.Refused.TheVariants.{TraceShort}
use Rattle.figure.proofs.Numbers.{not-none}
use mathlib.Core.Path.{◌≡◌, refl, sym, ap, ◌∙◌}
use Prim.Native.Nat.{ℕ, zero, suc, ◌+◌, ◌*◌, ◌≤◌, ◌<◌}
use native.Mathlib.Omega.{arith}
use borrow.Author.Tests.{lt-ltb, le-ltb}
use lib.ListN.{length, take, drop, replicate, length-replicate}
use lib.Seq.{length-take-le}
use Rattle.std.proofs.lemmas.List.{drop_all}
use Rattle.figure.specs.Refusals.{first_of, most_actions, most_engines, unless}
use Rattle.figure.proofs.First.{first-append, first-front}
use Rattle.lists.specs.Bytes.{rows, laid}
use Rattle.lists.specs.Read.{Reading, reading, read_refused, read_of}
use Rattle.lists.specs.Record.{record_width, record_bytes}
use Rattle.lists.specs.declared.reader.Layout.{Layout}
use Rattle.lists.proofs.Sized.{read_number, read-numbered, sized}
use Rattle.shape.specs.Turns.{action_at}
use Rattle.demands.proofs.Equations.{ran-by}
use Rattle.demands.proofs.Runs.{run-bytes-long}
use Rattle.history.proofs.Composing.{placed-many}
use Rattle.history.proofs.Traces.{traced-records}
use Rattle.history.proofs.Whole.{account-bytes, counts-are}
use Rattle.demands.specs.Lines.{account_bytes}
use Rattle.history.specs.Pieces.{records_below, placed_line, Admitted, Arrangeable, Arranged, Handed, hand_refused, handed_counts}
use Rattle.demands.specs.Run.{run_sizes, run_trace, run_book, run_account, Answered, answered_none, answered_by, counts_as, own_refused, run_refused, run_number, Ran}
use Rattle.demands.specs.declared.Counts.{Counts}

-- ---- a refusal

ran-refused : (list trace account : List ℕ) (n : ℕ) → ¬ (n ≡ 0) → run_number list trace account ≡ n → Ran list trace account (answered_none n) trace account
unfolding laid unless
ran-refused list trace account zero z e = absurd (z refl)
ran-refused list trace account (suc k) z e = ran-by (rw e) (rw e) (rw e)

module _ (list trace account : List ℕ) where
  -- the reader's
  pub ran-reader : (e : Refused) → reading (Err e) ≡ read_of list → Ran list trace account (answered_by (Err e)) trace account
  unfolding run_number run_refused
  ran-reader e h =
      let n : first_of (read_refused list) ≡ number_of e = sym (ap (λ (y : Reading). y.number) h ∙ read_number list) in
      ran-refused list trace account (number_of e) (not-none e) (first-front (read_refused list) _ (λ z. not-none e (sym n ∙ z)) ∙ n)

  module _ (l : Layout) (e : reading (Ok l) ≡ read_of list) where
    taken : (read_of list).number ≡ 0
    taken = sym (ap (λ (y : Reading). y.number) e)

    actions-are : l.actions ≡ (read_of list).actions
    actions-are = ap (λ (y : Reading). y.actions) e

    pub actions-few : l.actions ≤ most_actions
    actions-few = omega (arith, actions-are, (sized list (read_of list) refl taken).few)

    -- past the reader
    past-reader : run_number list trace account ≡ first_of (own_refused list (length trace) (length account))
    unfolding run_number run_refused
    past-reader = first-append (read_refused list) _ (sym (read_number list) ∙ taken) (read-numbered list)

    pub ran-29 : length trace < record_width * l.actions → Ran list trace account (answered_by (Err TraceShort)) trace account
    ran-29 h = ran-refused list trace account 29 (not-none TraceShort) (past-reader ∙ rw (lt-ltb (length trace) (record_width * (read_of list).actions) (omega (arith, h, actions-are))))

-- the front of scratch that was cleared
abbrev pub cleared : ℕ → List ℕ
cleared n = replicate n 0

pub front-long : (n m : ℕ) → n ≤ m → length (take n (cleared m)) ≡ n
front-long n m h = length-take-le n (cleared m) (omega (arith, length-replicate {A = ℕ} m 0))

-- and of scratch for traces, a row of 8 bytes for each event
pub flat-long : {A : Type 0} (n m : ℕ) (x : A) (flat : List ℕ) → length flat ≡ length (replicate m x) * record_width → n ≤ m → length (take (record_width * n) flat) ≡ record_width * n
flat-long n m x flat e h = length-take-le (record_width * n) flat (omega (arith, e, length-replicate m x))

-- bytes over a buffer of their length
laid-all : (bytes old : List ℕ) → length bytes ≡ length old → bytes ++ drop (length bytes) old ≡ bytes
laid-all bytes old e = rw (drop_all (length bytes) old (omega (arith, e))) (append-nil bytes)

-- ---- a list that the reader takes, traced into t', and its events arranged

module _ {list : List ℕ} {l : Layout} {trace : List ℕ} (g : Admitted list l trace) where
  ok : (read_of list).number ≡ 0
  ok = taken list trace [] l g.layout

  sizes_are : l.sizes ≡ run_sizes list
  sizes_are = ap (λ (y : Reading). y.sizes) g.layout

  n-are : l.actions ≡ (read_of list).actions
  n-are = ap (λ (y : Reading). y.actions) g.layout

  few : (read_of list).actions ≤ most_actions
  few = (sized list (read_of list) refl ok).few

  pub engines-few : l.sizes.engines ≤ most_engines
  engines-few = rw sizes_are (sized list (read_of list) refl ok).sizes_in.engines_in.high

  pub arrangeable : {n : ℕ} {keys order table : List ℕ} → n ≡ l.actions → length keys ≡ l.actions → l.actions ≤ length order → length table ≡ l.actions + l.sizes.engines + 1 → Arrangeable n l.sizes keys order table
  arrangeable e k o t =
      record {
        many = omega (arith, k, e);
        order_long = omega (arith, k, o);
        table_long = omega (arith, k, t);
        some_engine = rw sizes_are (sized list (read_of list) refl ok).sizes_in.engines_in.low;
        engines = engines-few;
      }

  module _ (events events' : List ℕ) (h : events' ≡ laid (rows record_bytes (run_trace list)) events) (long : length events ≡ record_width * l.actions) where
    recs : records_below (action_at events') (read_of list).actions ≡ run_trace list
    recs = traced-records list events events' h

    -- the scratch for the trace has room for it, and no more
    events-are : events' ≡ rows record_bytes (run_trace list)
    unfolding laid
    events-are = h ∙ laid-all (rows record_bytes (run_trace list)) events (run-bytes-long list ∙ omega (arith, long, n-are))

    module _ (keys keys' order' : List ℕ) (many : length keys ≡ l.actions) {c : Counts} (k : Arranged (action_at events') (length keys) l.sizes c keys' order') where
      k' : Arranged (action_at events') (read_of list).actions (run_sizes list) c keys' order'
      k' = rw (many, n-are, sizes_are) at k

      c-is : answered_by (Ok c) ≡ counts_as 0 list
      c-is = counts-are list ok (action_at events') recs k'

      events-is : c.events ≡ length (run_account list)
      events-is = ap (λ (y : Answered). y.events) c-is

      lines_are : rows (placed_line (action_at events') keys') (take c.events order') ≡ account_bytes (run_sizes list) (run_book list)
      lines_are = rw (k'.keys, k'.order) (account-bytes list ok (action_at events') recs)

      handed-counts : (j : ℕ) → handed_counts j c ≡ counts_as j list
      handed-counts zero = c-is
      handed-counts (suc j) = refl

      number-is' : (account : List ℕ) → first_of (hand_refused (length (take c.events order')) account) ≡ run_number list trace account
      number-is' account =
          rw (placed-many k, events-is)
          (sym (past-reader list trace account l g.layout ∙ rw (le-ltb (length trace) (record_width * (read_of list).actions) (omega (arith, n-are, g.room)))))

      pub ran : {account : List ℕ} {q : Answered} {trace' account' : List ℕ} → Handed events' keys' (take c.events order') c trace account q trace' account' → Ran list trace account q trace' account'
      ran {account} d =
          ran-by
          (d.counts ∙ (handed-counts (first_of (hand_refused (length (take c.events order')) account)) ∙ ap (λ (j : ℕ). counts_as j list) (number-is' account)))
          (d.trace_is ∙ rw (events-are, number-is' account))
          (d.account_is ∙ rw (lines_are, number-is' account))
