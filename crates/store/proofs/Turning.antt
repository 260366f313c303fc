-- The turns of a run, one after another: the trace after i of them. Assumes nothing.
use mathlib.Core.Path.{◌≡◌, refl, sym, ap, ◌∙◌}
use mathlib.Core.List.{List, [], ◌∷◌, ◌++◌, append-nil}
use Prim.Native.Nat.{ℕ, zero, suc, ◌+◌, ◌*◌, ◌≤◌}
use native.Mathlib.Numerals.{add-one}
use native.Mathlib.Omega.{arith}
use lib.ListN.{length, length-append}
use Rattle.figure.specs.Refusals.{first_of, unless}
use Rattle.figure.specs.declared.Record.{Record}
use Rattle.figure.specs.declared.Sizes.{Sizes}
use Rattle.lists.specs.Bytes.{laid, put, rows}
use Rattle.lists.specs.Record.{record_bytes}
use Rattle.lists.proofs.Put.{laid-put, laid_none}
use Rattle.lists.proofs.Rows.{rows_append, length-rows}
use Rattle.shape.specs.Fresh.{fresh_of, fresh_refused}
use Rattle.shape.specs.Step.{stepped, answer_of}
use Rattle.shape.specs.Trace.{traced_as}
use Rattle.shape.specs.Turns.{action_at, store_after, trace_after, bytes_of, turns_of, FreshTurned}
use Rattle.shape.specs.declared.Answer.{Answer}
use Rattle.shape.specs.declared.Store.{Store}
use Rattle.shape.proofs.Trails.{length-trace}

-- ---- the bytes of a trace

length-bytes : (rs : List Record) → length (bytes_of rs) ≡ 8 * length rs
length-bytes = length-rows record_bytes 8 (λ r. refl)

bytes-end : (rs : List Record) (r : Record) → bytes_of (rs ++ (r ∷ [])) ≡ bytes_of rs ++ record_bytes r
unfolding rows
bytes-end rs r = rows_append record_bytes rs (r ∷ []) ∙ rw (append-nil)

-- one record more, put just past i records
put_next : (rs : List Record) (r : Record) (i : ℕ) (old : List ℕ) → length rs ≡ i → 8 * i + 8 ≤ length old
    → put (laid (bytes_of rs) old) (8 * i) (record_bytes r) ≡ laid (bytes_of (rs ++ (r ∷ []))) old
put_next rs r i old e h =
    let n : length (bytes_of rs) ≡ 8 * i = length-bytes rs ∙ ap (λ (k : ℕ). 8 * k) e in
    let fits : length (bytes_of rs ++ record_bytes r) ≤ length old = rw (length-append (bytes_of rs) (record_bytes r), n) h in
    rw (bytes-end rs r, ← (n)) (laid-put (bytes_of rs) (record_bytes r) old fits)

-- as many turns as there are actions and as the trace has room for
pub turns_fit : {n : ℕ} (actions old : List ℕ) → n ≡ turns_of actions old → (8 * n ≤ length actions) × (8 * n ≤ length old)
turns_fit actions old e = (omega arith, omega arith)

module _ (s : Store) (actions old : List ℕ) where
  -- the buffer after i turns
  abbrev pub laid_after : ℕ → List ℕ
  laid_after i = laid (bytes_of (trace_after s (action_at actions) i)) old

  pub laid-first : old ≡ laid_after 0
  unfolding trace_after rows
  laid-first = sym (laid_none old)

  -- one turn more, whose answer is the step's
  pub laid-next : (i : ℕ) {a : Answer} → 8 * i + 8 ≤ length old → a ≡ answer_of (stepped (store_after s (action_at actions) i) (action_at actions i))
      → put (laid_after i) (8 * i) (record_bytes (traced_as a.number a.event)) ≡ laid_after (i + 1)
  unfolding trace_after
  laid-next i fits e =
      rw (e, add-one i) (put_next (trace_after s (action_at actions) i) _ i old (length-trace s (action_at actions) i) fits)

-- the store after one turn more
pub store-next : (s : Store) (x : ℕ → Record) (i : ℕ) → store_after s x (i + 1) ≡ (stepped (store_after s x i) (x i)).store
unfolding store_after
store-next s x i = rw (add-one i)

pub store-first : (s : Store) (x : ℕ → Record) → store_after s x 0 ≡ s
unfolding store_after
store-first s x = refl

-- all turns of a store that can be made, and none of one that cannot
pub fresh-turned : {z : Sizes} {table actions old trace : List ℕ} → first_of (fresh_refused z table) ≡ 0 → trace ≡ laid_after (fresh_of z table) actions old (turns_of actions old)
    → FreshTurned z table actions old 0 trace
unfolding unless
fresh-turned p e = record { number = sym p; trace_is = rw (p) e }

pub none-turned : {z : Sizes} {table actions old : List ℕ} {n : ℕ} → n ≡ first_of (fresh_refused z table) → ¬ (n ≡ 0) → FreshTurned z table actions old n old
unfolding unless
none-turned {z} {table} {actions} {old} {n} e o = record { number = e; trace_is = at (first_of (fresh_refused z table)) (λ q. o (e ∙ q)) }
  where
    at : (k : ℕ) → ¬ (k ≡ 0) → old ≡ laid (unless k (bytes_of (trace_after (fresh_of z table) (action_at actions) (turns_of actions old))) []) old
    at zero q = absurd (q refl)
    at (suc k) q = sym (laid_none old)
