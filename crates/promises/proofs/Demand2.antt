-- Demand 2 holds of the calls. Assumes nothing.
use mathlib.Core.Path.{◌≡◌, refl, sym, ap, ◌∙◌}
use mathlib.Core.Bool.{true}
use mathlib.Core.List.{List, [], ◌∷◌, ◌++◌}
use Prim.Native.Nat.{ℕ, ◌*◌, ◌≤◌}
use denote.Array.{Array}
use denote.Builtin.{u8}
use lib.ListN.{length, take}
use Rattle.demands.proofs.Demands.{run-refuses, run-numbered, reader-took, run-trace}
use Rattle.demands.proofs.Runs.{fresh-taken}
use Rattle.demands.specs.Run.{Answered, run_sizes, run_fresh, run_action, run_trace, Ran}
use Rattle.figure.proofs.First.{first-none, none_first}
use Rattle.figure.specs.Refusals.{Refusal, first_of, numbered, unless}
use Rattle.figure.specs.declared.Record.{Record}
use Rattle.figure.specs.declared.Sizes.{Sizes}
use Rattle.lists.proofs.RoundTrip.{reads-back, writes-back}
use Rattle.lists.proofs.Sized.{read_number, read-numbered}
use Rattle.lists.proofs.Wrote.{write-numbered}
use Rattle.lists.specs.Bytes.{rows, laid}
use Rattle.lists.specs.Read.{Reading, read_of, memory_of, action_bytes_of}
use Rattle.lists.specs.Record.{record_width, record_bytes}
use Rattle.lists.specs.Write.{Written, Wrote, Rewritten}
use Rattle.shape.proofs.Bridge.{demand-2}
use Rattle.shape.proofs.Kept.{fresh-numbered}
use Rattle.shape.proofs.Numbers.{step-number, made-number, made-store}
use Rattle.shape.proofs.Taken.{step-numbered}
use Rattle.shape.specs.Demand.{Steps}
use Rattle.shape.specs.Fresh.{Made, fresh_of, fresh_refused, made}
use Rattle.shape.specs.Step.{Stepped, stepped_by, step_refused, stepped}
use Rattle.shape.specs.Trace.{traced}
use Rattle.shape.specs.Turns.{action_at, turns_of, store_after, trace_after, FreshTurned}
use Rattle.shape.specs.declared.Answer.{Answer}
use Rattle.shape.specs.declared.Store.{Store}
use Rattle.promises.proofs.Typed.{of-shaped, of-bytes}
use Rattle.promises.specs.Demand2.{Value, OnSound, Judged, Chain, start, after, Demand2}

-- a number that is the first of the rules' is judged by them
judged : (rules : List Refusal) {n : ℕ} → numbered rules ≡ true → n ≡ first_of rules → Judged rules n
judged rules u e = record { first = e; none = λ z. none_first rules u (sym e ∙ z); zero = λ k. e ∙ first-none rules k; numbers = u }

step-judged : (s : Store) (x : Record) {n : ℕ} → n ≡ (stepped s x).number → Judged (step_refused s x) n
step-judged s x e = judged (step_refused s x) (step-numbered s x) (e ∙ step-number s x)

asked-steps : (s : Store) (x : Record) → OnSound s x → Steps s x (stepped s x)
asked-steps s x q = demand-2 s q.sound (of-shaped s q.value.0 q.value.1) x q.formed

-- ---- steps by the call, one after another, are the turns of the run

pub chain-store : {s : Store} {x : ℕ → Record} {k : ℕ} {t : Store} {es : List Record} → Chain s x k t es → (t ≡ store_after s x k) × (es ≡ trace_after s x k)
unfolding store_after trace_after
chain-store start = (refl, refl)
chain-store {s} {x} (after {k} {t} {es} c κs r e h) =
    let q = chain-store c in
    let g : stepped_by r ≡ stepped (store_after s x k) (x k) = rw (← q.0) h in
    (ap (λ (u : Stepped). u.store) g, rw q.1 (ap (λ (u : Stepped). trace_after s x k ++ (traced u ∷ [])) g))

in_turn : {list trace account : List ℕ} {r : Answered} {trace' account' : List ℕ} {z : Sizes} {table : List ℕ} {m : Made} → Ran list trace account r trace' account' → m ≡ made z table → r.number ≡ 0 → z ≡ run_sizes list → table ≡ memory_of list
    → (t : Store) (es : List Record) → Chain m.store (run_action list) (read_of list).actions t es → take (record_width * (read_of list).actions) trace' ≡ rows record_bytes es
unfolding run_trace
in_turn {list} {m = m} h e n p q t es c =
    let k : (made (run_sizes list) (memory_of list)).number ≡ 0 = made-number (run_sizes list) (memory_of list) ∙ fresh-taken list (reader-took h n) in
    let f : m.store ≡ run_fresh list = ap (λ (u : Made). u.store) e ∙ rw (p, q) (made-store (run_sizes list) (memory_of list) k) in
    run-trace h n ∙ rw ((chain-store c).1, f)

turns_in_turn : {z : Sizes} {table actions trace : List ℕ} {r : ℕ} {trace' : List ℕ} {z₂ : Sizes} {table₂ : List ℕ} {m : Made} → FreshTurned z table actions trace r trace' → m ≡ made z₂ table₂ → r ≡ 0 → z₂ ≡ z → table₂ ≡ table
    → (t : Store) (es : List Record) → Chain m.store (action_at actions) (turns_of actions trace) t es → trace' ≡ laid (rows record_bytes es) trace
unfolding unless
turns_in_turn {z} {table} {actions} {trace} {m = m} h e n p q t es c =
    let k : first_of (fresh_refused z table) ≡ 0 = sym h.number ∙ n in
    let f : m.store ≡ fresh_of z table = ap (λ (u : Made). u.store) e ∙ rw (p, q) (made-store z table (made-number z table ∙ k)) in
    h.trace_is ∙ rw (k, (chain-store c).1, f)

rewrites : {list : List ℕ} {l : Reading} {z : Sizes} {memory actions out : List ℕ} {r : Written} {out' : List ℕ} → l ≡ read_of list → Wrote z memory actions out r out'
    → l.number ≡ 0 → Value (Array u8 (length list)) list → z ≡ l.sizes → memory ≡ memory_of list → actions ≡ action_bytes_of list → length list ≤ length out → Rewritten list out r out'
rewrites {list} e w n b p q s f = writes-back list (of-bytes list b) (rw (← (e)) n) f (rw (← (e), ← (p), ← (q), ← (s)) w)

pub demand-two : Demand2
demand-two =
    record {
      steps = λ κs a r e h q. rw (h) (asked-steps a.0 a.1.0 q);
      onces = λ κs a r e h q. rw (h) (asked-steps a.0 a.1.0 q);
      steps_in_place = λ κs a r e h q. rw (h.0, h.1) (asked-steps a.0.now a.1.0 q);
      step_judges = λ κs a r e h. step-judged a.0 a.1.0 (ap (λ (u : Stepped). u.number) h);
      in_place_judges = λ κs a r e h. step-judged a.0.now a.1.0 (ap (λ (u : Answer). u.number) h.1);
      sound_judges = λ κs a r e h. h;
      fresh_judges = λ κs a r e h. judged _ (fresh-numbered a.0 a.1.0.now) (ap (λ (u : Made). u.number) h ∙ made-number a.0 a.1.0.now);
      turns_judges = λ κs a r e h. judged _ (fresh-numbered a.0 a.1.0.now) h.number;
      read_judges = λ κs a r e h. judged _ (read-numbered a.0.now) (ap (λ (u : Reading). u.number) h ∙ read_number a.0.now);
      write_judges = λ κs a r e h. judged _ (write-numbered a.0 a.1.0.now a.1.1.0.now (length a.1.1.1.0.now)) h.number_is;
      run_judges = λ κs a r e h. judged _ (run-numbered a.0.now (length a.1.0.now) (length a.1.1.0.now)) (run-refuses h);
      in_turn = λ κs a r e h κs₂ b m e₂ k. in_turn h k;
      turns_in_turn = λ κs a r e h κs₂ b m e₂ k. turns_in_turn h k;
      written_reads_back = λ κs a r e h. reads-back h;
      read_is = λ κs a r e h. h;
      memory_is = λ κs a r e h. h;
      read_writes_back = λ κs a l e h κs₂ b r e₂ k. rewrites h k;
    }
