-- B1 to B9 hold of the calls: what shape, demands and report compute of the table, joined. Assumes nothing.
use mathlib.Core.List.{List}
use mathlib.Core.Path.{◌≡◌, sym, ap, ap₂, subst, ◌∙◌}
use Prim.Native.Nat.{ℕ, ◌*◌, ◌≤◌}
use lib.ListN.{length}
use Rattle.demands.proofs.Bench.{cases-accounted}
use Rattle.demands.proofs.Runs.{fresh-taken}
use Rattle.demands.proofs.Worked.{case-ran}
use Rattle.demands.specs.Bench.{Accounted, CaseRan}
use Rattle.demands.specs.Run.{Answered, Ran}
use Rattle.figure.specs.Refusals.{first_of}
use Rattle.figure.specs.declared.Record.{Record}
use Rattle.figure.specs.declared.Sizes.{Sizes}
use Rattle.lists.specs.Line.{line_width}
use Rattle.lists.specs.Record.{record_width}
use Rattle.report.proofs.Bench.{cases-print}
use Rattle.report.proofs.Worked.{case-printed}
use Rattle.report.specs.Bench.{printed_text, Prints}
use Rattle.demands.specs.declared.Counts.{Counts}
use Rattle.std.specs.Prelude.{Result}
use Rattle.report.specs.Events.{account_said}
use Rattle.report.specs.Text.{Printed}
use Rattle.shape.proofs.Bench.{cases-turned, every-both}
use Rattle.shape.proofs.Numbers.{made-number, made-store}
use Rattle.shape.specs.Case.{Case, list_of, turn_of, first_store, Turned}
use Rattle.shape.specs.Cases.{cases}
use Rattle.shape.specs.Fresh.{Made, made_by, made, fresh_refused}
use Rattle.shape.specs.declared.Store.{Store}
use Rattle.promises.proofs.Demand2.{chain-store}
use Rattle.promises.proofs.Texts.{shown, account-said}
use Rattle.promises.specs.Cases.{CaseStepped, Holds, CasesHold}
use Rattle.promises.specs.Demand2.{Chain}
use Rattle.promises.specs.Texts.{Shown, said_of}

module _ (c : Case) (t : Turned c) where
  -- the table's store is made
  case-made : (made c.sizes c.memory).number ≡ 0
  case-made =
      made-number c.sizes c.memory
      ∙ (ap₂ (λ (z : Sizes) (m : List ℕ). first_of (fresh_refused z m)) (sym t.reads.sizes_are) (sym t.reads.memory_is) ∙ fresh-taken (list_of c) t.reads.taken)

  steps : (m : Made) → m ≡ made c.sizes c.memory → (s : Store) (es : List Record) → Chain m.store (turn_of c) (length c.turns) s es → CaseStepped c s es
  steps m e s es k =
      let q = chain-store k in
      let f : m.store ≡ first_store c = ap (λ (u : Made). u.store) e ∙ made-store c.sizes c.memory case-made in
      record { trace = q.1 ∙ rw (f) t.trace; memory = rw (q.0, f) t.memory; outs = rw (q.0, f) t.outs }

  module _ (a : Accounted c) where
    ran : {list trace account : List ℕ} {r : Answered} {trace' account' : List ℕ} → Ran list trace account r trace' account'
        → list ≡ list_of c → record_width * length c.turns ≤ length trace → line_width * length c.lines ≤ length account → CaseRan c trace account r trace' account'
    ran {list} {trace} {account} {r} {trace'} {account'} h e f g =
        case-ran c t a trace account f g (subst (λ (l : List ℕ). Ran l trace account r trace' account') e h)

    printed : Prints c → {list trace account : List ℕ} {r : Answered} {trace' account' : List ℕ} {counts : Result Counts ℕ} {lines out : List ℕ} {n : ℕ} {out' : List ℕ}
        → Ran list trace account r trace' account' → Printed (account_said counts lines) out 0 n out'
        → list ≡ list_of c → record_width * length c.turns ≤ length trace → line_width * length c.lines ≤ length account → counts ≡ said_of r → lines ≡ account' → Shown (printed_text c) out n out'
    printed p {r = r} {account' = account'} {out = out} {n} {out'} h q e f g i j = subst (λ (text : List ℕ). Shown text out n out') (rw (i, j) (account-said r account' ∙ case-printed p (ran h e f g))) (shown q)

holds : (c : Case) → Turned c → Accounted c × Prints c → Holds c
holds c t p =
    record {
      bytes = t.bytes;
      field = t.field;
      steps = λ κs a m e h z table. steps c t (made_by m) (h ∙ rw (z, table));
      ran = λ κs a r e h. ran c t p.0 h;
      printed = λ κs a r e h κs₂ b n e₂ k. printed c t p.0 p.1 h k.0;
    }

pub cases-hold : CasesHold
cases-hold = every-both Turned (λ c. Accounted c × Prints c) Holds holds cases cases-turned (every-both Accounted Prints (λ c. Accounted c × Prints c) (λ c a p. (a, p)) cases cases-accounted cases-print)
