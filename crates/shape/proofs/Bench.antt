-- B1 to B9, computed: the list of each case, its trace, and the store at its end. One lemma a case, so that a slip is refused by the case that it spoils. Assumes nothing.
use mathlib.Core.List.{List, [], ◌∷◌}
use mathlib.Core.Path.{◌≡◌, refl}
use Prim.Native.Nat.{ℕ, suc}
use lib.Dec.{eqb}
use Rattle.figure.specs.Figure.{Out, In, State, accepted, step}
use Rattle.figure.proofs.Machines.{below}
use Rattle.figure.specs.Refusals.{sizes_refused}
use Rattle.lists.specs.Bytes.{rows, u32_at}
use Rattle.lists.specs.Codec.{things_at}
use Rattle.lists.specs.Read.{read_of, read_refused, layout_of, memory_of, action_bytes_of, list_bytes, body_of}
use Rattle.shape.specs.Case.{Case, Every, Turned, first_store, turn_of}
use Rattle.shape.specs.Cases.{B1, B2, B3, B4, B5, B6, B7, B8, B9, cases}
use Rattle.shape.specs.Fresh.{fresh_of}
use Rattle.shape.specs.Sound.{sound_of}
use Rattle.shape.specs.Step.{action_of, stepped, step_refused, form_refused, turn_refused}
use Rattle.shape.specs.Turns.{store_after, trace_after}
use Rattle.shape.specs.View.{view}
use Rattle.shape.specs.declared.Store.{Store}

-- ---- demand 2 at each action of B2, and of B5: what document 01's poor programs fall to

-- the store before action k of a case
abbrev before : Case → ℕ → Store
before c k = store_after (first_store c) (turn_of c) k

-- the queues of engine 1
abbrev queues : State → List Out × List In
queues s = ((s.engine 1).outs, (s.engine 1).ins)

B2-exactly : below (λ k. eqb (stepped (before B2 k) (turn_of B2 k)).number 0) 7 ≡ below (λ k. accepted B2.sizes (view (before B2 k)) (action_of (turn_of B2 k))) 7
unfolding fresh_of sound_of sizes_refused stepped step_refused form_refused turn_refused store_after below
B2-exactly = refl

B5-next-states : below (λ k. queues (view (before B5 (suc k)))) 4 ≡ below (λ k. queues (step B5.sizes (view (before B5 k)) (action_of (turn_of B5 k)))) 4
unfolding fresh_of sound_of sizes_refused stepped step_refused form_refused turn_refused store_after below
B5-next-states = refl

-- ---- the cases

B1-turned : Turned B1
unfolding rows things_at u32_at read_of read_refused layout_of memory_of action_bytes_of list_bytes body_of sizes_refused fresh_of sound_of stepped step_refused form_refused turn_refused store_after trace_after
B1-turned = record { bytes = refl; field = refl; reads = record { taken = refl; sizes_are = refl; memory_is = refl; action_bytes_are = refl }; actions = refl; trace = refl; memory = refl; outs = refl }

B2-turned : Turned B2
unfolding rows things_at u32_at read_of read_refused layout_of memory_of action_bytes_of list_bytes body_of sizes_refused fresh_of sound_of stepped step_refused form_refused turn_refused store_after trace_after
B2-turned = record { bytes = refl; field = refl; reads = record { taken = refl; sizes_are = refl; memory_is = refl; action_bytes_are = refl }; actions = refl; trace = refl; memory = refl; outs = refl }

B3-turned : Turned B3
unfolding rows things_at u32_at read_of read_refused layout_of memory_of action_bytes_of list_bytes body_of sizes_refused fresh_of sound_of stepped step_refused form_refused turn_refused store_after trace_after
B3-turned = record { bytes = refl; field = refl; reads = record { taken = refl; sizes_are = refl; memory_is = refl; action_bytes_are = refl }; actions = refl; trace = refl; memory = refl; outs = refl }

B4-turned : Turned B4
unfolding rows things_at u32_at read_of read_refused layout_of memory_of action_bytes_of list_bytes body_of sizes_refused fresh_of sound_of stepped step_refused form_refused turn_refused store_after trace_after
B4-turned = record { bytes = refl; field = refl; reads = record { taken = refl; sizes_are = refl; memory_is = refl; action_bytes_are = refl }; actions = refl; trace = refl; memory = refl; outs = refl }

B5-turned : Turned B5
unfolding rows things_at u32_at read_of read_refused layout_of memory_of action_bytes_of list_bytes body_of sizes_refused fresh_of sound_of stepped step_refused form_refused turn_refused store_after trace_after
B5-turned = record { bytes = refl; field = refl; reads = record { taken = refl; sizes_are = refl; memory_is = refl; action_bytes_are = refl }; actions = refl; trace = refl; memory = refl; outs = refl }

B6-turned : Turned B6
unfolding rows things_at u32_at read_of read_refused layout_of memory_of action_bytes_of list_bytes body_of sizes_refused fresh_of sound_of stepped step_refused form_refused turn_refused store_after trace_after
B6-turned = record { bytes = refl; field = refl; reads = record { taken = refl; sizes_are = refl; memory_is = refl; action_bytes_are = refl }; actions = refl; trace = refl; memory = refl; outs = refl }

B7-turned : Turned B7
unfolding rows things_at u32_at read_of read_refused layout_of memory_of action_bytes_of list_bytes body_of sizes_refused fresh_of sound_of stepped step_refused form_refused turn_refused store_after trace_after
B7-turned = record { bytes = refl; field = refl; reads = record { taken = refl; sizes_are = refl; memory_is = refl; action_bytes_are = refl }; actions = refl; trace = refl; memory = refl; outs = refl }

B8-turned : Turned B8
unfolding rows things_at u32_at read_of read_refused layout_of memory_of action_bytes_of list_bytes body_of sizes_refused fresh_of sound_of stepped step_refused form_refused turn_refused store_after trace_after
B8-turned = record { bytes = refl; field = refl; reads = record { taken = refl; sizes_are = refl; memory_is = refl; action_bytes_are = refl }; actions = refl; trace = refl; memory = refl; outs = refl }

B9-turned : Turned B9
unfolding rows things_at u32_at read_of read_refused layout_of memory_of action_bytes_of list_bytes body_of sizes_refused fresh_of sound_of stepped step_refused form_refused turn_refused store_after trace_after
B9-turned = record { bytes = refl; field = refl; reads = record { taken = refl; sizes_are = refl; memory_is = refl; action_bytes_are = refl }; actions = refl; trace = refl; memory = refl; outs = refl }

pub cases-turned : Every Turned cases
cases-turned = (B1-turned, (B2-turned, (B3-turned, (B4-turned, (B5-turned, (B6-turned, (B7-turned, (B8-turned, (B9-turned, tt)))))))))

-- what follows from two statements for one case follows for every case of a table
pub every-both : (P Q R : Case → Type 0) → ((c : Case) → P c → Q c → R c) → (cs : List Case) → Every P cs → Every Q cs → Every R cs
every-both P Q R law [] p q = tt
every-both P Q R law (c ∷ cs) p q = (law c p.0 q.0, every-both P Q R law cs p.1 q.1)
