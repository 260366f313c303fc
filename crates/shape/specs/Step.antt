-- The step: its refusals in the table's order, its effect and its event. Assumes nothing.
use Rattle.std.specs.Prelude.{Bool, not, ◌&&◌, ◌||◌, List, [], ◌∷◌, ◌++◌, ℕ, zero, suc, pred, eqb, leb, take, set, get_or, Result, Ok, Err}
use Rattle.figure.specs.Figure.{Step, R, W, MW, MR, CU, CI}
use Rattle.figure.specs.Record.{no_record}
use Rattle.figure.specs.Refusals.{Refusal, ◌when◌, pick, first_of, outside}
use Rattle.figure.specs.Refused.{number_of}
use Rattle.figure.specs.declared.Record.{Record}
use Rattle.figure.specs.declared.Sizes.{Sizes}
use Rattle.figure.specs.declared.refused.Refused.{Refused}
use Rattle.shape.specs.Parts.{any, change, firsts, out_of, out_joined, out_left, in_of, in_joined, in_left, full, own_waits, in_cache, cached_value, cached, dropped, no_out_entry, no_in_entry, no_out, no_in, no_cache}
use Rattle.shape.specs.Sound.{sound_of}
use Rattle.shape.specs.declared.Answer.{Answer}
use Rattle.shape.specs.declared.Cache.{Cache}
use Rattle.shape.specs.declared.InEntry.{InEntry}
use Rattle.shape.specs.declared.InQueue.{InQueue}
use Rattle.shape.specs.declared.OutEntry.{OutEntry}
use Rattle.shape.specs.declared.OutQueue.{OutQueue}
use Rattle.shape.specs.declared.Store.{Store}

-- engine i's parts stand at place i - 1
abbrev pub out_at : Store → ℕ → OutQueue
out_at s i = get_or s.outs (pred i) no_out

abbrev pub in_at : Store → ℕ → InQueue
in_at s i = get_or s.ins (pred i) no_in

abbrev pub cache_at : Store → ℕ → Cache
cache_at s i = get_or s.caches (pred i) no_cache

abbrev pub oldest_out : Store → ℕ → OutEntry
oldest_out s i = get_or (out_of (out_at s i)) 0 no_out_entry

abbrev pub oldest_in : Store → ℕ → InEntry
oldest_in s i = get_or (in_of (in_at s i)) 0 no_in_entry

-- ---- the refusals

-- R, W, MR and CI name an address; W alone has data
abbrev pub uses_address : ℕ → Bool
uses_address k = not (eqb k 3 || eqb k 5)

abbrev pub uses_data : ℕ → Bool
uses_data k = eqb k 2

-- "In an action the origin is 0; R, MR and CI have data 0; MW and CU have address and data 0."
abbrev pub fields_right : Record → Bool
fields_right x = eqb x.origin.0 0 && ((uses_address x.kind || eqb x.address.0 0) && (uses_data x.kind || eqb x.«data» 0))

-- 11 to 14: of the record alone
unfoldable pub form_refused : Sizes → Record → List Refusal
form_refused z x =
    11 when outside 1 6 x.kind
    ∷ 12 when outside 1 z.engines x.engine.0
    ∷ 13 when (uses_address x.kind && leb z.addresses x.address.0)
    ∷ 14 when not (fields_right x)
    ∷ []

-- some in queue of the engines 1 to the engine count is full
abbrev pub some_full : Store → Bool
some_full s = any (λ (q : InQueue). full s.sizes.depth q.len) (take s.sizes.engines s.ins)

-- 21 to 28: of the step that a well-formed record asks for
unfoldable pub turn_refused : Store → Step → List Refusal
turn_refused s (R i a) =
    21 when not (eqb (out_at s i).len 0)
    ∷ 22 when own_waits (record { 0 = i }) (in_at s i)
    ∷ 23 when not (in_cache (cache_at s i) (record { 0 = a }))
    ∷ []
turn_refused s (W i a d) = 24 when full s.sizes.depth (out_at s i).len ∷ []
turn_refused s (MW i) = 25 when eqb (out_at s i).len 0 ∷ 26 when some_full s ∷ []
turn_refused s (MR i a) = 27 when full s.sizes.depth (in_at s i).len ∷ []
turn_refused s (CU i) = 28 when eqb (in_at s i).len 0 ∷ []
turn_refused s (CI i a) = []

-- the step that a well-formed record asks for
abbrev pub action_of : Record → Step
action_of x =
    let i = x.engine.0 in
    let a = x.address.0 in
    pick (eqb x.kind 1) (R i a)
    (pick (eqb x.kind 2) (W i a x.«data»)
    (pick (eqb x.kind 3) (MW i)
    (pick (eqb x.kind 4) (MR i a)
    (pick (eqb x.kind 5) (CU i)
    (CI i a)))))

-- the whole table, in its order
unfoldable pub step_refused : Store → Record → List Refusal
step_refused s x = 17 when not (sound_of s) ∷ form_refused s.sizes x ++ turn_refused s (action_of x)

-- ---- the effect

abbrev pub with_outs : Store → List OutQueue → Store
with_outs s l = record { sizes = s.sizes; memory = s.memory; caches = s.caches; outs = l; ins = s.ins }

abbrev pub with_ins : Store → List InQueue → Store
with_ins s l = record { sizes = s.sizes; memory = s.memory; caches = s.caches; outs = s.outs; ins = l }

abbrev pub with_caches : Store → List Cache → Store
with_caches s l = record { sizes = s.sizes; memory = s.memory; caches = l; outs = s.outs; ins = s.ins }

abbrev pub out_entry : ℕ → ℕ → OutEntry
out_entry a d = record { address = record { 0 = a }; «data» = d }

abbrev pub in_entry : ℕ → ℕ → ℕ → InEntry
in_entry o a d = record { origin = record { 0 = o }; address = record { 0 = a }; «data» = d }

abbrev pub memory_at : Store → ℕ → ℕ
memory_at s a = get_or s.memory a 0

-- MW: "its head (a, d) leaves, goes to memory, and (i, a, d) joins every in queue, i's too"
abbrev pub published : Store → ℕ → OutEntry → Store
published s i x =
    record {
      sizes = s.sizes;
      memory = set s.memory x.address.0 x.«data»;
      caches = s.caches;
      outs = change (pred i) out_left s.outs;
      ins = firsts s.sizes.engines (in_joined (in_entry i x.address.0 x.«data»)) s.ins;
    }

-- CU: "its head leaves and sets cache i"
abbrev pub updated : Store → ℕ → InEntry → Store
updated s i x = with_caches (with_ins s (change (pred i) in_left s.ins)) (change (pred i) (cached x.address x.«data») s.caches)

-- the table's column "effect"
abbrev pub effect : Store → Step → Store
effect s (R i a) = s
effect s (W i a d) = with_outs s (change (pred i) (out_joined (out_entry a d)) s.outs)
effect s (MW i) = published s i (oldest_out s i)
effect s (MR i a) = with_ins s (change (pred i) (in_joined (in_entry 0 a (memory_at s a))) s.ins)
effect s (CU i) = updated s i (oldest_in s i)
effect s (CI i a) = with_caches s (change (pred i) (dropped (record { 0 = a })) s.caches)

-- the action with its origin, address and data filled in
abbrev pub filled : Record → InEntry → Record
filled x e = record { kind = x.kind; engine = x.engine; origin = e.origin; address = e.address; «data» = e.«data» }

-- "the value for R and MR, address and data for MW and CU, the origin for CU. W and CI come back unchanged."
abbrev pub event_of : Store → Record → Step → Record
event_of s x (R i a) = filled x (in_entry 0 a (cached_value (cache_at s i) x.address))
event_of s x (W i a d) = x
event_of s x (MW i) = filled x (in_entry 0 (oldest_out s i).address.0 (oldest_out s i).«data»)
event_of s x (MR i a) = filled x (in_entry 0 a (memory_at s a))
event_of s x (CU i) = filled x (oldest_in s i)
event_of s x (CI i a) = x

-- ---- the answer

-- what a step answers, with the store after it
pub record Stepped : Type 0 where
  pub number : ℕ
  pub store : Store
  pub event : Record

-- "A refused step answers with its number, the state it was given, and a record of eight zero bytes."
abbrev pub answered : ℕ → Store → Record → Stepped
answered zero s x = record { number = 0; store = effect s (action_of x); event = event_of s x (action_of x) }
answered (suc n) s x = record { number = suc n; store = s; event = no_record }

unfoldable pub stepped : Store → Record → Stepped
stepped s x = answered (first_of (step_refused s x)) s x

-- the answer without the store
abbrev pub answer_of : Stepped → Answer
answer_of t = record { number = t.number; event = t.event }

-- what a call answers, by this paper's number and values
abbrev pub answer_by : Result Record Refused → Answer
answer_by (Ok e) = record { number = 0; event = e }
answer_by (Err e) = record { number = number_of e; event = no_record }

abbrev pub stepped_by : Store × Result Record Refused → Stepped
stepped_by p = record { number = (answer_by p.1).number; store = p.0; event = (answer_by p.1).event }
