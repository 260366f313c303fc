-- The move of a turn, from what it looks at. Assumes nothing.
use Rattle.std.specs.Prelude.{Bool, true, false, not, List, [], ◌∷◌, ◌++◌, ℕ, zero, suc, pred, eqb, is_some, unwrap_or}
use Rattle.figure.specs.Figure.{Step, R, W, MW, MR, CU, CI}
use Rattle.figure.specs.Refusals.{Refusal, ◌when◌, pick, first_of}
use Rattle.figure.specs.declared.Record.{Record}
use Rattle.figure.specs.declared.Sizes.{Sizes}
use Rattle.figure.specs.declared.kind.Kind.{Kind}
use Rattle.figure.specs.declared.kind.Kind.TheVariants.{Read, Write, Publish, Refresh, Update, Forget}
use Rattle.shape.specs.Parts.{full}
use Rattle.shape.specs.Step.{filled, in_entry, form_refused, action_of}
use Rattle.shape.specs.declared.InEntry.{InEntry}
use Rattle.decide.specs.declared.Look.{Look}
pub use Rattle.decide.specs.Turned.{Turned, kept, to_memory, to_cache, from_cache, refusing}

-- ---- what becomes of the word at the entry's address

abbrev pub stored_as : Turned → ℕ → ℕ
stored_as m old = pick (eqb m.word to_memory) m.entry.«data» old

abbrev pub held_as : Turned → Bool → Bool
held_as m old = pick (eqb m.word to_cache) true (pick (eqb m.word from_cache) false old)

abbrev pub cached_as : Turned → ℕ → ℕ
cached_as m old = pick (eqb m.word to_cache) m.entry.«data» old

-- ---- the moves

-- an accepted turn with the event e
abbrev pub accepting : Record → ℕ → ℕ → ℕ → ℕ → ℕ → InEntry → ℕ → Turned
accepting e out in' joins a b entry word =
    record { said = record { number = 0; event = e }; out_left = out; in_left = in'; out_joins = joins; from = a; to = b; entry = entry; word = word }

-- the step that an action of this kind asks for
abbrev pub step_of : Kind → Record → Step
step_of Read x = R x.engine.0 x.address.0
step_of Write x = W x.engine.0 x.address.0 x.«data»
step_of Publish x = MW x.engine.0
step_of Refresh x = MR x.engine.0 x.address.0
step_of Update x = CU x.engine.0
step_of Forget x = CI x.engine.0 x.address.0

-- the refusals of the table, of what was looked at
abbrev pub look_refused : Sizes → Look → Step → List Refusal
look_refused z l (R i a) = 21 when not (eqb l.outs 0) ∷ 22 when l.own ∷ 23 when not (is_some l.cached) ∷ []
look_refused z l (W i a d) = 24 when full z.depth l.outs ∷ []
look_refused z l (MW i) = 25 when eqb l.outs 0 ∷ 26 when l.blocked ∷ []
look_refused z l (MR i a) = 27 when full z.depth l.ins ∷ []
look_refused z l (CU i) = 28 when eqb l.ins 0 ∷ []
look_refused z l (CI i a) = []

-- the move of a step that is allowed
abbrev pub allowed_move : Sizes → Record → Look → Step → Turned
allowed_move z x l (R i a) = accepting (filled x (in_entry 0 a (unwrap_or l.cached 0))) 0 0 0 0 0 (in_entry 0 a (unwrap_or l.cached 0)) kept
allowed_move z x l (W i a d) = accepting x 0 0 1 0 0 (in_entry i a d) kept
allowed_move z x l (MW i) =
    let first = l.first_out in
    accepting (filled x (in_entry 0 first.address.0 first.«data»)) 1 0 0 0 z.engines (in_entry i first.address.0 first.«data») to_memory
allowed_move z x l (MR i a) = accepting (filled x (in_entry 0 a l.stored)) 0 0 0 (pred i) (suc (pred i)) (in_entry 0 a l.stored) kept
allowed_move z x l (CU i) = accepting (filled x l.first_in) 0 1 0 0 0 l.first_in to_cache
allowed_move z x l (CI i a) = accepting x 0 0 0 0 0 (in_entry 0 a 0) from_cache

abbrev pub decided : ℕ → Turned → Turned
decided zero m = m
decided (suc n) m = refusing (suc n)

-- of a well-formed record
abbrev pub turned : Sizes → Record → Look → Step → Turned
turned z x l t = decided (first_of (look_refused z l t)) (allowed_move z x l t)

-- the whole table, in its order
abbrev pub move_refused : Sizes → Record → Look → List Refusal
move_refused z x l = 17 when not l.sound ∷ form_refused z x ++ look_refused z l (action_of x)

unfoldable pub move_of : Sizes → Record → Look → Turned
move_of z x l = decided (first_of (move_refused z x l)) (allowed_move z x l (action_of x))
