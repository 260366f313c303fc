-- Source 001, Figure 2: lazy caching. Engines are numbered from 1, addresses from 0. Assumes nothing.
use Rattle.std.specs.Prelude.{ℕ, zero, suc, Bool, true, false, not, ◌&&◌, List, [], ◌∷◌, ◌++◌, ltb, leb, eqb, length}
use Rattle.std.proofs.Math.Option.{Option, none, some}
use Rattle.figure.specs.declared.Sizes.{Sizes}
use Rattle.figure.specs.Refusals.{pick}

-- f, but x at i
abbrev pub upd {ℓ} : {A : Type ℓ} → (ℕ → A) → ℕ → A → ℕ → A
upd f i x j = elim (eqb j i) [ true ↦ x | false ↦ f j ]

-- an entry of an out queue: (address, data)
pub data Out : Type 0 where
  wr : (a d : ℕ) → Out

-- an entry of an in queue: (origin, address, data); origin 0 is "from memory"
pub data In : Type 0 where
  up : (o a d : ℕ) → In

-- for each engine a cache (some addresses absent), an out queue and an in queue, oldest first
pub record Engine : Type 0 where
  pub cache : ℕ → Option ℕ
  pub outs : List Out
  pub ins : List In

pub record State : Type 0 where
  pub memory : ℕ → ℕ
  pub engine : ℕ → Engine

-- "A fresh store has the given memory, empty caches and empty queues."
abbrev pub fresh : (ℕ → ℕ) → State
fresh mem = record { memory = mem; engine = λ i. record { cache = λ a. none; outs = []; ins = [] } }

-- the six steps
pub data Step : Type 0 where
  R : (i a : ℕ) → Step
  W : (i a d : ℕ) → Step
  MW : (i : ℕ) → Step
  MR : (i a : ℕ) → Step
  CU : (i : ℕ) → Step
  CI : (i a : ℕ) → Step

-- ---- allowed if

module _ {A : Type 0} where
  abbrev pub empty : List A → Bool
  empty [] = true
  empty (x ∷ xs) = false

-- "a is in cache i"
abbrev pub present : Option ℕ → Bool
present none = false
present (some d) = true

-- "no entry of origin i in in i"
abbrev pub none_of : ℕ → List In → Bool
none_of i [] = true
none_of i (up o a d ∷ q) = not (eqb o i) && none_of i q

-- Figure 2's column "allowed if"
abbrev pub allowed : State → Step → Bool
allowed s (R i a) = present ((s.engine i).cache a) && (empty (s.engine i).outs && none_of i (s.engine i).ins)
allowed s (W i a d) = true
allowed s (MW i) = not (empty (s.engine i).outs)
allowed s (MR i a) = true
allowed s (CU i) = not (empty (s.engine i).ins)
allowed s (CI i a) = true

-- ---- effect

abbrev pub join_out : Engine → Out → Engine
join_out e x = record { cache = e.cache; outs = e.outs ++ (x ∷ []); ins = e.ins }

abbrev pub join_in : Engine → In → Engine
join_in e x = record { cache = e.cache; outs = e.outs; ins = e.ins ++ (x ∷ []) }

-- MW i, whose out queue is the list: "its head leaves, goes to memory, and (i, a, d) joins every in queue, i's too"
abbrev pub publish : State → ℕ → List Out → State
publish s i [] = s
publish s i (wr a d ∷ q) =
    let e = s.engine i in
    record {
      memory = upd s.memory a d;
      engine = λ j. join_in (upd s.engine i (record { cache = e.cache; outs = q; ins = e.ins }) j) (up i a d);
    }

-- CU i, whose in queue is the list: "its head leaves and sets cache i"
abbrev pub update : State → ℕ → List In → State
update s i [] = s
update s i (up o a d ∷ q) =
    let e = s.engine i in
    record { memory = s.memory; engine = upd s.engine i (record { cache = upd e.cache a (some d); outs = e.outs; ins = q }) }

-- Figure 2's column "action"
abbrev pub next : State → Step → State
next s (R i a) = s
next s (W i a d) = record { memory = s.memory; engine = upd s.engine i (join_out (s.engine i) (wr a d)) }
next s (MW i) = publish s i (s.engine i).outs
next s (MR i a) = record { memory = s.memory; engine = upd s.engine i (join_in (s.engine i) (up 0 a (s.memory a))) }
next s (CU i) = update s i (s.engine i).ins
next s (CI i a) =
    let e = s.engine i in
    record { memory = s.memory; engine = upd s.engine i (record { cache = upd e.cache a none; outs = e.outs; ins = e.ins }) }

-- ---- what document 01 adds: numbers in range, and room

abbrev pub engine? : Sizes → ℕ → Bool
engine? z i = leb 1 i && leb i z.engines

abbrev pub address? : Sizes → ℕ → Bool
address? z a = ltb a z.addresses

-- the step names an engine and an address of the store
abbrev pub named : Sizes → Step → Bool
named z (R i a) = engine? z i && address? z a
named z (W i a d) = engine? z i && address? z a
named z (MW i) = engine? z i
named z (MR i a) = engine? z i && address? z a
named z (CU i) = engine? z i
named z (CI i a) = engine? z i && address? z a

module _ {A : Type 0} where
  abbrev pub has_room : ℕ → List A → Bool
  has_room depth q = ltb (length q) depth

-- "room in every in queue": of the engines 1 to n
abbrev pub all_room : ℕ → ℕ → (ℕ → Engine) → Bool
all_room zero depth f = true
all_room (suc n) depth f = has_room depth (f (suc n)).ins && all_room n depth f

-- room in the queues that the step adds to
abbrev pub room : Sizes → State → Step → Bool
room z s (R i a) = true
room z s (W i a d) = has_room z.depth (s.engine i).outs
room z s (MW i) = all_room z.engines z.depth s.engine
room z s (MR i a) = has_room z.depth (s.engine i).ins
room z s (CU i) = true
room z s (CI i a) = true

abbrev pub accepted : Sizes → State → Step → Bool
accepted z s x = named z x && (allowed s x && room z s x)

-- a refused step changes nothing
abbrev pub step : Sizes → State → Step → State
step z s x = pick (accepted z s x) (next s x) s

-- the state after a list of steps
abbrev pub after : Sizes → State → List Step → State
after z s [] = s
after z s (x ∷ xs) = after z (step z s x) xs
