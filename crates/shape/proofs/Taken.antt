-- A step's answer, taken apart: a refusal, or a step that one of the six rules allows, with what the rule asks for. Assumes nothing.
use mathlib.Core.Path.{◌≡◌, refl}
use mathlib.Core.Bool.{Bool, true, false, not, ◌&&◌, true≢false}
use Prim.Native.Nat.{ℕ, zero, suc, ◌≤◌, ◌<◌}
use native.Mathlib.Omega.{arith}
use lib.Dec.{eqb, ltb}
use borrow.Author.Tests.{ltb-false, leb-false, eqb-true, eqb-false, not-false}
use Rattle.figure.specs.Figure.{Step, R, W, MW, MR, CU, CI}
use Rattle.figure.specs.Record.{no_record}
use Rattle.figure.specs.Refusals.{first_of, NoneApplies, numbered, outside}
use Rattle.figure.specs.declared.Record.{Record}
use Rattle.figure.specs.declared.Sizes.{Sizes}
use Rattle.figure.proofs.First.{none_first, none-split}
use Rattle.figure.proofs.Laws.{and_left, and_right}
use Rattle.shape.proofs.Places.{or_right}
use Rattle.shape.specs.Parts.{own_waits, in_cache}
use Rattle.shape.specs.Sound.{sound_of}
use Rattle.shape.specs.Step.{out_at, in_at, cache_at, some_full, form_refused, turn_refused, step_refused, action_of, effect, event_of, answered, stepped, Stepped}
use Rattle.shape.specs.declared.Store.{Store}

-- an action with origin 0
abbrev pub action : ℕ → ℕ → ℕ → ℕ → Record
action k i a d = record { kind = k; engine = record { 0 = i }; origin = record { 0 = 0 }; address = record { 0 = a }; «data» = d }

-- x is well formed and asks for a step; engine suc k stands at place k
pub data Asks (z : Sizes) : Record → Step → Type 0 where
  asks_r : {k a : ℕ} → k < z.engines → a < z.addresses → Asks z (action 1 (suc k) a 0) (R (suc k) a)
  asks_w : {k a d : ℕ} → k < z.engines → a < z.addresses → Asks z (action 2 (suc k) a d) (W (suc k) a d)
  asks_mw : {k : ℕ} → k < z.engines → Asks z (action 3 (suc k) 0 0) (MW (suc k))
  asks_mr : {k a : ℕ} → k < z.engines → a < z.addresses → Asks z (action 4 (suc k) a 0) (MR (suc k) a)
  asks_cu : {k : ℕ} → k < z.engines → Asks z (action 5 (suc k) 0 0) (CU (suc k))
  asks_ci : {k a : ℕ} → k < z.engines → a < z.addresses → Asks z (action 6 (suc k) a 0) (CI (suc k) a)

-- ---- which step a well-formed record asks for

engine-in : (n i : ℕ) → outside 1 n (suc i) ≡ false → i < n
engine-in n i h = ltb-false n (suc i) (or_right (ltb (suc i) 1) _ h)

held : (o : ℕ) (b : Bool) → not (eqb o 0 && b) ≡ false → (o ≡ 0) × (b ≡ true)
held o b h = let e = not-false _ h in (eqb-true o 0 (and_left (eqb o 0) b e), and_right (eqb o 0) b e)

abbrev fields : ℕ → ℕ → ℕ → ℕ → ℕ → Record
fields o k i a d = record { kind = k; engine = record { 0 = i }; origin = record { 0 = o }; address = record { 0 = a }; «data» = d }

form : (z : Sizes) (o k i a d : ℕ) → NoneApplies (form_refused z (fields o k i a d)) → Asks z (fields o k i a d) (action_of (fields o k i a d))
unfolding form_refused
form z o k zero a d h = absurd (true≢false h.1.0)
form z o zero (suc i) a d h = absurd (true≢false h.0)
form z o (suc zero) (suc i) a d h =
    let f = held o (eqb d 0) h.1.1.1.0 in
    rw (f.0, eqb-true d 0 f.1) (asks_r (engine-in _ i h.1.0) (leb-false _ a h.1.1.0))
form z o (suc (suc zero)) (suc i) a d h =
    rw (held o true h.1.1.1.0).0 (asks_w (engine-in _ i h.1.0) (leb-false _ a h.1.1.0))
form z o (suc (suc (suc zero))) (suc i) a d h =
    let f = held o (eqb a 0 && eqb d 0) h.1.1.1.0 in
    rw (f.0, eqb-true a 0 (and_left (eqb a 0) _ f.1), eqb-true d 0 (and_right (eqb a 0) _ f.1)) (asks_mw (engine-in _ i h.1.0))
form z o (suc (suc (suc (suc zero)))) (suc i) a d h =
    let f = held o (eqb d 0) h.1.1.1.0 in
    rw (f.0, eqb-true d 0 f.1) (asks_mr (engine-in _ i h.1.0) (leb-false _ a h.1.1.0))
form z o (suc (suc (suc (suc (suc zero))))) (suc i) a d h =
    let f = held o (eqb a 0 && eqb d 0) h.1.1.1.0 in
    rw (f.0, eqb-true a 0 (and_left (eqb a 0) _ f.1), eqb-true d 0 (and_right (eqb a 0) _ f.1)) (asks_cu (engine-in _ i h.1.0))
form z o (suc (suc (suc (suc (suc (suc zero)))))) (suc i) a d h =
    let f = held o (eqb d 0) h.1.1.1.0 in
    rw (f.0, eqb-true d 0 f.1) (asks_ci (engine-in _ i h.1.0) (leb-false _ a h.1.1.0))
form z o (suc (suc (suc (suc (suc (suc (suc k))))))) (suc i) a d h =
    let e : suc (suc (suc (suc (suc (suc (suc k)))))) ≤ 6 = ltb-false 6 _ (or_right (ltb (suc (suc (suc (suc (suc (suc (suc k))))))) 1) _ h.0) in
    absurd (omega arith)

pub form-numbered : (z : Sizes) (x : Record) → numbered (form_refused z x) ≡ true
unfolding form_refused
form-numbered z x = refl

asks : (z : Sizes) (x : Record) → NoneApplies (form_refused z x) → Asks z x (action_of x)
asks z x = form z x.origin.0 x.kind x.engine.0 x.address.0 x.«data»

pub asked : (z : Sizes) (x : Record) → first_of (form_refused z x) ≡ 0 → Asks z x (action_of x)
asked z x h = asks z x (none_first (form_refused z x) (form-numbered z x) h)

-- ---- what the rule asks for, of a step that is taken

pub data Goes (s : Store) : Record → Step → Type 0 where
  goes_r : {k a : ℕ} → k < s.sizes.engines → a < s.sizes.addresses → (out_at s (suc k)).len ≡ 0 → own_waits (record { 0 = suc k }) (in_at s (suc k)) ≡ false
      → in_cache (cache_at s (suc k)) (record { 0 = a }) ≡ true → Goes s (action 1 (suc k) a 0) (R (suc k) a)
  goes_w : {k a d : ℕ} → k < s.sizes.engines → a < s.sizes.addresses → (out_at s (suc k)).len < s.sizes.depth → Goes s (action 2 (suc k) a d) (W (suc k) a d)
  goes_mw : {k : ℕ} → k < s.sizes.engines → 0 < (out_at s (suc k)).len → some_full s ≡ false
      → Goes s (action 3 (suc k) 0 0) (MW (suc k))
  goes_mr : {k a : ℕ} → k < s.sizes.engines → a < s.sizes.addresses → (in_at s (suc k)).len < s.sizes.depth → Goes s (action 4 (suc k) a 0) (MR (suc k) a)
  goes_cu : {k : ℕ} → k < s.sizes.engines → 0 < (in_at s (suc k)).len → Goes s (action 5 (suc k) 0 0) (CU (suc k))
  goes_ci : {k a : ℕ} → k < s.sizes.engines → a < s.sizes.addresses → Goes s (action 6 (suc k) a 0) (CI (suc k) a)

some : (n : ℕ) → eqb n 0 ≡ false → 0 < n
some n h = let e = eqb-false n 0 h in omega arith

pub goes : (s : Store) {x : Record} {t : Step} → Asks s.sizes x t → NoneApplies (turn_refused s t) → Goes s x t
unfolding turn_refused
goes s (asks_r k a) h = goes_r k a (eqb-true _ 0 (not-false _ h.0)) h.1.0 (not-false _ h.1.1.0)
goes s (asks_w k a) h = goes_w k a (leb-false _ _ h.0)
goes s (asks_mw k) h = goes_mw k (some _ h.0) h.1.0
goes s (asks_mr k a) h = goes_mr k a (leb-false _ _ h.0)
goes s (asks_cu k) h = goes_cu k (some _ h.0)
goes s (asks_ci k a) h = goes_ci k a

-- ---- the answer: a step that is taken, or a refusal

pub data Answers (s : Store) (x : Record) : Stepped → Type 0 where
  takes : sound_of s ≡ true → Goes s x (action_of x) → Answers s x (record { number = 0; store = effect s (action_of x); event = event_of s x (action_of x) })
  keeps : (n : ℕ) → Answers s x (record { number = suc n; store = s; event = no_record })

pub turn-numbered : (s : Store) (t : Step) → numbered (turn_refused s t) ≡ true
unfolding turn_refused
turn-numbered s (R i a) = refl
turn-numbered s (W i a d) = refl
turn-numbered s (MW i) = refl
turn-numbered s (MR i a) = refl
turn-numbered s (CU i) = refl
turn-numbered s (CI i a) = refl

pub step-numbered : (s : Store) (x : Record) → numbered (step_refused s x) ≡ true
unfolding form_refused step_refused
step-numbered s x = turn-numbered s (action_of x)

answers_at : (s : Store) (x : Record) (n : ℕ) → first_of (step_refused s x) ≡ n → Answers s x (answered n s x)
unfolding step_refused
answers_at s x zero e =
    let h : NoneApplies (step_refused s x) = none_first (step_refused s x) (step-numbered s x) e in
    let k = none-split (form_refused s.sizes x) (turn_refused s (action_of x)) h.1 in
    takes (not-false _ h.0) (goes s (asks s.sizes x k.0) k.1)
answers_at s x (suc n) e = keeps n

pub answers : (s : Store) (x : Record) → Answers s x (stepped s x)
unfolding stepped
answers s x = answers_at s x (first_of (step_refused s x)) refl
