-- Whatever the contract of the call from C allows, that of `store::step_in_place` allows, of the answer that C is told: so each promise about the one holds of the other. It asks nothing of
-- its caller, and answers. Assumes nothing.
use Rattle.std.proofs.Common.{◌≡◌, ℕ, zero, suc, List, [], ◌∷◌, ◌++◌, Bool, true, false, Result, Ok, Err, refl, sym, ap, ◌∙◌}
use contract.Lifetimes.{Lfts}
use Rattle.figure.specs.Figure.{Step, R, W, MW, MR, CU, CI}
use Rattle.figure.specs.Record.{no_record}
use Rattle.figure.specs.Refusals.{Refusal, pick, first_of}
use Rattle.figure.specs.Refused.{number_of}
use Rattle.figure.specs.declared.Record.{Record}
use Rattle.figure.specs.declared.Sizes.{Sizes}
use Rattle.figure.specs.declared.refused.Refused.{Refused}
use Rattle.figure.specs.declared.refused.Refused.TheVariants as E
use Rattle.shape.specs.Step.{form_refused, turn_refused, step_refused, action_of, answered, stepped, answer_of, answer_by}
use Rattle.shape.specs.declared.Answer.{Answer}
use Rattle.shape.specs.declared.Store.{Store}
use Rattle.store.proofs.step_in_place as plain
use Rattle.store_c.proofs.step_in_place as exported

-- ---- each refusal of a step is one that the step in place can answer with

abbrev Known : List Refusal → Type 0
Known [] = Unit {0}
Known (r ∷ rs) = ((e : Refused) × (number_of e ≡ r.number)) × Known rs

known-append : (rs qs : List Refusal) → Known rs → Known qs → Known (rs ++ qs)
known-append [] qs h k = k
known-append (r ∷ rs) qs h k = (h.0, known-append rs qs h.1 k)

first-known : (rs : List Refusal) → Known rs → ¬ (first_of rs ≡ 0) → (e : Refused) × (number_of e ≡ first_of rs)
first-known [] k h = absurd (h refl)
first-known (r ∷ rs) k h = at r.applies h (first-known rs k.1)
  where
    at : (t : Bool) → ¬ (pick t r.number (first_of rs) ≡ 0) → (¬ (first_of rs ≡ 0) → (e : Refused) × (number_of e ≡ first_of rs)) → (e : Refused) × (number_of e ≡ pick t r.number (first_of rs))
    at true h f = k.0
    at false h f = f h

form-known : (z : Sizes) (x : Record) → Known (form_refused z x)
unfolding form_refused
form-known z x = ((E.Kind, refl), ((E.Engine, refl), ((E.Address, refl), ((E.UnusedField, refl), tt))))

turn-known : (s : Store) (t : Step) → Known (turn_refused s t)
unfolding turn_refused
turn-known s (R i a) = ((E.OutWaiting, refl), ((E.OwnWaiting, refl), ((E.NotCached, refl), tt)))
turn-known s (W i a d) = ((E.OutFull, refl), tt)
turn-known s (MW i) = ((E.OutEmpty, refl), ((E.SomeInFull, refl), tt))
turn-known s (MR i a) = ((E.InFull, refl), tt)
turn-known s (CU i) = ((E.InEmpty, refl), tt)
turn-known s (CI i a) = tt

step-known : (s : Store) (x : Record) → Known (step_refused s x)
unfolding step_refused
step-known s x = ((E.Unsound, refl), known-append (form_refused s.sizes x) _ (form-known s.sizes x) (turn-known s (action_of x)))

-- the answer that C is told, as the step in place gives it
told : (s : Store) (x : Record) → (q : Result Record Refused) × (answer_by q ≡ answer_of (stepped s x))
unfolding stepped
told s x = at (first_of (step_refused s x)) (first-known (step_refused s x) (step-known s x))
  where
    at : (n : ℕ) → (¬ (n ≡ 0) → (e : Refused) × (number_of e ≡ n)) → (q : Result Record Refused) × (answer_by q ≡ answer_of (answered n s x))
    at zero f = (Ok (answered 0 s x).event, refl)
    at (suc n) f = let k = f (λ e. absurd (none e)) in (Err k.0, ap (λ (m : ℕ). record { number = m; event = no_record }) k.1)
      where
        none : suc n ≡ 0 → ⊥
        none e = cc

pub same : (κs : Lfts 1) (a : _) (r : Answer) (e : _) → exported.Reads.Post κs a r e → (q : Result Record Refused) × ((answer_by q ≡ r) × plain.Reads.Post κs a q e)
same κs a r e h = let k = told a.0.now a.1.0 in (k.0, (k.1 ∙ sym h.1, (h.0, k.1)))

pub asks_nothing : (κs : Lfts 1) (a : _) → exported.Reads.Asked κs a
asks_nothing κs a = tt

pub meets : {M : Type 1} → exported.Statement.statement M
meets = exported.Met.met
