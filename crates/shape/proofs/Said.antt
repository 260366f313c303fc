-- What a call answers is known by what it says. Assumes nothing.
use mathlib.Core.Path.{◌≡◌, refl, ap, ap₂}
use Rattle.std.specs.Prelude.{Result}
use Rattle.figure.specs.declared.Record.{Record}
use Rattle.figure.specs.declared.refused.Refused.{Refused}
use Rattle.figure.proofs.Numbers.{one-result}
use Rattle.shape.specs.Fresh.{Made, made_by}
use Rattle.shape.specs.Step.{Stepped, answer_of, answer_by, stepped_by}
use Rattle.shape.specs.declared.Answer.{Answer}
use Rattle.shape.specs.declared.Store.{Store}

pub same-made : (r q : Result Store Refused) → made_by r ≡ made_by q → r ≡ q
same-made = one-result made_by (λ (x : Made). x.number) (λ (x : Made). x.store) (λ s. refl) (λ e. refl) (λ s. refl)

pub same-said : (r q : Result Record Refused) → answer_by r ≡ answer_by q → r ≡ q
same-said = one-result answer_by (λ (a : Answer). a.number) (λ (a : Answer). a.event) (λ x. refl) (λ e. refl) (λ x. refl)

pub same-stepped : (r q : Store × Result Record Refused) → stepped_by r ≡ stepped_by q → r ≡ q
same-stepped (s, a) (t, b) e = ap₂ (λ (x : Store) (y : Result Record Refused). (x, y)) (ap (λ (x : Stepped). x.store) e) (same-said a b (ap answer_of e))
