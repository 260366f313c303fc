-- What a run answers is known by what it says. Assumes nothing.
use mathlib.Core.Path.{◌≡◌, refl}
use Rattle.std.specs.Prelude.{Result}
use Rattle.figure.specs.declared.refused.Refused.{Refused}
use Rattle.figure.proofs.Numbers.{one-result}
use Rattle.demands.specs.declared.Counts.{Counts}
use Rattle.demands.specs.Run.{Answered, answered_by}

abbrev counts_in : Answered → Counts
counts_in x = record { accepted = x.accepted; refused = x.refused; events = x.events; settled = x.settled }

pub same-answered : (r q : Result Counts Refused) → answered_by r ≡ answered_by q → r ≡ q
same-answered = one-result answered_by (λ (x : Answered). x.number) counts_in (λ c. refl) (λ e. refl) (λ c. refl)
