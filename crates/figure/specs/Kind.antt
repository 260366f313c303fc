-- The six kinds by number, as the table of steps has them: 1 R, a read; 2 W, a write; 3 MW, which publishes; 4 MR, a refresh; 5 CU, an update; 6 CI, which forgets. Assumes nothing.
use Rattle.std.specs.Prelude.{ℕ, ◌≡◌, true, Result, MatchResult}
use Rattle.figure.specs.Refusals.{outside}
use Rattle.figure.specs.declared.kind.Kind.{Kind}
use Rattle.figure.specs.declared.kind.Kind.TheVariants.{Read, Write, Publish, Refresh, Update, Forget}
use Rattle.figure.specs.declared.refused.Refused.{Refused}
use Rattle.figure.specs.declared.refused.Refused.TheVariants as R

abbrev pub code_of : Kind → ℕ
code_of Read = 1
code_of Write = 2
code_of Publish = 3
code_of Refresh = 4
code_of Update = 5
code_of Forget = 6

-- the kind that has this number; "11 kind not 1 to 6"
abbrev pub KindOf : ℕ → Result Kind Refused → Type 0
KindOf code r = MatchResult r (λ kind. code_of kind ≡ code) (λ e. (e ≡ R.Kind) × (outside 1 6 code ≡ true))
