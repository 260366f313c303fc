-- Each refusal and each kind has a number of its own; no refusal has 0. Assumes nothing.
use mathlib.Core.Path.{◌≡◌, refl, sym, ap, ◌∙◌}
use Prim.Native.Nat.{ℕ}
use Rattle.std.specs.Prelude.{Result, Ok, Err, false, [], ◌∷◌, get_or}
use Rattle.std.proofs.Math.Nat.{suc-ne-zero}
use Rattle.std.proofs.lemmas.Bool.{true≢false}
use Rattle.figure.specs.Kind.{code_of, KindOf}
use Rattle.figure.specs.Refusals.{outside}
use Rattle.figure.specs.Refused.{number_of}
use Rattle.figure.specs.declared.kind.Kind.{Kind}
use Rattle.figure.specs.declared.kind.Kind.TheVariants.{Read, Write, Publish, Refresh, Update, Forget}
use Rattle.figure.specs.declared.refused.Refused.{Refused}
use Rattle.figure.specs.declared.refused.Refused.TheVariants as R

-- the refusal with this number; where none has it, the last
abbrev refused_by : ℕ → Refused
refused_by n =
    let none = R.OutputShort in
    get_or
    (none ∷ R.TooShort ∷ R.LengthField ∷ R.Version ∷ R.Engines ∷ R.Addresses ∷ R.Depth ∷ R.MemoryCut ∷ R.ActionCut ∷ R.TooManyActions ∷ R.TableLength
    ∷ R.Kind ∷ R.Engine ∷ R.Address ∷ R.UnusedField ∷ none ∷ none ∷ R.Unsound ∷ none ∷ none ∷ none
    ∷ R.OutWaiting ∷ R.OwnWaiting ∷ R.NotCached ∷ R.OutFull ∷ R.OutEmpty ∷ R.SomeInFull ∷ R.InFull ∷ R.InEmpty ∷ R.TraceShort ∷ R.OutputShort
    ∷ [])
    n none

-- here and below the second line covers every other case, one by one
numbered-by : (e : Refused) → refused_by (number_of e) ≡ e
numbered-by R.TooShort = refl
numbered-by e = refl

-- two refusals with the same number are the same
pub same-number : (e f : Refused) → number_of e ≡ number_of f → e ≡ f
same-number e f h = sym (numbered-by e) ∙ ap refused_by h ∙ numbered-by f

pub not-none : (e : Refused) → ¬ (number_of e ≡ 0)
not-none R.TooShort h = suc-ne-zero _ h
not-none e h = suc-ne-zero _ h

-- f makes number and value of a result, as the rules give them: it tells which result it was
module _ {A B : Type 0} (f : Result A Refused → B) (number : B → ℕ) (value : B → A) (ok : (a : A) → number (f (Ok a)) ≡ 0) (err : (e : Refused) → number (f (Err e)) ≡ number_of e) (same : (a : A) → value (f (Ok a)) ≡ a) where
  pub one-result : (r q : Result A Refused) → f r ≡ f q → r ≡ q
  one-result (Ok a) (Ok b) h = cc (same a, same b)
  one-result (Err e) (Err g) h = ap Err (same-number e g (cc (err e, err g)))
  one-result (Ok a) (Err e) h = absurd (not-none e (cc (ok a, err e)))
  one-result (Err e) (Ok a) h = absurd (not-none e (cc (ok a, err e)))

-- ---- kinds

-- the kind with this number; where none has it, the last
abbrev kind_by : ℕ → Kind
kind_by n = get_or (Forget ∷ Read ∷ Write ∷ Publish ∷ Refresh ∷ Update ∷ Forget ∷ []) n Forget

kind-by : (k : Kind) → kind_by (code_of k) ≡ k
kind-by Read = refl
kind-by k = refl

-- the number of a kind is 1 to 6
within : (k : Kind) → outside 1 6 (code_of k) ≡ false
within Read = refl
within k = refl

-- a number has one kind, or none
pub one-kind : (n : ℕ) (r q : Result Kind Refused) → KindOf n r → KindOf n q → r ≡ q
one-kind n (Ok k) (Ok l) h i = ap Ok (sym (kind-by k) ∙ ap kind_by (h ∙ sym i) ∙ kind-by l)
one-kind n (Err e) (Err f) h i = cc
one-kind n (Ok k) (Err f) h i = absurd (true≢false (sym i.1 ∙ ap (outside 1 6) (sym h) ∙ within k))
one-kind n (Err e) (Ok l) h i = absurd (true≢false (sym h.1 ∙ ap (outside 1 6) (sym i) ∙ within l))
