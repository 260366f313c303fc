-- An answer of the reader or the writer is known by what it says. Assumes nothing.
use mathlib.Core.Path.{◌≡◌, refl}
use Prim.Native.Nat.{ℕ}
use Rattle.std.specs.Prelude.{Result}
use Rattle.figure.specs.declared.refused.Refused.{Refused}
use Rattle.figure.proofs.Numbers.{one-result}
use Rattle.lists.specs.declared.reader.Layout.{Layout}
use Rattle.lists.specs.Read.{Reading, reading}
use Rattle.lists.specs.Write.{Written, written}

abbrev layout_in : Reading → Layout
layout_in x = record { sizes = x.sizes; memory_at = x.memory_at; actions_at = x.actions_at; actions = x.actions }

pub same-reading : (r q : Result Layout Refused) → reading r ≡ reading q → r ≡ q
same-reading = one-result reading (λ (x : Reading). x.number) layout_in (λ l. refl) (λ e. refl) (λ l. refl)

pub same-written : (r q : Result ℕ Refused) → written r ≡ written q → r ≡ q
same-written = one-result written (λ (x : Written). x.number) (λ (x : Written). x.length) (λ n. refl) (λ e. refl) (λ n. refl)
