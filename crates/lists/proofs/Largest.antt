-- "The largest list is 16,648 bytes." Assumes nothing.
use mathlib.Core.Path.{◌≡◌, refl, sym, ◌∙◌}
use mathlib.Core.List.{List}
use Prim.Native.Nat.{ℕ, ◌+◌, ◌*◌, ◌≤◌}
use native.Mathlib.Omega.{arith}
use lib.ListN.{length}
use Rattle.figure.specs.declared.Sizes.{Sizes}
use Rattle.figure.specs.Refusals.{first_of, sizes_refused, most_addresses, most_actions}
use Rattle.lists.specs.Record.{record_width}
use Rattle.lists.specs.Read.{header_width, read_of, list_bytes}
use Rattle.lists.specs.Write.{write_refused}
use Rattle.lists.proofs.Sized.{good, in-range}
use Rattle.lists.proofs.Wire.{length-list}
use Rattle.lists.proofs.Wrote.{list-fits, write-accepts}
use Rattle.lists.proofs.RoundTrip.{list-holds}

-- the header, the most memory values and the most actions
abbrev pub largest : ℕ
largest = header_width + 4 * most_addresses + record_width * most_actions

pub largest-is : largest ≡ 16648
largest-is = refl

-- no list that is taken, and none that is written, is larger
pub taken-most : (s : List ℕ) → (read_of s).number ≡ 0 → length s ≤ largest
taken-most s h =
    let g = good s h in
    omega (arith, g, (in-range _ g.sizes_pass).addresses_in.high)

pub written-most : (z : Sizes) (memory actions : List ℕ) (room : ℕ) → first_of (write_refused z memory actions room) ≡ 0 → length (list_bytes z memory actions) ≤ largest
written-most z memory actions room h = omega (arith, length-list z memory actions, (list-fits z memory actions room h).small)

-- and one with the most of each is as large, and is taken
pub as-large : (z : Sizes) (memory actions : List ℕ) → length memory ≡ most_addresses → length actions ≡ record_width * most_actions → length (list_bytes z memory actions) ≡ largest
as-large z memory actions m a = length-list z memory actions ∙ rw (m, a)

pub as-large-taken : (z : Sizes) (memory actions : List ℕ) → first_of (sizes_refused z) ≡ 0 → z.addresses ≡ most_addresses → length memory ≡ most_addresses → length actions ≡ record_width * most_actions → (read_of (list_bytes z memory actions)).number ≡ 0
as-large-taken z memory actions pass n m a =
    let e = as-large z memory actions m a in
    (list-holds z memory actions largest (write-accepts z memory actions largest pass (m ∙ sym n) (rw (a)) (rw (a) (omega arith)) (omega (arith, e)))).taken
