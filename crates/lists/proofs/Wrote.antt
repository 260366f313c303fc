-- What the writer's number says of its arguments, and the two cases of its contract. Assumes nothing.
use mathlib.Core.Path.{◌≡◌, refl, sym, ap, ◌∙◌}
use mathlib.Core.Bool.{true}
use mathlib.Core.List.{List, []}
use Prim.Native.Nat.{ℕ, zero, suc, ◌+◌, ◌*◌, ◌/◌, ◌%◌, ◌≤◌}
use native.Mathlib.Omega.{arith}
use lib.ListN.{length}
use borrow.Author.Tests.{ltb-false, le-ltb, eqb-true, not-false}
use Rattle.figure.specs.declared.Sizes.{Sizes}
use Rattle.figure.specs.Refusals.{first_of, NoneApplies, numbered, unless, sizes_refused, most_addresses, most_actions}
use Rattle.figure.proofs.First.{first-none, none_first, sizes-numbered, none-append, none-split, same_not}
use Rattle.lists.specs.Bytes.{laid}
use Rattle.lists.specs.Record.{record_width}
use Rattle.lists.specs.Read.{header_width, list_bytes}
use Rattle.lists.specs.Write.{Written, write_refused, bytes_written, Wrote, Unwritten}
use Rattle.lists.proofs.Refused.{parts_refused}
use Rattle.lists.proofs.Sized.{InRange, in-range}
use Rattle.lists.proofs.Put.{laid_none}
use Rattle.lists.proofs.Wire.{length-list}

-- the arguments of a writing that is not refused
pub record Writable (z : Sizes) (memory actions : List ℕ) (room : ℕ) : Type 0 where
  pub sizes_pass : first_of (sizes_refused z) ≡ 0
  pub sizes_in : InRange z
  pub memory_many : length memory ≡ z.addresses
  pub even : length actions % record_width ≡ 0
  pub few : length actions / record_width ≤ most_actions
  pub fits : length (list_bytes z memory actions) ≤ room

module _ (z : Sizes) (memory actions : List ℕ) (room : ℕ) where
  pub write-numbered : numbered (write_refused z memory actions room) ≡ true
  unfolding write_refused sizes_refused
  write-numbered = refl

  pub writable : first_of (write_refused z memory actions room) ≡ 0 → Writable z memory actions room
  unfolding write_refused
  writable h =
      let k = none-split (sizes_refused z) (parts_refused z memory actions room) (none_first (write_refused z memory actions room) write-numbered h) in
      let n = k.1 in
      let pass : first_of (sizes_refused z) ≡ 0 = first-none (sizes_refused z) k.0 in
      record {
        sizes_pass = pass;
        sizes_in = in-range z pass;
        memory_many = eqb-true (length memory) z.addresses (not-false _ n.0);
        even = eqb-true (length actions % record_width) 0 (not-false _ n.1.0);
        few = ltb-false most_actions (length actions / record_width) n.1.1.0;
        fits = ltb-false room (length (list_bytes z memory actions)) n.1.1.1.0;
      }

  -- the writer refuses exactly if a rule of its list applies
  pub write-none : first_of (write_refused z memory actions room) ≡ 0 → NoneApplies (write_refused z memory actions room)
  write-none = none_first (write_refused z memory actions room) write-numbered

  pub none-write : NoneApplies (write_refused z memory actions room) → first_of (write_refused z memory actions room) ≡ 0
  none-write = first-none (write_refused z memory actions room)

  pub write-accepts : first_of (sizes_refused z) ≡ 0 → length memory ≡ z.addresses → length actions % record_width ≡ 0 → length actions / record_width ≤ most_actions → length (list_bytes z memory actions) ≤ room → first_of (write_refused z memory actions room) ≡ 0
  unfolding write_refused
  write-accepts pass many even few fits =
      none-write
      (none-append (sizes_refused z) (parts_refused z memory actions room) (none_first (sizes_refused z) (sizes-numbered z) pass)
      (same_not (length memory) z.addresses many, (same_not (length actions % record_width) 0 even, (le-ltb most_actions (length actions / record_width) few, (le-ltb room (length (list_bytes z memory actions)) fits, tt)))))

-- "The writer .. doesn't judge actions": only how many bytes they have decides
pub not_judged : (z : Sizes) (memory actions actions' : List ℕ) (room : ℕ) → length actions ≡ length actions' → first_of (write_refused z memory actions room) ≡ first_of (write_refused z memory actions' room)
unfolding write_refused
not_judged z memory actions actions' room e =
    let n : length (list_bytes z memory actions) ≡ length (list_bytes z memory actions') = length-list z memory actions ∙ (ap (λ (k : ℕ). header_width + 4 * length memory + k) e ∙ sym (length-list z memory actions')) in
    rw (n, e)

-- how long a list that can be written is, and that it fits
pub record ListFits (memory actions : List ℕ) (room : ℕ) : Type 0 where
  pub total_fits : header_width + 4 * length memory + length actions ≤ room
  pub small : header_width + 4 * length memory + length actions ≤ header_width + 4 * most_addresses + record_width * most_actions

pub list-fits : (z : Sizes) (memory actions : List ℕ) (room : ℕ) → first_of (write_refused z memory actions room) ≡ 0 → ListFits memory actions room
list-fits z memory actions room h =
    let w = writable z memory actions room h in
    record {
      total_fits = omega (arith, length-list z memory actions, w.fits);
      small = omega (arith, w.memory_many, w.even, w.few, w.sizes_in.addresses_in.high);
    }

module _ (z : Sizes) (memory actions out : List ℕ) where
  pub wrote_none : (n : ℕ) → n ≡ first_of (write_refused z memory actions (length out)) → ¬ (n ≡ 0) → Wrote z memory actions out (record { number = n; length = 0 }) out
  unfolding bytes_written unless
  wrote_none zero e h = absurd (h refl)
  wrote_none (suc n) e h =
      let none : bytes_written z memory actions (length out) ≡ [] = rw (← e) in
      record { number_is = e; length_is = rw (none); out_is = rw (none, laid_none out) }

  pub wrote-all : (n : ℕ) (out' : List ℕ) → first_of (write_refused z memory actions (length out)) ≡ 0 → n ≡ header_width + 4 * length memory + length actions → out' ≡ laid (list_bytes z memory actions) out → Wrote z memory actions out (record { number = 0; length = n }) out'
  unfolding bytes_written unless
  wrote-all n out' e en eo =
      let all : bytes_written z memory actions (length out) ≡ list_bytes z memory actions = rw (e) in
      record { number_is = sym e; length_is = rw (all) (en ∙ sym (length-list z memory actions)); out_is = rw (all) eo }

-- and a refusal leaves the output as it came
pub refused-write : {z : Sizes} {memory actions out : List ℕ} {r : Written} {out' : List ℕ} → Wrote z memory actions out r out' → ¬ (r.number ≡ 0) → Unwritten out r out'
unfolding bytes_written unless
refused-write {z} {memory} {actions} {out} {r} {out'} h n = at (first_of (write_refused z memory actions (length out))) h.number_is h.length_is h.out_is
  where
    at : (k : ℕ) → r.number ≡ k → r.length ≡ length (unless k (list_bytes z memory actions) []) → out' ≡ laid (unless k (list_bytes z memory actions) []) out → Unwritten out r out'
    at zero e l o = absurd (n e)
    at (suc k) e l o = record { length_is = l; out_stays = o ∙ laid_none out }
