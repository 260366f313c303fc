-- What the reader's number says of a list, and what a caller may use of one that it takes. Assumes nothing.
use mathlib.Core.Path.{◌≡◌, refl, sym, ap, ◌∙◌}
use mathlib.Core.Bool.{true, false}
use mathlib.Core.List.{List}
use Prim.Native.Nat.{ℕ, zero, suc, ◌+◌, ◌-◌, ◌*◌, ◌/◌, ◌%◌, ◌≤◌}
use native.Mathlib.Omega.{arith}
use lib.ListN.{length}
use lib.Dec.{ltb}
use borrow.Author.Tests.{ltb-false, eqb-true, not-false}
use Rattle.std.proofs.lemmas.Bool.{or_parts}
use Rattle.figure.specs.declared.Sizes.{Sizes}
use Rattle.figure.specs.Refusals.{first_of, NoneApplies, numbered, outside, sizes_refused, most_engines, most_addresses, most_depth, most_actions}
use Rattle.figure.proofs.First.{first-none, none_first, sizes-numbered, none-split}
use Rattle.lists.specs.Bytes.{u32_at}
use Rattle.lists.specs.Record.{record_width}
use Rattle.lists.specs.Read.{Reading, version, header_width, version_at, sizes_at, after_header, after_memory, read_refused, refused_as, taken_as, layout_of, read_of}

-- ---- the reader refuses exactly if a rule of its list applies
pub read-numbered : (s : List ℕ) → numbered (read_refused s) ≡ true
unfolding read_refused sizes_refused
read-numbered s = refl

number_is : (n : ℕ) (s : List ℕ) → (layout_of n s).number ≡ n
unfolding layout_of
number_is zero s = refl
number_is (suc n) s = refl

-- "The first that applies, in the table's order, is the answer; 0 if none does."
pub read_number : (s : List ℕ) → (read_of s).number ≡ first_of (read_refused s)
unfolding read_of
read_number s = number_is (first_of (read_refused s)) s

-- "all 0 on a refusal"
pub read-refused : (s : List ℕ) (r : Reading) → r ≡ read_of s → ¬ (r.number ≡ 0) → r ≡ refused_as r.number
unfolding read_of layout_of
read-refused s r h n = at (first_of (read_refused s)) h
  where
    at : (k : ℕ) → r ≡ layout_of k s → r ≡ refused_as r.number
    at zero e = absurd (n (ap (λ (l : Reading). l.number) e))
    at (suc k) e = e ∙ ap refused_as (sym (ap (λ (l : Reading). l.number) e))

pub taken_none : (s : List ℕ) → (read_of s).number ≡ 0 → NoneApplies (read_refused s)
taken_none s h = none_first (read_refused s) (read-numbered s) (sym (read_number s) ∙ h)

pub none-taken : (s : List ℕ) → NoneApplies (read_refused s) → (read_of s).number ≡ 0
none-taken s h = read_number s ∙ first-none (read_refused s) h

-- ---- what a list that is taken holds
pub record Within (lo hi x : ℕ) : Type 0 where
  pub low : lo ≤ x
  pub high : x ≤ hi

pub record InRange (z : Sizes) : Type 0 where
  pub engines_in : Within 1 most_engines z.engines
  pub addresses_in : Within 1 most_addresses z.addresses
  pub depth_in : Within 1 most_depth z.depth

within : (lo hi x : ℕ) → outside lo hi x ≡ false → Within lo hi x
within lo hi x e =
    let w = or_parts (ltb x lo) (ltb hi x) e in
    record { low = ltb-false x lo w.0; high = ltb-false hi x w.1 }

pub in-range : (z : Sizes) → first_of (sizes_refused z) ≡ 0 → InRange z
unfolding sizes_refused
in-range z h =
    let n : NoneApplies (sizes_refused z) = none_first (sizes_refused z) (sizes-numbered z) h in
    record { engines_in = within 1 most_engines z.engines n.0; addresses_in = within 1 most_addresses z.addresses n.1.0; depth_in = within 1 most_depth z.depth n.1.1.0 }

pub record Good (s : List ℕ) : Type 0 where
  pub long : header_width ≤ length s
  pub said : u32_at s 0 ≡ length s - 4
  pub version_is : version_at s ≡ version
  pub sizes_pass : first_of (sizes_refused (sizes_at s)) ≡ 0
  pub room : 4 * (sizes_at s).addresses ≤ after_header s
  pub even : after_memory s % record_width ≡ 0
  pub few : after_memory s / record_width ≤ most_actions
  pub layout_is : read_of s ≡ taken_as s

pub good : (s : List ℕ) → (read_of s).number ≡ 0 → Good s
unfolding read_of read_refused layout_of
good s z =
    let n = taken_none s z in
    let n3 = n.1.1 in
    let k = none-split (sizes_refused (sizes_at s)) _ n3.1 in
    let l = k.1 in
    record {
      long = ltb-false (length s) header_width n.0;
      said = eqb-true (u32_at s 0) (length s - 4) (not-false _ n.1.0);
      version_is = eqb-true (version_at s) version (not-false _ n3.0);
      sizes_pass = first-none (sizes_refused (sizes_at s)) k.0;
      room = ltb-false (after_header s) (4 * (sizes_at s).addresses) l.0;
      even = eqb-true (after_memory s % record_width) 0 (not-false _ l.1.0);
      few = ltb-false most_actions (after_memory s / record_width) l.1.1.0;
      layout_is = ap (λ (m : ℕ). layout_of m s) (sym (read_number s) ∙ z);
    }

-- the same of what `read` returned: every place that a caller needs
pub record Sized (s : List ℕ) (r : Reading) : Type 0 where
  pub sizes_pass : first_of (sizes_refused r.sizes) ≡ 0
  pub sizes_in : InRange r.sizes
  pub memory_stands : r.memory_at ≡ header_width
  pub actions_at : r.actions_at ≡ header_width + 4 * r.sizes.addresses
  pub few : r.actions ≤ most_actions
  pub whole : r.actions_at + record_width * r.actions ≡ length s

pub sized : (s : List ℕ) (r : Reading) → r ≡ read_of s → r.number ≡ 0 → Sized s r
sized s r e z =
    let g = good s (sym (ap (λ (l : Reading). l.number) e) ∙ z) in
    rw (e ∙ g.layout_is)
    record { sizes_pass = g.sizes_pass; sizes_in = in-range (sizes_at s) g.sizes_pass; memory_stands = refl; actions_at = refl; few = g.few; whole = omega (arith, g) }

-- what holds of every reading, refused or not
pub record Held (s : List ℕ) (r : Reading) : Type 0 where
  pub addresses_most : r.sizes.addresses ≤ most_addresses
  pub few : r.actions ≤ most_actions
  pub memory_in : r.memory_at + 4 * r.sizes.addresses ≤ r.actions_at
  pub actions_within : r.actions_at + record_width * r.actions ≤ length s

pub held : (s : List ℕ) (r : Reading) → r ≡ read_of s → Held s r
unfolding read_of layout_of
held s r e = at (first_of (read_refused s)) refl
  where
    at : (n : ℕ) → first_of (read_refused s) ≡ n → Held s r
    at zero z =
        let d = sized s r e (ap (λ (l : Reading). l.number) e ∙ (read_number s ∙ z)) in
        record { addresses_most = d.sizes_in.addresses_in.high; few = d.few; memory_in = omega arith; actions_within = omega arith }
    at (suc n) z =
        rw (e ∙ ap (λ (k : ℕ). layout_of k s) z)
        record { addresses_most = omega arith; few = omega arith; memory_in = omega arith; actions_within = omega arith }
