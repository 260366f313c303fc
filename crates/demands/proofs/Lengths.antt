-- Lengths: of a log, of a rearrangement, of the two counts of a trace, of the account in bytes; and what begins those bytes. Assumes nothing.
use Prim.Native.Nat.{ℕ, suc, ◌+◌, ◌*◌, ◌≤◌}
use native.Mathlib.Nat.{ℕ_set}
use native.Mathlib.Omega.{arith}
use mathlib.Core.Path.{◌≡◌, refl, ap, ◌∙◌}
use mathlib.Core.Logic.{∥∥₁_elim}
use mathlib.Core.Bool.{Bool, true, false}
use mathlib.Core.List.{List, [], ◌∷◌, ◌++◌, append-nil, Permᴰ, Perm}
use lib.ListN.{length, take, length-append}
use Rattle.figure.specs.declared.Record.{Record}
use Rattle.figure.specs.Refusals.{pick}
use Rattle.figure.specs.Account.{Event, refused, read, wrote, published, refreshed, updated, dropped, logged, log, Item, Book, flat, unpublished, account, settled_slots, settled}
use Rattle.figure.specs.Demand.{Begins, Opens, none, last, more}
use Rattle.figure.specs.declared.Sizes.{Sizes}
use Rattle.figure.proofs.Begins.{begins-more-of, begins-under, begins-on, begins-take}
use Rattle.figure.proofs.Settled.{slots_begin}
use Rattle.lists.specs.Bytes.{rows}
use Rattle.lists.proofs.Rows.{length-rows, rows_append}
use Rattle.lists.specs.Line.{line_width, no_number}
use Rattle.lists.proofs.Codecs.{line-lawful}
use Rattle.demands.specs.Lines.{item_line, item_bytes, slot_lines, account_bytes, settled_bytes}
use Rattle.demands.specs.Run.{is_refused, accepted_in, refused_in}

-- no event is logged twice
pub log-most : (t : ℕ) (es : List Event) → length (log t es) ≤ length es
log-most t [] = omega arith
log-most t (e ∷ es) = omega (arith, length-append (logged t e) (log (suc t) es), one-most e, log-most (suc t) es)
  where
    one-most : (e : Event) → length (logged t e) ≤ 1
    one-most refused = omega arith
    one-most (read i a d) = omega arith
    one-most (wrote i a d) = omega arith
    one-most (published i a d) = omega arith
    one-most (refreshed i a d) = omega arith
    one-most (updated i o a d) = omega arith
    one-most (dropped i a) = omega arith

module _ {A : Type 0} where
  derived-long : {xs ys : List A} → Permᴰ xs ys → length xs ≡ length ys
  derived-long Permᴰ.nil = refl
  derived-long (Permᴰ.cons e d) = ap suc (derived-long d)
  derived-long (Permᴰ.swap e f) = refl
  derived-long (Permᴰ.trans d e) = derived-long d ∙ derived-long e

  pub perm-long : (xs ys : List A) → Perm xs ys → length xs ≡ length ys
  perm-long xs ys p = ∥∥₁_elim p (ℕ_set (length xs) (length ys)) derived-long

-- "accepted and refused actions": each action is one or the other
pub all-counted : (rs : List Record) → accepted_in rs + refused_in rs ≡ length rs
unfolding accepted_in refused_in
all-counted [] = refl
all-counted (r ∷ rs) = at (is_refused r) (all-counted rs)
  where
    at : (t : Bool) → accepted_in rs + refused_in rs ≡ length rs → pick t (accepted_in rs) (suc (accepted_in rs)) + pick t (suc (refused_in rs)) (refused_in rs) ≡ suc (length rs)
    at true h = omega arith
    at false h = omega arith

-- the account's bytes: 12 a line
pub length-item : (k : ℕ) (x : Item) → length (item_bytes k x) ≡ line_width
length-item k x = line-lawful.wide (item_line k x)

pub length-slots : (k : ℕ) (ss : List (List Item)) → length (slot_lines k ss) ≡ line_width * length (flat ss)
unfolding slot_lines
length-slots k [] = refl
length-slots k (s ∷ ss) =
    omega (arith, length-append (rows (item_bytes k) s) (slot_lines (suc k) ss), length-rows (item_bytes k) line_width (length-item k) s, length-slots (suc k) ss, length-append s (flat ss))

pub length-account : (z : Sizes) (b : Book) → length (account_bytes z b) ≡ line_width * length (account z b)
length-account z b =
    let us = unpublished z.engines b.pending in
    omega (arith, length-append (slot_lines 0 b.slots) (rows (item_bytes no_number) us), length-slots 0 b.slots, length-rows (item_bytes no_number) line_width (length-item no_number) us, length-append (flat b.slots) us)

-- ---- what begins the account's bytes

begins-rows : (f : Item → List ℕ) {s t : List Item} → Begins s t → Begins (rows f s) (rows f t)
begins-rows f {s} p = rw (← p.whole, rows_append f s p.rest) (begins-more-of (rows f s) (rows f p.rest))

-- slot by slot, and so line by line
pub opens-lines : (k : ℕ) {ss ts : List (List Item)} → Opens ss ts → Begins (slot_lines k ss) (slot_lines k ts)
unfolding slot_lines
opens-lines k {ts = ts} none = begins-more-of [] (slot_lines k ts)
opens-lines k (last {s} {t} {ts} p) = rw (append-nil (rows (item_bytes k) s)) (begins-on (slot_lines (suc k) ts) (begins-rows (item_bytes k) p))
opens-lines k (more s p) = begins-under (rows (item_bytes k) s) (opens-lines (suc k) p)

-- what is settled stands at the front of the account
pub settled-front : (z : Sizes) (b : Book) (rest : List ℕ) → take (line_width * length (settled z b)) (account_bytes z b ++ rest) ≡ settled_bytes z b
settled-front z b rest =
    begins-take _ (begins-on rest (begins-on (rows (item_bytes no_number) (unpublished z.engines b.pending)) (opens-lines 0 (slots_begin z b)))) (length-slots 0 (settled_slots z b))
