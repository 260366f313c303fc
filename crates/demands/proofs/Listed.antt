-- The account's bytes tell its items, one line each, in their order. Assumes nothing.
use mathlib.Core.List.{List, [], ◌∷◌, ◌++◌, append_assoc, append-nil}
use Prim.Native.Nat.{ℕ, suc}
use Rattle.figure.specs.Account.{Item, Book, flat, unpublished, account}
use Rattle.figure.specs.declared.Sizes.{Sizes}
use Rattle.lists.specs.Bytes.{rows}
use Rattle.lists.specs.Line.{no_number}
use Rattle.demands.specs.Demand.{Listed, none, more}
use Rattle.demands.specs.Lines.{item_bytes, slot_lines, account_bytes}

listed-rows : (k : ℕ) (s : List Item) {xs : List Item} {bytes : List ℕ} → Listed xs bytes → Listed (s ++ xs) (rows (item_bytes k) s ++ bytes)
unfolding rows
listed-rows k [] l = l
listed-rows k (x ∷ s) {xs} {bytes} l = more k x (s ++ xs) (rows (item_bytes k) s ++ bytes) (listed-rows k s l)

listed-slots : (k : ℕ) (ss : List (List Item)) {xs : List Item} {bytes : List ℕ} → Listed xs bytes → Listed (flat ss ++ xs) (slot_lines k ss ++ bytes)
unfolding slot_lines
listed-slots k [] l = l
listed-slots k (s ∷ ss) {xs} {bytes} l =
    rw (append_assoc s (flat ss) xs, append_assoc (rows (item_bytes k) s) (slot_lines (suc k) ss) bytes) (listed-rows k s (listed-slots (suc k) ss l))

pub listed-account : (z : Sizes) (b : Book) (rest : List ℕ) → Listed (account z b) (account_bytes z b ++ rest)
listed-account z b rest =
    let us = unpublished z.engines b.pending in
    let l : Listed (us ++ []) (rows (item_bytes no_number) us ++ rest) = listed-rows no_number us none in
    rw (append_assoc (slot_lines 0 b.slots) (rows (item_bytes no_number) us) rest) (listed-slots 0 b.slots (rw (append-nil us) at l))
