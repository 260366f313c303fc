-- The account that is built from a trace in linear time is document 01's account of it. Assumes nothing.
use Prim.Native.Nat.{ℕ, zero, suc, pred, ◌+◌, ◌*◌, ◌≤◌}
use native.Mathlib.Nat.{add-zero, zero-add}
use native.Mathlib.Omega.{arith}
use mathlib.Core.Path.{◌≡◌, refl, sym, ap, ◌∙◌}
use mathlib.Core.Bool.{Bool, true, false}
use mathlib.Core.List.{List, [], ◌∷◌, ◌++◌, map, append_assoc, append-nil}
use lib.Dec.{eqb}
use lib.ListN.{length, get_or, take}
use lib.Seq.{take_all, take-nil}
use borrow.Author.Tests.{eqb-true, le-leb, lt-leb}
use Rattle.figure.specs.declared.Record.{Record}
use Rattle.figure.specs.declared.Sizes.{Sizes}
use Rattle.figure.specs.Refusals.{most_engines, most_actions}
use Rattle.figure.specs.Figure.{Step, fresh}
use Rattle.figure.specs.Account.{Item, Book, trace, blank, book, account, floor, lowest, settled, unpublished}
use Rattle.figure.specs.Ledger.{taken_at}
use Rattle.figure.proofs.Serial.{inv-fresh}
use Rattle.lists.specs.Bytes.{rows}
use Rattle.lists.proofs.Rows.{rows_append, length-rows}
use Rattle.sort.specs.Order.{add_if, in_slot, sorted_below}
use Rattle.sort.proofs.Sorted.{start-le}
use Rattle.lists.specs.Line.{line_width, line_bytes, no_number}
use Rattle.demands.specs.Lines.{item_record, item_bytes, slot_lines, account_bytes}
use Rattle.demands.proofs.Lengths.{length-slots, length-account}
use Rattle.history.specs.Pieces.{tail_key, ledger_at, keys_of, order_of, lowest_floor, line_of, number_in, placed_line}
use Rattle.history.proofs.Bounds.{ledger-small, keys-long, lowest-most, lowest-alike}
use Rattle.history.proofs.Fitting.{FitsEach, events_below, book_is, fits-run}
use Rattle.history.proofs.Placing.{Placed, placed, line_event}
use Rattle.history.proofs.Waiting.{tail-items}

-- the records x 0 .. x (n - 1) are figure's trace of the steps xs, from a fresh store
pub record Run (z : Sizes) (mem : ℕ → ℕ) (x : ℕ → Record) (n : ℕ) (xs : List Step) : Type 0 where
  pub trace_is : events_below x n ≡ trace z (fresh mem) xs
  pub few : n ≤ most_actions
  pub engines : z.engines ≤ most_engines

-- their book
abbrev pub book_below : (ℕ → Record) → ℕ → Book
book_below x n = book 0 (events_below x n) blank

-- ---- lines

-- a record and its number
abbrev numbered : ℕ → Record → List ℕ
numbered k r = line_bytes (record { event = r; number = record { 0 = k } })

length-placed : (x : ℕ → Record) (keys js : List ℕ) → length (rows (placed_line x keys) js) ≡ line_width * length js
length-placed x keys js = length-rows (placed_line x keys) line_width (λ j. refl) js

rows-map : {A B : Type 0} (f : B → List ℕ) (g : A → B) (l : List A) → rows (λ (y : A). f (g y)) l ≡ rows f (map g l)
unfolding rows
rows-map f g [] = refl
rows-map f g (y ∷ l) = ap (λ (t : List ℕ). f (g y) ++ t) (rows-map f g l)

-- the indices in slot k have the key k
slot-lines : (x : ℕ → Record) (s : List ℕ) (k n : ℕ) → rows (placed_line x s) (in_slot s k n) ≡ rows (λ (j : ℕ). line_of (number_in (length s) k) (x j)) (in_slot s k n)
unfolding in_slot rows
slot-lines x s k zero = refl
slot-lines x s k (suc n) = at (eqb (get_or s n 0) k) refl (slot-lines x s k n)
  where
    f : ℕ → List ℕ
    f j = line_of (number_in (length s) k) (x j)

    at : (t : Bool) → eqb (get_or s n 0) k ≡ t → rows (placed_line x s) (in_slot s k n) ≡ rows f (in_slot s k n) → rows (placed_line x s) (add_if t (in_slot s k n) n) ≡ rows f (add_if t (in_slot s k n) n)
    at true e h = rw (rows_append (placed_line x s) (in_slot s k n) (n ∷ []), rows_append f (in_slot s k n) (n ∷ []), h, eqb-true (get_or s n 0) k e)
    at false e h = h

-- one more slot
slots-more : (j m : ℕ) (ss : List (List Item)) → slot_lines j (take (suc m) ss) ≡ slot_lines j (take m ss) ++ rows (item_bytes (j + m)) (get_or ss m [])
unfolding slot_lines rows
slots-more j m [] = rw (take-nil {A = List Item} m)
slots-more j zero (s ∷ ss) = rw (add-zero j) (append-nil (rows (item_bytes j) s))
slots-more j (suc m) (s ∷ ss) =
    let e : j + suc m ≡ suc j + m = omega arith in
    rw (e, slots-more (suc j) m ss) (sym (append_assoc (rows (item_bytes j) s) (slot_lines (suc j) (take m ss)) (rows (item_bytes (suc j + m)) (get_or ss m []))))

-- ---- the run

module _ {z : Sizes} {mem : ℕ → ℕ} {x : ℕ → Record} {n : ℕ} {xs : List Step} (h : Run z mem x n xs) where
  run_fits : FitsEach z 0 (events_below x n) blank
  run_fits = rw h.trace_is (fits-run z mem 0 (fresh mem) blank xs (inv-fresh mem))

  run-placed : Placed x n n
  run-placed = placed x n h.few z h.engines n h.few run_fits

  abbrev b : Book
  b = book_below x n

  abbrev keys : List ℕ
  keys = keys_of x n

  abbrev line : ℕ → List ℕ
  line = placed_line x keys

  -- 1. the ledger

  taken_is : (i : ℕ) → 1 ≤ i → i ≤ z.engines → taken_at (ledger_at x n) i ≡ b.ledger.taken i
  taken_is i lo hi = rw (book_is x n) (run-placed.even.holds.taken.each i lo (omega (arith, h.engines)))

  pub lowest-is : lowest_floor (ledger_at x n) z.engines ≡ lowest z.engines (floor b)
  lowest-is = lowest-alike z.engines (taken_at (ledger_at x n)) (floor b) taken_is

  slots-few : length b.slots ≤ suc n
  slots-few = rw (book_is x n) (omega (arith, run-placed.even.slotted, run-placed.even.holds.published, (ledger-small x n).published))

  lowest-few : lowest z.engines (floor b) ≤ n
  lowest-few = omega (arith, lowest-is, lowest-most z.engines n (taken_at (ledger_at x n)) (λ i. (ledger-small x n).taken (pred i)))

  -- 2. the events of one key

  -- their lines are those of the items that the book has there
  slot_is : (k : ℕ) (items : List Item) → map item_record items ≡ map (line_event x) (in_slot keys k n) → rows line (in_slot keys k (length keys)) ≡ rows (item_bytes (number_in n k)) items
  slot_is k items e =
      rw (keys-long x n n)
      (slot-lines x keys k n
      ∙ rw (keys-long x n n) (rows-map (numbered (number_in n k)) (line_event x) (in_slot keys k n) ∙ rw (← (e)) (sym (rows-map (numbered (number_in n k)) item_record items))))

  -- one key more
  order-more : (k : ℕ) → rows line (sorted_below keys (suc k)) ≡ rows line (sorted_below keys k) ++ rows line (in_slot keys k (length keys))
  unfolding sorted_below
  order-more k = rows_append line (sorted_below keys k) (in_slot keys k (length keys))

  -- 3. the slots one after the other

  slots-upto : (m : ℕ) → m ≤ suc n → slot_lines 0 (take m b.slots) ≡ rows line (sorted_below keys m)
  unfolding slot_lines rows sorted_below
  slots-upto zero l = refl
  slots-upto (suc m) l =
      let items : map item_record (get_or b.slots m []) ≡ map (line_event x) (in_slot keys m n) = rw (book_is x n) (run-placed.slots m (omega arith)) in
      slots-more 0 m b.slots ∙ rw (zero-add m, slots-upto m (omega arith), order-more m, slot_is m (get_or b.slots m []) items, le-leb m n (omega arith))

  -- 4. the tail, one engine after the other

  tail-upto : (m : ℕ) → m ≤ z.engines → slot_lines 0 b.slots ++ rows (item_bytes no_number) (unpublished m b.pending) ≡ rows line (order_of x n m)
  unfolding rows
  tail-upto zero l = append-nil _ ∙ (ap (slot_lines 0) (sym (take_all (suc n) b.slots slots-few)) ∙ (slots-upto (suc n) (omega arith) ∙ rw (add-zero n)))
  tail-upto (suc m) l =
      let items : map item_record (b.pending (suc m)) ≡ map (line_event x) (in_slot keys (tail_key n (suc m)) n) = rw (book_is x n) (tail-items x n h.few (suc m) (omega arith) (omega (arith, h.engines)) z run_fits) in
      let e : tail_key n (suc m) ≡ suc (tail_key n m) = omega arith in
      rw (rows_append (item_bytes no_number) (unpublished m b.pending) (b.pending (suc m)), ← (append_assoc (slot_lines 0 b.slots) (rows (item_bytes no_number) (unpublished m b.pending)) (rows (item_bytes no_number) (b.pending (suc m)))), tail-upto m (omega arith), order-more (tail_key n (suc m)), slot_is (tail_key n (suc m)) (b.pending (suc m)) items, lt-leb (tail_key n (suc m)) n (omega arith), e)

  -- 5. the whole

  pub account_is : account_bytes z b ≡ rows line (order_of x n z.engines)
  account_is = tail-upto z.engines (omega arith)

  pub account-long : length (account z b) ≡ length (order_of x n z.engines)
  account-long = omega (arith, length-account z b, ap length account_is, length-placed x keys (order_of x n z.engines))

  pub account_most : length (account z b) ≤ n
  account_most = omega (arith, account-long, start-le keys (suc (tail_key n z.engines)), keys-long x n n)

  pub settled-long : length (settled z b) ≡ length (sorted_below keys (suc (lowest_floor (ledger_at x n) z.engines)))
  settled-long =
      let m = suc (lowest z.engines (floor b)) in
      rw (lowest-is) (omega (arith, length-slots 0 (take m b.slots), ap length (slots-upto m (omega (arith, lowest-few))), length-placed x keys (sorted_below keys m)))
