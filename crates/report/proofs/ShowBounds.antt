-- How long the text of `show` can be. Assumes nothing.
use mathlib.Core.Path.{◌≡◌, refl, ◌∙◌}
use mathlib.Core.Bool.{Bool, true, false, not}
use mathlib.Core.List.{List, ◌++◌}
use Prim.Native.Nat.{ℕ, zero, suc, ◌+◌, ◌-◌, ◌*◌, ◌^◌, ◌≤◌, ◌<◌, zero-le}
use native.Mathlib.Omega.{arith}
use lib.Dec.{eqb}
use lib.ListN.{length, get_or, replicate, length-append, get_or-append}
use Rattle.figure.specs.declared.Record.{Record}
use Rattle.figure.specs.declared.Sizes.{Sizes}
use Rattle.figure.specs.Refusals.{pick, first_of, most_addresses, most_actions}
use Rattle.lists.specs.Bytes.{Bytes, word_width, u32_at}
use Rattle.lists.specs.Record.{record_width, record_at}
use Rattle.lists.specs.Read.{read_refused, layout_of, read_of, memory_of, memory_table}
use Rattle.lists.proofs.Table.{length-memory, get_or-memory}
use Rattle.lists.proofs.Sized.{held}
use Rattle.demands.specs.Run.{Answered}
use Rattle.report.specs.Text.{ascii, newline, series}
use Rattle.report.specs.Decimal.{decimal, field, labelled}
use Rattle.report.specs.Hex.{hex_byte}
use Rattle.report.specs.Events.{account_text, most_account_text, refused_line}
use Rattle.report.specs.Actions.{sizes_text, value_field, head_line, kind_name, shows_address, shows_data, field_when, action_text, well_formed, no_answer, ok_when, answer_text, refusal_text, outcome_text, byte_field, bytes_text, step_text, step_line, step_lines, show_text, most_show_text}
use Rattle.report.proofs.Series.{length-series}
use Rattle.report.proofs.Bounds.{length-labelled, byte-digits, byte-field, word-field, word_below, place-digits, length-refused}

-- ---- the head
pub record SmallSizes (z : Sizes) : Type 0 where
  pub engines_small : z.engines < 2 ^ 8
  pub addresses_small : z.addresses < 2 ^ 8
  pub depth_small : z.depth < 2 ^ 8

small-sizes : (list : List ℕ) → Bytes list → SmallSizes (read_of list).sizes
unfolding read_of layout_of
small-sizes list b = at (first_of (read_refused list))
  where
    at : (n : ℕ) → SmallSizes (layout_of n list).sizes
    at zero = record { engines_small = b 5; addresses_small = b 6; depth_small = b 7 }
    at (suc n) = record { engines_small = omega arith; addresses_small = omega arith; depth_small = omega arith }

length-sizes : (z : Sizes) → SmallSizes z → length (sizes_text z) ≤ 42
unfolding sizes_text
length-sizes z h =
    let e = labelled (ascii "engines ") z.engines in
    let a = labelled (ascii " addresses ") z.addresses in
    let d = labelled (ascii " depth ") z.depth in
    omega (arith, length-append (e ++ a ++ d) (ascii " memory"), length-append (e ++ a) d, length-append e a, length-labelled (ascii "engines ") z.engines, length-labelled (ascii " addresses ") z.addresses, length-labelled (ascii " depth ") z.depth, byte-digits z.engines h.engines_small, byte-digits z.addresses h.addresses_small, byte-digits z.depth h.depth_small)

value-is : (list : List ℕ) (k : ℕ) → k < (read_of list).sizes.addresses → get_or (memory_table list) k 0 ≡ u32_at list ((read_of list).memory_at + word_width * k)
value-is list k h =
    get_or-append (memory_of list) (replicate (most_addresses - length (memory_of list)) 0) 0 k (omega (arith, length-memory list)) ∙ get_or-memory list k h

value-below : (list : List ℕ) (k : ℕ) → Bytes list → k < (read_of list).sizes.addresses → length (value_field (memory_table list) k) ≤ 11
value-below list k b h = word-field (get_or (memory_table list) k 0) (rw (value-is list k h) (word_below list _ b))

length-head : (list : List ℕ) → Bytes list → length (head_line list) ≤ 747
unfolding head_line
length-head list b =
    let z = (read_of list).sizes in
    let values = series (value_field (memory_table list)) z.addresses in
    let most : z.addresses ≤ most_addresses = (held list (read_of list) refl).addresses_most in
    omega (arith, length-append (sizes_text z ++ values) newline, length-append (sizes_text z) values, length-sizes z (small-sizes list b), length-series (value_field (memory_table list)) 11 z.addresses (λ k h. value-below list k b h), most)

-- ---- a line
length-name : (k : ℕ) → length (kind_name k) ≤ 3
length-name k = at (eqb k 1) (eqb k 2) (eqb k 3) (eqb k 4) (eqb k 5)
  where
    at : (a b c d e : Bool) → length (pick a (ascii " R") (pick b (ascii " W") (pick c (ascii " MW") (pick d (ascii " MR") (pick e (ascii " CU") (ascii " CI")))))) ≤ 3
    at true b c d e = omega arith
    at false true c d e = omega arith
    at false false true d e = omega arith
    at false false false true e = omega arith
    at false false false false true = omega arith
    at false false false false false = omega arith

length-when : (t : Bool) (n most : ℕ) → length (field n) ≤ most → length (field_when t n) ≤ most
unfolding field_when
length-when true n most h = h
length-when false n most h = zero-le

length-ok : (t : Bool) → length (ok_when t) ≤ 3
unfolding ok_when
length-ok true = omega arith
length-ok false = omega arith

-- the fields of a record that is made of bytes
pub record SmallFields (r : Record) : Type 0 where
  pub engine_small : r.engine.0 < 2 ^ 8
  pub origin_small : r.origin.0 < 2 ^ 8
  pub address_small : r.address.0 < 2 ^ 8
  pub data_small : r.«data» < 2 ^ 32

small : (s : List ℕ) (i : ℕ) → Bytes s → SmallFields (record_at s i)
small s i b = record { engine_small = b (i + 1); origin_small = b (i + 2); address_small = b (i + 3); data_small = word_below s (i + 4) b }

length-action : (a : Record) → SmallFields a → length (action_text a) ≤ 22
unfolding action_text
length-action a h =
    let n = kind_name a.kind in
    let e = field a.engine.0 in
    let x = field_when (shows_address a.kind) a.address.0 in
    let d = field_when (shows_data a.kind) a.«data» in
    omega (arith, length-append (n ++ e ++ x) d, length-append (n ++ e) x, length-append n e, length-name a.kind, byte-field a.engine.0 h.engine_small, length-when (shows_address a.kind) a.address.0 4 (byte-field a.address.0 h.address_small), length-when (shows_data a.kind) a.«data» 11 (word-field a.«data» h.data_small))

length-refusal : (e : Record) → SmallFields e → length (refusal_text e) ≤ 15
unfolding refusal_text
length-refusal e h = omega (arith, length-labelled (ascii " -> refused ") e.engine.0, byte-digits e.engine.0 h.engine_small)

length-answer : (k : ℕ) (e : Record) → SmallFields e → length (answer_text k e) ≤ 25
unfolding answer_text
length-answer k e h =
    let w = ascii " ->" in
    let o = field_when (eqb k 5) e.origin.0 in
    let x = field_when (not (shows_address k)) e.address.0 in
    let d = field_when (not (no_answer k)) e.«data» in
    let y = ok_when (no_answer k) in
    omega (arith, length-append (w ++ o ++ x ++ d) y, length-append (w ++ o ++ x) d, length-append (w ++ o) x, length-append w o, length-when (eqb k 5) e.origin.0 4 (byte-field e.origin.0 h.origin_small), length-when (not (shows_address k)) e.address.0 4 (byte-field e.address.0 h.address_small), length-when (not (no_answer k)) e.«data» 11 (word-field e.«data» h.data_small), length-ok (no_answer k))

length-outcome : (k : ℕ) (e : Record) → SmallFields e → length (outcome_text k e) ≤ 25
unfolding outcome_text
length-outcome k e h = at (eqb e.kind 0)
  where
    at : (t : Bool) → length (pick t (refusal_text e) (answer_text k e)) ≤ 25
    at true = omega (arith, length-refusal e h)
    at false = length-answer k e h

length-bytes : (list : List ℕ) (i : ℕ) → length (bytes_text list i) ≤ 30
unfolding bytes_text hex_byte
length-bytes list i =
    omega (arith, length-append (ascii " bytes") (series (byte_field list i) record_width), length-series (byte_field list i) 3 record_width (λ k h. omega arith))

length-step : (list : List ℕ) (i : ℕ) (e : Record) → Bytes list → SmallFields e → length (step_text list i e) ≤ 47
unfolding step_text
length-step list i e b h = at (well_formed a)
  where
    a : Record
    a = record_at list i

    at : (t : Bool) → length (pick t (action_text (record_at list i) ++ outcome_text (record_at list i).kind e) (bytes_text list i ++ refusal_text e)) ≤ 47
    at true = omega (arith, length-append (action_text (record_at list i)) (outcome_text (record_at list i).kind e), length-action (record_at list i) (small list i b), length-outcome (record_at list i).kind e h)
    at false = omega (arith, length-append (bytes_text list i) (refusal_text e), length-bytes list i, length-refusal e h)

length-step-line : (list : List ℕ) (first : ℕ) (trace : List ℕ) (k : ℕ) → Bytes list → Bytes trace → k < most_actions → length (step_line list first trace k) ≤ 52
unfolding step_line
length-step-line list first trace k b t h =
    let n = decimal (k + 1) in
    let e = record_at trace (record_width * k) in
    let s = step_text list (first + record_width * k) e in
    omega (arith, length-append (n ++ s) newline, length-append n s, place-digits k h, length-step list (first + record_width * k) e b (small trace (record_width * k) t))

length-step-lines : (list trace : List ℕ) → Bytes list → Bytes trace → length (step_lines list trace) ≤ 52 * most_actions
unfolding step_lines
length-step-lines list trace b t =
    let few : (read_of list).actions ≤ most_actions = (held list (read_of list) refl).few in
    omega (arith, length-series (step_line list (read_of list).actions_at trace) 52 (read_of list).actions (λ k h. length-step-line list (read_of list).actions_at trace k b t (omega (arith, few))), few)

-- ---- the whole
pub length-show : (list : List ℕ) (c : Answered) (trace account : List ℕ) → c.number < 2 ^ 8 → length (account_text c account) ≤ most_account_text → Bytes list → Bytes trace → length (show_text list c trace account) ≤ most_show_text
unfolding show_text
length-show list c trace account h d b t = at (eqb c.number 0)
  where
    at : (x : Bool) → length (pick x (head_line list ++ step_lines list trace ++ account_text c account) (refused_line c.number)) ≤ most_show_text
    at true = omega (arith, length-append (head_line list ++ step_lines list trace) (account_text c account), length-append (head_line list) (step_lines list trace), length-head list b, length-step-lines list trace b t, d)
    at false = omega (arith, length-refused c.number h)
