-- How long the texts can be. Assumes nothing.
use mathlib.Core.Path.{◌≡◌, refl}
use mathlib.Core.Bool.{Bool, true, false}
use mathlib.Core.List.{List, ◌++◌}
use Prim.Native.Nat.{ℕ, ◌+◌, ◌*◌, ◌^◌, ◌≤◌, ◌<◌}
use native.Mathlib.Omega.{arith}
use lib.Dec.{eqb}
use lib.ListN.{length, length-append}
use Rattle.figure.specs.Refusals.{pick, most_actions}
use Rattle.lists.specs.Bytes.{Bytes, u32_at}
use Rattle.lists.specs.Line.{line_width, line_at, no_number}
use Rattle.demands.specs.Run.{Answered}
use Rattle.report.specs.Text.{ascii, newline, series}
use Rattle.report.specs.Decimal.{decimal, field, labelled}
use Rattle.report.specs.Hex.{hex_byte, hex_word, trace_text, trace_text_length}
use Rattle.report.specs.Events.{mark_field, kind_field, event_fields, account_line, counts_line, refused_line, shown, account_text, most_account_text}
use Rattle.report.proofs.Digits.{length-decimal}
use Rattle.report.proofs.Series.{length-series}

pub length-field : (n : ℕ) → length (field n) ≡ length (decimal n) + 1
unfolding field
length-field n = omega arith

pub length-labelled : (label : List ℕ) (n : ℕ) → length (labelled label n) ≡ length label + length (decimal n)
unfolding labelled
length-labelled label n = length-append label (decimal n)

-- ---- a byte, four bytes and eight
pub byte-digits : (n : ℕ) → n < 2 ^ 8 → length (decimal n) ≤ 3
byte-digits n h = length-decimal 2 n (omega arith)

pub word-digits : (n : ℕ) → n < 2 ^ 32 → length (decimal n) ≤ 10
word-digits n h = length-decimal 9 n (omega arith)

pub long-digits : (n : ℕ) → n < 2 ^ 64 → length (decimal n) ≤ 20
long-digits n h = length-decimal 19 n (omega arith)

pub byte-field : (n : ℕ) → n < 2 ^ 8 → length (field n) ≤ 4
byte-field n h = omega (arith, length-field n, byte-digits n h)

pub word-field : (n : ℕ) → n < 2 ^ 32 → length (field n) ≤ 11
word-field n h = omega (arith, length-field n, word-digits n h)

pub word_below : (s : List ℕ) (i : ℕ) → Bytes s → u32_at s i < 2 ^ 32
unfolding u32_at
word_below s i b = omega (arith, b i, b (i + 1), b (i + 2), b (i + 3))

-- the place of a line, from 1
pub place-digits : (k : ℕ) → k < most_actions → length (decimal (k + 1)) ≤ 4
place-digits k h = length-decimal 3 (k + 1) (omega arith)

-- ---- a line of the account
length-mark : (mark : ℕ) → mark < 2 ^ 32 → length (mark_field mark) ≤ 11
unfolding mark_field
length-mark mark h = at (eqb mark no_number)
  where
    at : (t : Bool) → length (pick t (ascii " -") (field mark)) ≤ 11
    at true = omega arith
    at false = word-field mark h

length-kind : (kind : ℕ) → length (kind_field kind) ≡ 2
unfolding kind_field
length-kind kind = at (eqb kind 1)
  where
    at : (t : Bool) → length (pick t (ascii " R") (ascii " W")) ≡ 2
    at true = refl
    at false = refl

length-four : (a b c d e : List ℕ) → length (a ++ b ++ c ++ d ++ e) ≡ length a + length b + length c + length d + length e
length-four a b c d e = simp length-append

length-event : (account : List ℕ) (k : ℕ) → Bytes account → length (event_fields (line_at account (line_width * k)).event) ≤ 22
unfolding event_fields
length-event account k b =
    let at = line_width * k in
    let e = (line_at account at).event in
    omega (arith, length-four (kind_field e.kind) (field e.engine.0) (field e.address.0) (field e.«data») newline, length-kind e.kind, byte-field e.engine.0 (b (at + 1)), byte-field e.address.0 (b (at + 3)), word-field e.«data» (word_below account (at + 4) b))

pub length-line : (account : List ℕ) (k : ℕ) → Bytes account → k < most_actions → length (account_line account k) ≤ 37
unfolding account_line
length-line account k b h =
    let mark = (line_at account (line_width * k)).number.0 in
    omega (arith, length-append (decimal (k + 1) ++ mark_field mark) (event_fields (line_at account (line_width * k)).event), length-append (decimal (k + 1)) (mark_field mark), place-digits k h, length-mark mark (word_below account _ b), length-event account k b)

-- ---- the counts
pub record CountsFit (c : Answered) : Type 0 where
  pub number_small : c.number < 2 ^ 8
  pub accepted_fits : c.accepted < 2 ^ 64
  pub refused_fits : c.refused < 2 ^ 64
  pub events_fits : c.events < 2 ^ 64
  pub settled_fits : c.settled < 2 ^ 64

pub length-counts : (c : Answered) → CountsFit c → length (counts_line c) ≤ 116
unfolding counts_line
length-counts c h =
    let a = labelled (ascii "accepted ") c.accepted in
    let r = labelled (ascii " refused ") c.refused in
    let e = labelled (ascii " events ") c.events in
    let s = labelled (ascii " settled ") c.settled in
    omega (arith, length-four a r e s newline, length-labelled (ascii "accepted ") c.accepted, length-labelled (ascii " refused ") c.refused, length-labelled (ascii " events ") c.events, length-labelled (ascii " settled ") c.settled, long-digits c.accepted h.accepted_fits, long-digits c.refused h.refused_fits, long-digits c.events h.events_fits, long-digits c.settled h.settled_fits)

pub length-refused : (number : ℕ) → number < 2 ^ 8 → length (refused_line number) ≤ 12
unfolding refused_line
length-refused number h =
    omega (arith, length-append (labelled (ascii "refused ") number) newline, length-labelled (ascii "refused ") number, byte-digits number h)

pub length-account-text : (c : Answered) (account : List ℕ) → CountsFit c → Bytes account → length (account_text c account) ≤ most_account_text
unfolding account_text
length-account-text c account h b = at (eqb c.number 0)
  where
    few : shown c ≤ most_actions
    few = omega arith

    lines : length (series (account_line account) (shown c)) ≤ 37 * shown c
    lines = length-series (account_line account) 37 (shown c) (λ k g. length-line account k b (omega (arith, few)))

    at : (t : Bool) → length (pick t (counts_line c ++ series (account_line account) (shown c)) (refused_line c.number)) ≤ most_account_text
    at true = omega (arith, length-append (counts_line c) (series (account_line account) (shown c)), length-counts c h, lines, few)
    at false = omega (arith, length-refused c.number h.number_small)

-- ---- the line of a trace
pub length-trace-text : (hash : ℕ) → length (trace_text hash) ≡ trace_text_length
unfolding trace_text hex_word hex_byte
length-trace-text hash = refl
