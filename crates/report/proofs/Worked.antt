-- What is printed of a worked case's run, of numbers, of a refusal and of a trace's hash; and what program `show` prints of B4 and B9. Assumes nothing.
use mathlib.Core.Path.{◌≡◌, refl}
use mathlib.Core.List.{List, []}
use Prim.Native.Nat.{ℕ}
use lib.ListN.{length, drop}
use Rattle.figure.specs.Refusals as Refusals
use Rattle.lists.specs.Bytes as Bytes
use Rattle.lists.specs.Codec as Codec
use Rattle.lists.specs.Read as Read
use Rattle.shape.specs.Case.{Case, list_of, trace_in}
use Rattle.shape.specs.Cases.{B4, B9}
use Rattle.shape.specs.Turns.{bytes_of}
use Rattle.demands.specs.Bench.{counts_of, lines_in, CaseRan}
use Rattle.demands.specs.Run.{Answered}
use Rattle.report.specs.Bench.{printed_text, Prints}
use Rattle.report.specs.Text.{ascii, series}
use Rattle.report.specs.Decimal.{digits_within, decimal, field, labelled}
use Rattle.report.specs.Hex.{hex_byte, hex_word, trace_text}
use Rattle.report.specs.Events.{mark_field, kind_field, event_fields, account_line, counts_line, refused_line, account_text}
use Rattle.report.specs.Actions.{sizes_text, head_line, field_when, action_text, ok_when, answer_text, refusal_text, outcome_text, bytes_text, step_text, step_line, step_lines, show_text}

-- every result that a run of the case may have prints as the table has it
pub case-printed : {c : Case} {trace account : List ℕ} {r : Answered} {trace' account' : List ℕ} → Prints c → CaseRan c trace account r trace' account' → account_text r account' ≡ printed_text c
unfolding Bytes.laid
case-printed {c} {account = account} p h = rw (h.counts, h.account_is) (p.text (drop (length (lines_in c)) account))

numbers : (decimal 0 ≡ ascii "0") × (decimal 2048 ≡ ascii "2048") × (decimal 4294967295 ≡ ascii "4294967295")
unfolding decimal digits_within
numbers = (refl, refl, refl)

-- the hash of no bytes
no-trace : trace_text 0xcbf29ce484222325 ≡ ascii "trace cbf29ce484222325\n"
unfolding trace_text hex_word hex_byte
no-trace = refl

refused : account_text (record { number = 9; accepted = 0; refused = 0; events = 0; settled = 0 }) [] ≡ ascii "refused 9\n"
unfolding account_text refused_line labelled decimal digits_within
refused = refl

-- ---- B4, shown: its list, its trace and its account
b4 : show_text (list_of B4) (counts_of B4) (bytes_of (trace_in B4)) (lines_in B4) ≡ ascii "engines 2 addresses 1 depth 2 memory 3\n1 MR 1 0 -> 3\n2 W 2 0 4 -> ok\n3 MW 2 -> 0 4\n4 CU 1 -> 0 0 3\n5 R 1 0 -> 3\n6 CU 1 -> 2 0 4\n7 R 1 0 -> 4\naccepted 7 refused 0 events 3 settled 1\n1 0 R 1 0 3\n2 1 W 2 0 4\n3 1 R 1 0 4\n"
unfolding account_text counts_line labelled decimal digits_within series account_line mark_field kind_field event_fields field Bytes.u32_at show_text head_line sizes_text step_lines step_line step_text action_text field_when outcome_text refusal_text answer_text ok_when bytes_text hex_byte Read.read_of Read.read_refused Read.layout_of Read.memory_of Codec.things_at Refusals.sizes_refused Read.list_bytes Read.body_of Bytes.rows
b4 = refl

-- ---- B9, shown: badly formed actions, and an engine that is none
b9 : show_text (list_of B9) (counts_of B9) (bytes_of (trace_in B9)) (lines_in B9) ≡ ascii "engines 1 addresses 1 depth 1 memory 0\n1 bytes 07 09 00 00 00 00 00 00 -> refused 11\n2 R 9 0 -> refused 12\n3 bytes 01 01 00 01 00 00 00 05 -> refused 13\n4 bytes 01 01 00 00 00 00 00 05 -> refused 14\naccepted 0 refused 4 events 0 settled 0\n"
unfolding account_text counts_line labelled decimal digits_within series account_line mark_field kind_field event_fields field Bytes.u32_at show_text head_line sizes_text step_lines step_line step_text action_text field_when outcome_text refusal_text answer_text ok_when bytes_text hex_byte Read.read_of Read.read_refused Read.layout_of Read.memory_of Codec.things_at Refusals.sizes_refused Read.list_bytes Read.body_of Bytes.rows
b9 = refl
