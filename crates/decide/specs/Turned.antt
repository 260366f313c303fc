-- What a turn decides, by document 01's numbers. Assumes nothing.
use Rattle.std.specs.Prelude.{ℕ, Result, Ok, Err}
use Rattle.std.specs.Int.{from_bool}
use Rattle.figure.specs.Record.{no_record}
use Rattle.figure.specs.Refused.{number_of}
use Rattle.figure.specs.declared.refused.Refused.{Refused}
use Rattle.shape.specs.Parts.{no_in_entry}
use Rattle.shape.specs.declared.Answer.{Answer}
use Rattle.shape.specs.declared.InEntry.{InEntry}
use Rattle.decide.specs.declared.Move.{Move}
use Rattle.decide.specs.declared.Word.{Word}
use Rattle.decide.specs.declared.Word.TheVariants.{Kept, Stored, Cached, Dropped}

-- what a turn answers, and what it changes: whether its engine's queues lose their oldest entry (1 or 0), whether the entry joins the out queue (1 or 0),
-- the places of the in queues that the entry joins, and what becomes of the word at the entry's address
pub record Turned : Type 0 where
  pub said : Answer
  pub out_left : ℕ
  pub in_left : ℕ
  pub out_joins : ℕ
  pub from : ℕ
  pub to : ℕ
  pub entry : InEntry
  pub word : ℕ

-- ---- what becomes of the word

abbrev pub kept : ℕ
kept = 0

abbrev pub to_memory : ℕ
to_memory = 1

abbrev pub to_cache : ℕ
to_cache = 2

abbrev pub from_cache : ℕ
from_cache = 3

abbrev pub word_of : Word → ℕ
word_of Kept = kept
word_of Stored = to_memory
word_of Cached = to_cache
word_of Dropped = from_cache

-- ---- what the code answers

-- a refusal moves nothing
abbrev pub refusing : ℕ → Turned
refusing n =
    record { said = record { number = n; event = no_record }; out_left = 0; in_left = 0; out_joins = 0; from = 0; to = 0; entry = no_in_entry; word = kept }

abbrev pub turned_of : Move → Turned
turned_of m =
    record {
      said = record { number = 0; event = m.event };
      out_left = from_bool m.out_left;
      in_left = from_bool m.in_left;
      out_joins = from_bool m.out_joins;
      from = m.from;
      to = m.to;
      entry = m.entry;
      word = word_of m.word;
    }

abbrev pub turn_by : Result Move Refused → Turned
turn_by (Ok m) = turned_of m
turn_by (Err e) = refusing (number_of e)
