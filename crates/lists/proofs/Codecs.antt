-- The codecs of the project are lawful; a thing of two parts, the bytes of one after those of the other, has a lawful codec if they have. Assumes nothing.
use mathlib.Core.Path.{◌≡◌, refl, ◌∙◌}
use mathlib.Core.List.{List, [], ◌++◌, append_assoc, append-nil}
use Prim.Native.Nat.{ℕ, ◌+◌}
use native.Mathlib.Nat.{zero-add}
use native.Mathlib.Omega.{arith}
use lib.ListN.{length, drop, length-append}
use lib.Seq.{drop_at, drop-drop, take-add, take_all}
use Rattle.figure.specs.declared.Record.{Record}
use Rattle.lists.specs.Bytes.{Bytes}
use Rattle.lists.specs.Codec.{Codec, Lawful, word_codec}
use Rattle.lists.specs.Record.{record_codec}
use Rattle.lists.specs.Line.{line_codec}
use Rattle.lists.specs.declared.line.Line.{Line}
use Rattle.lists.proofs.Numbers.{number-back, number-drop, number-bytes, record-back, record-drop, record-bytes}

pub word-lawful : Lawful word_codec
word-lawful = record { wide = λ x. refl; shift = number-drop; back = number-back; again = number-bytes }

pub record-lawful : Lawful record_codec
record-lawful = record { wide = λ x. refl; shift = record-drop; back = record-back; again = record-bytes }

-- "A record is 8 bytes": every thing is that of its bytes, and so many bytes are those of their thing
module _ {A : Type 0} {c : Codec A} (l : Lawful c) where
  pub reads_bytes : (x : A) → c.reads (c.bytes x) 0 ≡ x
  reads_bytes x = rw (append-nil) at (l.back x [])

  pub bytes-reads : (bytes : List ℕ) → length bytes ≡ c.width → Bytes bytes → c.bytes (c.reads bytes 0) ≡ bytes
  bytes-reads bytes h b = l.again bytes 0 b (omega arith) ∙ take_all c.width bytes (omega arith)

-- ---- two parts

-- which two things a thing is made of, and how
pub record Couple (A B C : Type 0) : Type 0 where
  pub first : C → A
  pub second : C → B
  pub build : A → B → C
  pub rebuilt : (x : C) → build (first x) (second x) ≡ x
  pub first_built : (a : A) (b : B) → first (build a b) ≡ a
  pub second_built : (a : A) (b : B) → second (build a b) ≡ b

module _ {A B C : Type 0} (c : Codec A) (d : Codec B) (p : Couple A B C) where
  abbrev pub coupled : Codec C
  coupled =
      record {
        width = c.width + d.width;
        bytes = λ x. c.bytes (p.first x) ++ d.bytes (p.second x);
        reads = λ s i. p.build (c.reads s i) (d.reads s (i + c.width));
      }

  pub coupled-lawful : Lawful c → Lawful d → Lawful coupled
  coupled-lawful l m =
      record {
        wide = λ x. length-append (c.bytes (p.first x)) (d.bytes (p.second x)) ∙ rw (l.wide (p.first x), m.wide (p.second x));
        shift = λ s i. rw (l.shift s i, m.shift s (i + c.width), m.shift (drop i s) (0 + c.width), zero-add c.width, drop-drop c.width i s);
        back = λ x rest.
            let xs = c.bytes (p.first x) in
            let more = d.bytes (p.second x) ++ rest in
            rw (append_assoc xs (d.bytes (p.second x)) rest, l.back (p.first x) more, m.shift (xs ++ more) (0 + c.width), zero-add c.width, drop_at xs more c.width (l.wide (p.first x)), m.back (p.second x) rest) (p.rebuilt x);
        again = λ s i b h.
            let x = c.reads s i in
            let y = d.reads s (i + c.width) in
            rw (p.first_built x y, p.second_built x y, l.again s i b (omega arith), m.again s (i + c.width) b (omega arith), take-add c.width d.width (drop i s), drop-drop c.width i s);
      }

-- a line is an event and a number
line_couple : Couple Record ℕ Line
line_couple =
    record {
      first = λ l. l.event;
      second = λ l. l.number.0;
      build = λ e n. record { event = e; number = record { 0 = n } };
      rebuilt = λ l. refl;
      first_built = λ e n. refl;
      second_built = λ e n. refl;
    }

pub line-lawful : Lawful line_codec
unfolding line_couple
line-lawful = coupled-lawful record_codec word_codec line_couple record-lawful word-lawful
