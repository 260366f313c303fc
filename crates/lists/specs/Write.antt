-- What the writer answers, and what it leaves in the output. Assumes nothing.
use Rattle.std.specs.Prelude.{◌≡◌, List, [], ◌∷◌, ◌++◌, not, ℕ, ◌/◌, ◌%◌, length, ltb, eqb, Result, Ok, Err}
use Rattle.figure.specs.declared.Sizes.{Sizes}
use Rattle.figure.specs.Refusals.{Refusal, ◌when◌, first_of, unless, sizes_refused, most_actions}
use Rattle.lists.specs.Bytes.{laid}
use Rattle.lists.specs.Record.{record_width}
use Rattle.lists.specs.Read.{list_bytes, read_of, memory_of, action_bytes_of}
use Rattle.figure.specs.declared.refused.Refused.{Refused}
use Rattle.figure.specs.Refused.{number_of}

-- "Writer: 4, 5, 6, 10, 8, 9, 30"; room is how many bytes the output has
unfoldable pub write_refused : Sizes → List ℕ → List ℕ → ℕ → List Refusal
write_refused z memory actions room =
    sizes_refused z
    ++ 10 when not (eqb (length memory) z.addresses)
    ∷ 8 when not (eqb (length actions % record_width) 0)
    ∷ 9 when ltb most_actions (length actions / record_width)
    ∷ 30 when ltb room (length (list_bytes z memory actions))
    ∷ []

-- what is written over the output's front
unfoldable pub bytes_written : Sizes → List ℕ → List ℕ → ℕ → List ℕ
bytes_written z memory actions room =
    unless (first_of (write_refused z memory actions room)) (list_bytes z memory actions) []

-- what the writer says: 0 or the number of what it refuses, and the list's length
pub record Written : Type 0 where
  pub number : ℕ
  pub length : ℕ

-- what each answer of the writer says
abbrev pub written : Result ℕ Refused → Written
written (Ok n) = record { number = 0; length = n }
written (Err e) = record { number = number_of e; length = 0 }

-- "answers with the list's length, 0 on a refusal"
pub record Wrote (z : Sizes) (memory actions old : List ℕ) (r : Written) (new : List ℕ) : Type 0 where
  pub number_is : r.number ≡ first_of (write_refused z memory actions (length old))
  pub length_is : r.length ≡ length (bytes_written z memory actions (length old))
  pub out_is : new ≡ laid (bytes_written z memory actions (length old)) old

-- "answers with .. 0 on a refusal", and the output stays as it came
pub record Unwritten (old : List ℕ) (r : Written) (new : List ℕ) : Type 0 where
  pub length_is : r.length ≡ 0
  pub out_stays : new ≡ old

-- ---- "Lists round-trip, both ways, to the byte."

-- a list that holds these sizes, this memory and these action bytes
pub record ListHolds (s : List ℕ) (z : Sizes) (memory actions : List ℕ) : Type 0 where
  pub taken : (read_of s).number ≡ 0
  pub sizes_are : (read_of s).sizes ≡ z
  pub memory_is : memory_of s ≡ memory
  pub action_bytes_are : action_bytes_of s ≡ actions

-- "a list that the reader takes, read and written again, has the same bytes"
pub record Rewritten (s out : List ℕ) (r : Written) (out' : List ℕ) : Type 0 where
  pub number_is : r.number ≡ 0
  pub length_is : r.length ≡ length s
  pub out_is : out' ≡ laid s out
