-- A worked case: a list, and what document 01 says of it. Assumes nothing.
use Rattle.std.specs.Prelude.{List, [], ◌∷◌, map, ◌≡◌, ℕ, length, take, get_or}
use Prim.Native.String.{String}
use Rattle.figure.specs.Record.{no_record}
use Rattle.figure.specs.declared.Record.{Record}
use Rattle.figure.specs.declared.Sizes.{Sizes}
use Rattle.lists.specs.Bytes.{rows, word_width, u32_bytes}
use Rattle.lists.specs.Line.{no_number}
use Rattle.lists.specs.Read.{list_bytes, read_of}
use Rattle.lists.specs.Write.{ListHolds}
use Rattle.lists.specs.declared.line.Line.{Line}
use Rattle.shape.specs.Fresh.{fresh_of}
use Rattle.shape.specs.Parts.{out_of}
use Rattle.shape.specs.Turns.{bytes_of, store_after, trace_after}
use Rattle.shape.specs.declared.OutEntry.{OutEntry}
use Rattle.shape.specs.declared.OutQueue.{OutQueue}
use Rattle.shape.specs.declared.Store.{Store}

-- ---- actions, as document 01 writes them

abbrev pub rec : ℕ → ℕ → ℕ → ℕ → ℕ → Record
rec k i o a d = record { kind = k; engine = record { 0 = i }; origin = record { 0 = o }; address = record { 0 = a }; «data» = d }

abbrev pub R : ℕ → ℕ → Record
R i a = rec 1 i 0 a 0

abbrev pub W : ℕ → ℕ → ℕ → Record
W i a d = rec 2 i 0 a d

abbrev pub MW : ℕ → Record
MW i = rec 3 i 0 0 0

abbrev pub MR : ℕ → ℕ → Record
MR i a = rec 4 i 0 a 0

abbrev pub CU : ℕ → Record
CU i = rec 5 i 0 0 0

abbrev pub CI : ℕ → ℕ → Record
CI i a = rec 6 i 0 a 0

-- ---- an action with what comes of it

pub record Turn : Type 0 where
  pub action : Record
  pub traced : Record

-- the action comes back as it is
abbrev pub ok : Record → Turn
ok x = record { action = x; traced = x }

-- a value (R, MR)
abbrev pub ◌gives◌ : Record → ℕ → Turn
x gives d = record { action = x; traced = rec x.kind x.engine.0 0 x.address.0 d }

-- a refusal's number
abbrev pub ◌is◌ : Record → ℕ → Turn
x is n = record { action = x; traced = rec 0 n 0 0 0 }

-- MW: address and data; CU: origin, address and data
abbrev pub publishes : ℕ → ℕ → ℕ → Turn
publishes i a d = record { action = MW i; traced = rec 3 i 0 a d }

abbrev pub takes : ℕ → ℕ → ℕ → ℕ → Turn
takes i o a d = record { action = CU i; traced = rec 5 i o a d }

infix 69 ◌gives◌
infix 69 ◌is◌
-- ---- the case

-- a printed line of the account: slot or write number or `-`, R or W, engine, address, data
abbrev pub line : ℕ → Record → Line
line n e = record { event = e; number = record { 0 = n } }

abbrev pub «-» : ℕ
«-» = no_number

pub record Case : Type 0 where
  -- the list: sizes, memory, and its actions with what comes of each
  pub sizes : Sizes
  pub memory : List ℕ
  pub turns : List Turn
  -- how many bytes it has, and the number in its length field
  pub bytes : ℕ
  pub field : ℕ
  -- its run: the counts and the account ("events in the account" are its lines)
  pub accepted : ℕ
  pub refused : ℕ
  pub lines : List Line
  pub settled : ℕ
  -- what program `account` prints, line by line
  pub printed : List String
  -- what stands in memory and in the out queues when the list is done, each entry its address and its data
  pub memory_after : List ℕ
  pub outs_after : List (List ℕ)

abbrev pub size : ℕ → ℕ → ℕ → Sizes
size n m depth = record { engines = n; addresses = m; depth = depth }

-- P of every case of a table
abbrev pub Every : (Case → Type 0) → List Case → Type 0
Every P [] = Unit {0}
Every P (c ∷ cs) = P c × Every P cs

-- ---- its list, its actions, and what the definitions say of them

abbrev pub actions_in : Case → List Record
actions_in c = map (λ (t : Turn). t.action) c.turns

abbrev pub trace_in : Case → List Record
trace_in c = map (λ (t : Turn). t.traced) c.turns

abbrev pub list_of : Case → List ℕ
list_of c = list_bytes c.sizes c.memory (bytes_of (actions_in c))

-- action k, the store that is fresh, and the one that is left when the list is done
abbrev pub turn_of : Case → ℕ → Record
turn_of c k = get_or (actions_in c) k no_record

abbrev pub first_store : Case → Store
first_store c = fresh_of c.sizes c.memory

abbrev pub last_store : Case → Store
last_store c = store_after (first_store c) (turn_of c) (length c.turns)

abbrev pub out_numbers : OutEntry → List ℕ
out_numbers x = x.address.0 ∷ x.«data» ∷ []

abbrev pub outs_of : Store → List (List ℕ)
outs_of s = map (λ (q : OutQueue). rows out_numbers (out_of q)) (take s.sizes.engines s.outs)

-- what the table says of the list and of its steps holds
pub record Turned (c : Case) : Type 0 where
  -- "144 bytes; length field 140"
  pub bytes : length (list_of c) ≡ c.bytes
  pub field : take word_width (list_of c) ≡ u32_bytes c.field
  -- the reader takes the list, and finds in it what the table has
  pub reads : ListHolds (list_of c) c.sizes c.memory (bytes_of (actions_in c))
  pub actions : (read_of (list_of c)).actions ≡ length c.turns
  -- the steps, one after another from a fresh store: the trace, and the store that they leave
  pub trace : trace_after (first_store c) (turn_of c) (length c.turns) ≡ trace_in c
  pub memory : take c.sizes.addresses (last_store c).memory ≡ c.memory_after
  pub outs : outs_of (last_store c) ≡ c.outs_after
