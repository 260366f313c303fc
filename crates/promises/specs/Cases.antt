-- "B1 to B9 are proved as one statement over one table of cases.": the table is shape:Cases. Assumes nothing.
use Rattle.std.specs.Prelude.{List, ◌≡◌, ◌*◌, ◌≤◌, length, take}
use Rattle.demands.specs.Bench.{CaseRan}
use Rattle.figure.specs.declared.Record.{Record}
use Rattle.lists.specs.Bytes.{word_width, u32_bytes}
use Rattle.lists.specs.Line.{line_width}
use Rattle.lists.specs.Record.{record_width}
use Rattle.report.specs.Bench.{printed_text}
use Rattle.shape.specs.Case.{Case, Every, list_of, turn_of, trace_in, outs_of}
use Rattle.shape.specs.Cases.{cases}
use Rattle.shape.specs.declared.Store.{Store}
use Rattle.promises.specs.Calls.{EveryFresh, EveryRun, EveryAccountText}
use Rattle.promises.specs.Demand2.{Chain}
use Rattle.promises.specs.Texts.{Shown, said_of}

-- what the calls of the case's actions, one after another, leave: the trace, memory and the out queues
pub record CaseStepped (c : Case) (t : Store) (es : List Record) : Type 0 where
  pub trace : es ≡ trace_in c
  pub memory : take c.sizes.addresses t.memory ≡ c.memory_after
  pub outs : outs_of t ≡ c.outs_after

pub record Holds (c : Case) : Type 0 where
  -- its list: "144 bytes; length field 140"
  pub bytes : length (list_of c) ≡ c.bytes
  pub field : take word_width (list_of c) ≡ u32_bytes c.field
  -- every fresh store and every chain of steps that the contracts allow
  pub steps : EveryFresh (λ z table m. z ≡ c.sizes → table ≡ c.memory → (t : Store) (es : List Record) → Chain m.store (turn_of c) (length c.turns) t es → CaseStepped c t es)
  -- every result that the run's contract allows, with buffers of every sufficient length: counts, trace and account
  pub ran : EveryRun (λ list trace account r trace' account'.
      list ≡ list_of c → record_width * length c.turns ≤ length trace → line_width * length c.lines ≤ length account → CaseRan c trace account r trace' account')
  -- and what is printed of it, to the byte
  pub printed : EveryRun (λ list trace account r trace' account'. EveryAccountText (λ counts lines out n out'.
      list ≡ list_of c → record_width * length c.turns ≤ length trace → line_width * length c.lines ≤ length account → counts ≡ said_of r → lines ≡ account' → Shown (printed_text c) out n out'))

abbrev pub CasesHold : Type 0
CasesHold = Every Holds cases
