-- The text of an action by its record, and as which kind it can be shown. Assumes nothing.
use Rattle.std.specs.Prelude.{◌≡◌, List, ◌++◌, ℕ, Bool, true, false, ◌||◌, ◌&&◌, Option, Some, None, eqb}
use Rattle.figure.specs.declared.Record.{Record}
use Rattle.figure.specs.declared.kind.Kind.{Kind}
use Rattle.figure.specs.Kind.{code_of}
use Rattle.figure.specs.Refusals.{pick}
use Rattle.lists.specs.Record.{record_width, record_bytes}
use Rattle.report.specs.Text.{ascii, series}
use Rattle.report.specs.Actions.{shows_address, shows_data, well_formed, action_text, refusal_text, outcome_text, byte_field}

-- what is not shown is 0
abbrev pub zero_where_hidden : Kind → Record → Bool
zero_where_hidden k a = (shows_address (code_of k) || eqb a.address.0 0) && (shows_data (code_of k) || eqb a.«data» 0)

-- the kind of an action that is well formed, and none of another
abbrev pub ShownAs : Record → Option Kind → Type 0
ShownAs a (Some k) = (code_of k ≡ a.kind) × (well_formed a ≡ true)
ShownAs a None = well_formed a ≡ false

-- the bytes of a record, and the text of an action and of the record that a trace has for it
unfoldable pub bytes_said : Record → List ℕ
bytes_said a = ascii " bytes" ++ series (byte_field (record_bytes a) 0) record_width

unfoldable pub step_said : Record → Record → List ℕ
step_said a e = pick (well_formed a) (action_text a ++ outcome_text a.kind e) (bytes_said a ++ refusal_text e)
