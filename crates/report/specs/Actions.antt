-- What program `show` prints of a run: the list's head, its actions and what came of each, and the account. Assumes nothing.
use Rattle.std.specs.Prelude.{Result, Ok, Err, Bool, not, ◌&&◌, ◌||◌, List, [], ◌++◌, ℕ, ◌+◌, ◌*◌, eqb, get_or}
use Rattle.figure.specs.declared.Record.{Record}
use Rattle.figure.specs.declared.Sizes.{Sizes}
use Rattle.figure.specs.Refusals.{pick, outside, most_actions}
use Rattle.lists.specs.Bytes.{byte_at}
use Rattle.lists.specs.Record.{record_width, record_at}
use Rattle.lists.specs.Read.{read_of, memory_table}
use Rattle.demands.specs.Run.{Answered, answered_by}
use Rattle.demands.specs.declared.Counts.{Counts}
use Rattle.report.specs.Text.{ascii, newline, series}
use Rattle.report.specs.Decimal.{decimal, field, labelled}
use Rattle.report.specs.Hex.{hex_byte}
use Rattle.report.specs.Events.{account_text, most_account_text, refused_line}

-- ---- the head, `engines E addresses M depth D memory v0 v1 ..`

unfoldable pub sizes_text : Sizes → List ℕ
sizes_text z =
    labelled (ascii "engines ") z.engines
    ++ labelled (ascii " addresses ") z.addresses
    ++ labelled (ascii " depth ") z.depth
    ++ ascii " memory"

abbrev pub value_field : List ℕ → ℕ → List ℕ
value_field values k = field (get_or values k 0)

unfoldable pub head_line : List ℕ → List ℕ
head_line list =
    sizes_text (read_of list).sizes
    ++ series (value_field (memory_table list)) (read_of list).sizes.addresses
    ++ newline

-- ---- an action, as the table of steps has it: R i a, W i a d, MW i, MR i a, CU i, CI i a

abbrev pub kind_name : ℕ → List ℕ
kind_name k =
    pick (eqb k 1) (ascii " R")
    (pick (eqb k 2) (ascii " W")
    (pick (eqb k 3) (ascii " MW")
    (pick (eqb k 4) (ascii " MR")
    (pick (eqb k 5) (ascii " CU")
    (ascii " CI")))))

-- MW and CU name no address; W alone has data
abbrev pub shows_address : ℕ → Bool
shows_address k = not (eqb k 3 || eqb k 5)

abbrev pub shows_data : ℕ → Bool
shows_data k = eqb k 2

unfoldable pub field_when : Bool → ℕ → List ℕ
field_when t n = pick t (field n) []

unfoldable pub action_text : Record → List ℕ
action_text a =
    kind_name a.kind
    ++ field a.engine.0
    ++ field_when (shows_address a.kind) a.address.0
    ++ field_when (shows_data a.kind) a.«data»

-- it can be shown so: its kind is known, and what is not shown is 0
abbrev pub well_formed : Record → Bool
well_formed a =
    not (outside 1 6 a.kind)
    && (eqb a.origin.0 0
    && ((shows_address a.kind || eqb a.address.0 0)
    && (shows_data a.kind || eqb a.«data» 0)))

-- ---- what came of it: `v` for R and MR, `a d` for MW, `o a d` for CU, `ok` for W and CI

abbrev pub no_answer : ℕ → Bool
no_answer k = eqb k 2 || eqb k 6

unfoldable pub ok_when : Bool → List ℕ
ok_when t = pick t (ascii " ok") []

unfoldable pub answer_text : ℕ → Record → List ℕ
answer_text k e =
    ascii " ->"
    ++ field_when (eqb k 5) e.origin.0
    ++ field_when (not (shows_address k)) e.address.0
    ++ field_when (not (no_answer k)) e.«data»
    ++ ok_when (no_answer k)

-- "Its trace record is kind 0, the refusal number in the engine byte, then zeros."
unfoldable pub refusal_text : Record → List ℕ
refusal_text e = labelled (ascii " -> refused ") e.engine.0

unfoldable pub outcome_text : ℕ → Record → List ℕ
outcome_text k e = pick (eqb e.kind 0) (refusal_text e) (answer_text k e)

-- ---- a badly formed action, as the bytes that it is

abbrev pub byte_field : List ℕ → ℕ → ℕ → List ℕ
byte_field list i k = ascii " " ++ hex_byte (byte_at list (i + k))

unfoldable pub bytes_text : List ℕ → ℕ → List ℕ
bytes_text list i = ascii " bytes" ++ series (byte_field list i) record_width

-- ---- the line of action k, whose record stands in the list at place i

unfoldable pub step_text : List ℕ → ℕ → Record → List ℕ
step_text list i e =
    pick (well_formed (record_at list i))
    (action_text (record_at list i) ++ outcome_text (record_at list i).kind e)
    (bytes_text list i ++ refusal_text e)

unfoldable pub step_line : List ℕ → ℕ → List ℕ → ℕ → List ℕ
step_line list first trace k =
    decimal (k + 1)
    ++ step_text list (first + record_width * k) (record_at trace (record_width * k))
    ++ newline

unfoldable pub step_lines : List ℕ → List ℕ → List ℕ
step_lines list trace = series (step_line list (read_of list).actions_at trace) (read_of list).actions

-- ---- the whole

unfoldable pub show_text : List ℕ → Answered → List ℕ → List ℕ → List ℕ
show_text list c trace account =
    pick (eqb c.number 0)
    (head_line list ++ step_lines list trace ++ account_text c account)
    (refused_line c.number)

-- of a run's answer, whatever number is given as a refusal
unfoldable pub show_said : List ℕ → Result Counts ℕ → List ℕ → List ℕ → List ℕ
show_said list (Ok c) trace account = show_text list (answered_by (Ok c)) trace account
show_said list (Err n) trace account = refused_line n

-- how long it can be: 747 bytes of head, lines of 52 bytes, and the account
abbrev pub most_show_text : ℕ
most_show_text = 747 + 52 * most_actions + most_account_text
