-- Which actions are well formed, by their kind, and which text stands for them. Assumes nothing.
use mathlib.Core.Path.{◌≡◌, refl, ap, ap₂, ◌∙◌}
use mathlib.Core.Bool.{true, false, ◌&&◌}
use mathlib.Core.List.{List, ◌++◌}
use Prim.Native.Nat.{ℕ, ◌+◌, ◌*◌, ◌<◌, ◌≤◌}
use native.Mathlib.Nat.{zero-add}
use lib.Dec.{eqb}
use lib.ListN.{length, get_or, drop, replicate}
use Rattle.std.proofs.lemmas.List.{get_or-take, get_or-drop}
use Rattle.figure.specs.declared.Record.{Record}
use Rattle.figure.specs.declared.kind.Kind.{Kind}
use Rattle.figure.specs.declared.kind.Kind.TheVariants.{Read, Write, Publish, Refresh, Update, Forget}
use Rattle.figure.specs.Kind.{code_of}
use Rattle.figure.specs.Refusals.{outside}
use Rattle.lists.specs.Bytes.{Bytes, put}
use Rattle.lists.specs.Record.{record_width, record_at, record_bytes}
use Rattle.lists.proofs.Numbers.{record-bytes}
use Rattle.report.specs.declared.text.Text.{Text}
use Rattle.report.specs.Text.{ascii, newline, series}
use Rattle.report.specs.Cursor.{appended}
use Rattle.report.specs.Actions.{well_formed, action_text, refusal_text, outcome_text, byte_field, bytes_text, step_text, step_line}
use Rattle.report.specs.Decimal.{decimal}
use Rattle.report.specs.Hex.{hex_byte}
use Rattle.report.specs.Form.{zero_where_hidden, bytes_said, step_said}
use Rattle.report.proofs.Cursor.{appended_append}
use Rattle.report.proofs.Series.{series_same}

pub form_unknown : (a : Record) → outside 1 6 a.kind ≡ true → well_formed a ≡ false
form_unknown a e = rw (e)

pub form_known : (k : Kind) (a : Record) → code_of k ≡ a.kind → well_formed a ≡ (eqb a.origin.0 0 && zero_where_hidden k a)
form_known Read a e = rw (← e) refl
form_known Write a e = rw (← e) refl
form_known Publish a e = rw (← e) refl
form_known Refresh a e = rw (← e) refl
form_known Update a e = rw (← e) refl
form_known Forget a e = rw (← e) refl

module _ (a e : Record) (t : Text) where
  pub step_well : well_formed a ≡ true → appended (step_said a e) t ≡ appended (outcome_text a.kind e) (appended (action_text a) t)
  unfolding step_said
  step_well h = rw (h) (appended_append (action_text a) (outcome_text a.kind e) t)

  pub step_badly : well_formed a ≡ false → appended (step_said a e) t ≡ appended (refusal_text e) (appended (bytes_said a) t)
  unfolding step_said
  step_badly h = rw (h) (appended_append (bytes_said a) (refusal_text e) t)

-- a record put into 8 bytes, and the text of its bytes
pub record-alone : (a : Record) → put (replicate record_width 0) 0 (record_bytes a) ≡ record_bytes a
unfolding put
record-alone a = refl

pub bytes-parts : (a : Record) (t : Text) → appended (bytes_said a) t ≡ appended (series (byte_field (record_bytes a) 0) record_width) (appended (ascii " bytes") t)
unfolding bytes_said
bytes-parts a t = appended_append (ascii " bytes") (series (byte_field (record_bytes a) 0) record_width) t

-- ---- an action that stands in a list
module _ (list : List ℕ) (i : ℕ) (b : Bytes list) (h : i + record_width ≤ length list) where
  byte_same : (k : ℕ) → k < record_width → byte_field (record_bytes (record_at list i)) 0 k ≡ byte_field list i k
  byte_same k l =
      let same : get_or (record_bytes (record_at list i)) (0 + k) 0 ≡ get_or list (i + k) 0 =
      ap₂ (λ (xs : List ℕ) (n : ℕ). get_or xs n 0) (record-bytes list i b h) (zero-add k)
      ∙ (get_or-take record_width (drop i list) k 0 l ∙ get_or-drop i list k 0) in
      ap (λ (x : ℕ). ascii " " ++ hex_byte x) same

  bytes_same : bytes_said (record_at list i) ≡ bytes_text list i
  unfolding bytes_said bytes_text
  bytes_same = ap (λ (xs : List ℕ). ascii " bytes" ++ xs) (series_same (byte_field (record_bytes (record_at list i)) 0) (byte_field list i) record_width byte_same)

  pub step-same : (e : Record) → step_said (record_at list i) e ≡ step_text list i e
  unfolding step_said step_text
  step-same e = rw (bytes_same) refl

-- a line: its place, the action and what came of it, and its end
pub line-parts : (list : List ℕ) (first : ℕ) (trace : List ℕ) (k : ℕ) (t : Text) → appended (step_line list first trace k) t ≡ appended newline (appended (step_text list (first + record_width * k) (record_at trace (record_width * k))) (appended (decimal (k + 1)) t))
unfolding step_line
line-parts list first trace k t =
    let step = step_text list (first + record_width * k) (record_at trace (record_width * k)) in
    appended_append (decimal (k + 1) ++ step) newline t ∙ ap (appended newline) (appended_append (decimal (k + 1)) step t)
