-- The head of a list: its sizes, and the memory values that it has. Assumes nothing.
use Rattle.std.proofs.Common.{◌≡◌, ap, ◌∙◌, ℕ, ◌≤◌, List, ◌++◌, length, take, length-take, arith}
use Rattle.std.proofs.lemmas.List.{get_or-take}
use Rattle.lists.specs.Read.{read_of, memory_table}
use Rattle.report.specs.declared.text.Text.{Text}
use Rattle.report.specs.Text.{newline, series}
use Rattle.report.specs.Decimal.{field}
use Rattle.report.specs.Cursor.{appended}
use Rattle.report.specs.Actions.{sizes_text, value_field, head_line}
use Rattle.report.proofs.Cursor.{appended_append}
use Rattle.report.proofs.Series.{series_same}

pub front-values : (table : List ℕ) (n : ℕ) → n ≤ length table → series (value_field (take n table)) (length (take n table)) ≡ series (value_field table) n
front-values table n h =
    let all : length (take n table) ≡ n = omega (arith, length-take n table) in
    ap (series (value_field (take n table))) all
    ∙ series_same (value_field (take n table)) (value_field table) n (λ k l. ap field (get_or-take n table k 0 l))

pub head-parts : (list : List ℕ) (t : Text) → appended (head_line list) t ≡ appended newline (appended (series (value_field (memory_table list)) (read_of list).sizes.addresses) (appended (sizes_text (read_of list).sizes) t))
unfolding head_line
head-parts list t =
    let sizes = sizes_text (read_of list).sizes in
    let values = series (value_field (memory_table list)) (read_of list).sizes.addresses in
    appended_append (sizes ++ values) newline t ∙ ap (appended newline) (appended_append sizes values t)
