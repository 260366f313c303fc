-- B1 to B9, printed: the text of each case's counts and account, computed. One lemma a case, so that a slip is refused by the case that it spoils. Assumes nothing.
use mathlib.Core.Path.{refl}
use Rattle.lists.specs.Bytes.{rows, u32_at}
use Rattle.shape.specs.Case.{Every}
use Rattle.shape.specs.Cases.{B1, B2, B3, B4, B5, B6, B7, B8, B9, cases}
use Rattle.report.specs.Bench.{Prints}
use Rattle.report.specs.Decimal.{digits_within, decimal, field, labelled}
use Rattle.report.specs.Events.{mark_field, kind_field, event_fields, account_line, counts_line, account_text}
use Rattle.report.specs.Text.{series}

B1-prints : Prints B1
unfolding account_text counts_line labelled decimal digits_within series account_line mark_field kind_field event_fields field rows u32_at
B1-prints = record { text = λ rest. refl }

B2-prints : Prints B2
unfolding account_text counts_line labelled decimal digits_within series account_line mark_field kind_field event_fields field rows u32_at
B2-prints = record { text = λ rest. refl }

B3-prints : Prints B3
unfolding account_text counts_line labelled decimal digits_within series account_line mark_field kind_field event_fields field rows u32_at
B3-prints = record { text = λ rest. refl }

B4-prints : Prints B4
unfolding account_text counts_line labelled decimal digits_within series account_line mark_field kind_field event_fields field rows u32_at
B4-prints = record { text = λ rest. refl }

B5-prints : Prints B5
unfolding account_text counts_line labelled decimal digits_within series account_line mark_field kind_field event_fields field rows u32_at
B5-prints = record { text = λ rest. refl }

B6-prints : Prints B6
unfolding account_text counts_line labelled decimal digits_within series account_line mark_field kind_field event_fields field rows u32_at
B6-prints = record { text = λ rest. refl }

B7-prints : Prints B7
unfolding account_text counts_line labelled decimal digits_within series account_line mark_field kind_field event_fields field rows u32_at
B7-prints = record { text = λ rest. refl }

B8-prints : Prints B8
unfolding account_text counts_line labelled decimal digits_within series account_line mark_field kind_field event_fields field rows u32_at
B8-prints = record { text = λ rest. refl }

B9-prints : Prints B9
unfolding account_text counts_line labelled decimal digits_within series account_line mark_field kind_field event_fields field rows u32_at
B9-prints = record { text = λ rest. refl }

pub cases-print : Every Prints cases
cases-print = (B1-prints, (B2-prints, (B3-prints, (B4-prints, (B5-prints, (B6-prints, (B7-prints, (B8-prints, (B9-prints, tt)))))))))
