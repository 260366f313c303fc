-- What people read: "prints either `refused N` or the counts and the account". Assumes nothing.
use Rattle.std.specs.Prelude.{◌≡◌, Result, Ok, Err, List, ◌++◌, ℕ, ◌≤◌, eqb, length, take}
use Rattle.demands.specs.Run.{Answered, answered_by}
use Rattle.demands.specs.declared.Counts.{Counts}
use Rattle.figure.specs.Refusals.{pick}
use Rattle.figure.specs.declared.refused.Refused.{Refused}
use Rattle.lists.specs.Bytes.{laid}
use Rattle.report.specs.Actions.{head_line, step_lines, most_show_text}
use Rattle.report.specs.Events.{numbered, account_line, counts_line, refused_line, most_account_text}
use Rattle.report.specs.Hex.{trace_text, trace_text_length}
use Rattle.report.specs.Text.{series}
use Rattle.promises.specs.Calls.{EveryRun, EveryNumbered, EveryAccountText, EveryTraceText, EveryShowText}

-- n is the text's length; the text stands at the front of the lent buffer, and of one that is too short for it its first bytes
pub record Shown (text out : List ℕ) (n : ℕ) (out' : List ℕ) : Type 0 where
  pub length_is : n ≡ length text
  pub front : length text ≤ length out → out' ≡ laid text out
  pub cut : length out ≤ length text → out' ≡ take (length out) text

-- what is handed on of a run's answer: its counts, or the number of its refusal
abbrev pub said_of : Answered → Result Counts ℕ
said_of r = pick (eqb r.number 0) (Ok (record { accepted = r.accepted; refused = r.refused; events = r.events; settled = r.settled })) (Err r.number)

-- the counts, and a line for each event of the account
abbrev pub account_lines : Answered → List ℕ → List ℕ
account_lines c account = counts_line c ++ series (account_line account) c.events

pub record TextsKept : Type 0 where
  -- the programs hand on what `report::numbered` makes of a run's answer
  pub handed_on : (r : Result Counts Refused) → said_of (answered_by r) ≡ numbered r
  pub handed_on_by : EveryNumbered (λ r c. c ≡ said_of r)
  -- what `account` prints of any run, no event left out
  pub account : EveryRun (λ list trace account r trace' account'. EveryAccountText (λ c bytes out n out'.
      c ≡ said_of r → bytes ≡ account' → Shown (pick (eqb r.number 0) (account_lines r account') (refused_line r.number)) out n out'))
  -- what `show` prints of any run: the head, a line for each action, and the same
  pub shown : EveryRun (λ list trace account r trace' account'. EveryShowText (λ list₂ c records bytes out n out'.
      list₂ ≡ list → c ≡ said_of r → records ≡ trace' → bytes ≡ account'
      → Shown (pick (eqb r.number 0) (head_line list ++ step_lines list trace' ++ account_lines r account') (refused_line r.number)) out n out'))
  -- what `replay` prints of a trace's hash
  pub traced : EveryTraceText (λ hash out n out'. Shown (trace_text hash) out n out')
  -- how long a buffer always is long enough, whatever counts and bytes are given
  pub account_most : EveryAccountText (λ c bytes out n out'. n ≤ most_account_text)
  pub show_most : EveryShowText (λ list c records bytes out n out'. n ≤ most_show_text)
  pub trace_most : EveryTraceText (λ hash out n out'. n ≤ trace_text_length)
