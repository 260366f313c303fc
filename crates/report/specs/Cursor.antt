-- A place in a buffer, and text appended there. Assumes nothing.
use Rattle.std.specs.Prelude.{List, [], ◌∷◌, ℕ, ◌+◌, ◌%◌, ◌^◌, set}
use Rattle.std.specs.Borrow.{MutBor}
use Rattle.report.specs.declared.text.Text.{Text}

-- the front of a buffer
abbrev pub started : MutBor (List ℕ) → Text
started out = record { out = out; at = 0 }

-- one byte more: it is not written where the buffer has ended, but it counts. The place is a number of the code, which no text here comes near to
abbrev pub pushed : ℕ → Text → Text
pushed b t = record { out = record t.out { now = set t.out.now t.at b }; at = (t.at + 1) % 2 ^ 64 }

unfoldable pub appended : List ℕ → Text → Text
appended [] t = t
appended (b ∷ bs) t = appended bs (pushed b t)
