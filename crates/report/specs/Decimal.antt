-- A number in decimal digits, with no zero in front; 0 is `0`. Assumes nothing.
use Rattle.std.specs.Prelude.{Bool, true, false, List, [], ◌∷◌, ◌++◌, ℕ, zero, suc, ◌+◌, ◌/◌, ◌%◌, ltb}
use Rattle.report.specs.Text.{ascii}

-- the last digit of n, as a byte
abbrev pub last_digit : ℕ → ℕ
last_digit n = 48 + n % 10

-- a number of at most k digits, and whether it is below 10: the digits before the last, and the last
unfoldable pub digits_within : ℕ → Bool → ℕ → List ℕ
digits_within zero t n = []
digits_within (suc k) true n = last_digit n ∷ []
digits_within (suc k) false n = digits_within k (ltb (n / 10) 10) (n / 10) ++ (last_digit n ∷ [])

-- n has at most n + 1 digits
unfoldable pub decimal : ℕ → List ℕ
decimal n = digits_within (suc n) (ltb n 10) n

-- a number after a space, and after some other text
unfoldable pub field : ℕ → List ℕ
field n = ascii " " ++ decimal n

unfoldable pub labelled : List ℕ → ℕ → List ℕ
labelled label n = label ++ decimal n
