-- Decimal digits, one by one. Assumes nothing.
use mathlib.Core.Path.{◌≡◌, refl, sym, ap, ◌∙◌}
use mathlib.Core.Bool.{Bool, true, false}
use mathlib.Core.List.{List, [], ◌∷◌, ◌++◌}
use Prim.Native.Nat.{ℕ, zero, suc, ◌+◌, ◌-◌, ◌*◌, ◌/◌, ◌%◌, ◌^◌, ◌≤◌, ◌<◌}
use native.Mathlib.Omega.{arith}
use borrow.Author.Tests.{lt-ltb, le-ltb, ltb-true, ltb-false}
use lib.Dec.{ltb}
use lib.ListN.{length, length-append}
use Rattle.std.specs.Fmt.{decimal as std_decimal}
use Rattle.std.proofs.lemmas.Fmt.{decimal_digit, decimal_step}
use Rattle.report.specs.Decimal.{last_digit, digits_within, decimal}

-- any bound on the number of digits gives the same digits
within-any : (k j : ℕ) (t : Bool) (n : ℕ) → ltb n 10 ≡ t → n < k → n < j → digits_within k t n ≡ digits_within j t n
unfolding digits_within
within-any zero j t n e h g = absurd (omega arith)
within-any (suc k) zero t n e h g = absurd (omega arith)
within-any (suc k) (suc j) true n e h g = refl
within-any (suc k) (suc j) false n e h g =
    let big : 10 ≤ n = ltb-false n 10 e in
    rw (within-any k j (ltb (n / 10) 10) (n / 10) refl (omega arith) (omega arith))

-- ---- what `decimal` is: one digit below 10, and else the digits of n / 10 and one more
pub decimal_low : (n : ℕ) → n < 10 → decimal n ≡ last_digit n ∷ []
unfolding decimal digits_within
decimal_low n h = rw (lt-ltb n 10 h)

pub decimal_high : (n : ℕ) → 10 ≤ n → decimal n ≡ decimal (n / 10) ++ (last_digit n ∷ [])
unfolding decimal digits_within
decimal_high n h =
    rw (le-ltb n 10 h, within-any n (suc (n / 10)) (ltb (n / 10) 10) (n / 10) refl (omega arith) (omega arith))

-- a number of the code is written as the library writes it
same_within : (k n : ℕ) → n < k → n < 2 ^ 64 → std_decimal n ≡ decimal n
same_within zero n h f = absurd (omega arith)
same_within (suc k) n h f = at (ltb n 10) refl (same_within k (n / 10))
  where
    at : (t : Bool) → ltb n 10 ≡ t → (n / 10 < k → n / 10 < 2 ^ 64 → std_decimal (n / 10) ≡ decimal (n / 10)) → std_decimal n ≡ decimal n
    at true e g =
        let small : n % 10 ≡ n = omega (arith, ltb-true n 10 e) in
        decimal_digit n (ltb-true n 10 e) ∙ sym (decimal_low n (ltb-true n 10 e) ∙ rw (small) refl)
    at false e g =
        let big : 10 ≤ n = ltb-false n 10 e in
        decimal_step n big f ∙ (ap (λ (xs : List ℕ). xs ++ (last_digit n ∷ [])) (g (omega arith) (omega arith)) ∙ sym (decimal_high n big))

pub same_decimal : (n : ℕ) → n < 2 ^ 64 → std_decimal n ≡ decimal n
same_decimal n f = same_within (suc n) n (omega arith) f

length-low : (n : ℕ) → n < 10 → length (decimal n) ≡ 1
length-low n h = ap length (decimal_low n h)

length_high : (n : ℕ) → 10 ≤ n → length (decimal n) ≡ length (decimal (n / 10)) + 1
length_high n h = ap length (decimal_high n h) ∙ length-append (decimal (n / 10)) (last_digit n ∷ [])

-- a number below 10 ^ k has at most k digits
pub length-decimal : (k n : ℕ) → n < 10 ^ suc k → length (decimal n) ≤ suc k
length-decimal zero n h = omega (arith, length-low n h)
length-decimal (suc k) n h = at (ltb n 10) refl (length-decimal k (n / 10))
  where
    at : (t : Bool) → ltb n 10 ≡ t → (n / 10 < 10 ^ suc k → length (decimal (n / 10)) ≤ suc k) → length (decimal n) ≤ suc (suc k)
    at true e f = omega (arith, length-low n (ltb-true n 10 e))
    at false e f =
        let big : 10 ≤ n = ltb-false n 10 e in
        omega (arith, length_high n big, f (omega arith))

-- ---- the digits of n, read as a number, are n
abbrev value_from : ℕ → List ℕ → ℕ
value_from x [] = x
value_from x (d ∷ ds) = value_from (x * 10 + (d - 48)) ds

value-more : (x : ℕ) (ds : List ℕ) (d : ℕ) → value_from x (ds ++ (d ∷ [])) ≡ value_from x ds * 10 + (d - 48)
value-more x [] d = refl
value-more x (e ∷ ds) d = value-more (x * 10 + (e - 48)) ds d

value-within : (k : ℕ) (t : Bool) (n : ℕ) → ltb n 10 ≡ t → n < k → value_from 0 (digits_within k t n) ≡ n
unfolding digits_within
value-within zero t n e h = absurd (omega arith)
value-within (suc k) true n e h = omega (arith, ltb-true n 10 e)
value-within (suc k) false n e h =
    let big : 10 ≤ n = ltb-false n 10 e in
    value-more 0 (digits_within k (ltb (n / 10) 10) (n / 10)) (last_digit n)
    ∙ omega (arith, value-within k (ltb (n / 10) 10) (n / 10) refl (omega arith))

pub decimal-value : (n : ℕ) → value_from 0 (decimal n) ≡ n
unfolding decimal
decimal-value n = value-within (suc n) (ltb n 10) n refl (omega arith)
