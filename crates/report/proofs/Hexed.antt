-- What the library writes for bytes in hexadecimal digits. Assumes nothing.
use Rattle.std.proofs.Common.{◌≡◌, refl, ◌∙◌, ℕ, zero, suc, ◌/◌, ◌%◌, ◌^◌, ◌<◌, ◌==◌, Bool, true, ◌&&◌, inl, inr, List, [], ◌∷◌, ◌++◌, slice_index, arith, w64}
use Rattle.std.proofs.lemmas.Bool.{and_parts, cases_lt, eqb-true}
use Rattle.std.specs.Int.{byte_at, bytes_high_first, to_be_bytes}
use Rattle.hex.specs.Hex.{lower_digits, encode_with, encode_lower}
use Rattle.report.specs.Hex.{hex_digit, hex_byte, hex_word}

-- ---- each of the library's 16 digits is ours
abbrev same_below : ℕ → Bool
same_below zero = true
same_below (suc n) = (slice_index lower_digits n == hex_digit n) && same_below n

digit_below : (n d : ℕ) → same_below n ≡ true → d < n → slice_index lower_digits d ≡ hex_digit d
digit_below zero d t h = absurd (omega arith)
digit_below (suc n) d t h =
    let parts = and_parts (slice_index lower_digits n == hex_digit n) (same_below n) t in
    elim (cases_lt d n) [
      | inl below ↦ digit_below n d parts.1 below
      | inr top ↦
          let e : d ≡ n = omega arith in
          rw e (eqb-true (slice_index lower_digits n) (hex_digit n) parts.0)
    ]

digit_same : (d : ℕ) → d < 16 → slice_index lower_digits d ≡ hex_digit d
digit_same d h = digit_below 16 d refl h

-- two digits for each byte
abbrev hexed : List ℕ → List ℕ
hexed [] = []
hexed (b ∷ bs) = hex_byte b ++ hexed bs

byte_more : (b : ℕ) (bs : List ℕ) → b < 256 → encode_lower (b ∷ bs) ≡ hex_byte b ++ encode_lower bs
unfolding encode_with hex_byte
byte_more b bs h = rw (digit_same (b / 16) (omega arith), digit_same (b % 16) (omega arith)) refl

byte_small : (k n : ℕ) → byte_at k n < 256
byte_small zero n = omega arith
byte_small (suc k) n = omega arith

number_hexed : (k n : ℕ) → encode_lower (bytes_high_first k n) ≡ hexed (bytes_high_first k n)
unfolding encode_with
number_hexed zero n = refl
number_hexed (suc k) n = byte_more (byte_at k n) (bytes_high_first k n) (byte_small k n) ∙ rw (number_hexed k n) refl

-- ---- a byte, and the bytes of a hash
pub byte_digits : (b : ℕ) → b < 256 → encode_lower (b ∷ []) ≡ hex_byte b
unfolding encode_with hex_byte
byte_digits b h = byte_more b [] h

pub hash_digits : (hash : ℕ) → hash < 2 ^ 64 → encode_lower (to_be_bytes w64 hash) ≡ hex_word (hash / 2 ^ 32) ++ hex_word (hash % 2 ^ 32)
unfolding hex_word hex_byte
hash_digits hash h =
    let a : hash / 72057594037927936 % 256 ≡ hash / 2 ^ 32 / 16777216 = omega arith in
    let b : hash / 281474976710656 % 256 ≡ hash / 2 ^ 32 / 65536 % 256 = omega arith in
    let c : hash / 1099511627776 % 256 ≡ hash / 2 ^ 32 / 256 % 256 = omega arith in
    let d : hash / 16777216 % 256 ≡ hash % 2 ^ 32 / 16777216 = omega arith in
    let e : hash / 65536 % 256 ≡ hash % 2 ^ 32 / 65536 % 256 = omega arith in
    let f : hash / 256 % 256 ≡ hash % 2 ^ 32 / 256 % 256 = omega arith in
    let g : hash % 256 ≡ hash % 2 ^ 32 % 256 = omega arith in
    number_hexed 8 hash ∙ rw (a, b, c, d, e, f, g) refl
