-- Text as bytes, and text written into a buffer that may be too short for it. Assumes nothing.
use Rattle.std.specs.Prelude.{◌≡◌, List, [], ◌∷◌, ◌++◌, ℕ, zero, suc, ◌+◌, length, set}
use Prim.Native.Char.{code}
use Prim.Native.String.{String, [] as no_text, ◌∷◌ as ◌then◌}

-- the bytes of a text in ASCII
abbrev pub ascii : String → List ℕ
ascii no_text = []
ascii (c then s) = code c ∷ ascii s

abbrev pub newline : List ℕ
newline = ascii "\n"

-- old with text from place i on; bytes that do not fit are not written, since `set` past the end changes nothing
unfoldable pub written : List ℕ → ℕ → List ℕ → List ℕ
written old i [] = old
written old i (b ∷ bs) = written (set old i b) (suc i) bs

-- the answer of every function here: the text stands in the buffer from place i on, and r is the place after it
pub record Printed (text old : List ℕ) (i r : ℕ) (new : List ℕ) : Type 0 where
  pub place : r ≡ i + length text
  pub bytes : new ≡ written old i text

-- the texts f 0, f 1, .. f (n - 1), one after another
unfoldable pub series : (ℕ → List ℕ) → ℕ → List ℕ
series f zero = []
series f (suc n) = series f n ++ f n
