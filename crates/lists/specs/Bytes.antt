-- Numbers in a list of bytes, most significant byte first, and bytes put into a buffer. Assumes nothing.
use Rattle.std.specs.Prelude.{List, [], ◌∷◌, ◌++◌, ℕ, ◌+◌, ◌-◌, ◌*◌, ◌/◌, ◌%◌, ◌<◌, length, get_or, take, drop, replicate, leb}
use Rattle.figure.specs.Refusals.{pick}

-- every number of the list is a byte
abbrev pub Bytes : List ℕ → Type 0
Bytes s = (i : ℕ) → get_or s i 0 < 256

-- byte i of s, 0 past its end
abbrev pub byte_at : List ℕ → ℕ → ℕ
byte_at s i = get_or s i 0

-- the number of four bytes, big-endian
abbrev pub number_of : ℕ → ℕ → ℕ → ℕ → ℕ
number_of a b c d = a * 16777216 + b * 65536 + c * 256 + d

-- the number whose four bytes stand at place i
unfoldable pub u32_at : List ℕ → ℕ → ℕ
u32_at s i = number_of (byte_at s i) (byte_at s (i + 1)) (byte_at s (i + 2)) (byte_at s (i + 3))

-- how many bytes a number has
abbrev pub word_width : ℕ
word_width = 4

-- the four bytes of x, big-endian
abbrev pub u32_bytes : ℕ → List ℕ
u32_bytes x = x / 16777216 ∷ x / 65536 % 256 ∷ x / 256 % 256 ∷ x % 256 ∷ []

-- the row of each thing, one after another
unfoldable pub rows : {A B : Type 0} → (A → List B) → List A → List B
rows f [] = []
rows f (x ∷ xs) = f x ++ rows f xs

-- n numbers: those of the list, and zeros past them
abbrev pub padded : ℕ → List ℕ → List ℕ
padded n xs = xs ++ replicate (n - length xs) 0

-- old with bytes from a place on; old itself where they do not fit
unfoldable pub put : List ℕ → ℕ → List ℕ → List ℕ
put old at bytes =
    pick (leb (at + length bytes) (length old)) (take at old ++ bytes ++ drop (at + length bytes) old) old

-- bytes over the front of old: "Bytes past what is written stay."
unfoldable pub laid : List ℕ → List ℕ → List ℕ
laid bytes old = bytes ++ drop (length bytes) old
