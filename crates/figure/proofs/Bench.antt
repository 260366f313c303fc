-- Document 01's B1 and B4, computed at the level of the figure. Assumes nothing.
use Prim.Native.Nat.{ℕ}
use mathlib.Core.Path.{◌≡◌, refl}
use mathlib.Core.List.{List, [], ◌∷◌}
use Rattle.figure.specs.declared.Sizes.{Sizes}
use Rattle.figure.specs.Figure.{Step, R, W, MW, MR, CU}
use Rattle.figure.specs.Account.{refused, read, wrote, published, refreshed, updated, reading, writing, account, settled}
use Rattle.figure.specs.Demand.{trace_of, book_of, log_of}

-- ---- B1: "2 engines, 2 addresses, depth 2, memory 0 0"

abbrev pub sizes1 : Sizes
sizes1 = record { engines = 2; addresses = 2; depth = 2 }

abbrev pub all_zero : ℕ → ℕ
all_zero a = 0

-- the tenth is 27, the last is 22
abbrev pub list1 : List Step
list1 =
    MR 2 0 ∷ MR 2 1 ∷ CU 2 ∷ CU 2 ∷ W 1 1 1 ∷ W 1 0 7 ∷ R 2 0 ∷ MW 1 ∷ MW 1 ∷ MR 2 0 ∷ CU 2 ∷ R 2 1 ∷ R 2 0 ∷ CU 2 ∷ R 2 0 ∷ R 1 0 ∷ []

pub trace1 : trace_of sizes1 all_zero list1
    ≡ refreshed 2 0 0 ∷ refreshed 2 1 0 ∷ updated 2 0 0 0 ∷ updated 2 0 1 0 ∷ wrote 1 1 1 ∷ wrote 1 0 7 ∷ read 2 0 0 ∷ published 1 1 1 ∷ published 1 0 7
    ∷ refused ∷ updated 2 1 1 1 ∷ read 2 1 1 ∷ read 2 0 0 ∷ updated 2 1 0 7 ∷ read 2 0 7 ∷ refused ∷ []
trace1 = refl

pub log1 : log_of sizes1 all_zero list1 ≡ writing 4 1 1 1 ∷ writing 5 1 0 7 ∷ reading 6 2 0 0 ∷ reading 11 2 1 1 ∷ reading 12 2 0 0 ∷ reading 14 2 0 7 ∷ []
log1 = refl

pub slots1 : (book_of sizes1 all_zero list1).slots
    ≡ (reading 6 2 0 0 ∷ []) ∷ (writing 4 1 1 1 ∷ reading 11 2 1 1 ∷ reading 12 2 0 0 ∷ []) ∷ (writing 5 1 0 7 ∷ reading 14 2 0 7 ∷ []) ∷ []
slots1 = refl

pub account1 : account sizes1 (book_of sizes1 all_zero list1)
    ≡ reading 6 2 0 0 ∷ writing 4 1 1 1 ∷ reading 11 2 1 1 ∷ reading 12 2 0 0 ∷ writing 5 1 0 7 ∷ reading 14 2 0 7 ∷ []
account1 = refl

pub settled1 : settled sizes1 (book_of sizes1 all_zero list1) ≡ reading 6 2 0 0 ∷ []
settled1 = refl

-- ---- B4: "2 engines, 1 address, depth 2, memory 3"

abbrev pub sizes4 : Sizes
sizes4 = record { engines = 2; addresses = 1; depth = 2 }

abbrev pub threes : ℕ → ℕ
threes a = 3

abbrev pub list4 : List Step
list4 = MR 1 0 ∷ W 2 0 4 ∷ MW 2 ∷ CU 1 ∷ R 1 0 ∷ CU 1 ∷ R 1 0 ∷ []

pub trace4 : trace_of sizes4 threes list4
    ≡ refreshed 1 0 3 ∷ wrote 2 0 4 ∷ published 2 0 4 ∷ updated 1 0 0 3 ∷ read 1 0 3 ∷ updated 1 2 0 4 ∷ read 1 0 4 ∷ []
trace4 = refl

pub log4 : log_of sizes4 threes list4 ≡ writing 1 2 0 4 ∷ reading 4 1 0 3 ∷ reading 6 1 0 4 ∷ []
log4 = refl

pub slots4 : (book_of sizes4 threes list4).slots ≡ (reading 4 1 0 3 ∷ []) ∷ (writing 1 2 0 4 ∷ reading 6 1 0 4 ∷ []) ∷ []
slots4 = refl

pub account4 : account sizes4 (book_of sizes4 threes list4) ≡ reading 4 1 0 3 ∷ writing 1 2 0 4 ∷ reading 6 1 0 4 ∷ []
account4 = refl

pub settled4 : settled sizes4 (book_of sizes4 threes list4) ≡ reading 4 1 0 3 ∷ []
settled4 = refl
