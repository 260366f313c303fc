-- B1 to B9, as document 01 gives them. "Below, memory is 0 and depth 1 where not given; B6 and B8 have B7's sizes." Assumes nothing.
use Rattle.std.specs.Prelude.{List, [], ◌∷◌}
use Rattle.shape.specs.Case.{Case, size, line, «-», rec, R, W, MW, MR, CU, CI, ok, ◌gives◌, ◌is◌, publishes, takes}

-- "2 engines, 2 addresses, depth 2, memory 0 0 (144 bytes; length field 140)"
abbrev pub B1 : Case
B1 =
    record {
      sizes = size 2 2 2;
      memory = 0 ∷ 0 ∷ [];
      turns =
          MR 2 0 gives 0
          ∷ MR 2 1 gives 0
          ∷ takes 2 0 0 0
          ∷ takes 2 0 1 0
          ∷ ok (W 1 1 1)
          ∷ ok (W 1 0 7)
          ∷ R 2 0 gives 0
          ∷ publishes 1 1 1
          ∷ publishes 1 0 7
          ∷ MR 2 0 is 27
          ∷ takes 2 1 1 1
          ∷ R 2 1 gives 1
          ∷ R 2 0 gives 0
          ∷ takes 2 1 0 7
          ∷ R 2 0 gives 7
          ∷ R 1 0 is 22
          ∷ [];
      bytes = 144;
      field = 140;
      accepted = 14;
      refused = 2;
      lines =
          line 0 (rec 1 2 0 0 0)
          ∷ line 1 (W 1 1 1)
          ∷ line 1 (rec 1 2 0 1 1)
          ∷ line 1 (rec 1 2 0 0 0)
          ∷ line 2 (W 1 0 7)
          ∷ line 2 (rec 1 2 0 0 7)
          ∷ [];
      settled = 1;
      printed =
          "accepted 14 refused 2 events 6 settled 1"
          ∷ "1 0 R 2 0 0"
          ∷ "2 1 W 1 1 1"
          ∷ "3 1 R 2 1 1"
          ∷ "4 1 R 2 0 0"
          ∷ "5 2 W 1 0 7"
          ∷ "6 2 R 2 0 7"
          ∷ [];
      memory_after = 7 ∷ 1 ∷ [];
      outs_after = [] ∷ [] ∷ [];
    }

-- "W 1 0 1; then R 1 1 is 21. MW 1; R 1 0 is 22. CU 1; R 1 0 gives 1; R 1 1 is 23."
abbrev pub B2 : Case
B2 =
    record {
      sizes = size 2 2 1;
      memory = 0 ∷ 0 ∷ [];
      turns = ok (W 1 0 1) ∷ R 1 1 is 21 ∷ publishes 1 0 1 ∷ R 1 0 is 22 ∷ takes 1 1 0 1 ∷ R 1 0 gives 1 ∷ R 1 1 is 23 ∷ [];
      bytes = 72;
      field = 68;
      accepted = 4;
      refused = 3;
      lines = line 1 (W 1 0 1) ∷ line 1 (rec 1 1 0 0 1) ∷ [];
      settled = 0;
      printed =
          "accepted 4 refused 3 events 2 settled 0"
          ∷ "1 1 W 1 0 1"
          ∷ "2 1 R 1 0 1"
          ∷ [];
      memory_after = 1 ∷ 0 ∷ [];
      outs_after = [] ∷ [] ∷ [];
    }

-- "W 2 0 9; W 1 0 8; W 2 0 5 is 24. Account: engine 1's 8, then engine 2's 9, both `-`; settled 0."
abbrev pub B3 : Case
B3 =
    record {
      sizes = size 2 1 1;
      memory = 0 ∷ [];
      turns = ok (W 2 0 9) ∷ ok (W 1 0 8) ∷ W 2 0 5 is 24 ∷ [];
      bytes = 36;
      field = 32;
      accepted = 2;
      refused = 1;
      lines = line «-» (W 1 0 8) ∷ line «-» (W 2 0 9) ∷ [];
      settled = 0;
      printed =
          "accepted 2 refused 1 events 2 settled 0"
          ∷ "1 - W 1 0 8"
          ∷ "2 - W 2 0 9"
          ∷ [];
      memory_after = 0 ∷ [];
      outs_after = (0 ∷ 8 ∷ []) ∷ (0 ∷ 9 ∷ []) ∷ [];
    }

-- "MR 1 0; W 2 0 4; MW 2; CU 1 (origin 0); R 1 0 gives 3, slot 0; CU 1 (origin 2); R 1 0 gives 4, slot 1. Settled 1."
abbrev pub B4 : Case
B4 =
    record {
      sizes = size 2 1 2;
      memory = 3 ∷ [];
      turns = MR 1 0 gives 3 ∷ ok (W 2 0 4) ∷ publishes 2 0 4 ∷ takes 1 0 0 3 ∷ R 1 0 gives 3 ∷ takes 1 2 0 4 ∷ R 1 0 gives 4 ∷ [];
      bytes = 68;
      field = 64;
      accepted = 7;
      refused = 0;
      lines = line 0 (rec 1 1 0 0 3) ∷ line 1 (W 2 0 4) ∷ line 1 (rec 1 1 0 0 4) ∷ [];
      settled = 1;
      printed =
          "accepted 7 refused 0 events 3 settled 1"
          ∷ "1 0 R 1 0 3"
          ∷ "2 1 W 2 0 4"
          ∷ "3 1 R 1 0 4"
          ∷ [];
      memory_after = 4 ∷ [];
      outs_after = [] ∷ [] ∷ [];
    }

-- "W 1 0 5; MW 1; CU 1; R 1 0 gives 5. Settled 2."
abbrev pub B5 : Case
B5 =
    record {
      sizes = size 1 1 1;
      memory = 0 ∷ [];
      turns = ok (W 1 0 5) ∷ publishes 1 0 5 ∷ takes 1 1 0 5 ∷ R 1 0 gives 5 ∷ [];
      bytes = 44;
      field = 40;
      accepted = 4;
      refused = 0;
      lines = line 1 (W 1 0 5) ∷ line 1 (rec 1 1 0 0 5) ∷ [];
      settled = 2;
      printed =
          "accepted 4 refused 0 events 2 settled 2"
          ∷ "1 1 W 1 0 5"
          ∷ "2 1 R 1 0 5"
          ∷ [];
      memory_after = 5 ∷ [];
      outs_after = [] ∷ [];
    }

-- "no actions: all counts 0, one line printed"
abbrev pub B6 : Case
B6 =
    record {
      sizes = size 2 1 1;
      memory = 0 ∷ [];
      turns = [];
      bytes = 12;
      field = 8;
      accepted = 0;
      refused = 0;
      lines = [];
      settled = 0;
      printed =
          "accepted 0 refused 0 events 0 settled 0"
          ∷ [];
      memory_after = 0 ∷ [];
      outs_after = [] ∷ [] ∷ [];
    }

-- "MR 2 0; W 1 0 1; MW 1 is 26, memory and out queue as before."
abbrev pub B7 : Case
B7 =
    record {
      sizes = size 2 1 1;
      memory = 0 ∷ [];
      turns = MR 2 0 gives 0 ∷ ok (W 1 0 1) ∷ MW 1 is 26 ∷ [];
      bytes = 36;
      field = 32;
      accepted = 2;
      refused = 1;
      lines = line «-» (W 1 0 1) ∷ [];
      settled = 0;
      printed =
          "accepted 2 refused 1 events 1 settled 0"
          ∷ "1 - W 1 0 1"
          ∷ [];
      memory_after = 0 ∷ [];
      outs_after = (0 ∷ 1 ∷ []) ∷ [] ∷ [];
    }

-- "fresh: CI 1 0 accepted; MW 1 is 25; CU 1 is 28; R 1 0 is 23."
abbrev pub B8 : Case
B8 =
    record {
      sizes = size 2 1 1;
      memory = 0 ∷ [];
      turns = ok (CI 1 0) ∷ MW 1 is 25 ∷ CU 1 is 28 ∷ R 1 0 is 23 ∷ [];
      bytes = 44;
      field = 40;
      accepted = 1;
      refused = 3;
      lines = [];
      settled = 0;
      printed =
          "accepted 1 refused 3 events 0 settled 0"
          ∷ [];
      memory_after = 0 ∷ [];
      outs_after = [] ∷ [] ∷ [];
    }

-- "kind 7 with engine 9 is 11; R of engine 9 is 12; R 1 at address 1 with data 5 is 13; R 1 0 with data 5 is 14."
abbrev pub B9 : Case
B9 =
    record {
      sizes = size 1 1 1;
      memory = 0 ∷ [];
      turns = rec 7 9 0 0 0 is 11 ∷ R 9 0 is 12 ∷ rec 1 1 0 1 5 is 13 ∷ rec 1 1 0 0 5 is 14 ∷ [];
      bytes = 44;
      field = 40;
      accepted = 0;
      refused = 4;
      lines = [];
      settled = 0;
      printed =
          "accepted 0 refused 4 events 0 settled 0"
          ∷ [];
      memory_after = 0 ∷ [];
      outs_after = [] ∷ [];
    }

abbrev pub cases : List Case
cases = B1 ∷ B2 ∷ B3 ∷ B4 ∷ B5 ∷ B6 ∷ B7 ∷ B8 ∷ B9 ∷ []
