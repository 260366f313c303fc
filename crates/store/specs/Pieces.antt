-- What the inner functions answer: contracts inside the crate cite it; no promise does. Assumes nothing.
use Rattle.std.specs.Prelude.{◌&&◌, ℕ, suc, pred, eqb, List, [], ◌∷◌, ◌++◌, take, drop}
use mathlib.Core.List.{tail}
use Rattle.figure.specs.Refusals.{pick}
use Rattle.shape.specs.Step.{out_entry}
use Rattle.shape.specs.declared.InEntry.{InEntry}
use Rattle.shape.specs.declared.OutEntry.{OutEntry}
use Rattle.decide.specs.Turned.{Turned, to_memory}

-- how many entries of engine i's own wait in its in queue after a move, of so many before it
abbrev pub own_after : Turned → ℕ → ℕ → ℕ
own_after m i n = pick (eqb m.word to_memory) (suc n) (pick (eqb m.in_left 1 && eqb m.entry.origin.0 i) (pred n) n)

-- the n places from k on, around the end
abbrev pub window : {A : Type 0} → ℕ → ℕ → List A → List A
window k n xs = take n (drop k xs ++ take k xs)

-- the entries of an out queue, and of the in queue that its engine takes from, after a move
abbrev pub writes_after : Turned → List OutEntry → List OutEntry
writes_after m es = pick (eqb m.out_left 1) (tail es) (pick (eqb m.out_joins 1) (es ++ (out_entry m.entry.address.0 m.entry.«data» ∷ [])) es)

abbrev pub updates_after : Turned → List InEntry → List InEntry
updates_after m es = pick (eqb m.in_left 1) (tail es) es
