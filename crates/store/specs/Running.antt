-- What the parts of a run hold of its store: contracts inside the crate cite it; no promise does. Assumes nothing.
use Rattle.std.specs.Prelude.{Bool, true, ◌≡◌, List, [], ◌∷◌, ◌++◌, ℕ, suc, ◌+◌, ◌≤◌, ◌<◌, eqb, length, get_or}
use Rattle.figure.specs.Refusals.{pick, most_engines, most_addresses, most_depth}
use Rattle.shape.specs.Fresh.{empty_cache}
use Rattle.shape.specs.Parts.{any, full, out_of, in_of, no_out, no_in, no_cache}
use Rattle.shape.specs.Shaped.{Shaped}
use Rattle.shape.specs.Sound.{sound_of}
use Rattle.shape.specs.declared.InEntry.{InEntry}
use Rattle.shape.specs.declared.Store.{Store}
use Rattle.decide.specs.Effect.{moved_cache}
use Rattle.decide.specs.Turned.{Turned}
use Rattle.store.specs.Pieces.{own_after, writes_after, updates_after}
use Rattle.store.specs.declared.turns.Running.{Running}
use Rattle.store.specs.declared.turns.Side.{Side}

-- how many entries come from engine i
unfoldable pub count_from : ℕ → List InEntry → ℕ
count_from i [] = 0
count_from i (x ∷ l) = pick (eqb x.origin.0 i) (suc (count_from i l)) (count_from i l)

abbrev pub fresh_side : Side
fresh_side = record { cache = empty_cache; writes = []; updates = []; own = 0 }

-- what a store has of engine suc k
abbrev pub side_of : Store → ℕ → Side
side_of s k =
    record {
      cache = get_or s.caches k no_cache;
      writes = out_of (get_or s.outs k no_out);
      updates = in_of (get_or s.ins k no_in);
      own = count_from (suc k) (in_of (get_or s.ins k no_in));
    }

-- all of a sound store but the unused places of its queues
pub record Holds (s : Store) (r : Running) : Type 0 where
  pub sound : sound_of s ≡ true
  pub shaped : Shaped s
  pub sizes : r.sizes ≡ s.sizes
  pub memory : r.memory ≡ s.memory
  pub long : length r.sides ≡ most_engines
  pub sides : (k : ℕ) → k < most_engines → get_or r.sides k fresh_side ≡ side_of s k

-- some of the in queues is full
abbrev pub some_long : ℕ → List Side → Bool
some_long depth = any (λ (side : Side). full depth (length side.updates))

-- what a move asks of the side of engine suc k, and what it makes of it before the entry joins any in queue
pub record Moves (m : Turned) (k : ℕ) (side : Side) : Type 0 where
  pub out_leaves : m.out_left ≡ 1 → (0 < length side.writes) × (length side.writes ≤ most_depth)
  pub out_joins : m.out_joins ≡ 1 → length side.writes < most_depth
  pub in_leaves : m.in_left ≡ 1 → (0 < length side.updates) × (length side.updates ≤ most_depth)
  pub address : m.entry.address.0 < most_addresses
  pub own : (side.own ≤ most_depth) × (k < most_engines)

abbrev pub side_after : Turned → ℕ → Side → Side
side_after m k side =
    record {
      cache = moved_cache m side.cache;
      writes = writes_after m side.writes;
      updates = updates_after m side.updates;
      own = own_after m (k + 1) side.own;
    }

-- the entry joins its in queue
abbrev pub with_update : InEntry → Side → Side
with_update e side = record side { updates = side.updates ++ (e ∷ []) }
