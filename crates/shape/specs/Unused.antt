-- Used and unused places: "What stands in unused places never changes an answer." Assumes nothing.
use Rattle.std.specs.Prelude.{◌≡◌, true, false, ℕ, suc, ◌≤◌, ◌<◌, get_or}
use Rattle.figure.specs.declared.Sizes.{Sizes}
use Rattle.shape.specs.Parts.{out_of, in_of, no_out_entry, no_in_entry}
use Rattle.shape.specs.Step.{out_at, in_at, cache_at, memory_at, Stepped}
use Rattle.shape.specs.declared.Cache.{Cache}
use Rattle.shape.specs.declared.InQueue.{InQueue}
use Rattle.shape.specs.declared.OutQueue.{OutQueue}
use Rattle.shape.specs.declared.Store.{Store}

-- ---- the used places: the first entries of a queue and how many they are, a cache's addresses below m and the values of those present

pub record SameOut (q p : OutQueue) : Type 0 where
  pub len : q.len ≡ p.len
  pub held : out_of q ≡ out_of p

pub record SameIn (q p : InQueue) : Type 0 where
  pub len : q.len ≡ p.len
  pub held : in_of q ≡ in_of p

pub record SameCache (m : ℕ) (c d : Cache) : Type 0 where
  pub present : (a : ℕ) → a < m → get_or c.present a false ≡ get_or d.present a false
  pub «data» : (a : ℕ) → a < m → get_or c.present a false ≡ true → get_or c.«data» a 0 ≡ get_or d.«data» a 0

-- memory below m, and the parts of the engines 1 to n; engine suc k stands at place k
pub record SameParts (z : Sizes) (s r : Store) : Type 0 where
  pub memory : (a : ℕ) → a < z.addresses → memory_at s a ≡ memory_at r a
  pub caches : (k : ℕ) → k < z.engines → SameCache z.addresses (cache_at s (suc k)) (cache_at r (suc k))
  pub outs : (k : ℕ) → k < z.engines → SameOut (out_at s (suc k)) (out_at r (suc k))
  pub ins : (k : ℕ) → k < z.engines → SameIn (in_at s (suc k)) (in_at r (suc k))

pub record SameUsed (s r : Store) : Type 0 where
  pub sizes : s.sizes ≡ r.sizes
  pub parts : SameParts s.sizes s r

-- two steps answer the same, and leave the same in the used places
pub record SameAnswer (t u : Stepped) : Type 0 where
  pub number : t.number ≡ u.number
  pub event : t.event ≡ u.event
  pub store : SameUsed t.store u.store

-- ---- the unused places, which a step leaves as they were

-- q before and p after: entries past the length after the step stand as they stood
pub record OutPast (q p : OutQueue) : Type 0 where
  pub entries : (j : ℕ) → p.len ≤ j → get_or p.entries j no_out_entry ≡ get_or q.entries j no_out_entry

pub record InPast (q p : InQueue) : Type 0 where
  pub entries : (j : ℕ) → p.len ≤ j → get_or p.entries j no_in_entry ≡ get_or q.entries j no_in_entry

-- c before and d after: places at addresses from m on
pub record CachePast (m : ℕ) (c d : Cache) : Type 0 where
  pub present : (a : ℕ) → m ≤ a → get_or d.present a false ≡ get_or c.present a false
  pub «data» : (a : ℕ) → m ≤ a → get_or d.«data» a 0 ≡ get_or c.«data» a 0

-- s before and r after; engine suc k stands at place k, so its number is above the count from the engine count on
pub record UnusedKept (s r : Store) : Type 0 where
  pub out_entries : (k : ℕ) → OutPast (out_at s (suc k)) (out_at r (suc k))
  pub in_entries : (k : ℕ) → InPast (in_at s (suc k)) (in_at r (suc k))
  pub cache_places : (k : ℕ) → CachePast s.sizes.addresses (cache_at s (suc k)) (cache_at r (suc k))
  pub memory : (a : ℕ) → s.sizes.addresses ≤ a → memory_at r a ≡ memory_at s a
  pub outs : (k : ℕ) → s.sizes.engines ≤ k → out_at r (suc k) ≡ out_at s (suc k)
  pub ins : (k : ℕ) → s.sizes.engines ≤ k → in_at r (suc k) ≡ in_at s (suc k)
  pub caches : (k : ℕ) → s.sizes.engines ≤ k → cache_at r (suc k) ≡ cache_at s (suc k)
