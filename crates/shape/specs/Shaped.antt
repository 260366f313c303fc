-- The lengths of a store's arrays: what the types of its parts say, which every value of the struct has. Assumes nothing.
use Rattle.std.specs.Prelude.{◌≡◌, List, ℕ, ◌<◌, length, get_or}
use Rattle.figure.specs.Refusals.{most_engines, most_addresses, most_depth}
use Rattle.shape.specs.Parts.{no_out, no_in, no_cache}
use Rattle.shape.specs.declared.Cache.{Cache}
use Rattle.shape.specs.declared.InQueue.{InQueue}
use Rattle.shape.specs.declared.OutQueue.{OutQueue}
use Rattle.shape.specs.declared.Store.{Store}

-- an array of n places, with P at each
pub record Array {A : Type 0} (n : ℕ) (d : A) (P : A → Type 0) (l : List A) : Type 0 where
  pub long : length l ≡ n
  pub each : (k : ℕ) → k < n → P (get_or l k d)

pub record CacheShaped (c : Cache) : Type 0 where
  pub present : length c.present ≡ most_addresses
  pub «data» : length c.«data» ≡ most_addresses

pub record OutShaped (q : OutQueue) : Type 0 where
  pub entries : length q.entries ≡ most_depth

pub record InShaped (q : InQueue) : Type 0 where
  pub entries : length q.entries ≡ most_depth

pub record Shaped (s : Store) : Type 0 where
  pub memory : length s.memory ≡ most_addresses
  pub caches : Array most_engines no_cache CacheShaped s.caches
  pub outs : Array most_engines no_out OutShaped s.outs
  pub ins : Array most_engines no_in InShaped s.ins
