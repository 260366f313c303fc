-- What the types say of their values: the arrays of a store have their lengths, and every number of a `u8` slice is a byte. Assumes nothing.
use mathlib.Core.Path.{◌≡◌}
use mathlib.Core.List.{List, [], ◌∷◌}
use Prim.Native.Nat.{ℕ, zero, suc, ◌<◌}
use native.Mathlib.Omega.{arith}
use lib.ListN.{length, get_or}
use mir.Val.{Val}
use denote.Array.{each}
use denote.Array as arrays
use denote.Builtin.{u8}
use denote.Shadow.{shadow}
use denote.Laws.{Is}
use denote.RattleType.{RattleType}
use Rattle.shape.specs.contracts as shape
use Rattle.lists.specs.Bytes.{Bytes}
use Rattle.shape.specs.Parts.{no_out, no_in, no_cache}
use Rattle.shape.specs.Shaped.{Array, CacheShaped, OutShaped, InShaped, Shaped}
use Rattle.shape.specs.declared.Cache.{Cache}
use Rattle.shape.specs.declared.InQueue.{InQueue}
use Rattle.shape.specs.declared.OutQueue.{OutQueue}
use Rattle.shape.specs.declared.Store.{Store}

-- the values of an array's elements are values of their type
element : (R : RattleType) (l : List R.Denot) (us : List Val) (d : R.Denot) → shadow (each R.Denot R.own_val l us) → (k : ℕ) → k < length l → (v : Val) × Is R (get_or l k d) (v ∷ [])
element R [] us d h k b = absurd (omega arith)
element R (x ∷ l) [] d h k b = absurd h
element R (x ∷ l) (u ∷ us) d h zero b = (u, h.0)
element R (x ∷ l) (u ∷ us) d h (suc k) b = element R l us d h.1 k (omega arith)

-- an array of n: so many elements, each a value of its type
array_of : (R : RattleType) (n : ℕ) (l : List R.Denot) (us : List Val) (d : R.Denot) (P : R.Denot → Type 0) → length l ≡ n → shadow (each R.Denot R.own_val l us)
    → ((x : R.Denot) (v : Val) → Is R x (v ∷ []) → P x) → Array n d P l
array_of R n l us d P e h p = record { long = e; each = λ k b. let q = element R l us d h k (rw (e) b) in p (get_or l k d) q.0 q.1 }

out_of : (q : OutQueue) (v : Val) → Is shape.OutQueue.the_row q (v ∷ []) → OutShaped q
out_of q v h = record { entries = h.1.1.1.0.1.0.1 }

in-of : (q : InQueue) (v : Val) → Is shape.InQueue.the_row q (v ∷ []) → InShaped q
in-of q v h = record { entries = h.1.1.1.0.1.0.1 }

cache-of : (c : Cache) (v : Val) → Is shape.Cache.the_row c (v ∷ []) → CacheShaped c
cache-of c v h = record { present = h.1.1.0.1.0.1; «data» = h.1.1.1.0.1.0.1 }

pub of-shaped : (s : Store) (vs : List Val) → Is shape.Store.the_row s vs → Shaped s
of-shaped s vs h =
    let parts = h.1.1.1 in
    let cs = parts.1.0 in
    let os = parts.1.1.0 in
    let is = parts.1.1.1.0 in
    record {
      memory = parts.0.1.0.1;
      caches = array_of shape.Cache.the_row 8 s.caches cs.0 no_cache CacheShaped cs.1.0.1 cs.1.1 cache-of;
      outs = array_of shape.OutQueue.the_row 8 s.outs os.0 no_out OutShaped os.1.0.1 os.1.1 out_of;
      ins = array_of shape.InQueue.the_row 8 s.ins is.0 no_in InShaped is.1.0.1 is.1.1 in-of;
    }

bytes_of : (l : List ℕ) (us : List Val) → shadow (each ℕ u8.own_val l us) → Bytes l
bytes_of [] us h i = omega arith
bytes_of (x ∷ l) [] h i = absurd h
bytes_of (x ∷ l) (u ∷ us) h zero = h.0.1
bytes_of (x ∷ l) (u ∷ us) h (suc i) = bytes_of l us h.1 i

pub of-bytes : (l : List ℕ) → (vs : List Val) × Is (arrays.Array u8 (length l)) l vs → Bytes l
of-bytes l h = bytes_of l h.1.0 h.1.1.1
