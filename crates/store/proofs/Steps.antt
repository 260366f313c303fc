-- What the step changes is what the move changes. Assumes nothing.
use mathlib.Core.Path.{◌≡◌, refl, ap}
use mathlib.Core.List.{List, [], ◌∷◌}
use Prim.Native.Nat.{ℕ, zero, suc, pred, ◌-◌, ◌≤◌}
use lib.ListN.{length, set, get_or}
use borrow.Rule.Slice.PartMut.{mid_of, put_mid}
use Rattle.shape.specs.Parts.{firsts, in_joined, no_out, no_in, no_cache}
use Rattle.shape.specs.declared.Cache.{Cache}
use Rattle.shape.specs.declared.InQueue.{InQueue}
use Rattle.shape.specs.declared.OutQueue.{OutQueue}
use Rattle.shape.specs.declared.Store.{Store}
use Rattle.shape.proofs.Places.{length-firsts}
use Rattle.decide.specs.Effect.{between, moved_out, left_in, moved_cache, moved}
use Rattle.decide.specs.Move.{stored_as}
use Rattle.decide.specs.Turned.{Turned}
use Rattle.store.proofs.Laws.{firsts-part, change-set}

-- ---- places changed one after another

module _ {A : Type 0} (f : A → A) where
  pub length-between : (a j : ℕ) (l : List A) → length (between a j f l) ≡ length l
  length-between zero j l = length-firsts j f l
  length-between (suc a) j [] = refl
  length-between (suc a) j (x ∷ l) = ap suc (length-between a (pred j) l)

-- ---- what is changed

-- the parts of one engine and a word, set to what the move makes of them, and the part of the in queues that the entry joins: the whole move
pub carried : (s : Store) (m : Turned) (k : ℕ) {b w n : ℕ} {o : OutQueue} {q : InQueue} {c : Cache} {part : List InQueue}
    → b ≡ m.entry.address.0 → o ≡ moved_out m (get_or s.outs k no_out) → q ≡ left_in m (get_or s.ins k no_in) → c ≡ moved_cache m (get_or s.caches k no_cache)
    → w ≡ stored_as m (get_or s.memory b 0) → m.from ≤ m.to
    → part ≡ firsts n (in_joined m.entry) (mid_of m.from (m.to - m.from) (set s.ins k q)) → length (mid_of m.from (m.to - m.from) (set s.ins k q)) ≤ n
    → record {
      sizes = s.sizes;
      memory = set s.memory b w;
      caches = set s.caches k c;
      outs = set s.outs k o;
      ins = put_mid m.from (m.to - m.from) (set s.ins k q) part;
    }
    ≡ moved m k s
carried s m k {n = n} {q = q} {part = part} eb eo eq ec ew ordered joined all =
    let p = firsts-part (in_joined m.entry) m.from m.to n (set s.ins k q) part ordered joined all in
    rw (p, ew, ec, eo, eq, eb, change-set k (moved_out m) s.outs no_out, change-set k (left_in m) s.ins no_in, change-set k (moved_cache m) s.caches no_cache)
