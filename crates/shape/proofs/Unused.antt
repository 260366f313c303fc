-- A step leaves unused places as they were. Assumes nothing.
use mathlib.Core.Path.{◌≡◌, refl}
use mathlib.Core.Bool.{true, false}
use mathlib.Core.List.{List, [], ◌∷◌, ◌++◌, tail}
use Prim.Native.Nat.{ℕ, zero, suc, ◌≤◌, ◌<◌}
use native.Mathlib.Omega.{arith}
use lib.Dec.{leb}
use lib.ListN.{get_or}
use lib.Seq.{get_or-set_other}
use borrow.Author.Tests.{ltb-true}
use Rattle.figure.specs.Figure.{Step}
use Rattle.figure.specs.declared.Address.{Address}
use Rattle.figure.specs.declared.Record.{Record}
use Rattle.figure.proofs.Laws.{and_right}
use Rattle.shape.proofs.Kept.{Sound, sound-parts, oldest-sound, oldest-in-sound}
use Rattle.shape.proofs.Places.{get_or-change-other, get_or-firsts-above, get_or-over-past}
use Rattle.shape.proofs.Taken.{Goes, goes_r, goes_w, goes_mw, goes_mr, goes_cu, goes_ci, Answers, takes, keeps, answers}
use Rattle.shape.specs.Parts.{change, firsts, out_of, out_joined, out_left, in_of, in_joined, in_left, cached, dropped, no_out_entry, no_in_entry, no_out, no_in, no_cache}
use Rattle.shape.specs.Step.{out_at, in_at, cache_at, memory_at, out_entry, in_entry, oldest_out, oldest_in, effect, stepped, Stepped}
use Rattle.shape.specs.Unused.{OutPast, InPast, CachePast, UnusedKept}
use Rattle.shape.specs.declared.Cache.{Cache}
use Rattle.shape.specs.declared.InEntry.{InEntry}
use Rattle.shape.specs.declared.InQueue.{InQueue}
use Rattle.shape.specs.declared.OutEntry.{OutEntry}
use Rattle.shape.specs.declared.OutQueue.{OutQueue}
use Rattle.shape.specs.declared.Store.{Store}

-- ---- one part

out-joined-past : (x : OutEntry) (q : OutQueue) → OutPast q (out_joined x q)
out-joined-past x q = record { entries = λ j h. get_or-over-past (out_of q ++ (x ∷ [])) q.entries j no_out_entry h }

out-left-past : (q : OutQueue) → OutPast q (out_left q)
out-left-past q = record { entries = λ j h. get_or-over-past (tail (out_of q)) q.entries j no_out_entry h }

in-joined-past : (x : InEntry) (q : InQueue) → InPast q (in_joined x q)
in-joined-past x q = record { entries = λ j h. get_or-over-past (in_of q ++ (x ∷ [])) q.entries j no_in_entry h }

in-left-past : (q : InQueue) → InPast q (in_left q)
in-left-past q = record { entries = λ j h. get_or-over-past (tail (in_of q)) q.entries j no_in_entry h }

cached-past : (m : ℕ) (a : Address) (d : ℕ) → a.0 < m → (c : Cache) → CachePast m c (cached a d c)
cached-past m a d h c = record {
  present = λ b n. get_or-set_other c.present a.0 b true false (omega arith);
  «data» = λ b n. get_or-set_other c.«data» a.0 b d 0 (omega arith);
}

dropped-past : (m : ℕ) (a : Address) → a.0 < m → (c : Cache) → CachePast m c (dropped a c)
dropped-past m a h c = record { present = λ b n. get_or-set_other c.present a.0 b false false (omega arith); «data» = λ b n. refl }

-- ---- an array of parts: a relation of each part before and after, which holds of a part that stays

module _ {A : Type 0} (P : A → A → Type 0) (same : (x : A) → P x x) (d : A) (f : A → A) (p : (x : A) → P x (f x)) where
  change-each : (k : ℕ) (l : List A) (j : ℕ) → P (get_or l j d) (get_or (change k f l) j d)
  change-each k [] j = same d
  change-each zero (x ∷ l) zero = p x
  change-each zero (x ∷ l) (suc j) = same (get_or l j d)
  change-each (suc k) (x ∷ l) zero = same x
  change-each (suc k) (x ∷ l) (suc j) = change-each k l j

  firsts-each : (n : ℕ) (l : List A) (j : ℕ) → P (get_or l j d) (get_or (firsts n f l) j d)
  firsts-each zero l j = same (get_or l j d)
  firsts-each (suc n) [] j = same d
  firsts-each (suc n) (x ∷ l) zero = p x
  firsts-each (suc n) (x ∷ l) (suc j) = firsts-each n l j

out-same : (q : OutQueue) → OutPast q q
out-same q = record { entries = λ j h. refl }

in-same : (q : InQueue) → InPast q q
in-same q = record { entries = λ j h. refl }

cache-same : (m : ℕ) (c : Cache) → CachePast m c c
cache-same m c = record { present = λ a h. refl; «data» = λ a h. refl }

-- the parts of engine numbers above the count, where place k below it changes
above : {A : Type 0} (l : List A) (d : A) (n k : ℕ) (f : A → A) → k < n → (j : ℕ) → n ≤ j → get_or (change k f l) j d ≡ get_or l j d
above l d n k f b j h = get_or-change-other k j f l d (omega arith)

kept : (s : Store) → UnusedKept s s
kept s = record {
  out_entries = λ k. out-same (out_at s (suc k));
  in_entries = λ k. in-same (in_at s (suc k));
  cache_places = λ k. cache-same s.sizes.addresses (cache_at s (suc k));
  memory = λ a h. refl;
  outs = λ k h. refl;
  ins = λ k h. refl;
  caches = λ k h. refl;
}

-- ---- every step

effect-kept : (s : Store) {x : Record} {t : Step} → Sound s → Goes s x t → UnusedKept s (effect s t)
effect-kept s h (goes_r k a o w c) = kept s
effect-kept s h (goes_w {k = i} {a = a} {d = d} k c r) = let o = kept s in record {
  out_entries = change-each OutPast out-same no_out _ (out-joined-past (out_entry a d)) i s.outs;
  in_entries = o.in_entries;
  cache_places = o.cache_places;
  memory = o.memory;
  outs = above s.outs no_out _ i _ k;
  ins = o.ins;
  caches = o.caches;
}
effect-kept s h (goes_mw {k = i} k r f) = let o = kept s in let x = oldest_out s (suc i) in record {
  out_entries = change-each OutPast out-same no_out _ out-left-past i s.outs;
  in_entries = firsts-each InPast in-same no_in _ (in-joined-past (in_entry (suc i) x.address.0 x.«data»)) s.sizes.engines s.ins;
  cache_places = o.cache_places;
  memory = λ a n. get_or-set_other s.memory x.address.0 a x.«data» 0 (omega (arith, ltb-true x.address.0 s.sizes.addresses (oldest-sound s h i k)));
  outs = above s.outs no_out _ i _ k;
  ins = λ j n. get_or-firsts-above s.sizes.engines j _ s.ins no_in n;
  caches = o.caches;
}
effect-kept s h (goes_mr {k = i} {a = a} k c r) = let o = kept s in record {
  out_entries = o.out_entries;
  in_entries = change-each InPast in-same no_in _ (in-joined-past (in_entry 0 a (memory_at s a))) i s.ins;
  cache_places = o.cache_places;
  memory = o.memory;
  outs = o.outs;
  ins = above s.ins no_in _ i _ k;
  caches = o.caches;
}
effect-kept s h (goes_cu {k = i} k r) =
    let o = kept s in
    let x = oldest_in s (suc i) in
    let m = s.sizes.addresses in
    let b = ltb-true x.address.0 m (and_right (leb x.origin.0 s.sizes.engines) _ (oldest-in-sound s h i k)) in
    record {
      out_entries = o.out_entries;
      in_entries = change-each InPast in-same no_in _ in-left-past i s.ins;
      cache_places = change-each (CachePast m) (cache-same m) no_cache _ (cached-past m x.address x.«data» b) i s.caches;
      memory = o.memory;
      outs = o.outs;
      ins = above s.ins no_in _ i _ k;
      caches = above s.caches no_cache _ i _ k;
    }
effect-kept s h (goes_ci {k = i} {a = a} k c) = let o = kept s in let m = s.sizes.addresses in record {
  out_entries = o.out_entries;
  in_entries = o.in_entries;
  cache_places = change-each (CachePast m) (cache-same m) no_cache _ (dropped-past m (record { 0 = a }) c) i s.caches;
  memory = o.memory;
  outs = o.outs;
  ins = o.ins;
  caches = above s.caches no_cache _ i _ k;
}

answer-kept : (s : Store) {x : Record} {t : Stepped} → Answers s x t → UnusedKept s t.store
answer-kept s (takes h g) = effect-kept s (sound-parts s h) g
answer-kept s (keeps n) = kept s

-- a step leaves unused places as they were
pub keeps-unused : (s : Store) (x : Record) → UnusedKept s (stepped s x).store
keeps-unused s x = answer-kept s (answers s x)
