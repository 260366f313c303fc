-- The lengths of a store's arrays, which every value of the struct has: a fresh store has them and a step keeps them. Assumes nothing.
use mathlib.Core.Path.{◌≡◌, refl, ◌∙◌}
use mathlib.Core.Bool.{true, false}
use mathlib.Core.List.{List, [], ◌∷◌, ◌++◌, tail}
use Prim.Native.Nat.{ℕ, suc, ◌≤◌, ◌<◌}
use native.Mathlib.Omega.{arith}
use lib.ListN.{length, take, get_or, replicate, length-append, length-take, length-set, length-replicate, get_or-replicate}
use lib.Seq.{get_or-take}
use borrow.Author.Tests.{leb-false, lt-leb}
use Rattle.figure.specs.Figure.{Step}
use Rattle.figure.specs.Refusals.{most_engines, most_addresses, most_depth}
use Rattle.figure.specs.declared.Address.{Address}
use Rattle.figure.specs.declared.Record.{Record}
use Rattle.figure.specs.declared.Sizes.{Sizes}
use Rattle.shape.proofs.Kept.{Sound, sound-parts, ranged}
use Rattle.shape.proofs.Places.{any-get_or, length-change, at-change, length-firsts, at-firsts, length_over, length-tail-le}
use Rattle.shape.proofs.Taken.{Goes, goes_r, goes_w, goes_mw, goes_mr, goes_cu, goes_ci, Answers, takes, keeps, answers}
use Rattle.shape.specs.Fresh.{fresh_of, empty_out, empty_in, empty_cache}
use Rattle.shape.specs.Parts.{any, over, change, firsts, full, out_joined, out_left, in_joined, in_left, cached, dropped, no_in}
use Rattle.shape.specs.Shaped.{Array, CacheShaped, OutShaped, InShaped, Shaped}
use Rattle.shape.specs.Step.{out_at, in_at, cache_at, oldest_out, effect, stepped, Stepped}
use Rattle.shape.specs.declared.Cache.{Cache}
use Rattle.shape.specs.declared.InEntry.{InEntry}
use Rattle.shape.specs.declared.InQueue.{InQueue}
use Rattle.shape.specs.declared.OutEntry.{OutEntry}
use Rattle.shape.specs.declared.OutQueue.{OutQueue}
use Rattle.shape.specs.declared.Store.{Store}

module _ {A : Type 0} {n : ℕ} {d : A} {P : A → Type 0} where
  array-change : {l : List A} (k : ℕ) (f : A → A) → Array n d P l → k < n → P (f (get_or l k d)) → Array n d P (change k f l)
  array-change {l} k f h b p = record {
    long = length-change k f l ∙ h.long;
    each = at-change (λ j x. j < n → P x) k f l d (rw h.long b) (λ _. p) (λ j _. h.each j);
  }

  array-firsts : {l : List A} (m : ℕ) (f : A → A) → Array n d P l → ((j : ℕ) → j < m → P (get_or l j d) → P (f (get_or l j d))) → Array n d P (firsts m f l)
  array-firsts {l} m f h p = record {
    long = length-firsts m f l ∙ h.long;
    each = λ j b. at-firsts (λ i x. i < n → P x) m f l d (λ i a _ c. p i a (h.each i c)) (λ i _. h.each i) j (rw h.long b) b;
  }

  array-replicate : (a : A) → P a → Array n d P (replicate n a)
  array-replicate a p = record { long = length-replicate n a; each = λ k b. rw (get_or-replicate n k a d b) p }

-- ---- entries after one joined, and after one left

module _ {A : Type 0} (n : ℕ) (es : List A) (e : length es ≡ most_depth) where
  joined_length : (x : A) → n < most_depth → length (over (take n es ++ (x ∷ [])) es) ≡ most_depth
  joined_length x h = length_over (take n es ++ (x ∷ [])) es (simp (length-append, length-take) (omega arith)) ∙ e

  left-length : length (over (tail (take n es)) es) ≡ most_depth
  left-length = length_over (tail (take n es)) es (length-tail-le (take n es) (length es) (rw (length-take n es) (omega arith))) ∙ e

out-joined-shaped : (x : OutEntry) (q : OutQueue) → q.len < most_depth → OutShaped q → OutShaped (out_joined x q)
out-joined-shaped x q b h = record { entries = joined_length q.len q.entries h.entries x b }

out-left-shaped : (q : OutQueue) → OutShaped q → OutShaped (out_left q)
out-left-shaped q h = record { entries = left-length q.len q.entries h.entries }

in-joined-shaped : (x : InEntry) (q : InQueue) → q.len < most_depth → InShaped q → InShaped (in_joined x q)
in-joined-shaped x q b h = record { entries = joined_length q.len q.entries h.entries x b }

in-left-shaped : (q : InQueue) → InShaped q → InShaped (in_left q)
in-left-shaped q h = record { entries = left-length q.len q.entries h.entries }

cached-shaped : (a : Address) (d : ℕ) (c : Cache) → CacheShaped c → CacheShaped (cached a d c)
cached-shaped a d c h = record { present = length-set c.present a.0 true ∙ h.present; «data» = length-set c.«data» a.0 d ∙ h.«data» }

dropped-shaped : (a : Address) (c : Cache) → CacheShaped c → CacheShaped (dropped a c)
dropped-shaped a c h = record { present = length-set c.present a.0 false ∙ h.present; «data» = h.«data» }

-- ---- every step

-- "room in every in queue"
pub room-each : (s : Store) → Sound s → any (λ (q : InQueue). full s.sizes.depth q.len) (take s.sizes.engines s.ins) ≡ false
    → (j : ℕ) → j < s.sizes.engines → (get_or s.ins j no_in).len < s.sizes.depth
room-each s h f j b =
    let e : full s.sizes.depth (get_or (take s.sizes.engines s.ins) j no_in).len ≡ false =
    any-get_or (λ (q : InQueue). full s.sizes.depth q.len) (take s.sizes.engines s.ins) j no_in (lt-leb _ 0 (ranged s h).some_depth) f in
    leb-false _ _ (rw (get_or-take s.sizes.engines s.ins j no_in b) at e)

effect-shaped : (s : Store) {x : Record} {t : Step} → Sound s → Shaped s → Goes s x t → Shaped (effect s t)
effect-shaped s h g (goes_r k a o w c) = g
effect-shaped s h g (goes_w {k = i} k a r) =
    let b = ranged s h in
    let m : i < most_engines = omega arith in
    record {
      memory = g.memory;
      caches = g.caches;
      outs = array-change i _ g.outs m (out-joined-shaped _ (out_at s (suc i)) (omega arith) (g.outs.each i m));
      ins = g.ins;
    }
effect-shaped s h g (goes_mw {k = i} k r f) =
    let b = ranged s h in
    let m : i < most_engines = omega arith in
    let x = oldest_out s (suc i) in
    record {
      memory = length-set s.memory x.address.0 x.«data» ∙ g.memory;
      caches = g.caches;
      outs = array-change i _ g.outs m (out-left-shaped (out_at s (suc i)) (g.outs.each i m));
      ins = array-firsts s.sizes.engines _ g.ins (λ j c. in-joined-shaped _ (get_or s.ins j no_in) (omega (arith, room-each s h f j c)));
    }
effect-shaped s h g (goes_mr {k = i} k a r) =
    let b = ranged s h in
    let m : i < most_engines = omega arith in
    record {
      memory = g.memory;
      caches = g.caches;
      outs = g.outs;
      ins = array-change i _ g.ins m (in-joined-shaped _ (in_at s (suc i)) (omega arith) (g.ins.each i m));
    }
effect-shaped s h g (goes_cu {k = i} k r) =
    let b = ranged s h in
    let m : i < most_engines = omega arith in
    record {
      memory = g.memory;
      caches = array-change i _ g.caches m (cached-shaped _ _ (cache_at s (suc i)) (g.caches.each i m));
      outs = g.outs;
      ins = array-change i _ g.ins m (in-left-shaped (in_at s (suc i)) (g.ins.each i m));
    }
effect-shaped s h g (goes_ci {k = i} k a) =
    let b = ranged s h in
    let m : i < most_engines = omega arith in
    record { memory = g.memory; caches = array-change i _ g.caches m (dropped-shaped _ (cache_at s (suc i)) (g.caches.each i m)); outs = g.outs; ins = g.ins }

answer-shaped : (s : Store) {x : Record} {t : Stepped} → Answers s x t → Shaped s → Shaped t.store
answer-shaped s (takes h k) g = effect-shaped s (sound-parts s h) g k
answer-shaped s (keeps n) g = g

-- a step keeps the arrays' lengths
pub keeps-shaped : (s : Store) (x : Record) → Shaped s → Shaped (stepped s x).store
keeps-shaped s x = answer-shaped s (answers s x)

-- a fresh store has them
pub fresh-shaped : (z : Sizes) (table : List ℕ) → length table ≤ most_addresses → Shaped (fresh_of z table)
unfolding fresh_of
fresh-shaped z table h = record {
  memory = length_over table (replicate most_addresses 0) h;
  caches = array-replicate empty_cache (record { present = refl; «data» = refl });
  outs = array-replicate empty_out (record { entries = refl });
  ins = array-replicate empty_in (record { entries = refl });
}
