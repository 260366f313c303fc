-- A step keeps the store sound and its sizes as they are; a fresh store is sound, a state of zeros is not. Assumes nothing.
use mathlib.Core.Path.{◌≡◌, refl}
use mathlib.Core.Bool.{true, false}
use mathlib.Core.List.{List, [], ◌∷◌, ◌++◌, tail}
use Prim.Native.Nat.{ℕ, suc, ◌≤◌, ◌<◌}
use native.Mathlib.Omega.{arith}
use lib.Dec.{leb, ltb}
use lib.ListN.{length, take, length-append, length-take}
use lib.Seq.{get_or-take}
use borrow.Author.Tests.{ltb-false, lt-ltb, leb-true, leb-false, le-leb, eqb-true, eq-eqb, not-false}
use Rattle.figure.specs.Figure.{Step, R, W, MW, MR, CU, CI}
use Rattle.figure.specs.Record.{no_record}
use Rattle.figure.specs.Refusals.{first_of, NoneApplies, numbered, outside, sizes_refused}
use Rattle.figure.specs.declared.Record.{Record}
use Rattle.figure.specs.declared.Sizes.{Sizes}
use Rattle.figure.proofs.First.{none_first, first-none, none-split, sizes-numbered}
use Rattle.figure.proofs.Laws.{and_left, and_right}
use Rattle.shape.proofs.Places.{and_both, or_left, or_right, all_end, all_tail, all-get_or, all_replicate, all-change, all_map, take-change, take-firsts, length-tail-le, out-with, in-with}
use Rattle.shape.proofs.Taken.{Goes, goes_r, goes_w, goes_mw, goes_mr, goes_cu, goes_ci, Answers, takes, keeps, answers}
use Rattle.shape.specs.Fresh.{fresh_of, zeros, fresh_refused, empty_out, empty_in}
use Rattle.shape.specs.Parts.{all, any, change, firsts, full, out_of, with_out, out_joined, out_left, in_of, with_in, in_joined, in_left, no_out, no_in, no_out_entry, no_in_entry}
use Rattle.shape.specs.Sound.{sound_sizes, sound_out_entry, sound_in_entry, sound_out, sound_in, sound_of}
use Rattle.shape.specs.Step.{out_at, in_at, oldest_out, oldest_in, out_entry, in_entry, memory_at, action_of, effect, stepped, Stepped}
use Rattle.shape.specs.declared.InEntry.{InEntry}
use Rattle.shape.specs.declared.InQueue.{InQueue}
use Rattle.shape.specs.declared.OutEntry.{OutEntry}
use Rattle.shape.specs.declared.OutQueue.{OutQueue}
use Rattle.shape.specs.declared.Store.{Store}

-- ---- sound sizes: "Engines 1 to 8. Addresses 1 to 64. Depth of every queue 1 to 32."

pub record Ranged (z : Sizes) : Type 0 where
  pub some_engine : 0 < z.engines
  pub engines : z.engines ≤ 8
  pub some_address : 0 < z.addresses
  pub addresses : z.addresses ≤ 64
  pub some_depth : 0 < z.depth
  pub depth : z.depth ≤ 32

from : (hi x : ℕ) → outside 1 hi x ≡ false → (0 < x) × (x ≤ hi)
from hi x h = (ltb-false x 1 (or_left (ltb x 1) _ h), ltb-false hi x (or_right (ltb x 1) _ h))

pub sizes-ranged : (z : Sizes) → first_of (sizes_refused z) ≡ 0 → Ranged z
unfolding sizes_refused
sizes-ranged z e =
    let h : NoneApplies (sizes_refused z) = none_first (sizes_refused z) (sizes-numbered z) e in
    let n = from 8 z.engines h.0 in
    let m = from 64 z.addresses h.1.0 in
    let d = from 32 z.depth h.1.1.0 in
    record { some_engine = n.0; engines = n.1; some_address = m.0; addresses = m.1; some_depth = d.0; depth = d.1 }

-- ---- a sound store, part by part

pub record Sound (s : Store) : Type 0 where
  pub sizes : sound_sizes s.sizes ≡ true
  pub outs : all (sound_out s.sizes) (take s.sizes.engines s.outs) ≡ true
  pub ins : all (sound_in s.sizes) (take s.sizes.engines s.ins) ≡ true

pub sound-parts : (s : Store) → sound_of s ≡ true → Sound s
unfolding sound_of
sound-parts s e =
    let b = and_right (sound_sizes s.sizes) _ e in
    let o = all (sound_out s.sizes) (take s.sizes.engines s.outs) in
    record { sizes = and_left (sound_sizes s.sizes) _ e; outs = and_left o _ b; ins = and_right o _ b }

pub sound-whole : (s : Store) → Sound s → sound_of s ≡ true
unfolding sound_of
sound-whole s h = and_both h.sizes (and_both h.outs h.ins)

pub ranged : (s : Store) → Sound s → Ranged s.sizes
ranged s h = sizes-ranged s.sizes (eqb-true _ 0 h.sizes)

-- ---- a queue with other entries

module _ (z : Sizes) where
  with-out-sound : (q : OutQueue) (l : List OutEntry) → length l ≤ z.depth → all (sound_out_entry z) l ≡ true → sound_out z (with_out q l) ≡ true
  with-out-sound q l b h = and_both (le-leb (length l) z.depth b) (rw (out-with q l) h)

  with-in-sound : (q : InQueue) (l : List InEntry) → length l ≤ z.depth → all (sound_in_entry z) l ≡ true → sound_in z (with_in q l) ≡ true
  with-in-sound q l b h = and_both (le-leb (length l) z.depth b) (rw (in-with q l) h)

  join-fits : {A : Type 0} (n : ℕ) (es : List A) (x : A) → n < z.depth → length (take n es ++ (x ∷ [])) ≤ z.depth
  join-fits n es x h = rw (length-append) (omega (arith, length-take n es))

  out-joined-sound : (q : OutQueue) (x : OutEntry) → q.len < z.depth → sound_out z q ≡ true → sound_out_entry z x ≡ true → sound_out z (out_joined x q) ≡ true
  out-joined-sound q x b h e = with-out-sound q (out_of q ++ (x ∷ [])) (join-fits q.len q.entries x b) (all_end (sound_out_entry z) (out_of q) x (and_right (leb q.len z.depth) _ h) e)

  in-joined-sound : (q : InQueue) (x : InEntry) → q.len < z.depth → sound_in z q ≡ true → sound_in_entry z x ≡ true → sound_in z (in_joined x q) ≡ true
  in-joined-sound q x b h e = with-in-sound q (in_of q ++ (x ∷ [])) (join-fits q.len q.entries x b) (all_end (sound_in_entry z) (in_of q) x (and_right (leb q.len z.depth) _ h) e)

  left-fits : {A : Type 0} (n : ℕ) (es : List A) → leb n z.depth ≡ true → length (tail (take n es)) ≤ z.depth
  left-fits n es h = length-tail-le (take n es) z.depth (omega (arith, length-take n es, leb-true n z.depth h))

  out-left-sound : (q : OutQueue) → sound_out z q ≡ true → sound_out z (out_left q) ≡ true
  out-left-sound q h = with-out-sound q (tail (out_of q)) (left-fits q.len q.entries (and_left (leb q.len z.depth) _ h))
      (all_tail (sound_out_entry z) (out_of q) (and_right (leb q.len z.depth) _ h))

  in-left-sound : (q : InQueue) → sound_in z q ≡ true → sound_in z (in_left q) ≡ true
  in-left-sound q h = with-in-sound q (tail (in_of q)) (left-fits q.len q.entries (and_left (leb q.len z.depth) _ h))
      (all_tail (sound_in_entry z) (in_of q) (and_right (leb q.len z.depth) _ h))

  entry-sound : (o a d : ℕ) → o ≤ z.engines → ltb a z.addresses ≡ true → sound_in_entry z (in_entry o a d) ≡ true
  entry-sound o a d h e = and_both (le-leb o z.engines h) e

-- ---- each queue of a sound store, and the oldest entry of each

module _ (s : Store) (h : Sound s) (k : ℕ) (b : k < s.sizes.engines) where
  pub out-sound : sound_out s.sizes (out_at s (suc k)) ≡ true
  out-sound = rw (← (get_or-take s.sizes.engines s.outs k no_out b))
      (all-get_or (sound_out s.sizes) (take s.sizes.engines s.outs) k no_out (and_both (le-leb 0 s.sizes.depth (omega arith)) refl) h.outs)

  pub in-sound : sound_in s.sizes (in_at s (suc k)) ≡ true
  in-sound = rw (← (get_or-take s.sizes.engines s.ins k no_in b))
      (all-get_or (sound_in s.sizes) (take s.sizes.engines s.ins) k no_in (and_both (le-leb 0 s.sizes.depth (omega arith)) refl) h.ins)

  pub oldest-sound : ltb (oldest_out s (suc k)).address.0 s.sizes.addresses ≡ true
  oldest-sound = all-get_or (sound_out_entry s.sizes) (out_of (out_at s (suc k))) 0 no_out_entry (lt-ltb 0 s.sizes.addresses (ranged s h).some_address)
      (and_right (leb (out_at s (suc k)).len s.sizes.depth) _ out-sound)

  pub oldest-in-sound : sound_in_entry s.sizes (oldest_in s (suc k)) ≡ true
  oldest-in-sound = all-get_or (sound_in_entry s.sizes) (in_of (in_at s (suc k))) 0 no_in_entry
      (entry-sound s.sizes 0 0 0 (omega arith) (lt-ltb 0 s.sizes.addresses (ranged s h).some_address))
      (and_right (leb (in_at s (suc k)).len s.sizes.depth) _ in-sound)

-- ---- every step keeps it sound

module _ (s : Store) (h : Sound s) (k : ℕ) (b : k < s.sizes.engines) where
  outs-kept : (f : OutQueue → OutQueue) → sound_out s.sizes (f (out_at s (suc k))) ≡ true → all (sound_out s.sizes) (take s.sizes.engines (change k f s.outs)) ≡ true
  outs-kept f e = rw (take-change s.sizes.engines k f s.outs)
      (all-change (sound_out s.sizes) k f (take s.sizes.engines s.outs) no_out h.outs (rw (get_or-take s.sizes.engines s.outs k no_out b) e))

  ins-kept : (f : InQueue → InQueue) → sound_in s.sizes (f (in_at s (suc k))) ≡ true → all (sound_in s.sizes) (take s.sizes.engines (change k f s.ins)) ≡ true
  ins-kept f e = rw (take-change s.sizes.engines k f s.ins)
      (all-change (sound_in s.sizes) k f (take s.sizes.engines s.ins) no_in h.ins (rw (get_or-take s.sizes.engines s.ins k no_in b) e))

ins-joined : (s : Store) → Sound s → (x : InEntry) → sound_in_entry s.sizes x ≡ true → any (λ (q : InQueue). full s.sizes.depth q.len) (take s.sizes.engines s.ins) ≡ false
    → all (sound_in s.sizes) (take s.sizes.engines (firsts s.sizes.engines (in_joined x) s.ins)) ≡ true
ins-joined s h x e f = rw (take-firsts s.sizes.engines (in_joined x) s.ins)
    (all_map (sound_in s.sizes) (λ (q : InQueue). full s.sizes.depth q.len) (in_joined x) (take s.sizes.engines s.ins)
    (λ q p n. in-joined-sound s.sizes q x (leb-false _ _ n) p e) h.ins f)

effect-sound : (s : Store) {x : Record} {t : Step} → Sound s → Goes s x t → Sound (effect s t)
effect-sound s h (goes_r k a o w c) = h
effect-sound s h (goes_w {k = i} {a = a} {d = d} k b r) =
    record { sizes = h.sizes; outs = outs-kept s h i k _ (out-joined-sound s.sizes _ (out_entry a d) r (out-sound s h i k) (lt-ltb a _ b)); ins = h.ins }
effect-sound s h (goes_mw {k = i} k r f) =
    record {
      sizes = h.sizes;
      outs = outs-kept s h i k _ (out-left-sound s.sizes _ (out-sound s h i k));
      ins = ins-joined s h _ (entry-sound s.sizes (suc i) _ (oldest_out s (suc i)).«data» k (oldest-sound s h i k)) f;
    }
effect-sound s h (goes_mr {k = i} {a = a} k b r) =
    record { sizes = h.sizes; outs = h.outs; ins = ins-kept s h i k _ (in-joined-sound s.sizes _ (in_entry 0 a (memory_at s a)) r (in-sound s h i k) (entry-sound s.sizes 0 a (memory_at s a) (omega arith) (lt-ltb a _ b))) }
effect-sound s h (goes_cu {k = i} k r) = record { sizes = h.sizes; outs = h.outs; ins = ins-kept s h i k _ (in-left-sound s.sizes _ (in-sound s h i k)) }
effect-sound s h (goes_ci k a) = record { sizes = h.sizes; outs = h.outs; ins = h.ins }

answer-sound : (s : Store) {x : Record} {t : Stepped} → Answers s x t → sound_of s ≡ true → sound_of t.store ≡ true
answer-sound s (takes h g) e = sound-whole _ (effect-sound s (sound-parts s h) g)
answer-sound s (keeps n) e = e

-- a step keeps a sound state sound
pub keeps-sound : (s : Store) (x : Record) → sound_of s ≡ true → sound_of (stepped s x).store ≡ true
keeps-sound s x = answer-sound s (answers s x)

-- ---- the sizes never change, and a refused step keeps the state and has a record of eight zero bytes

effect-sizes : (s : Store) (t : Step) → (effect s t).sizes ≡ s.sizes
effect-sizes s (R i a) = refl
effect-sizes s (W i a d) = refl
effect-sizes s (MW i) = refl
effect-sizes s (MR i a) = refl
effect-sizes s (CU i) = refl
effect-sizes s (CI i a) = refl

answer-sizes : (s : Store) {x : Record} {t : Stepped} → Answers s x t → t.store.sizes ≡ s.sizes
answer-sizes s {x} (takes h g) = effect-sizes s (action_of x)
answer-sizes s (keeps n) = refl

pub keeps-sizes : (s : Store) (x : Record) → (stepped s x).store.sizes ≡ s.sizes
keeps-sizes s x = answer-sizes s (answers s x)

answer-refused : (s : Store) {x : Record} {t : Stepped} → Answers s x t → ¬ (t.number ≡ 0) → (t.store ≡ s) × (t.event ≡ no_record)
answer-refused s (takes h g) e = absurd (e refl)
answer-refused s (keeps n) e = (refl, refl)

-- "A refused step answers with its number, the state it was given, and a record of eight zero bytes."
pub refused-keeps : (s : Store) (x : Record) → ¬ ((stepped s x).number ≡ 0) → ((stepped s x).store ≡ s) × ((stepped s x).event ≡ no_record)
refused-keeps s x = answer-refused s (answers s x)

-- ---- fresh stores

pub fresh-numbered : (z : Sizes) (table : List ℕ) → numbered (fresh_refused z table) ≡ true
unfolding fresh_refused sizes_refused
fresh-numbered z table = refl

pub fresh-sizes : (z : Sizes) (table : List ℕ) → first_of (fresh_refused z table) ≡ 0 → first_of (sizes_refused z) ≡ 0
unfolding fresh_refused
fresh-sizes z table e = first-none (sizes_refused z) (none-split (sizes_refused z) _ (none_first (fresh_refused z table) (fresh-numbered z table) e)).0

-- the memory table has m entries
pub fresh-table : (z : Sizes) (table : List ℕ) → first_of (fresh_refused z table) ≡ 0 → length table ≡ z.addresses
unfolding fresh_refused
fresh-table z table e = eqb-true _ _ (not-false _ (none-split (sizes_refused z) _ (none_first (fresh_refused z table) (fresh-numbered z table) e)).1.0)

pub fresh-short : (z : Sizes) (table : List ℕ) → first_of (fresh_refused z table) ≡ 0 → length table ≤ 64
fresh-short z table e = omega (arith, fresh-table z table e, (sizes-ranged z (fresh-sizes z table e)).addresses)

-- a fresh store is sound
pub fresh_sound : (z : Sizes) (table : List ℕ) → first_of (fresh_refused z table) ≡ 0 → sound_of (fresh_of z table) ≡ true
unfolding fresh_of
fresh_sound z table e = sound-whole (fresh_of z table) (record {
  sizes = eq-eqb (first_of (sizes_refused z)) 0 (fresh-sizes z table e);
  outs = all_replicate (sound_out z) z.engines 8 empty_out (and_both (le-leb 0 z.depth (omega arith)) refl);
  ins = all_replicate (sound_in z) z.engines 8 empty_in (and_both (le-leb 0 z.depth (omega arith)) refl);
})

-- "a state of zeros, which is unsound"
pub zeros_unsound : sound_of zeros ≡ false
unfolding sound_of fresh_of sizes_refused
zeros_unsound = refl
