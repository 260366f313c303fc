-- Of a sound store: the step has number 0 exactly if Figure 2 allows it, the numbers are in range and there is room. Assumes nothing.
use mathlib.Core.Path.{◌≡◌, refl, sym, ap, ap₂, ◌∙◌}
use mathlib.Core.Bool.{Bool, true, false, not, ◌&&◌, ◌||◌}
use mathlib.Core.List.{List, [], ◌∷◌, map}
use mathlib.Core.Option.{none, some}
use Prim.Native.Nat.{ℕ, zero, suc, ◌≤◌, ◌<◌}
use native.Mathlib.Nat.{not-suc-le-zero}
use native.Mathlib.Omega.{arith}
use lib.Dec.{eqb, leb, ltb}
use lib.ListN.{length, take, get_or, length-map}
use lib.Seq.{length-take-le, take-suc}
use borrow.Author.Tests.{leb-true, leb-false, le-leb, lt-ltb, le-ltb, ne_eqb}
use Rattle.figure.specs.Figure.{Engine, Step, empty, present, none_of, engine?, has_room, all_room, accepted}
use Rattle.figure.specs.Refusals.{pick, first_of}
use Rattle.figure.specs.declared.Record.{Record}
use Rattle.figure.specs.declared.Sizes.{Sizes}
use Rattle.figure.proofs.Laws.{and_left}
use Rattle.shape.proofs.Kept.{Sound, ranged, out-sound, in-sound}
use Rattle.shape.proofs.Places.{and_both, any-end}
use Rattle.shape.specs.Shaped.{Shaped}
use Rattle.shape.proofs.Taken.{Asks, asks_r, asks_w, asks_mw, asks_mr, asks_cu, asks_ci}
use Rattle.shape.specs.Parts.{any, full, is_from, own_waits, in_cache, cached_value, in_of, no_in}
use Rattle.shape.specs.Step.{out_at, in_at, cache_at, turn_refused}
use Rattle.shape.specs.View.{out_view, in_view, engine_view, view}
use Rattle.shape.specs.declared.InEntry.{InEntry}
use Rattle.shape.specs.declared.InQueue.{InQueue}
use Rattle.shape.specs.declared.Store.{Store}

-- ---- the tests, as the store has them and as the figure has them

pub engine-true : (z : Sizes) (k : ℕ) → k < z.engines → engine? z (suc k) ≡ true
engine-true z k h = and_both (le-leb 1 (suc k) (omega arith)) (le-leb (suc k) z.engines h)

present-is : (b : Bool) (v : ℕ) → present (pick b (some v) none) ≡ b
present-is true v = refl
present-is false v = refl

not-le : (d n : ℕ) → ltb n d ≡ not (leb d n)
not-le d n = at (leb d n) refl
  where
    at : (t : Bool) → leb d n ≡ t → ltb n d ≡ not t
    at true e = le-ltb n d (leb-true d n e)
    at false e = lt-ltb n d (leb-false d n e)

-- a queue of n entries in an array of at least as many
module _ {A B : Type 0} (f : A → B) where
  empty-is : (n : ℕ) (es : List A) → n ≤ length es → empty (map f (take n es)) ≡ eqb n 0
  empty-is zero es h = refl
  empty-is (suc n) [] h = absurd (not-suc-le-zero h)
  empty-is (suc n) (x ∷ es) h = sym (ne_eqb (suc n) 0 (omega arith))

  room-is : (d n : ℕ) (es : List A) → n ≤ length es → has_room d (map f (take n es)) ≡ not (full d n)
  room-is d n es h = ap (λ (k : ℕ). ltb k d) (length-map (take n es) f ∙ length-take-le n es h) ∙ not-le d n

none-of-is : (i : ℕ) (l : List InEntry) → none_of i (map in_view l) ≡ not (any (is_from (record { 0 = i })) l)
none-of-is i [] = refl
none-of-is i (x ∷ l) = at (eqb x.origin.0 i) (none-of-is i l)
  where
    at : (t : Bool) → none_of i (map in_view l) ≡ not (any (is_from (record { 0 = i })) l) → not t && none_of i (map in_view l) ≡ not (t || any (is_from (record { 0 = i })) l)
    at true e = refl
    at false e = e

-- "room in every in queue", from the first to the last and from the last to the first
all-room-is : (d : ℕ) (f : ℕ → Engine) (l : List InQueue) (n : ℕ) → n ≤ length l → ((k : ℕ) → k < n → has_room d (f (suc k)).ins ≡ not (full d (get_or l k no_in).len))
    → all_room n d f ≡ not (any (λ (q : InQueue). full d q.len) (take n l))
all-room-is d f l zero h e = refl
all-room-is d f l (suc n) h e =
    let p : InQueue → Bool = λ (q : InQueue). full d q.len in
    ap₂ ◌&&◌ (e n (omega arith)) (all-room-is d f l n (omega arith) (λ k c. e k (omega arith)))
    ∙ both (p (get_or l n no_in)) (any p (take n l))
    ∙ ap not (sym (any-end p (take n l) (get_or l n no_in)))
    ∙ ap (λ (r : List InQueue). not (any p r)) (sym (take-suc l n no_in h))
  where
    both : (a b : Bool) → not a && not b ≡ not (b || a)
    both true true = refl
    both true false = refl
    both false true = refl
    both false false = refl

-- ---- queues of a sound store fit their arrays

module _ (s : Store) (h : Sound s) (g : Shaped s) (k : ℕ) (b : k < s.sizes.engines) where
  pub out-fits : (out_at s (suc k)).len ≤ length (out_at s (suc k)).entries
  out-fits =
      let r = ranged s h in
      let m : k < 8 = omega arith in
      omega (arith, (g.outs.each k m).entries, leb-true (out_at s (suc k)).len s.sizes.depth (and_left (leb (out_at s (suc k)).len s.sizes.depth) _ (out-sound s h k b)))

  pub in-fits : (in_at s (suc k)).len ≤ length (in_at s (suc k)).entries
  in-fits =
      let r = ranged s h in
      let m : k < 8 = omega arith in
      omega (arith, (g.ins.each k m).entries, leb-true (in_at s (suc k)).len s.sizes.depth (and_left (leb (in_at s (suc k)).len s.sizes.depth) _ (in-sound s h k b)))

-- ---- the refusals of one kind, and the figure's tests; `e` and `a`: the engine and the address are the store's

read-law : (o w c : Bool) {e a p m n : Bool} → e ≡ true → a ≡ true → p ≡ c → m ≡ o → n ≡ not w
    → eqb (pick (not o) 21 (pick w 22 (pick (not c) 23 0))) 0 ≡ (e && a) && ((p && (m && n)) && true)
read-law o w c he ha hp hm hn = rw (he, ha, hp, hm, hn) (at o w c)
  where
    at : (o w c : Bool) → eqb (pick (not o) 21 (pick w 22 (pick (not c) 23 0))) 0 ≡ (c && (o && not w)) && true
    at true true true = refl
    at true true false = refl
    at true false true = refl
    at true false false = refl
    at false true true = refl
    at false true false = refl
    at false false true = refl
    at false false false = refl

-- W and MR, of number n
join-law : (n : ℕ) (f : Bool) {e a r : Bool} → eqb n 0 ≡ false → e ≡ true → a ≡ true → r ≡ not f → eqb (pick f n 0) 0 ≡ (e && a) && (true && r)
join-law n true h he ha hr = rw (he, ha, hr) h
join-law n false h he ha hr = rw (he, ha, hr)

publish-law : (o f : Bool) {e m r : Bool} → e ≡ true → m ≡ o → r ≡ not f → eqb (pick o 25 (pick f 26 0)) 0 ≡ e && (not m && r)
publish-law true f he hm hr = rw (he, hm)
publish-law false true he hm hr = rw (he, hm, hr)
publish-law false false he hm hr = rw (he, hm, hr)

take-law : (o : Bool) {e m : Bool} → e ≡ true → m ≡ o → eqb (pick o 28 0) 0 ≡ e && (not m && true)
take-law true he hm = rw (he, hm)
take-law false he hm = rw (he, hm)

-- accepted exactly, of a well-formed record
pub turn-accepted : (s : Store) → Sound s → Shaped s → {x : Record} {t : Step} → Asks s.sizes x t → eqb (first_of (turn_refused s t)) 0 ≡ accepted s.sizes (view s) t
unfolding turn_refused
turn-accepted s h g (asks_r {k = i} {a = a} k b) =
    let q = out_at s (suc i) in
    let p = in_at s (suc i) in
    let c = cache_at s (suc i) in
    read-law (eqb q.len 0) (own_waits (record { 0 = suc i }) p) (in_cache c (record { 0 = a })) (engine-true s.sizes i k) (lt-ltb a _ b)
    (present-is _ (cached_value c (record { 0 = a }))) (empty-is out_view q.len q.entries (out-fits s h g i k)) (none-of-is (suc i) (in_of p))
turn-accepted s h g (asks_w {k = i} {a = a} k b) =
    let q = out_at s (suc i) in
    join-law 24 (full s.sizes.depth q.len) refl (engine-true s.sizes i k) (lt-ltb a _ b) (room-is out_view s.sizes.depth q.len q.entries (out-fits s h g i k))
turn-accepted s h g (asks_mw {k = i} k) =
    let r = ranged s h in
    let q = out_at s (suc i) in
    publish-law (eqb q.len 0) (any (λ (q : InQueue). full s.sizes.depth q.len) (take s.sizes.engines s.ins))
    (engine-true s.sizes i k) (empty-is out_view q.len q.entries (out-fits s h g i k))
    (all-room-is s.sizes.depth (engine_view s) s.ins s.sizes.engines (omega (arith, g.ins.long))
    (λ j c. room-is in_view s.sizes.depth (in_at s (suc j)).len (in_at s (suc j)).entries (in-fits s h g j c)))
turn-accepted s h g (asks_mr {k = i} {a = a} k b) =
    let q = in_at s (suc i) in
    join-law 27 (full s.sizes.depth q.len) refl (engine-true s.sizes i k) (lt-ltb a _ b) (room-is in_view s.sizes.depth q.len q.entries (in-fits s h g i k))
turn-accepted s h g (asks_cu {k = i} k) =
    let q = in_at s (suc i) in
    take-law (eqb q.len 0) (engine-true s.sizes i k) (empty-is in_view q.len q.entries (in-fits s h g i k))
turn-accepted s h g (asks_ci {k = i} {a = a} k b) = rw (engine-true s.sizes i k, lt-ltb a _ b)
