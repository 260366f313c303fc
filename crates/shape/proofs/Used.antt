-- "What stands in unused places never changes an answer." Assumes nothing.
use mathlib.Core.Path.{◌≡◌, refl, sym, ap, ap₂, subst, ◌∙◌}
use mathlib.Core.Bool.{Bool, true, false, ◌&&◌, false≢true}
use mathlib.Core.List.{List, [], ◌∷◌, ◌++◌, tail}
use Prim.Native.Nat.{ℕ, suc, ◌≤◌, ◌<◌}
use native.Mathlib.Omega.{arith}
use lib.Dec.{eqb, leb}
use lib.ListN.{length, take, set, get_or}
use lib.Seq.{get_or-set_same, get_or-set_other}
use borrow.Author.Tests.{eqb-true, eqb-false, ltb-true}
use Rattle.figure.specs.Figure.{Step, MW, MR, CU}
use Rattle.figure.specs.Refusals.{first_of, most_engines, most_addresses}
use Rattle.figure.specs.declared.Record.{Record}
use Rattle.figure.specs.declared.Sizes.{Sizes}
use Rattle.figure.proofs.Laws.{and_right, each}
use Rattle.shape.proofs.Kept.{Ranged, sizes-ranged, Sound, sound-parts, ranged, oldest-sound, oldest-in-sound}
use Rattle.shape.proofs.Numbers.{unsound-number, form-number, turn-number}
use Rattle.shape.proofs.Places.{all_same, any_same, get_or-change-same, get_or-change-other, get_or-firsts-below, out-with, in-with}
use Rattle.shape.specs.Shaped.{Array, CacheShaped, Shaped}
use Rattle.shape.proofs.Taken.{action, Asks, asks_r, asks_w, asks_mw, asks_mr, asks_cu, asks_ci, asked, Goes, goes_r, goes_w, goes_mw, goes_mr, goes_cu, goes_ci, Answers, takes, keeps, answers}
use Rattle.shape.specs.Parts.{any, all, change, firsts, full, out_of, out_joined, out_left, in_of, in_joined, in_left, cached, dropped, no_out_entry, no_in_entry, no_out, no_in, no_cache}
use Rattle.shape.specs.Sound.{sound_sizes, sound_out_entry, sound_in_entry, sound_out, sound_in, sound_of}
use Rattle.shape.specs.Step.{out_at, in_at, cache_at, memory_at, out_entry, in_entry, oldest_out, oldest_in, form_refused, turn_refused, effect, event_of, filled, with_ins, published, updated, stepped, Stepped}
use Rattle.shape.specs.Unused.{SameOut, SameIn, SameCache, SameParts, SameUsed, SameAnswer}
use Rattle.shape.specs.declared.Cache.{Cache}
use Rattle.shape.specs.declared.InEntry.{InEntry}
use Rattle.shape.specs.declared.InQueue.{InQueue}
use Rattle.shape.specs.declared.OutEntry.{OutEntry}
use Rattle.shape.specs.declared.OutQueue.{OutQueue}
use Rattle.shape.specs.declared.Store.{Store}

-- ---- sound or not

out-tested : (z : Sizes) {q p : OutQueue} → SameOut q p → sound_out z q ≡ sound_out z p
out-tested z h = ap₂ (λ (n : ℕ) (l : List OutEntry). leb n z.depth && all (sound_out_entry z) l) h.len h.held

in-tested : (z : Sizes) {q p : InQueue} → SameIn q p → sound_in z q ≡ sound_in z p
in-tested z h = ap₂ (λ (n : ℕ) (l : List InEntry). leb n z.depth && all (sound_in_entry z) l) h.len h.held

-- the store r with the sizes z
abbrev sized : Sizes → Store → Store
sized z r = record { sizes = z; memory = r.memory; caches = r.caches; outs = r.outs; ins = r.ins }

and-if : (a : Bool) {b c : Bool} → (a ≡ true → b ≡ c) → a && b ≡ a && c
and-if true h = h refl
and-if false h = refl

sound-same : (s r : Store) → Shaped s → Shaped r → SameParts s.sizes s r → sound_of s ≡ sound_of (sized s.sizes r)
unfolding sound_of
sound-same s r g u e = and-if (sound_sizes s.sizes) λ f.
    let b = sizes-ranged s.sizes (eqb-true _ 0 f) in
    let n : s.sizes.engines ≤ most_engines = b.engines in
    ap₂ ◌&&◌
    (all_same (sound_out s.sizes) (sound_out s.sizes) no_out s.sizes.engines s.outs r.outs (rw g.outs.long n) (rw u.outs.long n) (λ k c. out-tested s.sizes (e.outs k c)))
    (all_same (sound_in s.sizes) (sound_in s.sizes) no_in s.sizes.engines s.ins r.ins (rw g.ins.long n) (rw u.ins.long n) (λ k c. in-tested s.sizes (e.ins k c)))

-- ---- the refusals of a well-formed record

turn-same : (s r : Store) → Ranged s.sizes → Shaped s → Shaped r → SameParts s.sizes s r → {x : Record} {t : Step} → Asks s.sizes x t
    → first_of (turn_refused s t) ≡ first_of (turn_refused (sized s.sizes r) t)
unfolding turn_refused
turn-same s r b g u e (asks_r {k = i} {a = a} k c) = rw ((e.outs i k).len, (e.ins i k).held, (e.caches i k).present a c)
turn-same s r b g u e (asks_w {k = i} k c) = rw (e.outs i k).len
turn-same s r b g u e (asks_mw {k = i} k) =
    let p : InQueue → Bool = λ (q : InQueue). full s.sizes.depth q.len in
    let n : s.sizes.engines ≤ most_engines = b.engines in
    let q : any p (take s.sizes.engines s.ins) ≡ any p (take s.sizes.engines r.ins) =
    any_same p p no_in s.sizes.engines s.ins r.ins (rw g.ins.long n) (rw u.ins.long n) (λ j c. ap (full s.sizes.depth) (e.ins j c).len) in
    rw ((e.outs i k).len, q)
turn-same s r b g u e (asks_mr {k = i} k c) = rw (e.ins i k).len
turn-same s r b g u e (asks_cu {k = i} k) = rw (e.ins i k).len
turn-same s r b g u e (asks_ci k c) = refl

-- ---- parts that change alike

out-joined-same : (x : OutEntry) {q p : OutQueue} → SameOut q p → SameOut (out_joined x q) (out_joined x p)
out-joined-same x {q} {p} h =
    let e : out_of q ++ (x ∷ []) ≡ out_of p ++ (x ∷ []) = ap (λ (l : List OutEntry). l ++ (x ∷ [])) h.held in
    record { len = ap length e; held = out-with q (out_of q ++ (x ∷ [])) ∙ e ∙ sym (out-with p (out_of p ++ (x ∷ []))) }

out-left-same : {q p : OutQueue} → SameOut q p → SameOut (out_left q) (out_left p)
out-left-same {q} {p} h =
    let e : tail (out_of q) ≡ tail (out_of p) = ap tail h.held in
    record { len = ap length e; held = out-with q (tail (out_of q)) ∙ e ∙ sym (out-with p (tail (out_of p))) }

in-joined-same : (x : InEntry) {q p : InQueue} → SameIn q p → SameIn (in_joined x q) (in_joined x p)
in-joined-same x {q} {p} h =
    let e : in_of q ++ (x ∷ []) ≡ in_of p ++ (x ∷ []) = ap (λ (l : List InEntry). l ++ (x ∷ [])) h.held in
    record { len = ap length e; held = in-with q (in_of q ++ (x ∷ [])) ∙ e ∙ sym (in-with p (in_of p ++ (x ∷ []))) }

in-left-same : {q p : InQueue} → SameIn q p → SameIn (in_left q) (in_left p)
in-left-same {q} {p} h =
    let e : tail (in_of q) ≡ tail (in_of p) = ap tail h.held in
    record { len = ap length e; held = in-with q (tail (in_of q)) ∙ e ∙ sym (in-with p (tail (in_of p))) }

-- one place of two arrays set to one value
module _ {A : Type 0} (d v : A) (l r : List A) (a : ℕ) (b : a < length l) (c : a < length r) where
  set_same : (P : ℕ → Type 0) → ((i : ℕ) → P i → get_or l i d ≡ get_or r i d) → (i : ℕ) → P i → get_or (set l a v) i d ≡ get_or (set r a v) i d
  set_same P h = each (λ i. P i → get_or (set l a v) i d ≡ get_or (set r a v) i d) a
      (λ _. get_or-set_same l a v d b ∙ sym (get_or-set_same r a v d c)) (λ i n p. get_or-set_other l a i v d n ∙ h i p ∙ sym (get_or-set_other r a i v d n))

module _ (m : ℕ) {c d : Cache} (a : ℕ) (b : a < most_addresses) (g : CacheShaped c) (u : CacheShaped d) (h : SameCache m c d) where
  cached-same : (v : ℕ) → SameCache m (cached (record { 0 = a }) v c) (cached (record { 0 = a }) v d)
  cached-same v = record {
    present = set_same false true c.present d.present a (rw g.present b) (rw u.present b) (λ i. i < m) h.present;
    «data» = each (λ i. i < m → get_or (set c.present a true) i false ≡ true → get_or (set c.«data» a v) i 0 ≡ get_or (set d.«data» a v) i 0) a
        (λ _ _. get_or-set_same c.«data» a v 0 (rw g.«data» b) ∙ sym (get_or-set_same d.«data» a v 0 (rw u.«data» b)))
        (λ i n j p. get_or-set_other c.«data» a i v 0 n ∙ h.«data» i j (sym (get_or-set_other c.present a i true false n) ∙ p) ∙ sym (get_or-set_other d.«data» a i v 0 n));
  }

  dropped-same : SameCache m (dropped (record { 0 = a }) c) (dropped (record { 0 = a }) d)
  dropped-same = record {
    present = set_same false false c.present d.present a (rw g.present b) (rw u.present b) (λ i. i < m) h.present;
    «data» = each (λ i. i < m → get_or (set c.present a false) i false ≡ true → get_or c.«data» i 0 ≡ get_or d.«data» i 0) a
        (λ _ p. absurd (false≢true (sym (get_or-set_same c.present a false false (rw g.present b)) ∙ p)))
        (λ i n j p. h.«data» i j (sym (get_or-set_other c.present a i false false n) ∙ p));
  }

-- ---- arrays of parts

module _ {A : Type 0} (P : A → A → Type 0) (n : ℕ) (l r : List A) (d : A) (h : (j : ℕ) → j < n → P (get_or l j d) (get_or r j d)) where
  change-same : (k : ℕ) (f : A → A) → k < n → k < length l → k < length r → (P (get_or l k d) (get_or r k d) → P (f (get_or l k d)) (f (get_or r k d)))
      → (j : ℕ) → j < n → P (get_or (change k f l) j d) (get_or (change k f r) j d)
  change-same k f c a b p = each (λ j. j < n → P (get_or (change k f l) j d) (get_or (change k f r) j d)) k
      (λ _. rw (get_or-change-same k f l d a, get_or-change-same k f r d b) (p (h k c))) (λ j m i. rw (get_or-change-other k j f l d m, get_or-change-other k j f r d m) (h j i))

  firsts_same : (f : A → A) → n ≤ length l → n ≤ length r → ((x y : A) → P x y → P (f x) (f y)) → (j : ℕ) → j < n → P (get_or (firsts n f l) j d) (get_or (firsts n f r) j d)
  firsts_same f a b p j c = rw (get_or-firsts-below n j f l d c (omega arith), get_or-firsts-below n j f r d c (omega arith)) (p _ _ (h j c))

-- ---- the next stores, and the events

oldest-out-same : {q p : OutQueue} → SameOut q p → get_or (out_of q) 0 no_out_entry ≡ get_or (out_of p) 0 no_out_entry
oldest-out-same h = ap (λ (l : List OutEntry). get_or l 0 no_out_entry) h.held

oldest-in-same : {q p : InQueue} → SameIn q p → get_or (in_of q) 0 no_in_entry ≡ get_or (in_of p) 0 no_in_entry
oldest-in-same h = ap (λ (l : List InEntry). get_or l 0 no_in_entry) h.held

same-sized : (s r : Store) → SameParts s.sizes s r → SameUsed s (sized s.sizes r)
same-sized s r e = record { sizes = refl; parts = record { memory = e.memory; caches = e.caches; outs = e.outs; ins = e.ins } }

module _ (s r : Store) (b : Ranged s.sizes) (g : Shaped s) (u : Shaped r) (e : SameParts s.sizes s r) where
  below : {A : Type 0} {d : A} {P : A → Type 0} {l : List A} → Array most_engines d P l → s.sizes.engines ≤ length l
  below a = rw a.long b.engines

  outs-same : (k : ℕ) (f : OutQueue → OutQueue) → k < s.sizes.engines → (SameOut (out_at s (suc k)) (out_at r (suc k)) → SameOut (f (out_at s (suc k))) (f (out_at r (suc k))))
      → (j : ℕ) → j < s.sizes.engines → SameOut (get_or (change k f s.outs) j no_out) (get_or (change k f r.outs) j no_out)
  outs-same k f c = change-same SameOut s.sizes.engines s.outs r.outs no_out e.outs k f c (omega (arith, below g.outs)) (omega (arith, below u.outs))

  ins-same : (k : ℕ) (f : InQueue → InQueue) → k < s.sizes.engines → (SameIn (in_at s (suc k)) (in_at r (suc k)) → SameIn (f (in_at s (suc k))) (f (in_at r (suc k))))
      → (j : ℕ) → j < s.sizes.engines → SameIn (get_or (change k f s.ins) j no_in) (get_or (change k f r.ins) j no_in)
  ins-same k f c = change-same SameIn s.sizes.engines s.ins r.ins no_in e.ins k f c (omega (arith, below g.ins)) (omega (arith, below u.ins))

  caches-same : (k : ℕ) (f : Cache → Cache) → k < s.sizes.engines → (SameCache s.sizes.addresses (cache_at s (suc k)) (cache_at r (suc k)) → SameCache s.sizes.addresses (f (cache_at s (suc k))) (f (cache_at r (suc k))))
      → (j : ℕ) → j < s.sizes.engines → SameCache s.sizes.addresses (get_or (change k f s.caches) j no_cache) (get_or (change k f r.caches) j no_cache)
  caches-same k f c = change-same (SameCache s.sizes.addresses) s.sizes.engines s.caches r.caches no_cache e.caches k f c (omega (arith, below g.caches)) (omega (arith, below u.caches))

  published-same : (k : ℕ) → k < s.sizes.engines → (x : OutEntry) → x.address.0 < s.sizes.addresses → SameParts s.sizes (published s (suc k) x) (published (sized s.sizes r) (suc k) x)
  published-same k c x a = record {
    memory = set_same 0 x.«data» s.memory r.memory x.address.0 (omega (arith, b.addresses, g.memory)) (omega (arith, b.addresses, u.memory)) (λ i. i < s.sizes.addresses) e.memory;
    caches = e.caches;
    outs = outs-same k out_left c out-left-same;
    ins = firsts_same SameIn s.sizes.engines s.ins r.ins no_in e.ins (in_joined (in_entry (suc k) x.address.0 x.«data»)) (below g.ins) (below u.ins)
        (λ q p. in-joined-same (in_entry (suc k) x.address.0 x.«data»));
  }

  updated-same : (k : ℕ) → k < s.sizes.engines → (x : InEntry) → x.address.0 < s.sizes.addresses → SameParts s.sizes (updated s (suc k) x) (updated (sized s.sizes r) (suc k) x)
  updated-same k c x a = record {
    memory = e.memory;
    caches = caches-same k (cached x.address x.«data») c (λ h. cached-same s.sizes.addresses x.address.0 (omega (arith, b.addresses)) (g.caches.each k (omega (arith, b.engines))) (u.caches.each k (omega (arith, b.engines))) h x.«data»);
    outs = e.outs;
    ins = ins-same k in_left c in-left-same;
  }

  effect-same : Sound s → {x : Record} {t : Step} → Goes s x t → SameUsed (effect s t) (effect (sized s.sizes r) t)
  effect-same h (goes_r k a o w c) = same-sized s r e
  effect-same h (goes_w {k = i} {a = a} {d = d} k c l) =
      record { sizes = refl; parts = record { memory = e.memory; caches = e.caches; outs = outs-same i (out_joined (out_entry a d)) k (out-joined-same (out_entry a d)); ins = e.ins } }
  effect-same h (goes_mw {k = i} k l f) =
      record {
        sizes = refl;
        parts = subst (λ (y : OutEntry). SameParts s.sizes (effect s (MW (suc i))) (published (sized s.sizes r) (suc i) y)) (oldest-out-same (e.outs i k))
            (published-same i k (oldest_out s (suc i)) (ltb-true _ _ (oldest-sound s h i k)));
      }
  effect-same h (goes_mr {k = i} {a = a} k c l) =
      let x : ℕ → InEntry = in_entry 0 a in
      record {
        sizes = refl;
        parts = subst (λ (v : ℕ). SameParts s.sizes (effect s (MR (suc i) a)) (with_ins (sized s.sizes r) (change i (in_joined (x v)) r.ins))) (e.memory a c)
            (record { memory = e.memory; caches = e.caches; outs = e.outs; ins = ins-same i (in_joined (x (memory_at s a))) k (in-joined-same (x (memory_at s a))) });
      }
  effect-same h (goes_cu {k = i} k l) =
      record {
        sizes = refl;
        parts = subst (λ (y : InEntry). SameParts s.sizes (effect s (CU (suc i))) (updated (sized s.sizes r) (suc i) y)) (oldest-in-same (e.ins i k))
            (updated-same i k (oldest_in s (suc i)) (ltb-true _ _ (and_right (leb (oldest_in s (suc i)).origin.0 s.sizes.engines) _ (oldest-in-sound s h i k))));
      }
  effect-same h (goes_ci {k = i} {a = a} k c) =
      let m : i < most_engines = omega (arith, b.engines) in
      let f = dropped (record { 0 = a }) in
      record {
        sizes = refl;
        parts = record {
          memory = e.memory;
          caches = caches-same i f k (dropped-same s.sizes.addresses a (omega (arith, b.addresses)) (g.caches.each i m) (u.caches.each i m));
          outs = e.outs;
          ins = e.ins;
        };
      }

  event-same : {x : Record} {t : Step} → Goes s x t → event_of s x t ≡ event_of (sized s.sizes r) x t
  event-same (goes_r {k = i} {a = a} k c o w p) = ap (λ (v : ℕ). filled (action 1 (suc i) a 0) (in_entry 0 a v)) ((e.caches i k).«data» a c p)
  event-same (goes_w k c l) = refl
  event-same (goes_mw {k = i} k l f) = ap (λ (y : OutEntry). filled (action 3 (suc i) 0 0) (in_entry 0 y.address.0 y.«data»)) (oldest-out-same (e.outs i k))
  event-same (goes_mr {k = i} {a = a} k c l) = ap (λ (v : ℕ). filled (action 4 (suc i) a 0) (in_entry 0 a v)) (e.memory a c)
  event-same (goes_cu {k = i} k l) = ap (filled (action 5 (suc i) 0 0)) (oldest-in-same (e.ins i k))
  event-same (goes_ci k c) = refl

-- ---- the answers

module _ (s r : Store) (g : Shaped s) (u : Shaped r) (e : SameParts s.sizes s r) (x : Record) where
  number_same : (stepped s x).number ≡ (stepped (sized s.sizes r) x).number
  number_same = at (sound_of s) refl (eqb (first_of (form_refused s.sizes x)) 0) refl
    where
      at : (t : Bool) → sound_of s ≡ t → (f : Bool) → eqb (first_of (form_refused s.sizes x)) 0 ≡ f → (stepped s x).number ≡ (stepped (sized s.sizes r) x).number
      at false h f i = unsound-number s x h ∙ sym (unsound-number (sized s.sizes r) x (sym (sound-same s r g u e) ∙ h))
      at true h true i =
          let k = eqb-true _ 0 i in
          turn-number s x h k ∙ turn-same s r (ranged s (sound-parts s h)) g u e (asked s.sizes x k) ∙ sym (turn-number (sized s.sizes r) x (sym (sound-same s r g u e) ∙ h) k)
      at true h false i =
          let k = eqb-false _ 0 i in
          form-number s x h k ∙ sym (form-number (sized s.sizes r) x (sym (sound-same s r g u e) ∙ h) k)

  answer-same : {t v : Stepped} → Answers s x t → Answers (sized s.sizes r) x v → t.number ≡ v.number → SameAnswer t v
  answer-same (takes h k) (takes i l) n =
      let p = sound-parts s h in
      record { number = refl; event = event-same s r (ranged s p) g u e k; store = effect-same s r (ranged s p) g u e p k }
  answer-same (takes h k) (keeps m) n = absurd (omega arith)
  answer-same (keeps m) (takes i l) n = absurd (omega arith)
  answer-same (keeps m) (keeps l) n = record { number = n; event = refl; store = same-sized s r e }

  stepped_same : SameAnswer (stepped s x) (stepped (sized s.sizes r) x)
  stepped_same = answer-same (answers s x) (answers (sized s.sizes r) x) number_same

-- "What stands in unused places never changes an answer."
pub same_answer : (s r : Store) → Shaped s → Shaped r → SameUsed s r → (x : Record) → SameAnswer (stepped s x) (stepped r x)
same_answer s r g u h x = subst (λ (z : Sizes). SameAnswer (stepped s x) (stepped (sized z r) x)) h.sizes (stepped_same s r g u h.parts x)

-- nor whether the state is sound
pub same-sound : (s r : Store) → Shaped s → Shaped r → SameUsed s r → sound_of s ≡ sound_of r
same-sound s r g u h = sound-same s r g u h.parts ∙ ap (λ (z : Sizes). sound_of (sized z r)) h.sizes
