-- Of a sound store: the view of the next store is Figure 2's next state at every engine and address in range, and the event is Figure 2's. Assumes nothing.
use mathlib.Core.Path.{◌≡◌, refl, sym, ap, subst, ◌∙◌}
use mathlib.Core.Bool.{Bool, true, false, false≢true}
use mathlib.Core.List.{List, [], ◌∷◌, ◌++◌, map, tail}
use mathlib.Core.Option.{Option, none, some}
use Prim.Native.Nat.{ℕ, zero, suc, ◌≤◌, ◌<◌}
use native.Mathlib.Nat.{not-suc-le-zero}
use native.Mathlib.Omega.{arith}
use lib.Dec.{leb}
use lib.ListN.{length, take, set, get_or}
use lib.Seq.{get_or-set_same, get_or-set_other}
use borrow.Author.Tests.{leb-true, ltb-true}
use Rattle.std.proofs.lemmas.List.{map-append}
use Rattle.figure.specs.Figure.{upd, up, Engine, Step, W, MW, MR, CU, CI, engine?, next, publish, update, join_in}
use Rattle.figure.specs.Account.{read, event, held, head_out, head_in}
use Rattle.figure.specs.Event.{event_view}
use Rattle.figure.specs.Refusals.{pick, most_engines, most_addresses}
use Rattle.figure.specs.declared.Record.{Record}
use Rattle.figure.specs.declared.Sizes.{Sizes}
use Rattle.figure.proofs.Laws.{and_right, upd-one}
use Rattle.figure.proofs.Respects.{agrees-refl}
use Rattle.figure.specs.Agree.{Alike, Agrees}
use Rattle.shape.proofs.Exactly.{out-fits, in-fits}
use Rattle.shape.proofs.Kept.{Sound, ranged, oldest-sound, oldest-in-sound}
use Rattle.shape.proofs.Places.{get_or-change-same, get_or-change-other, get_or-firsts-below, out-with, in-with}
use Rattle.shape.specs.Shaped.{Shaped, CacheShaped}
use Rattle.shape.proofs.Taken.{Goes, goes_r, goes_w, goes_mw, goes_mr, goes_cu, goes_ci}
use Rattle.shape.specs.Parts.{change, out_of, out_joined, out_left, in_of, in_joined, in_left, cached, dropped, cached_value, no_out_entry, no_in_entry, no_out, no_in, no_cache}
use Rattle.shape.specs.Step.{out_at, in_at, cache_at, memory_at, out_entry, in_entry, oldest_out, oldest_in, effect, event_of}
use Rattle.shape.specs.View.{out_view, in_view, cache_view, engine_view, view}
use Rattle.shape.specs.declared.Cache.{Cache}
use Rattle.shape.specs.declared.InEntry.{InEntry}
use Rattle.shape.specs.declared.InQueue.{InQueue}
use Rattle.shape.specs.declared.OutEntry.{OutEntry}
use Rattle.shape.specs.declared.OutQueue.{OutQueue}
use Rattle.shape.specs.declared.Store.{Store}

-- ---- queues: what joins and what leaves, seen through the view

out-joined-view : (x : OutEntry) (q : OutQueue) → map out_view (out_of (out_joined x q)) ≡ map out_view (out_of q) ++ (out_view x ∷ [])
out-joined-view x q = ap (map out_view) (out-with q (out_of q ++ (x ∷ []))) ∙ map-append out_view (out_of q) (x ∷ [])

in-joined-view : (x : InEntry) (q : InQueue) → map in_view (in_of (in_joined x q)) ≡ map in_view (in_of q) ++ (in_view x ∷ [])
in-joined-view x q = ap (map in_view) (in-with q (in_of q ++ (x ∷ []))) ∙ map-append in_view (in_of q) (x ∷ [])

out-left-view : (q : OutQueue) → map out_view (out_of (out_left q)) ≡ map out_view (tail (out_of q))
out-left-view q = ap (map out_view) (out-with q (tail (out_of q)))

in-left-view : (q : InQueue) → map in_view (in_of (in_left q)) ≡ map in_view (tail (in_of q))
in-left-view q = ap (map in_view) (in-with q (tail (in_of q)))

-- a queue that is not empty is its oldest entry and the others
module _ {A : Type 0} where
  oldest-first : (n : ℕ) (es : List A) (d : A) → 0 < n → n ≤ length es → take n es ≡ get_or (take n es) 0 d ∷ tail (take n es)
  oldest-first zero es d h b = absurd (not-suc-le-zero h)
  oldest-first (suc n) [] d h b = absurd (not-suc-le-zero b)
  oldest-first (suc n) (x ∷ es) d h b = refl

-- ---- caches and memory

set_view : (l : List ℕ) (a d : ℕ) → a < length l → (b : ℕ) → get_or (set l a d) b 0 ≡ upd (λ c. get_or l c 0) a d b
set_view l a d h = upd-one (λ b (x : ℕ). get_or (set l a d) b 0 ≡ x) (λ c. get_or l c 0) a d (get_or-set_same l a d 0 h) (λ b n. get_or-set_other l a b d 0 n)

module _ (c : Cache) (h : CacheShaped c) (a : ℕ) (b : a < 64) where
  cached-view : (d e : ℕ) → cache_view (cached (record { 0 = a }) d c) e ≡ upd (cache_view c) a (some d) e
  cached-view d = upd-one (λ e (x : Option ℕ). cache_view (cached (record { 0 = a }) d c) e ≡ x) (cache_view c) a (some d)
      (rw (get_or-set_same c.present a true false (omega (arith, h.present)), get_or-set_same c.«data» a d 0 (omega (arith, h.«data»))))
      (λ e n. rw (get_or-set_other c.present a e true false n, get_or-set_other c.«data» a e d 0 n))

  dropped-view : (e : ℕ) → cache_view (dropped (record { 0 = a }) c) e ≡ upd (cache_view c) a none e
  dropped-view = upd-one (λ e (x : Option ℕ). cache_view (dropped (record { 0 = a }) c) e ≡ x) (cache_view c) a none
      (rw (get_or-set_same c.present a false false (omega (arith, h.present))))
      (λ e n. rw (get_or-set_other c.present a e false false n))

-- ---- one engine's parts change, or none

engine-below : (z : Sizes) (j : ℕ) → engine? z (suc j) ≡ true → j < z.engines
engine-below z j y = leb-true (suc j) z.engines (and_right (leb 1 (suc j)) _ y)

-- a fact of the engines in range, after a change at engine suc k
engines-one : (z : Sizes) (P : ℕ → Engine → Type 0) (f : ℕ → Engine) (k : ℕ) (e : Engine) → P (suc k) e
    → ((j : ℕ) → j < z.engines → ¬ (j ≡ k) → P (suc j) (f (suc j))) → (i : ℕ) → engine? z i ≡ true → P i (upd f (suc k) e i)
engines-one z P f k e p o = upd-one (λ i (x : Engine). engine? z i ≡ true → P i x) f (suc k) e (λ _. p) other
  where
    other : (i : ℕ) → ¬ (i ≡ suc k) → engine? z i ≡ true → P i (f i)
    other zero n y = absurd (false≢true y)
    other (suc j) n y = o j (engine-below z j y) (λ q. n (ap suc q))

alike_same : (z : Sizes) {e f : Engine} → e ≡ f → Alike z e f
alike_same z {e} {f} p = record { cache = λ a w. ap (λ (x : Engine). x.cache a) p; outs = ap (λ (x : Engine). x.outs) p; ins = ap (λ (x : Engine). x.ins) p }

agrees-one : (s r : Store) (k : ℕ) (e : Engine) → r.memory ≡ s.memory → ((j : ℕ) → ¬ (j ≡ k) → engine_view r (suc j) ≡ engine_view s (suc j)) → Alike s.sizes (engine_view r (suc k)) e
    → Agrees s.sizes (view r) (record { memory = memory_at s; engine = upd (engine_view s) (suc k) e })
agrees-one s r k e m o p = record {
  memory = λ a w. ap (λ (l : List ℕ). get_or l a 0) m;
  engine = engines-one s.sizes (λ i x. Alike s.sizes (engine_view r i) x) (engine_view s) k e p (λ j b n. alike_same s.sizes (o j n));
}

-- ---- the six steps

module _ (s : Store) (h : Sound s) (g : Shaped s) (k : ℕ) (b : k < s.sizes.engines) where
  place : k < most_engines
  place = let r = ranged s h in omega arith

  address : (a : ℕ) → a < s.sizes.addresses → a < most_addresses
  address a c = let r = ranged s h in omega arith

  out-change : (f : OutQueue → OutQueue) → get_or (change k f s.outs) k no_out ≡ f (out_at s (suc k))
  out-change f = get_or-change-same k f s.outs no_out (rw g.outs.long place)

  in-change : (f : InQueue → InQueue) → get_or (change k f s.ins) k no_in ≡ f (in_at s (suc k))
  in-change f = get_or-change-same k f s.ins no_in (rw g.ins.long place)

  cache-change : (f : Cache → Cache) → get_or (change k f s.caches) k no_cache ≡ f (cache_at s (suc k))
  cache-change f = get_or-change-same k f s.caches no_cache (rw g.caches.long place)

  W-agrees : (a d : ℕ) → Agrees s.sizes (view (effect s (W (suc k) a d))) (next (view s) (W (suc k) a d))
  W-agrees a d = agrees-one s (effect s (W (suc k) a d)) k _ refl (λ j n. rw (get_or-change-other k j _ s.outs no_out n)) (record {
    cache = λ c w. refl;
    outs = ap (λ (q : OutQueue). map out_view (out_of q)) (out-change _) ∙ out-joined-view (out_entry a d) (out_at s (suc k));
    ins = refl;
  })

  MR-agrees : (a : ℕ) → Agrees s.sizes (view (effect s (MR (suc k) a))) (next (view s) (MR (suc k) a))
  MR-agrees a = agrees-one s (effect s (MR (suc k) a)) k _ refl (λ j n. rw (get_or-change-other k j _ s.ins no_in n)) (record {
    cache = λ c w. refl;
    outs = refl;
    ins = ap (λ (q : InQueue). map in_view (in_of q)) (in-change _) ∙ in-joined-view (in_entry 0 a (memory_at s a)) (in_at s (suc k));
  })

  CI-agrees : (a : ℕ) → a < s.sizes.addresses → Agrees s.sizes (view (effect s (CI (suc k) a))) (next (view s) (CI (suc k) a))
  CI-agrees a c = agrees-one s (effect s (CI (suc k) a)) k _ refl (λ j n. rw (get_or-change-other k j _ s.caches no_cache n)) (record {
    cache = λ e w. ap (λ (x : Cache). cache_view x e) (cache-change _) ∙ dropped-view (cache_at s (suc k)) (g.caches.each k place) a (address a c) e;
    outs = refl;
    ins = refl;
  })

  -- CU, with the in queue as its head and the others
  CU-head : Agrees s.sizes (view (effect s (CU (suc k)))) (update (view s) (suc k) (in_view (oldest_in s (suc k)) ∷ map in_view (tail (in_of (in_at s (suc k))))))
  CU-head =
      let x = oldest_in s (suc k) in
      let c : x.address.0 < most_addresses = address _ (ltb-true _ _ (and_right (leb x.origin.0 s.sizes.engines) _ (oldest-in-sound s h k b))) in
      agrees-one s (effect s (CU (suc k))) k _ refl (λ j n. rw (get_or-change-other k j _ s.caches no_cache n, get_or-change-other k j _ s.ins no_in n)) (record {
        cache = λ e w. ap (λ (y : Cache). cache_view y e) (cache-change _) ∙ cached-view (cache_at s (suc k)) (g.caches.each k place) x.address.0 c x.«data» e;
        outs = refl;
        ins = ap (λ (q : InQueue). map in_view (in_of q)) (in-change _) ∙ in-left-view (in_at s (suc k));
      })

  CU-agrees : 0 < (in_at s (suc k)).len → Agrees s.sizes (view (effect s (CU (suc k)))) (next (view s) (CU (suc k)))
  CU-agrees p =
      let q = in_at s (suc k) in
      subst (λ (l : List InEntry). Agrees s.sizes (view (effect s (CU (suc k)))) (update (view s) (suc k) (map in_view l)))
      (sym (oldest-first q.len q.entries no_in_entry p (in-fits s h g k b))) CU-head

  -- MW, with the out queue as its head and the others
  MW-head : Agrees s.sizes (view (effect s (MW (suc k)))) (publish (view s) (suc k) (out_view (oldest_out s (suc k)) ∷ map out_view (tail (out_of (out_at s (suc k))))))
  MW-head =
      let x = oldest_out s (suc k) in
      let r = effect s (MW (suc k)) in
      let joins : (j : ℕ) → j < s.sizes.engines → map in_view (in_of (in_at r (suc j))) ≡ map in_view (in_of (in_at s (suc j))) ++ (up (suc k) x.address.0 x.«data» ∷ []) = λ j c.
      ap (λ (q : InQueue). map in_view (in_of q)) (get_or-firsts-below s.sizes.engines j _ s.ins no_in c (let n = ranged s h in omega (arith, g.ins.long)))
      ∙ in-joined-view (in_entry (suc k) x.address.0 x.«data») (in_at s (suc j)) in
      record {
        memory = λ a w. set_view s.memory x.address.0 x.«data» (rw g.memory (address _ (ltb-true _ _ (oldest-sound s h k b)))) a;
        engine = engines-one s.sizes (λ i e. Alike s.sizes (engine_view r i) (join_in e (up (suc k) x.address.0 x.«data»))) (engine_view s) k _
            (record { cache = λ a w. refl; outs = ap (λ (q : OutQueue). map out_view (out_of q)) (out-change _) ∙ out-left-view (out_at s (suc k)); ins = joins k b })
            (λ j c n. record { cache = λ a w. refl; outs = ap (λ (q : OutQueue). map out_view (out_of q)) (get_or-change-other k j _ s.outs no_out n); ins = joins j c });
      }

  MW-agrees : 0 < (out_at s (suc k)).len → Agrees s.sizes (view (effect s (MW (suc k)))) (next (view s) (MW (suc k)))
  MW-agrees p =
      let q = out_at s (suc k) in
      subst (λ (l : List OutEntry). Agrees s.sizes (view (effect s (MW (suc k)))) (publish (view s) (suc k) (map out_view l)))
      (sym (oldest-first q.len q.entries no_out_entry p (out-fits s h g k b))) MW-head

pub next-agrees : (s : Store) → Sound s → Shaped s → {x : Record} {t : Step} → Goes s x t → Agrees s.sizes (view (effect s t)) (next (view s) t)
next-agrees s h g (goes_r k a o w c) = agrees-refl s.sizes (view s)
next-agrees s h g (goes_w {k = i} {a = a} {d = d} k c r) = W-agrees s h g i k a d
next-agrees s h g (goes_mw {k = i} k r f) = MW-agrees s h g i k r
next-agrees s h g (goes_mr {k = i} {a = a} k c r) = MR-agrees s h g i k a
next-agrees s h g (goes_cu {k = i} k r) = CU-agrees s h g i k r
next-agrees s h g (goes_ci {k = i} {a = a} k c) = CI-agrees s h g i k a c

-- ---- the event

pub event-agrees : (s : Store) → Sound s → Shaped s → {x : Record} {t : Step} → Goes s x t → event_view (event_of s x t) ≡ event (view s) t
event-agrees s h g (goes_r {k = i} {a = a} k b o w c) =
    sym (ap (λ (t : Bool). read (suc i) a (held (pick t (some (cached_value (cache_at s (suc i)) (record { 0 = a }))) none))) c)
event-agrees s h g (goes_w k c r) = refl
event-agrees s h g (goes_mw {k = i} k r f) =
    let q = out_at s (suc i) in
    sym (ap (λ (l : List OutEntry). head_out (suc i) (map out_view l)) (oldest-first q.len q.entries no_out_entry r (out-fits s h g i k)))
event-agrees s h g (goes_mr k c r) = refl
event-agrees s h g (goes_cu {k = i} k r) =
    let q = in_at s (suc i) in
    sym (ap (λ (l : List InEntry). head_in (suc i) (map in_view l)) (oldest-first q.len q.entries no_in_entry r (in-fits s h g i k)))
event-agrees s h g (goes_ci k c) = refl
