-- A move's one effect is the step's, whatever its kind; and what a loop that carries it out may rely on. Assumes nothing.
use mathlib.Core.Path.{◌≡◌, refl, sym, ap, ◌∙◌}
use mathlib.Core.Bool.{Bool, true, false, not}
use mathlib.Core.List.{List, [], ◌∷◌, ◌++◌}
use Prim.Native.Nat.{ℕ, zero, suc, pred, ◌<◌, ◌≤◌}
use native.Mathlib.Omega.{arith}
use lib.Dec.{leb}
use lib.ListN.{set, get_or}
use lib.Seq.{set-get_or}
use borrow.Author.Tests.{ltb-true, leb-true}
use Rattle.std.specs.Prelude.{Some, None, is_some}
use Rattle.figure.specs.Figure.{Step}
use Rattle.figure.specs.Refusals.{◌when◌, pick, first_of, most_engines, most_addresses, most_depth}
use Rattle.figure.specs.declared.Address.{Address}
use Rattle.figure.specs.declared.Record.{Record}
use Rattle.figure.proofs.First.{none_first, first-front, first-append}
use Rattle.figure.proofs.Laws.{and_left, and_right}
use Rattle.shape.specs.Parts.{change, in_cache, cached_value, cached_word, dropped, in_of, in_joined, no_in_entry, no_out, no_in}
use Rattle.shape.specs.Sound.{sound_of}
use Rattle.shape.specs.Step.{out_at, in_at, cache_at, oldest_out, oldest_in, memory_at, in_entry, form_refused, turn_refused, step_refused, action_of, effect, event_of, answered, stepped}
use Rattle.shape.specs.declared.Cache.{Cache}
use Rattle.shape.specs.declared.Store.{Store}
use Rattle.shape.proofs.Kept.{Sound, sound-parts, ranged, out-sound, in-sound, oldest-sound, oldest-in-sound}
use Rattle.shape.proofs.Shaped.{room-each}
use Rattle.shape.proofs.Taken.{Asks, asks_r, asks_w, asks_mw, asks_mr, asks_cu, asks_ci, asked, form-numbered, turn-numbered, Goes, goes_r, goes_w, goes_mw, goes_mr, goes_cu, goes_ci, goes}
use Rattle.decide.specs.Move.{Turned, to_memory, refusing, decided, look_refused, allowed_move, move_of}
use Rattle.decide.specs.Effect.{between, left_in, done, Seen}
use Rattle.decide.proofs.Says.{first-miss, unsound-move, badly-formed}
use Rattle.decide.specs.declared.Look.{Look}

-- ---- places that a move leaves as they are

module _ {A : Type 0} where
  pub change-none : (f : A → A) → ((x : A) → f x ≡ x) → (k : ℕ) (l : List A) → change k f l ≡ l
  change-none f h k [] = refl
  change-none f h zero (x ∷ l) = ap (λ (y : A). y ∷ l) (h x)
  change-none f h (suc k) (x ∷ l) = ap (λ (r : List A). x ∷ r) (change-none f h k l)

  change-alike : (f g : A → A) → ((x : A) → f x ≡ g x) → (k : ℕ) (l : List A) → change k f l ≡ change k g l
  change-alike f g h k [] = refl
  change-alike f g h zero (x ∷ l) = ap (λ (y : A). y ∷ l) (h x)
  change-alike f g h (suc k) (x ∷ l) = ap (λ (r : List A). x ∷ r) (change-alike f g h k l)

  between-one : (f : A → A) (k : ℕ) (l : List A) → between k (suc k) f l ≡ change k f l
  between-one f zero [] = refl
  between-one f zero (x ∷ l) = refl
  between-one f (suc k) [] = refl
  between-one f (suc k) (x ∷ l) = ap (λ (r : List A). x ∷ r) (between-one f k l)

-- a word of a cache that is set to what it was, and one that is gone
cache-same : (c : Cache) (a : ℕ) → ◌≡◌ {A = Cache} (record { present = set c.present a (get_or c.present a false); «data» = set c.«data» a (get_or c.«data» a 0) }) c
cache-same c a = rw (set-get_or c.present a false, set-get_or c.«data» a 0)

cache-dropped : (c : Cache) (a : ℕ) → ◌≡◌ {A = Cache} (record { present = set c.present a false; «data» = set c.«data» a (get_or c.«data» a 0) }) (dropped (record { 0 = a }) c)
cache-dropped c a = rw (set-get_or c.«data» a 0)

caches-same : (k a : ℕ) (l : List Cache) → change k (λ (c : Cache). record { present = set c.present a (get_or c.present a false); «data» = set c.«data» a (get_or c.«data» a 0) }) l ≡ l
caches-same k a l = change-none _ (λ c. cache-same c a) k l

queues-same : {A : Type 0} (k : ℕ) (l : List A) → change k (λ (q : A). q) l ≡ l
queues-same k l = change-none _ (λ q. refl) k l

-- ---- what is looked at decides as the store itself does

-- the cache's word is there exactly if the address is in the cache, and then it is the value
word-there : (c : Cache) (a : Address) → is_some (cached_word c a) ≡ in_cache c a
word-there c a = at (in_cache c a)
  where
    at : (t : Bool) → is_some (pick t (Some (cached_value c a)) None) ≡ t
    at true = refl
    at false = refl

word-value : (c : Cache) (a : Address) → in_cache c a ≡ true → cached_word c a ≡ Some (cached_value c a)
word-value c a e = rw (e)

module _ (s : Store) (l : Look) where
  look-first : {x : Record} {t : Step} → Asks s.sizes x t → {p : ℕ} → Seen s x p l → first_of (look_refused s.sizes l t) ≡ first_of (turn_refused s t)
  unfolding turn_refused
  look-first (asks_r {k = i} {a = a} k b) e = rw (e.outs, e.own refl, e.cached, word-there (cache_at s (suc i)) (record { 0 = a }))
  look-first (asks_w k a) e = rw e.outs
  look-first (asks_mw k) e = rw (e.outs, e.blocked refl)
  look-first (asks_mr k a) e = rw e.ins
  look-first (asks_cu k) e = rw e.ins
  look-first (asks_ci k a) e = refl

  -- an allowed step: its move answers and changes what the step does
  acts : {x : Record} {t : Step} → Goes s x t → {p : ℕ} → Seen s x p l
      → done (allowed_move s.sizes x l t) (pred x.engine.0) s ≡ record { number = 0; store = effect s t; event = event_of s x t }
  acts (goes_r {k = i} {a = a} k b o w c) e =
      rw (e.cached, word-value (cache_at s (suc i)) (record { 0 = a }) c, set-get_or s.memory a 0, caches-same i a s.caches, queues-same i s.outs, queues-same i s.ins)
  acts (goes_w {k = i} {a = a} k b r) e = rw (set-get_or s.memory a 0, caches-same i a s.caches, queues-same i s.ins)
  acts (goes_mw {k = i} k r f) e = rw (e.first_out (rw e.outs r), caches-same i (oldest_out s (suc i)).address.0 s.caches, queues-same i s.ins)
  acts (goes_mr {k = i} {a = a} k b r) e =
      rw (e.stored, set-get_or s.memory a 0, caches-same i a s.caches, queues-same i s.outs, queues-same i s.ins, between-one (in_joined (in_entry 0 a (memory_at s a))) i s.ins)
  acts (goes_cu {k = i} k r) e = rw (e.first_in (rw e.ins r), set-get_or s.memory (oldest_in s (suc i)).address.0 0, queues-same i s.outs)
  acts (goes_ci {k = i} {a = a} k b) e =
      rw (set-get_or s.memory a 0, queues-same i s.outs, queues-same i s.ins, change-alike _ _ (λ c. cache-dropped c a) i s.caches)

-- ---- the move of any action, whose engine's parts stand at place k

-- what carrying a move out may rely on
pub record Carries (s : Store) (k : ℕ) (m : Turned) : Type 0 where
  pub one_out : m.out_left ≤ 1
  pub one_in : m.in_left ≤ 1
  pub one_joins : m.out_joins ≤ 1
  pub out_leaves : m.out_left ≡ 1 → (0 < (get_or s.outs k no_out).len) × ((get_or s.outs k no_out).len ≤ most_depth)
  pub in_leaves : m.in_left ≡ 1 → (0 < (get_or s.ins k no_in).len) × ((get_or s.ins k no_in).len ≤ most_depth)
  pub out_joins : m.out_joins ≡ 1 → (m.out_left ≡ 0) × ((get_or s.outs k no_out).len < most_depth)
  pub ordered : m.from ≤ m.to
  pub range : m.to ≤ most_engines
  pub in_joins : (j : ℕ) → m.from ≤ j → j < m.to → (j < s.sizes.engines) × ((get_or (change k (left_in m) s.ins) j no_in).len < most_depth)
  pub address : m.entry.address.0 < most_addresses
  -- whose entry it is: a published write is the engine's own and joins its own queue too, any other that joins is from memory, one that leaves was the oldest
  pub published : m.word ≡ to_memory → (m.entry.origin.0 ≡ suc k) × ((m.from ≤ k) × ((k < m.to) × (m.in_left ≡ 0)))
  pub plain : ¬ (m.word ≡ to_memory) → (j : ℕ) → m.from ≤ j → j < m.to → m.entry.origin.0 ≡ 0
  pub oldest : m.in_left ≡ 1 → (m.entry ≡ get_or (in_of (get_or s.ins k no_in)) 0 no_in_entry) × (m.to ≡ 0)

still-carries : (s : Store) (k : ℕ) (m : Turned) → m.out_left ≡ 0 → m.in_left ≡ 0 → m.out_joins ≡ 0 → m.from ≡ 0 → m.to ≡ 0 → ¬ (m.word ≡ to_memory) → m.entry.address.0 < most_addresses → Carries s k m
still-carries s k m e₁ e₂ e₃ e₄ e₅ w a =
    record {
      one_out = omega arith;
      one_in = omega arith;
      one_joins = omega arith;
      out_leaves = λ e. absurd (omega arith);
      in_leaves = λ e. absurd (omega arith);
      out_joins = λ e. absurd (omega arith);
      ordered = omega arith;
      range = omega arith;
      in_joins = λ j b c. absurd (omega arith);
      address = a;
      published = λ e. absurd (w e);
      plain = λ n j b c. absurd (omega arith);
      oldest = λ e. absurd (omega arith);
    }

module _ (s : Store) (x : Record) (k : ℕ) (l : Look) where
  refuses : (n : ℕ) → done (refusing (suc n)) k s ≡ answered (suc n) s x
  refuses n = rw (set-get_or s.memory 0 0, caches-same k 0 s.caches, queues-same k s.outs, queues-same k s.ins)

  going : first_of (form_refused s.sizes x) ≡ 0 → first_of (turn_refused s (action_of x)) ≡ 0 → Goes s x (action_of x)
  going f o = goes s (asked s.sizes x f) (none_first (turn_refused s (action_of x)) (turn-numbered s (action_of x)) o)

  in_turn : first_of (form_refused s.sizes x) ≡ 0 → Seen s x k l → (n : ℕ) → first_of (turn_refused s (action_of x)) ≡ n
      → done (decided n (allowed_move s.sizes x l (action_of x))) k s ≡ answered n s x
  in_turn f e zero o = rw e.place (acts s l (going f o) e)
  in_turn f e (suc n) o = refuses n

  -- what a move that a sound store allows relies on
  module _ (h : Sound s) where
    out-most : (n : ℕ) → n < s.sizes.engines → (get_or s.outs n no_out).len ≤ most_depth
    out-most n b =
        let q = leb-true (out_at s (suc n)).len s.sizes.depth (and_left (leb (out_at s (suc n)).len s.sizes.depth) _ (out-sound s h n b)) in
        omega (arith, (ranged s h).depth)

    in-most : (n : ℕ) → n < s.sizes.engines → (get_or s.ins n no_in).len ≤ most_depth
    in-most n b =
        let q = leb-true (in_at s (suc n)).len s.sizes.depth (and_left (leb (in_at s (suc n)).len s.sizes.depth) _ (in-sound s h n b)) in
        omega (arith, (ranged s h).depth)

    allowed-carries : {y : Record} {t : Step} → Goes s y t → Seen s y k l → Carries s k (allowed_move s.sizes y l t)
    allowed-carries (goes_r i b o w c) e = still-carries s k _ refl refl refl refl refl (λ o. omega arith) (omega (arith, (ranged s h).addresses))
    allowed-carries (goes_w {k = n} i b r) e =
        record {
          one_out = omega arith;
          one_in = omega arith;
          one_joins = omega arith;
          out_leaves = λ o. absurd (omega arith);
          in_leaves = λ o. absurd (omega arith);
          out_joins = λ o. (refl, rw e.place (omega (arith, (ranged s h).depth)));
          ordered = omega arith;
          range = omega arith;
          in_joins = λ j b c. absurd (omega arith);
          address = omega (arith, (ranged s h).addresses);
          published = λ o. absurd (omega arith);
          plain = λ o j b c. absurd (omega arith);
          oldest = λ o. absurd (omega arith);
        }
    allowed-carries (goes_mw {k = n} i r f) e =
        record {
          one_out = omega arith;
          one_in = omega arith;
          one_joins = omega arith;
          out_leaves = λ o. rw e.place (r, out-most n i);
          in_leaves = λ o. absurd (omega arith);
          out_joins = λ o. absurd (omega arith);
          ordered = omega arith;
          range = (ranged s h).engines;
          in_joins = λ j b c. (c, rw (queues-same k s.ins) (omega (arith, room-each s h f j c, (ranged s h).depth)));
          address =
              rw (e.first_out (rw e.outs r))
              (let b = ltb-true (oldest_out s (suc n)).address.0 s.sizes.addresses (oldest-sound s h n i) in omega (arith, (ranged s h).addresses));
          published = λ o. (ap suc (sym e.place), (omega arith, (rw e.place i, refl)));
          plain = λ o j b c. absurd (o refl);
          oldest = λ o. absurd (omega arith);
        }
    allowed-carries (goes_mr {k = n} i b r) e =
        record {
          one_out = omega arith;
          one_in = omega arith;
          one_joins = omega arith;
          out_leaves = λ o. absurd (omega arith);
          in_leaves = λ o. absurd (omega arith);
          out_joins = λ o. absurd (omega arith);
          ordered = omega arith;
          range = omega (arith, (ranged s h).engines, e.place);
          in_joins = λ j b c. let q : j ≡ n = omega arith in rw (queues-same k s.ins, q) (i, omega (arith, (ranged s h).depth));
          address = omega (arith, (ranged s h).addresses);
          published = λ o. absurd (omega arith);
          plain = λ o j b c. refl;
          oldest = λ o. absurd (omega arith);
        }
    allowed-carries (goes_cu {k = n} i r) e =
        record {
          one_out = omega arith;
          one_in = omega arith;
          one_joins = omega arith;
          out_leaves = λ o. absurd (omega arith);
          in_leaves = λ o. rw e.place (r, in-most n i);
          out_joins = λ o. absurd (omega arith);
          ordered = omega arith;
          range = omega arith;
          in_joins = λ j b c. absurd (omega arith);
          address =
              rw (e.first_in (rw e.ins r))
              (let b = ltb-true (oldest_in s (suc n)).address.0 s.sizes.addresses (and_right (leb (oldest_in s (suc n)).origin.0 s.sizes.engines) _ (oldest-in-sound s h n i)) in omega (arith, (ranged s h).addresses));
          published = λ o. absurd (omega arith);
          plain = λ o j b c. absurd (omega arith);
          oldest = λ o. (rw e.place (e.first_in (rw e.ins r)), refl);
        }
    allowed-carries (goes_ci i b) e = still-carries s k _ refl refl refl refl refl (λ o. omega arith) (omega (arith, (ranged s h).addresses))

    turn-carries : first_of (form_refused s.sizes x) ≡ 0 → Seen s x k l → (n : ℕ) → first_of (turn_refused s (action_of x)) ≡ n
        → Carries s k (decided n (allowed_move s.sizes x l (action_of x)))
    turn-carries f e zero o = allowed-carries (going f o) e
    turn-carries f e (suc n) o = still-carries s k _ refl refl refl refl refl (λ o. omega arith) (omega arith)

  -- a sound store and a well-formed record; a sound store and a badly formed one; an unsound store
  formed-move : not l.sound ≡ false → (f : first_of (form_refused s.sizes x) ≡ 0) → Seen s x k l
      → move_of s.sizes x l ≡ decided (first_of (turn_refused s (action_of x))) (allowed_move s.sizes x l (action_of x))
  unfolding move_of
  formed-move h f e = rw (first-miss 17 (form_refused s.sizes x ++ look_refused s.sizes l (action_of x)) h, first-append (form_refused s.sizes x) (look_refused s.sizes l (action_of x)) f (form-numbered s.sizes x), look-first s l (asked s.sizes x f) e)

  other-move : not l.sound ≡ false → {n : ℕ} → first_of (form_refused s.sizes x) ≡ suc n → refusing (suc n) ≡ move_of s.sizes x l
  other-move h {n} f = badly-formed s.sizes x l h (sym f) (λ o. omega arith)

  -- what was looked at is what the store shows, as far as an action asks
  module _ (e : l.sound ≡ sound_of s) (g : sound_of s ≡ true → first_of (form_refused s.sizes x) ≡ 0 → Seen s x k l) where
    -- the step is what the move does
    pub decides : {m : Turned} → m ≡ move_of s.sizes x l → done m k s ≡ stepped s x
    unfolding stepped step_refused
    decides w = rw (w) (of (sound_of s) refl)
      where
        formed : sound_of s ≡ true → (n : ℕ) → first_of (form_refused s.sizes x) ≡ n → done (move_of s.sizes x l) k s ≡ answered (first_of (form_refused s.sizes x ++ turn_refused s (action_of x))) s x
        formed h zero f =
            rw (first-append (form_refused s.sizes x) (turn_refused s (action_of x)) f (form-numbered s.sizes x), formed-move (ap not (e ∙ h)) f (g h f))
            (in_turn f (g h f) (first_of (turn_refused s (action_of x))) refl)
        formed h (suc n) f = rw (first-front (form_refused s.sizes x) (turn_refused s (action_of x)) (λ o. omega arith), ← (other-move (ap not (e ∙ h)) f), f) (refuses n)

        of : (t : Bool) → sound_of s ≡ t → done (move_of s.sizes x l) k s ≡ answered (first_of (17 when not (sound_of s) ∷ form_refused s.sizes x ++ turn_refused s (action_of x))) s x
        of true h = rw (h) (formed h (first_of (form_refused s.sizes x)) refl)
        of false h = rw (h, ← (unsound-move s.sizes x l (ap not (e ∙ h)))) (refuses 16)

    pub carries : {m : Turned} → m ≡ move_of s.sizes x l → Carries s k m
    carries w = rw (w) (of (sound_of s) refl)
      where
        formed : sound_of s ≡ true → (n : ℕ) → first_of (form_refused s.sizes x) ≡ n → Carries s k (move_of s.sizes x l)
        formed h zero f = rw (formed-move (ap not (e ∙ h)) f (g h f)) (turn-carries (sound-parts s h) f (g h f) (first_of (turn_refused s (action_of x))) refl)
        formed h (suc n) f = rw (← (other-move (ap not (e ∙ h)) f)) (still-carries s k _ refl refl refl refl refl (λ o. omega arith) (omega arith))

        of : (t : Bool) → sound_of s ≡ t → Carries s k (move_of s.sizes x l)
        of true h = formed h (first_of (form_refused s.sizes x)) refl
        of false h = rw (← (unsound-move s.sizes x l (ap not (e ∙ h)))) (still-carries s k _ refl refl refl refl refl (λ o. omega arith) (omega arith))
