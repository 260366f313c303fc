-- What a chain over a slice or the first places of an array answers, and where the parts and the word of a well-formed record stand. Assumes nothing.
use mathlib.Core.Path.{◌≡◌, refl, sym, ap, ◌∙◌}
use mathlib.Core.Bool.{Bool, true, false, ◌&&◌, ◌||◌}
use mathlib.Core.List.{List, [], ◌∷◌}
use Prim.Native.Nat.{ℕ, zero, suc, pred, ◌<◌}
use native.Mathlib.Omega.{arith}
use lib.ListN.{length, take}
use denote.Ref.{Bor}
use denote.Param.Members.{Mut}
use Rattle.std.specs.declared.iter.Take.{Take}
use Rattle.std.specs.declared.iter.Zip.{Zip}
use Rattle.std.specs.declared.slice.Iter.{Iter}
use borrow.Author.Tests.{ne_eqb}
use Rattle.std.specs.Prelude.{Result, Ok, Err, Some, None, is_ok}
use Rattle.std.specs.Bool.{then_some}
use Rattle.std.specs.List.{list_all, list_any, zip}
use Rattle.std.specs.Fn.{Called}
use Rattle.std.specs.Iterator.{ChecksAll, ChecksAny}
use Rattle.std.specs.Iterator.Adapters.{take_source, take_count, take_steps, zip_first, zip_second, zip_steps}
use Rattle.std.specs.Slice.Iter.{iter_rest}
use Rattle.std.proofs.iter.Yields.{fronts}
use Rattle.std.proofs.lemmas.Iterator.{YieldsList, YieldsList-from_slice, YieldsList-from_take, YieldsList-from_zip}
use Rattle.std.proofs.lemmas.Iterator.Consumers.{YieldsList-at}
use Rattle.std.proofs.lemmas.Iterator.Search.{all_from_yields_List, any_from_yields_List}
use Rattle.figure.specs.Figure.{Step}
use Rattle.figure.specs.Refusals.{first_of, pick, sizes_refused, most_addresses}
use Rattle.figure.specs.Refused.{number_in}
use Rattle.figure.specs.declared.Record.{Record}
use Rattle.figure.specs.declared.Sizes.{Sizes}
use Rattle.figure.specs.declared.refused.Refused.{Refused}
use Rattle.figure.proofs.Numbers.{not-none}
use Rattle.shape.specs.Parts.{any, all}
use Rattle.shape.specs.Sound.{sound_sizes, sound_of}
use Rattle.shape.specs.Step.{form_refused}
use Rattle.shape.specs.declared.Store.{Store}
use Rattle.shape.proofs.Kept.{Ranged, ranged, sound-parts}
use Rattle.shape.proofs.Taken.{Asks, asks_r, asks_w, asks_mw, asks_mr, asks_cu, asks_ci, asked}
use Rattle.scan.specs.Scan.{PlaceIn, WordIn}

-- ---- what `xs.iter().take(n)` answers to `all` and to `any`, in shape's words

module _ {A : Type 0} (test : A → Bool) where
  all-listed : (l : List A) → list_all test l ≡ all test l
  all-listed [] = refl
  all-listed (x ∷ l) = ap (λ (b : Bool). test x && b) (all-listed l)

  any-listed : (l : List A) → list_any test l ≡ any test l
  any-listed [] = refl
  any-listed (x ∷ l) = ap (λ (b : Bool). test x || b) (any-listed l)

-- the chain gives the first n
firsts : {A : Type 0} {s : Take (Iter A)} {from : Iter A} (n : ℕ) (xs : List A) → take_source s ≡ from → iter_rest from ≡ xs → take_count s ≡ n → YieldsList (take_steps fronts) (λ (y : Bor A). y.now) s (take n xs)
firsts n xs source rest count = YieldsList-from_take n (YieldsList-at source (YieldsList-from_slice xs rest)) count

module _ {A F : Type 0} {g : Mut F (Bor A × Unit {0}) Bool} {s : Take (Iter A)} {from : Iter A} {f : F} (test : A → Bool) (n : ℕ) (xs : List A)
    (source : take_source s ≡ from) (rest : iter_rest from ≡ xs) (count : take_count s ≡ n)
    (tells : (x : Bor A) (b : Bool) (q : F) → Called g f (x, tt) b q → (q ≡ f) × (b ≡ test x.now)) {r : Bool} (u : Take (Iter A)) where
  pub all-firsts : ChecksAll (take_steps fronts) g s f r u → r ≡ all test (take n xs)
  all-firsts ran = all_from_yields_List test u f r ran (firsts n xs source rest count) tells ∙ all-listed test (take n xs)

  pub any-firsts : ChecksAny (take_steps fronts) g s f r u → r ≡ any test (take n xs)
  any-firsts ran = any_from_yields_List test u f r ran (firsts n xs source rest count) tells ∙ any-listed test (take n xs)

-- ---- and what the first n pairs of two lists of one length answer

module _ {A B : Type 0} (test : A → Bool) (other : B → Bool) where
  abbrev each-both : A × B → Bool
  each-both p = test p.0 && other p.1

  apart : (a b c d : Bool) → ((a && b) && (c && d)) ≡ ((a && c) && (b && d))
  apart true true c d = refl
  apart true false true d = refl
  apart true false false d = refl
  apart false b c d = refl

  all-both : (n : ℕ) (xs : List A) (ys : List B) → length xs ≡ length ys → all each-both (take n (zip xs ys)) ≡ (all test (take n xs) && all other (take n ys))
  all-both zero xs ys e = refl
  all-both (suc n) [] [] e = refl
  all-both (suc n) [] (y ∷ ys) e = absurd (omega (arith, e))
  all-both (suc n) (x ∷ xs) [] e = absurd (omega (arith, e))
  all-both (suc n) (x ∷ xs) (y ∷ ys) e = rw (all-both n xs ys (omega (arith, e))) (apart (test x) (other y) (all test (take n xs)) (all other (take n ys)))

module _ {A B F : Type 0} {g : Mut F ((Bor A × Bor B) × Unit {0}) Bool} {s : Take (Zip (Iter A) (Iter B))} {from : Zip (Iter A) (Iter B)} {f : F} (test : A → Bool) (other : B → Bool) (n : ℕ) (xs : List A) (ys : List B)
    (source : take_source s ≡ from) (one : iter_rest (zip_first from) ≡ xs) (two : iter_rest (zip_second from) ≡ ys) (count : take_count s ≡ n) (long : length xs ≡ length ys)
    (tells : (x : Bor A × Bor B) (b : Bool) (q : F) → Called g f (x, tt) b q → (q ≡ f) × (b ≡ (test x.0.now && other x.1.now))) {r : Bool} (u : Take (Zip (Iter A) (Iter B))) where
  pub all-pairs : ChecksAll (take_steps (zip_steps fronts fronts)) g s f r u → r ≡ (all test (take n xs) && all other (take n ys))
  all-pairs ran =
      let pairs = YieldsList-at source (YieldsList-from_zip (YieldsList-from_slice xs one) (YieldsList-from_slice ys two)) in
      all_from_yields_List (each-both test other) u f r ran (YieldsList-from_take n pairs count) tells ∙ all-listed (each-both test other) (take n (zip xs ys)) ∙ all-both test other n xs ys long

-- ---- and over a slice

module _ {A F : Type 0} {g : Mut F (Bor A × Unit {0}) Bool} {s : Iter A} {f : F} (test : A → Bool) (xs : List A) (rest : iter_rest s ≡ xs)
    (tells : (x : Bor A) (b : Bool) (q : F) → Called g f (x, tt) b q → (q ≡ f) × (b ≡ test x.now)) {r : Bool} (u : Iter A) where
  pub all-slice : ChecksAll fronts g s f r u → r ≡ all test xs
  all-slice ran = all_from_yields_List test u f r ran (YieldsList-from_slice xs rest) tells ∙ all-listed test xs

  pub any-slice : ChecksAny fronts g s f r u → r ≡ any test xs
  any-slice ran = any_from_yields_List test u f r ran (YieldsList-from_slice xs rest) tells ∙ any-listed test xs

-- ---- values of the library's types in shape's words

-- sizes that are not refused
pub ok-sizes : {A : Type 0} (r : Result A Refused) (z : Sizes) → number_in r ≡ first_of (sizes_refused z) → is_ok r ≡ sound_sizes z
ok-sizes (Ok a) z h = rw (← h) refl
ok-sizes (Err e) z h = rw (← h) (sym (ne_eqb _ 0 (not-none e)))

-- a word that is there or not
pub some-word : (held : Bool) (d : ℕ) → then_some held d ≡ pick held (Some d) None
some-word true d = refl
some-word false d = refl

-- ---- a well-formed record names an engine and an address of the store

pub formed-place : {z : Sizes} {x : Record} {t : Step} → Asks z x t → (x.engine.0 ≡ suc (pred x.engine.0)) × (pred x.engine.0 < z.engines)
formed-place (asks_r k a) = (refl, k)
formed-place (asks_w k a) = (refl, k)
formed-place (asks_mw k) = (refl, k)
formed-place (asks_mr k a) = (refl, k)
formed-place (asks_cu k) = (refl, k)
formed-place (asks_ci k a) = (refl, k)

pub formed-address : {z : Sizes} {x : Record} {t : Step} → Asks z x t → Ranged z → x.address.0 < most_addresses
formed-address (asks_r k a) r = omega (arith, r.addresses)
formed-address (asks_w k a) r = omega (arith, r.addresses)
formed-address (asks_mw k) r = omega arith
formed-address (asks_mr k a) r = omega (arith, r.addresses)
formed-address (asks_cu k) r = omega arith
formed-address (asks_ci k a) r = omega (arith, r.addresses)

-- where its parts and its word stand
pub record Stands (z : Sizes) (x : Record) (k a : ℕ) : Type 0 where
  pub known : k < z.engines
  pub number : x.engine.0 ≡ suc k
  pub word : a ≡ x.address.0

pub stands : (s : Store) (x : Record) {k a : ℕ} → PlaceIn x.engine.0 k → WordIn x.address.0 a → sound_of s ≡ true → first_of (form_refused s.sizes x) ≡ 0 → Stands s.sizes x k a
stands s x p w h f =
    let r : Ranged s.sizes = ranged s (sound-parts s h) in
    let q = asked s.sizes x f in
    let n = formed-place q in
    let e = p.exact (omega (arith, n.0, n.1, r.engines)) in
    record { known = rw (e) n.1; number = n.0 ∙ ap suc (sym e); word = w.exact (formed-address q r) }
