-- Two runs in step: what every pair of steps keeps holds after any number of them, and what they tell is related one by one. Assumes nothing.
use mathlib.Core.Path.{◌≡◌, refl, ap}
use mathlib.Core.List.{List, [], ◌∷◌, map}
use mathlib.Core.Option.{Option, none, some}
use Rattle.figure.proofs.Machines.{runs, tape}

-- ---- the one induction over runs

-- the left goes on by a step x, the right as `answer` says, and the relation is kept: then what holds at the end, and before a step where it holds after it, holds at the start
module _ {S T X : Type 0} (go : S → X → S) (answer : S → T → X → T) (rel : S → T → Type 0) (keeps : (s : S) (t : T) (x : X) → rel s t → rel (go s x) (answer s t x)) where
  pub in_step : (Q : S → T → List X → Type 0)
      → ((s : S) (t : T) → rel s t → Q s t [])
      → ((s : S) (t : T) (x : X) (xs : List X) → rel s t → Q (go s x) (answer s t x) xs → Q s t (x ∷ xs))
      → (s : S) (t : T) (xs : List X) → rel s t → Q s t xs
  in_step Q done before s t [] h = done s t h
  in_step Q done before s t (x ∷ xs) h = before s t x xs h (in_step Q done before (go s x) (answer s t x) xs (keeps s t x h))

-- one run alone
pub alone : {S X : Type 0} (go : S → X → S) (Q : S → List X → Type 0) → ((s : S) → Q s []) → ((s : S) (x : X) (xs : List X) → Q (go s x) xs → Q s (x ∷ xs)) → (s : S) (xs : List X) → Q s xs
alone go Q done before s xs = in_step go (λ s t x. t) (λ s t. Unit {0}) (λ s t x h. tt) (λ s (t : Unit {0}) xs. Q s xs) (λ s t h. done s) (λ s t x xs h q. before s x xs q) s tt xs tt

-- ---- two machines

-- the left's tellings beside the right's: one for one, but where the left's is silent
module _ {A B : Type 0} (same : A → B → Type 0) (silent : A → Type 0) where
  pub data Matched : List A → List B → Type 0 where
    nil : Matched [] []
    both : {a : A} {b : B} {l : List A} {r : List B} → same a b → Matched l r → Matched (a ∷ l) (b ∷ r)
    left : {a : A} {l : List A} {r : List B} → silent a → Matched l r → Matched (a ∷ l) r

-- a step of the left is answered by one step of the right or by none
module _ {Y : Type 0} where
  abbrev pub with_reply : Option Y → List Y → List Y
  with_reply none ys = ys
  with_reply (some y) ys = y ∷ ys

module _ {S X Y : Type 0} (go : S → X → S) (reply : S → X → Option Y) where
  abbrev pub replies : S → List X → List Y
  replies s [] = []
  replies s (x ∷ xs) = with_reply (reply s x) (replies (go s x) xs)

module _ {S T X Y A B : Type 0} (go : S → X → S) (tell : S → X → A) (go' : T → Y → T) (tell' : T → Y → B) (reply : S → X → Option Y)
    (rel : S → T → Type 0) (same : A → B → Type 0) (silent : A → Type 0)
  where
    abbrev pub Answered : S → T → X → Option Y → Type 0
    Answered s t x none = rel (go s x) t × silent (tell s x)
    Answered s t x (some y) = rel (go s x) (go' t y) × same (tell s x) (tell' t y)

    pub record Simulated (s : S) (t : T) (xs : List X) : Type 0 where
      pub ends : rel (runs go s xs) (runs go' t (replies go reply s xs))
      pub tapes : Matched same silent (tape go tell s xs) (tape go' tell' t (replies go reply s xs))

    module _ (answers : (s : S) (t : T) (x : X) → rel s t → Answered s t x (reply s x)) where
      abbrev replied : Option Y → T → T
      replied none t = t
      replied (some y) t = go' t y

      kept : (s : S) (t : T) (x : X) (o : Option Y) → Answered s t x o → rel (go s x) (replied o t)
      kept s t x none h = h.0
      kept s t x (some y) h = h.0

      more : (s : S) (t : T) (x : X) (xs : List X) (o : Option Y) → Answered s t x o → Simulated (go s x) (replied o t) xs
          → rel (runs go s (x ∷ xs)) (runs go' t (with_reply o (replies go reply (go s x) xs))) × Matched same silent (tape go tell s (x ∷ xs)) (tape go' tell' t (with_reply o (replies go reply (go s x) xs)))
      more s t x xs none h k = (k.ends, left h.1 k.tapes)
      more s t x xs (some y) h k = (k.ends, both h.1 k.tapes)

      pub simulates : (s : S) (t : T) (xs : List X) → rel s t → Simulated s t xs
      simulates =
          in_step go (λ s t x. replied (reply s x) t) rel (λ s t x h. kept s t x (reply s x) (answers s t x h)) Simulated (λ s t h. record { ends = h; tapes = nil })
          (λ s t x xs h k. let m = more s t x xs (reply s x) (answers s t x h) k in record { ends = m.0; tapes = m.1 })

-- ---- every step x is answered by f x, and g of what it tells is what the answer tells

abbrev Never : {A : Type 0} → A → Type 0
Never a = ⊥

module _ {A B : Type 0} (g : A → B) where
  matched-all : {l : List A} {r : List B} → Matched (λ a b. g a ≡ b) Never l r → map g l ≡ r
  matched-all nil = refl
  matched-all (both e m) = rw (e, matched-all m)
  matched-all (left n m) = absurd n

module _ {S T X Y A B : Type 0} (go : S → X → S) (tell : S → X → A) (go' : T → Y → T) (tell' : T → Y → B) (f : X → Y) (g : A → B) (rel : S → T → Type 0) where
  replies-all : (s : S) (xs : List X) → replies go (λ s x. some (f x)) s xs ≡ map f xs
  replies-all s [] = refl
  replies-all s (x ∷ xs) = ap (λ (ys : List Y). f x ∷ ys) (replies-all (go s x) xs)

  pub simulates-each : ((s : S) (t : T) (x : X) → rel s t → rel (go s x) (go' t (f x)) × (g (tell s x) ≡ tell' t (f x))) → (s : S) (t : T) (xs : List X) → rel s t
      → rel (runs go s xs) (runs go' t (map f xs)) × (map g (tape go tell s xs) ≡ tape go' tell' t (map f xs))
  simulates-each answers s t xs h =
      let m = simulates go tell go' tell' (λ s x. some (f x)) rel (λ a b. g a ≡ b) Never answers s t xs h in
      let e = replies-all s xs in
      (rw e at m.ends, rw e at (matched-all g m.tapes))
