-- Which refusal of the reader's or the writer's list is the first that applies, part by part: before the sizes, the sizes, after them. Assumes nothing.
use mathlib.Core.Path.{◌≡◌, refl, sym, ap, ◌∙◌}
use mathlib.Core.Bool.{Bool, true, not}
use mathlib.Core.List.{List, [], ◌∷◌}
use Prim.Native.Nat.{ℕ, zero, suc, ◌*◌, ◌/◌, ◌%◌}
use lib.ListN.{length, drop}
use lib.Dec.{ltb, eqb}
use Rattle.figure.specs.declared.Sizes.{Sizes}
use Rattle.figure.specs.Refusals.{Refusal, ◌when◌, pick, first_of, sizes_refused, most_actions}
use Rattle.figure.proofs.First.{Passed, test_at, refusal_at, first-at, sizes-numbered, first-append, first-front}
use Rattle.lists.specs.Record.{record_width}
use Rattle.lists.specs.Read.{sizes_at, after_header, after_memory, read_refused, refused_as, layout_of, read_of, list_bytes}
use Rattle.lists.specs.Write.{write_refused}

-- past the first k refusals the others decide
pub first_rest : (k : ℕ) (rs : List Refusal) → Passed k rs → first_of rs ≡ first_of (drop k rs)
first_rest zero rs h = refl
first_rest (suc k) [] h = refl
first_rest (suc k) (r ∷ rs) h = ap (λ (b : Bool). pick b r.number (first_of rs)) h.0 ∙ first_rest k rs h.1

-- a refusal is its number and zeros
pub refused_as_lem : (n : ℕ) (s : List ℕ) → ¬ (n ≡ 0) → refused_as n ≡ layout_of n s
unfolding layout_of
refused_as_lem zero s h = absurd (h refl)
refused_as_lem (suc n) s h = refl

-- the reader's refusals after the sizes
abbrev pub lengths_refused : List ℕ → List Refusal
lengths_refused s =
    7 when ltb (after_header s) (4 * (sizes_at s).addresses)
    ∷ 8 when not (eqb (after_memory s % record_width) 0)
    ∷ 9 when ltb most_actions (after_memory s / record_width)
    ∷ []

module _ (s : List ℕ) where
  -- a refusal before the sizes
  pub read_at : (k : ℕ) → Passed k (read_refused s) → test_at k (read_refused s) ≡ true → layout_of (refusal_at k (read_refused s)) s ≡ read_of s
  unfolding read_of
  read_at k h e = ap (λ (n : ℕ). layout_of n s) (sym (first-at k (read_refused s) h e))

  module _ (past : Passed 3 (read_refused s)) where
    -- a refusal of the sizes
    pub read-sizes : (n : ℕ) → n ≡ first_of (sizes_refused (sizes_at s)) → ¬ (n ≡ 0) → refused_as n ≡ read_of s
    unfolding read_of read_refused
    read-sizes n e h =
        refused_as_lem n s h
        ∙ ap (λ (k : ℕ). layout_of k s) (e ∙ sym (first_rest 3 (read_refused s) past ∙ first-front (sizes_refused (sizes_at s)) (lengths_refused s) (λ z. h (e ∙ z))))

    module _ (sized : first_of (sizes_refused (sizes_at s)) ≡ 0) where
      -- a refusal after the sizes, or none
      pub read-lengths : (k : ℕ) → Passed k (lengths_refused s) → test_at k (lengths_refused s) ≡ true → layout_of (refusal_at k (lengths_refused s)) s ≡ read_of s
      unfolding read_of read_refused
      read-lengths k h e =
          ap (λ (n : ℕ). layout_of n s)
          (sym (first_rest 3 (read_refused s) past ∙ (first-append (sizes_refused (sizes_at s)) (lengths_refused s) sized (sizes-numbered (sizes_at s)) ∙ first-at k (lengths_refused s) h e)))

-- the writer's refusals after the sizes
abbrev pub parts_refused : Sizes → List ℕ → List ℕ → ℕ → List Refusal
parts_refused z memory actions room =
    10 when not (eqb (length memory) z.addresses)
    ∷ 8 when not (eqb (length actions % record_width) 0)
    ∷ 9 when ltb most_actions (length actions / record_width)
    ∷ 30 when ltb room (length (list_bytes z memory actions))
    ∷ []

module _ (z : Sizes) (memory actions : List ℕ) (room : ℕ) where
  pub write-sizes : (n : ℕ) → n ≡ first_of (sizes_refused z) → ¬ (n ≡ 0) → n ≡ first_of (write_refused z memory actions room)
  unfolding write_refused
  write-sizes n e h = e ∙ sym (first-front (sizes_refused z) (parts_refused z memory actions room) (λ k. h (e ∙ k)))

  module _ (sized : first_of (sizes_refused z) ≡ 0) where
    pub write-at : (k : ℕ) → Passed k (parts_refused z memory actions room) → test_at k (parts_refused z memory actions room) ≡ true → refusal_at k (parts_refused z memory actions room) ≡ first_of (write_refused z memory actions room)
    unfolding write_refused
    write-at k h e =
        sym (first-append (sizes_refused z) (parts_refused z memory actions room) sized (sizes-numbered z) ∙ first-at k (parts_refused z memory actions room) h e)
