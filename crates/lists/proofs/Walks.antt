-- The walker hands out exactly the list's actions, in order, each once; over bytes that the reader refuses it has none. Assumes nothing.
use mathlib.Core.Path.{◌≡◌, refl, sym, ap, ◌∙◌}
use mathlib.Core.List.{List, [], ◌∷◌, ◌++◌}
use Prim.Native.Nat.{ℕ, zero, suc, ◌+◌, ◌≤◌}
use native.Mathlib.Nat.{add-zero, add_assoc}
use native.Mathlib.Omega.{arith}
use native.Mathlib.Numerals.{one-add}
use lib.ListN.{length, take, drop, length-append, length-drop, take-append-drop}
use lib.Seq.{take-add, take_all, take-nil, drop-drop}
use Rattle.figure.specs.declared.Record.{Record}
use Rattle.lists.specs.Bytes.{rows}
use Rattle.lists.specs.Codec.{things_at}
use Rattle.lists.specs.Read.{read_refused, read_of, layout_of, actions_of}
use Rattle.lists.specs.Walk.{handed, Took, WalkerTook, Calls, none, more, ahead, NoneLeft}
use Rattle.std.specs.Prelude.{Option, Some, None}
use Rattle.std.specs.Iterator.{YieldsFirst}
use Rattle.lists.specs.declared.walker.Walker.{Walker}
use Rattle.figure.specs.Refusals.{first_of, most_actions}
use Rattle.lists.proofs.Sized.{read_number}
use Rattle.lists.proofs.Actions.{few-actions, none_left}

-- what is handed out says which case it was
pub handed-same : (f g : Option Record) → handed f ≡ handed g → f ≡ g
handed-same (Some r) (Some q) e = cc
handed-same (Some r) None e = let z : ◌≡◌ {A = ℕ} 1 0 = ap length e in absurd (omega arith)
handed-same None (Some q) e = let z : ◌≡◌ {A = ℕ} 0 1 = ap length e in absurd (omega arith)
handed-same None None e = refl

-- two steps at one place take the same
pub took-same : {s : List ℕ} {k : ℕ} {f g : Option Record} {a b : ℕ} → Took s k f a → Took s k g b → (f ≡ g) × (a ≡ b)
took-same {s} {k} {f} {g} t u =
    let e : f ≡ g = handed-same f g (t.found_is ∙ sym u.found_is) in
    (e, t.after_is ∙ (ap (λ (x : Option Record). k + length (handed x)) e ∙ sym u.after_is))

empty-front : (xs : List Record) → [] ≡ take 1 xs → xs ≡ []
empty-front [] e = refl
empty-front (x ∷ xs) e = let z : ◌≡◌ {A = ℕ} 0 1 = ap length e in absurd (omega arith)

-- a step hands out the first of what was ahead and leaves the others
pub yields-first : (w : Walker) {found : Option Record} {after : ℕ} → Took w.list.now w.place found after → YieldsFirst ahead w found (record w { place = after })
yields-first w {found} {after} t = by-case found t.found_is t.after_is
  where
    acts : List Record
    acts = actions_of w.list.now

    by-case : (f : Option Record) → handed f ≡ take 1 (drop w.place acts) → after ≡ w.place + length (handed f) → YieldsFirst ahead w f (record w { place = after })
    by-case (Some r) e a =
        sym (take-append-drop 1 (drop w.place acts)) ∙ rw (← e, drop-drop 1 w.place acts, ← a)
    by-case None e a =
        let z : drop w.place acts ≡ [] = empty-front (drop w.place acts) e in
        (z, rw (a ∙ add-zero w.place) z)

-- no more is ahead than a list may hold
pub few-ahead : (w : Walker) → length (ahead w) ≤ most_actions
few-ahead w = omega (arith, length-drop w.place (actions_of w.list.now), few-actions w.list.now)

-- a step leaves what was ahead but for what it handed out
step-front : {w w' : Walker} {found : Option Record} → WalkerTook w found w' → (n : ℕ) → handed found ++ take n (ahead w') ≡ take (1 + n) (ahead w)
step-front {w} {w'} {found} s n = by-case found s.took.found_is s.took.after_is
  where
    acts : List Record
    acts = actions_of w.list.now

    same : {p : ℕ} → w'.place ≡ p → ahead w' ≡ drop p acts
    same e = rw (e, s.list_is)

    by-case : (f : Option Record) → handed f ≡ take 1 (drop w.place acts) → w'.place ≡ w.place + length (handed f) → handed f ++ take n (ahead w') ≡ take (1 + n) (ahead w)
    by-case (Some r) e a =
        rw (take-add 1 n (drop w.place acts), ← e, same a, drop-drop 1 w.place acts)
    by-case None e a =
        let z : drop w.place acts ≡ [] = empty-front (drop w.place acts) e in
        rw (same (a ∙ add-zero w.place), z) (take-nil n ∙ sym (take-nil (1 + n)))

-- "hands out one action after another": n calls hand out the next n actions, in order
pub hands_out : {w e : Walker} {fs : List (Option Record)} → Calls w fs e → rows handed fs ≡ take (length fs) (ahead w)
unfolding rows
hands_out none = refl
hands_out (more {w} {w'} {e} {found} {fs} s c) =
    ap (λ (l : List Record). handed found ++ l) (hands_out c) ∙ (step-front s (length fs) ∙ ap (λ (n : ℕ). take n (ahead w)) (one-add (length fs)))

-- "its place (the number of actions passed)"
pub place-counts : {w e : Walker} {fs : List (Option Record)} → Calls w fs e → e.place ≡ w.place + length (rows handed fs)
unfolding rows
place-counts (none {w}) = sym (add-zero w.place)
place-counts (more {w} {w'} {e} {found} {fs} s c) =
    place-counts c ∙ rw (s.took.after_is, length-append (handed found) (rows handed fs)) (add_assoc w.place (length (handed found)) (length (rows handed fs)))

-- the walker that `start` makes hands out exactly the list's actions, in order, each once, however often `next` is called after the last
pub all-actions : {w e : Walker} {fs : List (Option Record)} → Calls w fs e → w.place ≡ 0 → length (actions_of w.list.now) ≤ length fs → rows handed fs ≡ actions_of w.list.now
all-actions {w} {e} {fs} c z h = hands_out c ∙ rw (z) (take_all (length fs) (actions_of w.list.now) h)

pub past_the_end : {w w' : Walker} {found : Option Record} → WalkerTook w found w' → length (actions_of w.list.now) ≤ w.place → NoneLeft w found w'
past_the_end {w} {w'} {found} s h = by-case found (s.took.found_is ∙ none_left (actions_of w.list.now) w.place h) s.took.after_is
  where
    by-case : (f : Option Record) → handed f ≡ [] → w'.place ≡ w.place + length (handed f) → NoneLeft w f w'
    by-case (Some r) e a = let z : ◌≡◌ {A = ℕ} 1 0 = ap length e in absurd (omega arith)
    by-case None e a = record { found_is = refl; place_is = a ∙ add-zero w.place }

-- "over bytes the reader refuses it has none"
pub refused_none : (s : List ℕ) → ¬ ((read_of s).number ≡ 0) → actions_of s ≡ []
unfolding read_of layout_of actions_of things_at
refused_none s h = at (first_of (read_refused s)) refl
  where
    at : (n : ℕ) → first_of (read_refused s) ≡ n → actions_of s ≡ []
    at zero e = absurd (h (read_number s ∙ e))
    at (suc n) e = rw (e)
