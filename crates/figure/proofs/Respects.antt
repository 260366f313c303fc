-- Two states that agree at the engines 1 to n and the addresses below m accept the same steps, go on to agree, and tell the same events. Assumes nothing.
use Prim.Native.Nat.{ℕ, zero, suc, ◌≤◌}
use native.Mathlib.Nat.{le_refl}
use native.Mathlib.Omega.{arith}
use mathlib.Core.Path.{◌≡◌, refl, ap, subst, ◌∙◌}
use mathlib.Core.Bool.{Bool, true, false, ◌&&◌}
use mathlib.Core.Option.{Option, none, some}
use mathlib.Core.List.{List, [], ◌∷◌, ◌++◌}
use lib.Dec.{leb}
use borrow.Author.Tests.{le-leb}
use Rattle.figure.specs.declared.Sizes.{Sizes}
use Rattle.figure.specs.Figure.{upd, Out, wr, In, up, Engine, State, Step, R, W, MW, MR, CU, CI, all_room, engine?, address?, named, accepted, next, publish, update, join_in}
use Rattle.figure.specs.Agree.{Alike, Agrees}
use Rattle.figure.specs.Account.{read, refreshed, held, head_out, head_in, event}
use Rattle.figure.proofs.Laws.{and_left, and_right, upd-each}

pub agrees-refl : (z : Sizes) (s : State) → Agrees z s s
agrees-refl z s = record { memory = λ a w. refl; engine = λ i y. record { cache = λ a w. refl; outs = refl; ins = refl } }

pub agrees-trans : (z : Sizes) {s r u : State} → Agrees z s r → Agrees z r u → Agrees z s u
agrees-trans z p q = record {
  memory = λ a w. p.memory a w ∙ q.memory a w;
  engine = λ i y. record {
    cache = λ a w. (p.engine i y).cache a w ∙ (q.engine i y).cache a w;
    outs = (p.engine i y).outs ∙ (q.engine i y).outs;
    ins = (p.engine i y).ins ∙ (q.engine i y).ins;
  };
}

and-cong : (b : Bool) {x y : Bool} → (b ≡ true → x ≡ y) → b && x ≡ b && y
and-cong true h = h refl
and-cong false h = refl

room-agrees : (k n depth : ℕ) (f g : ℕ → Engine) → k ≤ n → ((i : ℕ) → leb 1 i && leb i n ≡ true → (f i).ins ≡ (g i).ins) → all_room k depth f ≡ all_room k depth g
room-agrees zero n depth f g h e = refl
room-agrees (suc k) n depth f g h e =
    let q : leb 1 (suc k) && leb (suc k) n ≡ true = rw (le-leb 1 (suc k) (omega arith)) (le-leb (suc k) n h) in
    cc (e (suc k) q, room-agrees k n depth f g (omega arith) e)

module _ (z : Sizes) (s r : State) (h : Agrees z s r) where
  -- the engine of a step that names an engine and an address
  engine-agrees : (i a : ℕ) → engine? z i && address? z a ≡ true → Alike z (s.engine i) (r.engine i)
  engine-agrees i a e = h.engine i (and_left (engine? z i) _ e)

  pub accepted-agrees : (x : Step) → accepted z s x ≡ accepted z r x
  accepted-agrees (R i a) = and-cong (engine? z i && address? z a) λ y.
      let k = engine-agrees i a y in cc (k.cache a (and_right (engine? z i) _ y), k.outs, k.ins)
  accepted-agrees (W i a d) = and-cong (engine? z i && address? z a) λ y. cc ((engine-agrees i a y).outs)
  accepted-agrees (MW i) = and-cong (engine? z i) λ y.
      cc ((h.engine i y).outs, room-agrees z.engines z.engines z.depth s.engine r.engine (le_refl _) (λ j k. (h.engine j k).ins))
  accepted-agrees (MR i a) = and-cong (engine? z i && address? z a) λ y. cc ((engine-agrees i a y).ins)
  accepted-agrees (CU i) = and-cong (engine? z i) λ y. cc (h.engine i y).ins
  accepted-agrees (CI i a) = refl

  -- one engine changes
  at_one : (i : ℕ) (e f : Engine) → Alike z e f
      → Agrees z (record { memory = s.memory; engine = upd s.engine i e }) (record { memory = r.memory; engine = upd r.engine i f })
  at_one i e f p = record { memory = h.memory; engine = upd-each (λ j (e f : Engine). engine? z j ≡ true → Alike z e f) s.engine r.engine i e f (λ _. p) (λ j _. h.engine j) }

  cache-agrees : (a : ℕ) (o : Option ℕ) (c d : ℕ → Option ℕ) → ((b : ℕ) → address? z b ≡ true → c b ≡ d b) → (b : ℕ) → address? z b ≡ true → upd c a o b ≡ upd d a o b
  cache-agrees a o c d e = upd-each (λ b (x y : Option ℕ). address? z b ≡ true → x ≡ y) c d a o o (λ _. refl) (λ b _. e b)

  publish-agrees : (i : ℕ) (q : List Out) → engine? z i ≡ true → Agrees z (publish s i q) (publish r i q)
  publish-agrees i [] y = h
  publish-agrees i (wr a d ∷ q) y =
      record {
        memory = upd-each (λ b (m k : ℕ). address? z b ≡ true → m ≡ k) s.memory r.memory a d d (λ _. refl) (λ b _. h.memory b);
        engine = upd-each (λ j (e f : Engine). engine? z j ≡ true → Alike z (join_in e (up i a d)) (join_in f (up i a d))) s.engine r.engine i _ _
            (λ k. record { cache = (h.engine i y).cache; outs = refl; ins = ap (λ (l : List In). l ++ (up i a d ∷ [])) (h.engine i y).ins })
            (λ j _ k. record { cache = (h.engine j k).cache; outs = (h.engine j k).outs; ins = ap (λ (l : List In). l ++ (up i a d ∷ [])) (h.engine j k).ins });
      }

  update_agrees : (i : ℕ) (q : List In) → engine? z i ≡ true → Agrees z (update s i q) (update r i q)
  update_agrees i [] y = h
  update_agrees i (up o a d ∷ q) y = at_one i _ _
      (record { cache = cache-agrees a (some d) _ _ (h.engine i y).cache; outs = (h.engine i y).outs; ins = refl })

  next-named : (x : Step) → named z x ≡ true → Agrees z (next s x) (next r x)
  next-named (R i a) e = h
  next-named (W i a d) e = let k = engine-agrees i a e in at_one i _ _
      (record { cache = k.cache; outs = ap (λ (l : List Out). l ++ (wr a d ∷ [])) k.outs; ins = k.ins })
  next-named (MW i) e =
      subst (λ (q : List Out). Agrees z (publish s i (s.engine i).outs) (publish r i q)) (h.engine i e).outs (publish-agrees i (s.engine i).outs e)
  next-named (MR i a) e = let k = engine-agrees i a e in at_one i _ _
      (record { cache = k.cache; outs = k.outs; ins = cc (k.ins, h.memory a (and_right (engine? z i) _ e)) })
  next-named (CU i) e =
      subst (λ (q : List In). Agrees z (update s i (s.engine i).ins) (update r i q)) (h.engine i e).ins (update_agrees i (s.engine i).ins e)
  next-named (CI i a) e = let k = engine-agrees i a e in at_one i _ _
      (record { cache = cache-agrees a none _ _ k.cache; outs = k.outs; ins = k.ins })

  pub next-agrees : (x : Step) → accepted z s x ≡ true → Agrees z (next s x) (next r x)
  next-agrees x e = next-named x (and_left (named z x) _ e)

  event-named : (x : Step) → named z x ≡ true → event s x ≡ event r x
  event-named (R i a) e = ap (λ (o : Option ℕ). read i a (held o)) ((engine-agrees i a e).cache a (and_right (engine? z i) _ e))
  event-named (MW i) e = ap (head_out i) (h.engine i e).outs
  event-named (MR i a) e = ap (refreshed i a) (h.memory a (and_right (engine? z i) _ e))
  event-named (CU i) e = ap (head_in i) (h.engine i e).ins
  event-named x e = refl

  pub event-agrees : (x : Step) → accepted z s x ≡ true → event s x ≡ event r x
  event-agrees x e = event-named x (and_left (named z x) _ e)
