-- When two states are the same, as far as the engines 1 to n and the addresses below m go: "next state ..  the figure's" says this. Assumes nothing.
use Rattle.std.specs.Prelude.{ℕ, ◌≡◌, true}
use Rattle.figure.specs.declared.Sizes.{Sizes}
use Rattle.figure.specs.Figure.{Engine, State, engine?, address?}

module _ (z : Sizes) where
  pub record Alike (e f : Engine) : Type 0 where
    pub cache : (a : ℕ) → address? z a ≡ true → e.cache a ≡ f.cache a
    pub outs : e.outs ≡ f.outs
    pub ins : e.ins ≡ f.ins

  pub record Agrees (s r : State) : Type 0 where
    pub memory : (a : ℕ) → address? z a ≡ true → s.memory a ≡ r.memory a
    pub engine : (i : ℕ) → engine? z i ≡ true → Alike (s.engine i) (r.engine i)
