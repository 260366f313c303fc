use Rattle.std.proofs.Common.{refl, sym, ◌∙◌}
use mathlib.Core.Bool.{true≢false}
use borrow.Author.Tests.{eq-eqb}
use Rattle.shape.specs.Parts.{no_out_entry, no_in_entry}
use Rattle.scan.proofs.Laws.{some-word}
use Rattle.store.proofs.Running.{looked}
use Rattle.store.proofs.turns.Running.look.Goals as goal
use Rattle.store.proofs.turns.Running.look.Goals.{then-asks_all, else-asks_all}

pub returns : goal.returns
returns c s h =
    looked h _ c.place_in.ensures c.word_in-a.ensures refl c.len.ensures.0 c.len-2.ensures.0 (c.oldest.ensures no_out_entry) (c.oldest-2.ensures no_in_entry) refl
    (λ m. elim c.if-asks_all.branch [
      | then-asks_all w ↦ w.result-is ∙ w.some_full.ensures
      | else-asks_all w ↦ absurd (true≢false (sym (c.asks_all.ensures ∙ eq-eqb _ _ m) ∙ w.if-asks_all.false))
    ])
    (c.then_some.ensures ∙ some-word _ _) refl
