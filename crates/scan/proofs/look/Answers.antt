-- What is looked at stands where a well-formed record's engine and address say, and what only R or only MW asks is looked at for it.
use Rattle.std.proofs.Common.{◌≡◌, refl, sym, ap, ◌∙◌, pred}
use mathlib.Core.Bool.{true≢false}
use lib.Seq.{get_or-take}
use borrow.Author.Tests.{eq-eqb}
use Rattle.shape.specs.Parts.{no_out_entry, no_in_entry, own_waits}
use Rattle.shape.specs.Step.{out_at, in_at, some_full}
use Rattle.scan.proofs.Laws.{some-word, stands}
use Rattle.scan.proofs.look.Goals as goal
use Rattle.scan.proofs.look.Goals.{then-asks_own, else-asks_own, then-asks_all, else-asks_all}

pub returns : goal.returns
returns c =
    let s = c.args.s.now in
    let x = c.args.x in
    record {
      sound = c.is_sound.ensures;
      seen = λ h f.
          let d = stands s x c.place_in-k.ensures c.word_in-a.ensures h f in
          let place : c.place_in-k.result ≡ pred x.engine.0 = ap pred (sym d.number) in
          let o = out_at s x.engine.0 in
          let i = in_at s x.engine.0 in
          let own : x.kind ≡ 1 → c.if-asks_own.result ≡ own_waits x.engine i = λ m.
          elim c.if-asks_own.branch [
            | then-asks_own w ↦ w.result-is ∙ w.own_waits.ensures ∙ rw (place)
            | else-asks_own w ↦ absurd (true≢false (sym (c.asks_own.ensures ∙ eq-eqb _ _ m) ∙ w.if-asks_own.false))
          ] in
          let blocked : x.kind ≡ 3 → c.if-asks_all.result ≡ some_full s = λ m.
          elim c.if-asks_all.branch [
            | then-asks_all w ↦ w.result-is ∙ w.some_full.ensures
            | else-asks_all w ↦ absurd (true≢false (sym (c.asks_all.ensures ∙ eq-eqb _ _ m) ∙ w.if-asks_all.false))
          ] in
          record {
            place = refl;
            outs = rw (place);
            ins = rw (place);
            first_out = λ m. rw (place) (sym (get_or-take o.len o.entries 0 no_out_entry (rw place at m)));
            first_in = λ m. rw (place) (sym (get_or-take i.len i.entries 0 no_in_entry (rw place at m)));
            own = own;
            blocked = blocked;
            cached = c.then_some.ensures ∙ some-word _ _ ∙ rw (place, d.word);
            stored = rw (d.word);
          };
    }
