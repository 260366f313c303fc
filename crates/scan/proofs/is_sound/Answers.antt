-- The sizes, then the queues of one engine after the other.
use Rattle.std.proofs.Common.{sym, ap, ◌∙◌, rules, tests}
use Rattle.std.specs.Slice.Iter.{iter_rest}
use Rattle.shape.specs.Sound.{sound_out, sound_in, sound_of}
use Rattle.scan.proofs.Laws.{all-pairs, ok-sizes}
use Rattle.scan.proofs.is_sound.Goals as goal

pub returns-then-is_ok : goal.returns-then-is_ok
unfolding sound_of
returns-then-is_ok c =
    let s = c.args.s.now in
    let sizes = sym (ok-sizes c.judge_sizes.result s.sizes c.judge_sizes.ensures) ∙ sym c.is_ok.ensures.value ∙ c.if-is_ok.true in
    let outs = ap iter_rest c.zip.ensures.first ∙ c.iter.ensures.rest in
    let ins = ap iter_rest c.zip.ensures.second ∙ c.iter-then-is_ok.ensures.rest in
    let pairs = all-pairs (sound_out s.sizes) (sound_in s.sizes) s.sizes.engines s.outs s.ins c.take.ensures.source outs ins (cc) (search (rules, tests)) (λ x b q k. search (rules, tests)) c.all.new.self c.all.ensures.ran in
    rw (sizes) pairs

pub returns-else-is_ok : goal.returns-else-is_ok
unfolding sound_of
returns-else-is_ok c =
    let s = c.args.s.now in
    let sizes = sym (ok-sizes c.judge_sizes.result s.sizes c.judge_sizes.ensures) ∙ sym c.is_ok.ensures.value in
    rw (sizes ∙ c.if-is_ok.false) c.if-is_ok.false
