-- Nothing is written where it refuses, and else header, memory and actions are the list's bytes (`Wire`, `Wrote`).
use Rattle.std.proofs.Common.{arith, ◌≡◌, ◌+◌, ◌-◌, ◌*◌, ◌≤◌, ℕ, List, length, refl, sym, ◌∙◌}
use Rattle.figure.specs.declared.Sizes.{Sizes}
use Rattle.std.proofs.lemmas.Result.{err_from_is_err_and}
use Rattle.figure.specs.Refused.{number_of}
use Rattle.figure.proofs.Numbers.{not-none}
use Rattle.figure.specs.Refusals.{first_of}
use Rattle.lists.specs.Bytes.{word_width, put}
use Rattle.lists.specs.Read.{header_width, header_bytes, list_bytes}
use Rattle.lists.specs.Write.{write_refused}
use Rattle.lists.proofs.Wire.{length-list, written-parts}
use Rattle.lists.proofs.Wrote.{ListFits, list-fits, wrote_none, wrote-all}
use Rattle.lists.proofs.writer.write.Goals as goal

-- what is known where nothing is refused
known : (z : Sizes) (memory actions out : List ℕ) → 0 ≡ first_of (write_refused z memory actions (length out)) → ListFits memory actions (length out)
known z memory actions out e = list-fits z memory actions (length out) (sym e)

pub returns-in_err-judge : goal.returns-in_err-judge
returns-in_err-judge c =
    let a = c.args in
    let e = c.in_err-judge.field-0.0 in
    let p = err_from_is_err_and c.from_residual.result c.from_residual.ensures.1 in
    rw (p.1, p.2) (wrote_none a.sizes a.memory.now a.actions.now a.out.now (number_of e) c.in_err-judge.ensures (not-none e))

pub overflow_add-total : goal.overflow_add-total
overflow_add-total c =
    let a = c.args in
    omega (arith, known a.sizes a.memory.now a.actions.now a.out.now c.in_ok-judge.ensures)

pub overflow_cast-total : goal.overflow_cast-total
overflow_cast-total c =
    let a = c.args in
    omega (arith, known a.sizes a.memory.now a.actions.now a.out.now c.in_ok-judge.ensures)

pub put_words-requires : goal.put_words-requires
put_words-requires c =
    let a = c.args in
    omega (arith, known a.sizes a.memory.now a.actions.now a.out.now c.in_ok-judge.ensures, c.put.auto)

pub returns : goal.returns
returns c =
    let a = c.args in
    let k = known a.sizes a.memory.now a.actions.now a.out.now c.in_ok-judge.ensures in
    let z = a.sizes in
    let memory = a.memory.now in
    let actions = a.actions.now in
    let out = a.out.now in
    let fits : length (list_bytes z memory actions) ≤ length out = omega (arith, length-list z memory actions, k) in
    let after = header_width + 4 * length memory + length actions - word_width in
    let head : c.put.new.out ≡ put out 0 (header_bytes after z) = c.put.ensures ∙ rw c.header_bytes.ensures in
    wrote-all z memory actions out (header_width + 4 * length memory + length actions) c.put-2.new.out (sym c.in_ok-judge.ensures) refl
    (written-parts z memory actions out fits (omega arith) head c.put_words.ensures c.put-2.ensures)
