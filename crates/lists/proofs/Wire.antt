-- The bytes of a list: how many there are, and that header, memory and actions put one after another are they. Assumes nothing.
use mathlib.Core.Path.{◌≡◌, ◌∙◌}
use mathlib.Core.List.{List, ◌++◌}
use Prim.Native.Nat.{ℕ, ◌+◌, ◌*◌, ◌≤◌}
use native.Mathlib.Omega.{arith}
use lib.ListN.{length, length-append}
use Rattle.figure.specs.declared.Sizes.{Sizes}
use Rattle.lists.specs.Bytes.{u32_bytes, rows, put, laid}
use Rattle.lists.specs.Read.{header_width, header_bytes, body_of, list_bytes}
use Rattle.lists.proofs.Put.{put_front, laid-put}
use Rattle.lists.proofs.Codecs.{word-lawful}
use Rattle.lists.proofs.Things.{length-coded}

module _ (z : Sizes) (memory actions : List ℕ) where
  pub length-body : length (body_of z memory actions) ≡ 4 + 4 * length memory + length actions
  unfolding body_of
  length-body = omega (arith, length-append (rows u32_bytes memory) actions, length-coded word-lawful memory)

  pub length-list : length (list_bytes z memory actions) ≡ header_width + 4 * length memory + length actions
  unfolding list_bytes
  length-list = omega (arith, length-body)

  -- the parts, one after another
  pub list-parts : list_bytes z memory actions ≡ header_bytes (4 + 4 * length memory + length actions) z ++ rows u32_bytes memory ++ actions
  unfolding list_bytes body_of
  list-parts = rw (length-body)

  module _ (out : List ℕ) (fits : length (list_bytes z memory actions) ≤ length out) where
    pub written-parts : {n : ℕ} {out1 out2 out3 : List ℕ} → n ≡ 4 + 4 * length memory + length actions → out1 ≡ put out 0 (header_bytes n z) → out2 ≡ put out1 header_width (rows u32_bytes memory) → out3 ≡ put out2 (header_width + 4 * length memory) actions → out3 ≡ laid (list_bytes z memory actions) out
    written-parts {n} {out1} {out2} {out3} en e1 e2 e3 =
        let head = header_bytes n z in
        let words = rows u32_bytes memory in
        let long : length (head ++ words) ≡ header_width + 4 * length memory = omega (arith, length-append head words, length-coded word-lawful memory) in
        let all : length (head ++ words ++ actions) ≤ length out = omega (arith, length-append (head ++ words) actions, length-list) in
        let s1 : out1 ≡ laid head out = e1 ∙ put_front out head (omega (arith, length-list)) in
        let s2 : out2 ≡ laid (head ++ words) out = e2 ∙ rw (s1) (laid-put head words out (omega (arith, length-list))) in
        e3 ∙ rw (s2, ← long, list-parts, ← en) (laid-put (head ++ words) actions out all)
