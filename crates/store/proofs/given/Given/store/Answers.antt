use Rattle.std.proofs.Common.{◌≡◌, ℕ, List, replicate, ap}
use Rattle.figure.specs.declared.Sizes.{Sizes}
use Rattle.shape.specs.declared.Store.{Store}
use Rattle.shape.specs.Parts.{over}
use Rattle.shape.specs.Fresh.{fresh_of, empty_cache, empty_out, empty_in}
use Rattle.shape.proofs.Kept.{fresh-short}
use Rattle.store.proofs.given.Given.store.Goals as goal

filled : (z : Sizes) (table m : List ℕ) → m ≡ over table (replicate 64 0)
    → ◌≡◌ {A = Store} (record { sizes = z; memory = m; caches = replicate 8 empty_cache; outs = replicate 8 empty_out; ins = replicate 8 empty_in }) (fresh_of z table)
unfolding fresh_of
filled z table m e = ap (λ (l : List ℕ). record { sizes = z; memory = l; caches = replicate 8 empty_cache; outs = replicate 8 empty_out; ins = replicate 8 empty_in }) e

pub memory_of-requires : goal.memory_of-requires
memory_of-requires c = fresh-short _ _ c.args.self.right

pub returns : goal.returns
returns c = filled _ _ _ c.memory_of.ensures
