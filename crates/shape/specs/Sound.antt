-- When a state is sound: the test of refusal 17. Assumes nothing.
use Rattle.std.specs.Prelude.{Bool, ◌&&◌, eqb, leb, ltb, take}
use Rattle.figure.specs.Refusals.{first_of, sizes_refused}
use Rattle.figure.specs.declared.Sizes.{Sizes}
use Rattle.shape.specs.Parts.{all, in_of, out_of}
use Rattle.shape.specs.declared.InEntry.{InEntry}
use Rattle.shape.specs.declared.InQueue.{InQueue}
use Rattle.shape.specs.declared.OutEntry.{OutEntry}
use Rattle.shape.specs.declared.OutQueue.{OutQueue}
use Rattle.shape.specs.declared.Store.{Store}

-- no "size out of range"
abbrev pub sound_sizes : Sizes → Bool
sound_sizes z = eqb (first_of (sizes_refused z)) 0

-- no "address not below m"
abbrev pub sound_out_entry : Sizes → OutEntry → Bool
sound_out_entry z x = ltb x.address.0 z.addresses

-- no "origin above the engine count, or address not below m"
abbrev pub sound_in_entry : Sizes → InEntry → Bool
sound_in_entry z x = leb x.origin.0 z.engines && ltb x.address.0 z.addresses

-- no "queue longer than the depth"
abbrev pub sound_out : Sizes → OutQueue → Bool
sound_out z q = leb q.len z.depth && all (sound_out_entry z) (out_of q)

abbrev pub sound_in : Sizes → InQueue → Bool
sound_in z q = leb q.len z.depth && all (sound_in_entry z) (in_of q)

-- the queues of the engines 1 to the engine count; all others are unused places
unfoldable pub sound_of : Store → Bool
sound_of s =
    sound_sizes s.sizes
    && (all (sound_out s.sizes) (take s.sizes.engines s.outs)
    && all (sound_in s.sizes) (take s.sizes.engines s.ins))
