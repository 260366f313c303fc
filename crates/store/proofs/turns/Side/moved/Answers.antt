use Rattle.std.proofs.Common.{ap}
use Rattle.std.specs.Int.{from_bool}
use Rattle.store.proofs.turns.Side.moved.Goals as goal

pub out_moved-requires-clause-leaving : goal.out_moved-requires-clause-leaving
out_moved-requires-clause-leaving c = λ e. c.requires.out_leaves (ap from_bool e)

pub out_moved-requires-clause-joining : goal.out_moved-requires-clause-joining
out_moved-requires-clause-joining c = λ e. c.requires.out_joins (ap from_bool e)

pub in_left-requires : goal.in_left-requires
in_left-requires c = λ e. c.requires.in_leaves (ap from_bool e)
