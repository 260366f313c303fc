use Rattle.std.proofs.Common.{Ok}
use Rattle.figure.specs.Refused.{number_of}
use Rattle.lists.specs.Read.{reading}
use Rattle.lists.proofs.Table.{front-most, front-many, front-inside, table-is, table-none}
use Rattle.lists.proofs.memory.memory_of.Goals as goal

pub returns-in_default : goal.returns-in_default
returns-in_default c = table-none c.args.s.now (number_of c.in_default.field-0) c.in_default.ensures

pub slice_bounds-table-end : goal.slice_bounds-table-end
slice_bounds-table-end c = front-most c.args.s.now (reading (Ok c.in-Ok.l)) c.in-Ok.ensures c.from.ensures

pub slice_bounds-read_words-end : goal.slice_bounds-read_words-end
slice_bounds-read_words-end c = front-many c.args.s.now (reading (Ok c.in-Ok.l)) c.in-Ok.ensures c.from.ensures

pub read_words-requires : goal.read_words-requires
read_words-requires c = front-inside c.args.s.now (reading (Ok c.in-Ok.l)) c.in-Ok.ensures c.from.ensures

pub returns : goal.returns
returns c = table-is c.args.s.now (reading (Ok c.in-Ok.l)) c.in-Ok.ensures c.from.ensures c.read_words.ensures
