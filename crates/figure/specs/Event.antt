-- A trace record as what happened. Assumes nothing.
use Rattle.std.specs.Prelude.{eqb}
use Rattle.figure.specs.Account.{Event, refused, read, wrote, published, refreshed, updated, dropped}
use Rattle.figure.specs.Refusals.{pick}
use Rattle.figure.specs.declared.Record.{Record}

-- what happened, read off a trace record
abbrev pub event_view : Record → Event
event_view x =
    let i = x.engine.0 in
    let a = x.address.0 in
    let d = x.«data» in
    pick (eqb x.kind 1) (read i a d)
    (pick (eqb x.kind 2) (wrote i a d)
    (pick (eqb x.kind 3) (published i a d)
    (pick (eqb x.kind 4) (refreshed i a d)
    (pick (eqb x.kind 5) (updated i x.origin.0 a d)
    (pick (eqb x.kind 6) (dropped i a)
    refused)))))
