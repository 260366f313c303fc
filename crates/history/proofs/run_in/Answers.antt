use Rattle.std.proofs.Common.{arith, ℕ}
use lib.ListN.{length-replicate}
use Rattle.history.proofs.Answers.{cleared, front-long, flat-long, engines-few, arrangeable, ran}
use Rattle.history.proofs.Composing.{placed-many}
use Rattle.history.proofs.run_in.Goals as goal

pub invariant_of-events : goal.invariant_of-events
invariant_of-events g c =
    omega (arith, c.write_trace.auto.events, flat-long c.args.l.actions g.row.N (cleared 8) c.as_flattened_mut.result.now c.as_flattened_mut.ensures.len c.requires.fits, c.requires.fits, c.requires.few)

pub whole_as_front-table : goal.whole_as_front-table
whole_as_front-table g c =
    (omega (arith, c.requires.fits, c.requires.table, engines-few c.requires.admitted), omega (arith, c.requires.few, c.requires.table))

pub arrange-c-requires : goal.arrange-c-requires
arrange-c-requires g c =
    arrangeable c.requires.admitted (omega (arith, c.write_trace.auto.events, flat-long c.args.l.actions g.row.N (cleared 8) c.as_flattened_mut.result.now c.as_flattened_mut.ensures.len c.requires.fits))
    (front-long _ g.row.N c.requires.fits) (omega (arith, length-replicate {A = ℕ} g.row.N 0, c.requires.fits))
    (front-long _ g.row.TABLE (omega (arith, c.requires.fits, c.requires.table, engines-few c.requires.admitted)))

pub invariant_of-placed : goal.invariant_of-placed
invariant_of-placed g c =
    let k = c.arrange-c.ensures in
    record {
      within = k.within;
      few = omega (arith, placed-many k, k.few, front-long c.args.l.actions g.row.N c.requires.fits, c.requires.fits, c.requires.few);
    }

pub returns : goal.returns
returns g c =
    ran c.requires.admitted _ _ c.write_trace.ensures (flat-long c.args.l.actions g.row.N (cleared 8) c.as_flattened_mut.result.now c.as_flattened_mut.ensures.len c.requires.fits)
    _ _ _ (front-long _ g.row.N c.requires.fits) c.arrange-c.ensures c.hand_over.ensures
