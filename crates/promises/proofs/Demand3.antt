-- Demand 3 holds of the calls. Assumes nothing.
use mathlib.Core.Path.{◌≡◌}
use mathlib.Core.List.{List}
use Prim.Native.Nat.{ℕ, ◌*◌}
use lib.ListN.{take}
use Rattle.demands.proofs.Demands.{run-trace, reader-took, demand-3, shorter-bytes-stay, shorter-bytes-begin}
use Rattle.demands.specs.Demand.{Shorter}
use Rattle.demands.specs.Run.{Answered, Ran}
use Rattle.figure.specs.Demand.{Begins}
use Rattle.lists.specs.Line.{line_width}
use Rattle.promises.specs.Demand3.{Demand3Kept}

module _ {list trace account : List ℕ} {r : Answered} {trace' account' : List ℕ} {longer trace₂ account₂ : List ℕ} {q : Answered} {trace₂' account₂' : List ℕ}
    (h : Ran list trace account r trace' account') (k : Ran longer trace₂ account₂ q trace₂' account₂') (ok : r.number ≡ 0) (ok₂ : q.number ≡ 0) (s : Shorter list longer) where
  settled_stays : Begins (take (line_width * r.settled) account') (take (line_width * q.settled) account₂')
  settled_stays = rw ((demand-3 h ok).settled_in_bytes, (demand-3 k ok₂).settled_in_bytes) (shorter-bytes-stay s (reader-took k ok₂))

  settled_begins : Begins (take (line_width * r.settled) account') (take (line_width * q.events) account₂')
  settled_begins = rw ((demand-3 h ok).settled_in_bytes, (demand-3 k ok₂).bytes) (shorter-bytes-begin s (reader-took k ok₂))

pub demand-3-kept : Demand3Kept
demand-3-kept =
    record {
      traced = λ κs a r e h. run-trace h;
      accepted = λ κs a r e h. demand-3 h;
      settled_stays = λ κs a r e h κs₂ b q e₂ k. settled_stays h k;
      settled_begins = λ κs a r e h κs₂ b q e₂ k. settled_begins h k;
    }
