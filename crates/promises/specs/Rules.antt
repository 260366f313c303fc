-- The rules' other sentences about the calls: fresh stores, the step in place, unused places, the writer, the walker, the largest list. Assumes nothing.
use Rattle.std.specs.Prelude.{◌≡◌, true, false, List, [], ◌∷◌, ◌≤◌, Option, length, get_or}
use contract.Lifetimes.{Lfts}
use Rattle.lists.proofs as lists
use Rattle.shape.specs.contracts as shape
use Rattle.figure.specs.Agree.{Agrees}
use Rattle.figure.specs.Figure as Figure
use Rattle.lists.specs.Bytes.{rows}
use Rattle.lists.specs.Read.{actions_of}
use Rattle.lists.specs.Walk.{handed, NoneLeft}
use Rattle.lists.specs.declared.walker.Walker.{Walker}
use Rattle.figure.specs.declared.Record.{Record}
use Rattle.shape.specs.Sound.{sound_of}
use Rattle.shape.specs.Unused.{SameUsed, SameAnswer, UnusedKept}
use Rattle.shape.specs.View.{view}
use Rattle.promises.specs.Calls.{EveryFresh, EveryStep, EveryStepInPlace, EveryRead, EveryWrite, EveryStart, EveryNext, EveryCount}
use Rattle.promises.specs.Demand2.{Value, together}

-- steps of a walker by the call, one after another, with what each found
pub data Walked : Walker → List (Option Record) → Walker → Type 0 where
  none : {w : Walker} → Walked w [] w
  more : (κs : Lfts 2) (a : _) (r : Option Record) (e : _) → lists.walker.WalkerIterator.next.Reads.Post κs a r e → {fs : List (Option Record)} {w : Walker} → Walked e.0.now fs w → Walked a.0.now (r ∷ fs) w

pub record RulesKept : Type 0 where
  -- "A fresh store has the given memory, empty caches and empty queues."; it is sound, and "a state of zeros .. is unsound"
  pub fresh_is : EveryFresh (λ z table r. r.number ≡ 0 → Agrees z (view r.store) (Figure.fresh (λ a. get_or table a 0)))
  pub fresh_sound : EveryFresh (λ z table r. r.number ≡ 0 → sound_of r.store ≡ true)
  pub zeros_unsound : EveryFresh (λ z table r. ¬ (r.number ≡ 0) → sound_of r.store ≡ false)
  -- by value and where it stands: "Both must give the same."
  pub both : EveryStep (λ s x r. EveryStepInPlace (λ t y q t'. s ≡ t → x ≡ y → r ≡ together q t'))
  -- "What stands in unused places never changes an answer."; and a step leaves it
  pub unused : EveryStep (λ s x r. EveryStep (λ t y q. Value shape.Store.the_row s → Value shape.Store.the_row t → SameUsed s t → x ≡ y → SameAnswer r q))
  pub unused_kept : EveryStep (λ s x r. UnusedKept s r.store)
  -- the writer "doesn't judge actions": how many bytes they have decides, and nothing else
  pub not_judged : EveryWrite (λ z memory actions out r out'. EveryWrite (λ z₂ memory₂ actions₂ out₂ q out₂'.
      z ≡ z₂ → memory ≡ memory₂ → length actions ≡ length actions₂ → length out ≡ length out₂ → r.number ≡ q.number))
  -- "The largest list is 16,648 bytes."
  pub largest_read : EveryRead (λ list r. r.number ≡ 0 → length list ≤ 16648)
  pub largest_written : EveryWrite (λ z memory actions out r out'. r.length ≤ 16648)
  -- the walker "hands out one action after another": from its start all the list's actions, in order, each once ..
  pub hands_out : EveryStart (λ list w. (fs : List (Option Record)) (w' : Walker) → Walked w fs w' → length (actions_of list.now) ≤ length fs → rows handed fs ≡ actions_of list.now)
  -- .. ", then says that none is left, its place unchanged" ("at or above their number none is left")
  pub none_left : EveryNext (λ w r w'. length (actions_of w.list.now) ≤ w.place → NoneLeft w r w')
  pub counts : EveryCount (λ list n. n ≡ length (actions_of list))
