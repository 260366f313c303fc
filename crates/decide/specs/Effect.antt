-- What a move makes of a store: one effect for every kind. Assumes nothing.
use Rattle.std.specs.Prelude.{false, List, [], ◌∷◌, ◌≡◌, ℕ, zero, suc, pred, ◌<◌, eqb, set, get_or}
use Rattle.figure.specs.Refusals.{pick}
use Rattle.figure.specs.declared.Record.{Record}
use Rattle.shape.specs.Parts.{change, firsts, out_joined, out_left, in_joined, in_left, own_waits, cached_word}
use Rattle.shape.specs.Step.{out_at, in_at, cache_at, oldest_out, oldest_in, memory_at, some_full, out_entry, Stepped}
use Rattle.shape.specs.declared.Cache.{Cache}
use Rattle.shape.specs.declared.InQueue.{InQueue}
use Rattle.shape.specs.declared.OutQueue.{OutQueue}
use Rattle.shape.specs.declared.Store.{Store}
use Rattle.decide.specs.Move.{Turned, stored_as, held_as, cached_as}
use Rattle.decide.specs.declared.Look.{Look}

-- the list with the places from a on and below b changed by f
abbrev pub between : {A : Type 0} → ℕ → ℕ → (A → A) → List A → List A
between zero b f l = firsts b f l
between (suc a) b f [] = []
between (suc a) b f (x ∷ l) = x ∷ between a (pred b) f l

abbrev pub moved_out : Turned → OutQueue → OutQueue
moved_out m q = pick (eqb m.out_left 1) (out_left q) (pick (eqb m.out_joins 1) (out_joined (out_entry m.entry.address.0 m.entry.«data») q) q)

abbrev pub left_in : Turned → InQueue → InQueue
left_in m q = pick (eqb m.in_left 1) (in_left q) q

abbrev pub moved_ins : Turned → ℕ → List InQueue → List InQueue
moved_ins m k ins = between m.from m.to (in_joined m.entry) (change k (left_in m) ins)

abbrev pub moved_cache : Turned → Cache → Cache
moved_cache m c =
    let a = m.entry.address.0 in
    record { present = set c.present a (held_as m (get_or c.present a false)); «data» = set c.«data» a (cached_as m (get_or c.«data» a 0)) }

abbrev pub moved_memory : Turned → List ℕ → List ℕ
moved_memory m words = let a = m.entry.address.0 in set words a (stored_as m (get_or words a 0))

-- the parts of the engine whose turn it is stand at place k
abbrev pub moved : Turned → ℕ → Store → Store
moved m k s =
    record {
      sizes = s.sizes;
      memory = moved_memory m s.memory;
      caches = change k (moved_cache m) s.caches;
      outs = change k (moved_out m) s.outs;
      ins = moved_ins m k s.ins;
    }

-- the move's answer, and the store after it
abbrev pub done : Turned → ℕ → Store → Stepped
done m k s = record { number = m.said.number; store = moved m k s; event = m.said.event }

-- what the well-formed action x finds in the store was looked at, at place k: an oldest entry only where there is one, an own entry only for R, full queues only for MW
pub record Seen (s : Store) (x : Record) (k : ℕ) (l : Look) : Type 0 where
  pub place : k ≡ pred x.engine.0
  pub outs : l.outs ≡ (out_at s x.engine.0).len
  pub ins : l.ins ≡ (in_at s x.engine.0).len
  pub first_out : 0 < l.outs → l.first_out ≡ oldest_out s x.engine.0
  pub first_in : 0 < l.ins → l.first_in ≡ oldest_in s x.engine.0
  pub own : x.kind ≡ 1 → l.own ≡ own_waits x.engine (in_at s x.engine.0)
  pub blocked : x.kind ≡ 3 → l.blocked ≡ some_full s
  pub cached : l.cached ≡ cached_word (cache_at s x.engine.0) x.address
  pub stored : l.stored ≡ memory_at s x.address.0
