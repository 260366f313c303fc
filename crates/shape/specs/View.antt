-- A store as a state of Figure 2, a record as one of its steps. Assumes nothing.
use Rattle.std.specs.Prelude.{map, ℕ, eqb}
use Rattle.std.proofs.Math.Option.{Option, none, some}
use Rattle.figure.specs.Figure.{Out, wr, In, up, Engine, State, Step, R}
use Rattle.figure.specs.Refusals.{pick, first_of}
use Rattle.figure.specs.declared.Record.{Record}
use Rattle.figure.specs.declared.Sizes.{Sizes}
use Rattle.shape.specs.Parts.{out_of, in_of, in_cache, cached_value}
use Rattle.shape.specs.Step.{out_at, in_at, cache_at, memory_at, form_refused, action_of}
use Rattle.shape.specs.declared.Cache.{Cache}
use Rattle.shape.specs.declared.InEntry.{InEntry}
use Rattle.shape.specs.declared.OutEntry.{OutEntry}
use Rattle.shape.specs.declared.Store.{Store}

abbrev pub out_view : OutEntry → Out
out_view x = wr x.address.0 x.«data»

abbrev pub in_view : InEntry → In
in_view x = up x.origin.0 x.address.0 x.«data»

abbrev pub cache_view : Cache → ℕ → Option ℕ
cache_view c a = pick (in_cache c (record { 0 = a })) (some (cached_value c (record { 0 = a }))) none

abbrev pub engine_view : Store → ℕ → Engine
engine_view s i =
    record {
      cache = cache_view (cache_at s i);
      outs = map out_view (out_of (out_at s i));
      ins = map in_view (in_of (in_at s i));
    }

abbrev pub view : Store → State
view s = record { memory = memory_at s; engine = engine_view s }

-- a badly formed record is a step of engine 0, which is no engine
abbrev pub step_view : Sizes → Record → Step
step_view z x = pick (eqb (first_of (form_refused z x)) 0) (action_of x) (R 0 0)
