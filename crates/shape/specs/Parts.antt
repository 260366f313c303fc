-- Queues and caches: what they hold, and what is done to them. Assumes nothing.
use Rattle.std.specs.Prelude.{Bool, true, false, ◌&&◌, ◌||◌, ℕ, zero, suc, eqb, leb, length, take, drop, set, get_or, Option, Some, None}
use mathlib.Core.List.{List, [], ◌∷◌, ◌++◌, map, tail}
use Rattle.figure.specs.Refusals.{pick}
use Rattle.figure.specs.declared.Address.{Address}
use Rattle.figure.specs.declared.Engine.{Engine}
use Rattle.shape.specs.declared.Cache.{Cache}
use Rattle.shape.specs.declared.InEntry.{InEntry}
use Rattle.shape.specs.declared.InQueue.{InQueue}
use Rattle.shape.specs.declared.OutEntry.{OutEntry}
use Rattle.shape.specs.declared.OutQueue.{OutQueue}

-- ---- lists

module _ {A : Type 0} where
  abbrev pub any : (A → Bool) → List A → Bool
  any p [] = false
  any p (x ∷ l) = p x || any p l

  abbrev pub all : (A → Bool) → List A → Bool
  all p [] = true
  all p (x ∷ l) = p x && all p l

  -- an array whose first places hold l, the others as they were in old
  abbrev pub over : List A → List A → List A
  over l old = l ++ drop (length l) old

  -- the list with what stands at k changed by f
  abbrev pub change : ℕ → (A → A) → List A → List A
  change k f [] = []
  change zero f (x ∷ l) = f x ∷ l
  change (suc k) f (x ∷ l) = x ∷ change k f l

  -- the first n changed by f, the others as they were
  abbrev pub firsts : ℕ → (A → A) → List A → List A
  firsts n f l = map f (take n l) ++ drop n l

-- ---- what an out queue and an in queue hold, oldest first, and the queue with l in its place: unused places stay

abbrev pub out_of : OutQueue → List OutEntry
out_of q = take q.len q.entries

abbrev pub with_out : OutQueue → List OutEntry → OutQueue
with_out q l = record { len = length l; entries = over l q.entries }

abbrev pub in_of : InQueue → List InEntry
in_of q = take q.len q.entries

abbrev pub with_in : InQueue → List InEntry → InQueue
with_in q l = record { len = length l; entries = over l q.entries }

-- "Queues are first in, first out"
abbrev pub out_joined : OutEntry → OutQueue → OutQueue
out_joined x q = with_out q (out_of q ++ (x ∷ []))

abbrev pub out_left : OutQueue → OutQueue
out_left q = with_out q (tail (out_of q))

abbrev pub in_joined : InEntry → InQueue → InQueue
in_joined x q = with_in q (in_of q ++ (x ∷ []))

abbrev pub in_left : InQueue → InQueue
in_left q = with_in q (tail (in_of q))

-- "room": fewer entries than the depth
abbrev pub full : ℕ → ℕ → Bool
full depth len = leb depth len

-- "own entry waits in the in queue"
abbrev pub is_from : Engine → InEntry → Bool
is_from i x = eqb x.origin.0 i.0

abbrev pub own_waits : Engine → InQueue → Bool
own_waits i q = any (is_from i) (in_of q)

-- ---- caches: a in the cache or not, its value, and the cache with it set or without it

abbrev pub in_cache : Cache → Address → Bool
in_cache c a = get_or c.present a.0 false

abbrev pub cached_value : Cache → Address → ℕ
cached_value c a = get_or c.«data» a.0 0

-- the word at a, where it is in the cache
abbrev pub cached_word : Cache → Address → Option ℕ
cached_word c a = pick (in_cache c a) (Some (cached_value c a)) None

abbrev pub cached : Address → ℕ → Cache → Cache
cached a d c = record { present = set c.present a.0 true; «data» = set c.«data» a.0 d }

abbrev pub dropped : Address → Cache → Cache
dropped a c = record { present = set c.present a.0 false; «data» = c.«data» }

-- ---- nothing: what stands past the end of a list, which no answer depends on

abbrev pub no_out_entry : OutEntry
no_out_entry = record { address = record { 0 = 0 }; «data» = 0 }

abbrev pub no_in_entry : InEntry
no_in_entry = record { origin = record { 0 = 0 }; address = record { 0 = 0 }; «data» = 0 }

abbrev pub no_out : OutQueue
no_out = record { len = 0; entries = [] }

abbrev pub no_in : InQueue
no_in = record { len = 0; entries = [] }

abbrev pub no_cache : Cache
no_cache = record { present = []; «data» = [] }
