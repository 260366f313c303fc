-- A fresh store, and its refusals. Assumes nothing.
use Rattle.std.specs.Prelude.{false, not, List, [], ◌∷◌, ◌++◌, ℕ, zero, suc, eqb, length, replicate, Result, Ok, Err}
use Rattle.figure.specs.Refusals.{Refusal, ◌when◌, first_of, sizes_refused, most_engines, most_addresses, most_depth}
use Rattle.figure.specs.Refused.{number_of}
use Rattle.figure.specs.declared.Sizes.{Sizes}
use Rattle.figure.specs.declared.refused.Refused.{Refused}
use Rattle.shape.specs.Parts.{over, no_in_entry, no_out_entry}
use Rattle.shape.specs.declared.Cache.{Cache}
use Rattle.shape.specs.declared.InQueue.{InQueue}
use Rattle.shape.specs.declared.OutQueue.{OutQueue}
use Rattle.shape.specs.declared.Store.{Store}

abbrev pub empty_cache : Cache
empty_cache = record { present = replicate most_addresses false; «data» = replicate most_addresses 0 }

abbrev pub empty_out : OutQueue
empty_out = record { len = 0; entries = replicate most_depth no_out_entry }

abbrev pub empty_in : InQueue
empty_in = record { len = 0; entries = replicate most_depth no_in_entry }

-- "A fresh store has the given memory, empty caches and empty queues."
unfoldable pub fresh_of : Sizes → List ℕ → Store
fresh_of z table =
    record {
      sizes = z;
      memory = over table (replicate most_addresses 0);
      caches = replicate most_engines empty_cache;
      outs = replicate most_engines empty_out;
      ins = replicate most_engines empty_in;
    }

-- "a state of zeros"
abbrev pub zeros : Store
zeros = fresh_of (record { engines = 0; addresses = 0; depth = 0 }) []

-- a fresh store, or the number of its refusal and zeros
pub record Made : Type 0 where
  pub number : ℕ
  pub store : Store

-- what the call answers, by this paper's number and values
abbrev pub made_by : Result Store Refused → Made
made_by (Ok s) = record { number = 0; store = s }
made_by (Err e) = record { number = number_of e; store = zeros }

-- "Fresh store: 4, 5, 6, then 10, the memory table has not m entries."
unfoldable pub fresh_refused : Sizes → List ℕ → List Refusal
fresh_refused z table = sizes_refused z ++ (10 when not (eqb (length table) z.addresses) ∷ [])

abbrev pub made_as : ℕ → Sizes → List ℕ → Made
made_as zero z table = record { number = 0; store = fresh_of z table }
made_as (suc n) z table = record { number = suc n; store = zeros }

unfoldable pub made : Sizes → List ℕ → Made
made z table = made_as (first_of (fresh_refused z table)) z table
