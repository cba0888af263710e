-- What each stage did in an edge, as its log has it.
use Rattle.std.specs.Prelude.{ℕ, suc, ◌<◌, ◌≡◌, Bool, true, false, ◌&&◌, List, ◌==◌}
use Rattle.std.specs.List.{list_any}
use Rattle.activation_bits.specs.Members.{has}
use Rattle.pipeline_time.specs.Cores.{Core, all_nodes, level_of}
use Rattle.pipeline_time.specs.Edges.{is_free, waiting, is_due}
use Rattle.pipeline_time.specs.Journal.{Log, stands}
use Rattle.pipeline_time.specs.States.{log_of, edge_of, after}
use Rattle.lisa_activation.specs.Shown.{AreStages}
use Rattle.pipeline_runs.specs.declared.seen.Seen.{Seen}

-- an answer tells whether some number passes a test
abbrev pub TellsSome : (ℕ → Bool) → Bool → Type 0
TellsSome test true = (number : ℕ) × (test number ≡ true)
TellsSome test false = (number : ℕ) → test number ≡ false

module _ {R M : Type 0} (core : Core R M) where
  -- Whether an occurrence of a level ran. The first one that did was due there; what runs at once runs below one of its own level.
  abbrev pub has_run : Log → ℕ → Bool
  has_run log level = list_any (λ number. level_of core number == level) log.ran

  -- a bit for each of eight stages in which something ran as in its own, and for each that was held, and flushed
  pub record IsSeen (log : Log) (seen : Seen) : Type 0 where
    pub ran : (stage : ℕ) → stage < 8 → has seen.ran stage ≡ has_run log (suc stage)
    pub stages : AreStages log seen.held seen.flushed

  -- Something ran in a stage exactly where it was neither held nor flushed, and something was due there: an activation that stood in its own
  -- stage, or what an activator in no stage activated in the first one.
  abbrev pub WhatIsDueRuns : Type 0
  WhatIsDueRuns =
      (first : R) (entries : List (List ℕ)) (pins : List ℕ) (stage : ℕ)
      → has_run (log_of core (edge_of core pins (after core first entries))) (suc stage)
      ≡ (is_free core (edge_of core pins (after core first entries)) (suc stage)
      && list_any (is_due core (waiting core (stands core (after core first entries).past) (suc stage) (edge_of core pins (after core first entries))) (suc stage)) (all_nodes core))
