-- The trace of the dump of a run.
use Rattle.std.specs.Prelude.{ℕ, ◌≤◌, List, []}
use Rattle.lisa_engine.specs.Text.{trace_text}
use Rattle.lisa_outcomes.specs.Outcomes.{Finished}
use Rattle.lisa_outcomes.specs.RunFiles.{RunBytes}
use Rattle.engine_commands.specs.declared.tasks.Task.TheVariants as tasks
use Rattle.engine_commands.specs.Replays.{GivesReplay}
use Rattle.description_commands.specs.description_sizes.Sizes.{items}
use Rattle.description_commands.specs.Runs.{GivesRun}
use Rattle.headline_laws.specs.Headline.{MeantUnder, meant_state}

-- what `vcd` prints over a description, in at most so many edges as it may make, `unvcd` shows as the trace of the states that the description
-- means, without the lines of cells
abbrev pub WavesAreReplayed : Type 0
WavesAreReplayed =
    (run : RunBytes) (edges : ℕ) (input shown : List ℕ) → edges ≤ 10000 → GivesRun (tasks.Waves edges) run input (Finished shown)
    → (m : MeantUnder run) × GivesReplay shown (Finished (trace_text (items m.meant.tree m.meant.width) [] (meant_state m) edges))
