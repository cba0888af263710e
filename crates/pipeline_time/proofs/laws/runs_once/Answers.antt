use Rattle.pipeline_time.specs.Journal.{stands, stage_word}
use Rattle.pipeline_time.specs.States.{after}
use Rattle.pipeline_time.proofs.Agree.{worded, good_past}
use Rattle.pipeline_time.proofs.Once.{edge_once}
use Rattle.pipeline_time.proofs.laws.runs_once.Goals as goal

pub returns : goal.returns
returns g c core sound first entries pins =
    let state = after core first entries in
    (edge_once core sound (stage_word core state.past) (stands core state.past) (worded core sound state.past (good_past core sound first entries)) pins state.memory).ran_once
