use Rattle.headline_laws.proofs.Replaying.{replayed}
use Rattle.headline_laws.proofs.laws.waves_are_replayed.Goals as goal

pub returns : goal.returns
returns c = λ run edges input shown short gives.
    let found = c.modules_print_what_descriptions_print.ensures.waves run edges input shown gives in
    (found.0, replayed c.shown_is_declared.ensures c.states_are_shaped.ensures c.runs_are_read_again.ensures c.traces_are_kept.ensures run found.0 edges short shown found.1)
