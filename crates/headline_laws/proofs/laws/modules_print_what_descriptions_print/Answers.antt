use Rattle.engine_commands.specs.declared.tasks.Task.TheVariants as tasks
use Rattle.headline_laws.proofs.Filed.{source_of, source_fits, files_print_alike}
use Rattle.headline_laws.proofs.Meaning.{is_meant, finished_same, board_finished}
use Rattle.headline_laws.specs.Headline.{meant_machine}
use Rattle.headline_laws.proofs.Written.{unique, written_so, print_alike}
use Rattle.headline_laws.proofs.laws.modules_print_what_descriptions_print.Goals as goal

pub returns-clause-alike : goal.returns-clause-alike
returns-clause-alike c = λ run text writes task silent input shown bytes gives.
    let checks = unique c.checks_are_unique.ensures.one c.checks_are_unique.ensures.whole in
    print_alike checks run text (written_so run text writes) task silent input bytes shown gives

pub returns-clause-traces : goal.returns-clause-traces
returns-clause-traces c = λ run edges input shown gives. let m = is_meant (tasks.Trace edges) run input shown gives in (record { meant = m.meant; lines = m.driver; schedule = m.read }, finished_same _ _ m.gives)

pub returns-clause-states : goal.returns-clause-states
returns-clause-states c = λ run edges input shown gives. let m = is_meant (tasks.State edges) run input shown gives in (record { meant = m.meant; lines = m.driver; schedule = m.read }, finished_same _ _ m.gives)

pub returns-clause-waves : goal.returns-clause-waves
returns-clause-waves c = λ run edges input shown gives. let m = is_meant (tasks.Waves edges) run input shown gives in (record { meant = m.meant; lines = m.driver; schedule = m.read }, finished_same _ _ m.gives)

pub returns-clause-boards : goal.returns-clause-boards
returns-clause-boards c = λ run edges input shown gives.
    let m = is_meant (tasks.Board edges) run input shown gives in
    (record { meant = m.meant; devices = m.driver; board = m.read }, board_finished (meant_machine m.meant) m.driver edges input shown m.gives)

pub returns-clause-files : goal.returns-clause-files
returns-clause-files c = λ before after names verilog text writes same held task silent input shown bytes gives.
    let checks = unique c.checks_are_unique.ensures.one c.checks_are_unique.ensures.whole in
    let source = source_of before names.main text writes in
    let fits = source_fits checks c.sizes_are_limited.ensures source in
    files_print_alike checks before after names verilog text source same (held, fits) task silent input shown bytes gives
