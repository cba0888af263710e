use Rattle.std.proofs.Common.{[]}
use Rattle.lowered_words.proofs.Loaded.{row_loaded}
use Rattle.lowered_words.proofs.Leaving.{load_leaves, load_formed, row_temps}
use Rattle.lowered_words.proofs.Telling.{row_left}
use Rattle.lowered_words.specs.Loading.{load}
use Rattle.step_pieces.proofs.Laid.{lies_one}
use Rattle.step_pieces.specs.Running.{ran}
use Rattle.lowered_words.proofs.laws.rows_are_loaded.Goals as goal

pub returns-clause-loaded : goal.returns-clause-loaded
returns-clause-loaded c d width wide apart p before pins base from word e now low room is fits = row_loaded d p before pins base from low width word e now wide apart room is fits

pub returns-clause-others : goal.returns-clause-others
returns-clause-others c d width p before pins base from e now low = load_leaves d p before pins base from low width e now

pub returns-clause-rows : goal.returns-clause-rows
returns-clause-rows c d width p before pins base from other word e now low fits apart has =
    row_left d base from other word now (ran p before pins now (load d width base e from).moves) (load_leaves d p before pins base from low width e now) fits apart has

pub returns-clause-formed : goal.returns-clause-formed
returns-clause-formed c d width wide p base from e row scratch fits is low =
    let one = lies_one p.temps from 1 [] scratch in
    load_formed d width p wide base from (row_temps d width base p.temps row) one.0 one.1 e fits is low
