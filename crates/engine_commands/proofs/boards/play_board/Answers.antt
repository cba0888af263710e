use Rattle.std.proofs.Common.{List, ℕ, refl}
use Rattle.lisa_board.specs.Boards.{Devices}
use Rattle.lisa_outcomes.proofs.Endings.{passed_ends, stopped_ends, ends_within}
use Rattle.engine_commands.specs.declared.tasks.Task.TheVariants as tasks
use Rattle.engine_commands.specs.Boards.{IsBoard, IsNoBoard}
use Rattle.engine_commands.specs.Tasks.{GivesTask}
use Rattle.engine_commands.proofs.boards.play_board.Goals as goal

pub returns-in-Ok-clause-ends : goal.returns-in-Ok-clause-ends
returns-in-Ok-clause-ends g c =
    let m = g.E.Engine.machine c.args.engine.now in
    let finds = rw (c.items.ensures, c.pins.ensures) at c.in-Ok.ensures.finds in
    passed_ends {X = Devices} {T = Unit {0}} {W = List ℕ} (λ board. board) (IsBoard m.items m.pins c.args.bytes.now) (IsNoBoard m.items m.pins c.args.bytes.now)
    _ (GivesTask (tasks.Board c.args.edges) m) _ _ c.in-Ok.board _ _ _ _ _ finds (λ b. ((refl, b.0), (c.in-Ok.board, finds.found, b.1)))
    (ends_within {T = Unit {0}} {W = List ℕ} {V = List ℕ} _ _ _ _ _ (λ bytes. bytes) _ _ _ _ _ (λ bytes heard. heard refl) (λ b. b) c.print_board.ensures.ends)

pub returns-in-Err-clause-ends : goal.returns-in-Err-clause-ends
returns-in-Err-clause-ends g c =
    let m = g.E.Engine.machine c.args.engine.now in
    stopped_ends {X = Devices} {T = Unit {0}} {W = List ℕ} (λ board. board) (IsBoard m.items m.pins c.args.bytes.now) (IsNoBoard m.items m.pins c.args.bytes.now)
    _ (GivesTask (tasks.Board c.args.edges) m) _ c.in-Err.end _ _ (rw (c.items.ensures, c.pins.ensures) at c.in-Err.ensures.finds)
