use Rattle.std.proofs.Common.{refl, List, ℕ}
use Rattle.lisa_engine.specs.Text.{state_text, trace_text}
use Rattle.lisa_engine.specs.ScheduleLine.{Line}
use Rattle.lisa_engine.specs.Machines.{course_of, state_at}
use Rattle.vcd_trace.specs.VcdText.{vcd_text}
use Rattle.lisa_outcomes.proofs.Endings.{passed_ends, ends_within}
use Rattle.engine_commands.specs.declared.tasks.Task.TheVariants as tasks
use Rattle.engine_commands.specs.Schedules.{IsSchedule, IsNoSchedule}
use Rattle.engine_commands.specs.Tasks.{GivesTask}
use Rattle.engine_commands.proofs.Driven.{shown_ends, unscheduled_ends}
use Rattle.engine_commands.proofs.tasks.do_task.Goals as goal

pub returns-in-Board-clause-ends : goal.returns-in-Board-clause-ends
returns-in-Board-clause-ends g c = rw c.in-Board.is c.play_board.ensures.ends

pub returns-in-State-clause-ends : goal.returns-in-State-clause-ends
returns-in-State-clause-ends g c =
    let m = g.E.Engine.machine c.args.engine in
    rw c.in-State.is (shown_ends m c.args.third.now _ _ (λ (lines : List Line). state_text m.items m.arrays c.in-State.edges (state_at (course_of m lines) c.in-State.edges)) _ _ _ _ _ _
    (rw c.pins.ensures at c.in-Ok.ensures.finds) c.put_state.ensures)

pub returns-in-Trace-clause-ends : goal.returns-in-Trace-clause-ends
returns-in-Trace-clause-ends g c =
    let m = g.E.Engine.machine c.args.engine in
    rw c.in-Trace.is (shown_ends m c.args.third.now _ _ (λ (lines : List Line). trace_text m.items m.arrays (state_at (course_of m lines)) c.in-Trace.edges) _ _ _ _ _ _
    (rw c.pins.ensures at c.in-Ok.ensures.finds) c.put_trace.ensures)

pub returns-in-Waves-clause-ends : goal.returns-in-Waves-clause-ends
returns-in-Waves-clause-ends g c =
    let m = g.E.Engine.machine c.args.engine in
    rw c.in-Waves.is (shown_ends m c.args.third.now _ _ (λ (lines : List Line). vcd_text m.items (λ k. (state_at (course_of m lines) k).items) c.in-Waves.edges) _ _ _ _ _ _
    (rw c.pins.ensures at c.in-Ok.ensures.finds) c.put_waves.ensures)

pub returns-in-Answers-clause-ends : goal.returns-in-Answers-clause-ends
returns-in-Answers-clause-ends g c =
    let m = g.E.Engine.machine c.args.engine in
    let finds = rw c.pins.ensures at c.in-Ok.ensures.finds in
    rw c.in-Answers.is (passed_ends {X = List Line} {T = Unit {0}} {W = List ℕ} (λ lines. lines) (IsSchedule m.pins c.args.third.now) (IsNoSchedule m.pins c.args.third.now)
    _ (GivesTask tasks.Answers m) _ _ c.in-Ok.schedule _ _ _ _ _ finds (λ b. ((refl, b.0), (c.in-Ok.schedule, finds.found, b.1)))
    (ends_within {T = Unit {0}} {W = List ℕ} {V = List ℕ} _ _ _ _ _ (λ bytes. bytes) _ _ _ _ _ (λ bytes heard. heard refl) (λ b. b) c.answer_under.ensures.ends))

pub returns-in-Err-clause-ends : goal.returns-in-Err-clause-ends
returns-in-Err-clause-ends g c =
    unscheduled_ends (g.E.Engine.machine c.args.engine) c.args.third.now _ _ c.args.task c.in-Err.end _ _ c.in_default.not-Board (rw c.pins.ensures at c.in-Err.ensures.finds)
