use Rattle.std.proofs.Common.{rules, ◌≡◌, true, ap, sym, ◌∙◌, subst}
use Rattle.pipeline_time.specs.Running.{Running, word_below, activate, run}
use Rattle.pipeline_runs.specs.declared.tree.Tree.{Tree}
use Rattle.pipeline_runs.specs.Runs.{acts_of, Represents}
use Rattle.pipeline_runs.proofs.Steps.{runs_recorded}
use Rattle.pipeline_runs.proofs.runs.+run.Goals as goal

pub returns-else-level-here-clause-runs : goal.returns-else-level-here-clause-runs
returns-else-level-here-clause-runs g t c bits now seen =
    let core = g.B.Behaves.core c.args.edge.now.store in
    let own = word_below c.in-Item.past c.args.word in
    let waits = activate core c.args.here c.in-Item.number own now in
    let end = c.run-else-level-here.new.edge in
    let moment = g.B.Behaves.moment end.store in
    let went = c.run-else-level-here.ensures.runs bits waits (c.record.ensures.runs bits now own seen) in
    let same =
    ap (λ s. run (g.B.Behaves.core s) c.args.here c.args.word (acts_of c.deref-else-level-here.result.now) waits) c.record.ensures.store
    ∙ ap (λ (t : Tree). run core c.args.here c.args.word (acts_of t) waits) c.deref-else-level-here.ensures
    in
    let rested = subst (λ (n : Running g.B.Behaves.Moment). Represents moment end.queues end.slot bits n) same went in
    let chosen : core.chooses c.in-Item.number c.args.word ≡ true = search rules in
    let all = runs_recorded core moment end.queues end.slot bits now c.args.here c.args.word c.in-Item.number c.in-Item.level c.in-Item.past (acts_of c.in-Item.own.value) (acts_of c.in-Item.rest.value) chosen c.if-level-here.false rested in
    subst (λ (t : Tree). Represents moment end.queues end.slot bits (run core c.args.here c.args.word (acts_of t) now)) (sym c.in-Item.is) all
