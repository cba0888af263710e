use Rattle.std.proofs.Common.{◌≡◌, ◌&&◌, true, false, cond, Some, ap, sym, ◌∙◌}
use Rattle.pipeline_runs.proofs.Steps.{behaved}
use Rattle.pipeline_runs.proofs.runs.behave_once.Goals as goal

pub returns-then-takes-clause-runs : goal.returns-then-takes-clause-runs
returns-then-takes-clause-runs g c bits now seen =
    let core = g.B.Behaves.core c.args.edge.now.store in
    let slot = c.args.edge.now.slot in
    let is : (core.is_root c.args.number && core.decodes c.args.word) ≡ true = ap (λ core. core.is_root c.args.number && core.decodes c.args.word) (sym c.behave.ensures.core) ∙ sym c.takes.ensures ∙ c.if-takes.true in
    behaved core c.args.edge.now.queues (g.B.Behaves.moment c.args.edge.now.store) (g.B.Behaves.moment c.behave.new.self) slot (Some c.args.word) bits now c.args.number c.args.word c.behave.ensures.moment (sym (ap (λ b. cond b (Some c.args.word) slot) is)) seen

pub returns-else-takes-clause-runs : goal.returns-else-takes-clause-runs
returns-else-takes-clause-runs g c bits now seen =
    let core = g.B.Behaves.core c.args.edge.now.store in
    let slot = c.args.edge.now.slot in
    let is : (core.is_root c.args.number && core.decodes c.args.word) ≡ false = ap (λ core. core.is_root c.args.number && core.decodes c.args.word) (sym c.behave.ensures.core) ∙ sym c.takes.ensures ∙ c.if-takes.false in
    behaved core c.args.edge.now.queues (g.B.Behaves.moment c.args.edge.now.store) (g.B.Behaves.moment c.behave.new.self) slot slot bits now c.args.number c.args.word c.behave.ensures.moment (sym (ap (λ b. cond b (Some c.args.word) slot) is)) seen
