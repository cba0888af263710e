use Rattle.std.proofs.Common.{◌≡◌, ◌-◌, suc, arith, subst}
use Rattle.pipeline_time.specs.Journal.{stands}
use Rattle.pipeline_time.specs.States.{after}
use Rattle.pipeline_time.specs.Bits.{shown}
use Rattle.pipeline_runs.specs.Pipelines.{HasCome}
use Rattle.pipeline_runs.proofs.Leads.{wait_as, turned_on, none_turned}
use Rattle.pipeline_runs.proofs.edges.+turns.Goals as goal

pub returns-then-level-gt0-clause-runs : goal.returns-then-level-gt0-clause-runs
returns-then-level-gt0-clause-runs g t c first entries pins now come =
    let core = g.B.Behaves.core c.args.edge.now.store in
    let old = c.args.edge.now in
    let mid = c.turn.new.edge in
    let new = c.turns.new.edge in
    let stage = c.args.level - 1 in
    let words = c.args.words.now in
    let e : c.args.level ≡ suc stage = omega arith in
    let here = subst (λ l. HasCome core first entries pins words (g.B.Behaves.moment old.store) old.queues old.slot l now) e come in
    let waits = wait_as core first entries old.queues c.args.plan.now c.requires.equipped pins words (g.B.Behaves.moment old.store) old.slot stage c.word_from-word.result now (omega arith) here c.word_from-word.ensures in
    let seen = c.turn.ensures.runs (shown core (after core first entries)).bits now (stands core (after core first entries).past) here.seen waits in
    turned_on core first entries (g.B.Behaves.core mid.store) words (g.B.Behaves.moment mid.store) mid.queues mid.slot (g.B.Behaves.moment new.store) new.queues new.slot pins c.args.level stage now e c.turn.ensures.core come.comes come.words_are seen (λ then come. c.turns.ensures.runs first entries pins then come)

pub returns-else-level-gt0-clause-runs : goal.returns-else-level-gt0-clause-runs
returns-else-level-gt0-clause-runs g t c first entries pins now come =
    let old = c.args.edge.now in
    none_turned (g.B.Behaves.core old.store) first entries c.args.words.now (g.B.Behaves.moment old.store) old.queues old.slot pins c.args.level now (omega arith) come
