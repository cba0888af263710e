use Rattle.std.proofs.Common.{◌≡◌, ◌+◌, ◌&&◌, true, false, ap, sym, ◌∙◌, nat_eq}
use Rattle.lisa_activation.specs.Queued.{above, entered, first}
use Rattle.lisa_activation.specs.Restored.{comes}
use Rattle.lisa_activation.proofs.Coming.{first_kept, none_comes}
use Rattle.lisa_activation.proofs.restores.enter_one.Goals as goal

pub returns-then-comes-clause-first : goal.returns-then-comes-clause-first
returns-then-comes-clause-first g c number =
    let shown = g.S.Shows.shown c.args.shows.now in
    let level = above c.args.queues.now c.args.occurrence in
    let is : comes shown level c.args.steps c.args.occurrence ≡ true = ap (λ l. comes shown l c.args.steps c.args.occurrence) (sym c.above-level.ensures.is) ∙ sym c.comes.ensures ∙ c.if-comes.true in
    c.enter.ensures.more_first number
    ∙ first_kept shown level c.args.steps c.args.occurrence (first c.args.queues.now number) (nat_eq number c.args.occurrence) is

pub returns-else-comes-clause-entered : goal.returns-else-comes-clause-entered
returns-else-comes-clause-entered g c stage number within =
    let shown = g.S.Shows.shown c.args.shows.now in
    let level = above c.args.queues.now c.args.occurrence in
    let is : comes shown level c.args.steps c.args.occurrence ≡ false = ap (λ l. comes shown l c.args.steps c.args.occurrence) (sym c.above-level.ensures.is) ∙ sym c.comes.ensures ∙ c.if-comes.false in
    none_comes (entered c.args.queues.now stage number) (comes shown level c.args.steps c.args.occurrence) (nat_eq (stage + 1) level && nat_eq number c.args.occurrence) is
