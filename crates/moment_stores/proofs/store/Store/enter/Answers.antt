use Rattle.std.proofs.Common.{◌∙◌}
use Rattle.moment_stores.proofs.LocalLemmas.{entered, entered_count}
use Rattle.moment_stores.proofs.store.Store.enter.Goals as goal

pub returns-clause-outer : goal.returns-clause-outer
returns-clause-outer c =
    let locals = c.args.self.now.locals in
    entered locals.all.items c.enter.new.self.all.items locals.base c.enter.new.self.base c.enter.ensures.all (c.enter.ensures.none ∙ locals.all.ok.0)

pub returns-clause-whole : goal.returns-clause-whole
returns-clause-whole c =
    let locals = c.args.self.now.locals in
    entered_count locals.all.items c.enter.new.self.all.items c.enter.new.self.base _ c.enter.ensures.all (c.enter.ensures.none ∙ locals.all.ok.0) locals.all.ok.0
