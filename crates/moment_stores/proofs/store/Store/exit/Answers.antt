use Rattle.std.proofs.Common.{ap}
use Rattle.typed_values.specs.Effects.{Locals}
use Rattle.lisa_meaning.specs.Moments.{with_locals}
use Rattle.moment_stores.specs.Stores.{moment_of}
use Rattle.moment_stores.proofs.LocalLemmas.{exited_scope, exited_outer}
use Rattle.moment_stores.proofs.store.Store.exit.Goals as goal

pub returns-clause-moment : goal.returns-clause-moment
returns-clause-moment c =
    let locals = c.args.self.now.locals in
    ap (λ (l : Locals). with_locals l (moment_of c.args.self.now)) (exited_scope locals.all.items c.exit.new.self.all.items locals.base c.exit.new.self.base c.args.place c.exit.ensures.all c.exit.ensures.base)

pub returns-clause-outer : goal.returns-clause-outer
returns-clause-outer c =
    let locals = c.args.self.now.locals in
    exited_outer locals.all.items c.exit.new.self.all.items locals.base c.exit.new.self.base c.args.place c.exit.ensures.all c.exit.ensures.base
