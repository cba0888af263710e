use Rattle.std.proofs.Common.{◌∙◌, ap, List, drop}
use Rattle.moment_stores.specs.declared.locals.Local.{Local}
use Rattle.moment_stores.specs.Locals.{local_pairs}
use Rattle.moment_stores.proofs.LocalLemmas.{scope_leave}
use Rattle.moment_stores.proofs.locals.Locals.leave.Goals as goal

pub returns-then-count-len-clause-scope : goal.returns-then-count-len-clause-scope
returns-then-count-len-clause-scope c =
    ap (λ (xs : List Local). local_pairs (drop c.args.self.now.base xs)) c.truncate.ensures.items ∙ scope_leave c.args.self.now.all.items c.args.self.now.base c.args.count
