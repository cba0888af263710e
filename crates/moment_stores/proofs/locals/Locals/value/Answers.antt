use Rattle.std.proofs.Common.{◌∙◌, ◌<◌, ◌≤◌, ap, sym, arith, length}
use Rattle.lisa_tree.specs.Same.{same_name}
use Rattle.moment_stores.specs.declared.locals.Local.{Local}
use Rattle.moment_stores.proofs.LocalLemmas.{there_value, past_value}
use Rattle.moment_stores.proofs.locals.Locals.value.Goals as goal

pub returns-then-place-len : goal.returns-then-place-len
returns-then-place-len c =
    let self = c.args.self.now in
    let place = c.place-place.result in
    let x = c.index.result.now in
    let less : place < length self.all.items = omega (arith, c.if-place-len.true, c.len.ensures, self.all.ok.0) in
    there_value c.args.name.now self.all.items self.base place c.place-place.ensures.from c.place-place.ensures.before x less c.index.ensures
    (ap (λ (l : Local). same_name c.args.name.now l.name.now) c.index.ensures ∙ c.place-place.ensures.found x (omega (arith, less, self.all.ok.0)))

pub returns-else-place-len : goal.returns-else-place-len
returns-else-place-len c =
    let self = c.args.self.now in
    let past : length self.all.items ≤ c.place-place.result = omega (arith, c.if-place-len.false, c.len.ensures, self.all.ok.0) in
    sym (past_value c.args.name.now self.all.items self.base c.place-place.result c.place-place.ensures.from c.place-place.ensures.before past)
