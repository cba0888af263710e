use Rattle.std.proofs.Common.{◌∙◌, ◌<◌, ◌≤◌, ap, refl, arith, List, drop, length}
use Rattle.lisa_tree.specs.Same.{same_name}
use Rattle.typed_values.specs.Words.{typed_word}
use Rattle.moment_stores.specs.declared.locals.Local.{Local}
use Rattle.moment_stores.specs.Locals.{local_pairs}
use Rattle.moment_stores.proofs.LocalLemmas.{there_put, past_put}
use Rattle.moment_stores.proofs.locals.Locals.put.Goals as goal

pub returns-then-place-len-clause-scope : goal.returns-then-place-len-clause-scope
returns-then-place-len-clause-scope c =
    let self = c.args.self.now in
    let place = c.place-place.result in
    let x = c.index_mut.result.now in
    let less : place < length self.all.items = omega (arith, c.if-place-len.true, c.len.ensures, self.all.ok.0) in
    there_put c.args.name.now self.all.items self.base place c.place-place.ensures.from c.place-place.ensures.before (typed_word c.args.value) x _ less c.index_mut.ensures.value
    (ap (λ (l : Local). same_name c.args.name.now l.name.now) c.index_mut.ensures.value ∙ c.place-place.ensures.found x (omega (arith, less, self.all.ok.0))) refl

pub returns-else-place-len-clause-scope : goal.returns-else-place-len-clause-scope
returns-else-place-len-clause-scope c =
    let self = c.args.self.now in
    let past : length self.all.items ≤ c.place-place.result = omega (arith, c.if-place-len.false, c.len.ensures, self.all.ok.0) in
    ap (λ (xs : List Local). local_pairs (drop self.base xs)) c.push_reserved.ensures.items
    ∙ past_put c.args.name.now self.all.items self.base c.place-place.result c.place-place.ensures.from c.place-place.ensures.before (typed_word c.args.value) _ past (omega (arith, self.inside, self.all.ok.0)) refl
