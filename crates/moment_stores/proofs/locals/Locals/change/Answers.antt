use Rattle.std.proofs.Common.{◌≡◌, ◌∙◌, ◌<◌, ◌≤◌, ap, sym, refl, arith, length}
use Rattle.std.specs.Prelude.{IsSome, None, Option, is_some}
use Rattle.std.proofs.lemmas.Bool.{false≢true}
use Rattle.lisa_tree.specs.Same.{same_name}
use Rattle.typed_values.specs.Words.{TypedWord, typed_word}
use Rattle.moment_stores.specs.declared.locals.Local.{Local}
use Rattle.moment_stores.proofs.LocalLemmas.{there_put, past_value}
use Rattle.moment_stores.proofs.locals.Locals.change.Goals as goal

is_nothing : {o : Option TypedWord} → o ≡ None → IsSome o → ⊥
is_nothing e some = false≢true (sym (ap is_some e) ∙ some)

pub returns-then-place-len-clause-scope : goal.returns-then-place-len-clause-scope
returns-then-place-len-clause-scope c =
    let self = c.args.self.now in
    let place = c.place-place.result in
    let x = c.index_mut.result.now in
    let less : place < length self.all.items = omega (arith, c.if-place-len.true, c.len.ensures, self.all.ok.0) in
    there_put c.args.name.now self.all.items self.base place c.place-place.ensures.from c.place-place.ensures.before (typed_word c.args.value) x _ less c.index_mut.ensures.value
    (ap (λ (l : Local). same_name c.args.name.now l.name.now) c.index_mut.ensures.value ∙ c.place-place.ensures.found x (omega (arith, less, self.all.ok.0))) refl

pub returns-else-place-len-clause-scope : goal.returns-else-place-len-clause-scope
returns-else-place-len-clause-scope c =
    let self = c.args.self.now in
    let past : length self.all.items ≤ c.place-place.result = omega (arith, c.if-place-len.false, c.len.ensures, self.all.ok.0) in
    let none = past_value c.args.name.now self.all.items self.base c.place-place.result c.place-place.ensures.from c.place-place.ensures.before past in
    absurd (is_nothing none c.requires)
