use Rattle.std.proofs.Common.{◌∙◌, ap, sym, Option, option_map}
use Rattle.lisa_words.specs.declared.words.Kind.{Kind}
use Rattle.typed_values.specs.Words.{TypedWord, as_shape}
use Rattle.behavior_plans.specs.declared.terms.Term.{Term}
use Rattle.behavior_plans.specs.Terms.{term_tree}
use Rattle.behavior_plans.specs.Effects.{first_word}
use Rattle.behavior_plans.specs.Stores.{holdings_of}
use Rattle.behavior_plans.proofs.writing.first_word.Goals as goal

pub returns-in-Some : goal.returns-in-Some
returns-in-Some c =
    let taken = c.in_kind.ensures ∙ ap (λ (given : Kind → TypedWord). given c.args.shape.kind) c.whole.ensures in
    c.as_shape.ensures
    ∙ ap (λ (v : TypedWord). as_shape c.args.shape v) taken
    ∙ sym (ap (λ (e : Option Term). first_word (holdings_of c.args.store.now) c.args.shape (option_map term_tree e)) c.in-Some.is)
