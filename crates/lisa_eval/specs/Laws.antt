-- What holds of resolved expressions and places.
use Rattle.std.specs.Prelude.{ℕ, suc, ◌≡◌, ◌<◌, List, length, IfSome}
use Rattle.lisa_words.specs.declared.words.Kind.{Kind}
use Rattle.lisa_tree.specs.Expressions as exprs
use Rattle.lisa_tree.specs.Expressions.{ExprTree}
use Rattle.lisa_tree.specs.Descriptions.{DescriptionTree}
use Rattle.description_places.specs.Scopes.{Scope}
use Rattle.typed_values.specs.Words.{TypedWord}
use Rattle.typed_values.specs.Effects.{whole}
use Rattle.description_sizes.specs.Texts.{levels}
use Rattle.lisa_meaning.specs.Scenes.{Scene, running}
use Rattle.lisa_meaning.specs.Moments as moments
use Rattle.lisa_meaning.specs.Moments.{Moment}
use Rattle.lisa_meaning.specs.Values.{reader_of, value_of}
use Rattle.lisa_meaning.specs.Effects.{put_within}
use Rattle.behavior_plans.specs.Holdings as holdings
use Rattle.behavior_plans.specs.Holdings.{Holdings}
use Rattle.behavior_plans.specs.Terms.{TermTree}
use Rattle.behavior_plans.specs.Values.{term_value, term_whole}
use Rattle.behavior_plans.specs.Effects.{spot_put}
use Rattle.lisa_eval.specs.Resolving.{resolved_term}
use Rattle.lisa_eval.specs.Assigning.{resolved_spot}
use Rattle.lisa_eval.specs.Holding.{Holds}

-- the term has the expression's value, with its kind and width, and gives a place of any kind what the expression gives it
pub record IsMeant (d : DescriptionTree) (scene : Scene) (m : Moment) (h : Holdings) (e : ExprTree) (t : TermTree) : Type 0 where
  pub value : term_value h t ≡ value_of d scene m e
  pub whole : (kind : Kind) → term_whole h t kind ≡ whole (reader_of d scene m) e kind

-- Over a store that holds the moment, an expression that is resolved has the value that is meant.
abbrev pub TermsAreMeant : DescriptionTree → Type 0
TermsAreMeant d =
    (scene : Scene) (m : Moment) (scope : Scope) (h : Holdings) (e : ExprTree) → Holds d scene m scope h → IfSome (resolved_term d (running scene) scope e) (IsMeant d scene m h e)

-- A store that holds a moment holds the moment after an assignment to a name, a local or a register, once the name's place has got what is given.
abbrev pub NamesAreAssigned : DescriptionTree → Type 0
NamesAreAssigned d =
    (scene : Scene) (m : Moment) (scope : Scope) (h : Holdings) (n : List ℕ) (given : Kind → TypedWord) → Holds d scene m scope h
    → IfSome (resolved_spot d (running scene) scope (exprs.Named n)) (λ spot. Holds d scene (put_within (suc (levels d)) d scene (exprs.Named n) given m) scope (spot_put spot given h))

-- A store that has a level holds the moment in which the level is stalled or flushed, once it says so.
abbrev pub StallsAreHeld : DescriptionTree → Type 0
StallsAreHeld d =
    (scene : Scene) (m : Moment) (scope : Scope) (h : Holdings) (level : ℕ) → Holds d scene m scope h → level < length h.stalled → Holds d scene (moments.with_stall level m) scope (holdings.with_stall level h)

abbrev pub FlushesAreHeld : DescriptionTree → Type 0
FlushesAreHeld d =
    (scene : Scene) (m : Moment) (scope : Scope) (h : Holdings) (level : ℕ) → Holds d scene m scope h → level < length h.flushed → Holds d scene (moments.with_flush level m) scope (holdings.with_flush level h)
