-- What expressions on a path read.
use Rattle.std.specs.Prelude.{ℕ, false, cond, List, [], Option, None, Some}
use Rattle.lisa_tree.specs.Expressions.{ExprTree}
use Rattle.lisa_tree.specs.Descriptions.{DescriptionTree}
use Rattle.typed_values.specs.Words.{TypedWord, truth, typed_word}
use Rattle.typed_values.specs.Expressions.{Reader}
use Rattle.scene_paths.specs.lisa_meaning.Scenes.{Link, Scene, at_path, child_at_home}
use Rattle.scene_paths.specs.lisa_meaning.Moments.{Moment, bare, with_locals}
use Rattle.scene_paths.specs.lisa_meaning.Values.{Below, reader, child_value, label_value, value_within}
use Rattle.moment_stores.specs.Stores.{moment_of}
use Rattle.behavior_runs.specs.declared.view.View.{View}
use Rattle.behavior_runs.specs.declared.view.Named.{Named}
use Rattle.behavior_runs.specs.declared.view.Named.TheVariants as named
use Rattle.scene_paths.specs.Paths.{links_of}
use Rattle.scene_paths.specs.Sights.{sight_tree, form_of}

abbrev pub view_tree : View → DescriptionTree
view_tree view = sight_tree view.sight

-- the moment that is seen, with its locals or without
abbrev pub moment_seen : View → Moment
moment_seen view = with_locals (cond view.has_locals (moment_of view.store.now).locals []) (moment_of view.store.now)

-- EXPRESSIONS of children, so many levels deep
abbrev pub below_within : ℕ → DescriptionTree → Scene → Moment → Below
below_within levels d scene m = λ path below. value_within levels d (at_path scene path) (bare m) below

abbrev pub reader_within : ℕ → DescriptionTree → Scene → Moment → Reader
reader_within levels d scene m = reader (below_within levels d scene m) d scene m

-- a label of the operation that runs
abbrev pub label_on : List ℕ → ℕ → Option Link → TypedWord
label_on n word None = truth false
label_on n word (Some here) = label_value n word here.part

-- the value of a name that was looked up: known, or that of a child, by the path of the operation that declares it
abbrev pub named_value : Below → View → List ℕ → Named → TypedWord
named_value below view n (named.Known v) = typed_word v
named_value below view n (named.Child home) = child_value below (view_tree view) (child_at_home (view_tree view) (form_of view.sight) n (links_of (view_tree view) (form_of view.sight) home))
