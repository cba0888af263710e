-- The value of an expression in the scene of a path.
use Rattle.std.proofs.Common.{◌≡◌, ◌∙◌, ◌<◌, ◌≤◌, ◌-◌, ◌*◌, ◌+◌, ℕ, zero, suc, Bool, true, false, List, [], ◌∷◌, Option, None, Some, not, refl, sym, ap, ap₂, subst, arith}
use Rattle.std.specs.Prelude.{option_map}
use Rattle.std.proofs.lemmas.Option.{same_Some}
use Rattle.lisa_tree.specs.Expressions.{ExprTree, expr_depth}
use Rattle.lisa_tree.specs.Descriptions.{DescriptionTree, CodingTree, description_depth}
use Rattle.lisa_tree.specs.Operations.{coding_in, expression_in, sections_at}
use Rattle.moment_stores.specs.instruction_forms.Trees.{FormTree}
use Rattle.typed_values.specs.Words.{TypedWord, is_zero, truth}
use Rattle.typed_values.specs.Expressions.{value}
use Rattle.moment_stores.specs.description_sizes.Texts.{levels}
use Rattle.scene_paths.specs.lisa_meaning.Scenes.{Link, Scene, scene_of}
use Rattle.scene_paths.specs.lisa_meaning.Moments.{Moment, bare}
use Rattle.scene_paths.specs.lisa_meaning.Values.{Below, child_value, expression_at, value_below, value_of}
use Rattle.scene_paths.specs.lisa_meaning.Cores.{is_true}
use Rattle.scene_paths.specs.declared.paths.Path.{Path}
use Rattle.scene_paths.specs.declared.sight.Sight.{Sight}
use Rattle.scene_paths.specs.Paths.{first_link, links_in, links_of}
use Rattle.scene_paths.specs.Sights.{sight_tree, form_of, scene_at}
use Rattle.behavior_runs.specs.Views.{below_within, reader_within}
use Rattle.behavior_runs.proofs.Depths.{expression_depth, falls}

-- ---- EXPRESSIONS of children

-- the value of the EXPRESSION of the operation on a path
abbrev pub own_value : ℕ → Sight → Moment → Path → TypedWord
own_value levels sight m path = child_value (below_within levels (sight_tree sight) (scene_at sight path) m) (sight_tree sight) (links_of (sight_tree sight) (form_of sight) path)

pub child_none : (below : Below) (d : DescriptionTree) (form : Option FormTree) (links : List Link) (found : Option Path) → found ≡ None → links_in d form found ≡ links → truth false ≡ child_value below d links
child_none below d form links found none is = ap (child_value below d) (sym (ap (links_in d form) none) ∙ is)

-- a child on its path, with the locals of its user hidden
pub child_some : (levels : ℕ) (s t : Sight) (m l : Moment) (p q : Path) (links : List Link) (found : Option Path) (v : TypedWord)
    → t ≡ s → l ≡ bare m → found ≡ Some q → links_in (sight_tree s) (form_of s) found ≡ links
    → v ≡ own_value levels t l q → v ≡ child_value (below_within levels (sight_tree s) (scene_at s p) m) (sight_tree s) links
child_some levels s t m l p q links found v same hidden some is made =
    made ∙ ap₂ (λ (x : Sight) (y : Moment). own_value levels x y q) same hidden
    ∙ ap (child_value (below_within levels (sight_tree s) (scene_at s p) m) (sight_tree s)) (sym (ap (links_in (sight_tree s) (form_of s)) some) ∙ is)

-- ---- the EXPRESSION of the operation on a path

pub expression_none : (d : DescriptionTree) (links : List Link) (o : Option ℕ) → o ≡ option_map (λ (here : Link). here.operation) (first_link links) → o ≡ None → expression_at d links ≡ None
expression_none d [] o is none = refl
expression_none d (here ∷ above) o is none = absurd (let h : Some here.operation ≡ None = sym is ∙ none in cc h)

pub expression_some : (d : DescriptionTree) (links : List Link) (o : Option ℕ) (operation : ℕ) → o ≡ option_map (λ (here : Link). here.operation) (first_link links) → o ≡ Some operation → expression_at d links ≡ expression_in (sections_at d operation)
expression_some d [] o operation is some = absurd (let h : Some operation ≡ None = sym some ∙ is in cc h)
expression_some d (here ∷ above) o operation is some =
    let h : Some here.operation ≡ Some operation = sym is ∙ some in
    ap (λ (x : ℕ). expression_in (sections_at d x)) (same_Some here.operation operation h)

pub nothing_below : (below : Below) (d : DescriptionTree) (links : List Link) → expression_at d links ≡ None → truth false ≡ child_value below d links
nothing_below below d links is = sym (ap (value_below below links) is)

-- no level is left
pub none_left : (levels : ℕ) (s : Sight) (m : Moment) (p : Path) (found : Option ExprTree) → levels ≡ 0 → expression_at (sight_tree s) (links_of (sight_tree s) (form_of s) p) ≡ found → truth false ≡ own_value levels s m p
none_left levels s m p found none is =
    by found ∙ sym (ap (value_below (below_within zero (sight_tree s) (scene_at s p) m) (links_of (sight_tree s) (form_of s) p)) is)
    ∙ ap (λ (n : ℕ). own_value n s m p) (sym none)
  where
    by : (e : Option ExprTree) → truth false ≡ value_below (below_within zero (sight_tree s) (scene_at s p) m) (links_of (sight_tree s) (form_of s) p) e
    by None = refl
    by (Some e) = refl

-- one level less
pub one_less : (levels : ℕ) (s t : Sight) (m l : Moment) (p : Path) (e : ExprTree) (v : TypedWord)
    → 0 < levels → t ≡ s → l ≡ bare m → expression_at (sight_tree s) (links_of (sight_tree s) (form_of s) p) ≡ Some e
    → v ≡ value (reader_within (levels - 1) (sight_tree t) (scene_at t p) l) e → v ≡ own_value levels s m p
one_less zero s t m l p e v some same hidden is made = absurd (omega (arith, some))
one_less (suc levels) s t m l p e v some same hidden is made =
    let one : suc levels - 1 ≡ levels = omega arith in
    made ∙ ap₂ (λ (x : Sight) (y : Moment). value (reader_within (suc levels - 1) (sight_tree x) (scene_at x p) y) e) same hidden
    ∙ ap (λ (n : ℕ). value (reader_within n (sight_tree s) (scene_at s p) (bare m)) e) one
    ∙ sym (ap (value_below (below_within (suc levels) (sight_tree s) (scene_at s p) m) (links_of (sight_tree s) (form_of s) p)) is)

-- ---- the measure

pub child_falls : (levels : ℕ) (s t : Sight) (o : ℕ) (e : ExprTree) → 0 < levels → t ≡ s → expression_in (sections_at (sight_tree s) o) ≡ Some e
    → 4 * ((levels - 1) * suc (description_depth (sight_tree t)) + expr_depth e) < suc (4 * (levels * suc (description_depth (sight_tree s))))
child_falls levels s t o e some same is =
    subst (λ (x : Sight). 4 * ((levels - 1) * suc (description_depth (sight_tree x)) + expr_depth e) < suc (4 * (levels * suc (description_depth (sight_tree s))))) (sym same)
    (falls levels (description_depth (sight_tree s)) (expr_depth e) some (expression_depth (sight_tree s) o e is))

-- ---- whole values

pub value_whole : (n : ℕ) (s t : Sight) (m l : Moment) (p : Path) (e : ExprTree) (v : TypedWord) → n ≡ levels (sight_tree s) → t ≡ s → l ≡ m
    → v ≡ value (reader_within n (sight_tree t) (scene_at t p) l) e → v ≡ value_of (sight_tree s) (scene_at s p) m e
value_whole n s t m l p e v all same moment made =
    made ∙ ap₂ (λ (x : Sight) (y : Moment). value (reader_within n (sight_tree x) (scene_at x p) y) e) same moment
    ∙ ap (λ (k : ℕ). value (reader_within k (sight_tree s) (scene_at s p) m) e) all

pub true_value : (d : DescriptionTree) (scene : Scene) (m : Moment) (e : ExprTree) (v : TypedWord) → v ≡ value_of d scene (bare m) e → not (is_zero v) ≡ is_true d scene m (Some e)
true_value d scene m e v is = ap (λ (x : TypedWord). not (is_zero x)) is
