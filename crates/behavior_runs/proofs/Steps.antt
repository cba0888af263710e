-- Bodies and places of children, one step at a time.
use Rattle.std.proofs.Common.{◌≡◌, ℕ, zero, suc, ◌-◌, ◌<◌, List, [], ◌∷◌, ◌++◌, Option, Some, length, drop, refl, ap, sym, ◌∙◌, arith}
use Rattle.std.specs.Prelude.{option_map}
use Rattle.std.proofs.Math.Seq.{drop-append_seam}
use Rattle.lisa_tree.specs.Expressions.{ExprTree}
use Rattle.lisa_tree.specs.Statements.{StmtTrees}
use Rattle.lisa_tree.specs.Descriptions.{DescriptionTree}
use Rattle.lisa_tree.specs.Operations.{sections_at, behavior_in, expression_in}
use Rattle.typed_values.specs.Effects.{Locals, effects}
use Rattle.scene_paths.specs.lisa_meaning.Scenes.{Link, Scene, at_path}
use Rattle.scene_paths.specs.lisa_meaning.Moments.{Moment, bare, with_locals}
use Rattle.scene_paths.specs.lisa_meaning.Values.{expression_at}
use Rattle.scene_paths.specs.lisa_meaning.Effects.{Given, behavior_at, body, child_put, put, put_below, run_within}
use Rattle.scene_paths.specs.Paths.{first_link}
use Rattle.behavior_runs.specs.Running.{doing_within, put_below_within}

abbrev pub running_at : List Link → Option ℕ
running_at links = option_map (λ (here : Link). here.operation) (first_link links)

-- ---- what stands on a path

own_behavior : (d : DescriptionTree) (links : List Link) (o : ℕ) → running_at links ≡ Some o → behavior_at d links ≡ behavior_in (sections_at d o)
own_behavior d [] o is = absurd (cc is)
own_behavior d (here ∷ above) o is = let e : here.operation ≡ o = cc is in ap (λ (n : ℕ). behavior_in (sections_at d n)) e

own_expression : (d : DescriptionTree) (links : List Link) (o : ℕ) → running_at links ≡ Some o → expression_at d links ≡ expression_in (sections_at d o)
own_expression d [] o is = absurd (cc is)
own_expression d (here ∷ above) o is = let e : here.operation ≡ o = cc is in ap (λ (n : ℕ). expression_in (sections_at d n)) e

-- ---- behaviours

-- nothing is run on no path
pub no_path : (levels : ℕ) (d : DescriptionTree) (scene : Scene) (links : List Link) (m : Moment) → links ≡ [] → m ≡ run_within levels d (at_path scene links) m
no_path levels d scene links m none = sym (ap (λ (p : List Link). run_within levels d (at_path scene p) m) none ∙ on_none levels)
  where
    on_none : (n : ℕ) → run_within n d (at_path scene []) m ≡ m
    on_none zero = refl
    on_none (suc n) = refl

pub whole_body : (levels o : ℕ) (d : DescriptionTree) (scene : Scene) (m : Moment) (all : StmtTrees) → 0 < levels → running_at scene.path ≡ Some o → behavior_in (sections_at d o) ≡ Some all
    → run_within levels d scene m ≡ with_locals m.locals (effects (doing_within (levels - 1) d scene) all (bare m))
whole_body zero o d scene m all some at is = absurd (omega arith)
whole_body (suc n) o d scene m all some at is =
    let e : n ≡ suc n - 1 = omega arith in
    ap (λ (b : Option StmtTrees). body (doing_within n d scene) b m) (own_behavior d scene.path o at ∙ is)
    ∙ ap (λ (k : ℕ). with_locals m.locals (effects (doing_within k d scene) all (bare m))) e

-- ---- what a caller had in scope stands again

pub again : (outer inner now : Locals) (place : ℕ) (m end last : Moment) → place ≡ length outer → now ≡ outer ++ inner → m ≡ end → last ≡ with_locals (drop place now) m → last ≡ with_locals inner end
again outer inner now place m end last at is done put =
    put ∙ ap (λ (l : Locals). with_locals l m) (ap (drop place) is ∙ ap (λ (k : ℕ). drop k (outer ++ inner)) at ∙ drop-append_seam outer inner) ∙ ap (with_locals inner) done

-- ---- places of children

pub expression_put : (levels o : ℕ) (d : DescriptionTree) (scene : Scene) (links : List Link) (given : Given) (m : Moment) (e : ExprTree) → running_at links ≡ Some o → expression_in (sections_at d o) ≡ Some e
    → child_put (put_below_within levels d scene) d links given m ≡ with_locals m.locals (put_below_within levels d scene links e given (bare m))
expression_put levels o d scene links given m e at is = ap (λ (x : Option ExprTree). put_below (put_below_within levels d scene) links x given m) (own_expression d links o at ∙ is)

pub one_level : (levels : ℕ) (d : DescriptionTree) (scene : Scene) (links : List Link) (e : ExprTree) (given : Given) (m : Moment) → 0 < levels
    → put (put_below_within (levels - 1) d (at_path scene links)) d (at_path scene links) e given m ≡ put_below_within levels d scene links e given m
one_level zero d scene links e given m some = absurd (omega arith)
one_level (suc n) d scene links e given m some = let less : suc n - 1 ≡ n = omega arith in ap (λ (k : ℕ). put (put_below_within k d (at_path scene links)) d (at_path scene links) e given m) less
