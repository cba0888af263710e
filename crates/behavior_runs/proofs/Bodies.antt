-- A body between entering and leaving it, and what a child's name leads to.
use Rattle.std.proofs.Common.{◌≡◌, ℕ, ◌-◌, ◌<◌, List, [], ◌++◌, Option, Some, None, length, drop, refl, ap, sym, ◌∙◌}
use Rattle.lisa_tree.specs.Expressions.{ExprTree}
use Rattle.lisa_tree.specs.Statements.{StmtTrees}
use Rattle.lisa_tree.specs.Descriptions.{DescriptionTree}
use Rattle.moment_stores.specs.instruction_forms.Trees.{FormTree}
use Rattle.lisa_tree.specs.Operations.{sections_at, behavior_in, expression_in}
use Rattle.typed_values.specs.Effects.{Locals, effects}
use Rattle.scene_paths.specs.lisa_meaning.Scenes.{Link, Scene, at_path, home, child_at_home}
use Rattle.scene_paths.specs.lisa_meaning.Moments.{Moment, bare, with_locals}
use Rattle.scene_paths.specs.lisa_meaning.Effects.{Given, child_put, put, run_within}
use Rattle.behavior_runs.specs.Running.{doing_within, put_below_within}
use Rattle.behavior_runs.proofs.Steps.{running_at, no_path, whole_body, again, expression_put, one_level}

-- ---- a body, with the locals of its caller out of scope

module _ (place : ℕ) (outer first second : Locals) (m entered done end : Moment) (at : place ≡ length outer) (bares : entered ≡ bare m) (out : first ≡ outer ++ m.locals) (same : second ≡ first) (put_back : end ≡ with_locals (drop place second) done) where
  pub whole_run : (levels o : ℕ) (d : DescriptionTree) (scene : Scene) (all : StmtTrees) → done ≡ effects (doing_within (levels - 1) d scene) all entered → 0 < levels → running_at scene.path ≡ Some o → behavior_in (sections_at d o) ≡ Some all → end ≡ run_within levels d scene m
  whole_run levels o d scene all run some is has =
      again outer m.locals second place done (effects (doing_within (levels - 1) d scene) all (bare m)) end at (same ∙ out) (run ∙ ap (effects (doing_within (levels - 1) d scene) all) bares) put_back
      ∙ sym (whole_body levels o d scene m all some is has)

  pub child_run : (levels o : ℕ) (d : DescriptionTree) (scene : Scene) (links : List Link) (e : ExprTree) (given : Given) → done ≡ put (put_below_within (levels - 1) d (at_path scene links)) d (at_path scene links) e given entered → 0 < levels → running_at links ≡ Some o → expression_in (sections_at d o) ≡ Some e
      → end ≡ child_put (put_below_within levels d scene) d links given m
  child_run levels o d scene links e given run some is has =
      again outer m.locals second place done (put (put_below_within (levels - 1) d (at_path scene links)) d (at_path scene links) e given (bare m)) end at (same ∙ out) (run ∙ ap (put (put_below_within (levels - 1) d (at_path scene links)) d (at_path scene links) e given) bares) put_back
      ∙ ap (with_locals m.locals) (one_level levels d scene links e given (bare m) some)
      ∙ sym (expression_put levels o d scene links given m e is has)

-- ---- what a child's name leads to

pub none_of : {A : Type 0} (found : Option A) → ((x : A) → found ≡ Some x → ⊥) → found ≡ None
none_of None never = refl
none_of (Some x) never = absurd (never x refl)

module _ (d : DescriptionTree) (form : Option FormTree) (n : List ℕ) (path : List Link) where
  pub led : (found below : List Link) → found ≡ home d n path → below ≡ child_at_home d form n found → below ≡ child_at_home d form n (home d n path)
  led found below first second = second ∙ ap (child_at_home d form n) first

  pub no_child_run : (found : List Link) (levels : ℕ) (scene : Scene) (m : Moment) → found ≡ home d n path → [] ≡ child_at_home d form n found → m ≡ run_within levels d (at_path scene (child_at_home d form n (home d n path))) m
  no_child_run found levels scene m first second = no_path levels d scene (child_at_home d form n (home d n path)) m (sym (led found [] first second))
