-- What a BEHAVIOR stalls are stages, and it leaves locals as they are.
use Rattle.std.proofs.Common.{◌≡◌, ◌<◌, ◌≤◌, ◌++◌, ◌∙◌, ℕ, zero, suc, List, [], ◌∷◌, Option, None, Some, length, refl, sym, subst, arith}
use Rattle.std.specs.Prelude.{All}
use Rattle.std.specs.List.{AllByRecursion}
use Rattle.std.proofs.lemmas.List.Elements.{All-head, All-tail}
use Rattle.lisa_tree.specs.Statements.{StmtTrees}
use Rattle.lisa_tree.specs.Descriptions.{DescriptionTree}
use Rattle.lisa_tree.specs.Resources.{stages, stage_at}
use Rattle.activation_plans.specs.description_sizes.Texts.{levels}
use Rattle.typed_values.proofs.Preserved.{Keeps, effects_kept}
use Rattle.activation_plans.specs.lisa_meaning.Scenes.{Scene, at_path, child}
use Rattle.activation_plans.specs.lisa_meaning.Moments.{Moment, with_stall, with_flush}
use Rattle.activation_plans.specs.lisa_meaning.Effects.{put_within, at_level, doing, behavior_at, body, run_within, run_behavior}
use Rattle.activation_plans.proofs.lisa_meaning_proofs.Added.{Adds, adds_none, adds_both, stall_one, flush_one, within_adds, body_adds}
use Rattle.lowered_layouts.proofs.lowered_resources_proofs.Standing.{stage_low}

module _ (d : DescriptionTree) where
  abbrev past_all : ℕ
  past_all = suc (length (stages d))

  stall_adds : (s : Option ℕ) → ((t : ℕ) → s ≡ Some t → t < length (stages d)) → (m : Moment) → Adds past_all m (at_level with_stall s m)
  stall_adds None low m = adds_none past_all m
  stall_adds (Some s) low m = stall_one past_all s m (λ some. let less = low s refl in omega (arith, less))

  flush_adds : (s : Option ℕ) → ((t : ℕ) → s ≡ Some t → t < length (stages d)) → (m : Moment) → Adds past_all m (at_level with_flush s m)
  flush_adds None low m = adds_none past_all m
  flush_adds (Some s) low m = flush_one past_all s m (λ some. let less = low s refl in omega (arith, less))

  run_adds : (more : ℕ) (scene : Scene) (m : Moment) → Adds past_all m (run_within more d scene m)
  run_adds zero scene m = adds_none past_all m
  run_adds (suc more) scene m =
      let does = doing (λ path now. run_within more d (at_path scene path) now) d scene in
      body_adds d past_all does (behavior_at d scene.path) (λ all is now. effects_kept does (Adds past_all now) (keeps (run_adds more) now) all now (adds_none past_all now)) m
    where
      keeps : ((below : Scene) (m : Moment) → Adds past_all m (run_within more d below m)) → (first : Moment) → Keeps (doing (λ path now. run_within more d (at_path scene path) now) d scene) (Adds past_all first)
      keeps calls first = record {
        put = λ target given n h. adds_both past_all first n (put_within (suc (levels d)) d scene target given n) h (within_adds past_all d (suc (levels d)) scene target given n);
        call = λ name n h. adds_both past_all first n (run_within more d (at_path scene (child d scene name)) n) h (calls (at_path scene (child d scene name)) n);
        stall = λ stage n h. adds_both past_all first n (at_level with_stall (stage_at d stage) n) h (stall_adds (stage_at d stage) (λ t e. stage_low d stage t e) n);
        flush = λ stage n h. adds_both past_all first n (at_level with_flush (stage_at d stage) n) h (flush_adds (stage_at d stage) (λ t e. stage_low d stage t e) n);
        locals = λ locals n h. h;
      }

  joined : (more before : List ℕ) → All (λ named. named < past_all) more → AllByRecursion (λ stall. stall ≤ length (stages d)) before → AllByRecursion (λ stall. stall ≤ length (stages d)) (more ++ before)
  joined [] before all rest = rest
  joined (x ∷ more) before all rest =
      (let low = All-head (λ (named : ℕ). named < past_all) x more all in omega (arith, low), joined more before (All-tail (λ (named : ℕ). named < past_all) x more all) rest)

  pub stalls_low : (scene : Scene) (m : Moment) → AllByRecursion (λ stall. stall ≤ length (stages d)) m.stalled → AllByRecursion (λ stall. stall ≤ length (stages d)) (run_behavior d scene m).stalled
  stalls_low scene m all =
      let added = (run_adds (levels d) scene m).0 in
      subst (λ (l : List ℕ). AllByRecursion (λ stall. stall ≤ length (stages d)) l) (sym added.is_added) (joined added.more m.stalled (added.are_earlier (omega arith)) all)

  -- ---- locals

  body_locals : (more : ℕ) (scene : Scene) (o : Option StmtTrees) (m : Moment) → (body (doing (λ path now. run_within more d (at_path scene path) now) d scene) o m).locals ≡ m.locals
  body_locals more scene None m = refl
  body_locals more scene (Some all) m = refl

  within_locals : (more : ℕ) (scene : Scene) (m : Moment) → (run_within more d scene m).locals ≡ m.locals
  within_locals zero scene m = refl
  within_locals (suc more) scene m = body_locals more scene (behavior_at d scene.path) m

  pub same_locals : (scene : Scene) (m : Moment) → (run_behavior d scene m).locals ≡ m.locals
  same_locals scene m = within_locals (levels d) scene m
