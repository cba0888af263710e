-- Behaviours stall and flush only stages before the one in which they run.
use Rattle.std.proofs.Common.{◌≡◌, ◌<◌, ◌≤◌, ◌∙◌, ℕ, zero, suc, true, List, [], ◌∷◌, Option, None, Some, refl, sym, ap, subst, arith, ⊎_elim}
use Rattle.std.specs.Prelude.{slice_get}
use Rattle.std.specs.Option.{option_or}
use Rattle.std.proofs.lemmas.Bool.{cond_both}
use Rattle.std.proofs.lemmas.Option.{same_Some}
use Rattle.lisa_tree.specs.Descriptions.{DescriptionTree}
use Rattle.use_promises.specs.description_places.declared.sites.Region.TheVariants as regions
use Rattle.use_promises.specs.description_places.Scopes.{Scope}
use Rattle.use_promises.specs.description_places.Places.{at}
use Rattle.lisa_tree.specs.Resources.{stage_at}
use Rattle.lisa_tree.specs.Operations.{number_of, own_stage, sections_at, behavior_in}
use Rattle.graph_paths.specs.Paths.{is_in}
use Rattle.use_promises.specs.stage_checks.Controls.{main_name}
use Rattle.use_promises.specs.lisa_machine.Running.{FitsControl}
use Rattle.use_promises.specs.lisa_machine.Soundness.{IsSound}
use Rattle.use_promises.proofs.lisa_machine_proofs.Forward.{stall_fits, flush_fits}
use Rattle.use_promises.proofs.lisa_machine_proofs.Standing.{behavior_stand}
use Rattle.lisa_forms.specs.description_sizes.Texts.{levels}
use Rattle.lisa_forms.specs.meant_declarations.Meant as meant
use Rattle.use_promises.specs.Using.{RunsInPlace, IsCallable}
use Rattle.use_promises.proofs.Used.{call_fits}
use Rattle.lisa_forms.specs.activation_trees.declared.parts.Occurrence.{Occurrence}
use Rattle.lisa_forms.specs.activation_trees.Starting.{plain_named}
use Rattle.lisa_forms.specs.activation_trees.Unfolding.{occurrences}
use Rattle.lisa_forms.specs.activation_trees.Activators.{IsChild, IsMain, HasActivator}
use Rattle.lisa_forms.proofs.activation_trees_proofs.Lying.{has_activator}
use Rattle.lisa_forms.specs.instruction_forms.Trees.{FormTree}
use Rattle.lisa_meaning.specs.Scenes.{Link, Scene, at_path, instruction_with, line, occurrence_link, scene_by, has_word, scene_with, scene_of}
use Rattle.lisa_meaning.specs.Scenes as scenes
use Rattle.lisa_meaning.specs.Moments.{Moment, with_stall, with_flush}
use Rattle.lisa_meaning.specs.Effects.{put_within, at_level, doing, run_within, run_behavior}
use Rattle.lisa_meaning.specs.Trees.{level_of_stage}
use Rattle.lisa_meaning.specs.Cores.{behave}
use Rattle.lisa_meaning.specs.Laws.{ControlsGoBack}
use Rattle.lisa_meaning.proofs.Above.{named_by}
use Rattle.lisa_meaning.proofs.Added.{Adds, adds_none, adds_both, stall_one, flush_one, within_adds, body_adds, behave_adds}
use Rattle.lisa_meaning.proofs.Paths.{IsPath, Home, home_of, each_child, not_main, named_main, line_of}
use Rattle.lisa_meaning.proofs.Walks.{KeepsStanding, effects_kept}

module _ (d : DescriptionTree) (s : IsSound d) (level : ℕ) where
  -- an operation that isn't `main`, and whose own stage, if it has one, is of no later level
  record IsSettled (o : ℕ) : Type 0 where
    pub not_main : number_of d main_name ≡ Some o → ⊥
    pub no_later : (own : ℕ) → own_stage d o ≡ Some own → suc own ≤ level

  abbrev AreSettled : List Link → Type 0
  AreSettled [] = Unit {0}
  AreSettled (here ∷ above) = IsPath d (here ∷ above) × IsSettled here.operation

  -- ---- what stands in a BEHAVIOR

  earlier : (o : ℕ) (pipe stage : List ℕ) → IsSettled o → (c : FitsControl d o pipe stage) → suc c.number < level
  earlier o pipe stage settled c = ⊎_elim
      (λ main. absurd (settled.not_main (named_main d s o main)))
      (λ own. let l = settled.no_later own.0 own.1 in let b = own.2 in omega (arith, l, b))
      c.controller

  stalls : (o : ℕ) (scope : Scope) (pipe stage : List ℕ) (m : Moment) → IsSettled o → FitsControl d o pipe stage → Adds level m (at_level with_stall (stage_at d stage) m)
  stalls o scope pipe stage m settled c = subst (λ (t : Option ℕ). Adds level m (at_level with_stall t m)) (sym c.is) (stall_one level c.number m (λ some. earlier o pipe stage settled c))

  flushes : (o : ℕ) (scope : Scope) (pipe stage : List ℕ) (m : Moment) → IsSettled o → FitsControl d o pipe stage → Adds level m (at_level with_flush (stage_at d stage) m)
  flushes o scope pipe stage m settled c = subst (λ (t : Option ℕ). Adds level m (at_level with_flush t m)) (sym c.is) (flush_one level c.number m (λ some. earlier o pipe stage settled c))

  -- what is called stands below what declares it, and has no stage of its own
  called : (form : Option FormTree) (n : List ℕ) (scope : Scope) (here : Link) (above : List Link) → IsPath d (here ∷ above) → IsCallable d here.operation scope n
      → AreSettled (scenes.child_at_home d form n (scenes.home d n (here ∷ above)))
  called form n scope here above path c =
      let h = home_of d s n here above c.number path c.declared in
      each_child d s AreSettled n (here ∷ above) c.number form h tt (λ l listed. (((n, listed), h.path_is), settled h l listed))
    where
      settled : (h : Home d s n (here ∷ above) c.number) (l : Link) → is_in l.operation (plain_named d h.here.operation n) ≡ true → IsSettled l.operation
      settled h l listed =
          let b = named_by d h.here.operation n l.operation listed in
          let same : h.number ≡ b.number = same_Some h.number b.number (sym h.declared ∙ b.declared) in
          let runs : RunsInPlace d l.operation =
          (c.run b.number b.choice b.entry (subst (λ (j : ℕ). meant.MayMean d c.number j) same h.means) b.is b.chooses).operations l.operation b.plain
          in
          record {
            not_main = not_main d s l h.here h.above ((n, listed), h.path_is);
            no_later = λ own is. absurd (cc (sym runs.no_stage ∙ is));
          }

  -- ---- behaviours

  module _ (form : Option FormTree) (word : ℕ) where
    abbrev On : List Link → Scene
    On path = record { path = path; form = form; word = word }

    keeps : (more : ℕ) → ((path : List Link) (m : Moment) → AreSettled path → Adds level m (run_within more d (On path) m)) → (here : Link) (above : List Link) → AreSettled (here ∷ above) → (first : Moment)
        → KeepsStanding d here.operation (doing (λ path now. run_within more d (at_path (On (here ∷ above)) path) now) d (On (here ∷ above))) (Adds level first)
    keeps more below here above settled first = record {
      put = λ target given n h. adds_both level first n (put_within (suc (levels d)) d (On (here ∷ above)) target given n) h (within_adds level d (suc (levels d)) (On (here ∷ above)) target given n);
      call = λ scope name n stands h.
          let path = scenes.child d (On (here ∷ above)) name in
          adds_both level first n (run_within more d (On path) n) h
          (below path n (called form name scope here above settled.0 (call_fits d s.known s.kinds s.names s.stand s.uses here.operation regions.Behavior scope name stands)));
      stall = λ scope pipe stage n stands h.
          adds_both level first n (at_level with_stall (stage_at d stage) n) h
          (stalls here.operation scope pipe stage n settled.1 (stall_fits d s.stand s.controls here.operation regions.Behavior scope pipe stage stands));
      flush = λ scope pipe stage n stands h.
          adds_both level first n (at_level with_flush (stage_at d stage) n) h
          (flushes here.operation scope pipe stage n settled.1 (flush_fits d s.stand s.controls here.operation regions.Behavior scope pipe stage stands));
      locals = λ locals n h. h;
    }

    runs_back : (more : ℕ) (path : List Link) (m : Moment) → AreSettled path → Adds level m (run_within more d (On path) m)
    runs_back zero path m settled = adds_none level m
    runs_back (suc more) [] m settled = adds_none level m
    runs_back (suc more) (here ∷ above) m settled =
        let does = doing (λ path now. run_within more d (at_path (On (here ∷ above)) path) now) d (On (here ∷ above)) in
        body_adds d level does (behavior_in (sections_at d here.operation))
        (λ all is now. effects_kept d here.operation does (Adds level now) (keeps more (runs_back more) here above settled now) [] all now (behavior_stand d here.operation all is) (adds_none level now))
        m

-- ---- all occurrences

module _ (d : DescriptionTree) (s : IsSound d) where
  abbrev Back : ℕ → Moment → Scene → Type 0
  Back level m scene = Adds level m (run_behavior d scene m)

  on_line : (k t w : ℕ) (x : Occurrence) (m : Moment) → slice_get (occurrences d) k ≡ Some x → x.stage ≡ Some t → ((own : ℕ) → own_stage d x.operation ≡ Some own → suc own ≤ suc t) → (form : Option FormTree)
      → Back (suc t) m (scene_by d form w k)
  on_line k t w x m at staged no_later form =
      let l = line_of d s form (suc k) k x (omega arith) at in
      let long = l.staged t staged in
      let path : IsPath d (l.here ∷ long.0 ∷ long.1.0) = subst (λ (up : List Link). IsPath d (l.here ∷ up)) long.1.1 l.path_is in
      let settled : AreSettled d s (suc t) (l.here ∷ l.above) =
      (l.path_is, record { not_main = not_main d s l.here long.0 long.1.0 path; no_later = λ own is. no_later own (sym (ap (own_stage d) l.operation) ∙ is) })
      in
      subst (λ (p : List Link). Back (suc t) m (record { path = p; form = form; word = w })) (sym l.is) (runs_back d s (suc t) form w (levels d) (l.here ∷ l.above) m settled)

  staged_low : (k t : ℕ) (x : Occurrence) → slice_get (occurrences d) k ≡ Some x → x.stage ≡ Some t → (own : ℕ) → own_stage d x.operation ≡ Some own → suc own ≤ suc t
  staged_low k t x at staged own is = by x.parent refl (has_activator d k x at)
    where
      low : (from : Option ℕ) → x.stage ≡ option_or (own_stage d x.operation) from → suc own ≤ suc t
      low from e =
          let same : Some own ≡ Some t = sym (ap (λ (r : Option ℕ). option_or r from) is) ∙ sym e ∙ staged in
          let n = same_Some own t same in
          omega (arith, n)

      by : (p : Option ℕ) → x.parent ≡ p → HasActivator d k x x.parent → suc own ≤ suc t
      by None e h =
          let m : IsMain d k x = subst (HasActivator d k x) e h in
          let operation : x.operation ≡ m.number = ap (λ (z : Occurrence). z.operation) m.is in
          low None (ap (λ (z : Occurrence). z.stage) m.is ∙ ap (λ (o : ℕ). option_or (own_stage d o) None) (sym operation))
      by (Some p) e h =
          let c : IsChild d k x p = subst (HasActivator d k x) e h in
          let operation : x.operation ≡ c.by_item.operation = ap (λ (z : Occurrence). z.operation) c.is in
          low c.activator.stage (ap (λ (z : Occurrence). z.stage) c.is ∙ ap (λ (o : ℕ). option_or (own_stage d o) c.activator.stage) (sym operation))

  back_at : (k w : ℕ) (x : Occurrence) (m : Moment) → slice_get (occurrences d) k ≡ Some x → Adds (level_of_stage x.stage) m (behave d k w m)
  back_at k w x m at = by x.stage refl
    where
      by : (stage : Option ℕ) → x.stage ≡ stage → Adds (level_of_stage stage) m (behave d k w m)
      by None e = behave_adds d k w m
      by (Some t) e =
          let each = on_line k t in
          let low = staged_low k t x at e in
          subst (λ (r : Option Occurrence). Back (suc t) m (scene_with d k w r)) (sym at)
          (cond_both (has_word d x) (scene_by d (instruction_with d w) w k) (scene_by d None 0 k) (Back (suc t) m) (λ is. each w x m at e low (instruction_with d w)) (λ not'. each 0 x m at e low None))

  pub controls_back : ControlsGoBack d
  controls_back k x at = record { stalls = λ w m. (back_at k w x m at).0; flushes = λ w m. (back_at k w x m at).1 }
