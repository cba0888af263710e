-- The conditions 6 to 18 have a first fault, or are all kept.
use Rattle.std.proofs.Common.{◌≡◌, ◌↔◌, ◌⊎◌, ◌≤◌, ◌<◌, ℕ, Bool, true, false, Option, None, Some, cond, length, refl, sym, ◌∙◌, subst, inl, inr, ⊎_elim}
use Rattle.std.specs.Option.{option_or}
use Rattle.std.proofs.lemmas.Bool.{cases_lt}
use Rattle.lisa_tree.specs.declared.faults.DescFault.{DescFault}
use Rattle.lisa_tree.specs.declared.faults.DescFault.TheVariants as faults
use Rattle.lisa_tree.specs.Descriptions.{DescriptionTree}
use Rattle.lisa_tree.specs.Operations.{own_stage}
use Rattle.lisa_tree.specs.Resources.{stages}
use Rattle.lisa_tree.specs.Paths.{Node, Operation, Choosing, Declaring, leads}
use Rattle.description_places.specs.Places.{Condition, first, description_places}
use Rattle.description_graph.specs.Circles.{Reaches, edge, more, IsFirstCircularOperation}
use Rattle.description_graph.proofs.Numbered.{each_owner, each_reference}
use Rattle.description_types.specs.Tables.{Known, AreKinds}
use Rattle.name_checks.specs.Doubled.{duplicate}
use Rattle.name_checks.specs.Unknown.{unknown}
use Rattle.shape_checks.specs.Shapes.{bad_width, bad_depth, without_bound, too_long}
use Rattle.kind_checks.specs.WrongKinds.{wrong_kind, IsFirstWrongKind}
use Rattle.kind_checks.specs.Narrowings.{narrowing, IsFirstNarrowing}
use Rattle.stage_checks.specs.Controls.{control}
use Rattle.stage_checks.specs.Resets.{bad_reset}
use Rattle.stage_checks.specs.Running.{RunsIn, begins, goes, IsLatest}
use Rattle.stage_checks.specs.Backward.{backward, bad_main, IsBackwardVerdict}
use Rattle.stage_checks.proofs.Nodes.{own_within}
use Rattle.lisa_machine.specs.Verdicts.{before, nothing, at_places, circular, IsCircleVerdict, IsBadMainVerdict, conditions}
use Rattle.verdict_promises.proofs.Undenied.{Undenied, surely, then, chosen, marked, IsFirstBad, least, IsGreatest, greatest}
use Rattle.verdict_promises.proofs.SettledTables.{some_kinds}

-- a verdict says something
abbrev pub IsGiven : (Option DescFault → Type 0) → Type 0
IsGiven verdict = Undenied ((found : Option DescFault) × verdict found)

pub before_given : (verdict rest : Option DescFault → Type 0) → IsGiven verdict → (verdict None → IsGiven rest) → IsGiven (before verdict rest)
before_given verdict rest one others = then one (λ (x : (found : Option DescFault) × verdict found). by x.0 x.1)
  where
    by : (found : Option DescFault) → verdict found → IsGiven (before verdict rest)
    by None v = then (others v) (λ (r : (found : Option DescFault) × rest found). surely (r.0, inr (v, r.1)))
    by (Some f) v = surely (Some f, inl (record { fault = f; is = refl; first_fault = v }))

pub nothing_given : IsGiven nothing
nothing_given = surely (None, refl)

pub places_given : (d : DescriptionTree) (breaks : Condition DescFault) → IsGiven (at_places d breaks)
places_given d breaks = surely (first breaks (description_places d), refl)

module _ (d : DescriptionTree) where
  -- ---- kinds

  wrong_kinds : IsGiven (IsFirstWrongKind d)
  wrong_kinds = then (some_kinds d) (λ (k : (known : Known) × AreKinds d known). surely (first (wrong_kind k.0 d) (description_places d), record { known = k.0; kinds = k.1; is = refl }))

  narrowings : IsGiven (IsFirstNarrowing d)
  narrowings = then (some_kinds d) (λ (k : (known : Known) × AreKinds d known). surely (first (narrowing k.0 d) (description_places d), record { known = k.0; kinds = k.1; is = refl }))

  -- ---- circles

  abbrev Circles : ℕ → Type 0
  Circles o = Reaches d (Operation o) (Operation o)

  leads_nowhere : (o : ℕ) → length d.operations ≤ o → (y : Node) → leads d (Operation o) y ≡ true → ⊥
  leads_nowhere o h (Operation p) e = cc e
  leads_nowhere o h (Choosing c) e = let f = each_owner d o c h in cc (sym e ∙ f)
  leads_nowhere o h (Declaring i) e = let f = each_reference d o i h in cc (sym e ∙ f)

  nowhere : (o : ℕ) → length d.operations ≤ o → (x y : Node) → x ≡ Operation o → Reaches d x y → ⊥
  nowhere o h x y is (edge l) = leads_nowhere o h y (subst (λ (z : Node). leads d z y ≡ true) is l)
  nowhere o h x y is (more {b = b} r l) = nowhere o h x b is r

  no_circle : ((o : ℕ) → o < length d.operations → Circles o → ⊥) → IsFirstCircularOperation d None
  no_circle none o r = ⊎_elim (λ (l : o < length d.operations). none o l r) (λ (h : length d.operations ≤ o). nowhere o h (Operation o) (Operation o) refl r) (cases_lt o (length d.operations))

  circles : IsGiven (IsCircleVerdict d)
  circles = then (least Circles (length d.operations)) by
    where
      by : ((o : ℕ) → o < length d.operations → Circles o → ⊥) ⊎ ((o : ℕ) × IsFirstBad (λ p. Circles p → ⊥) Circles (length d.operations) o) → IsGiven (IsCircleVerdict d)
      by (inl none) = surely (None, record { circle = None; first_circle = no_circle none; is = refl })
      by (inr f) = surely (Some (circular d f.0), record { circle = Some f.0; first_circle = (f.1.within, f.1.bad, f.1.good); is = refl })

  -- ---- stages

  stage_of : (o t : ℕ) (s u : Option ℕ) → option_or (own_stage d o) u ≡ s → s ≡ Some t → (u ≡ Some t → t < length (stages d)) → t < length (stages d)
  stage_of o t s u own e earlier = by (own_stage d o) refl
    where
      by : (x : Option ℕ) → own_stage d o ≡ x → t < length (stages d)
      by None is = earlier (subst (λ (y : Option ℕ). option_or y u ≡ s) is own ∙ e)
      by (Some v) is = own_within d o t (is ∙ subst (λ (y : Option ℕ). option_or y u ≡ s) is own ∙ e)

  stage_within : (o t : ℕ) (s : Option ℕ) → s ≡ Some t → RunsIn d o s → t < length (stages d)
  stage_within o t s e (begins is own) = own_within d o t (own ∙ e)
  stage_within o t s e (goes {p = p} {s = u} r act own) = stage_of o t s u own e (λ same. stage_within p t u same r)

  latest : (o : ℕ) → Undenied ((x : Option ℕ) × IsLatest d o x)
  latest o = then (greatest (λ t. RunsIn d o (Some t)) (length (stages d)) (λ t r. stage_within o t (Some t) refl r)) by
    where
      by : ((t : ℕ) → RunsIn d o (Some t) → ⊥) ⊎ ((t : ℕ) × IsGreatest (λ u. RunsIn d o (Some u)) t) → Undenied ((x : Option ℕ) × IsLatest d o x)
      by (inl none) = surely (None, none)
      by (inr g) = surely (Some g.0, (g.1.has, g.1.last))

  backwards : IsGiven (IsBackwardVerdict d)
  backwards =
      then (chosen (IsLatest d) None (length d.operations) (λ o h. latest o)) (λ (l : (f : ℕ → Option ℕ) × ((o : ℕ) → o < length d.operations → IsLatest d o (f o))).
      surely (first (backward d l.0) (description_places d), record { latest = l.0; are_latest = l.1; first_fault = refl }))

  mains : IsGiven (IsBadMainVerdict d)
  mains =
      then (chosen (λ o b. (b ≡ true) ↔ RunsIn d o None) false (length d.operations) (λ o h. marked (RunsIn d o None))) (λ (f : (f : ℕ → Bool) × ((o : ℕ) → o < length d.operations → (f o ≡ true) ↔ RunsIn d o None)).
      surely (cond (bad_main d f.0) (Some faults.BadMain) None, record { bad = bad_main d f.0; main = record { free = f.0; are_free = f.1; verdict = refl }; is = refl }))

  -- ---- all of them

  pub conditions_given : IsGiven (conditions d)
  conditions_given =
      let resets = before_given _ _ (places_given d (bad_reset d)) (λ _. nothing_given) in
      let from_mains = before_given _ _ mains (λ _. resets) in
      let controls = before_given _ _ (places_given d (control d)) (λ _. from_mains) in
      let from_backwards = before_given _ _ backwards (λ _. controls) in
      let from_circles = before_given _ _ circles (λ _. from_backwards) in
      let long_loops = before_given _ _ (places_given d (too_long d)) (λ _. from_circles) in
      let loops = before_given _ _ (places_given d (without_bound d)) (λ _. long_loops) in
      let from_narrowings = before_given _ _ narrowings (λ _. loops) in
      let depths = before_given _ _ (places_given d bad_depth) (λ _. from_narrowings) in
      let widths = before_given _ _ (places_given d bad_width) (λ _. depths) in
      let kinds = before_given _ _ wrong_kinds (λ _. widths) in
      let unknowns = before_given _ _ (places_given d (unknown d)) (λ _. kinds) in
      before_given _ _ (places_given d (duplicate d)) (λ _. unknowns)
