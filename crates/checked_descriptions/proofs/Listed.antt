-- The list of conditions, and the same conditions each with those behind it.
use Rattle.std.proofs.Common.{◌≡◌, ◌⊎◌, List, [], ◌∷◌, ◌++◌, None, Some, refl, sym, subst, inl, inr, ⊎_elim}
use Rattle.std.proofs.lemmas.Option.{same_Some}
use Rattle.lisa_tree.specs.declared.faults.DescFault.{DescFault}
use Rattle.lisa_tree.specs.Descriptions.{DescriptionTree}
use Rattle.name_checks.specs.Doubled.{duplicate}
use Rattle.name_checks.specs.Unknown.{unknown}
use Rattle.shape_checks.specs.Shapes.{bad_width, bad_depth, without_bound, too_long}
use Rattle.lisa_syntax.specs.kind_checks.WrongKinds.{IsFirstWrongKind}
use Rattle.lisa_syntax.specs.kind_checks.Narrowings.{IsFirstNarrowing}
use Rattle.stage_checks.specs.Controls.{control}
use Rattle.stage_checks.specs.Resets.{bad_reset}
use Rattle.stage_checks.specs.Backward.{IsBackwardVerdict}
use Rattle.lisa_syntax.specs.coding_checks.Uneven.{IsFirstGroupWidth}
use Rattle.lisa_syntax.specs.coding_checks.Written.{not_written}
use Rattle.lisa_syntax.specs.lisa_machine.Verdicts.{Verdict, before, nothing, at_places, IsCircleVerdict, IsBadMainVerdict, IsAccepted, IsFirstFault}
use Rattle.lisa_syntax.specs.lisa_forms.Verdicts.{IsRootVerdict, IsSizeVerdict, IsTextVerdict, HasForms, IsFirstFormFault}
use Rattle.lisa_syntax.specs.lisa_forms.Coverage.{IsOverlapVerdict, IsUncoveredVerdict}
use Rattle.lisa_syntax.proofs.lisa_forms_proofs.Walking.{here, past}
use Rattle.lisa_syntax.specs.Texts.{IsAmbiguityVerdict}
use Rattle.checked_descriptions.specs.Conditions.{Condition, condition, AreKept, IsFirstOf, IsSound, IsFirstOfAll}
use Rattle.checked_descriptions.specs.Instructions.{from_overlaps, HasInstructions, IsFirstInstructionFault}

-- ---- any conditions

none_is_no_some : (f : DescFault) → None ≡ Some f → ⊥
none_is_no_some f e = cc

-- each with those behind it
abbrev pub chain : List Condition → DescriptionTree → Verdict
chain [] d = nothing
chain (c ∷ rest) d = before (c.verdict d) (chain rest d)

kept_chain : (cs : List Condition) (d : DescriptionTree) → AreKept cs d → chain cs d None
kept_chain [] d kept = refl
kept_chain (c ∷ rest) d kept = past (c.verdict d) (chain rest d) None kept.0 (kept_chain rest d kept.1)

chain_kept : (cs : List Condition) (d : DescriptionTree) → chain cs d None → AreKept cs d
chain_kept [] d kept = tt
chain_kept (c ∷ rest) d kept = ⊎_elim (λ p. absurd (none_is_no_some p.fault p.is)) (λ q. (q.0, chain_kept rest d q.1)) kept

first_chain : (cs : List Condition) (d : DescriptionTree) (f : DescFault) → IsFirstOf cs d f → chain cs d (Some f)
first_chain [] d f broken = absurd broken
first_chain (c ∷ rest) d f broken =
    ⊎_elim (λ v. here (c.verdict d) (chain rest d) f v) (λ q. past (c.verdict d) (chain rest d) (Some f) q.0 (first_chain rest d f q.1)) broken

chain_first : (cs : List Condition) (d : DescriptionTree) (f : DescFault) → chain cs d (Some f) → IsFirstOf cs d f
chain_first [] d f broken = absurd (none_is_no_some f (sym broken))
chain_first (c ∷ rest) d f broken = ⊎_elim
    (λ p. inl (subst (λ (g : DescFault). c.verdict d (Some g)) (sym (same_Some f p.fault p.is)) p.first_fault))
    (λ q. inr (q.0, chain_first rest d f q.1)) broken

-- some conditions, and then others
kept_both : (xs ys : List Condition) (d : DescriptionTree) → AreKept (xs ++ ys) d → AreKept xs d × AreKept ys d
kept_both [] ys d kept = (tt, kept)
kept_both (c ∷ xs) ys d kept = let rest = kept_both xs ys d kept.1 in ((kept.0, rest.0), rest.1)

both_kept : (xs ys : List Condition) (d : DescriptionTree) → AreKept xs d → AreKept ys d → AreKept (xs ++ ys) d
both_kept [] ys d one two = two
both_kept (c ∷ xs) ys d one two = (one.0, both_kept xs ys d one.1 two)

first_either : (xs ys : List Condition) (d : DescriptionTree) (f : DescFault) → IsFirstOf (xs ++ ys) d f → IsFirstOf xs d f ⊎ (AreKept xs d × IsFirstOf ys d f)
first_either [] ys d f broken = inr (tt, broken)
first_either (c ∷ xs) ys d f broken = ⊎_elim
    (λ v. inl (inl v))
    (λ q. ⊎_elim (λ x. inl (inr (q.0, x))) (λ y. inr ((q.0, y.0), y.1)) (first_either xs ys d f q.1)) broken

either_first : (xs ys : List Condition) (d : DescriptionTree) (f : DescFault) → IsFirstOf xs d f ⊎ (AreKept xs d × IsFirstOf ys d f) → IsFirstOf (xs ++ ys) d f
either_first [] ys d f broken = ⊎_elim (λ x. absurd x) (λ y. y.1) broken
either_first (c ∷ xs) ys d f broken = ⊎_elim
    (λ x. ⊎_elim (λ v. inl v) (λ q. inr (q.0, either_first xs ys d f (inl q.1))) x)
    (λ y. inr (y.0.0, either_first xs ys d f (inr (y.0.1, y.1)))) broken

-- ---- the conditions on the machine, on forms, and on words, texts and aliases

abbrev machine_conditions : List Condition
machine_conditions =
    condition 6 (λ d. at_places d (duplicate d)) ∷ condition 7 (λ d. at_places d (unknown d)) ∷ condition 8 IsFirstWrongKind
    ∷ condition 9 (λ d. at_places d bad_width) ∷ condition 10 (λ d. at_places d bad_depth) ∷ condition 11 IsFirstNarrowing
    ∷ condition 12 (λ d. at_places d (without_bound d)) ∷ condition 13 (λ d. at_places d (too_long d)) ∷ condition 14 IsCircleVerdict
    ∷ condition 15 IsBackwardVerdict ∷ condition 16 (λ d. at_places d (control d)) ∷ condition 17 IsBadMainVerdict
    ∷ condition 18 (λ d. at_places d (bad_reset d)) ∷ []

abbrev form_conditions : List Condition
form_conditions =
    condition 19 IsFirstGroupWidth ∷ condition 20 (λ d. at_places d (not_written d)) ∷ condition 21 IsRootVerdict
    ∷ condition 22 IsSizeVerdict ∷ condition 23 IsTextVerdict ∷ []

abbrev coded_conditions : List Condition
coded_conditions = condition 24 IsOverlapVerdict ∷ condition 25 IsAmbiguityVerdict ∷ condition 26 IsUncoveredVerdict ∷ []

abbrev instruction_conditions : List Condition
instruction_conditions = form_conditions ++ coded_conditions

-- they are these, one after another
module _ (d : DescriptionTree) where
  pub sound_parts : IsSound d → IsAccepted d × HasInstructions d
  sound_parts sound =
      let both = kept_both machine_conditions instruction_conditions d sound in
      let rest = kept_both form_conditions coded_conditions d both.1 in
      (kept_chain machine_conditions d both.0, (kept_chain form_conditions d rest.0, kept_chain coded_conditions d rest.1))

  pub parts_sound : IsAccepted d × HasInstructions d → IsSound d
  parts_sound parts =
      both_kept machine_conditions instruction_conditions d (chain_kept machine_conditions d parts.0)
      (both_kept form_conditions coded_conditions d (chain_kept form_conditions d parts.1.0) (chain_kept coded_conditions d parts.1.1))

  instruction_parts : (f : DescFault) → IsFirstOf instruction_conditions d f → IsFirstInstructionFault d f
  instruction_parts f broken = ⊎_elim
      (λ x. inl (first_chain form_conditions d f x)) (λ y. inr (kept_chain form_conditions d y.0, first_chain coded_conditions d f y.1))
      (first_either form_conditions coded_conditions d f broken)

  parts_instruction : (f : DescFault) → IsFirstInstructionFault d f → IsFirstOf instruction_conditions d f
  parts_instruction f broken = either_first form_conditions coded_conditions d f (⊎_elim
      (λ (x : IsFirstFormFault d f). inl (chain_first form_conditions d f x))
      (λ (y : HasForms d × from_overlaps d (Some f)). inr (chain_kept form_conditions d y.0, chain_first coded_conditions d f y.1)) broken)

  pub first_parts : (f : DescFault) → IsFirstOfAll d f → IsFirstFault d f ⊎ (IsAccepted d × IsFirstInstructionFault d f)
  first_parts f broken = ⊎_elim
      (λ x. inl (first_chain machine_conditions d f x)) (λ y. inr (kept_chain machine_conditions d y.0, instruction_parts f y.1))
      (first_either machine_conditions instruction_conditions d f broken)

  pub parts_first : (f : DescFault) → IsFirstFault d f ⊎ (IsAccepted d × IsFirstInstructionFault d f) → IsFirstOfAll d f
  parts_first f broken = either_first machine_conditions instruction_conditions d f (⊎_elim
      (λ (x : IsFirstFault d f). inl (chain_first machine_conditions d f x))
      (λ (y : IsAccepted d × IsFirstInstructionFault d f). inr (chain_kept machine_conditions d y.0, parts_instruction f y.1)) broken)
