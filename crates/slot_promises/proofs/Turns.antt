-- What is due past the root is due where a slot moves on, in each turn of an edge.
use Rattle.std.proofs.Common.{◌≡◌, ℕ, zero, suc, ◌<◌, Bool, true, false, cond, ◌||◌, ◌⊎◌, List, [], ◌∷◌, Option, None, Some, refl, sym, ap, ap₂, ◌∙◌, subst, inl, inr, ⊎_elim, arith, nat_eq}
use Rattle.std.specs.Prelude.{is_some}
use Rattle.std.specs.Option.{unwrap_or, option_or, option_map}
use Rattle.std.specs.List.{find, filter, fold, AllByRecursion}
use Rattle.std.proofs.lemmas.Bool.{cond_both, both_ways, eq-eqb, ne_eqb, eqb-true, and_parts, or_right}
use Rattle.pipeline_time.specs.Acts.{Node}
use Rattle.pipeline_time.specs.Cores.{Core, main_node, all_nodes, above_of, is_past, level_of_slots, slot_level}
use Rattle.pipeline_time.specs.Running.{Running, run_occurrence}
use Rattle.pipeline_time.specs.Edges.{Standing, word_in, is_free, waiting, is_due, run_due, turn, turns, start, edge}
use Rattle.pipeline_time.specs.Sound.{IsSound}
use Rattle.pipeline_time.specs.Laws.{TurnComes, at_first, further}
use Rattle.pipeline_time.proofs.Tree.{RootAbove, IsGood, whole, tree_of}
use Rattle.pipeline_time.proofs.Induct.{occurrence_tracked}
use Rattle.pipeline_time.proofs.Held.{IsDeep, all_deep}
use Rattle.pipeline_time.proofs.Turns.{slots_before}
use Rattle.slot_promises.proofs.Taken.{has_slot, FirstHas, AllHave, Takes, has_more, taken_here, all_take}

either_some : (a b : Option ℕ) → is_some (option_or a b) ≡ true → (is_some a ≡ true) ⊎ (is_some b ≡ true)
either_some None b is = inr is
either_some (Some x) b is = inl refl

some_there : (c : Bool) (o : Option ℕ) → is_some (cond c o None) ≡ true → (c ≡ true) × (is_some o ≡ true)
some_there true o is = (refl, is)
some_there false o is = absurd (both_ways false refl is)

module _ {R M : Type 0} (core : Core R M) (behind : ℕ → Bool) where
  first_found : (slot : Option ℕ) (number : ℕ) (pairs : List (ℕ × ℕ)) → AllByRecursion (FirstHas core behind slot) pairs → is_past core number ≡ true → is_some (word_in number pairs) ≡ true → (above_of core number ≡ 0) × (is_some slot ≡ true)
  first_found slot number [] each past is = absurd (both_ways false refl is)
  first_found slot number (pair ∷ pairs) each past is = of (nat_eq pair.0 number) refl (first_found slot number pairs each.1 past) is
    where
      of : (b : Bool) → nat_eq pair.0 number ≡ b → (is_some (word_in number pairs) ≡ true → (above_of core number ≡ 0) × (is_some slot ≡ true)) → is_some (option_map (λ (pair : ℕ × ℕ). pair.1) (cond b (Some pair) (find (λ (pair : ℕ × ℕ). nat_eq pair.0 number) pairs))) ≡ true → (above_of core number ≡ 0) × (is_some slot ≡ true)
      of true same rest is =
          let e = eqb-true pair.0 number same in
          subst (λ n. (above_of core n ≡ 0) × (is_some slot ≡ true)) e (each.0 (ap (is_past core) e ∙ past))
      of false other rest is = rest is

-- what the proof of an edge needs of what stands: it was activated from an earlier level, and past the root it stands with a slot
pub record IsSlotted {R M : Type 0} (core : Core R M) (behind : ℕ → Bool) (stands : Standing) : Type 0 where
  pub later : (level number : ℕ) → is_some (stands level number) ≡ true → (above_of core number < level) × (1 < level)
  pub slot : (level number : ℕ) → is_past core number ≡ true → is_some (stands level number) ≡ true → behind level ≡ true

module _ {R M : Type 0} (core : Core R M) (sound : IsSound core) (behind : ℕ → Bool) (stands : Standing) (slotted : IsSlotted core behind stands) where
  pub due_has : (level : ℕ) (now : Running M) → 0 < level → AllHave core behind now → (node : Node) → IsGood core sound.root node → is_due core (waiting core stands level now) level node ≡ true → node.past ≡ true → has_slot core behind now.slot level ≡ true
  due_has level now above have node good is past =
      ⊎_elim stood (λ first. fresh (some_there (nat_eq level 1) (word_in node.number now.first) first))
      (either_some (stands level node.number) (cond (nat_eq level 1) (word_in node.number now.first) None) both.1)
    where
      both : (nat_eq node.level level ≡ true) × (is_some (waiting core stands level now node.number) ≡ true)
      both = and_parts (nat_eq node.level level) _ is

      root : RootAbove core node.above
      root = good.past_above past (let e = eqb-true node.level level both.0 in omega (arith, e, good.within))

      past_is : is_past core node.number ≡ true
      past_is = good.past_is ∙ past

      stood : is_some (stands level node.number) ≡ true → has_slot core behind now.slot level ≡ true
      stood there =
          let l = slotted.later level node.number there in
          let b = slots_before core node.above level root (omega (arith, good.above_is, l.0)) l.1 in
          ap₂ (λ z s. cond (z || s) (is_some now.slot) (behind level)) (ne_eqb level 0 (λ e. omega arith)) (ne_eqb level (slot_level core) (λ e. omega arith))
          ∙ slotted.slot level node.number past_is there

      fresh : (nat_eq level 1 ≡ true) × (is_some (word_in node.number now.first) ≡ true) → has_slot core behind now.slot level ≡ true
      fresh first =
          let f = first_found core behind now.slot node.number now.first have.first past_is first.1 in
          let none : core.root_level ≡ Some 0 = root.is ∙ ap Some (omega (arith, root.before, good.above_is, f.0)) in
          taken_here core behind now.slot level (or_right (nat_eq level 0) _ (eq-eqb level (slot_level core) (eqb-true level 1 first.0 ∙ sym (ap level_of_slots none)))) f.1

  due_have : (level : ℕ) (words : ℕ → Option ℕ) (xs : List Node) (now : Running M) → AllByRecursion (IsDeep core sound) xs → ((node : Node) → IsGood core sound.root node → is_due core words level node ≡ true → node.past ≡ true → has_slot core behind now.slot level ≡ true) → AllHave core behind now → AllHave core behind (fold (run_due core words) now (filter (is_due core words level) xs))
  due_have level words [] now each has have = have
  due_have level words (node ∷ xs) now each has have =
      cond_both (is_due core words level node) (node ∷ filter (is_due core words level) xs) (filter (is_due core words level) xs) (λ ys. AllHave core behind (fold (run_due core words) now ys))
      (λ is.
      let at = eqb-true node.level level (and_parts (nat_eq node.level level) _ is).0 in
      let takes : Takes core behind node.level node.past (unwrap_or (words node.number) 0) now (run_due core words now node) =
      occurrence_tracked core sound.root (λ here inside word from to now after. Takes core behind here inside word now after) (all_take core behind sound) (unwrap_or (words node.number) 0) node now each.0.good each.0.tree
      in
      due_have level words xs (run_due core words now node) each.1
      (λ other good due past. has_more core behind now.slot (run_due core words now node).slot takes.kept level (has other good due past))
      (takes.all (λ past decodes. subst (λ l. has_slot core behind now.slot l ≡ true) (sym at) (has node each.0.good is past)) have))
      (λ is. due_have level words xs now each.1 has have)

  pub turn_has : (level : ℕ) (now : Running M) → 0 < level → AllHave core behind now → AllHave core behind (turn core stands level now)
  turn_has level now above have =
      let words = waiting core stands level now in
      cond_both (is_free core now level) (fold (run_due core words) now (filter (is_due core words level) (all_nodes core))) now (AllHave core behind)
      (λ free. due_have level words (all_nodes core) now (all_deep core sound 0 false 0 (whole core) (tree_of core sound)) (due_has level now above have) have)
      (λ busy. have)

  turns_have : (level : ℕ) (now : Running M) → AllHave core behind now → AllHave core behind (turns core stands level now)
  turns_have zero now have = have
  turns_have (suc level) now have = turns_have level (turn core stands (suc level) now) (turn_has (suc level) now (omega arith) have)

  main_has : (pins : List ℕ) (memory : R) → AllHave core behind (run_occurrence core 0 (main_node core) (start core pins memory))
  main_has pins memory =
      let tree = tree_of core sound in
      let takes : Takes core behind 0 false 0 (start core pins memory) (run_occurrence core 0 (main_node core) (start core pins memory)) =
      occurrence_tracked core sound.root (λ here inside word from to now after. Takes core behind here inside word now after) (all_take core behind sound) 0 (main_node core) (start core pins memory) tree.1 tree.4
      in
      takes.all (λ past decodes. absurd (both_ways false refl past)) (record { made = tt; first = tt })

  pub edge_has : (pins : List ℕ) (memory : R) → AllHave core behind (edge core stands pins memory)
  edge_has pins memory = turns_have core.stages (run_occurrence core 0 (main_node core) (start core pins memory)) (main_has pins memory)

  -- the turns of levels from the last to the first, above level 0
  pub come_has : (pins : List ℕ) (memory : R) (level : ℕ) (now : Running M) → TurnComes core stands pins memory level now → AllHave core behind now
  come_has pins memory level now at_first = main_has pins memory
  come_has pins memory level now (further before) = turn_has (suc level) _ (omega arith) (come_has pins memory (suc level) _ before)
