-- The held stages are the first ones, and each stall and flush of a stage is issued before its turn.
use Rattle.std.proofs.Common.{◌≡◌, ℕ, zero, suc, ◌<◌, ◌≤◌, Bool, true, false, ◌||◌, List, [], ◌∷◌, Option, refl, sym, ap, ◌∙◌, subst, ⊎_elim, arith, nat_eq, nat_le}
use Rattle.std.specs.Option.{unwrap_or}
use Rattle.std.specs.List.{filter, fold, AllByRecursion}
use Rattle.std.proofs.lemmas.Bool.{cond_both, cases_lt, and_parts, eqb-true, lt-leb}
use Rattle.pipeline_time.specs.Acts.{Acts, Done, Act, When, Node, nodes}
use Rattle.pipeline_time.specs.Cores.{Core, all_nodes}
use Rattle.pipeline_time.specs.Running.{Running}
use Rattle.pipeline_time.specs.Edges.{Standing, is_held, is_flushed, is_free, waiting, is_due, run_due, turn, turns}
use Rattle.pipeline_time.specs.Sound.{IsSound}
use Rattle.pipeline_time.specs.Laws.{HeldAreFirst}
use Rattle.pipeline_time.proofs.Lists.{each_append}
use Rattle.pipeline_time.proofs.Tree.{IsGood, IsGoodTree, whole, tree_of}
use Rattle.pipeline_time.proofs.Induct.{occurrence_tracked}
use Rattle.pipeline_time.proofs.Leaves.{Leaves, leaves_tracked}

either_first : (stall last level : ℕ) → stall ≤ last → (nat_le level stall || nat_le level last) ≡ nat_le level last
either_first stall last level low = grind arith

either_last : (stall last level : ℕ) → last ≤ stall → (nat_le level stall || nat_le level last) ≡ nat_le level stall
either_last stall last level low = grind arith

none_first : (level : ℕ) → 0 < level → false ≡ nat_le level 0
none_first level above = sym (lt-leb level 0 above)

pub held_are_first : (stalled : List ℕ) → HeldAreFirst stalled
held_are_first [] = (0, λ level above. none_first level above)
held_are_first (stall ∷ stalled) =
    let more = held_are_first stalled in
    ⊎_elim
    (λ l. (more.0, λ level above. ap (λ b. nat_le level stall || b) (more.1 level above) ∙ either_first stall more.0 level (omega arith)))
    (λ h. (stall, λ level above. ap (λ b. nat_le level stall || b) (more.1 level above) ∙ either_last stall more.0 level h))
    (cases_lt stall more.0)

-- which of the levels from one on are held and flushed
pub record Controls {R M : Type 0} (core : Core R M) (level : ℕ) (now after : Running M) : Type 0 where
  pub held : (later : ℕ) → level ≤ later → is_held (core.stalled after.moment) later ≡ is_held (core.stalled now.moment) later
  pub flushed : (later : ℕ) → level ≤ later → is_flushed (core.flushed after.moment) later ≡ is_flushed (core.flushed now.moment) later

module _ {R M : Type 0} (core : Core R M) (sound : IsSound core) where
  -- an occurrence with all that it leads to
  pub record IsDeep (node : Node) : Type 0 where
    pub good : IsGood core sound.root node
    pub tree : IsGoodTree core sound.root node.level (node.past || core.is_root node.number) (suc node.number) node.own

  pub all_deep : (above : ℕ) (inside : Bool) (from : ℕ) (acts : Acts) → IsGoodTree core sound.root above inside from acts → AllByRecursion IsDeep (nodes above acts)
  all_deep above inside from Done tree = tt
  all_deep above inside from (Act number level past own rest) tree = (
    record { good = tree.1; tree = subst (λ n. IsGoodTree core sound.root level (past || core.is_root number) (suc n) own) (sym tree.0) tree.4 },
    each_append IsDeep (nodes level own) (nodes above rest) (all_deep level _ _ own tree.4) (all_deep above inside _ rest tree.5),
  )
  all_deep above inside from (When number test taken other rest) tree =
      each_append IsDeep (nodes above taken) _ (all_deep above inside _ taken tree.0)
      (each_append IsDeep (nodes above other) (nodes above rest) (all_deep above inside _ other tree.1) (all_deep above inside _ rest tree.2))

  controls_both : (level : ℕ) (a b c : Running M) → Controls core level a b → Controls core level b c → Controls core level a c
  controls_both level a b c one two = record {
    held = λ later above. two.held later above ∙ one.held later above;
    flushed = λ later above. two.flushed later above ∙ one.flushed later above;
  }

  controls_same : (level : ℕ) (now : Running M) → Controls core level now now
  controls_same level now = record { held = λ later above. refl; flushed = λ later above. refl }

  node_controls : (level : ℕ) (words : ℕ → Option ℕ) (now : Running M) (node : Node) → 0 < level → IsDeep node → is_due core words level node ≡ true → Controls core level now (run_due core words now node)
  node_controls level words now node above deep is =
      let at = eqb-true node.level level (and_parts (nat_eq node.level level) _ is).0 in
      let l = occurrence_tracked core sound.root (Leaves core sound.root) (leaves_tracked core sound) (unwrap_or (words node.number) 0) node now deep.good deep.tree in
      record {
        held = λ later high. l.held (omega arith) later (omega arith);
        flushed = λ later high. l.flushed (omega arith) later (omega arith);
      }

  due_controls : (level : ℕ) (words : ℕ → Option ℕ) (xs : List Node) (now : Running M) → 0 < level → AllByRecursion IsDeep xs → Controls core level now (fold (run_due core words) now (filter (is_due core words level) xs))
  due_controls level words [] now above each = controls_same level now
  due_controls level words (node ∷ xs) now above each =
      cond_both (is_due core words level node) (node ∷ filter (is_due core words level) xs) (filter (is_due core words level) xs) (λ ys. Controls core level now (fold (run_due core words) now ys))
      (λ is. controls_both level now (run_due core words now node) _ (node_controls level words now node above each.0 is) (due_controls level words xs (run_due core words now node) above each.1))
      (λ is. due_controls level words xs now above each.1)

  turn_controls : (stands : Standing) (level : ℕ) (now : Running M) → 0 < level → Controls core level now (turn core stands level now)
  turn_controls stands level now above =
      cond_both (is_free core now level) (fold (run_due core (waiting core stands level now)) now (filter (is_due core (waiting core stands level now) level) (all_nodes core))) now (Controls core level now)
      (λ free. due_controls level (waiting core stands level now) (all_nodes core) now above (all_deep 0 false 0 (whole core) (tree_of core sound)))
      (λ busy. controls_same level now)

  later_controls : (level : ℕ) (now after : Running M) → Controls core level now after → Controls core (suc level) now after
  later_controls level now after controls = record {
    held = λ later above. controls.held later (omega arith);
    flushed = λ later above. controls.flushed later (omega arith);
  }

  pub turns_controls : (stands : Standing) (level : ℕ) (now : Running M) → Controls core level now (turns core stands level now)
  turns_controls stands zero now = controls_same zero now
  turns_controls stands (suc level) now =
      controls_both (suc level) now (turn core stands (suc level) now) (turns core stands level (turn core stands (suc level) now))
      (turn_controls stands (suc level) now (omega arith))
      (later_controls level _ _ (turns_controls stands level (turn core stands (suc level) now)))
