-- In an edge a stage runs what is due in it, and nothing where that is held or flushed.
use Rattle.std.proofs.Common.{◌≡◌, ◌≢◌, ℕ, zero, suc, ◌<◌, ◌≤◌, Bool, true, false, cond, not, ◌&&◌, ◌||◌, List, [], ◌∷◌, Option, None, Some, is_some, refl, sym, ap, ap₂, ◌∙◌, subst, ⊎_elim, arith, nat_eq}
use Rattle.std.specs.Option.{option_or, option_map, unwrap_or}
use Rattle.std.specs.List.{list_any, find, filter, fold, AllByRecursion}
use Rattle.std.proofs.lemmas.Bool.{cond_both, cond-true, cond-false, eq-eqb, ne_eqb, eqb-true, and_parts, cases_eq, cases_lt}
use Rattle.pipeline_time.specs.Acts.{Node, size}
use Rattle.pipeline_time.specs.Cores.{Core, main_node, all_nodes, node_of, level_of}
use Rattle.pipeline_time.specs.Running.{Running, word_below, own_word, behavior, activate, run_occurrence}
use Rattle.pipeline_time.specs.Edges.{Standing, is_held, is_flushed, is_free, word_in, waiting, is_due, run_due, turn, turns, start, edge}
use Rattle.pipeline_time.specs.Journal.{stands}
use Rattle.pipeline_time.specs.States.{edge_of, after}
use Rattle.pipeline_time.specs.Sound.{IsSound}
use Rattle.pipeline_time.proofs.Tree.{IsGood, whole, tree_of}
use Rattle.pipeline_time.proofs.Induct.{IsTracked, run_tracked, occurrence_tracked}
use Rattle.pipeline_time.proofs.Held.{IsDeep, all_deep, turns_controls}
use Rattle.pipeline_runs.specs.Seeing.{WhatIsDueRuns}

-- whether some of these occurrences are of a level
abbrev pub any_at : {R M : Type 0} → Core R M → ℕ → List ℕ → Bool
any_at core level ran = list_any (λ number. nat_eq (level_of core number) level) ran

-- What runs at a level: nothing of another level, and from a stage on nothing for the first stage.
pub record Stirs {R M : Type 0} (core : Core R M) (here : ℕ) (now after : Running M) : Type 0 where
  pub others : (level : ℕ) → level ≢ here → any_at core level after.ran ≡ any_at core level now.ran
  pub own : any_at core here now.ran ≡ true → any_at core here after.ran ≡ true
  pub first : 0 < here → after.first ≡ now.first

module _ {R M : Type 0} (core : Core R M) where
  same_stirs : (here : ℕ) (now : Running M) → Stirs core here now now
  same_stirs here now = record { others = λ level ne. refl; own = λ is. is; first = λ staged. refl }

  both_stir : (here : ℕ) (a b c : Running M) → Stirs core here a b → Stirs core here b c → Stirs core here a c
  both_stir here a b c one two = record {
    others = λ level ne. two.others level ne ∙ one.others level ne;
    own = λ is. two.own (one.own is);
    first = λ staged. two.first staged ∙ one.first staged;
  }

  -- the BEHAVIOR of an occurrence is of its level
  behaves_here : (node : Node) (word : ℕ) (now : Running M) → level_of core node.number ≡ node.level → any_at core node.level (behavior core node.number word now).ran ≡ true
  unfolding behavior
  behaves_here node word now at = ap (λ b. b || any_at core node.level now.ran) (eq-eqb (level_of core node.number) node.level at)

  behaves_stirs : (node : Node) (word : ℕ) (now : Running M) → level_of core node.number ≡ node.level → Stirs core node.level now (behavior core node.number word now)
  unfolding behavior
  behaves_stirs node word now at = record {
    others = λ level ne. ap (λ b. b || any_at core level now.ran) (ne_eqb (level_of core node.number) level (λ e. ne (sym e ∙ at)));
    own = λ is. behaves_here node word now at;
    first = λ staged. refl;
  }

  activates_stir : (here number word : ℕ) (now : Running M) → Stirs core here now (activate core here number word now)
  unfolding activate
  activates_stir zero number word now = record { others = λ level ne. refl; own = λ is. is; first = λ staged. absurd (omega (arith, staged)) }
  activates_stir (suc stage) number word now = record { others = λ level ne. refl; own = λ is. is; first = λ staged. refl }

  stirs_tracked : (root : ℕ) → IsTracked core root (λ here inside word from to now after. Stirs core here now after)
  stirs_tracked root = record {
    same = λ here inside word from to now. same_stirs here now;
    wider = λ here inside word from to from' to' now after low high stirs. stirs;
    both = λ here inside word from middle to a b c low high one two. both_stir here a b c one two;
    node = λ node inside word to now after good under beyond within inner. both_stir node.level now _ after (behaves_stirs node (own_word core node.number node.past word now) now good.level_is) inner;
    activated = λ node inside word now good under later chosen. activates_stir node.above node.number (word_below node.past word) now;
  }

module _ {R M : Type 0} (core : Core R M) (sound : IsSound core) where
  occurrence_stirs : (word : ℕ) (node : Node) (now : Running M) → IsDeep core sound node → Stirs core node.level now (run_occurrence core word node now)
  occurrence_stirs word node now deep =
      occurrence_tracked core sound.root (λ here inside word from to now after. Stirs core here now after) (stirs_tracked core sound.root) word node now deep.good deep.tree

  -- an occurrence that runs is of its level
  occurrence_here : (word : ℕ) (node : Node) (now : Running M) → IsDeep core sound node → any_at core node.level (run_occurrence core word node now).ran ≡ true
  occurrence_here word node now deep =
      let mine = own_word core node.number node.past word now in
      let stirs = run_tracked core sound.root (λ here inside word from to now after. Stirs core here now after) (stirs_tracked core sound.root) node.level (node.past || core.is_root node.number) mine (suc node.number) node.own (behavior core node.number mine now) deep.tree in
      stirs.own (behaves_here core node mine now deep.good.level_is)

  -- ---- the turn of a level

  -- something ran at the level, or had run there, where this is true
  record Turned (level : ℕ) (now after : Running M) (some : Bool) : Type 0 where
    others : (other : ℕ) → other ≢ level → any_at core other after.ran ≡ any_at core other now.ran
    own : any_at core level after.ran ≡ (any_at core level now.ran || some)
    first : after.first ≡ now.first

  or_false : (b : Bool) → b ≡ (b || false)
  or_false b = grind arith

  or_once : (a b : Bool) → a ≡ true → (a || b) ≡ true
  or_once a b is = grind arith

  or_later : (a : Bool) → (a || true) ≡ true
  or_later a = grind arith

  not_turned : (level : ℕ) (now : Running M) → Turned level now now false
  not_turned level now = record { others = λ other ne. refl; own = or_false (any_at core level now.ran); first = refl }

  -- one that is due, and those after it
  one_turned : (level : ℕ) (words : ℕ → Option ℕ) (node : Node) (now after : Running M) (later : Bool) → 0 < level → IsDeep core sound node → is_due core words level node ≡ true → Turned level (run_due core words now node) after later → Turned level now after true
  one_turned level words node now after later staged deep due rest =
      let at = eqb-true node.level level (and_parts (nat_eq node.level level) (is_some (words node.number)) due).0 in
      let word = unwrap_or (words node.number) 0 in
      let stirs = subst (λ l. Stirs core l now (run_due core words now node)) at (occurrence_stirs word node now deep) in
      let here = subst (λ l. any_at core l (run_due core words now node).ran ≡ true) at (occurrence_here word node now deep) in
      record {
        others = λ other ne. rest.others other ne ∙ stirs.others other ne;
        own = rest.own ∙ or_once (any_at core level (run_due core words now node).ran) later here ∙ sym (or_later (any_at core level now.ran));
        first = rest.first ∙ stirs.first staged;
      }

  due_on : (level : ℕ) (words : ℕ → Option ℕ) (node : Node) (xs : List Node) (now : Running M) (b : Bool) → 0 < level → IsDeep core sound node → is_due core words level node ≡ b → ((m : Running M) → Turned level m (fold (run_due core words) m (filter (is_due core words level) xs)) (list_any (is_due core words level) xs)) → Turned level now (fold (run_due core words) now (cond b (node ∷ filter (is_due core words level) xs) (filter (is_due core words level) xs))) (b || list_any (is_due core words level) xs)
  due_on level words node xs now true staged deep due rest = one_turned level words node now _ (list_any (is_due core words level) xs) staged deep due (rest (run_due core words now node))
  due_on level words node xs now false staged deep due rest = rest now

  due_turned : (level : ℕ) (words : ℕ → Option ℕ) (xs : List Node) (now : Running M) → 0 < level → AllByRecursion (IsDeep core sound) xs → Turned level now (fold (run_due core words) now (filter (is_due core words level) xs)) (list_any (is_due core words level) xs)
  due_turned level words [] now staged each = not_turned level now
  due_turned level words (node ∷ xs) now staged each = due_on level words node xs now (is_due core words level node) staged each.0 refl (λ m. due_turned level words xs m staged each.1)

  -- whether something is due at a level that is free, by what an edge has come to
  abbrev pub is_open_and_due : Standing → ℕ → Running M → Bool
  is_open_and_due stands level now = is_free core now level && list_any (is_due core (waiting core stands level now) level) (all_nodes core)

  turn_turned : (stands : Standing) (level : ℕ) (now : Running M) → 0 < level → Turned level now (turn core stands level now) (is_open_and_due stands level now)
  turn_turned stands level now staged = by (is_free core now level)
    where
      words : ℕ → Option ℕ
      words = waiting core stands level now

      by : (b : Bool) → Turned level now (cond b (fold (run_due core words) now (filter (is_due core words level) (all_nodes core))) now) (b && list_any (is_due core words level) (all_nodes core))
      by true = due_turned level words (all_nodes core) now staged (all_deep core sound 0 false 0 (whole core) (tree_of core sound))
      by false = not_turned level now

  -- ---- the turns of all levels

  -- When the turns from a level down have come, something ran at each of their levels that was free and in which something was due.
  record Ended (stands : Standing) (level : ℕ) (now after : Running M) : Type 0 where
    above : (other : ℕ) → level < other → any_at core other after.ran ≡ any_at core other now.ran
    within : (other : ℕ) → 0 < other → other ≤ level → any_at core other after.ran ≡ (any_at core other now.ran || is_open_and_due stands other after)
    first : after.first ≡ now.first

  -- what was free and due when its turn came is so at the end
  still : (stands : Standing) (level : ℕ) (now : Running M) → (turns core stands level now).first ≡ now.first → is_open_and_due stands level now ≡ is_open_and_due stands level (turns core stands level now)
  still stands level now first =
      let controls = turns_controls core sound stands level now in
      ap₂ (λ (h f : Bool). (not h && not f) && list_any (is_due core (waiting core stands level now) level) (all_nodes core)) (sym (controls.held level (omega arith))) (sym (controls.flushed level (omega arith)))
      ∙ ap (λ (pairs : List (ℕ × ℕ)). is_free core (turns core stands level now) level && list_any (is_due core (λ number. option_or (stands level number) (cond (nat_eq level 1) (word_in number pairs) None)) level) (all_nodes core)) (sym first)

  turns_ended : (stands : Standing) (level : ℕ) (now : Running M) → Ended stands level now (turns core stands level now)
  turns_ended stands zero now = record {
    above = λ other later. refl;
    within = λ other staged low. absurd (omega (arith, staged, low));
    first = refl;
  }
  turns_ended stands (suc level) now =
      let one = turn_turned stands (suc level) now (omega arith) in
      let mid = turn core stands (suc level) now in
      let rest = turns_ended stands level mid in
      let first = rest.first ∙ one.first in
      record {
        above = λ other later. rest.above other (omega (arith, later)) ∙ one.others other (λ e. omega (arith, later, e));
        within = λ other staged low.
            ⊎_elim
            (λ (e : other ≡ suc level).
            subst (λ o. any_at core o (turns core stands level mid).ran ≡ (any_at core o now.ran || is_open_and_due stands o (turns core stands level mid))) (sym e)
            (rest.above (suc level) (omega arith)
            ∙ one.own
            ∙ ap (λ b. any_at core (suc level) now.ran || b) (still stands (suc level) now first)))
            (λ (ne : other ≢ suc level).
            rest.within other staged (omega (arith, low, ne))
            ∙ ap (λ b. b || is_open_and_due stands other (turns core stands level mid)) (one.others other ne))
            (cases_eq other (suc level));
        first = first;
      }

  -- ---- the whole edge

  -- none runs past the last stage
  none_past : (words : ℕ → Option ℕ) (level : ℕ) (xs : List Node) → core.stages < level → AllByRecursion (IsDeep core sound) xs → list_any (is_due core words level) xs ≡ false
  none_past words level [] past each = refl
  none_past words level (node ∷ xs) past each =
      ap₂ (λ (a b : Bool). (a && is_some (words node.number)) || b) (ne_eqb node.level level (λ e. let low = each.0.good.within in omega (arith, e, low, past))) (none_past words level xs past each.1)

  and_false : (b : Bool) → (b && false) ≡ false
  and_false b = grind arith

  pub edge_ran : (stands : Standing) (pins : List ℕ) (memory : R) (level : ℕ) → 0 < level → any_at core level (edge core stands pins memory).ran ≡ is_open_and_due stands level (edge core stands pins memory)
  edge_ran stands pins memory level staged =
      ⊎_elim
      (λ (late : core.stages < level).
      ended.above level late
      ∙ none
      ∙ sym (ap (λ b. is_free core end level && b) (none_past (waiting core stands level end) level (all_nodes core) late deep) ∙ and_false (is_free core end level)))
      (λ (low : level ≤ core.stages).
      ended.within level staged low ∙ ap (λ b. b || is_open_and_due stands level end) none)
      (cases_lt core.stages level)
    where
      begun : Running M
      begun = run_occurrence core 0 (main_node core) (start core pins memory)

      end : Running M
      end = edge core stands pins memory

      deep : AllByRecursion (IsDeep core sound) (all_nodes core)
      deep = all_deep core sound 0 false 0 (whole core) (tree_of core sound)

      none : any_at core level begun.ran ≡ false
      none = (occurrence_stirs 0 (main_node core) (start core pins memory) deep.0).others level (λ e. omega (arith, e, staged))

      ended : Ended stands core.stages begun end
      ended = turns_ended stands core.stages begun

  pub what_is_due_runs : WhatIsDueRuns core
  what_is_due_runs first entries pins stage =
      let state = after core first entries in
      edge_ran (stands core state.past) pins state.memory (suc stage) (omega arith)
