-- In an edge no occurrence runs twice, and none is recorded twice at a level.
use Rattle.std.proofs.Common.{◌≡◌, ◌≢◌, ℕ, zero, suc, ◌+◌, ◌<◌, ◌≤◌, false, ◌&&◌, ◌⊎◌, List, [], ◌∷◌, ◌++◌, refl, sym, ap, ◌∙◌, subst, inl, inr, ⊎_elim, arith, append_assoc, nat_eq}
use Rattle.std.specs.Option.{unwrap_or}
use Rattle.std.specs.List.{filter, fold, AllByRecursion, IsDistinct}
use Rattle.std.proofs.lemmas.Bool.{cond_both, eqb-true, ne_eqb, and_parts, and_right, cases_eq}
use Rattle.pipeline_time.specs.Acts.{Node, size}
use Rattle.pipeline_time.specs.Cores.{Core, main_node, all_nodes, level_of}
use Rattle.pipeline_time.specs.Running.{Activation, Running, word_below, own_word, behavior, activate, run_occurrence}
use Rattle.pipeline_time.specs.Edges.{Standing, is_free, waiting, is_due, run_due, turn, turns, start, edge}
use Rattle.pipeline_time.specs.Sound.{IsSound}
use Rattle.pipeline_time.proofs.Lists.{each_append, each_so}
use Rattle.pipeline_time.proofs.Tree.{IsGood, whole, tree_of}
use Rattle.pipeline_time.proofs.Induct.{IsTracked, occurrence_tracked, IsTurned, due_turned}
use Rattle.pipeline_time.proofs.Falls.{IsFalling, falls_wider, falls_append, falls_within, falls_distinct, distinct_append, how_many, many_append, many_none}
use Rattle.pipeline_time.proofs.Turns.{IsKept, Far, IsWorded, ready, ready_at, turn_far, main_far}

-- how often an occurrence was recorded at a level
abbrev pub times : List Activation → ℕ → ℕ → ℕ
times made level number = how_many (λ a. nat_eq a.occurrence number && nat_eq a.level level) made

abbrev pub numbers : List Activation → List ℕ
numbers [] = []
numbers (a ∷ made) = a.occurrence ∷ numbers made

pub numbers_append : (xs ys : List Activation) → numbers (xs ++ ys) ≡ numbers xs ++ numbers ys
numbers_append [] ys = refl
numbers_append (x ∷ xs) ys = ap (λ ns. x.occurrence ∷ ns) (numbers_append xs ys)

-- what ran, and what was recorded, is of falling numbers, each of its level
pub record Falls {R M : Type 0} (core : Core R M) (here from to : ℕ) (now after : Running M) : Type 0 where
  pub news : List ℕ
  pub ran : after.ran ≡ news ++ now.ran
  pub ran_falls : IsFalling from to news
  pub ran_here : AllByRecursion (λ n. level_of core n ≡ here) news
  pub recorded : List Activation
  pub made : after.made ≡ recorded ++ now.made
  pub made_falls : IsFalling from to (numbers recorded)
  pub made_here : AllByRecursion (λ a. a.level ≡ here) recorded

module _ {R M : Type 0} (core : Core R M) where
  falls_same : (here from to : ℕ) (now : Running M) → Falls core here from to now now
  falls_same here from to now = record { news = []; ran = refl; ran_falls = tt; ran_here = tt; recorded = []; made = refl; made_falls = tt; made_here = tt }

  falls_widened : (here from to from' to' : ℕ) (now after : Running M) → from' ≤ from → to ≤ to' → Falls core here from to now after → Falls core here from' to' now after
  falls_widened here from to from' to' now after low high falls = record {
    news = falls.news;
    ran = falls.ran;
    ran_falls = falls_wider from to from' to' falls.news low high falls.ran_falls;
    ran_here = falls.ran_here;
    recorded = falls.recorded;
    made = falls.made;
    made_falls = falls_wider from to from' to' (numbers falls.recorded) low high falls.made_falls;
    made_here = falls.made_here;
  }

  falls_both : (here from middle to : ℕ) (a b c : Running M) → from ≤ middle → middle ≤ to → Falls core here from middle a b → Falls core here middle to b c → Falls core here from to a c
  falls_both here from middle to a b c low high one two = record {
    news = two.news ++ one.news;
    ran = two.ran ∙ ap (λ xs. two.news ++ xs) one.ran ∙ sym (append_assoc two.news one.news a.ran);
    ran_falls = falls_append from middle to two.news one.news low high two.ran_falls one.ran_falls;
    ran_here = each_append _ two.news one.news two.ran_here one.ran_here;
    recorded = two.recorded ++ one.recorded;
    made = two.made ∙ ap (λ xs. two.recorded ++ xs) one.made ∙ sym (append_assoc two.recorded one.recorded a.made);
    made_falls = subst (IsFalling from to) (sym (numbers_append two.recorded one.recorded)) (falls_append from middle to (numbers two.recorded) (numbers one.recorded) low high two.made_falls one.made_falls);
    made_here = each_append _ two.recorded one.recorded two.made_here one.made_here;
  }

  node_falls : (root : ℕ) (node : Node) (word to : ℕ) (now after : Running M) → IsGood core root node → node.number < to → Falls core node.level (suc node.number) to (behavior core node.number word now) after → Falls core node.level node.number to now after
  unfolding behavior
  node_falls root node word to now after good within inner = record {
    news = inner.news ++ (node.number ∷ []);
    ran = inner.ran ∙ sym (append_assoc inner.news (node.number ∷ []) now.ran);
    ran_falls = falls_append node.number (suc node.number) to inner.news (node.number ∷ []) (omega arith) within inner.ran_falls (omega arith, omega arith, tt);
    ran_here = each_append _ inner.news (node.number ∷ []) inner.ran_here (good.level_is, tt);
    recorded = inner.recorded;
    made = inner.made;
    made_falls = falls_wider (suc node.number) to node.number to (numbers inner.recorded) (omega arith) (omega arith) inner.made_falls;
    made_here = inner.made_here;
  }

  activated_falls : (above number word : ℕ) (now : Running M) → Falls core above number (suc number) now (activate core above number word now)
  unfolding activate
  activated_falls zero number word now = record { news = []; ran = refl; ran_falls = tt; ran_here = tt; recorded = []; made = refl; made_falls = tt; made_here = tt }
  activated_falls (suc stage) number word now = record {
    news = [];
    ran = refl;
    ran_falls = tt;
    ran_here = tt;
    recorded = record { occurrence = number; level = suc stage; word = word } ∷ [];
    made = refl;
    made_falls = (omega arith, omega arith, tt);
    made_here = (refl, tt);
  }

  pub falls_tracked : (root : ℕ) → IsTracked core root (λ here inside word from to now after. Falls core here from to now after)
  falls_tracked root = record {
    same = λ here inside word from to now. falls_same here from to now;
    wider = λ here inside word from to from' to' now after low high falls. falls_widened here from to from' to' now after low high falls;
    both = λ here inside word from middle to a b c low high one two. falls_both here from middle to a b c low high one two;
    node = λ node inside word to now after good under beyond within inner. node_falls root node (own_word core node.number node.past word now) to now after good within inner;
    activated = λ node inside word now good under later chosen. activated_falls node.above node.number (word_below node.past word) now;
  }

-- what ran and was recorded so far, once, at a level from this one on, or in no stage
pub record OnceFrom {R M : Type 0} (core : Core R M) (from : ℕ) (now : Running M) : Type 0 where
  pub ran_once : IsDistinct nat_eq now.ran
  pub ran_far : AllByRecursion (λ n. (level_of core n ≡ 0) ⊎ (from ≤ level_of core n)) now.ran
  pub made_once : (level number : ℕ) → times now.made level number ≤ 1

times_once : (from to level number : ℕ) (made : List Activation) → IsFalling from to (numbers made) → times made level number ≤ 1
times_once from to level number [] falls = omega arith
times_once from to level number (a ∷ made) falls =
    let test = λ (a : Activation). nat_eq a.occurrence number && nat_eq a.level level in
    cond_both (test a) (suc (times made level number)) (times made level number) (λ n. n ≤ 1)
    (λ is.
    let e = eqb-true a.occurrence number (and_parts (nat_eq a.occurrence number) (nat_eq a.level level) is).0 in
    let none = many_none test made (absent made (falls_within from a.occurrence (numbers made) falls.2) e) in
    omega arith)
    (λ is. times_once from a.occurrence level number made falls.2)
  where
    absent : (rest : List Activation) → AllByRecursion (λ n. n < a.occurrence) (numbers rest) → a.occurrence ≡ number → AllByRecursion (λ (b : Activation). (nat_eq b.occurrence number && nat_eq b.level level) ≡ false) rest
    absent [] low e = tt
    absent (b ∷ rest) low e = (ap (λ x. x && nat_eq b.level level) (ne_eqb b.occurrence number (λ same. omega (arith, low.0))), absent rest low.1 e)

times_elsewhere : (here level number : ℕ) (made : List Activation) → AllByRecursion (λ a. a.level ≡ here) made → level ≢ here → times made level number ≡ 0
times_elsewhere here level number made each ne =
    many_none _ made (each_so (λ a. a.level ≡ here) (λ a. (nat_eq a.occurrence number && nat_eq a.level level) ≡ false) made (λ a at. and_right (nat_eq a.occurrence number) (nat_eq a.level level) (ne_eqb a.level level (λ e. ne (sym e ∙ at)))) each)

module _ {R M : Type 0} (core : Core R M) (sound : IsSound core) (words : ℕ → ℕ) (stands : Standing) (worded : IsWorded core words stands) where
  falls_turned : (level : ℕ) (now : Running M) → 0 < level → Far core words (suc level) now → IsTurned core sound.root (waiting core stands level now) (is_due core (waiting core stands level now) level) (λ from to before after. Falls core level from to before after)
  falls_turned level now above far = record {
    same = λ from to m. falls_same core level from to m;
    wider = λ from to from' to' m after low high falls. falls_widened core level from to from' to' m after low high falls;
    both = λ from middle to a b c low high one two. falls_both core level from middle to a b c low high one two;
    node = λ node m is good tree.
        let r = ready core sound words stands worded level now above far.first node good is in
        let own = unwrap_or (waiting core stands level now node.number) 0 in
        subst (λ l. Falls core l node.number (suc (node.number + size node.own)) m (run_due core (waiting core stands level now) m node)) r.at
        (occurrence_tracked core sound.root (λ here inside word from to now after. Falls core here from to now after) (falls_tracked core sound.root) own node m good tree);
  }

  ended_once : (stage : ℕ) (from to : ℕ) (now after : Running M) → Far core words (suc (suc stage)) now → OnceFrom core (suc (suc stage)) now → Falls core (suc stage) from to now after → OnceFrom core (suc stage) after
  ended_once stage from to now after far once falls =
      let level = suc stage in
      record {
        ran_once = subst (λ ns. IsDistinct nat_eq ns) (sym falls.ran)
            (distinct_append falls.news now.ran (falls_distinct from to falls.news falls.ran_falls) once.ran_once
            (each_so (λ n. level_of core n ≡ level) (λ m. AllByRecursion (λ n. nat_eq m n ≡ false) now.ran) falls.news (λ m at.
            each_so (λ n. (level_of core n ≡ 0) ⊎ (suc level ≤ level_of core n)) (λ n. nat_eq m n ≡ false) now.ran (λ n out.
            ne_eqb m n (λ e. let same = ap (level_of core) e in ⊎_elim (λ z. omega arith) (λ l. omega arith) out)) once.ran_far) falls.ran_here));
        ran_far = subst (λ ns. AllByRecursion (λ n. (level_of core n ≡ 0) ⊎ (level ≤ level_of core n)) ns) (sym falls.ran)
            (each_append _ falls.news now.ran
            (each_so (λ n. level_of core n ≡ level) (λ n. (level_of core n ≡ 0) ⊎ (level ≤ level_of core n)) falls.news (λ n at. inr (omega arith)) falls.ran_here)
            (each_so (λ n. (level_of core n ≡ 0) ⊎ (suc level ≤ level_of core n)) (λ n. (level_of core n ≡ 0) ⊎ (level ≤ level_of core n)) now.ran (λ n out. ⊎_elim inl (λ l. inr (omega arith)) out) once.ran_far));
        made_once = λ l number.
            let e = ap (λ made. times made l number) falls.made ∙ many_append (λ (a : Activation). nat_eq a.occurrence number && nat_eq a.level l) falls.recorded now.made in
            ⊎_elim
            (λ at.
            let new = times_once from to l number falls.recorded falls.made_falls in
            let old = many_none (λ (a : Activation). nat_eq a.occurrence number && nat_eq a.level l) now.made (each_so (IsKept core words (suc level) now) (λ a. (nat_eq a.occurrence number && nat_eq a.level l) ≡ false) now.made (λ a k. and_right (nat_eq a.occurrence number) (nat_eq a.level l) (ne_eqb a.level l (λ same. omega (arith, k.so_far)))) far.each) in
            omega arith)
            (λ ne.
            let new = times_elsewhere level l number falls.recorded falls.made_here ne in
            let old = once.made_once l number in
            omega arith)
            (cases_eq l level);
      }

  pub turn_once : (stage : ℕ) (now : Running M) → suc stage ≤ core.stages → Far core words (suc (suc stage)) now → OnceFrom core (suc (suc stage)) now → OnceFrom core (suc stage) (turn core stands (suc stage) now)
  turn_once stage now within far once =
      let level = suc stage in
      let test = is_due core (waiting core stands level now) level in
      let after = fold (run_due core (waiting core stands level now)) now (filter test (all_nodes core)) in
      let at = ready_at core sound words stands worded level now (omega arith) far.first in
      cond_both (is_free core now level) after now (OnceFrom core level)
      (λ free. ended_once stage 0 (0 + size (whole core)) now after far once
      (due_turned core sound.root (waiting core stands level now) level test at (λ from to before after. Falls core level from to before after) (falls_turned level now (omega arith) far) 0 false 0 (whole core) now (tree_of core sound)))
      (λ busy. record {
        ran_once = once.ran_once;
        ran_far = each_so (λ n. (level_of core n ≡ 0) ⊎ (suc level ≤ level_of core n)) (λ n. (level_of core n ≡ 0) ⊎ (level ≤ level_of core n)) now.ran (λ n out. ⊎_elim inl (λ l. inr (omega arith)) out) once.ran_far;
        made_once = once.made_once;
      })

  turns_once : (level : ℕ) (now : Running M) → level ≤ core.stages → Far core words (suc level) now → OnceFrom core (suc level) now → OnceFrom core 1 (turns core stands level now)
  turns_once zero now within far once = once
  turns_once (suc level) now within far once = turns_once level _ (omega arith) (turn_far core sound words stands worded level now within far) (turn_once level now within far once)

  pub main_once : (pins : List ℕ) (memory : R) (from : ℕ) → OnceFrom core from (run_occurrence core 0 (main_node core) (start core pins memory))
  main_once pins memory from =
      let begun = start core pins memory in
      let after = run_occurrence core 0 (main_node core) begun in
      let tree = tree_of core sound in
      let falls = occurrence_tracked core sound.root (λ here inside word from to now after. Falls core here from to now after) (falls_tracked core sound.root) 0 (main_node core) begun tree.1 tree.4 in
      let to = suc (0 + size core.acts) in
      record {
        ran_once = subst (λ ns. IsDistinct nat_eq ns) (sym (falls.ran ∙ append_none falls.news)) (falls_distinct 0 to falls.news falls.ran_falls);
        ran_far = subst (λ ns. AllByRecursion (λ n. (level_of core n ≡ 0) ⊎ (from ≤ level_of core n)) ns) (sym falls.ran)
            (each_append _ falls.news [] (each_so (λ n. level_of core n ≡ 0) (λ n. (level_of core n ≡ 0) ⊎ (from ≤ level_of core n)) falls.news (λ n at. inl at) falls.ran_here) tt);
        made_once = λ l number.
            let e = ap (λ made. times made l number) falls.made ∙ many_append (λ (a : Activation). nat_eq a.occurrence number && nat_eq a.level l) falls.recorded [] in
            let new = times_once 0 to l number falls.recorded falls.made_falls in
            omega arith;
      }
    where
      append_none : (ns : List ℕ) → ns ++ [] ≡ ns
      append_none [] = refl
      append_none (n ∷ ns) = ap (λ xs. n ∷ xs) (append_none ns)

  pub edge_once : (pins : List ℕ) (memory : R) → OnceFrom core 1 (edge core stands pins memory)
  edge_once pins memory = turns_once core.stages _ (omega arith) (main_far core sound words stands worded pins memory (suc core.stages)) (main_once pins memory (suc core.stages))
