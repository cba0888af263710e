-- What is due past the root is what its word's instruction chooses.
use Rattle.std.proofs.Common.{◌≡◌, ℕ, ◌<◌, true, false, List, sym, ap, ◌∙◌, subst}
use Rattle.std.specs.Option.{unwrap_or}
use Rattle.std.specs.List.{Contains}
use Rattle.pipeline_time.specs.Acts.{Node}
use Rattle.pipeline_time.specs.Cores.{Core, all_nodes}
use Rattle.pipeline_time.specs.Running.{Running, word_below}
use Rattle.pipeline_time.specs.Edges.{waiting, is_due}
use Rattle.pipeline_time.specs.Journal.{stands, stage_word}
use Rattle.pipeline_time.specs.States.{after}
use Rattle.pipeline_time.specs.Sound.{IsSound}
use Rattle.pipeline_time.specs.Laws.{TurnComes, turn_word}
use Rattle.pipeline_time.proofs.Falls.{of_contained}
use Rattle.pipeline_time.proofs.Tree.{whole, tree_of}
use Rattle.pipeline_time.proofs.Held.{IsDeep, all_deep}
use Rattle.pipeline_time.proofs.Leaves.{HasWord}
use Rattle.pipeline_time.proofs.Turns.{ready}
use Rattle.pipeline_time.proofs.Agree.{worded, good_past}
use Rattle.pipeline_time.proofs.Disjoint.{come}

module _ {R M : Type 0} (core : Core R M) (sound : IsSound core) where
  pub due_chosen : (first : R) (entries : List (List ℕ)) (pins : List ℕ) (level : ℕ) (now : Running M) (node : Node) → 0 < level → TurnComes core (stands core (after core first entries).past) pins (after core first entries).memory level now → Contains (all_nodes core) node → is_due core (waiting core (stands core (after core first entries).past) level now) level node ≡ true → (word : ℕ) → word ≡ unwrap_or (waiting core (stands core (after core first entries).past) level now node.number) 0 → (word ≡ word_below node.past (turn_word core (after core first entries).past now level)) × (node.past ≡ true → (core.decodes word ≡ true) × (core.chooses node.number word ≡ true))
  due_chosen first entries pins level now node staged comes in_tree due word is =
      let past = (after core first entries).past in
      let words = stage_word core past in
      let standing = stands core past in
      let good = worded core sound past (good_past core sound first entries) in
      let far = (come core sound words standing good pins (after core first entries).memory level now comes).far in
      let deep : IsDeep core sound node = of_contained (IsDeep core sound) (all_nodes core) node (all_deep core sound 0 false 0 (whole core) (tree_of core sound)) in_tree in
      let r = ready core sound words standing good level now staged far.first node deep.good due in
      let has : HasWord core (turn_word core past now level) node.number word = subst (λ w. HasWord core (turn_word core past now level) node.number w) (sym is) r.word in (
        has.is ∙ ap (λ p. word_below p (turn_word core past now level)) deep.good.past_is,
        λ inside. let chosen = has.chosen (deep.good.past_is ∙ inside) in (deep.good.chosen inside word chosen, chosen),
      )
