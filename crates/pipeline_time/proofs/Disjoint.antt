-- Of what is due in one stage none is below another.
use Rattle.std.proofs.Common.{◌≡◌, ℕ, suc, ◌<◌, ◌≤◌, Bool, true, false, List, arith}
use Rattle.std.specs.List.{AllByRecursion, Contains}
use Rattle.pipeline_time.specs.Acts.{Acts, Done, Act, When, Node, nodes}
use Rattle.pipeline_time.specs.Cores.{Core, all_nodes}
use Rattle.pipeline_time.specs.Running.{Running}
use Rattle.pipeline_time.specs.Edges.{Standing, waiting, is_due}
use Rattle.pipeline_time.specs.Journal.{stands, stage_word}
use Rattle.pipeline_time.specs.States.{after}
use Rattle.pipeline_time.specs.Sound.{IsSound}
use Rattle.pipeline_time.specs.Laws.{TurnComes, at_first, further}
use Rattle.pipeline_time.proofs.Lists.{each_append}
use Rattle.pipeline_time.proofs.Falls.{of_contained}
use Rattle.pipeline_time.proofs.Tree.{IsGoodTree, whole, tree_of}
use Rattle.pipeline_time.proofs.Held.{IsDeep, all_deep}
use Rattle.pipeline_time.proofs.Turns.{Far, IsWorded, ready, turn_far, main_far}
use Rattle.pipeline_time.proofs.Agree.{worded, good_past}

module _ {R M : Type 0} (core : Core R M) (sound : IsSound core) where
  -- the activators below an activator are of its level or a later one
  above_low : (level above : ℕ) (inside : Bool) (from : ℕ) (acts : Acts) → level ≤ above → IsGoodTree core sound.root above inside from acts → AllByRecursion (λ node. level ≤ node.above) (nodes above acts)
  above_low level above inside from Done low tree = tt
  above_low level above inside from (Act number own_level past own rest) low tree =
      (low, each_append _ (nodes own_level own) (nodes above rest) (above_low level own_level _ _ own (omega (arith, tree.1.ordered)) tree.4) (above_low level above inside _ rest low tree.5))
  above_low level above inside from (When number test taken other rest) low tree =
      each_append _ (nodes above taken) _ (above_low level above inside _ taken low tree.0)
      (each_append _ (nodes above other) (nodes above rest) (above_low level above inside _ other low tree.1) (above_low level above inside _ rest low tree.2))

  -- how far an edge has come when a turn comes
  pub record HasCome (words : ℕ → ℕ) (level : ℕ) (now : Running M) : Type 0 where
    pub within : level ≤ core.stages
    pub far : Far core words (suc level) now

  pub come : (words : ℕ → ℕ) (standing : Standing) → IsWorded core words standing → (pins : List ℕ) (memory : R) (level : ℕ) (now : Running M) → TurnComes core standing pins memory level now → HasCome words level now
  come words standing good pins memory level now at_first = record { within = omega arith; far = main_far core sound words standing good pins memory (suc core.stages) }
  come words standing good pins memory level now (further before) =
      let c = come words standing good pins memory _ _ before in
      record { within = omega (arith, c.within); far = turn_far core sound words standing good level _ c.within c.far }

  pub disjoint : (first : R) (entries : List (List ℕ)) (pins : List ℕ) (level : ℕ) (now : Running M) (upper lower : Node) → 0 < level → TurnComes core (stands core (after core first entries).past) pins (after core first entries).memory level now → Contains (all_nodes core) upper → Contains (nodes upper.level upper.own) lower → is_due core (waiting core (stands core (after core first entries).past) level now) level upper ≡ true → is_due core (waiting core (stands core (after core first entries).past) level now) level lower ≡ true → ⊥
  disjoint first entries pins level now upper lower staged comes in_tree below upper_due lower_due =
      let words = stage_word core (after core first entries).past in
      let standing = stands core (after core first entries).past in
      let good = worded core sound (after core first entries).past (good_past core sound first entries) in
      let far = (come words standing good pins (after core first entries).memory level now comes).far in
      let deep : IsDeep core sound upper = of_contained (IsDeep core sound) (all_nodes core) upper (all_deep core sound 0 false 0 (whole core) (tree_of core sound)) in_tree in
      let deep_lower : IsDeep core sound lower = of_contained (IsDeep core sound) (nodes upper.level upper.own) lower (all_deep core sound upper.level _ _ upper.own deep.tree) below in
      let low : upper.level ≤ lower.above = of_contained (λ node. upper.level ≤ node.above) (nodes upper.level upper.own) lower (above_low upper.level upper.level _ _ upper.own (omega arith) deep.tree) below in
      let u = ready core sound words standing good level now staged far.first upper deep.good upper_due in
      let l = ready core sound words standing good level now staged far.first lower deep_lower.good lower_due in
      omega (arith, u.at, l.before)
