use Rattle.std.proofs.Common.{rules, ◌≡◌, ◌<◌, ℕ, List, length, ap, arith}
use Rattle.std.specs.Prelude.{slice_index}
use Rattle.lisa_tree.specs.Declarations.{choices}
use Rattle.description_graph.specs.Graph.{owners}
use Rattle.description_graph.proofs.Numbered.{choice_owner, choices_step}
use Rattle.description_graph.proofs.rows.add_choices.Goals as goal

pub add_edge-requires : goal.add_edge-requires
add_edge-requires g c =
    let d = g.N.Names.tree c.args.names.now in
    let k = c.loop-choice.choice in
    let h : k < length (choices d) = (let e = c.choice_count-choice-end.ensures in omega arith) in
    let below = choice_owner d k h in
    let is : slice_index c.args.all.now k ≡ slice_index (owners (choices d)) k = ap (λ (all : List ℕ). slice_index all k) c.requires.all in
    omega (arith, below, is)

pub loop-choice-preserved : goal.loop-choice-preserved
loop-choice-preserved g c =
    let d = g.N.Names.tree c.args.names.now in
    let k = c.loop-choice.choice in
    let h : k < length (choices d) = (let e = c.choice_count-choice-end.ensures in omega arith) in
    record {
      count = search rules;
      added = λ a b. choices_step d c.args.all.now c.args.first k a b _ _ _ c.requires.all c.requires.first h (c.loop-choice.invariant.added a b) (c.in_ok-add_edge.ensures.added a b);
    }
