use Rattle.std.proofs.Common.{◌≡◌, ◌∙◌, ℕ, List, true, nat_le, sym, ap₂}
use Rattle.std.specs.List.{list_all}
use Rattle.graph_paths.specs.Paths.{targets}
use Rattle.graph_paths.specs.Ranks.{rank}
use Rattle.graph_paths.proofs.Rising.{one_more_row, each_row}
use Rattle.graph_paths.proofs.ranking.are_ranks.Goals as goal

pub loop-node-preserved : goal.loop-node-preserved
loop-node-preserved c =
    let kept : list_all (λ b. nat_le (rank c.args.ranks.now c.loop-node.node) (rank c.args.ranks.now b)) (targets c.args.next.now c.loop-node.node) ≡ true =
    ap₂ (λ (own : ℕ) (nodes : List ℕ). list_all (λ b. nat_le own (rank c.args.ranks.now b)) nodes) (sym c.rank.ensures) (sym c.row.ensures)
    ∙ (sym c.are_not_lower.ensures ∙ c.if-not-are_not_lower.false) in
    one_more_row c.args.next.now c.args.ranks.now c.loop-node.node c.loop-node.invariant kept

pub returns : goal.returns
returns c = λ e. each_row c.args.next.now c.args.ranks.now c.loop-node.node c.loop-node-test.false c.loop-node.invariant
