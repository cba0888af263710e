use Rattle.std.proofs.Common.{◌≡◌, ◌∙◌, ℕ, List, true, nat_lt, sym, ap₂}
use Rattle.std.specs.List.{list_all}
use Rattle.graph_paths.specs.Paths.{targets}
use Rattle.graph_paths.specs.Ranks.{rank}
use Rattle.graph_paths.proofs.Rising.{not_circular}
use Rattle.graph_paths.proofs.circles.is_circular_among.Goals as goal

pub returns-then-are_higher : goal.returns-then-are_higher
returns-then-are_higher c =
    let raised : list_all (λ b. nat_lt (rank c.args.ranks.now c.args.node) (rank c.args.ranks.now b)) (targets c.args.next.now c.args.node) ≡ true =
    ap₂ (λ (own : ℕ) (nodes : List ℕ). list_all (λ b. nat_lt own (rank c.args.ranks.now b)) nodes) (sym c.rank.ensures) (sym c.row.ensures) ∙ (sym c.are_higher.ensures ∙ c.if-are_higher.true) in
    (λ e. absurd (cc e), λ r. absurd (not_circular c.args.next.now c.args.ranks.now c.args.node c.requires.ranks raised r))
