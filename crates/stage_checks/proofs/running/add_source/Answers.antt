use Rattle.std.proofs.Common.{◌∙◌, sym, ◌≡◌, true, false, arith}
use Rattle.lisa_tree.specs.Operations.{own_stage}
use Rattle.graph_paths.specs.Paths.{saw}
use Rattle.graph_paths.proofs.Edges.{targets_pushed}
use Rattle.stage_checks.proofs.Nodes.{own_within}
use Rattle.stage_checks.proofs.Rows.{not_reached, is_added}
use Rattle.stage_checks.proofs.running.add_source.Goals as goal

pub returns-then-not-is_reached-clause-added : goal.returns-then-not-is_reached-clause-added
returns-then-not-is_reached-clause-added g c =
    let off : saw c.args.reached.now c.args.node ≡ false = grind arith in
    λ t b. not_reached (own_stage (g.N.Names.tree c.args.names.now)) c.args.reached.now c.args.node t b _ off

pub returns-in_ok-push-clause-added : goal.returns-in_ok-push-clause-added
returns-in_ok-push-clause-added g c =
    let on : saw c.args.reached.now c.args.node ≡ true = grind arith in
    λ t b. targets_pushed c.args.rows.now.items c.in-Some.stage _ _ c.args.node t b (let l = own_within (g.N.Names.tree c.args.names.now) c.args.node c.in-Some.stage (sym c.own_stage.ensures ∙ c.in-Some.is) in omega (arith, l, c.requires)) c.index_mut.ensures.value c.in_ok-push.ensures.items
    ∙ is_added (own_stage (g.N.Names.tree c.args.names.now)) c.args.reached.now c.args.node c.in-Some.stage t b _ on (sym c.own_stage.ensures ∙ c.in-Some.is)
