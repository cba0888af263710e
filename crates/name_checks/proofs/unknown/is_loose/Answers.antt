use Rattle.std.proofs.Common.{◌≡◌, ◌&&◌, ℕ, Bool, Some, ap₂, sym, ◌∙◌}
use Rattle.graph_paths.specs.Paths.{saw}
use Rattle.lisa_tree.specs.Declarations.{declared_at}
use Rattle.name_checks.proofs.Loose.{loose_named}
use Rattle.name_checks.proofs.unknown.is_loose.Goals as goal

pub returns-in-Some : goal.returns-in-Some
returns-in-Some g c =
    let d = g.N.Names.tree c.args.names.now in
    let i = c.in-Some.entry in
    let named : declared_at d c.args.operation c.args.name.now ≡ Some i = sym c.declared_at.ensures ∙ c.in-Some.is in
    c.are_both.ensures ∙ ap₂ (λ (x y : Bool). x && y) c.is_reference.ensures c.is_marked_loose.ensures ∙ loose_named d c.args.operation c.args.name.now i (saw c.args.lacking.now i) named (c.requires i)
