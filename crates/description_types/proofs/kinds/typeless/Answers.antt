use Rattle.std.proofs.Common.{◌≡◌, ◌&&◌, ◌||◌, List, Bool, ap₂, ◌∙◌, arith}
use Rattle.std.specs.Option.{is_some}
use Rattle.lisa_tree.specs.Paths.{entry_node}
use Rattle.graph_paths.specs.Paths.{saw}
use Rattle.least_fixed_points.specs.Settles.{entry}
use Rattle.description_types.proofs.KnownMarks.{typeless_name}
use Rattle.description_types.proofs.kinds.typeless.Goals as goal

pub returns : goal.returns
returns g c =
    typeless_name (g.N.Names.tree c.args.names.now) (entry c.args.types.now) (saw c.in_ok-incomplete.incomplete.items) (saw c.in_ok-typeless.typeless.items) c.in_ok-marks.marks.items
    c.in_ok-incomplete.ensures c.in_ok-typeless.ensures (omega (arith, c.in_ok-marks.ensures.length, c.entry_count.ensures))
    (λ i h.
    c.in_ok-marks.ensures.exact i (omega (arith, h, c.entry_count.ensures))
    ∙ ap₂ (λ (x y : List Bool). saw x i || (saw y i && is_some (entry c.args.types.now (entry_node (g.N.Names.tree c.args.names.now) i)))) c.deref.ensures.value c.deref-2.ensures.value)
