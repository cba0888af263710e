use Rattle.std.proofs.Common.{List, ℕ, ap, ◌∙◌}
use Rattle.std.specs.Prelude.{position}
use Rattle.std.specs.Borrow.{Bor}
use Rattle.lisa_tree.specs.Same.{same_name}
use Rattle.stage_checks.specs.Graphs.{names_in}
use Rattle.lisa_forms.specs.Ways.{by_place}
use Rattle.lisa_forms.proofs.Kept.{next_way}
use Rattle.lisa_forms.proofs.ways.ways_past.Goals as goal

pub loop-name-preserved : goal.loop-name-preserved
loop-name-preserved g c =
    next_way (g.N.Names.tree c.args.names.now) c.args.operation c.deref-name-items.result.now c.loop-name.name-index c.name-item.result c.deref.result.now c.loop-name.row.items c.push.new.self.items c.by_name.result c.loop-name-test.true
    (ap names_in c.deref.ensures.value ∙ c.in_ok-children.ensures) c.in_ok-push.ensures.items
    (c.by_name.ensures ∙ ap (λ (y : Bor (List ℕ)). by_place (position (same_name y.now) (names_in c.deref.result.now))) c.name-item.is) c.loop-name.invariant
