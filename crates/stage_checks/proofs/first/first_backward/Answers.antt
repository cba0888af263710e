use Rattle.std.proofs.Common.{◌∙◌, ap}
use Rattle.lisa_tree.specs.Descriptions.{DescriptionTree}
use Rattle.description_places.specs.Places.{first, description_places}
use Rattle.stage_checks.specs.Spreading.{entry}
use Rattle.stage_checks.specs.Backward.{backward}
use Rattle.stage_checks.proofs.first.first_backward.Goals as goal

pub returns : goal.returns
returns g c =
    let d = g.N.Names.tree c.args.names.now in
    record {
      latest = entry c.in_ok-latest.latest.items;
      are_latest = c.in_ok-latest.ensures;
      first_fault = rw c.deref.ensures.value at c.in_ok-found.ensures.exact
          ∙ ap (λ (t : DescriptionTree). first (backward d (entry c.in_ok-latest.latest.items)) (description_places t)) c.description.ensures;
    }
