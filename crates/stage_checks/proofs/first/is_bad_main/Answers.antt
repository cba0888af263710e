use Rattle.std.proofs.Common.{◌∙◌, ap}
use Rattle.graph_paths.specs.Paths.{saw}
use Rattle.stage_checks.specs.Closing.{closes_well}
use Rattle.stage_checks.proofs.Verdicts.{same_verdict}
use Rattle.stage_checks.proofs.first.is_bad_main.Goals as goal

pub returns : goal.returns
returns g c =
    let d = g.N.Names.tree c.args.names.now in
    record {
      free = saw c.in_ok-free.free.items;
      are_free = c.in_ok-free.ensures;
      verdict = same_verdict d (saw c.in_ok-free.free.items) c.main_fits-fits.result c.closes_well-ends.result c.in_ok-skips.skips c.is_broken.result _ c.is_broken.ensures c.in_ok-main.ensures
          c.main_fits-fits.ensures (c.closes_well-ends.ensures ∙ ap closes_well c.description.ensures) (rw c.deref.ensures.value at c.in_ok-skips.ensures);
    }
