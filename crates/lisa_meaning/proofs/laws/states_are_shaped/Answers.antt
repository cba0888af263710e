use Rattle.use_promises.proofs.lisa_machine_proofs.Sound.{sound}
use Rattle.use_promises.proofs.Shown.{shown_fits}
use Rattle.lisa_meaning.proofs.Shaped.{shaped}
use Rattle.lisa_meaning.proofs.Shown.{registers_fit, arrays_distinct}
use Rattle.lisa_meaning.proofs.laws.states_are_shaped.Goals as goal

pub returns : goal.returns
returns c d width image entries accepted =
    let s = sound d accepted in
    let shows = shown_fits d s.names s.widths s.depths in
    shaped d (registers_fit d shows) (arrays_distinct d shows) width image entries
