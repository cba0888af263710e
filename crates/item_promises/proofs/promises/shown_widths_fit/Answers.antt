use Rattle.use_promises.proofs.lisa_machine_proofs.Sound.{sound}
use Rattle.use_promises.proofs.Shown.{shown_fits}
use Rattle.item_promises.proofs.Wide.{widths_fit}
use Rattle.item_promises.proofs.promises.shown_widths_fit.Goals as goal

pub returns : goal.returns
returns c d width accepted spelled has given =
    let s = sound d accepted in
    widths_fit d width s (shown_fits d s.names s.widths s.depths) spelled has given
