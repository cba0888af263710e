use Rattle.use_promises.proofs.lisa_machine_proofs.Sound.{sound}
use Rattle.use_promises.proofs.lisa_machine_proofs.Forward.{main_is}
use Rattle.use_promises.proofs.Shown.{shown_fits}
use Rattle.lisa_meaning.proofs.Itemed.{edges_have_items}
use Rattle.lisa_meaning.proofs.Nodes.{listed, no_stage}
use Rattle.lisa_meaning.proofs.Shown.{registers_fit, arrays_distinct}
use Rattle.lisa_meaning.proofs.laws.edges_have_items.Goals as goal

pub returns : goal.returns
returns c d accepted timed =
    let s = sound d accepted in
    let shows = shown_fits d s.names s.widths s.depths in
    let m = main_is d s.main in
    edges_have_items d (registers_fit d shows) (arrays_distinct d shows) (listed d m.number m.named (no_stage d m.number m.operation m.is m.no_stage)) timed
