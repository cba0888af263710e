use Rattle.std.proofs.Common.{◌≡◌, Some, inr, refl, length}
use Rattle.std.specs.List.{slice_get}
use Rattle.std.proofs.lemmas.Option.{slice_get_read}
use Rattle.verilog_module_reader.proofs.ModuleLaws.{place_there}
use Rattle.verilog_module_reader.proofs.reading.fault.Goals as goal

pub returns-in-Some-clause-place : goal.returns-in-Some-clause-place
returns-in-Some-clause-place c =
    let tokens = c.args.tokens.now in
    let e : slice_get tokens c.saturating_sub.result ≡ Some c.in-Some.token.now =
    slice_get_read tokens (length tokens) c.saturating_sub.result c.in-Some.token.now refl c.in-Some.ensures.lookup.3.0 c.in-Some.ensures.lookup.1 in
    inr (place_there tokens c.saturating_sub.result c.in-Some.token.now e)
