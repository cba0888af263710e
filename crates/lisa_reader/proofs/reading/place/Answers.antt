use Rattle.std.proofs.Common.{◌≡◌, Some, inl, refl, length}
use Rattle.std.specs.List.{slice_get}
use Rattle.std.proofs.lemmas.Option.{slice_get_read}
use Rattle.lisa_behav_reader.proofs.PlaceLaws.{place_there}
use Rattle.lisa_reader.proofs.reading.place.Goals as goal

pub returns-in-Some : goal.returns-in-Some
returns-in-Some c =
    let tokens = c.args.tokens.now in
    let e : slice_get tokens c.saturating_sub.result ≡ Some c.in-Some.token.now =
    slice_get_read tokens (length tokens) c.saturating_sub.result c.in-Some.token.now refl c.in-Some.ensures.lookup.3.0 c.in-Some.ensures.lookup.1 in
    inl (place_there tokens c.saturating_sub.result c.in-Some.token.now e)
