use Rattle.std.proofs.Common.{rules}
use Rattle.lisa_object.proofs.WordLaws.{hex_is}
use Rattle.lisa_object.proofs.words.hex_word.Goals as goal

pub returns : goal.returns
returns c = hex_is c.canonical_hex.result c.args.word.now (search rules) c.canonical_hex.ensures.read c.canonical_hex.ensures.found
