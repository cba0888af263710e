use Rattle.std.proofs.Common.{rules}
use Rattle.lisa_object.proofs.WordLaws.{decimal_is}
use Rattle.lisa_object.proofs.words.decimal_word.Goals as goal

pub returns : goal.returns
returns c = decimal_is c.canonical_decimal.result c.args.word.now (search rules) c.canonical_decimal.ensures.read c.canonical_decimal.ensures.found
