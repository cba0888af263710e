use Rattle.pattern_tables.proofs.Decoding.{NoneYet}
use Rattle.pattern_tables.proofs.decoder.Decoder.decode.Given as goal

abbrev pub invariant-tables : goal.invariant-tables
invariant-tables g l = NoneYet l.word l.self l.table-index l.fn.steps l.steps
