use Rattle.std.proofs.Common.{◌/◌, ◌^◌, arith}
use Rattle.pattern_tables.proofs.Weighing.{cut}
use Rattle.pattern_tables.proofs.fields.field.Goals as goal

pub returns : goal.returns
returns c = cut (c.args.word / 2 ^ c.args.place.lsb) c.args.place.width (omega arith)
