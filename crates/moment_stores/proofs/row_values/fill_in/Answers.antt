use Rattle.std.proofs.Common.{arith}
use Rattle.moment_stores.specs.Rows.{rows}
use Rattle.moment_stores.proofs.Tables.{table_ext}
use Rattle.moment_stores.proofs.row_values.fill_in.Goals as goal

pub returns : goal.returns
returns g c = table_ext c.args.count c.args.width (λ s f. c.args.value) c.args.value (rows c.each.all) c.each.invariant.shape (λ s f less inside. c.each.invariant.filled s f c.args.value (omega (arith, less, c.each-test.false)) inside)
