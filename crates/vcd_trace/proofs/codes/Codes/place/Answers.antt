use Rattle.vcd_trace.proofs.CodeLaws.{place_below}
use Rattle.vcd_trace.proofs.codes.Codes.place.Goals as goal

pub returns-clause-within : goal.returns-clause-within
returns-clause-within c = place_below c.find.result c.args.self.now.variables.now c.args.code.now c.find.ensures
