use Rattle.std.proofs.Common.{◌∙◌, sym, ap}
use Rattle.vcd_trace.specs.Written.{Variable}
use Rattle.vcd_trace.proofs.CodeLaws.{place_is, no_place}
use Rattle.vcd_trace.proofs.codes.Codes.width.Goals as goal

pub returns-in-Some : goal.returns-in-Some
returns-in-Some c =
    ap (λ (v : Variable). v.width) c.variable.view_is
    ∙ sym (place_is c.args.self.now.variables.now c.args.code.now c.in-Some.place c.index-self-place.result (sym c.in-Some.ensures.place)).2

pub returns-in-None : goal.returns-in-None
returns-in-None c = sym (no_place c.args.self.now.variables.now c.args.code.now (sym c.in-None.ensures.place))
