use Rattle.std.proofs.Common.{◌≡◌, sym, ap, ◌∙◌}
use Rattle.vcd_trace.specs.Meaning.{dump_of}
use Rattle.vcd_trace.proofs.laws.dumps_are_unique.Goals as goal

pub returns : goal.returns
returns c = λ bytes d e (f, is, sound, d_is) (g, other, also, e_is).
    let same : f ≡ g = cc in
    d_is ∙ ap dump_of same ∙ sym e_is
