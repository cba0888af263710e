use Rattle.std.proofs.Common.{ℕ, List, ◌∙◌, ap}
use Rattle.std.specs.Prelude.{not}
use Rattle.std.specs.List.{list_any}
use Rattle.std.specs.Str.{bytes_eq}
use Rattle.vcd_trace.specs.Written.{Variable}
use Rattle.vcd_trace.specs.Meaning.{blocks}
use Rattle.vcd_trace.specs.VcdFaults.{first_changes}
use Rattle.vcd_trace.proofs.firsts.Firsts.lacks.Goals as goal

pub returns : goal.returns
returns c =
    ap not (c.contains.ensures ∙ c.args.self.now.given c.variable.inside.code
    ∙ ap (λ (n : List ℕ). list_any (λ x. bytes_eq x.code n) (first_changes (blocks c.args.self.now.events.now))) (ap (λ (v : Variable). v.code) c.variable.view_is))
