use Rattle.std.proofs.Common.{◌≡◌, ◌∙◌, sym, inr}
use Rattle.std.proofs.lemmas.Result.{IfOk-weaker}
use Rattle.lisa_machine.specs.Verdicts.{from_unknowns, from_duplicates}
use Rattle.lisa_machine.proofs.firsts.from_duplicates.Goals as goal

pub returns-in-Ok-None : goal.returns-in-Ok-None
returns-in-Ok-None g c = IfOk-weaker c.from_unknowns.result (from_unknowns (g.N.Names.tree c.args.names.now)) (from_duplicates (g.N.Names.tree c.args.names.now)) (λ x rest. inr (sym c.in-Ok-None.field-0-is ∙ c.in-Ok-None.ensures, rest)) c.from_unknowns.ensures
