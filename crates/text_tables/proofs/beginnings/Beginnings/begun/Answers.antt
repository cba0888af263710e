use Rattle.std.proofs.Common.{◌∙◌, ap, map, arith}
use Rattle.instruction_texts.specs.Starts.{start_of}
use Rattle.text_tables.proofs.Keeping.{gathered}
use Rattle.text_tables.proofs.beginnings.Beginnings.begun.Goals as goal

pub returns : goal.returns
returns c =
    gathered c.args.self.now c.deref-start-items.result.now c.starts.forms.items c.starts.start-index _ (omega arith)
    (ap (map start_of) c.deref-start-items.ensures.value ∙ c.in_ok-starts_of.ensures.exact) c.starts.invariant
