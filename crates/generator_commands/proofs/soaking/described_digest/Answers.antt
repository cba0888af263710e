use Rattle.std.proofs.Common.{◌∙◌, refl, sym}
use Rattle.lisa_engine.specs.Machines.{machine_of}
use Rattle.lisa_outcomes.proofs.Told.{none_is_no_some}
use Rattle.engine_commands.proofs.Made.{made_first}
use Rattle.assembler_commands.specs.checked_descriptions.ToolViews.{checked_of}
use Rattle.description_commands.specs.Runs.{described_machine}
use Rattle.description_commands.proofs.Wanted.{made_wanted}
use Rattle.generator_commands.proofs.soaking.described_digest.Goals as goal

pub made_digest-requires-clause-first : goal.made_digest-requires-clause-first
made_digest-requires-clause-first c =
    let m = described_machine (checked_of c.args.tools.now) c.args.image.now in
    made_first _ _ (machine_of m.pins c.args.tools.now.forms.items.items m.arrays m.defined) c.make-made.result c.make-made.ensures.first c.make-made.ensures.machine

pub made_digest-requires-clause-there : goal.made_digest-requires-clause-there
made_digest-requires-clause-there c = λ name is. none_is_no_some name (sym c.requires.found ∙ c.make-made.ensures.missing name is)

pub returns : goal.returns
returns c =
    let m = described_machine (checked_of c.args.tools.now) c.args.image.now in
    c.made_digest.ensures m (made_wanted _ _ _ _ _ m c.make-made.result c.make-made.ensures.machine refl c.requires.tools.forms.all_items refl refl)
