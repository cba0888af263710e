use Rattle.std.proofs.Common.{refl}
use Rattle.lisa_engine.specs.Machines.{machine_of}
use Rattle.engine_commands.proofs.Made.{is_made, made_first, made_small}
use Rattle.checked_descriptions.specs.ToolViews.{checked_of}
use Rattle.description_commands.specs.Runs.{described_machine}
use Rattle.description_commands.proofs.Wanted.{made_wanted}
use Rattle.description_commands.proofs.running.do_with_image.Goals as goal

pub do_made-requires-clause-first : goal.do_made-requires-clause-first
do_made-requires-clause-first g c =
    let m = described_machine (checked_of c.args.tools.now) c.args.image.now in
    made_first _ _ (machine_of m.pins c.args.tools.now.forms.items.items m.arrays m.defined) c.make-made.result c.make-made.ensures.first c.make-made.ensures.machine

pub do_made-requires-clause-few : goal.do_made-requires-clause-few
do_made-requires-clause-few g c =
    let m = described_machine (checked_of c.args.tools.now) c.args.image.now in
    let limits = c.requires.tools.forms.limits in
    made_small _ m c.make-made.result
    (made_wanted _ _ _ _ _ m c.make-made.result c.make-made.ensures.machine refl c.requires.tools.forms.all_items refl refl)
    (record { few_items = limits.few_items; few_pins = limits.few_pins })

pub returns-clause-ends : goal.returns-clause-ends
returns-clause-ends g c =
    let m = described_machine (checked_of c.args.tools.now) c.args.image.now in
    c.do_made.ensures.ends m c.args.image.now (is_made _ m c.args.image.now c.make-made.result
    (made_wanted _ _ _ _ _ m c.make-made.result c.make-made.ensures.machine refl c.requires.tools.forms.all_items refl refl) c.make-made.ensures.found c.make-made.ensures.missing)
