use Rattle.engine_commands.proofs.Made.{is_made, made_first, made_small}
use Rattle.module_commands.specs.Designs.{clock_machine}
use Rattle.module_commands.specs.DesignViews.{design_of}
use Rattle.module_commands.proofs.clocking.do_with_parts.Goals as goal

pub do_made-requires-clause-first : goal.do_made-requires-clause-first
do_made-requires-clause-first g c = made_first _ _ (clock_machine (design_of c.args.parts.now)) c.make-made.result c.make-made.ensures.first c.make-made.ensures.machine

pub do_made-requires-clause-few : goal.do_made-requires-clause-few
do_made-requires-clause-few g c =
    let clockable = c.requires.clockable in
    made_small _ (clock_machine (design_of c.args.parts.now)) c.make-made.result c.make-made.ensures.machine
    (record { few_items = clockable.few_items; few_pins = clockable.few_pins })

pub returns-clause-ends : goal.returns-clause-ends
returns-clause-ends g c =
    c.do_made.ensures.ends (clock_machine (design_of c.args.parts.now)) c.args.parts.now.image
    (is_made _ (clock_machine (design_of c.args.parts.now)) c.args.parts.now.image c.make-made.result c.make-made.ensures.machine c.make-made.ensures.found c.make-made.ensures.missing)
