use Rattle.std.proofs.Common.{◌∙◌, [], Ok, refl, sym, ap}
use Rattle.lisa_engine.specs.Machines.{Machine}
use Rattle.lisa_sim.specs.declared.simulator.Simulator.{Simulator}
use Rattle.lisa_outcomes.proofs.Stages.{passed_replies, stopped_replies}
use Rattle.engine_commands.proofs.Made.{made_finds, unmade_finds}
use Rattle.checked_descriptions.specs.ToolViews.{checked_of}
use Rattle.description_commands.specs.Runs.{described_machine}
use Rattle.description_commands.specs.Occupancies.{OccupiesUnder}
use Rattle.description_commands.proofs.Wanted.{made_wanted}
use Rattle.description_commands.proofs.Watching.{machine}
use Rattle.description_commands.proofs.occupancy.count_with_image.Goals as goal

pub count_under-requires-clause-first : goal.count_under-requires-clause-first
count_under-requires-clause-first g c = c.in-Ok.ensures.first ∙ sym (ap (λ (m : Machine). m.defined []) c.in-Ok.ensures.machine)

pub returns-in-Ok : goal.returns-in-Ok
returns-in-Ok g c =
    let m = described_machine (checked_of c.args.tools.now) c.args.image.now in
    passed_replies {T = Unit {0}} machine _ _ (OccupiesUnder c.args.edges (checked_of c.args.tools.now).tree c.args.schedule.now c.args.image.now) c.in-Ok.simulator _ _ _ _ _
    (made_finds machine m c.args.image.now c.in-Ok.simulator (record {
      is = made_wanted {E = Simulator} machine m.pins c.args.tools.now.forms.items.items m.arrays m.defined m (Ok c.in-Ok.simulator) c.in-Ok.ensures.machine refl c.requires.tools.forms.all_items refl refl;
      found = c.in-Ok.ensures.found;
      missing = c.in-Ok.ensures.missing;
    }))
    (rw c.in-Ok.ensures.image at c.count_under.ensures)

pub returns-in-Err : goal.returns-in-Err
returns-in-Err g c =
    let m = described_machine (checked_of c.args.tools.now) c.args.image.now in
    rw c.unmade.ensures (stopped_replies {X = Simulator} {T = Unit {0}} machine _ _ (OccupiesUnder c.args.edges (checked_of c.args.tools.now).tree c.args.schedule.now c.args.image.now) _ _ _
    (unmade_finds machine m c.args.image.now c.in-Err.fault (record { is = tt; found = tt; missing = c.in-Err.ensures.missing })))
