use Rattle.std.proofs.Common.{◌≡◌, ◌+◌, ◌∙◌, ap, refl, subst, arith, length, take, ℕ}
use Rattle.lisa_engine.specs.PinValues.{after_lines}
use Rattle.lisa_engine.proofs.Edges.{ArePlayed, led_more}
use Rattle.lisa_sim.specs.Simulators.{description_of}
use Rattle.description_commands.specs.Occupied.{IsOccupancy}
use Rattle.description_commands.proofs.Watching.{present, machine, past_of, none_counted, none_watched, pins_fit, room_executed, room_held, room_flushed, watched_more}
use Rattle.description_commands.proofs.occupancy.count_edges.Goals as goal

pub loop-made-init : goal.loop-made-init
loop-made-init c =
    let first = c.args.simulator.now in
    let same : length c.fill.new.self ≡ length (machine first).pins = c.fill.ensures.len ∙ c.requires.room in
    none_watched first c.args.schedule.now c.play-next.result c.play-next.new.into _
    (record { place = c.play-next.ensures.place; values = c.play-next.ensures.values ∙ ap (λ n. after_lines n (take c.play-next.result c.args.schedule.now)) same })
    (none_counted (description_of first) _ refl refl refl)

pub edge_seen-requires : goal.edge_seen-requires
edge_seen-requires c =
    let first = c.args.simulator.now in
    let lines = c.args.schedule.now in
    let same : length c.loop-made.pins ≡ length (machine first).pins = omega (arith, c.loop-made.auto.pins, c.requires.room) in
    let played : ArePlayed lines (length (machine first).pins) (c.loop-made.made + 1) c.play-next-in-loop-made.result c.play-next-in-loop-made.new.into
    = record { place = c.play-next-in-loop-made.ensures.place; values = c.play-next-in-loop-made.ensures.values ∙ ap (λ n. after_lines n (take c.play-next-in-loop-made.result lines)) same } in
    pins_fit first c.loop-made.simulator lines c.loop-made.made c.loop-made.next c.play-next-in-loop-made.result c.loop-made.pins c.play-next-in-loop-made.new.into c.loop-made.counts c.loop-made.invariant c.requires.schedule played

pub count-requires-clause-executed : goal.count-requires-clause-executed
count-requires-clause-executed c =
    let first = c.args.simulator.now in
    let lines = c.args.schedule.now in
    let same : length c.loop-made.pins ≡ length (machine first).pins = omega (arith, c.loop-made.auto.pins, c.requires.room) in
    let played : ArePlayed lines (length (machine first).pins) (c.loop-made.made + 1) c.play-next-in-loop-made.result c.play-next-in-loop-made.new.into
    = record { place = c.play-next-in-loop-made.ensures.place; values = c.play-next-in-loop-made.ensures.values ∙ ap (λ n. after_lines n (take c.play-next-in-loop-made.result lines)) same } in
    room_executed first c.loop-made.simulator lines c.loop-made.made c.loop-made.next c.play-next-in-loop-made.result c.loop-made.pins c.play-next-in-loop-made.new.into c.loop-made.counts c.loop-made.invariant c.requires.schedule played (omega (arith, c.loop-made-test.true, c.ranges.edges.fits))

pub count-requires-clause-held : goal.count-requires-clause-held
count-requires-clause-held c =
    let first = c.args.simulator.now in
    let lines = c.args.schedule.now in
    let same : length c.loop-made.pins ≡ length (machine first).pins = omega (arith, c.loop-made.auto.pins, c.requires.room) in
    let played : ArePlayed lines (length (machine first).pins) (c.loop-made.made + 1) c.play-next-in-loop-made.result c.play-next-in-loop-made.new.into
    = record { place = c.play-next-in-loop-made.ensures.place; values = c.play-next-in-loop-made.ensures.values ∙ ap (λ n. after_lines n (take c.play-next-in-loop-made.result lines)) same } in
    room_held first c.loop-made.simulator lines c.loop-made.made c.loop-made.next c.play-next-in-loop-made.result c.loop-made.pins c.play-next-in-loop-made.new.into c.loop-made.counts c.loop-made.invariant c.requires.schedule played (omega (arith, c.loop-made-test.true, c.ranges.edges.fits))

pub count-requires-clause-flushed : goal.count-requires-clause-flushed
count-requires-clause-flushed c =
    let first = c.args.simulator.now in
    let lines = c.args.schedule.now in
    let same : length c.loop-made.pins ≡ length (machine first).pins = omega (arith, c.loop-made.auto.pins, c.requires.room) in
    let played : ArePlayed lines (length (machine first).pins) (c.loop-made.made + 1) c.play-next-in-loop-made.result c.play-next-in-loop-made.new.into
    = record { place = c.play-next-in-loop-made.ensures.place; values = c.play-next-in-loop-made.ensures.values ∙ ap (λ n. after_lines n (take c.play-next-in-loop-made.result lines)) same } in
    room_flushed first c.loop-made.simulator lines c.loop-made.made c.loop-made.next c.play-next-in-loop-made.result c.loop-made.pins c.play-next-in-loop-made.new.into c.loop-made.counts c.loop-made.invariant c.requires.schedule played (omega (arith, c.loop-made-test.true, c.ranges.edges.fits))

pub loop-made-preserved : goal.loop-made-preserved
loop-made-preserved c =
    let first = c.args.simulator.now in
    let lines = c.args.schedule.now in
    let same : length c.loop-made.pins ≡ length (machine first).pins = omega (arith, c.loop-made.auto.pins, c.requires.room) in
    let played : ArePlayed lines (length (machine first).pins) (c.loop-made.made + 1) c.play-next-in-loop-made.result c.play-next-in-loop-made.new.into
    = record { place = c.play-next-in-loop-made.ensures.place; values = c.play-next-in-loop-made.ensures.values ∙ ap (λ n. after_lines n (take c.play-next-in-loop-made.result lines)) same } in
    watched_more first c.loop-made.simulator lines c.loop-made.made c.loop-made.next c.play-next-in-loop-made.result c.loop-made.pins c.play-next-in-loop-made.new.into c.loop-made.counts c.loop-made.invariant c.requires.schedule played
    c.edge_seen.new.self c.edge_seen.result c.count.new.self c.requires.first c.edge_seen.ensures.seen
    (led_more present machine first c.loop-made.simulator c.edge_seen.new.self lines 0 c.loop-made.made c.play-next-in-loop-made.result c.play-next-in-loop-made.new.into c.loop-made.invariant.led c.requires.schedule played
    c.edge_seen.ensures.leads c.edge_seen.ensures.machine)
    c.edge_seen.ensures.description c.edge_seen.ensures.image c.count.ensures.executed c.count.ensures.held c.count.ensures.flushed

pub returns : goal.returns
returns c =
    let all : c.loop-made.made ≡ c.args.edges = omega (arith, c.loop-made-test.false, c.loop-made.auto.made-end) in
    subst (λ (n : ℕ). IsOccupancy (description_of c.args.simulator.now) (past_of c.args.simulator.now c.args.schedule.now n) c.loop-made.counts) all c.loop-made.invariant.counted
