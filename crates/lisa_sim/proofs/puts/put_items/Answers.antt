use Rattle.std.proofs.Common.{◌≡◌, length, arith, refl, ◌∙◌}
use Rattle.std.proofs.lemmas.Option.{slice_get-get_or}
use Rattle.behavior_runs.specs.moment_stores.Stores.{memory_of, KeepsMachine}
use Rattle.lisa_sim.proofs.Puttings.{item_put, all_put}
use Rattle.lisa_sim.proofs.puts.put_items.Goals as goal

pub each-preserved : goal.each-preserved
each-preserved c =
    let far = c.each.invariant in
    let step = c.put_item.ensures in
    record {
      put = item_put c.args.places.now c.args.items.now c.each.place (memory_of c.args.store.now) (memory_of c.each.store) far.put _ _ (memory_of c.put_item.new.store) (slice_get-get_or c.args.places.now c.each.place _ c.each-test.true) refl step.memory;
      cells = step.cells ∙ far.cells;
      keeps = record {
        description = step.keeps.description ∙ far.keeps.description;
        image = step.keeps.image ∙ far.keeps.image;
        room = step.keeps.room ∙ far.keeps.room;
      };
      touches = step.touches ∙ far.touches;
      count = step.count ∙ far.count;
    }

pub returns-clause-put : goal.returns-clause-put
returns-clause-put c =
    let end : c.each.place ≡ length c.args.places.now = omega arith in
    all_put c.args.places.now c.args.items.now c.each.place (memory_of c.args.store.now) (memory_of c.each.store) end c.each.invariant.put
