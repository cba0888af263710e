use Rattle.std.proofs.Common.{map}
use Rattle.pattern_tables.specs.Places.{pair_of}
use Rattle.form_patterns.proofs.Placing.{places_made}
use Rattle.form_patterns.proofs.field_places.+add_places.Goals as goal

pub returns : goal.returns
returns t c =
    places_made c.args.form.now c.deref.result.now c.deref-child-items.result.now c.loop-child.child-index (map pair_of c.args.all.now.items) (map pair_of c.add_fields.new.all.items) (map pair_of c.loop-child.all.items)
    c.deref.ensures.value c.deref-child-items.ensures.value c.loop-child-test.false c.in_ok-add_fields.ensures c.loop-child.invariant
