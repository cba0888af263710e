use Rattle.std.proofs.Common.{◌≡◌, ◌++◌, map, take}
use Rattle.pattern_tables.specs.Places.{pair_of}
use Rattle.form_patterns.proofs.Placing.{place_of}
use Rattle.form_patterns.proofs.field_places.add_fields.Given as goal

abbrev pub invariant-loop-field : goal.invariant-loop-field
invariant-loop-field l = map pair_of l.all.items ≡ map pair_of l.initial.all.items ++ map place_of (take l.field-index l.fields)
