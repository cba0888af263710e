use Rattle.std.proofs.Common.{◌≡◌, [], drop}
use Rattle.name_checks.specs.Doubled.{again_in, field_names}
use Rattle.name_checks.proofs.repeats.first_field_again.Given as goal

abbrev pub invariant-loop-name : goal.invariant-loop-name
invariant-loop-name l = again_in [] (field_names l.fields) ≡ again_in l.seen.keys.items (field_names (drop l.name-index l.fields))
