-- What stays as it is over one change after another.
use Rattle.std.proofs.Common.{refl, ◌∙◌}
use Rattle.moment_stores.specs.declared.store.Store.{Store}
use Rattle.moment_stores.specs.Stores.{Keeps, KeepsMachine, KeepsPlace}

pub machine_then : (a b c : Store) → KeepsMachine a b → KeepsMachine b c → KeepsMachine a c
machine_then a b c first second = record {
  description = second.description ∙ first.description;
  image = second.image ∙ first.image;
  room = second.room ∙ first.room;
}

pub place_then : (a b c : Store) → KeepsPlace a b → KeepsPlace b c → KeepsPlace a c
place_then a b c first second = record {
  machine = machine_then a b c first.machine second.machine;
  before = second.before ∙ first.before;
}

pub keeps_none : (a : Store) → Keeps a a
keeps_none a = record {
  place = record { machine = record { description = refl; image = refl; room = refl }; before = refl };
  outer = refl;
}

pub keeps_then : (a b c : Store) → Keeps a b → Keeps b c → Keeps a c
keeps_then a b c first second = record {
  place = place_then a b c first.place second.place;
  outer = second.outer ∙ first.outer;
}
