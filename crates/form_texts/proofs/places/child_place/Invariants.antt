use Rattle.std.proofs.Common.{◌≡◌, ◌≤◌, ◌+◌, drop}
use Rattle.form_texts.specs.Syntaxes.{child_names, place_in}
use Rattle.form_texts.proofs.places.child_place.Given as goal

abbrev pub invariant-loop-item : goal.invariant-loop-item
invariant-loop-item l = record {
  within : l.place ≤ l.item-index;
  place : l.place + place_in l.name (child_names (drop l.item-index l.items)) ≡ place_in l.name (child_names l.items);
}
