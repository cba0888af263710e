use Rattle.std.proofs.Common.{◌≡◌, ◌≤◌, ◌+◌, drop}
use Rattle.instruction_forms.specs.Described.{labels}
use Rattle.form_texts.specs.Syntaxes.{place_in}
use Rattle.form_texts.proofs.places.field_place.Given as goal

abbrev pub invariant-loop-item : goal.invariant-loop-item
invariant-loop-item l = record {
  within : l.place ≤ l.item-index;
  place : l.place + place_in l.name (labels (drop l.item-index l.items)) ≡ place_in l.name (labels l.items);
}
