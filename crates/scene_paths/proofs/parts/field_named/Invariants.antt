use Rattle.std.proofs.Common.{◌≡◌, drop}
use Rattle.std.specs.Prelude.{find}
use Rattle.lisa_tree.specs.Same.{same_name}
use Rattle.lisa_meaning.specs.instruction_forms.declared.form.Field.{Field}
use Rattle.scene_paths.proofs.parts.field_named.Given as goal

abbrev pub invariant-each : goal.invariant-each
invariant-each l = find (λ (own : Field). same_name l.name own.label) l.fields ≡ find (λ (own : Field). same_name l.name own.label) (drop l.own-index l.fields)
