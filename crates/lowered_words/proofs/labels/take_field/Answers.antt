use Rattle.std.proofs.Common.{ap}
use Rattle.std.specs.Prelude.{option_map}
use Rattle.std.specs.Borrow.{Bor}
use Rattle.instruction_forms.specs.declared.form.Field.{Field}
use Rattle.lowered_words.proofs.labels.take_field.Goals as goal

pub cut_out-requires : goal.cut_out-requires
cut_out-requires c = c.requires c.in-Some.field.now (ap (option_map (λ (own : Bor Field). own.now)) c.in-Some.is)
