use Rattle.std.proofs.Common.{◌∙◌, sym, ap}
use Rattle.std.specs.Prelude.{option_map}
use Rattle.form_texts.specs.Strings.{strings_at}
use Rattle.form_texts.proofs.Tabled.{none_dotted}
use Rattle.form_texts.proofs.conditions.part_dotted.Goals as goal

pub returns-in-None : goal.returns-in-None
returns-in-None c =
    rw c.in-Shared.is
    (none_dotted c.args.table.now c.requires.opened c.in-Shared.number (ap (λ l. strings_at l c.in-Shared.number) (sym c.deref-in-Shared.ensures.value) ∙ sym c.kept.ensures ∙ ap (option_map (λ s. s.now)) c.in-None.is))
