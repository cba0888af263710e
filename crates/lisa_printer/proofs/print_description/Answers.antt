use Rattle.std.proofs.Common.{List, ℕ, ◌∙◌, sym, ap, subst}
use Rattle.std.specs.Prelude.{◌↔◌}
use Rattle.std.proofs.lemmas.Result.{IfOk-weaker}
use Rattle.lisa_tree.specs.Descriptions.{description_tree}
use Rattle.lisa_tree.specs.Brackets.{IsFlat}
use Rattle.lisa_tree.specs.Texts.{SpellsText}
use Rattle.lisa_printer.specs.CanonicalTokens.{description_tokens}
use Rattle.lisa_printer.specs.Sheets.{Sheet, finished, write_all}
use Rattle.lisa_printer.proofs.SheetLaws.{text_is}
use Rattle.lisa_printer.proofs.TextLaws.{text_spells, text_flat}
use Rattle.lisa_printer.proofs.print_description.Goals as goal

pub returns-clause-exact : goal.returns-clause-exact
returns-clause-exact c =
    IfOk-weaker c.finish.result _ _
    (λ v e.
    e ∙ ap finished (c.in_ok-put_description.ensures ∙ ap (λ (s : Sheet). write_all s (description_tokens (description_tree c.args.d.now))) c.new-page.ensures)
    ∙ text_is (description_tokens (description_tree c.args.d.now)))
    c.finish.ensures

pub returns-clause-spelled : goal.returns-clause-spelled
returns-clause-spelled c bytes s =
    let d = description_tree c.args.d.now in
    IfOk-weaker c.finish.result _ _
    (λ v e. subst (λ (l : List ℕ). SpellsText l d ↔ IsFlat (description_tokens d)) (sym e) (text_flat bytes d s, text_spells bytes d s))
    (returns-clause-exact c)
