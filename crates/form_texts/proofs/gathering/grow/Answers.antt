use Rattle.std.proofs.Common.{sym, ap, map, ◌∙◌}
use Rattle.std.specs.Prelude.{option_map}
use Rattle.text_tables.specs.Parts.{text_pieces}
use Rattle.text_tables.specs.Shared.{shapes_at}
use Rattle.form_texts.specs.Strings.{strings_at}
use Rattle.form_texts.proofs.Pieces.{strings_grown}
use Rattle.form_texts.proofs.Stringed.{on_three}
use Rattle.form_texts.proofs.gathering.grow.Goals as goal

pub returns-in-Some-kept : goal.returns-in-Some-kept
returns-in-Some-kept c =
    let t = c.args.table.now in
    let old = c.args.growing.now in
    let new = c.add_strings.new.growing in
    let o = c.in-Some.number in
    let k = c.in-Some-kept.strings.now in
    let at = ap (λ l. strings_at l o) (sym c.deref.ensures.value) ∙ sym c.kept.ensures ∙ ap (option_map (λ s. s.now)) c.in-Some-kept.is in
    on_three c.add_strings.result c.add_strings.ensures.parts c.add_strings.ensures.shapes c.add_strings.ensures.run (λ parts shapes run rest.
    strings_grown t.strings.items o k (shapes_at (map (λ v. v.items) t.shared.items) o) at (c.requires.opened.opened o k at) (text_pieces t.shared.items old.parts.items) (text_pieces t.shared.items new.parts.items) old.pieces.shapes.items
    old.pieces.run.items (parts t.shared.items) new.pieces.shapes.items new.pieces.run.items shapes run c.args.symbol (sym c.strings_number.ensures ∙ c.in-Some.is) rest)
