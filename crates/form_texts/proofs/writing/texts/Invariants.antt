use Rattle.std.proofs.Common.{◌≡◌, [], map, take}
use Rattle.instruction_forms.specs.Trees.{FormTree, form_tree}
use Rattle.instruction_texts.specs.Symbols.{gather, shown_values}
use Rattle.text_tables.specs.Parts.{text_pieces}
use Rattle.form_texts.specs.Written.{written}
use Rattle.form_texts.proofs.writing.texts.Given as goal

abbrev pub invariant-loop-form : goal.invariant-loop-form
invariant-loop-form g l =
    let d = g.N.Names.tree l.names in
    record {
      pieces : map (λ v. text_pieces l.templates.table.shared.items v.items) l.texts.items ≡ map (λ (f : FormTree). gather [] (written d f)) (map form_tree (take l.form-index l.forms));
      orders : map (λ v. v.items) l.orders.items ≡ map (λ (f : FormTree). shown_values (written d f)) (map form_tree (take l.form-index l.forms));
    }
