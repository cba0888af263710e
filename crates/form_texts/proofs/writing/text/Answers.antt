use Rattle.std.proofs.Common.{◌∙◌, ℕ, List, [], ap}
use Rattle.std.specs.List.{flat_map}
use Rattle.instruction_texts.specs.Symbols.{Sym, gather, shown_values}
use Rattle.form_texts.specs.Strings.{symbols_of}
use Rattle.form_texts.proofs.writing.text.Goals as goal

pub returns-clause-pieces : goal.returns-clause-pieces
returns-clause-pieces c = λ d are.
    let strings = c.args.templates.now.table.strings.items in
    c.in_ok-parts.ensures
    ∙ ap (λ l. gather [] (flat_map (symbols_of strings) l)) c.deref.ensures.value
    ∙ ap (λ (l : List (Sym ℕ)). gather [] l) (c.in_ok-symbols.ensures d are)

pub returns-clause-order : goal.returns-clause-order
returns-clause-order c = λ d are.
    let strings = c.args.templates.now.table.strings.items in
    c.in_ok-order.ensures strings
    ∙ ap (λ l. shown_values (flat_map (symbols_of strings) l)) c.deref-2.ensures.value
    ∙ ap (λ (l : List (Sym ℕ)). shown_values l) (c.in_ok-symbols.ensures d are)
