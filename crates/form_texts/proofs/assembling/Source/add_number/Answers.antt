use Rattle.std.proofs.Common.{◌++◌, ◌∷◌, [], append-nil, ℕ, List, sym, ap, ◌∙◌}
use Rattle.std.specs.List.{flat_map}
use Rattle.instruction_texts.specs.Symbols.{Sym, Shown}
use Rattle.form_texts.specs.Strings.{symbols_of}
use Rattle.form_texts.specs.Syntaxes.{kind_of}
use Rattle.form_texts.specs.declared.symbols.Symbol.TheVariants as symbols
use Rattle.form_texts.proofs.Naming.{shown_some, shown_none}
use Rattle.form_texts.proofs.Stringed.{pushed}
use Rattle.form_texts.proofs.assembling.Source.add_number.Goals as goal

pub returns-in_ok-push : goal.returns-in_ok-push
returns-in_ok-push c = λ all.
    let source = c.args.self.now in
    let f = symbols_of all in
    let found = c.in-Some.ensures.lookup in
    let old = c.args.symbols.now.items in
    ap (flat_map f) c.in_ok-push.ensures.items
    ∙ pushed f old (symbols.Number c.args.format c.in-Some.field.now.width c.in_ok-number_behind.field-0)
    ∙ ap (λ (n : ℕ). flat_map f old ++ Shown (kind_of c.args.format) c.in-Some.field.now.width n ∷ []) c.in_ok-number_behind.ensures
    ∙ ap (λ (l : List (Sym ℕ)). flat_map f old ++ l) (sym (shown_some (kind_of c.args.format) source.first c.args.place source.fields.now c.in-Some.field.now found.3.0 found.1))

pub returns-in_default : goal.returns-in_default
returns-in_default c = λ all.
    let source = c.args.self.now in
    let old = flat_map (symbols_of all) c.args.symbols.now.items in
    sym (ap (λ (l : List (Sym ℕ)). old ++ l) (shown_none (kind_of c.args.format) source.first c.args.place source.fields.now c.in_default.ensures.lookup.3) ∙ append-nil old)
