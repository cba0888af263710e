use Rattle.std.proofs.Common.{◌∙◌, ◌-◌, ◌++◌, [], List, ℕ, map, ap, sym, take, drop, length}
use Rattle.instruction_texts.specs.Symbols.{text_sym, gather}
use Rattle.text_tables.proofs.Opened.{rest_is}
use Rattle.form_texts.specs.Pieces.{dotted}
use Rattle.form_texts.specs.declared.strings.Strings.{Strings}
use Rattle.form_texts.proofs.Stringed.{made_opened}
use Rattle.form_texts.proofs.Tabled.{more_opened}
use Rattle.form_texts.proofs.strings.keep.Goals as goal

pub returns-clause-opened : goal.returns-clause-opened
returns-clause-opened c =
    let text = c.args.text.items in
    let head = c.args.head in
    let pieces = c.in_ok-shapes.field-0 in
    let strings : Strings = record { text = c.args.text; head = head; run = pieces.run; dotted = c.dotted-dotted.result } in
    more_opened c.args.table.now _ strings pieces.shapes c.in_ok-push.ensures.items c.in_ok-push-2.ensures.items c.requires.opened
    (made_opened strings pieces.shapes.items c.requires.within c.requires.words c.requires.behind
    (λ rest. c.in_ok-shapes.ensures rest
    ∙ ap (λ (l : List ℕ). gather [] (map text_sym l ++ rest)) (ap (λ (xs : List ℕ). take (length xs - head) (drop head xs)) c.deref.ensures.value ∙ rest_is head text))
    (sym (c.dotted-dotted.ensures ∙ ap dotted c.deref-2.ensures.value)))
    c.requires.within
