use Rattle.std.proofs.Common.{get_or, refl}
use Rattle.std.specs.List.{flat_map}
use Rattle.instruction_texts.specs.Symbols.{shown_values}
use Rattle.form_texts.specs.Strings.{symbols_of}
use Rattle.form_texts.specs.declared.symbols.Symbol.TheVariants as symbols
use Rattle.form_texts.proofs.Stringed.{shown_on, shown_end}
use Rattle.form_texts.proofs.gathering.order.Goals as goal

pub loop-symbol-preserved : goal.loop-symbol-preserved
loop-symbol-preserved c = λ strings.
    let all = c.args.symbols.now in
    let i = c.loop-symbol.symbol-index in
    shown_on strings all i (get_or all i (symbols.Byte 0)) (symbols.Byte 0) c.loop-symbol-test.true refl c.loop-symbol.order.items c.add_field.new.order.items (shown_values (flat_map (symbols_of strings) all)) c.in_ok-add_field.ensures
    (c.loop-symbol.invariant strings)

pub returns : goal.returns
returns c = λ strings.
    shown_end strings c.args.symbols.now c.loop-symbol.symbol-index c.loop-symbol.order.items (shown_values (flat_map (symbols_of strings) c.args.symbols.now)) c.loop-symbol-test.false (c.loop-symbol.invariant strings)
