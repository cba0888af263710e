use Rattle.std.proofs.Common.{◌≡◌, true, false, sym, ◌∙◌}
use Rattle.asm_source.specs.Numbers.{starts_hex, number_of}
use Rattle.asm_source.proofs.Numerals.{numeral_is}
use Rattle.asm_source.proofs.numbers.number.Goals as goal

pub returns-then-starts_hex : goal.returns-then-starts_hex
unfolding number_of
returns-then-starts_hex c =
    let hex : starts_hex c.args.word.now ≡ true = sym c.starts_hex.ensures.value ∙ c.if-starts_hex.true in
    rw (hex, ← c.split_at.ensures.back) (numeral_is 16 c.split_at.result.1.now c.hex_value.result c.hex_value.ensures)

pub returns : goal.returns
unfolding number_of
returns c =
    let plain : starts_hex c.args.word.now ≡ false = sym c.starts_hex.ensures.value ∙ c.if-starts_hex.false in
    rw plain (numeral_is 10 c.args.word.now c.decimal_value.result c.decimal_value.ensures)
