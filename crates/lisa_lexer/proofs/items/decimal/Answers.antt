use Rattle.std.proofs.Common.{◌≡◌, ℕ, ◌^◌, List, take, sym, ap, subst, ◌∙◌}
use Rattle.std.specs.List.{prefix_len}
use Rattle.lisa_words.specs.Numerals.{IsNumeralBelow}
use Rattle.lisa_words.specs.Bytes.{is_digit}
use Rattle.lisa_lexer.proofs.NumberLaws.{decimal_wide}
use Rattle.lisa_lexer.proofs.items.decimal.Goals as goal

pub returns-in_default : goal.returns-in_default
returns-in_default c =
    let cut : c.split_at.result.0.now ≡ take (prefix_len is_digit c.args.bytes.now) c.args.bytes.now = c.split_at.ensures.front ∙ ap (λ (n : ℕ). take n c.args.bytes.now) c.digits_len-len.ensures.value in
    decimal_wide c.args.at c.args.bytes.now c.requires.some (λ h. c.in_default.ensures (subst (λ (l : List ℕ). IsNumeralBelow 10 (2 ^ 64) l) (sym cut) h))
