use Rattle.std.proofs.Common.{◌≡◌, ℕ, ◌^◌, List, take, sym, ap, subst, ◌∙◌}
use Rattle.std.specs.List.{prefix_len}
use Rattle.lisa_words.specs.Numerals.{IsNumeralBelow}
use Rattle.lisa_words.specs.Bytes.{is_hexadecimal}
use Rattle.lisa_lexer.proofs.NumberLaws.{hexadecimal_wide}
use Rattle.lisa_lexer.proofs.items.hexadecimal.Goals as goal

pub returns-in_default : goal.returns-in_default
returns-in_default c =
    let cut : c.split_at.result.0.now ≡ take (prefix_len is_hexadecimal c.args.body.now) c.args.body.now = c.split_at.ensures.front ∙ ap (λ (n : ℕ). take n c.args.body.now) c.hexadecimal_len-len.ensures.value in
    hexadecimal_wide c.args.at c.args.body.now c.requires.some (λ h. c.in_default.ensures (subst (λ (l : List ℕ). IsNumeralBelow 16 (2 ^ 64) l) (sym cut) h))
