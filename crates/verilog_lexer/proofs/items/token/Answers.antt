use Rattle.std.proofs.Common.{◌≡◌, ℕ, List, take, sym, ap, subst, ◌∙◌, true}
use Rattle.std.specs.List.{list_all, prefix_len}
use Rattle.lisa_words.specs.Bytes.{is_digit}
use Rattle.lisa_words.proofs.Runs.{taken_pass}
use Rattle.verilog_lexer.proofs.items.token.Goals as goal

pub number-requires-clause-all : goal.number-requires-clause-all
number-requires-clause-all c =
    let cut : c.split_at.result.0.now ≡ take (prefix_len is_digit c.args.bytes.now) c.args.bytes.now = c.split_at.ensures.front ∙ ap (λ (n : ℕ). take n c.args.bytes.now) c.digits_len.ensures.value in
    subst (λ (l : List ℕ). list_all is_digit l ≡ true) (sym cut) (taken_pass is_digit c.args.bytes.now)
