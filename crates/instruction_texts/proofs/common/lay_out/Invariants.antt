use Rattle.std.specs.Prelude.{◌≡◌, ◌++◌, map, length, reverse}
use Rattle.instruction_texts.specs.Written.{laid_out, text_bytes}
use Rattle.instruction_texts.proofs.common.lay_out.Given as goal

abbrev pub invariant-tokens : goal.invariant-tokens
invariant-tokens l = l.text.bytes.items ++ laid_out l.text.behind_run (reverse (map (λ token. token.now) l.tokens.items)) ≡ text_bytes (reverse (map (λ token. token.now) l.fn.tokens.items))

abbrev pub decreases-tokens : goal.decreases-tokens
decreases-tokens l = length l.tokens.items
