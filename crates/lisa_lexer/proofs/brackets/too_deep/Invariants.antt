use Rattle.std.proofs.Common.{◌≡◌, ℕ, ◌<◌, ◌≤◌, fold, take}
use Rattle.lisa_tree.specs.Tokens.{toks}
use Rattle.lisa_tree.specs.Brackets.{open_after, open_at}
use Rattle.lisa_lexer.proofs.brackets.too_deep.Given as goal

abbrev pub invariant-loop-i : goal.invariant-loop-i
invariant-loop-i l = (l.depth ≡ fold open_after 0 (take l.i (toks l.tokens))) × ((k : ℕ) → k < l.i → open_at (toks l.tokens) k ≤ 64)
