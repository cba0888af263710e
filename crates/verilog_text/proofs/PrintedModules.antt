-- The text of a module spells it, where some bytes do.
use Rattle.std.proofs.Common.{ℕ, ◌≤◌, List, length, sym, subst}
use Rattle.verilog_text.specs.Tokens.{VToks}
use Rattle.verilog_text.specs.Trees.{ModuleTree}
use Rattle.verilog_text.specs.Grammar.{SpellsModule}
use Rattle.verilog_text.specs.Spelling.{VSpells, most_open}
use Rattle.verilog_text.specs.Printing.{module_tokens, module_text, module_size}
use Rattle.verilog_text.proofs.SpelledTokens.{module_spells}
use Rattle.verilog_text.proofs.OpenBrackets.{module_shallow}
use Rattle.verilog_text.proofs.TokenContents.{AreWritten, module_written}
use Rattle.verilog_text.proofs.WrittenTexts.{placed, placed_same, text_lexes, lexed_have}
use Rattle.verilog_text.proofs.TextSizes.{module_short}

written : {bytes : List ℕ} {m : ModuleTree} → VSpells bytes m → AreWritten (module_tokens m)
written s = module_written s.spells (lexed_have s.lexes)

pub text_spells : {bytes : List ℕ} {m : ModuleTree} → VSpells bytes m → VSpells (module_text m) m
text_spells {m = m} s = record {
  tokens = placed 0 (module_tokens m);
  lexes = text_lexes 0 (module_tokens m) (written s);
  shallow = subst (λ (ts : VToks). most_open 0 ts ≤ 64) (sym (placed_same 0 (module_tokens m))) (module_shallow s.spells s.shallow);
  spells = subst (λ (ts : VToks). SpellsModule ts m) (sym (placed_same 0 (module_tokens m))) (module_spells s.spells);
  deep = s.deep;
}

pub text_size : {bytes : List ℕ} {m : ModuleTree} → VSpells bytes m → length (module_text m) ≤ module_size m
text_size {m = m} s = module_short m (written s)
