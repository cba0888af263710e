use Rattle.std.specs.Prelude.{◌≡◌, ◌++◌, map, option_map, drop}
use Rattle.asm_source.specs.Plain.{token_tree}
use Rattle.instruction_texts.specs.Lines.{given}
use Rattle.instruction_texts.specs.Fronts.{read}
use Rattle.instruction_texts.proofs.matching.matches.Given as goal

abbrev pub invariant-shapes : goal.invariant-shapes
invariant-shapes l = read l.fn.shapes (map token_tree l.fn.line) ≡ option_map (λ gs. map given l.operands.items ++ gs) (read (drop l.shape-index l.fn.shapes) (map token_tree l.rest))
