-- Fixes as the code has them.
use Rattle.std.specs.Prelude.{List, [], ◌∷◌}
use Rattle.asm_source.specs.Plain.{sum_tree}
use Rattle.instruction_texts.specs.Lines.{Plain, Value, Added}
use Rattle.placed_programs.specs.Entries.{PlainFix}
use Rattle.lisa_assembler.specs.Objects.{fix_kind, put_falling}
use Rattle.lisa_assembler.specs.declared.fields.FieldBits.{FieldBits}
use Rattle.lisa_assembler.specs.declared.fixes.Fix.{Fix}

abbrev pub fix_tree : Fix → PlainFix
fix_tree f = record { lsb = f.lsb; width = f.width; kind = f.kind; sum = sum_tree f.sum }

-- the fixes of the sums that stand for fields with these bits
abbrev pub bit_fixes : List FieldBits → List Plain → List PlainFix
bit_fixes (f ∷ fs) (Value v ∷ gs) = bit_fixes fs gs
bit_fixes (f ∷ fs) (Added s ∷ gs) = record { lsb = f.lsb; width = f.width; kind = fix_kind f.signed; sum = s } ∷ bit_fixes fs gs
bit_fixes _ _ = []

-- what stands for one field more, which is a fix where it is a sum
abbrev pub with_fix : FieldBits → Plain → List PlainFix → List PlainFix
with_fix f (Value v) fixes = fixes
with_fix f (Added s) fixes = put_falling (record { lsb = f.lsb; width = f.width; kind = fix_kind f.signed; sum = s }) fixes
