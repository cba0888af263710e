-- Texts and lines worked out by hand. ADDI has a register of one bit and a number of five, BR a number of six with a sign.
use Rattle.std.proofs.Common.{◌≡◌, ℕ, true, false, List, [], ◌∷◌, refl, arith}
use Rattle.std.specs.Prelude.{pos}
use Rattle.asm_source.specs.Plain.{PlainSum, PlainToken, Run, Sign, Operand}
use Rattle.instruction_texts.specs.declared.shapes.Shape.{Shape}
use Rattle.instruction_texts.specs.declared.shapes.Shape.TheVariants.{Other, Literal, Unsigned, Signed}
use Rattle.instruction_texts.specs.declared.shapes.Token.TheVariants as words
use Rattle.instruction_texts.specs.Lines as lines
use Rattle.instruction_texts.specs.Lines.{Plain, Value, Added, Matches}
use Rattle.instruction_texts.specs.Written.{text_bytes, spelled}
use Rattle.lisa_syntax.specs.Operands.{spelled_with, IsTextWith}

-- the runs ADDI, BR and R
abbrev addi_run : List ℕ
addi_run = 65 ∷ 68 ∷ 68 ∷ 73 ∷ []

abbrev br_run : List ℕ
br_run = 66 ∷ 82 ∷ []

abbrev r_run : List ℕ
r_run = 82 ∷ []

abbrev addi : List Shape
addi = Literal addi_run ∷ Unsigned false r_run 1 ∷ Other 44 ∷ Unsigned false [] 5 ∷ []

abbrev br : List Shape
br = Literal br_run ∷ Signed [] 6 ∷ []

-- ---- texts

-- ADDI R1,7
addi_text : text_bytes (spelled addi (1 ∷ 7 ∷ [])) ≡ 65 ∷ 68 ∷ 68 ∷ 73 ∷ 32 ∷ 82 ∷ 49 ∷ 44 ∷ 55 ∷ []
addi_text = refl

-- BR-2, where 62 is -2 modulo 64
br_back : text_bytes (spelled br (62 ∷ [])) ≡ 66 ∷ 82 ∷ 45 ∷ 50 ∷ []
br_back = refl

-- BR 31 and BR-32, the ends of the range
br_last : text_bytes (spelled br (31 ∷ [])) ≡ 66 ∷ 82 ∷ 32 ∷ 51 ∷ 49 ∷ []
br_last = refl

br_first : text_bytes (spelled br (32 ∷ [])) ≡ 66 ∷ 82 ∷ 45 ∷ 51 ∷ 50 ∷ []
br_first = refl

-- a number of one bit with a sign is 0 or -1
one_bit_zero : text_bytes (spelled (Signed [] 1 ∷ []) (0 ∷ [])) ≡ 48 ∷ []
one_bit_zero = refl

one_bit_negative : text_bytes (spelled (Signed [] 1 ∷ []) (1 ∷ [])) ≡ 45 ∷ 49 ∷ []
one_bit_negative = refl

-- 0x0 and 0x1f
hex_zero : text_bytes (spelled (Unsigned true [] 5 ∷ []) (0 ∷ [])) ≡ 48 ∷ 120 ∷ 48 ∷ []
hex_zero = refl

hex_last : text_bytes (spelled (Unsigned true [] 5 ∷ []) (31 ∷ [])) ≡ 48 ∷ 120 ∷ 49 ∷ 102 ∷ []
hex_last = refl

-- ---- lines with operands

-- the operand `@1`
abbrev one : PlainSum
one = record { constant = pos 1; terms = [] }

-- ADDI R@1,7
addi_line : spelled_with addi (1 ∷ 7 ∷ []) (Added one ∷ Value 7 ∷ []) ≡ Run addi_run ∷ Operand r_run one ∷ Sign 44 ∷ Run (55 ∷ []) ∷ []
addi_line = refl

-- BR @1 and BR-2
br_line : spelled_with br (5 ∷ []) (Added one ∷ []) ≡ Run br_run ∷ Operand [] one ∷ []
br_line = refl

br_back_line : spelled_with br (62 ∷ []) (Value 62 ∷ []) ≡ Run br_run ∷ Sign 45 ∷ Run (50 ∷ []) ∷ []
br_back_line = refl

-- R@1 stands for R1 and for R0x1, so it is a line of both forms
abbrev r_line : List PlainToken
r_line = Operand r_run one ∷ []

decimal : IsTextWith (Unsigned false r_run 3 ∷ []) (1 ∷ []) (Added one ∷ []) r_line
decimal = record { held = (omega arith, tt); given = ((82 ∷ 49 ∷ [], refl), tt); is = refl }

hexadecimal : IsTextWith (Unsigned true r_run 3 ∷ []) (1 ∷ []) (Added one ∷ []) r_line
hexadecimal = record { held = (omega arith, tt); given = ((82 ∷ 48 ∷ 120 ∷ 49 ∷ [], refl), tt); is = refl }

both_match : Matches (Unsigned false r_run 3 ∷ []) (Added one ∷ []) r_line × Matches (Unsigned true r_run 3 ∷ []) (Added one ∷ []) r_line
both_match = (lines.operand lines.end, lines.operand lines.end)

-- no operand stands for a number with `-`
none_for_negative : IsTextWith br (62 ∷ []) (Added one ∷ []) (Run br_run ∷ Operand [] one ∷ []) → ⊥
none_for_negative t = let e : words.Sign 45 ∷ words.Word (50 ∷ []) ∷ [] ≡ words.Word t.given.0.0 ∷ [] = t.given.0.1 in cc
