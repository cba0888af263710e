-- Labels, directives and instructions.
use Rattle.std.specs.Prelude.{ℕ, ℤ, Bool, true, false, List, [], ◌∷◌, drop, codes, Option, Some, None, Result, Ok, Err, nat_le, ◌==◌, ◌&&◌, not, if◌then◌else◌}
use Rattle.std.specs.List.{list_all, slice_split, before_first}
use Rattle.std.specs.Str.{bytes_eq}
use Rattle.asm_source.specs.declared.flaw.Flaw.{Flaw}
use Rattle.asm_source.specs.declared.flaw.Flaw.TheVariants.{BadLine, UnknownDirective, BadExpression}
use Rattle.asm_source.specs.Bytes.{is_blank, is_line_byte, is_name, front_is, skip_blanks, front_word, behind_word}
use Rattle.asm_source.specs.Numbers.{number_of, signed}
use Rattle.asm_source.specs.Plain.{PlainToken, Run, Sign, Operand, PlainValue, Number, Added, PlainPart, Nothing, Section, Global, Equ, Cells, Space, Instruction}
use Rattle.asm_source.specs.Sums.{◌>>=◌, operand_at}
use Rattle.asm_source.specs.Items.{Item, all_items}

abbrev pub is_empty : List ℕ → Bool
is_empty [] = true
is_empty (b ∷ bs) = false

-- ---- labels

-- a label: a word with a `:` directly behind it, and the text behind that
abbrev pub named_label : List ℕ → List ℕ → Result (Option (List ℕ × List ℕ)) Flaw
named_label word rest = if is_name word then Ok (Some (word, rest)) else Err BadLine

abbrev pub label_of : List ℕ → List ℕ → Result (Option (List ℕ × List ℕ)) Flaw
label_of word [] = Ok None
label_of word (b ∷ bs) = if b == 58 && not (is_empty word) then named_label word bs else Ok None

unfoldable pub label_at : Item (List ℕ)
label_at text = label_of (front_word text) (behind_word text)

-- ---- directives

-- the number with or without `-` at the front of a text, as a whole word
abbrev pub with_sign : Bool → List ℕ → Option ℕ → Option (ℤ × List ℕ)
with_sign minus rest None = None
with_sign minus rest (Some n) = Some (signed minus n, rest)

abbrev pub signed_word : Bool → List ℕ → Option (ℤ × List ℕ)
signed_word minus text = with_sign minus (behind_word text) (number_of (front_word text))

-- the number that stands alone in a text
abbrev pub alone : {A : Type 0} → Option (A × List ℕ) → Option A
alone None = None
alone (Some x) = if list_all is_blank x.1 then Some x.0 else None

abbrev pub number_at : List ℕ → Option (ℤ × List ℕ)
number_at text = if front_is (λ b. b == 45) text then signed_word true (drop 1 text) else signed_word false text

unfoldable pub number_in : List ℕ → Option ℤ
number_in text = alone (number_at (skip_blanks text))

-- the name that stands alone in a text
unfoldable pub name_in : List ℕ → Result (List ℕ) Flaw
name_in text =
    if is_name (front_word (skip_blanks text)) && list_all is_blank (behind_word (skip_blanks text))
    then Ok (front_word (skip_blanks text)) else Err BadLine

-- what is there, or else the line isn't of its form
abbrev pub or_bad : {A B : Type 0} → (A → B) → Option A → Result B Flaw
or_bad make None = Err BadLine
or_bad make (Some x) = Ok (make x)

unfoldable pub equ_of : List ℕ → Result PlainPart Flaw
equ_of text =
    if is_name (front_word (skip_blanks text))
    then or_bad (Equ (front_word (skip_blanks text))) (number_in (behind_word (skip_blanks text)))
    else Err BadLine

-- at most 1,048,576 cells
abbrev pub space_from : Option ℕ → List ℕ → Result PlainPart Flaw
space_from None rest = Err BadLine
space_from (Some n) rest = if nat_le n 1048576 && list_all is_blank rest then Ok (Space n) else Err BadLine

unfoldable pub space_of : List ℕ → Result PlainPart Flaw
space_of text = space_from (number_of (front_word (skip_blanks text))) (behind_word (skip_blanks text))

-- a value of a `.word`: an operand or a number, which stands alone between two commas
abbrev pub cell_at : List ℕ → Result PlainValue Flaw
cell_at [] = Err BadLine
cell_at (b ∷ bs) =
    if b == 64 then (operand_at bs >>= λ s. if list_all is_blank s.1 then Ok (Added s.0) else Err BadLine)
    else or_bad Number (number_in (b ∷ bs))

unfoldable pub cell_of : List ℕ → Result PlainValue Flaw
cell_of text = cell_at (skip_blanks text)

-- a line with a value that isn't of its form is a bad one, whatever its expressions
abbrev pub past_expression : Result (List PlainValue) Flaw → Result (List PlainValue) Flaw
past_expression more = more >>= λ all. Err BadExpression

abbrev pub value_and : Result PlainValue Flaw → Result (List PlainValue) Flaw → Result (List PlainValue) Flaw
value_and (Ok v) more = more >>= λ all. Ok (v ∷ all)
value_and (Err BadExpression) more = past_expression more
value_and (Err flaw) more = Err flaw

unfoldable pub values_of : List (List ℕ) → Result (List PlainValue) Flaw
values_of [] = Ok []
values_of (text ∷ texts) = value_and (cell_of text) (values_of texts)

abbrev pub cells_of : List ℕ → Result PlainPart Flaw
cells_of text = values_of (slice_split (λ b. b == 44) text) >>= λ all. Ok (Cells all)

unfoldable pub directive_of : List ℕ → List ℕ → Result PlainPart Flaw
directive_of word rest =
    if bytes_eq word (codes ".section") then (name_in rest >>= λ name. Ok (Section name))
    else (if bytes_eq word (codes ".global") then (name_in rest >>= λ name. Ok (Global name))
    else (if bytes_eq word (codes ".equ") then equ_of rest
    else (if bytes_eq word (codes ".word") then cells_of rest
    else (if bytes_eq word (codes ".space") then space_of rest else Err UnknownDirective))))

-- ---- instructions

-- a run, a run with an operand, or a single other character
abbrev pub token_of : List ℕ → List ℕ → Result (Option (PlainToken × List ℕ)) Flaw
token_of word [] = if is_empty word then Ok None else Ok (Some (Run word, []))
token_of word (b ∷ bs) =
    if b == 64 then (operand_at bs >>= λ s. Ok (Some (Operand word s.0, s.1)))
    else (if is_empty word then Ok (Some (Sign b, bs)) else Ok (Some (Run word, b ∷ bs)))

unfoldable pub token_at : Item PlainToken
token_at text = token_of (front_word text) (behind_word text)

-- ---- lines

abbrev pub part_at : List ℕ → Result PlainPart Flaw
part_at [] = Ok Nothing
part_at (b ∷ bs) =
    if b == 46 then directive_of (front_word (b ∷ bs)) (behind_word (b ∷ bs))
    else (all_items token_at (b ∷ bs) >>= λ all. Ok (Instruction all.0))

unfoldable pub part_of : List ℕ → Result PlainPart Flaw
part_of text = part_at text

-- labels, and what stands behind them
abbrev pub statement_of : List ℕ → Result (List (List ℕ) × PlainPart) Flaw
statement_of text = all_items label_at text >>= λ labels. part_of labels.1 >>= λ part. Ok (labels.0, part)

-- what a line says; a `;` begins a comment
unfoldable pub line_of : List ℕ → Result (List (List ℕ) × PlainPart) Flaw
line_of line = if list_all is_line_byte line then statement_of (before_first (λ b. b == 59) line) else Err BadLine
