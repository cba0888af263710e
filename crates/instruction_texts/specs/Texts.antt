-- Texts of trees and of forms.
use Rattle.std.specs.Prelude.{◌≡◌, ◌<◌, ℕ, ◌+◌, ◌-◌, ◌^◌, true, List, [], ◌∷◌, ◌++◌, map, Option, Some, None, nat_lt, if◌then◌else◌}
use Rattle.asm_source.specs.Bytes.{is_word}
use Rattle.instruction_trees.specs.Trees.{Table, Tree, Form, In}
use Rattle.instruction_trees.specs.Values.{numbered, owns, inners, filled}
use Rattle.instruction_trees.specs.Forms.{Distinct}
use Rattle.instruction_texts.specs.declared.shapes.Shape.{Shape}
use Rattle.instruction_texts.specs.declared.shapes.Token.{Token}
use Rattle.instruction_texts.specs.declared.shapes.Token.TheVariants.{Word, Sign}
use Rattle.instruction_texts.specs.Shapes.{zero_x}
use Rattle.instruction_texts.specs.Written.{numeral}
use Rattle.instruction_texts.specs.Symbols.{Kind, Decimal, WithSign, Hexadecimal, Element, Sym, Byte, Gap, Shown, symbols, gather, shown_values, is_clean, AreWide}

-- the characters of a value of n bits
abbrev pub written : Kind → ℕ → ℕ → List ℕ
written Decimal n v = numeral 10 v
written Hexadecimal n v = zero_x ++ numeral 16 v
written WithSign n v = if nat_lt v (2 ^ (n - 1)) then numeral 10 v else 45 ∷ numeral 10 (2 ^ n - v)

-- characters, and None where runs part
abbrev pub bytes : List (Sym ℕ) → List (Option ℕ)
bytes [] = []
bytes (Byte c ∷ s) = Some c ∷ bytes s
bytes (Gap ∷ s) = None ∷ bytes s
bytes (Shown kind n v ∷ s) = map (λ c. Some c) (written kind n v) ++ bytes s

abbrev pub flush : List ℕ → List Token → List Token
flush [] ts = ts
flush (c ∷ p) ts = Word (c ∷ p) ∷ ts

-- the runs and other characters of a text, behind the run p
abbrev pub tokens : List ℕ → List (Option ℕ) → List Token
tokens p [] = flush p []
tokens p (None ∷ s) = flush p (tokens [] s)
tokens p (Some c ∷ s) = if is_word c then tokens (p ++ c ∷ []) s else flush p (Sign c ∷ tokens [] s)

-- each value is one of its field, which has some bit
abbrev pub InRange : List (Sym ℕ) → Type 0
InRange [] = Unit {0}
InRange (Byte c ∷ s) = InRange s
InRange (Gap ∷ s) = InRange s
InRange (Shown kind n v ∷ s) = (0 < n) × (v < 2 ^ n) × InRange s

-- the text of a tree of this operation
abbrev pub text : Table → List (List Element) → ℕ → Tree ℕ → List Token
text table syntax k t = tokens [] (bytes (symbols table syntax k t))

abbrev pub shape : {V : Type 0} → Table → List (List Element) → ℕ → Tree V → List Shape
shape table syntax k t = gather [] (symbols table syntax k t)

-- what a form writes, with the number of each field in place of its value
abbrev pub form_symbols : Table → List (List Element) → ℕ → Form → List (Sym ℕ)
form_symbols table syntax k t = symbols table syntax k (numbered 0 (owns t) t)

abbrev pub form_shape : Table → List (List Element) → ℕ → Form → List Shape
form_shape table syntax k t = shape table syntax k (numbered 0 (owns t) t)

-- the numbers of a form's fields in the order of its text
abbrev pub order : Table → List (List Element) → ℕ → Form → List ℕ
order table syntax k t = shown_values (symbols table syntax k (numbered 0 (owns t) t))

-- each field is written
abbrev pub IsWritten : Table → List (List Element) → ℕ → Form → Type 0
IsWritten table syntax k t = (i : ℕ) → i < owns t + inners t → In i (order table syntax k t)

-- a form whose texts tell its trees apart: each field has some bit, is written, once, and ends its run
pub record IsReadable (table : Table) (syntax : List (List Element)) (k : ℕ) (t : Form) : Type 0 where
  pub clean : is_clean (symbols table syntax k (numbered 0 (owns t) t)) ≡ true
  pub wide : AreWide (symbols table syntax k (numbered 0 (owns t) t))
  pub covered : IsWritten table syntax k t
  pub once : Distinct (order table syntax k t)

-- some tree of the form has this text
abbrev pub Writes : Table → List (List Element) → ℕ → Form → List Token → Type 0
Writes table syntax k t ts = (f : ℕ → ℕ) × InRange (symbols table syntax k (filled f t)) × (text table syntax k (filled f t) ≡ ts)

-- two trees, one of each form, have one text
abbrev pub Ambiguous : Table → List (List Element) → ℕ → Form → ℕ → Form → Type 0
Ambiguous table syntax j t k u = (ts : List Token) × Writes table syntax j t ts × Writes table syntax k u ts
