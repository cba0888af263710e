-- The text of an object.
use Rattle.std.specs.Prelude.{ℕ, ℤ, Bool, List, [], ◌∷◌, ◌++◌, map, codes, decimal, Option, Some, None, if◌then◌else◌}
use Rattle.std.specs.Fmt.{signed_decimal}
use Rattle.asm_source.specs.declared.parts.Term.{Term}
use Rattle.lisa_object.specs.declared.parts.FixKind.{FixKind}
use Rattle.lisa_object.specs.declared.parts.FixKind.TheVariants as kinds
use Rattle.lisa_object.specs.Objects.{PlainObjectLine, Section, Space, Label, Equ, Global, Cell, Fix, PlainObject}
use Rattle.lisa_object.specs.Texts.{line_of, text_of, hex, digest_digits}

abbrev pub kind_word : FixKind → List ℕ
kind_word kinds.Unsigned = codes "u"
kind_word kinds.Signed = codes "s"
kind_word kinds.Whole = codes "w"

-- a name, or `$`
abbrev pub symbol_word : Option (List ℕ) → List ℕ
symbol_word (Some name) = name
symbol_word None = codes "$"

abbrev pub term_word : Term → List ℕ
term_word t = (if t.minus then 45 else 43) ∷ symbol_word t.name

abbrev pub line_words : PlainObjectLine → List (List ℕ)
line_words (Section n w) = codes "section" ∷ n ∷ decimal w ∷ []
line_words (Space n) = codes "space" ∷ decimal n ∷ []
line_words (Label n) = codes "label" ∷ n ∷ []
line_words (Equ n v) = codes "equ" ∷ n ∷ signed_decimal v ∷ []
line_words (Global n) = codes "global" ∷ n ∷ []
line_words (Cell v) = codes "cell" ∷ hex v ∷ []
line_words (Fix l w k s) = codes "fix" ∷ decimal l ∷ decimal w ∷ kind_word k ∷ signed_decimal s.constant ∷ map term_word s.terms

abbrev pub object_head : List ℕ → List ℕ
object_head digest = line_of (codes "object" ∷ codes "1" ∷ digest_digits digest ∷ [])

abbrev pub object_lines : PlainObject → List (List ℕ)
object_lines o = object_head o.digest ∷ (map (λ l. line_of (line_words l)) o.lines ++ codes "end" ∷ [])

-- the one spelling of an object
abbrev pub object_text : PlainObject → List ℕ
object_text o = text_of (object_lines o)
