-- The bytes of signs and reserved words, and those with which the canonical text writes every other token.
use Rattle.std.specs.Prelude.{ℕ, false, List, [], ◌∷◌, ◌++◌, codes}
use Rattle.std.specs.Fmt.{decimal, digits}
use Rattle.lisa_words.specs.declared.words.Kind.{Kind}
use Rattle.lisa_words.specs.declared.words.Kind.TheVariants as kinds
use Rattle.lisa_tree.specs.declared.tokens.Base.{Base}
use Rattle.lisa_tree.specs.declared.tokens.Base.TheVariants as bases
use Rattle.lisa_tree.specs.declared.tokens.Keyword.{Keyword}
use Rattle.lisa_tree.specs.declared.tokens.Keyword.TheVariants as keywords
use Rattle.lisa_tree.specs.declared.tokens.Shape.{Shape}
use Rattle.lisa_tree.specs.declared.tokens.Sign.{Sign}
use Rattle.lisa_tree.specs.declared.tokens.Sign.TheVariants as signs
use Rattle.lisa_tree.specs.declared.tokens.TokenPart.{TokenPart}
use Rattle.lisa_tree.specs.declared.tokens.TokenPart.TheVariants as parts

abbrev pub sign_text : Sign → List ℕ
sign_text signs.ShiftLeft = codes "<<"
sign_text signs.ShiftRight = codes ">>"
sign_text signs.LessEqual = codes "<="
sign_text signs.GreaterEqual = codes ">="
sign_text signs.EqualEqual = codes "=="
sign_text signs.NotEqual = codes "!="
sign_text signs.AndAnd = codes "&&"
sign_text signs.OrOr = codes "||"
sign_text signs.DecimalFormat = codes "#U"
sign_text signs.SignedFormat = codes "#S"
sign_text signs.HexadecimalFormat = codes "#X"
sign_text signs.OpenBrace = codes "{"
sign_text signs.CloseBrace = codes "}"
sign_text signs.OpenRound = codes "("
sign_text signs.CloseRound = codes ")"
sign_text signs.OpenSquare = codes "["
sign_text signs.CloseSquare = codes "]"
sign_text signs.Semicolon = codes ";"
sign_text signs.Comma = codes ","
sign_text signs.Dot = codes "."
sign_text signs.Equal = codes "="
sign_text signs.Less = codes "<"
sign_text signs.Greater = codes ">"
sign_text signs.Plus = codes "+"
sign_text signs.Minus = codes "-"
sign_text signs.Star = codes "*"
sign_text signs.And = codes "&"
sign_text signs.Or = codes "|"
sign_text signs.Caret = codes "^"
sign_text signs.Tilde = codes "~"
sign_text signs.Exclamation = codes "!"
sign_text signs.Question = codes "?"
sign_text signs.Colon = codes ":"
sign_text signs.Slash = codes "/"

abbrev pub keyword_text : Keyword → List ℕ
keyword_text keywords.Resource = codes "RESOURCE"
keyword_text keywords.Register = codes "REGISTER"
keyword_text keywords.ProgramCounter = codes "PROGRAM_COUNTER"
keyword_text keywords.ControlRegister = codes "CONTROL_REGISTER"
keyword_text keywords.Clocked = codes "CLOCKED"
keyword_text keywords.Memory = codes "MEMORY"
keyword_text keywords.DataMemory = codes "DATA_MEMORY"
keyword_text keywords.ProgramMemory = codes "PROGRAM_MEMORY"
keyword_text keywords.Pin = codes "PIN"
keyword_text keywords.Pipeline = codes "PIPELINE"
keyword_text keywords.PipelineRegister = codes "PIPELINE_REGISTER"
keyword_text keywords.In = codes "IN"
keyword_text keywords.Out = codes "OUT"
keyword_text keywords.Operation = codes "OPERATION"
keyword_text keywords.Alias = codes "ALIAS"
keyword_text keywords.Declare = codes "DECLARE"
keyword_text keywords.Group = codes "GROUP"
keyword_text keywords.Instance = codes "INSTANCE"
keyword_text keywords.Label = codes "LABEL"
keyword_text keywords.Reference = codes "REFERENCE"
keyword_text keywords.Coding = codes "CODING"
keyword_text keywords.Syntax = codes "SYNTAX"
keyword_text keywords.Behavior = codes "BEHAVIOR"
keyword_text keywords.Expression = codes "EXPRESSION"
keyword_text keywords.Activation = codes "ACTIVATION"
keyword_text keywords.Semantics = codes "SEMANTICS"
keyword_text keywords.If = codes "if"
keyword_text keywords.Else = codes "else"
keyword_text keywords.While = codes "while"
keyword_text keywords.For = codes "for"
keyword_text keywords.Decoded = codes "decoded"

abbrev pub kind_text : Kind → List ℕ
kind_text kinds.Unsigned = codes "uint"
kind_text kinds.Signed = codes "int"

abbrev pub shape_text : Shape → List ℕ
shape_text shape = kind_text shape.kind ++ decimal shape.width

-- no leading zeros, and hexadecimal digits in lower case
abbrev pub number_text : ℕ → Base → List ℕ
number_text value bases.Decimal = decimal value
number_text value bases.Hexadecimal = codes "0x" ++ digits 16 false value
number_text value bases.Binary = codes "0b" ++ digits 2 false value

abbrev pub token_text : TokenPart → List ℕ
token_text (parts.Named name) = name
token_text (parts.Reserved keyword) = keyword_text keyword
token_text (parts.TypeWord shape) = shape_text shape
token_text (parts.Number value base) = number_text value base
token_text (parts.Pattern digits) = codes "0b" ++ digits
token_text (parts.Text bytes) = 34 ∷ (bytes ++ 34 ∷ [])
token_text (parts.Sign sign) = sign_text sign
