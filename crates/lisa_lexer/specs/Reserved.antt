-- Which word is reserved, and which is a type word. The words are looked up by their first byte.
use Rattle.std.specs.Prelude.{ℕ, ◌+◌, ◌-◌, ◌*◌, Bool, false, List, [], ◌∷◌, codes, drop, Option, Some, None, option_map, nat_le, ◌==◌, ◌&&◌, if◌then◌else◌}
use Rattle.std.specs.Str.{bytes_eq}
use Rattle.lisa_words.specs.declared.words.Kind.{Kind}
use Rattle.lisa_words.specs.declared.words.Kind.TheVariants as kinds
use Rattle.lisa_tree.specs.declared.tokens.Keyword.{Keyword}
use Rattle.lisa_tree.specs.declared.tokens.Keyword.TheVariants as keywords
use Rattle.lisa_tree.specs.declared.tokens.Shape.{Shape}
use Rattle.lisa_tree.specs.declared.tokens.TokenPart.{TokenPart}
use Rattle.lisa_tree.specs.declared.tokens.TokenPart.TheVariants as parts
use Rattle.lisa_words.specs.Bytes.{is_digit, front_is}

abbrev pub words_a_to_d : List ℕ → Option Keyword
words_a_to_d w =
    if bytes_eq w (codes "CONTROL_REGISTER") then Some keywords.ControlRegister
    else (if bytes_eq w (codes "CLOCKED") then Some keywords.Clocked
    else (if bytes_eq w (codes "DATA_MEMORY") then Some keywords.DataMemory
    else (if bytes_eq w (codes "ALIAS") then Some keywords.Alias
    else (if bytes_eq w (codes "DECLARE") then Some keywords.Declare
    else (if bytes_eq w (codes "CODING") then Some keywords.Coding
    else (if bytes_eq w (codes "BEHAVIOR") then Some keywords.Behavior
    else (if bytes_eq w (codes "ACTIVATION") then Some keywords.Activation
    else None)))))))

abbrev pub words_e_to_o : List ℕ → Option Keyword
words_e_to_o w =
    if bytes_eq w (codes "MEMORY") then Some keywords.Memory
    else (if bytes_eq w (codes "IN") then Some keywords.In
    else (if bytes_eq w (codes "OUT") then Some keywords.Out
    else (if bytes_eq w (codes "OPERATION") then Some keywords.Operation
    else (if bytes_eq w (codes "GROUP") then Some keywords.Group
    else (if bytes_eq w (codes "INSTANCE") then Some keywords.Instance
    else (if bytes_eq w (codes "LABEL") then Some keywords.Label
    else (if bytes_eq w (codes "EXPRESSION") then Some keywords.Expression
    else None)))))))

abbrev pub words_p_to_s : List ℕ → Option Keyword
words_p_to_s w =
    if bytes_eq w (codes "RESOURCE") then Some keywords.Resource
    else (if bytes_eq w (codes "REGISTER") then Some keywords.Register
    else (if bytes_eq w (codes "PROGRAM_COUNTER") then Some keywords.ProgramCounter
    else (if bytes_eq w (codes "PROGRAM_MEMORY") then Some keywords.ProgramMemory
    else (if bytes_eq w (codes "PIN") then Some keywords.Pin
    else (if bytes_eq w (codes "PIPELINE") then Some keywords.Pipeline
    else (if bytes_eq w (codes "PIPELINE_REGISTER") then Some keywords.PipelineRegister
    else (if bytes_eq w (codes "REFERENCE") then Some keywords.Reference
    else (if bytes_eq w (codes "SYNTAX") then Some keywords.Syntax
    else (if bytes_eq w (codes "SEMANTICS") then Some keywords.Semantics
    else None)))))))))

abbrev pub small_words : List ℕ → Option Keyword
small_words w =
    if bytes_eq w (codes "if") then Some keywords.If
    else (if bytes_eq w (codes "else") then Some keywords.Else
    else (if bytes_eq w (codes "while") then Some keywords.While
    else (if bytes_eq w (codes "for") then Some keywords.For
    else (if bytes_eq w (codes "decoded") then Some keywords.Decoded
    else None))))

-- the first byte lies between these
abbrev pub begins_between : ℕ → ℕ → List ℕ → Bool
begins_between a b w = front_is (λ c. nat_le a c && nat_le c b) w

-- the reserved word that a word is
unfoldable pub keyword_of : List ℕ → Option Keyword
keyword_of w =
    if begins_between 65 68 w then words_a_to_d w
    else (if begins_between 69 79 w then words_e_to_o w
    else (if begins_between 80 83 w then words_p_to_s w
    else (if begins_between 100 119 w then small_words w else None)))

-- a width of one or two digits without a leading zero
abbrev pub width_of : List ℕ → Option ℕ
width_of (d ∷ []) = if nat_le 49 d && nat_le d 57 then Some (d - 48) else None
width_of (d ∷ e ∷ []) = if nat_le 49 d && nat_le d 57 && is_digit e then Some (10 * (d - 48) + (e - 48)) else None
width_of _ = None

abbrev pub shape_with : Kind → ℕ → Shape
shape_with kind width = record { kind = kind; width = width }

abbrev pub starts_uint : List ℕ → Bool
starts_uint (a ∷ b ∷ c ∷ d ∷ bs) = a == 117 && b == 105 && c == 110 && d == 116
starts_uint _ = false

abbrev pub starts_int : List ℕ → Bool
starts_int (a ∷ b ∷ c ∷ bs) = a == 105 && b == 110 && c == 116
starts_int _ = false

-- the type that a word is
unfoldable pub shape_of : List ℕ → Option Shape
shape_of w =
    if starts_uint w then option_map (shape_with kinds.Unsigned) (width_of (drop 4 w))
    else (if starts_int w then option_map (shape_with kinds.Signed) (width_of (drop 3 w)) else None)

abbrev pub part_by : List ℕ → Option Keyword → Option Shape → TokenPart
part_by w (Some k) shape = parts.Reserved k
part_by w None (Some shape) = parts.TypeWord shape
part_by w None None = parts.Named w

-- the token that a run of letters, digits and _ is
unfoldable pub word_part : List ℕ → TokenPart
word_part w = part_by w (keyword_of w) (shape_of w)
