-- Reading syntaxes.
use Rattle.std.specs.Prelude.{ℕ, Bool, true, false, List, ◌∷◌, Option, Some, None}
use Rattle.lisa_tree.specs.declared.tokens.Sign.{Sign}
use Rattle.lisa_tree.specs.declared.tokens.Sign.TheVariants as signs
use Rattle.lisa_tree.specs.declared.tokens.TokenPart.{TokenPart}
use Rattle.lisa_tree.specs.declared.tokens.TokenPart.TheVariants as parts
use Rattle.lisa_tree.specs.declared.descriptions.Format.{Format}
use Rattle.lisa_tree.specs.declared.descriptions.Format.TheVariants as formats
use Rattle.lisa_tree.specs.declared.descriptions.SyntaxItem.{SyntaxItem}
use Rattle.lisa_tree.specs.declared.descriptions.SyntaxPart.{SyntaxPart}
use Rattle.lisa_tree.specs.declared.descriptions.SyntaxPart.TheVariants as syntaxes
use Rattle.lisa_words.specs.Many.{Item, many}
use Rattle.lisa_words.specs.Steps.{◌>>=◌}
use Rattle.lisa_section_reader.specs.Resources.{ends}

abbrev pub format_of : Sign → Option Format
format_of signs.DecimalFormat = Some formats.Decimal
format_of signs.SignedFormat = Some formats.SignedDecimal
format_of signs.HexadecimalFormat = Some formats.Hexadecimal
format_of _ = None

-- behind the `=` of a label
abbrev pub number_format_of : List ℕ → Item TokenPart SyntaxPart
number_format_of label (parts.Sign sign ∷ ts) = format_of sign >>= λ format. Some (syntaxes.Number label format, ts)
number_format_of label _ = None

-- behind a name
abbrev pub label_of : List ℕ → Item TokenPart SyntaxPart
label_of name (parts.Sign signs.Equal ∷ ts) = number_format_of name ts
label_of name ts = Some (syntaxes.Child name, ts)

unfoldable pub part_of : Item TokenPart SyntaxPart
part_of (parts.Text text ∷ ts) = Some (syntaxes.Literal text, ts)
part_of (parts.Named name ∷ ts) = label_of name ts
part_of _ = None

abbrev pub joined_item : Bool → SyntaxPart → SyntaxItem
joined_item joined part = record { joined = joined; part = part }

unfoldable pub alone_of : Bool → Item TokenPart SyntaxItem
alone_of joined ts = part_of ts >>= λ part. Some (joined_item joined part.0, part.1)

unfoldable pub syntax_item_of : Item TokenPart SyntaxItem
syntax_item_of (parts.Sign signs.Tilde ∷ ts) = alone_of true ts
syntax_item_of ts = alone_of false ts

unfoldable pub syntax_items_of : Item TokenPart (List SyntaxItem)
syntax_items_of ts = many syntax_item_of ends ts

-- one or more elements, the first of them not joined to anything
unfoldable pub syntax_of : Item TokenPart (List SyntaxItem)
syntax_of ts = alone_of false ts >>= λ first. syntax_items_of first.1 >>= λ more. Some (first.0 ∷ more.0, more.1)
