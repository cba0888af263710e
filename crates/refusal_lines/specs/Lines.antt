-- The line that a refusal has on the second stream.
use Rattle.std.specs.Prelude.{ℕ, ℤ, false, List, ◌++◌, codes, decimal}
use Rattle.std.specs.Fmt.{digits, signed_decimal}
use Rattle.std.specs.List.{flat_map}
use Rattle.lisa_object.specs.Texts.{digest_digits}

pub data Value : Type 0 where
  -- a name
  Bare : List ℕ → Value
  -- a text, in double quotes
  Quoted : List ℕ → Value
  -- a number in decimal digits
  Decimal : ℕ → Value
  -- the same, with `-` before a negative one
  Signed : ℤ → Value
  -- a word, with 0x
  Hexadecimal : ℕ → Value
  -- a digest, two digits for each byte
  Digest : List ℕ → Value

pub record Field : Type 0 where
  pub label : List ℕ
  pub value : Value

-- the area with its number and name, and the fields of the fault in order
pub record Line : Type 0 where
  pub head : List ℕ
  pub fields : List Field

abbrev pub value_text : Value → List ℕ
value_text (Bare text) = text
value_text (Quoted text) = codes "\"" ++ (text ++ codes "\"")
value_text (Decimal value) = decimal value
value_text (Signed value) = signed_decimal value
value_text (Hexadecimal value) = codes "0x" ++ digits 16 false value
value_text (Digest bytes) = digest_digits bytes

abbrev pub field_text : Field → List ℕ
field_text field = codes " " ++ (field.label ++ (codes "=" ++ value_text field.value))

abbrev pub fields_text : List Field → List ℕ
fields_text fields = flat_map field_text fields

abbrev pub line_text : Line → List ℕ
line_text line = codes "lisa: " ++ (line.head ++ (fields_text line.fields ++ codes "\n"))

abbrev pub line : List ℕ → List Field → Line
line head fields = record { head = head; fields = fields }

abbrev pub name : List ℕ → List ℕ → Field
name label value = record { label = label; value = Bare value }

abbrev pub text : List ℕ → List ℕ → Field
text label value = record { label = label; value = Quoted value }

abbrev pub number : List ℕ → ℕ → Field
number label value = record { label = label; value = Decimal value }

abbrev pub integer : List ℕ → ℤ → Field
integer label value = record { label = label; value = Signed value }

abbrev pub word : List ℕ → ℕ → Field
word label value = record { label = label; value = Hexadecimal value }

abbrev pub digest : List ℕ → List ℕ → Field
digest label bytes = record { label = label; value = Digest bytes }
