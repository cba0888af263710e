-- The lines of the code as plain ones.
use Rattle.std.specs.Prelude.{List, [], ◌∷◌, ◌++◌, Option, Some, None}
use Rattle.refusal_lines.specs.declared.lines.Value.TheVariants as values
use Rattle.refusal_lines.specs.declared.lines.Value.{Value as LineValue}
use Rattle.refusal_lines.specs.declared.lines.Field.{Field as LineField}
use Rattle.refusal_lines.specs.declared.lines.Line.{Line as LineLine}
use Rattle.refusal_lines.specs.Lines.{Value, Bare, Quoted, Decimal, Signed, Hexadecimal, Digest, Field, Line}

abbrev pub value_of : LineValue → Value
value_of (values.Bare text) = Bare text.now
value_of (values.Quoted text) = Quoted text.now
value_of (values.Decimal value) = Decimal value
value_of (values.Signed value) = Signed value
value_of (values.Hexadecimal value) = Hexadecimal value
value_of (values.Digest bytes) = Digest bytes.now

abbrev pub field_of : LineField → Field
field_of field = record { label = field.label.now; value = value_of field.value }

abbrev pub fields_of : Option LineField → List Field
fields_of None = []
fields_of (Some field) = field_of field ∷ []

abbrev pub line_of : LineLine → Line
line_of line = record { head = line.head.now; fields = fields_of line.first ++ (fields_of line.second ++ (fields_of line.third ++ (fields_of line.fourth ++ fields_of line.fifth))) }
