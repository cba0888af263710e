-- What one piece of a form takes from the front of a line.
use Rattle.std.specs.Prelude.{ℕ, ◌-◌, ◌^◌, Bool, true, false, List, [], ◌∷◌, ◌++◌, Option, Some, None, option_map, nat_eq, if◌then◌else◌}
use Rattle.std.specs.Option.{option_or}
use Rattle.std.specs.Cmp.Lexicographic.{pointwise}
use Rattle.asm_source.specs.Plain.{PlainSum, PlainToken, Run, Sign, Operand}
use Rattle.instruction_texts.specs.declared.shapes.Shape.{Shape}
use Rattle.instruction_texts.specs.declared.shapes.Shape.TheVariants.{Other, Literal, Unsigned, Signed}
use Rattle.instruction_texts.specs.Leads.{number_behind}
use Rattle.instruction_texts.specs.Lines.{Plain, Value, Added}

-- what the piece gives for its number, and the line behind it
abbrev pub Front : Type 0
Front = Option (Option Plain × List PlainToken)

abbrev pub of_value : Option ℕ → List PlainToken → Front
of_value None line = None
of_value (Some v) line = Some (Some (Value v), line)

abbrev pub of_sum : Bool → PlainSum → List PlainToken → Front
of_sum same s line = if same then Some (Some (Added s), line) else None

abbrev pub past_if : Bool → List PlainToken → Front
past_if same line = if same then Some (None, line) else None

abbrev pub unsigned_front : Bool → List ℕ → ℕ → List PlainToken → Front
unsigned_front hex p high (Run w ∷ line) = of_value (number_behind hex false high p w) line
unsigned_front hex p high (Operand q s ∷ line) = of_sum (pointwise nat_eq p q) s line
unsigned_front hex p high _ = None

abbrev pub minus : ℕ → Option ℕ → Option ℕ
minus n None = None
minus n (Some v) = Some (2 ^ n - v)

-- a number behind `-`
abbrev pub minus_front : ℕ → List PlainToken → Front
minus_front n (Sign d ∷ Run w ∷ line) = if nat_eq d 45 then of_value (minus n (number_behind false true (2 ^ (n - 1)) [] w)) line else None
minus_front n _ = None

abbrev pub negative_front : List ℕ → ℕ → List PlainToken → Front
negative_front [] n line = minus_front n line
negative_front (c ∷ p) n (Run w ∷ line) = if pointwise nat_eq (c ∷ p) w then minus_front n line else None
negative_front (c ∷ p) n _ = None

abbrev pub front : Shape → List PlainToken → Front
front (Other c) (Sign d ∷ line) = past_if (nat_eq c d) line
front (Literal p) (Run w ∷ line) = past_if (pointwise nat_eq p w) line
front (Unsigned hex p n) line = unsigned_front hex p (2 ^ n - 1) line
front (Signed p n) line = option_or (unsigned_front false p (2 ^ (n - 1) - 1) line) (negative_front p n line)
front _ _ = None

abbrev pub listed : Option Plain → List Plain
listed None = []
listed (Some g) = g ∷ []

abbrev pub with_rest : Front → (List PlainToken → Option (List Plain)) → Option (List Plain)
with_rest None read = None
with_rest (Some x) read = option_map (λ gs. listed x.0 ++ gs) (read x.1)

-- what all pieces of a form give, where they take the whole line
abbrev pub read : List Shape → List PlainToken → Option (List Plain)
read [] [] = Some []
read [] (t ∷ line) = None
read (s ∷ ss) line = with_rest (front s line) (read ss)
