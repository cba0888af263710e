-- What a line with `@` operands means: it is a text with some values, in which operands stand for some of its numbers.
use Rattle.std.specs.Prelude.{◌≡◌, ℕ, List, [], ◌∷◌, ◌++◌, drop, map}
use Rattle.lisa_tree.specs.Descriptions.{DescriptionTree}
use Rattle.asm_source.specs.Plain.{PlainToken, Operand}
use Rattle.instruction_trees.specs.Trees.{Tree}
use Rattle.instruction_texts.specs.declared.shapes.Shape.{Shape}
use Rattle.instruction_texts.specs.declared.shapes.Shape.TheVariants.{Other, Literal, Unsigned, Signed}
use Rattle.instruction_texts.specs.declared.shapes.Token.TheVariants.{Word}
use Rattle.instruction_texts.specs.Lines.{Plain, Value, Added, plain_token}
use Rattle.instruction_texts.specs.Written.{Holds, said, values_behind, spelled}
use Rattle.text_tables.specs.Shared.{shapes_at}
use Rattle.lisa_syntax.specs.Lines.{all_shapes}
use Rattle.lisa_syntax.specs.Trees.{instruction_text}

-- what a line has for a piece: an operand behind the number's prefix where a sum is given for the number, else the piece's own text
abbrev pub said_with : Shape → List ℕ → List Plain → List PlainToken
said_with (Unsigned hex p n) vs (Added s ∷ gs) = Operand p s ∷ []
said_with (Signed p n) vs (Added s ∷ gs) = Operand p s ∷ []
said_with s vs gs = map plain_token (said s vs)

-- what is given for the numbers of what follows the piece
abbrev pub given_behind : Shape → List Plain → List Plain
given_behind (Other c) gs = gs
given_behind (Literal p) gs = gs
given_behind (Unsigned hex p n) gs = drop 1 gs
given_behind (Signed p n) gs = drop 1 gs

-- the text with these values, in which an operand stands for each number for which a sum is given
abbrev pub spelled_with : List Shape → List ℕ → List Plain → List PlainToken
spelled_with [] vs gs = []
spelled_with (s ∷ ss) vs gs = said_with s vs gs ++ spelled_with ss (values_behind s vs) (given_behind s gs)

-- the piece's number is written without `-` where it has this value: its text is a single run
abbrev pub IsOneRun : Shape → ℕ → Type 0
IsOneRun s v = (w : List ℕ) × (said s (v ∷ []) ≡ Word w ∷ [])

-- what may be given for the piece's number, which has this value: the value, or any sum where it is written without `-`
abbrev pub IsGiven : Shape → ℕ → Plain → Type 0
IsGiven s v (Value w) = w ≡ v
IsGiven s v (Added sum) = IsOneRun s v

-- each number is given so
abbrev pub AreGiven : List Shape → List ℕ → List Plain → Type 0
AreGiven [] [] [] = Unit {0}
AreGiven (Other c ∷ ss) vs gs = AreGiven ss vs gs
AreGiven (Literal p ∷ ss) vs gs = AreGiven ss vs gs
AreGiven (Unsigned hex p n ∷ ss) (v ∷ vs) (g ∷ gs) = IsGiven (Unsigned hex p n) v g × AreGiven ss vs gs
AreGiven (Signed p n ∷ ss) (v ∷ vs) (g ∷ gs) = IsGiven (Signed p n) v g × AreGiven ss vs gs
AreGiven _ _ _ = ⊥

-- The line is the text with these values once each operand is replaced by the text of the number that it stands for.
-- It gives this for the numbers.
pub record IsTextWith (ss : List Shape) (vs : List ℕ) (gs : List Plain) (line : List PlainToken) : Type 0 where
  pub held : Holds ss vs
  pub given : AreGiven ss vs gs
  pub is : line ≡ spelled_with ss vs gs

-- The line is the text of this instruction of the form once each operand is replaced so. These are its values, in the order of the text.
pub record IsLineOf (d : DescriptionTree) (k : ℕ) (t : Tree ℕ) (vs : List ℕ) (gs : List Plain) (line : List PlainToken) : Type 0 where
  pub own : instruction_text d t ≡ spelled (shapes_at (all_shapes d) k) vs
  pub with_operands : IsTextWith (shapes_at (all_shapes d) k) vs gs line
