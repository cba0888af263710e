-- Beginnings that a text may have at once.
use Rattle.std.specs.Prelude.{Bool, true, false, not, ◌||◌, ◌++◌, List, Option, Some, None, nat_eq}
use Rattle.std.specs.List.{starts_with}
use Rattle.std.specs.Cmp.Lexicographic.{pointwise}
use Rattle.instruction_texts.specs.declared.shapes.Shape.{Shape}
use Rattle.instruction_texts.specs.declared.shapes.Token.{Token}
use Rattle.instruction_texts.specs.Shapes.{IsText}
use Rattle.instruction_texts.specs.Starts.{Beginning, Mark, Word, Prefix, first_start, negative_start}
use Rattle.text_tables.specs.declared.openings.Relation.{Relation}
use Rattle.text_tables.specs.declared.openings.Relation.TheVariants as relations

-- whether some token begins in both ways
abbrev pub meet : Beginning → Beginning → Bool
meet (Mark c) (Mark d) = nat_eq c d
meet (Word v) (Word w) = pointwise nat_eq v w
meet (Word w) (Prefix p) = starts_with nat_eq w p
meet (Prefix p) (Word w) = starts_with nat_eq w p
meet (Prefix p) (Prefix q) = starts_with nat_eq p q || starts_with nat_eq q p
meet _ _ = false

-- the same where both are there
abbrev pub meet_if_any : Option Beginning → Option Beginning → Bool
meet_if_any (Some a) (Some b) = meet a b
meet_if_any _ _ = false

-- whether a text of the form may begin in this way
abbrev pub begins_so : Option Beginning → List Shape → Bool
begins_so a ss = meet_if_any a (first_start ss) || meet_if_any a (negative_start ss)

-- whether texts of both forms may begin with one token
abbrev pub begin_alike : List Shape → List Shape → Bool
begin_alike ss us = begins_so (first_start ss) us || begins_so (negative_start ss) us

-- whether texts of both forms that begin with the same tokens go on behind the same one, once each has what its first piece says: neither
-- piece has a sign, or both begin alike with a negative number, or one alone may, and the other can't begin so
abbrev pub are_level : Option Beginning → Option Beginning → Bool → Bool → Bool
are_level None None first second = true
are_level (Some a) (Some b) first second = meet a b
are_level (Some a) None first second = not first
are_level None (Some b) first second = not second

abbrev pub stay_level : List Shape → List Shape → Bool
stay_level ss us = are_level (negative_start ss) (negative_start us) (begins_so (negative_start ss) us) (begins_so (negative_start us) ss)

-- some text is one of both
abbrev pub Share : List Shape → List Shape → Type 0
Share ss us = (ts : List Token) × IsText ss ts × IsText us ts

-- how the texts of two lists go on, whatever stands behind them
abbrev pub IsRelated : List Shape → List Shape → Relation → Type 0
IsRelated ss us relations.Apart = (vs ws : List Shape) → Share (ss ++ vs) (us ++ ws) → ⊥
IsRelated ss us relations.Level = (vs ws : List Shape) → Share (ss ++ vs) (us ++ ws) → Share vs ws
IsRelated ss us relations.Uneven = Share ss us → ⊥
IsRelated ss us relations.Open = Unit {0}
