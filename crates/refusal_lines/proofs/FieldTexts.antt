-- The texts of fields.
use Rattle.std.proofs.Common.{◌≡◌, ◌∙◌, ap, refl, arith, List, [], ℕ, ◌++◌, take, drop}
use Rattle.std.specs.Prelude.{ℤ, pos, negsuc, ◌<ℤ◌, unsigned_abs, codes, decimal}
use Rattle.std.specs.Fmt.{signed_decimal}
use Rattle.std.proofs.lemmas.Int.{ints}
use Rattle.std.proofs.lemmas.Grind.{flat_map-append}
use Rattle.lisa_tree.specs.declared.faults.DescFault.{DescFault}
use Rattle.lisa_tree.specs.declared.faults.DescFault.TheVariants as faults
use Rattle.refusal_lines.specs.Lines.{Field, line, field_text, fields_text}
use Rattle.refusal_lines.specs.DescriptionLines.{description_line}

three_fields : (a b c : List Field) → fields_text (a ++ (b ++ c)) ≡ fields_text a ++ (fields_text b ++ fields_text c)
three_fields a b c = flat_map-append field_text a (b ++ c) ∙ ap (λ (t : List ℕ). fields_text a ++ t) (flat_map-append field_text b c)

pub five_fields : (a b c d e : List Field)
    → fields_text (a ++ (b ++ (c ++ (d ++ e)))) ≡ fields_text a ++ (fields_text b ++ (fields_text c ++ (fields_text d ++ fields_text e)))
five_fields a b c d e =
    three_fields a b (c ++ (d ++ e)) ∙ ap (λ (t : List ℕ). fields_text a ++ (fields_text b ++ t)) (three_fields c d e)

-- a negative number has `-` before the digits of its size
pub signed_below : (z : ℤ) → z <ℤ pos 0 → signed_decimal z ≡ codes "-" ++ decimal (unsigned_abs z)
signed_below (pos n) below = absurd (omega (arith, ints, below))
signed_below (negsuc n) below = refl

-- the first three fields, one by one
abbrev first_three : List Field → List Field
first_three fields = take 1 fields ++ (take 1 (drop 1 fields) ++ (take 1 (drop 2 fields) ++ []))

-- the fault of a description has at most three fields
pub at_most_three : (fault : DescFault) → line (description_line fault).head (first_three (description_line fault).fields) ≡ description_line fault
at_most_three (faults.BadByte at) = refl
at_most_three (faults.NumberTooWide at) = refl
at_most_three (faults.NameTooLong at) = refl
at_most_three (faults.TooDeep at) = refl
at_most_three (faults.NotADescription at) = refl
at_most_three (faults.Duplicate name') = refl
at_most_three (faults.Unknown operation name') = refl
at_most_three (faults.WrongKind operation name') = refl
at_most_three (faults.BadWidth name' width) = refl
at_most_three (faults.BadDepth name' depth) = refl
at_most_three (faults.Narrowing operation from to) = refl
at_most_three (faults.LoopWithoutBound operation) = refl
at_most_three (faults.LoopTooLong operation turns) = refl
at_most_three (faults.Circular operation) = refl
at_most_three (faults.Backward activator activated) = refl
at_most_three (faults.Control operation stage) = refl
at_most_three faults.BadMain = refl
at_most_three faults.BadReset = refl
at_most_three (faults.GroupWidth operation name') = refl
at_most_three (faults.NotWritten operation name') = refl
at_most_three (faults.RootTwice operation) = refl
at_most_three (faults.TooMany what count limit) = refl
at_most_three (faults.BadText form) = refl
at_most_three (faults.Overlap first second word') = refl
at_most_three (faults.Ambiguous first second text') = refl
at_most_three (faults.NotAnAlias form) = refl
at_most_three faults.NoMemory = refl
