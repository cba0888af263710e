-- A line gives as many operands as the form that it is of has numbers.
use Rattle.std.proofs.Common.{◌≡◌, ℕ, suc, List, length, refl, sym, ap, ◌∙◌, subst}
use Rattle.std.specs.Prelude.{Vec}
use Rattle.std.specs.Global.{Global}
use Rattle.asm_source.specs.Plain.{PlainToken}
use Rattle.instruction_texts.specs.declared.operands.Operand.{Operand}
use Rattle.instruction_texts.specs.declared.shapes.Shape.{Shape}
use Rattle.instruction_texts.specs.Lines.{Plain, given, Matches, end, other, literal, unsigned, positive, negative, operand, signed_operand}
use Rattle.text_tables.specs.declared.table.Found.{Found}
use Rattle.text_tables.specs.declared.table.Found.TheVariants as founds
use Rattle.text_tables.specs.Reading.{IsFound}
use Rattle.text_tables.specs.Shared.{shapes_at}
use Rattle.lisa_syntax.specs.Orders.{number_count}
use Rattle.lisa_syntax.proofs.Sharing.{map_long}

matched_count : {ss : List Shape} {gs : List Plain} {line : List PlainToken} → Matches ss gs line → length gs ≡ number_count ss
matched_count end = refl
matched_count (other m) = matched_count m
matched_count (literal m) = matched_count m
matched_count (unsigned cs e v m is) = ap suc (matched_count m)
matched_count (positive cs e v m is) = ap suc (matched_count m)
matched_count (negative cs e v m is) = ap suc (matched_count m)
matched_count (operand m) = ap suc (matched_count m)
matched_count (signed_operand m) = ap suc (matched_count m)

pub found_level : (all : List (List Shape)) (line : List PlainToken) (found : Found) (form : ℕ) (operands : Vec Operand Global) (seen : List Operand) → IsFound all line found → found ≡ founds.One form operands → seen ≡ operands.items
    → length seen ≡ number_count (shapes_at all form)
found_level all line found form operands seen answer is same =
    let one : IsFound all line (founds.One form operands) = subst (IsFound all line) is answer in
    ap length same ∙ sym (map_long given operands.items) ∙ matched_count one.0.matches
