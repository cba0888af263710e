use Rattle.std.proofs.Common.{◌≡◌, ◌++◌, ◌∷◌, [], ℕ, List, refl}
use Rattle.std.specs.Global.{Vec}
use Rattle.lisa_tree.specs.Descriptions.{DescriptionTree}
use Rattle.lisa_syntax.specs.lisa_forms.Codings.{IsCodingOf, IsOneTreeOf}
use Rattle.lisa_syntax.specs.Parts.{IsSyntaxOf}
use Rattle.lisa_disasm.specs.Listings.{value_line, IsInstructionLine, unknown}
use Rattle.lisa_disasm.proofs.Reading.{if_ok}
use Rattle.lisa_disasm.proofs.lines.decoded_line.Goals as goal

pub returns-in-Some : goal.returns-in-Some
returns-in-Some c =
    if_ok
    (λ (line : Vec ℕ). (d : DescriptionTree) → IsCodingOf d c.args.coding.now → IsSyntaxOf d c.args.syntax.now → IsOneTreeOf d c.args.word c.in-Some.form → (x : List ℕ) × IsInstructionLine d c.args.word x × (line.items ≡ x ++ 10 ∷ []))
    (λ (line : Vec ℕ). (d : DescriptionTree) → IsCodingOf d c.args.coding.now → IsSyntaxOf d c.args.syntax.now → (x : List ℕ) × IsInstructionLine d c.args.word x × (line.items ≡ x ++ 10 ∷ []))
    c.known_line.result
    (λ line given d is syntax. given d is syntax (c.in-Some.ensures d is))
    c.known_line.ensures

pub returns-in-None : goal.returns-in-None
returns-in-None c =
    if_ok
    (λ (line : Vec ℕ). line.items ≡ value_line c.args.word ++ 10 ∷ [])
    (λ (line : Vec ℕ). (d : DescriptionTree) → IsCodingOf d c.args.coding.now → IsSyntaxOf d c.args.syntax.now → (x : List ℕ) × IsInstructionLine d c.args.word x × (line.items ≡ x ++ 10 ∷ []))
    c.bare_line.result
    (λ line written d is syntax. (value_line c.args.word, unknown (c.in-None.ensures d is) refl, written))
    c.bare_line.ensures
