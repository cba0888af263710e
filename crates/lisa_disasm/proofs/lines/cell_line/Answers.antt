use Rattle.std.proofs.Common.{◌≡◌, ◌++◌, ◌∷◌, [], ℕ, Bool, List, refl, sym, subst}
use Rattle.std.specs.Global.{Vec}
use Rattle.lisa_tree.specs.Descriptions.{DescriptionTree}
use Rattle.lisa_syntax.specs.lisa_forms.Codings.{IsCodingOf}
use Rattle.lisa_syntax.specs.Parts.{IsSyntaxOf}
use Rattle.lisa_disasm.specs.Listings.{value_line, IsInstructionLine, IsCellLine}
use Rattle.lisa_disasm.proofs.Reading.{if_ok}
use Rattle.lisa_disasm.proofs.lines.cell_line.Goals as goal

pub returns-then-is_code : goal.returns-then-is_code
returns-then-is_code c =
    if_ok
    (λ (line : Vec ℕ). (d : DescriptionTree) → IsCodingOf d c.args.coding.now → IsSyntaxOf d c.args.syntax.now → (x : List ℕ) × IsInstructionLine d c.args.word x × (line.items ≡ x ++ 10 ∷ []))
    (λ (line : Vec ℕ). (d : DescriptionTree) → IsCodingOf d c.args.coding.now → IsSyntaxOf d c.args.syntax.now → (x : List ℕ) × IsCellLine d c.args.is_code c.args.word x × (line.items ≡ x ++ 10 ∷ []))
    c.decoded_line.result
    (λ line given d is syntax. let g = given d is syntax in (g.0, subst (λ (b : Bool). IsCellLine d b c.args.word g.0) (sym c.if-is_code.true) g.1, g.2))
    c.decoded_line.ensures

pub returns-else-is_code : goal.returns-else-is_code
returns-else-is_code c =
    if_ok
    (λ (line : Vec ℕ). line.items ≡ value_line c.args.word ++ 10 ∷ [])
    (λ (line : Vec ℕ). (d : DescriptionTree) → IsCodingOf d c.args.coding.now → IsSyntaxOf d c.args.syntax.now → (x : List ℕ) × IsCellLine d c.args.is_code c.args.word x × (line.items ≡ x ++ 10 ∷ []))
    c.bare_line.result
    (λ line written d is syntax. (value_line c.args.word, subst (λ (b : Bool). IsCellLine d b c.args.word (value_line c.args.word)) (sym c.if-is_code.false) refl, written))
    c.bare_line.ensures
