-- The places of resources, operations and sections stand in a description.
use Rattle.std.proofs.Common.{◌≡◌, ◌⊎◌, ◌+◌, ℕ, zero, suc, List, [], ◌∷◌, Option, None, Some, refl, sym, ap, ◌∙◌, inl, inr, ⊎_elim, subst, arith}
use Rattle.std.specs.Prelude.{slice_get}
use Rattle.lisa_tree.specs.declared.descriptions.SyntaxItem.{SyntaxItem}
use Rattle.lisa_tree.specs.Expressions.{ExprTree}
use Rattle.lisa_tree.specs.Statements.{StmtTrees}
use Rattle.lisa_tree.specs.Activations.{ActTrees}
use Rattle.lisa_tree.specs.Descriptions as trees
use Rattle.lisa_tree.specs.Descriptions.{ResourceTree, CodingTree, DeclareTree, SectionTree, OperationTree, DescriptionTree}
use Rattle.description_places.specs.declared.sites.Region.TheVariants as regions
use Rattle.description_places.specs.Places.{At, Resource, Section, at, region_of, section_inner, sections_places, operation_places, operations_places, resources_places, declares_places, coding_places, parts_places, all_places, uses, acts_places}
use Rattle.lisa_tree.specs.Operations.{operation_at, sections_at, declares_in, coding_in, syntax_in, behavior_in, expression_in, activation_in}
use Rattle.lisa_machine.specs.Freedom.{IsAmong, Stands, AllStand}
use Rattle.lisa_machine.proofs.Among.{among_left, among_right}

-- ---- resources and operations

among_resources : (n : ℕ) (all : List ResourceTree) (j : ℕ) (r : ResourceTree) → slice_get all j ≡ Some r → IsAmong (at 0 regions.Resources [] (Resource (n + j) r)) (resources_places n all)
among_resources n [] j r e = absurd (cc e)
among_resources n (x ∷ rest) zero r e =
    let number : n + 0 ≡ n = omega arith in
    let same : x ≡ r = cc e in
    inl (ap (λ (k : ℕ). at 0 regions.Resources [] (Resource k r)) number ∙ ap (λ (z : ResourceTree). at 0 regions.Resources [] (Resource n z)) (sym same))
among_resources n (x ∷ rest) (suc j) r e =
    let number : n + 1 + j ≡ n + suc j = omega arith in
    inr (subst (λ (k : ℕ). IsAmong (at 0 regions.Resources [] (Resource k r)) (resources_places (n + 1) rest)) number (among_resources (n + 1) rest j r e))

among_operations : (n : ℕ) (all : List OperationTree) (j : ℕ) (operation : OperationTree) → slice_get all j ≡ Some operation → (a : At) → IsAmong a (operation_places (n + j) operation) → IsAmong a (operations_places n all)
among_operations n [] j operation e a h = absurd (cc e)
among_operations n (x ∷ rest) zero operation e a h =
    let number : n + 0 ≡ n = omega arith in
    let same : operation ≡ x = cc e in
    among_left a (operation_places n x) (operations_places (n + 1) rest)
    (subst (λ (z : OperationTree). IsAmong a (operation_places n z)) same (subst (λ (k : ℕ). IsAmong a (operation_places k operation)) number h))
among_operations n (x ∷ rest) (suc j) operation e a h =
    let number : n + suc j ≡ n + 1 + j = omega arith in
    among_right a (operation_places n x) (operations_places (n + 1) rest)
    (among_operations (n + 1) rest j operation e a (subst (λ (k : ℕ). IsAmong a (operation_places k operation)) number h))

pub resource_stands : (d : DescriptionTree) (k : ℕ) (r : ResourceTree) → slice_get d.resources k ≡ Some r → Stands d (at 0 regions.Resources [] (Resource k r))
resource_stands d k r e =
    let number : 0 + k ≡ k = omega arith in
    among_left _ (resources_places 0 d.resources) (operations_places 0 d.operations)
    (subst (λ (m : ℕ). IsAmong (at 0 regions.Resources [] (Resource m r)) (resources_places 0 d.resources)) number (among_resources 0 d.resources k r e))

pub operation_stands : (d : DescriptionTree) (o : ℕ) (operation : OperationTree) → operation_at d o ≡ Some operation → AllStand d (operation_places o operation)
operation_stands d o operation e a h =
    let number : o ≡ 0 + o = omega arith in
    among_right a (resources_places 0 d.resources) (operations_places 0 d.operations)
    (among_operations 0 d.operations o operation e a (subst (λ (m : ℕ). IsAmong a (operation_places m operation)) number h))

-- ---- sections

among_sections : (o : ℕ) (all : List SectionTree) (n : ℕ) (rest : List SectionTree) (j : ℕ) (s : SectionTree) → slice_get rest j ≡ Some s → IsAmong (at o (region_of s) [] (Section all (n + j))) (sections_places o all n rest)
among_sections o all n [] j s e = absurd (cc e)
among_sections o all n (x ∷ rest) zero s e =
    let number : n + 0 ≡ n = omega arith in
    let same : x ≡ s = cc e in
    inl (ap (λ (k : ℕ). at o (region_of s) [] (Section all k)) number ∙ ap (λ (z : SectionTree). at o (region_of z) [] (Section all n)) (sym same))
among_sections o all n (x ∷ rest) (suc j) s e =
    let number : n + 1 + j ≡ n + suc j = omega arith in
    inr (among_right _ (section_inner o x) (sections_places o all (n + 1) rest)
    (subst (λ (k : ℕ). IsAmong (at o (region_of s) [] (Section all k)) (sections_places o all (n + 1) rest)) number (among_sections o all (n + 1) rest j s e)))

among_inner : (o : ℕ) (all : List SectionTree) (n : ℕ) (rest : List SectionTree) (j : ℕ) (s : SectionTree) → slice_get rest j ≡ Some s → (a : At) → IsAmong a (section_inner o s) → IsAmong a (sections_places o all n rest)
among_inner o all n [] j s e a h = absurd (cc e)
among_inner o all n (x ∷ rest) zero s e a h =
    let same : s ≡ x = cc e in
    inr (among_left a (section_inner o x) (sections_places o all (n + 1) rest) (subst (λ (z : SectionTree). IsAmong a (section_inner o z)) same h))
among_inner o all n (x ∷ rest) (suc j) s e a h = inr (among_right a (section_inner o x) (sections_places o all (n + 1) rest) (among_inner o all (n + 1) rest j s e a h))

-- an operation that has a section is there
pub record Has (d : DescriptionTree) (o k : ℕ) (s : SectionTree) : Type 0 where
  pub operation : OperationTree
  pub is : operation_at d o ≡ Some operation
  pub sections : sections_at d o ≡ operation.sections
  pub has : slice_get operation.sections k ≡ Some s

pub has_section : (d : DescriptionTree) (o k : ℕ) (s : SectionTree) → slice_get (sections_at d o) k ≡ Some s → Has d o k s
has_section d o k s e = by (operation_at d o) refl
  where
    by : (r : Option OperationTree) → operation_at d o ≡ r → Has d o k s
    by None none = let sections : sections_at d o ≡ [] = cc none in absurd (cc (sym (ap (λ (xs : List SectionTree). slice_get xs k) sections) ∙ e))
    by (Some operation) is =
        let sections : sections_at d o ≡ operation.sections = cc is in
        record { operation = operation; is = is; sections = sections; has = sym (ap (λ (xs : List SectionTree). slice_get xs k) sections) ∙ e }

pub section_stands : (d : DescriptionTree) (o k : ℕ) (s : SectionTree) → slice_get (sections_at d o) k ≡ Some s → Stands d (at o (region_of s) [] (Section (sections_at d o) k))
section_stands d o k s e =
    let h = has_section d o k s e in
    let number : 0 + k ≡ k = omega arith in
    let all : List SectionTree = h.operation.sections in
    subst (λ (xs : List SectionTree). Stands d (at o (region_of s) [] (Section xs k))) (sym h.sections)
    (operation_stands d o h.operation h.is _ (inr (subst (λ (m : ℕ). IsAmong (at o (region_of s) [] (Section all m)) (sections_places o all 0 all)) number (among_sections o all 0 all k s h.has))))

pub inner_stand : (d : DescriptionTree) (o k : ℕ) (s : SectionTree) → slice_get (sections_at d o) k ≡ Some s → AllStand d (section_inner o s)
inner_stand d o k s e a h =
    let w = has_section d o k s e in
    operation_stands d o w.operation w.is a (inr (among_inner o w.operation.sections 0 w.operation.sections k s w.has a h))

-- ---- the section of a kind

coding_number : (all : List SectionTree) (x : CodingTree) → coding_in all ≡ Some x → (k : ℕ) × (slice_get all k ≡ Some (trees.Coding x))
coding_number [] x e = absurd (cc e)
coding_number (trees.Declares y ∷ rest) x e = let r = coding_number rest x e in (suc r.0, r.1)
coding_number (trees.Coding y ∷ rest) x e = let same : y ≡ x = cc e in (0, ap (λ (z : CodingTree). Some (trees.Coding z)) same)
coding_number (trees.Syntax y ∷ rest) x e = let r = coding_number rest x e in (suc r.0, r.1)
coding_number (trees.Behavior y ∷ rest) x e = let r = coding_number rest x e in (suc r.0, r.1)
coding_number (trees.Expression y ∷ rest) x e = let r = coding_number rest x e in (suc r.0, r.1)
coding_number (trees.Activation y ∷ rest) x e = let r = coding_number rest x e in (suc r.0, r.1)

pub coding_stand : (d : DescriptionTree) (o : ℕ) (x : CodingTree) → coding_in (sections_at d o) ≡ Some x → AllStand d (coding_places o x)
coding_stand d o x e = let r = coding_number (sections_at d o) x e in inner_stand d o r.0 (trees.Coding x) r.1

syntax_number : (all : List SectionTree) (x : List SyntaxItem) → syntax_in all ≡ Some x → (k : ℕ) × (slice_get all k ≡ Some (trees.Syntax x))
syntax_number [] x e = absurd (cc e)
syntax_number (trees.Declares y ∷ rest) x e = let r = syntax_number rest x e in (suc r.0, r.1)
syntax_number (trees.Coding y ∷ rest) x e = let r = syntax_number rest x e in (suc r.0, r.1)
syntax_number (trees.Syntax y ∷ rest) x e = let same : y ≡ x = cc e in (0, ap (λ (z : List SyntaxItem). Some (trees.Syntax z)) same)
syntax_number (trees.Behavior y ∷ rest) x e = let r = syntax_number rest x e in (suc r.0, r.1)
syntax_number (trees.Expression y ∷ rest) x e = let r = syntax_number rest x e in (suc r.0, r.1)
syntax_number (trees.Activation y ∷ rest) x e = let r = syntax_number rest x e in (suc r.0, r.1)

pub syntax_stand : (d : DescriptionTree) (o : ℕ) (x : List SyntaxItem) → syntax_in (sections_at d o) ≡ Some x → AllStand d (parts_places o x)
syntax_stand d o x e = let r = syntax_number (sections_at d o) x e in inner_stand d o r.0 (trees.Syntax x) r.1

behavior_number : (all : List SectionTree) (x : StmtTrees) → behavior_in all ≡ Some x → (k : ℕ) × (slice_get all k ≡ Some (trees.Behavior x))
behavior_number [] x e = absurd (cc e)
behavior_number (trees.Declares y ∷ rest) x e = let r = behavior_number rest x e in (suc r.0, r.1)
behavior_number (trees.Coding y ∷ rest) x e = let r = behavior_number rest x e in (suc r.0, r.1)
behavior_number (trees.Syntax y ∷ rest) x e = let r = behavior_number rest x e in (suc r.0, r.1)
behavior_number (trees.Behavior y ∷ rest) x e = let same : y ≡ x = cc e in (0, ap (λ (z : StmtTrees). Some (trees.Behavior z)) same)
behavior_number (trees.Expression y ∷ rest) x e = let r = behavior_number rest x e in (suc r.0, r.1)
behavior_number (trees.Activation y ∷ rest) x e = let r = behavior_number rest x e in (suc r.0, r.1)

pub behavior_stand : (d : DescriptionTree) (o : ℕ) (x : StmtTrees) → behavior_in (sections_at d o) ≡ Some x → AllStand d (all_places o [] x)
behavior_stand d o x e = let r = behavior_number (sections_at d o) x e in inner_stand d o r.0 (trees.Behavior x) r.1

pub expression_number : (all : List SectionTree) (x : ExprTree) → expression_in all ≡ Some x → (k : ℕ) × (slice_get all k ≡ Some (trees.Expression x))
expression_number [] x e = absurd (cc e)
expression_number (trees.Declares y ∷ rest) x e = let r = expression_number rest x e in (suc r.0, r.1)
expression_number (trees.Coding y ∷ rest) x e = let r = expression_number rest x e in (suc r.0, r.1)
expression_number (trees.Syntax y ∷ rest) x e = let r = expression_number rest x e in (suc r.0, r.1)
expression_number (trees.Behavior y ∷ rest) x e = let r = expression_number rest x e in (suc r.0, r.1)
expression_number (trees.Expression y ∷ rest) x e = let same : y ≡ x = cc e in (0, ap (λ (z : ExprTree). Some (trees.Expression z)) same)
expression_number (trees.Activation y ∷ rest) x e = let r = expression_number rest x e in (suc r.0, r.1)

pub expression_stand : (d : DescriptionTree) (o : ℕ) (x : ExprTree) → expression_in (sections_at d o) ≡ Some x → AllStand d (uses o regions.Expression [] x)
expression_stand d o x e = let r = expression_number (sections_at d o) x e in inner_stand d o r.0 (trees.Expression x) r.1

pub activation_number : (all : List SectionTree) (x : ActTrees) → activation_in all ≡ Some x → (k : ℕ) × (slice_get all k ≡ Some (trees.Activation x))
activation_number [] x e = absurd (cc e)
activation_number (trees.Declares y ∷ rest) x e = let r = activation_number rest x e in (suc r.0, r.1)
activation_number (trees.Coding y ∷ rest) x e = let r = activation_number rest x e in (suc r.0, r.1)
activation_number (trees.Syntax y ∷ rest) x e = let r = activation_number rest x e in (suc r.0, r.1)
activation_number (trees.Behavior y ∷ rest) x e = let r = activation_number rest x e in (suc r.0, r.1)
activation_number (trees.Expression y ∷ rest) x e = let r = activation_number rest x e in (suc r.0, r.1)
activation_number (trees.Activation y ∷ rest) x e = let same : y ≡ x = cc e in (0, ap (λ (z : ActTrees). Some (trees.Activation z)) same)

pub activation_stand : (d : DescriptionTree) (o : ℕ) (x : ActTrees) → activation_in (sections_at d o) ≡ Some x → AllStand d (acts_places o x)
activation_stand d o x e = let r = activation_number (sections_at d o) x e in inner_stand d o r.0 (trees.Activation x) r.1

declares_number : (all : List SectionTree) → (declares_in all ≡ []) ⊎ ((k : ℕ) × (slice_get all k ≡ Some (trees.Declares (declares_in all))))
declares_number [] = inl refl
declares_number (trees.Declares x ∷ rest) = inr (0, refl)
declares_number (trees.Coding x ∷ rest) = ⊎_elim (λ none. inl none) (λ r. inr (suc r.0, r.1)) (declares_number rest)
declares_number (trees.Syntax x ∷ rest) = ⊎_elim (λ none. inl none) (λ r. inr (suc r.0, r.1)) (declares_number rest)
declares_number (trees.Behavior x ∷ rest) = ⊎_elim (λ none. inl none) (λ r. inr (suc r.0, r.1)) (declares_number rest)
declares_number (trees.Expression x ∷ rest) = ⊎_elim (λ none. inl none) (λ r. inr (suc r.0, r.1)) (declares_number rest)
declares_number (trees.Activation x ∷ rest) = ⊎_elim (λ none. inl none) (λ r. inr (suc r.0, r.1)) (declares_number rest)

pub declares_stand : (d : DescriptionTree) (o : ℕ) → AllStand d (declares_places o 0 (declares_in (sections_at d o)))
declares_stand d o a h =
    ⊎_elim (λ none. absurd (subst (λ (xs : List DeclareTree). IsAmong a (declares_places o 0 xs)) none h))
    (λ r. inner_stand d o r.0 (trees.Declares (declares_in (sections_at d o))) r.1 a h)
    (declares_number (sections_at d o))
