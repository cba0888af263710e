-- What look-ups find in a well-formed description.
use Rattle.std.proofs.Common.{◌≡◌, ℕ, zero, suc, List, [], ◌∷◌, Option, None, Some, subst, refl}
use Rattle.std.specs.Prelude.{slice_get}
use Rattle.std.specs.List.{AllByRecursion}
use Rattle.lisa_tree.specs.declared.descriptions.SyntaxItem.{SyntaxItem}
use Rattle.lisa_tree.specs.Expressions.{ExprTree}
use Rattle.lisa_tree.specs.Statements.{StmtTrees}
use Rattle.lisa_tree.specs.Activations.{ActTrees}
use Rattle.lisa_tree.specs.Descriptions as trees
use Rattle.lisa_tree.specs.Descriptions.{CodingTree, SectionTree, OperationTree, DescriptionTree}
use Rattle.lisa_tree.specs.Operations.{operation_at, sections_at, declares_in, coding_in, syntax_in, behavior_in, expression_in, activation_in}
use Rattle.spelled_promises.specs.Trees.{IsWellFormed, IsWellFormedExpr, IsWellFormedStmts, IsWellFormedActs, IsWellFormedDeclare, IsWellFormedCoding, IsWellFormedSyntax, IsWellFormedSection, IsWellFormedOperation}

pub one_of : {A : Type 0} (P : A → Type 0) (all : List A) (k : ℕ) (a : A) → AllByRecursion P all → slice_get all k ≡ Some a → P a
one_of P [] k a h e = absurd (cc e)
one_of P (x ∷ rest) zero a h e = let same : x ≡ a = cc e in subst P same h.0
one_of P (x ∷ rest) (suc k) a h e = one_of P rest k a h.1 e

pub sections_formed : (d : DescriptionTree) → IsWellFormed d → (o : ℕ) → AllByRecursion IsWellFormedSection (sections_at d o)
sections_formed d w o = by (operation_at d o) refl
  where
    by : (r : Option OperationTree) → operation_at d o ≡ r → AllByRecursion IsWellFormedSection (sections_at d o)
    by None none = let is : sections_at d o ≡ [] = cc none in rw is tt
    by (Some operation) found = let is : sections_at d o ≡ operation.sections = cc found in rw is (one_of IsWellFormedOperation d.operations o operation w.operations found).sections

pub declares_formed : (all : List SectionTree) → AllByRecursion IsWellFormedSection all → AllByRecursion IsWellFormedDeclare (declares_in all)
declares_formed [] h = tt
declares_formed (trees.Declares x ∷ rest) h = h.0
declares_formed (trees.Coding x ∷ rest) h = declares_formed rest h.1
declares_formed (trees.Syntax x ∷ rest) h = declares_formed rest h.1
declares_formed (trees.Behavior x ∷ rest) h = declares_formed rest h.1
declares_formed (trees.Expression x ∷ rest) h = declares_formed rest h.1
declares_formed (trees.Activation x ∷ rest) h = declares_formed rest h.1

pub coding_formed : (all : List SectionTree) (x : CodingTree) → AllByRecursion IsWellFormedSection all → coding_in all ≡ Some x → IsWellFormedCoding x
coding_formed [] x h e = absurd (cc e)
coding_formed (trees.Coding y ∷ rest) x h e = let same : y ≡ x = cc e in subst IsWellFormedCoding same h.0
coding_formed (trees.Declares y ∷ rest) x h e = coding_formed rest x h.1 e
coding_formed (trees.Syntax y ∷ rest) x h e = coding_formed rest x h.1 e
coding_formed (trees.Behavior y ∷ rest) x h e = coding_formed rest x h.1 e
coding_formed (trees.Expression y ∷ rest) x h e = coding_formed rest x h.1 e
coding_formed (trees.Activation y ∷ rest) x h e = coding_formed rest x h.1 e

pub syntax_formed : (all : List SectionTree) (x : List SyntaxItem) → AllByRecursion IsWellFormedSection all → syntax_in all ≡ Some x → IsWellFormedSyntax x
syntax_formed [] x h e = absurd (cc e)
syntax_formed (trees.Syntax y ∷ rest) x h e = let same : y ≡ x = cc e in subst IsWellFormedSyntax same h.0
syntax_formed (trees.Declares y ∷ rest) x h e = syntax_formed rest x h.1 e
syntax_formed (trees.Coding y ∷ rest) x h e = syntax_formed rest x h.1 e
syntax_formed (trees.Behavior y ∷ rest) x h e = syntax_formed rest x h.1 e
syntax_formed (trees.Expression y ∷ rest) x h e = syntax_formed rest x h.1 e
syntax_formed (trees.Activation y ∷ rest) x h e = syntax_formed rest x h.1 e

pub behavior_formed : (all : List SectionTree) (x : StmtTrees) → AllByRecursion IsWellFormedSection all → behavior_in all ≡ Some x → IsWellFormedStmts x
behavior_formed [] x h e = absurd (cc e)
behavior_formed (trees.Behavior y ∷ rest) x h e = let same : y ≡ x = cc e in subst IsWellFormedStmts same h.0
behavior_formed (trees.Declares y ∷ rest) x h e = behavior_formed rest x h.1 e
behavior_formed (trees.Coding y ∷ rest) x h e = behavior_formed rest x h.1 e
behavior_formed (trees.Syntax y ∷ rest) x h e = behavior_formed rest x h.1 e
behavior_formed (trees.Expression y ∷ rest) x h e = behavior_formed rest x h.1 e
behavior_formed (trees.Activation y ∷ rest) x h e = behavior_formed rest x h.1 e

pub expression_formed : (all : List SectionTree) (x : ExprTree) → AllByRecursion IsWellFormedSection all → expression_in all ≡ Some x → IsWellFormedExpr x
expression_formed [] x h e = absurd (cc e)
expression_formed (trees.Expression y ∷ rest) x h e = let same : y ≡ x = cc e in subst IsWellFormedExpr same h.0
expression_formed (trees.Declares y ∷ rest) x h e = expression_formed rest x h.1 e
expression_formed (trees.Coding y ∷ rest) x h e = expression_formed rest x h.1 e
expression_formed (trees.Syntax y ∷ rest) x h e = expression_formed rest x h.1 e
expression_formed (trees.Behavior y ∷ rest) x h e = expression_formed rest x h.1 e
expression_formed (trees.Activation y ∷ rest) x h e = expression_formed rest x h.1 e

pub activation_formed : (all : List SectionTree) (x : ActTrees) → AllByRecursion IsWellFormedSection all → activation_in all ≡ Some x → IsWellFormedActs x
activation_formed [] x h e = absurd (cc e)
activation_formed (trees.Activation y ∷ rest) x h e = let same : y ≡ x = cc e in subst IsWellFormedActs same h.0
activation_formed (trees.Declares y ∷ rest) x h e = activation_formed rest x h.1 e
activation_formed (trees.Coding y ∷ rest) x h e = activation_formed rest x h.1 e
activation_formed (trees.Syntax y ∷ rest) x h e = activation_formed rest x h.1 e
activation_formed (trees.Behavior y ∷ rest) x h e = activation_formed rest x h.1 e
activation_formed (trees.Expression y ∷ rest) x h e = activation_formed rest x h.1 e
