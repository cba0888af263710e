-- What follows from a table follows from a larger one.
use Rattle.std.proofs.Common.{◌≡◌, ℕ, List, [], ◌∷◌, Option, None, Some, Bool, true, false, cond, nat_eq, refl, ap, ap₂, ◌∙◌}
use Rattle.std.specs.List.{slice_get}
use Rattle.lisa_tree.specs.Expressions as exprs
use Rattle.lisa_tree.specs.Expressions.{ExprTree}
use Rattle.lisa_tree.specs.Statements as stmts
use Rattle.lisa_tree.specs.Statements.{StmtTree, StmtTrees}
use Rattle.lisa_tree.specs.Descriptions.{DescriptionTree}
use Rattle.lisa_tree.specs.declared.declared.What.{What}
use Rattle.lisa_tree.specs.declared.declared.What.TheVariants as whats
use Rattle.lisa_tree.specs.Operations.{sections_at, behavior_in, expression_in}
use Rattle.lisa_tree.specs.Declarations.{what_at, plain_at}
use Rattle.lisa_tree.specs.Paths.{Node, Operation, Choosing, Declaring, node_at, entry_node}
use Rattle.least_fixed_points.specs.Settles.{IsWithin, IsMonotone}
use Rattle.text_counts.specs.Sums.{Counts, plus, one_more, times, sum_of}
use Rattle.text_counts.specs.Expressions.{counted_of, known_or, read_nodes, expression_nodes, own_nodes}
use Rattle.text_counts.specs.Behaviors.{weight, called, turns_of, statement_count, statements_count, behavior_count}
use Rattle.text_counts.specs.Steps.{Counting, alternative, behavior_counting, expressions_counting, IsSteady}
use Rattle.text_counts.specs.Alike.{reference_along, entry_along, node_along, follows_along}

-- one has all that another has
pub record Less (x y : Option ℕ) : Type 0 where
  pub keeps : (n : ℕ) → x ≡ Some n → y ≡ Some n

none_less : (y : Option ℕ) → Less None y
none_less y = record { keeps = λ n e. absurd (cc e) }

same_less : (x : Option ℕ) → Less x x
same_less x = record { keeps = λ n e. e }

plus_less : (x y x' y' : Option ℕ) → Less x x' → Less y y' → Less (plus x y) (plus x' y')
plus_less None y x' y' l m = none_less _
plus_less (Some a) None x' y' l m = none_less _
plus_less (Some a) (Some b) x' y' l m = record { keeps = λ n e. ap₂ plus (l.keeps a refl) (m.keeps b refl) ∙ e }

more_less : (x y : Option ℕ) → Less x y → Less (one_more x) (one_more y)
more_less x y l = plus_less (Some 1) x (Some 1) y (same_less _) l

times_less : (k : ℕ) (x y : Option ℕ) → Less x y → Less (times k x) (times k y)
times_less k None y l = none_less _
times_less k (Some a) y l = record { keeps = λ n e. ap (times k) (l.keeps a refl) ∙ e }

module _ (known table : Counts) (within : IsWithin known table) where
  at_less : (a : ℕ) → Less (known a) (table a)
  at_less a = record { keeps = within a }

  sum_less : (more : ℕ) (all : List ℕ) → Less (sum_of more known all) (sum_of more table all)
  sum_less more [] = same_less _
  sum_less more (a ∷ rest) = plus_less _ _ _ _ (plus_less _ _ _ _ (same_less (Some more)) (at_less a)) (sum_less more rest)

  read_less : (all : List ℕ) → Less (read_nodes known all) (read_nodes table all)
  read_less [] = same_less _
  read_less (a ∷ rest) = sum_less 1 (a ∷ rest)

  or_less : (count : ℕ) (a : Option ℕ) → Less (known_or count known a) (known_or count table a)
  or_less count None = same_less _
  or_less count (Some a) = at_less a

  module _ (d : DescriptionTree) (o : ℕ) where
    expression_less : (e : ExprTree) → Less (expression_nodes known d o e) (expression_nodes table d o e)
    expression_less (exprs.Number v base) = same_less _
    expression_less (exprs.Named n) = or_less 1 (counted_of d o n)
    expression_less (exprs.Element n index) = more_less _ _ (expression_less index)
    expression_less (exprs.Input field) = same_less _
    expression_less (exprs.Output field) = same_less _
    expression_less (exprs.Boundary pipe before after field) = same_less _
    expression_less exprs.Decoded = same_less _
    expression_less (exprs.Cast shape a) = more_less _ _ (expression_less a)
    expression_less (exprs.Complement a) = more_less _ _ (expression_less a)
    expression_less (exprs.Negate a) = more_less _ _ (expression_less a)
    expression_less (exprs.Two operator a b) = more_less _ _ (plus_less _ _ _ _ (expression_less a) (expression_less b))
    expression_less (exprs.Choose c a b) = more_less _ _ (plus_less _ _ _ _ (expression_less c) (plus_less _ _ _ _ (expression_less a) (expression_less b)))

    own_less : (e : Option ExprTree) → Less (own_nodes known d o e) (own_nodes table d o e)
    own_less None = same_less _
    own_less (Some e) = expression_less e

    module _ (weigh : ExprTree → Option ℕ) where
      mutual
        statement_less : (s : StmtTree) → Less (statement_count weigh (called known d o) s) (statement_count weigh (called table d o) s)
        statement_less stmts.Empty = same_less _
        statement_less (stmts.Block all) = more_less _ _ (statements_less all)
        statement_less (stmts.Local shape n value) = same_less _
        statement_less (stmts.Assign place value) = same_less _
        statement_less (stmts.If test chosen) = more_less _ _ (plus_less _ _ _ _ (same_less (weigh test)) (statement_less chosen))
        statement_less (stmts.IfElse test chosen other) = more_less _ _ (plus_less _ _ _ _ (same_less (weigh test)) (plus_less _ _ _ _ (statement_less chosen) (statement_less other)))
        statement_less (stmts.While test body) = more_less _ _ (plus_less _ _ _ _ (same_less (weigh test)) (statement_less body))
        statement_less (stmts.For head body) = more_less _ _ (times_less (turns_of head) _ _ (statement_less body))
        statement_less (stmts.Call n) = more_less _ _ (or_less 0 (counted_of d o n))
        statement_less (stmts.Stall pipe stage) = same_less _
        statement_less (stmts.Flush pipe stage) = same_less _
        statement_less (stmts.Execute pipe) = same_less _
        statement_less (stmts.Shift pipe) = same_less _

        statements_less : (all : StmtTrees) → Less (statements_count weigh (called known d o) all) (statements_count weigh (called table d o) all)
        statements_less stmts.End = same_less _
        statements_less (stmts.Then s rest) = plus_less _ _ _ _ (statement_less s) (statements_less rest)

    behavior_less : (nodes : Option Counts) (all : Option StmtTrees) → Less (behavior_count nodes known d o all) (behavior_count nodes table d o all)
    behavior_less nodes None = same_less _
    behavior_less nodes (Some all) = statements_less (weight nodes d o) all

-- ---- what is counted

pub expressions_steady : (d : DescriptionTree) → IsSteady (expressions_counting d)
expressions_steady d = record {
  operations = λ known table within o n e. (own_less known table within d o (expression_in (sections_at d o))).keeps n e;
  choices = λ known table within all n e. (read_less known table within all).keeps n e;
}

pub behaviors_steady : (d : DescriptionTree) (nodes : Option Counts) → IsSteady (behavior_counting d nodes)
behaviors_steady d nodes = record {
  operations = λ known table within o n e. (behavior_less known table within d o nodes (behavior_in (sections_at d o))).keeps n e;
  choices = λ known table within all n e. (sum_less known table within (alternative nodes) all).keeps n e;
}

module _ (d : DescriptionTree) (means : ℕ → List ℕ) (alike : List ℕ) (counting : Counting) (steady : IsSteady counting) where
  module _ (known table : Counts) (within : IsWithin known table) where
    chosen_less : (all : List ℕ) → Less (counting.of_chosen known all) (counting.of_chosen table all)
    chosen_less all = record { keeps = steady.choices known table within all }

    reference_less : (i : ℕ) (other : Option ℕ) → Less (reference_along d means counting known i other) (reference_along d means counting table i other)
    reference_less i None = chosen_less (means i)
    reference_less i (Some j) = by (nat_eq j i)
      where
        by : (b : Bool) → Less (cond b (counting.of_chosen known (means i)) (known (entry_node d j))) (cond b (counting.of_chosen table (means i)) (table (entry_node d j)))
        by true = chosen_less (means i)
        by false = at_less known table within (entry_node d j)

    entry_less : (i : ℕ) (what : Option What) → Less (entry_along d means alike counting known i what) (entry_along d means alike counting table i what)
    entry_less i None = same_less _
    entry_less i (Some (whats.Group c)) = same_less _
    entry_less i (Some (whats.Instance c)) = same_less _
    entry_less i (Some whats.Label) = same_less _
    entry_less i (Some whats.Reference) = reference_less i (slice_get alike i)

    node_less : (node : Node) → Less (node_along d means alike counting known node) (node_along d means alike counting table node)
    node_less (Operation o) = record { keeps = steady.operations known table within o }
    node_less (Choosing c) = chosen_less (plain_at d c)
    node_less (Declaring i) = entry_less i (what_at d i)

  pub along_monotone : IsMonotone (follows_along d means alike counting)
  along_monotone known table within a n e = (node_less known table within (node_at d a)).keeps n e
