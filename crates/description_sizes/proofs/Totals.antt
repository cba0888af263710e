-- Every text has a count where each name in it has one.
use Rattle.std.proofs.Common.{◌≡◌, ◌+◌, ◌*◌, ℕ, List, [], ◌∷◌, Option, None, Some, true, nat_eq, refl, ap, ap₂}
use Rattle.std.proofs.lemmas.Bool.{or_left, or_right, eq-eqb}
use Rattle.lisa_tree.specs.Expressions as exprs
use Rattle.lisa_tree.specs.Expressions.{ExprTree}
use Rattle.lisa_tree.specs.Statements as stmts
use Rattle.lisa_tree.specs.Statements.{StmtTree, StmtTrees}
use Rattle.lisa_tree.specs.Activations as acts
use Rattle.lisa_tree.specs.Activations.{ActTree, ActTrees}
use Rattle.lisa_tree.specs.Descriptions.{DescriptionTree}
use Rattle.graph_paths.specs.Paths.{is_in}
use Rattle.text_counts.specs.Sums.{Counts, capped, plus, one_more, times, sum_of}
use Rattle.text_counts.specs.Expressions.{counted_of, known_or, read_nodes, expression_nodes, own_nodes}
use Rattle.text_counts.specs.Behaviors.{turns_of, initial, statement_count, statements_count}
use Rattle.text_counts.specs.Activations.{item_nodes, items_nodes, activation_nodes}

pub record Has (x : Option ℕ) : Type 0 where
  pub count : ℕ
  pub is : x ≡ Some count

pub some_has : (n : ℕ) → Has (Some n)
some_has n = record { count = n; is = refl }

pub plus_has : (x y : Option ℕ) → Has x → Has y → Has (plus x y)
plus_has x y h k = record { count = capped (h.count + k.count); is = ap₂ plus h.is k.is }

more_has : (x : Option ℕ) → Has x → Has (one_more x)
more_has x h = plus_has (Some 1) x (some_has 1) h

times_has : (k : ℕ) (x : Option ℕ) → Has x → Has (times k x)
times_has k x h = record { count = capped (k * h.count); is = ap (times k) h.is }

pub sum_has : (more : ℕ) (known : Counts) (all : List ℕ) → ((b : ℕ) → is_in b all ≡ true → Has (known b)) → Has (sum_of more known all)
sum_has more known [] f = some_has 0
sum_has more known (a ∷ rest) f =
    plus_has (plus (Some more) (known a)) (sum_of more known rest)
    (plus_has (Some more) (known a) (some_has more) (f a (or_left (nat_eq a a) (is_in a rest) (eq-eqb a a refl))))
    (sum_has more known rest (λ b e. f b (or_right (nat_eq b a) (is_in b rest) e)))

pub read_has : (known : Counts) (all : List ℕ) → ((b : ℕ) → is_in b all ≡ true → Has (known b)) → Has (read_nodes known all)
read_has known [] f = some_has 1
read_has known (a ∷ rest) f = sum_has 1 known (a ∷ rest) f

-- each name of an operation has one
abbrev pub NamesHave : DescriptionTree → ℕ → Counts → Type 0
NamesHave d o known = (n : List ℕ) (a : ℕ) → counted_of d o n ≡ Some a → Has (known a)

module _ (d : DescriptionTree) (o : ℕ) (known : Counts) (names : NamesHave d o known) where
  pub or_has : (count : ℕ) (n : List ℕ) → Has (known_or count known (counted_of d o n))
  or_has count n = by (counted_of d o n) refl
    where
      by : (x : Option ℕ) → counted_of d o n ≡ x → Has (known_or count known x)
      by None e = some_has count
      by (Some a) e = names n a e

  pub expression_has : (e : ExprTree) → Has (expression_nodes known d o e)
  expression_has (exprs.Number v base) = some_has 1
  expression_has (exprs.Named n) = or_has 1 n
  expression_has (exprs.Element n index) = more_has _ (expression_has index)
  expression_has (exprs.Input field) = some_has 1
  expression_has (exprs.Output field) = some_has 1
  expression_has (exprs.Boundary pipe before after field) = some_has 1
  expression_has exprs.Decoded = some_has 1
  expression_has (exprs.Cast shape a) = more_has _ (expression_has a)
  expression_has (exprs.Complement a) = more_has _ (expression_has a)
  expression_has (exprs.Negate a) = more_has _ (expression_has a)
  expression_has (exprs.Two operator a b) = more_has _ (plus_has _ _ (expression_has a) (expression_has b))
  expression_has (exprs.Choose c a b) = more_has _ (plus_has _ _ (expression_has c) (plus_has _ _ (expression_has a) (expression_has b)))

  pub own_has : (e : Option ExprTree) → Has (own_nodes known d o e)
  own_has None = some_has 0
  own_has (Some e) = expression_has e

  mutual
    item_has : (a : ActTree) → Has (item_nodes known d o a)
    item_has (acts.Start n) = some_has 1
    item_has (acts.Choose test chosen) = more_has _ (plus_has _ _ (expression_has test) (items_have chosen))
    item_has (acts.ChooseElse test chosen other) = more_has _ (plus_has _ _ (expression_has test) (plus_has _ _ (items_have chosen) (items_have other)))

    items_have : (all : ActTrees) → Has (items_nodes known d o all)
    items_have acts.End = some_has 0
    items_have (acts.Then a rest) = plus_has _ _ (item_has a) (items_have rest)

  pub activation_has : (all : Option ActTrees) → Has (activation_nodes known d o all)
  activation_has None = some_has 0
  activation_has (Some all) = items_have all

module _ (weigh : ExprTree → Option ℕ) (call : List ℕ → Option ℕ) (weighs : (e : ExprTree) → Has (weigh e)) (calls : (n : List ℕ) → Has (call n)) where
  initial_has : (e : Option ExprTree) → Has (initial weigh e)
  initial_has None = some_has 0
  initial_has (Some e) = weighs e

  mutual
    statement_has : (s : StmtTree) → Has (statement_count weigh call s)
    statement_has stmts.Empty = some_has 1
    statement_has (stmts.Block all) = more_has _ (statements_have all)
    statement_has (stmts.Local shape n value) = more_has _ (initial_has value)
    statement_has (stmts.Assign place value) = more_has _ (plus_has _ _ (weighs place) (weighs value))
    statement_has (stmts.If test chosen) = more_has _ (plus_has _ _ (weighs test) (statement_has chosen))
    statement_has (stmts.IfElse test chosen other) = more_has _ (plus_has _ _ (weighs test) (plus_has _ _ (statement_has chosen) (statement_has other)))
    statement_has (stmts.While test body) = more_has _ (plus_has _ _ (weighs test) (statement_has body))
    statement_has (stmts.For head body) = more_has _ (times_has (turns_of head) _ (statement_has body))
    statement_has (stmts.Call n) = more_has _ (calls n)
    statement_has (stmts.Stall pipe stage) = some_has 1
    statement_has (stmts.Flush pipe stage) = some_has 1
    statement_has (stmts.Execute pipe) = some_has 1
    statement_has (stmts.Shift pipe) = some_has 1

    pub statements_have : (all : StmtTrees) → Has (statements_count weigh call all)
    statements_have stmts.End = some_has 0
    statements_have (stmts.Then s rest) = plus_has _ _ (statement_has s) (statements_have rest)
