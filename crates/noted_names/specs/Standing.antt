-- The names that stand in an operation where it is run, and those that it declares.
use Rattle.std.specs.Prelude.{ℕ, ◌≡◌, List, [], ◌∷◌, ◌++◌, map, flat_map}
use Rattle.std.specs.Option.{option_map_or}
use Rattle.std.specs.Borrow.{Bor}
use Rattle.lisa_tree.specs.Expressions.{ExprTree}
use Rattle.lisa_tree.specs.Expressions as exprs
use Rattle.lisa_tree.specs.Statements.{StmtTree, StmtTrees}
use Rattle.lisa_tree.specs.Statements as stmts
use Rattle.lisa_tree.specs.Activations.{ActTree, ActTrees}
use Rattle.lisa_tree.specs.Activations as acts
use Rattle.lisa_tree.specs.Descriptions.{DeclareTree, SectionTree, DescriptionTree}
use Rattle.lisa_tree.specs.Descriptions as trees
use Rattle.lisa_tree.specs.Operations.{sections_at}

-- those of stages and fields aside
abbrev pub in_expression : ExprTree → List (List ℕ)
in_expression (exprs.Named name) = name ∷ []
in_expression (exprs.Element name index) = name ∷ in_expression index
in_expression (exprs.Cast shape a) = in_expression a
in_expression (exprs.Complement a) = in_expression a
in_expression (exprs.Negate a) = in_expression a
in_expression (exprs.Two operator a b) = in_expression a ++ in_expression b
in_expression (exprs.Choose c a b) = in_expression c ++ in_expression a ++ in_expression b
in_expression _ = []

-- the head of a loop is counted, and not run
abbrev mutual
  pub in_statement : StmtTree → List (List ℕ)
  in_statement (stmts.Block all) = in_statements all
  in_statement (stmts.Local shape name value) = option_map_or in_expression value []
  in_statement (stmts.Assign place value) = in_expression place ++ in_expression value
  in_statement (stmts.If test chosen) = in_expression test ++ in_statement chosen
  in_statement (stmts.IfElse test chosen other) = in_expression test ++ in_statement chosen ++ in_statement other
  in_statement (stmts.While test body) = in_expression test ++ in_statement body
  in_statement (stmts.For head body) = in_statement body
  in_statement (stmts.Call name) = name ∷ []
  in_statement _ = []

  pub in_statements : StmtTrees → List (List ℕ)
  in_statements stmts.End = []
  in_statements (stmts.Then s rest) = in_statement s ++ in_statements rest

-- those in the conditions of an activation
abbrev mutual
  pub in_act : ActTree → List (List ℕ)
  in_act (acts.Start name) = []
  in_act (acts.Choose test chosen) = in_expression test ++ in_acts chosen
  in_act (acts.ChooseElse test chosen other) = in_expression test ++ in_acts chosen ++ in_acts other

  pub in_acts : ActTrees → List (List ℕ)
  in_acts acts.End = []
  in_acts (acts.Then a rest) = in_act a ++ in_acts rest

abbrev pub declared_by : DeclareTree → List (List ℕ)
declared_by (trees.Group names alternatives) = names
declared_by (trees.Instance names) = map (λ pair. pair.0) names
declared_by (trees.Label names) = names
declared_by (trees.Reference names) = names

abbrev pub in_section : SectionTree → List (List ℕ)
in_section (trees.Declares all) = flat_map declared_by all
in_section (trees.Coding (trees.Root place group)) = in_expression place
in_section (trees.Behavior statements) = in_statements statements
in_section (trees.Expression value) = in_expression value
in_section (trees.Activation items) = in_acts items
in_section _ = []

abbrev pub names_in : DescriptionTree → ℕ → List (List ℕ)
names_in d o = flat_map in_section (sections_at d o)

-- the names that references stand for
abbrev pub names_of : List (Bor (List ℕ)) → List (List ℕ)
names_of references = map (λ r. r.now) references

-- references to these names go behind the others
abbrev pub Gathers : (old new : List (Bor (List ℕ))) → List (List ℕ) → Type 0
Gathers old new names = names_of new ≡ names_of old ++ names
