-- The name of a form as it is written: the name of its operation, and the names of its children in parentheses.
use Rattle.std.specs.Prelude.{ℕ, List, ◌++◌, codes}
use Rattle.instruction_forms.specs.Trees.{FormTree, FormTrees, Node, End, Then}

abbrev mutual
  -- by the names of operations; without children there are no parentheses
  pub form_text : (ℕ → List ℕ) → FormTree → List ℕ
  form_text names (Node o End fields) = names o
  form_text names (Node o (Then f rest) fields) = names o ++ codes "(" ++ form_text names f ++ others names rest

  -- what stands behind a child
  pub others : (ℕ → List ℕ) → FormTrees → List ℕ
  others names End = codes ")"
  others names (Then f rest) = codes "," ++ form_text names f ++ others names rest
