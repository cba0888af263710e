-- One more declaration, or operation.
use Rattle.std.proofs.Common.{◌≡◌, ◌<◌, ◌+◌, ℕ, List, [], ◌∷◌, ◌++◌, length, get_or, drop, map, ap, ◌∙◌}
use Rattle.std.proofs.lemmas.List.{map-append}
use Rattle.lisa_tree.specs.Descriptions.{declare_tree, operation_tree}
use Rattle.lisa_tree.specs.declared.descriptions.Declare.{Declare}
use Rattle.lisa_tree.specs.declared.descriptions.Operation.{Operation}
use Rattle.lisa_tree.specs.Operations.{declares_in}
use Rattle.lisa_tree.specs.Declarations.{Choice, choice, choices_of, choices_in, choices_from}
use Rattle.description_graph.specs.Graph.{owners}
use Rattle.description_graph.proofs.Lists.{one_more}

abbrev pub one_of : ℕ → List ℕ × List ℕ → Choice
one_of o pair = choice o (pair.1 ∷ [])

pub pairs_step : (o : ℕ) (pairs : List (List ℕ × List ℕ)) (i : ℕ) (pair : List ℕ × List ℕ) → i < length pairs → pair ≡ get_or pairs i pair
    → owners (map (one_of o) (drop i pairs)) ≡ (o ∷ []) ++ owners (map (one_of o) (drop (i + 1) pairs))
pairs_step o pairs i pair h is = ap (λ (ps : List (List ℕ × List ℕ)). owners (map (one_of o) ps)) (one_more pairs i pair h is)

owners-append : (xs ys : List Choice) → owners (xs ++ ys) ≡ owners xs ++ owners ys
owners-append xs ys = map-append (λ (c : Choice). c.operation) xs ys

pub declares_step : (o : ℕ) (all : List Declare) (i : ℕ) (x : Declare) → i < length all → x ≡ get_or all i x
    → owners (choices_in o (map declare_tree (drop i all))) ≡ owners (choices_of o (declare_tree x)) ++ owners (choices_in o (map declare_tree (drop (i + 1) all)))
declares_step o all i x h is =
    ap (λ (ds : List Declare). owners (choices_in o (map declare_tree ds))) (one_more all i x h is)
    ∙ owners-append (choices_of o (declare_tree x)) (choices_in o (map declare_tree (drop (i + 1) all)))

pub operations_step : (all : List Operation) (i : ℕ) (x : Operation) → i < length all → x ≡ get_or all i x
    → owners (choices_from i (map operation_tree (drop i all))) ≡ owners (choices_in i (declares_in (operation_tree x).sections)) ++ owners (choices_from (i + 1) (map operation_tree (drop (i + 1) all)))
operations_step all i x h is =
    ap (λ (os : List Operation). owners (choices_from i (map operation_tree os))) (one_more all i x h is)
    ∙ owners-append (choices_in i (declares_in (operation_tree x).sections)) (choices_from (i + 1) (map operation_tree (drop (i + 1) all)))
