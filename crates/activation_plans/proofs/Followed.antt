-- Acts that follow others, one more at a time.
use Rattle.std.proofs.Common.{◌≡◌, ◌+◌, ℕ, suc, List, ◌∷◌, refl, ap, ◌∙◌, arith}
use Rattle.lisa_tree.specs.Activations.{ActTree, ActTrees, Then}
use Rattle.lisa_meaning.specs.activation_trees.declared.parts.Occurrence.{Occurrence}
use Rattle.lisa_meaning.specs.activation_trees.Starting.{Activated}
use Rattle.lisa_meaning.specs.activation_trees.Unfolding.{child}
use Rattle.pipeline_time.specs.Acts.{Acts, Done, Act, When, size}
use Rattle.activation_plans.specs.Growing.{alone}
use Rattle.lisa_meaning.specs.Trees.{Activator, level_of_stage, followed, row, item_acts, items_acts, item_tests}

pub followed_none : (a : Acts) → followed a Done ≡ a
followed_none Done = refl
followed_none (Act n l p own rest) = ap (Act n l p own) (followed_none rest)
followed_none (When n t taken other rest) = ap (When n t taken other) (followed_none rest)

followed_twice : (a b c : Acts) → followed (followed a b) c ≡ followed a (followed b c)
followed_twice Done b c = refl
followed_twice (Act n l p own rest) b c = ap (Act n l p own) (followed_twice rest b c)
followed_twice (When n t taken other rest) b c = ap (When n t taken other) (followed_twice rest b c)

size_followed : (a b : Acts) → size (followed a b) ≡ size a + size b
size_followed Done b = omega arith
size_followed (Act n l p own rest) b = let e = size_followed rest b in omega (arith, e)
size_followed (When n t taken other rest) b = let e = size_followed rest b in omega (arith, e)

-- ---- one more occurrence of a row

pub row_more : (a : Activator) (tree more_tree own all : Acts) (next : ℕ) (one : Activated) (more : List Activated) (x : Occurrence)
    → x ≡ child a.description a.number a.occurrence one
    → own ≡ a.below next x
    → more_tree ≡ followed tree (alone next x own)
    → followed tree (row a next (one ∷ more)) ≡ all
    → followed more_tree (row a (suc (next + size own)) more) ≡ all
row_more a tree more_tree own all next one more x is_x is_own is_tree so_far =
    ap (λ (t : Acts). followed t (row a (suc (next + size own)) more)) is_tree
    ∙ followed_twice tree (alone next x own) (row a (suc (next + size own)) more)
    ∙ ap (followed tree)
    (ap (λ (o : Acts). Act next (level_of_stage x.stage) x.past_root o (row a (suc (next + size o)) more)) is_own
    ∙ ap (λ (y : Occurrence). Act next (level_of_stage y.stage) y.past_root (a.below next y) (row a (suc (next + size (a.below next y))) more)) is_x)
    ∙ so_far

pub next_more : (tree more_tree own : Acts) (from next last : ℕ) (x : Occurrence)
    → more_tree ≡ followed tree (alone next x own)
    → next ≡ from + size tree
    → last ≡ suc next + size own
    → last ≡ from + size more_tree
next_more tree more_tree own from next last x is_tree so_far is_last =
    let e = ap size is_tree ∙ size_followed tree (alone next x own) in
    omega (arith, e, so_far, is_last)

-- ---- one more item

pub item_more : (a : Activator) (tree more_tree first all : Acts) (next last : ℕ) (item : ActTree) (rest : ActTrees)
    → first ≡ item_acts a next last item
    → more_tree ≡ followed tree first
    → followed tree (items_acts a next last (Then item rest)) ≡ all
    → followed more_tree (items_acts a (next + size first) (last + item_tests item) rest) ≡ all
item_more a tree more_tree first all next last item rest is_first is_tree so_far =
    ap (λ (t : Acts). followed t (items_acts a (next + size first) (last + item_tests item) rest)) is_tree
    ∙ followed_twice tree first (items_acts a (next + size first) (last + item_tests item) rest)
    ∙ ap (followed tree) (ap (λ (f : Acts). followed f (items_acts a (next + size f) (last + item_tests item) rest)) is_first)
    ∙ so_far

pub behind_more : (tree more_tree first : Acts) (from next last : ℕ)
    → more_tree ≡ followed tree first
    → next ≡ from + size tree
    → last ≡ next + size first
    → last ≡ from + size more_tree
behind_more tree more_tree first from next last is_tree so_far is_last =
    let e = ap size is_tree ∙ size_followed tree first in
    omega (arith, e, so_far, is_last)
