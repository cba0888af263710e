-- What an `if` and an occurrence unfold to.
use Rattle.std.proofs.Common.{◌≡◌, ◌≤◌, ◌<◌, ◌+◌, ◌-◌, ℕ, zero, suc, Bool, List, [], ◌∷◌, length, get_or, drop, drop-cons, add-one, Option, None, Some, map, refl, sym, ap, ap₂, ◌∙◌, arith}
use Rattle.std.specs.Prelude.{option_map}
use Rattle.std.specs.Borrow.{Bor}
use Rattle.std.specs.Global.{Vec}
use Rattle.lisa_tree.specs.declared.expressions.Expr.{Expr}
use Rattle.lisa_tree.specs.declared.descriptions.Section.{Section}
use Rattle.lisa_tree.specs.declared.descriptions.Act.{Act}
use Rattle.lisa_tree.specs.declared.descriptions.Act.TheVariants as acts
use Rattle.lisa_tree.proofs.Views.{act_tree-Choose, act_tree-ChooseElse}
use Rattle.lisa_tree.specs.Expressions.{expr_tree}
use Rattle.lisa_tree.specs.Activations as items
use Rattle.lisa_tree.specs.Activations.{ActTree, ActTrees, act_tree, act_trees}
use Rattle.lisa_tree.specs.Descriptions.{DescriptionTree, section_tree}
use Rattle.lisa_tree.specs.Operations.{sections_at, activation_in}
use Rattle.lisa_meaning.specs.activation_trees.declared.parts.Occurrence.{Occurrence}
use Rattle.lisa_meaning.specs.activation_trees.Starting.{activation}
use Rattle.pipeline_time.specs.Acts.{Acts, Done, When, size}
use Rattle.lisa_meaning.specs.Trees.{Activator, item_acts, items_acts, item_tests, items_tests, activation_acts, acts_within}

-- ---- what a name activates

pub row_split : (by_root : Bool) (all : List ℕ) (i : ℕ) → i < length all → map (activation by_root) (drop i all) ≡ activation by_root (get_or all i 0) ∷ map (activation by_root) (drop (i + 1) all)
row_split by_root all i low =
    ap (map (activation by_root)) (drop-cons all i 0 low)
    ∙ ap (λ (m : ℕ). activation by_root (get_or all i 0) ∷ map (activation by_root) (drop m all)) (sym (add-one i))

pub row_gone : (by_root : Bool) (all : List ℕ) (i : ℕ) → length all ≤ i → map (activation by_root) (drop i all) ≡ []
row_gone by_root [] zero past = refl
row_gone by_root [] (suc i) past = refl
row_gone by_root (x ∷ all) zero past = absurd (omega (arith, past))
row_gone by_root (x ∷ all) (suc i) past = row_gone by_root all i (omega (arith, past))

-- ---- items

-- the items, the number and the test that come next
pub record IsItem (a : Activator) (from test : ℕ) (act : ActTree) (grown : Acts) (next last : ℕ) : Type 0 where
  pub items_are : grown ≡ item_acts a from test act
  pub number_is : next ≡ from + size (item_acts a from test act)
  pub test_is : last ≡ test + item_tests act

pub one_branch : (a : Activator) (from test next last : ℕ) (act : Act) (e : Expr) (v : Vec Act) (other : Option (Vec Act)) (xs : List Act) (grown taken : Acts)
    → act ≡ acts.Choose e v other
    → other ≡ None
    → xs ≡ v.items
    → taken ≡ items_acts a from (suc test) (act_trees xs)
    → next ≡ from + size (items_acts a from (suc test) (act_trees xs))
    → last ≡ suc test + items_tests (act_trees xs)
    → grown ≡ When a.number test taken Done Done
    → IsItem a from test (act_tree act) grown next last
one_branch a from test next last act e v other xs grown taken is none are is_taken is_next is_last is_grown =
    let tree : act_tree act ≡ items.Choose (expr_tree e) (act_trees xs) = ap act_tree (is ∙ ap (acts.Choose e v) none) ∙ act_tree-Choose e v ∙ ap (λ (l : List Act). items.Choose (expr_tree e) (act_trees l)) (sym are) in
    let whole = ap (item_acts a from test) tree in
    let sizes = ap size whole in
    let tests = ap item_tests tree in
    record {
      items_are = is_grown ∙ ap (λ (t : Acts). When a.number test t Done Done) is_taken ∙ sym whole;
      number_is = omega (arith, is_next, sizes);
      test_is = omega (arith, is_last, tests);
    }

pub two_branches : (a : Activator) (from test middle between next last : ℕ) (act : Act) (e : Expr) (v w : Vec Act) (other : Option (Vec Act)) (xs ys : List Act) (grown taken rest : Acts)
    → act ≡ acts.Choose e v other
    → other ≡ Some w
    → xs ≡ v.items
    → ys ≡ w.items
    → taken ≡ items_acts a from (suc test) (act_trees xs)
    → middle ≡ from + size (items_acts a from (suc test) (act_trees xs))
    → between ≡ suc test + items_tests (act_trees xs)
    → rest ≡ items_acts a middle between (act_trees ys)
    → next ≡ middle + size (items_acts a middle between (act_trees ys))
    → last ≡ between + items_tests (act_trees ys)
    → grown ≡ When a.number test taken rest Done
    → IsItem a from test (act_tree act) grown next last
two_branches a from test middle between next last act e v w other xs ys grown taken rest is some are others is_taken is_middle is_between is_rest is_next is_last is_grown =
    let tree : act_tree act ≡ items.ChooseElse (expr_tree e) (act_trees xs) (act_trees ys) =
    ap act_tree (is ∙ ap (acts.Choose e v) some) ∙ act_tree-ChooseElse e v w
    ∙ ap₂ (λ (l m : List Act). items.ChooseElse (expr_tree e) (act_trees l) (act_trees m)) (sym are) (sym others) in
    let whole = ap (item_acts a from test) tree in
    let sizes = ap size whole in
    let tests = ap item_tests tree in
    let second = ap₂ (λ (n t : ℕ). items_acts a n t (act_trees ys)) is_middle is_between in
    let second_size = ap size second in
    record {
      items_are = is_grown ∙ ap₂ (λ (t o : Acts). When a.number test t o Done) is_taken (is_rest ∙ second) ∙ sym whole;
      number_is = omega (arith, is_next, is_middle, sizes, second_size);
      test_is = omega (arith, is_last, is_between, tests);
    }

-- ---- what is below an occurrence

pub activation_is : (d : DescriptionTree) (o : ℕ) (parts : List Section) (r : Option (Bor (List Act))) (acts : Bor (List Act))
    → map section_tree parts ≡ sections_at d o
    → option_map (λ (a : Bor (List Act)). act_trees a.now) r ≡ activation_in (map section_tree parts)
    → r ≡ Some acts
    → activation_in (sections_at d o) ≡ Some (act_trees acts.now)
activation_is d o parts r acts e f g = sym (ap activation_in e) ∙ sym f ∙ ap (option_map (λ (a : Bor (List Act)). act_trees a.now)) g

pub activation_none : (d : DescriptionTree) (o : ℕ) (parts : List Section) (r : Option (Bor (List Act)))
    → map section_tree parts ≡ sections_at d o
    → option_map (λ (a : Bor (List Act)). act_trees a.now) r ≡ activation_in (map section_tree parts)
    → r ≡ None
    → activation_in (sections_at d o) ≡ None
activation_none d o parts r e f g = sym (ap activation_in e) ∙ sym f ∙ ap (option_map (λ (a : Bor (List Act)). act_trees a.now)) g

abbrev above_of : DescriptionTree → ℕ → ℕ → Occurrence → Activator
above_of d levels number x = record { description = d; number = number; occurrence = x; below = acts_within levels d }

pub none_below : (d : DescriptionTree) (levels number : ℕ) (x : Occurrence) → (levels ≡ 0 → ⊥) → activation_in (sections_at d x.operation) ≡ None → acts_within levels d number x ≡ Done
none_below d zero number x some is = absurd (some refl)
none_below d (suc k) number x some is = ap (activation_acts (above_of d k number x)) is

pub some_below : (d : DescriptionTree) (levels number : ℕ) (x : Occurrence) (all : ActTrees) → (levels ≡ 0 → ⊥) → activation_in (sections_at d x.operation) ≡ Some all
    → acts_within levels d number x ≡ items_acts (above_of d (levels - 1) number x) (suc number) 0 all
some_below d zero number x all some is = absurd (some refl)
some_below d (suc k) number x all some is =
    let e : suc k - 1 ≡ k = omega arith in
    ap (activation_acts (above_of d k number x)) is ∙ ap (λ (l : ℕ). items_acts (above_of d l number x) (suc number) 0 all) (sym e)
