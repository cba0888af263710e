-- How large activations are, for what falls with each step down.
use Rattle.std.proofs.Common.{◌≡◌, ◌≤◌, ◌<◌, ◌+◌, ◌-◌, ◌*◌, ℕ, zero, suc, max, List, [], ◌∷◌, Option, None, Some, length, get_or, drop, refl, ap, ◌∙◌, arith}
use Rattle.std.specs.Prelude.{slice_get}
use Rattle.std.specs.Global.{Vec}
use Rattle.std.proofs.Math.Nat.{suc-mul}
use Rattle.lisa_tree.specs.declared.expressions.Expr.{Expr}
use Rattle.lisa_tree.specs.declared.descriptions.Act.{Act}
use Rattle.lisa_tree.specs.declared.descriptions.Act.TheVariants as acts
use Rattle.lisa_tree.proofs.Views.{act_tree-Choose, act_tree-ChooseElse}
use Rattle.lisa_tree.specs.Activations.{act_tree, act_trees}
use Rattle.lisa_tree.specs.Activations as items
use Rattle.lisa_tree.specs.Activations.{ActTree, ActTrees}
use Rattle.lisa_tree.specs.Descriptions.{OperationTree, DescriptionTree}
use Rattle.lisa_tree.specs.Operations.{operation_at, sections_at, activation_in}

abbrev mutual
  pub item_size : ActTree → ℕ
  item_size (items.Start n) = 1
  item_size (items.Choose test chosen) = suc (items_size chosen)
  item_size (items.ChooseElse test chosen other) = suc (items_size chosen + items_size other)

  pub items_size : ActTrees → ℕ
  items_size items.End = 0
  items_size (items.Then item rest) = suc (item_size item + items_size rest)

abbrev pub activation_size : Option ActTrees → ℕ
activation_size None = 0
activation_size (Some all) = items_size all

abbrev most_in : List OperationTree → ℕ
most_in [] = 0
most_in (x ∷ rest) = max (activation_size (activation_in x.sections)) (most_in rest)

-- more than each activation of a description has
abbrev pub room : DescriptionTree → ℕ
room d = most_in d.operations + 2

one_within : (all : List OperationTree) (o : ℕ) (x : OperationTree) → slice_get all o ≡ Some x → activation_size (activation_in x.sections) ≤ most_in all
one_within [] o x is = absurd (cc is)
one_within (y ∷ rest) zero x is = let same = ap (λ (z : OperationTree). activation_size (activation_in z.sections)) (one y x is) in omega (arith, same)
  where
    one : (p q : OperationTree) → Some p ≡ Some q → p ≡ q
    one p q e = cc e
one_within (y ∷ rest) (suc o) x is = let h = one_within rest o x is in omega (arith, h)

pub activation_within : (d : DescriptionTree) (o : ℕ) → activation_size (activation_in (sections_at d o)) + 2 ≤ room d
activation_within d o = by (operation_at d o) refl
  where
    by : (found : Option OperationTree) → operation_at d o ≡ found → activation_size (activation_in (sections_at d o)) + 2 ≤ room d
    by None is = let e : activation_size (activation_in (sections_at d o)) ≡ 0 = cc is in omega (arith, e)
    by (Some x) is =
        let e : activation_size (activation_in (sections_at d o)) ≡ activation_size (activation_in x.sections) = cc is in
        let h = one_within d.operations o x is in
        omega (arith, e, h)

-- one level less with an activation is less than one level more
pub level_falls : (levels r s : ℕ) → (levels ≡ 0 → ⊥) → s + 2 ≤ r → (levels - 1) * r + 1 + s < levels * r
level_falls zero r s some fits = absurd (some refl)
level_falls (suc k) r s some fits =
    let e : suc k - 1 ≡ k = omega arith in
    let m = suc-mul k r in
    rw e (omega (arith, m, fits))

-- ---- parts of an item, and items of a list, are smaller

pub chosen_smaller : (a : Act) (e : Expr) (v : Vec Act) (other : Option (Vec Act)) (xs : List Act) → a ≡ acts.Choose e v other → xs ≡ v.items → items_size (act_trees xs) < item_size (act_tree a)
chosen_smaller a e v None xs is are =
    let whole = ap (λ (x : Act). item_size (act_tree x)) is ∙ ap item_size (act_tree-Choose e v) in
    let part = ap (λ (l : List Act). items_size (act_trees l)) are in
    omega (arith, whole, part)
chosen_smaller a e v (Some w) xs is are =
    let whole = ap (λ (x : Act). item_size (act_tree x)) is ∙ ap item_size (act_tree-ChooseElse e v w) in
    let part = ap (λ (l : List Act). items_size (act_trees l)) are in
    omega (arith, whole, part)

pub other_smaller : (a : Act) (e : Expr) (v w : Vec Act) (other : Option (Vec Act)) (ys : List Act) → a ≡ acts.Choose e v other → other ≡ Some w → ys ≡ w.items → items_size (act_trees ys) < item_size (act_tree a)
other_smaller a e v w other ys is has are =
    let whole = ap (λ (x : Act). item_size (act_tree x)) (is ∙ ap (acts.Choose e v) has) ∙ ap item_size (act_tree-ChooseElse e v w) in
    let part = ap (λ (l : List Act). items_size (act_trees l)) are in
    omega (arith, whole, part)

pub item_smaller : (all : List Act) (i : ℕ) (a : Act) → i < length all → a ≡ get_or all i a → item_size (act_tree a) < items_size (act_trees all)
item_smaller [] i a low is = absurd (omega (arith, low))
item_smaller (x ∷ all) zero a low is = let e = ap (λ (y : Act). item_size (act_tree y)) is in omega (arith, e)
item_smaller (x ∷ all) (suc i) a low is = let h = item_smaller all i a (omega (arith, low)) is in omega (arith, h)

pub none_left : (all : List Act) (i : ℕ) → length all ≤ i → act_trees (drop i all) ≡ items.End
none_left [] zero past = refl
none_left [] (suc i) past = refl
none_left (x ∷ all) zero past = absurd (omega (arith, past))
none_left (x ∷ all) (suc i) past = none_left all i (omega (arith, past))
