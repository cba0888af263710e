-- An item is deeper than the items in it, and a list as deep as its deepest item.
use Rattle.std.proofs.Common.{◌≡◌, ◌<◌, ◌≤◌, ℕ, zero, suc, List, [], ◌∷◌, Option, Some, None, refl, ap, get_or, length, arith}
use Rattle.std.specs.Global.{Vec}
use Rattle.lisa_tree.specs.declared.expressions.Expr.{Expr}
use Rattle.lisa_tree.specs.declared.descriptions.Act.{Act}
use Rattle.lisa_tree.specs.declared.descriptions.Act.TheVariants as acts
use Rattle.lisa_tree.specs.Activations.{act_tree, act_trees, act_depth, acts_depth}
use Rattle.lisa_tree.proofs.DepthLaws.{act_depth-Choose, act_depth-ChooseElse}

module _ (a : Act) (e : Expr) (v : Vec Act) (w : Option (Vec Act)) (xs : List Act) (is : a ≡ acts.Choose e v w) (items : xs ≡ v.items) where
  pub chosen_depth : acts_depth (act_trees xs) < act_depth (act_tree a)
  chosen_depth = by w is
    where
      by : (z : Option (Vec Act)) → a ≡ acts.Choose e v z → acts_depth (act_trees xs) < act_depth (act_tree a)
      by None lone = omega (arith, act_depth-Choose a e v None xs lone refl items)
      by (Some u) both = omega (arith, act_depth-ChooseElse a e v u (Some u) xs u.items both refl items refl)

  pub other_depth : (u : Vec Act) (ys : List Act) → w ≡ Some u → ys ≡ u.items → acts_depth (act_trees ys) < act_depth (act_tree a)
  other_depth u ys both others = omega (arith, act_depth-ChooseElse a e v u w xs ys is both items others)

pub item_depth : (all : List Act) (i : ℕ) (d : Act) → i < length all → d ≡ get_or all i d → act_depth (act_tree d) ≤ acts_depth (act_trees all)
item_depth [] i d h item = absurd (omega arith)
item_depth (a ∷ all) zero d h item = let e : act_depth (act_tree d) ≡ act_depth (act_tree a) = ap (λ (x : Act). act_depth (act_tree x)) item in omega arith
item_depth (a ∷ all) (suc i) d h item = omega (arith, item_depth all i d (omega arith) item)
