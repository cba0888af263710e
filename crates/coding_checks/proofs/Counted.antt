-- How often names stand, counted one after the other.
use Rattle.std.proofs.Common.{◌≡◌, ◌<◌, ◌+◌, ℕ, zero, suc, Bool, true, false, List, Option, Some, cond, nat_eq, length, get_or, take, refl, ap, sym, ◌∙◌, arith}
use Rattle.std.specs.List.{sum_by}
use Rattle.std.proofs.Math.Dec.{eqb-suc-suc, eqb-suc-zero}
use Rattle.std.proofs.lemmas.List.Sums.{sum_by_more}
use Rattle.lisa_tree.specs.declared.descriptions.CodingItem.{CodingItem}
use Rattle.lisa_tree.specs.declared.descriptions.SyntaxItem.{SyntaxItem}
use Rattle.coding_checks.specs.declared.values.Times.{Times}
use Rattle.coding_checks.specs.Written.{is_coded, is_shown, item_count, part_count, times_for, again, more_times, is_once}

-- exactly one stands for once
pub once : (k : ℕ) → is_once (times_for k) ≡ nat_eq k 1
once zero = refl
once (suc zero) = refl
once (suc (suc k)) = sym (eqb-suc-suc (suc k) 0 ∙ eqb-suc-zero k)

noted : (k : ℕ) → times_for (suc k) ≡ Some (again (times_for k))
noted zero = refl
noted (suc zero) = refl
noted (suc (suc k)) = refl

more : (found : Bool) (k : ℕ) → times_for (k + cond found 1 0) ≡ more_times found (times_for k)
more true k = ap times_for add ∙ noted k
  where
    add : k + 1 ≡ suc k
    add = omega arith
more false k = ap times_for add
  where
    add : k + 0 ≡ k
    add = omega arith

pub counted_item : (all : List CodingItem) (i : ℕ) (d : CodingItem) (n : List ℕ) (t : Option Times) → i < length all → d ≡ get_or all i d → t ≡ times_for (sum_by (item_count n) (take i all))
    → more_times (is_coded n d) t ≡ times_for (sum_by (item_count n) (take (i + 1) all))
counted_item all i d n t h e k =
    ap (more_times (is_coded n d)) k
    ∙ sym (more (is_coded n d) (sum_by (item_count n) (take i all)))
    ∙ sym (ap times_for (sum_by_more (item_count n) all i d h ∙ ap (λ (x : CodingItem). sum_by (item_count n) (take i all) + item_count n x) (sym e)))

pub counted_part : (all : List SyntaxItem) (i : ℕ) (d : SyntaxItem) (n : List ℕ) (t : Option Times) → i < length all → d ≡ get_or all i d → t ≡ times_for (sum_by (part_count n) (take i all))
    → more_times (is_shown n d.part) t ≡ times_for (sum_by (part_count n) (take (i + 1) all))
counted_part all i d n t h e k =
    ap (more_times (is_shown n d.part)) k
    ∙ sym (more (is_shown n d.part) (sum_by (part_count n) (take i all)))
    ∙ sym (ap times_for (sum_by_more (part_count n) all i d h ∙ ap (λ (x : SyntaxItem). sum_by (part_count n) (take i all) + part_count n x) (sym e)))
