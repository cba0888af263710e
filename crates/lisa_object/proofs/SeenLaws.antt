-- Names put to those that were seen.
use Rattle.std.proofs.Common.{◌≡◌, ℕ, Bool, true, false, cond, ◌||◌, not, List, ◌∷◌, refl, sym, ap, ◌∙◌}
use Rattle.std.specs.BTreeSet.{BTreeSet, contains, Updates}
use Rattle.std.specs.Cmp.Lexicographic.{slice_cmp, nat_list_eq_equiv}
use Rattle.std.specs.List.{list_any}
use Rattle.std.specs.Ordering.{nat_cmp}
use Rattle.std.specs.Str.{bytes_eq}
use Rattle.std.proofs.lemmas.Map.Text.{is_eq-slice_cmp}
use Rattle.lisa_object.specs.Seen.{HoldsSorted}

or_here : (a b : Bool) → cond a true b ≡ (a || b)
or_here true b = refl
or_here false b = refl

-- one more name
pub entered : (set more : BTreeSet (List ℕ)) (names : List (List ℕ)) (name : List ℕ) → HoldsSorted set names → Updates (slice_cmp nat_cmp) set more name true → HoldsSorted more (name ∷ names)
entered set more names name holds updates other =
    updates.0 other ∙ ap (λ b. cond b true (contains (slice_cmp nat_cmp) set other)) (is_eq-slice_cmp name other) ∙ ap (λ b. cond (bytes_eq name other) true b) (holds other)
    ∙ or_here (bytes_eq name other) (list_any (bytes_eq other) names) ∙ ap (λ b. b || list_any (bytes_eq other) names) (nat_list_eq_equiv.symm name other)

-- whether it is new
pub is_new : (set : BTreeSet (List ℕ)) (names : List (List ℕ)) (name : List ℕ) (added : Bool) → HoldsSorted set names → added ≡ not (contains (slice_cmp nat_cmp) set name) → added ≡ not (list_any (bytes_eq name) names)
is_new set names name added holds is = is ∙ ap not (holds name)
