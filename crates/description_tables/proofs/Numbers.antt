-- One more alternative.
use Rattle.std.proofs.Common.{◌≡◌, ◌<◌, ◌+◌, ℕ, List, [], ◌∷◌, ◌++◌, length, get_or, drop, refl, ap, ◌∙◌, arith, not}
use Rattle.std.proofs.lemmas.List.Elements.{filter-append}
use Rattle.lisa_tree.specs.Descriptions.{DescriptionTree}
use Rattle.lisa_tree.specs.Operations.{numbers_of, is_alias}
use Rattle.description_tables.specs.Laws.{no_aliases}
use Rattle.description_tables.proofs.Lists.{one_more, one_number}

pub numbers-append : (d : DescriptionTree) (xs ys : List (List ℕ)) → numbers_of d (xs ++ ys) ≡ numbers_of d xs ++ numbers_of d ys
numbers-append d [] ys = refl
numbers-append d (x ∷ xs) ys = grind (arith, numbers-append d xs ys)

pub numbers_step : (d : DescriptionTree) (xs : List (List ℕ)) (i : ℕ) (x : List ℕ) → i < length xs → x ≡ get_or xs i x → numbers_of d (drop i xs) ≡ numbers_of d (x ∷ []) ++ numbers_of d (drop (i + 1) xs)
numbers_step d xs i x h is = ap (numbers_of d) (one_more xs i x h is) ∙ numbers-append d (x ∷ []) (drop (i + 1) xs)

pub plain_step : (d : DescriptionTree) (xs : List ℕ) (i : ℕ) → i < length xs → no_aliases d (drop i xs) ≡ no_aliases d (get_or xs i 0 ∷ []) ++ no_aliases d (drop (i + 1) xs)
plain_step d xs i h = ap (no_aliases d) (one_number xs i h) ∙ filter-append (λ o. not (is_alias d o)) (get_or xs i 0 ∷ []) (drop (i + 1) xs)
