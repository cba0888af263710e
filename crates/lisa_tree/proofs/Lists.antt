-- One more section.
use Rattle.std.proofs.Common.{◌≡◌, ◌<◌, ◌+◌, ℕ, suc, List, ◌∷◌, length, map, get_or, drop, drop-cons, ap, sym, ◌∙◌, add-one}
use Rattle.lisa_tree.specs.declared.descriptions.Section.{Section}
use Rattle.lisa_tree.specs.Descriptions.{section_tree}

pub one_section : (all : List Section) (i : ℕ) (d : Section) → i < length all → d ≡ get_or all i d → map section_tree (drop i all) ≡ section_tree d ∷ map section_tree (drop (i + 1) all)
one_section all i d h e =
    ap (map section_tree) (drop-cons all i d h)
    ∙ ap (λ (s : Section). section_tree s ∷ map section_tree (drop (suc i) all)) (sym e)
    ∙ ap (λ (m : ℕ). section_tree d ∷ map section_tree (drop m all)) (sym (add-one i))
