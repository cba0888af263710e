-- Ways by their last steps. On the way to the program: nothing here needs to be trusted.
use Rattle.std.specs.Prelude.{ℕ, ◌++◌, ◌&&◌, Bool, false, List, [], ◌∷◌, Option, None, Some, cond, nat_eq, position}
use Rattle.std.specs.List.{list_any}
use Rattle.lowered_words.specs.declared.links.Link.{Link}
use Rattle.lowered_words.specs.declared.links.Link.TheVariants as links

abbrev pub same_link : Link → Link → Bool
same_link (links.Whole o) (links.Whole p) = nat_eq o p
same_link (links.Whole o) (links.Child w j p) = false
same_link (links.Child v i o) (links.Whole p) = false
same_link (links.Child v i o) (links.Child w j p) = nat_eq v w && (nat_eq i j && nat_eq o p)

-- one more, unless it is there
abbrev pub with_link : List Link → Link → List Link
with_link all l = cond (list_any (same_link l) all) all (all ++ l ∷ [])

-- the place of a way, by its last step
abbrev pub whole_place : List Link → ℕ → Option ℕ
whole_place all o = position (same_link (links.Whole o)) all

abbrev pub child_place : List Link → Option ℕ → (i o : ℕ) → Option ℕ
child_place all None i o = None
child_place all (Some above) i o = position (same_link (links.Child above i o)) all
