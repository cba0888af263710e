-- Names that are assigned in two blocks.
use Rattle.std.proofs.Common.{◌≡◌, ℕ, List, [], ◌∷◌, ◌++◌, map, Bool, true, false, ◌||◌, Option, Some, None, refl, sym, ap, ap₂, ◌∙◌, subst}
use Rattle.std.specs.Prelude.{nat_eq, Contains, if◌then◌else◌}
use Rattle.std.specs.List.{list_any}
use Rattle.std.specs.Option.{option_or}
use Rattle.std.specs.Cmp.Lexicographic.{pointwise, nat_list_eq_equiv}
use Rattle.std.proofs.lemmas.List.Sums.{fold-append}
use Rattle.std.proofs.lemmas.List.Folds.{list_any-append}
use Rattle.std.proofs.lemmas.Map.Views.{list_any-from_Contains, Contains-from_any}
use Rattle.std.proofs.lemmas.Slice.Eq.{bytes_eq-Decides}
use Rattle.name_tables.specs.Keys.{insert_key, insert_all}
use Rattle.verilog_text.specs.Trees.{ActionTrees, ModuleTree}
use Rattle.verilog_text.specs.Clocked.{blocks}
use Rattle.verilog_text.specs.Conditions.{targets, driven, IsFirst, IsDrivenTwice}
use Rattle.verilog_size_checks.specs.Sought.{first_of, again, driven_again}
use Rattle.verilog_size_checks.proofs.FirstLaws.{first_append, first_map, first_same, none_is_first, found_is_first}

pub insert_append : (keys xs ys : List (List ℕ)) → insert_all keys (xs ++ ys) ≡ insert_all (insert_all keys xs) ys
insert_append keys xs ys = fold-append insert_key keys xs ys

-- ---- a set has the names that were put into it

same_name : (a b : List ℕ) → pointwise nat_eq a b ≡ true → a ≡ b
same_name a b is = (bytes_eq-Decides a b).0 is

abbrev among : List (List ℕ) → List ℕ → Bool
among names n = list_any (pointwise nat_eq n) names

or_false : (b : Bool) → b ≡ (b || false)
or_false true = refl
or_false false = refl

or_shift : (a b c : Bool) → ((a || (b || false)) || c) ≡ (a || (b || c))
or_shift true b c = refl
or_shift false true c = refl
or_shift false false c = refl

among_inserted : (keys : List (List ℕ)) (x n : List ℕ) → among (insert_key keys x) n ≡ (among keys n || (pointwise nat_eq n x || false))
among_inserted keys x n = go (among keys x) refl
  where
    there : (b : Bool) → pointwise nat_eq n x ≡ b → among keys x ≡ true → among keys n ≡ (among keys n || (b || false))
    there true same has =
        let also : among keys n ≡ true = subst (λ (y : List ℕ). among keys y ≡ true) (sym (same_name n x same)) has in
        also ∙ ap (λ (b : Bool). b || true) (sym also)
    there false other has = or_false (among keys n)

    go : (b : Bool) → among keys x ≡ b → among (if b then keys else keys ++ x ∷ []) n ≡ (among keys n || (pointwise nat_eq n x || false))
    go true has = there (pointwise nat_eq n x) refl has
    go false never = list_any-append (pointwise nat_eq n) keys (x ∷ [])

among_all : (keys xs : List (List ℕ)) (n : List ℕ) → among (insert_all keys xs) n ≡ (among keys n || among xs n)
among_all keys [] n = or_false (among keys n)
among_all keys (x ∷ xs) n =
    among_all (insert_key keys x) xs n
    ∙ ap (λ (b : Bool). b || among xs n) (among_inserted keys x n)
    ∙ or_shift (among keys n) (pointwise nat_eq n x) (among xs n)

-- ---- the names of earlier blocks

-- the name, if it is among those before it
abbrev pub twice : List (List ℕ) × List ℕ → Option (List ℕ)
twice p = again p.0 p.1

again_same : (names others : List (List ℕ)) → ((n : List ℕ) → among names n ≡ among others n) → (n : List ℕ) → again names n ≡ again others n
again_same names others same n = ap (λ (b : Bool). if b then Some n else None) (same n)

pub driven_first : (earlier names : List (List ℕ)) → ((n : List ℕ) → among earlier n ≡ among names n) → (all : List ActionTrees) → first_of twice (driven earlier all) ≡ driven_again names all
driven_first earlier names same [] = refl
driven_first earlier names same (block ∷ rest) =
    first_append twice (map (λ (name : List ℕ). (earlier, name)) (targets block)) (driven (earlier ++ targets block) rest)
    ∙ ap₂ option_or
    (first_map twice (λ (name : List ℕ). (earlier, name)) (targets block) ∙ first_same (again earlier) (again names) (again_same earlier names same) (targets block))
    (driven_first (earlier ++ targets block) (insert_all names (targets block))
    (λ n. list_any-append (pointwise nat_eq n) earlier (targets block) ∙ ap (λ (b : Bool). b || among (targets block) n) (same n) ∙ sym (among_all names (targets block) n)) rest)

abbrev IsAgain : List (List ℕ) × List ℕ → Type 0
IsAgain p = Contains p.0 p.1

not_missed : (p : List (List ℕ) × List ℕ) → IsAgain p → twice p ≡ None → ⊥
not_missed p has none =
    let has_it : among p.0 p.1 ≡ true = list_any-from_Contains nat_list_eq_equiv p.1 p.0 has in
    let some : twice p ≡ Some p.1 = ap (λ (b : Bool). if b then Some p.1 else None) has_it in
    cc

told : (names : List (List ℕ)) (name b : List ℕ) → again names name ≡ Some b → Contains names name × (name ≡ b)
told names name b is = go (among names name) refl is
  where
    go : (t : Bool) → among names name ≡ t → (if t then Some name else None) ≡ Some b → Contains names name × (name ≡ b)
    go true has some = (Contains-from_any same_name name names has, cc)
    go false never some = absurd cc

pub none_driven : (m : ModuleTree) → driven_again [] (blocks m.members) ≡ None → (name : List ℕ) → ¬ IsDrivenTwice m name
none_driven m none name twice_driven =
    none_is_first twice IsAgain not_missed (driven [] (blocks m.members)) (driven_first [] [] (λ n. refl) (blocks m.members) ∙ none) (twice_driven.0, name) twice_driven.1

pub some_driven : (m : ModuleTree) (name : List ℕ) → driven_again [] (blocks m.members) ≡ Some name → IsDrivenTwice m name
some_driven m name some =
    let found = found_is_first twice IsAgain not_missed (λ p b is. (told p.0 p.1 b is).0) (driven [] (blocks m.members)) name (driven_first [] [] (λ n. refl) (blocks m.members) ∙ some) in
    let e : found.0.1 ≡ name = (told found.0.0 found.0.1 name found.2).1 in
    (found.0.0, subst (λ (n : List ℕ). IsFirst IsAgain (driven [] (blocks m.members)) (found.0.0, n)) e found.1)
