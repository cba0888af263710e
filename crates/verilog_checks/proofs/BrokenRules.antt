-- What is found by the readings of lists is what breaks a rule first.
use Rattle.std.proofs.Common.{◌≡◌, ℕ, ◌+◌, Bool, true, false, not, ◌||◌, List, [], ◌∷◌, ◌++◌, length, take, map, Option, Some, None, refl, sym, ap, ap₂, subst, ◌∙◌, inl, inr, ⊎_elim, append_assoc, length-append}
use Rattle.std.specs.Prelude.{Contains, find, flat_map, option_map}
use Rattle.std.proofs.lemmas.List.{map-append, length-map, append-nil}
use Rattle.std.proofs.lemmas.List.Elements.{filter_map-append}
use Rattle.lisa_engine.specs.declared.parts.Item.{Item}
use Rattle.verilog_text.specs.Trees as trees
use Rattle.verilog_text.specs.Trees.{ModuleTree, MemberTree, SettingTree}
use Rattle.verilog_text.specs.Clocked.{regs, settings}
use Rattle.verilog_text.specs.Conditions as conditions
use Rattle.verilog_text.specs.Conditions.{IsFirst, Declared, Use, used_name, is_wrong, declares, head_declares, member_declares, member_uses, names_of, sort_of, with_earlier, uses, uses_in, FirstEvent, event_name, events_in, given, IsNoFirst, IsDuplicate, IsUndeclared, IsWrongUse, IsUnset}
use Rattle.name_tables.specs.Keys.{insert_all}
use Rattle.verilog_checks.specs.Views.{Told, Gives, told_by, behind, counted_uses}
use Rattle.verilog_checks.specs.Readings.{has, is_again, again_in, is_early, is_against, first_use, reg_name, given_name, reg_names, given_names, with_given, is_unset, unset_in}
use Rattle.verilog_checks.proofs.Firsts.{Decides, Tells, tells_by, find_map, find_same}
use Rattle.verilog_checks.proofs.Members.{has_contains, contains_has, not_contains, no_contains, has-insert_all}

-- ---- declared twice

again_decides : Decides (λ (p : List (List ℕ) × List ℕ). Contains p.0 p.1) is_again
again_decides = record { yes = λ p is. has_contains p.0 p.1 is; no = λ p c. contains_has p.0 p.1 c }

pub duplicate_tells : (m : ModuleTree) → Tells (IsDuplicate m) (again_in [] (names_of (declares m)))
duplicate_tells m =
    let all = with_earlier [] (names_of (declares m)) in
    go (option_map (λ (p : List (List ℕ) × List ℕ). p.1) (find is_again all)) (tells_by (λ (p : List (List ℕ) × List ℕ). Contains p.0 p.1) is_again again_decides (λ (p : List (List ℕ) × List ℕ). p.1) all)
  where
    go : (o : Option (List ℕ))
        → Tells (λ name. (x : List (List ℕ) × List ℕ) × IsFirst (λ (p : List (List ℕ) × List ℕ). Contains p.0 p.1) (with_earlier [] (names_of (declares m))) x × (x.1 ≡ name)) o → Tells (IsDuplicate m) o
    go None none = λ name twice. none name ((twice.0, name), twice.1, refl)
    go (Some name) first =
        (first.0.0, subst (λ (n : List ℕ). IsFirst (λ (p : List (List ℕ) × List ℕ). Contains p.0 p.1) (with_earlier [] (names_of (declares m))) (first.0.0, n)) first.2 first.1)

-- ---- uses with the names before them

-- with the names that are declared first
abbrev told_names : List (List ℕ) → ℕ × Use → List (List ℕ) × Use
told_names names (n, u) = (take n names, u)

take_front : (front rest : List (List ℕ)) → take (length front) (front ++ rest) ≡ front
take_front [] rest = refl
take_front (x ∷ front) rest = ap (λ (l : List (List ℕ)). x ∷ l) (take_front front rest)

map_behind : (names front : List (List ℕ)) (n : ℕ) (all : List Use) → take n names ≡ front → map (λ u. (front, u)) all ≡ map (told_names names) (behind n all)
map_behind names front n [] is = refl
map_behind names front n (u ∷ all) is = ap₂ (λ (f : List (List ℕ)) (l : List (List (List ℕ) × Use)). (f, u) ∷ l) (sym is) (map_behind names front n all is)

uses_counted : (names front : List (List ℕ)) (members : List MemberTree) → names ≡ front ++ names_of (flat_map member_declares members)
    → uses_in front members ≡ map (told_names names) (counted_uses (length front) members)
uses_counted names front [] is = refl
uses_counted names front (member ∷ rest) is =
    let more = names_of (member_declares member) in
    let after : names ≡ (front ++ more) ++ names_of (flat_map member_declares rest) =
    is ∙ ap (λ (l : List (List ℕ)). front ++ l) (map-append (λ (d : Declared). d.name) (member_declares member) (flat_map member_declares rest))
    ∙ sym (append_assoc front more (names_of (flat_map member_declares rest))) in
    let far : length (front ++ more) ≡ length front + length (member_declares member) = length-append front more ∙ ap (λ (k : ℕ). length front + k) (length-map (member_declares member) (λ (d : Declared). d.name)) in
    let first : take (length front) names ≡ front = ap (λ (l : List (List ℕ)). take (length front) l) is ∙ take_front front (names_of (flat_map member_declares (member ∷ rest))) in
    ap₂ (λ (a b : List (List (List ℕ) × Use)). a ++ b) (map_behind names front (length front) (member_uses member) first)
    (uses_counted names (front ++ more) rest after ∙ ap (λ (k : ℕ). map (told_names names) (counted_uses k rest)) far)
    ∙ sym (map-append (told_names names) (behind (length front) (member_uses member)) (counted_uses (length front + length (member_declares member)) rest))

all_uses : (m : ModuleTree) → uses m ≡ map (told_names (names_of (declares m))) (counted_uses (length (head_declares m)) m.members)
all_uses m =
    uses_counted (names_of (declares m)) (names_of (head_declares m)) m.members (map-append (λ (d : Declared). d.name) (head_declares m) (flat_map member_declares m.members))
    ∙ ap (λ (k : ℕ). map (told_names (names_of (declares m))) (counted_uses k m.members)) (length-map (head_declares m) (λ (d : Declared). d.name))

map_name : (names : List (List ℕ)) (o : Option (ℕ × Use))
    → option_map (λ (q : List (List ℕ) × Use). used_name q.1) (option_map (told_names names) o) ≡ option_map (λ (p : ℕ × Use). used_name p.1) o
map_name names None = refl
map_name names (Some p) = refl

-- a test of uses with the names before them
first_told : (m : ModuleTree) (test : List (List ℕ) × Use → Bool)
    → option_map (λ (q : List (List ℕ) × Use). used_name q.1) (find test (uses m))
    ≡ first_use (λ p. test (told_names (names_of (declares m)) p)) (counted_uses (length (head_declares m)) m.members)
first_told m test =
    let names = names_of (declares m) in
    let all = counted_uses (length (head_declares m)) m.members in
    ap (λ (l : List (List (List ℕ) × Use)). option_map (λ (q : List (List ℕ) × Use). used_name q.1) (find test l)) (all_uses m)
    ∙ ap (option_map (λ (q : List (List ℕ) × Use). used_name q.1)) (find_map test (told_names names) all)
    ∙ map_name names (find (λ (p : ℕ × Use). test (told_names names p)) all)

early_decides : Decides (λ (q : List (List ℕ) × Use). ¬ Contains q.0 (used_name q.1)) (λ (q : List (List ℕ) × Use). not (has q.0 (used_name q.1)))
early_decides = record { yes = λ q is. not_contains q.0 (used_name q.1) is; no = λ q never. no_contains q.0 (used_name q.1) never }

pub undeclared_tells : (m : ModuleTree) → Tells (IsUndeclared m) (first_use (is_early (names_of (declares m))) (counted_uses (length (head_declares m)) m.members))
undeclared_tells m =
    subst (Tells (IsUndeclared m)) (first_told m (λ (q : List (List ℕ) × Use). not (has q.0 (used_name q.1))))
    (tells_by (λ (q : List (List ℕ) × Use). ¬ Contains q.0 (used_name q.1)) (λ (q : List (List ℕ) × Use). not (has q.0 (used_name q.1))) early_decides (λ (q : List (List ℕ) × Use). used_name q.1) (uses m))

wrong_decides : (m : ModuleTree) → Decides (λ (q : List (List ℕ) × Use). is_wrong (sort_of m (used_name q.1)) q.1 ≡ true) (λ (q : List (List ℕ) × Use). is_wrong (sort_of m (used_name q.1)) q.1)
wrong_decides m = record { yes = λ q is. is; no = λ q is. is }

pub wrong_tells : (m : ModuleTree) → Tells (IsWrongUse m) (first_use (is_against (declares m)) (counted_uses (length (head_declares m)) m.members))
wrong_tells m =
    subst (Tells (IsWrongUse m)) (first_told m (λ (q : List (List ℕ) × Use). is_wrong (sort_of m (used_name q.1)) q.1))
    (tells_by (λ (q : List (List ℕ) × Use). is_wrong (sort_of m (used_name q.1)) q.1 ≡ true) (λ (q : List (List ℕ) × Use). is_wrong (sort_of m (used_name q.1)) q.1) (wrong_decides m)
    (λ (q : List (List ℕ) × Use). used_name q.1) (uses m))

-- ---- first values

regs_none : (all : List SettingTree) → reg_names (map (λ (s : SettingTree). Gives s.name) all) ≡ []
regs_none [] = refl
regs_none (s ∷ all) = regs_none all

given_all : (all : List SettingTree) → given_names (map (λ (s : SettingTree). Gives s.name) all) ≡ map (λ (s : SettingTree). s.name) all
given_all [] = refl
given_all (s ∷ all) = ap (λ (l : List (List ℕ)). s.name ∷ l) (given_all all)

told_regs : (members : List MemberTree) → reg_names (flat_map told_by members) ≡ map (λ (item : Item). item.name) (regs members)
told_regs [] = refl
told_regs (trees.Reg item ∷ rest) = ap (λ (l : List (List ℕ)). item.name ∷ l) (told_regs rest)
told_regs (trees.Array array ∷ rest) = told_regs rest
told_regs (trees.Wire item e ∷ rest) = told_regs rest
told_regs (trees.Initial all ∷ rest) =
    filter_map-append reg_name (map (λ (s : SettingTree). Gives s.name) all) (flat_map told_by rest) ∙ ap (λ (l : List (List ℕ)). l ++ reg_names (flat_map told_by rest)) (regs_none all) ∙ told_regs rest
told_regs (trees.Always edge actions ∷ rest) = told_regs rest

told_given : (members : List MemberTree) → given_names (flat_map told_by members) ≡ map (λ (s : SettingTree). s.name) (settings members)
told_given [] = refl
told_given (trees.Reg item ∷ rest) = told_given rest
told_given (trees.Array array ∷ rest) = told_given rest
told_given (trees.Wire item e ∷ rest) = told_given rest
told_given (trees.Initial all ∷ rest) =
    filter_map-append given_name (map (λ (s : SettingTree). Gives s.name) all) (flat_map told_by rest)
    ∙ ap₂ (λ (a b : List (List ℕ)). a ++ b) (given_all all) (told_given rest)
    ∙ sym (map-append (λ (s : SettingTree). s.name) all (settings rest))
told_given (trees.Always edge actions ∷ rest) = told_given rest

given_then : (earlier : List (List ℕ)) (all : List SettingTree) (more : List Told)
    → with_given earlier (map (λ (s : SettingTree). Gives s.name) all ++ more) ≡ given earlier all ++ with_given (earlier ++ map (λ (s : SettingTree). s.name) all) more
given_then earlier [] more = ap (λ (l : List (List ℕ)). with_given l more) (sym (append-nil earlier))
given_then earlier (s ∷ all) more =
    ap (λ (l : List FirstEvent). conditions.Gives earlier s.name ∷ l)
    (given_then (earlier ++ s.name ∷ []) all more
    ∙ ap (λ (l : List (List ℕ)). given (earlier ++ s.name ∷ []) all ++ with_given l more) (append_assoc earlier (s.name ∷ []) (map (λ (s : SettingTree). s.name) all)))

told_events : (earlier : List (List ℕ)) (members : List MemberTree) → with_given earlier (flat_map told_by members) ≡ events_in earlier members
told_events earlier [] = refl
told_events earlier (trees.Reg item ∷ rest) = ap (λ (l : List FirstEvent). conditions.Declares item.name ∷ l) (told_events earlier rest)
told_events earlier (trees.Array array ∷ rest) = told_events earlier rest
told_events earlier (trees.Wire item e ∷ rest) = told_events earlier rest
told_events earlier (trees.Initial all ∷ rest) =
    given_then earlier all (flat_map told_by rest) ∙ ap (λ (l : List FirstEvent). given earlier all ++ l) (told_events (earlier ++ map (λ (s : SettingTree). s.name) all) rest)
told_events earlier (trees.Always edge actions ∷ rest) = told_events earlier rest

unset_yes : (m : ModuleTree) (e : FirstEvent) → is_unset (map (λ (item : Item). item.name) (regs m.members)) (map (λ (s : SettingTree). s.name) (settings m.members)) e ≡ true → IsNoFirst m e
unset_yes m (conditions.Declares name) is = not_contains (map (λ (s : SettingTree). s.name) (settings m.members)) name is
unset_yes m (conditions.Gives earlier name) is = go (not (has (map (λ (item : Item). item.name) (regs m.members)) name)) refl is
  where
    go : (b : Bool) → not (has (map (λ (item : Item). item.name) (regs m.members)) name) ≡ b → (b || has earlier name) ≡ true → IsNoFirst m (conditions.Gives earlier name)
    go true none so = inl (not_contains (map (λ (item : Item). item.name) (regs m.members)) name none)
    go false reg so = inr (has_contains earlier name so)

or_right : (a b : Bool) → b ≡ true → (a || b) ≡ true
or_right true b is = refl
or_right false b is = is

unset_no : (m : ModuleTree) (e : FirstEvent) → IsNoFirst m e → is_unset (map (λ (item : Item). item.name) (regs m.members)) (map (λ (s : SettingTree). s.name) (settings m.members)) e ≡ true
unset_no m (conditions.Declares name) never = no_contains (map (λ (s : SettingTree). s.name) (settings m.members)) name never
unset_no m (conditions.Gives earlier name) wrong =
    ⊎_elim
    (λ never. ap (λ (b : Bool). b || has earlier name) (no_contains (map (λ (item : Item). item.name) (regs m.members)) name never))
    (λ again. or_right (not (has (map (λ (item : Item). item.name) (regs m.members)) name)) (has earlier name) (contains_has earlier name again))
    wrong

pub unset_tells : (m : ModuleTree)
    → Tells (IsUnset m) (unset_in (reg_names (flat_map told_by m.members)) (given_names (flat_map told_by m.members)) [] (flat_map told_by m.members))
unset_tells m =
    let rs = map (λ (item : Item). item.name) (regs m.members) in
    let gs = map (λ (s : SettingTree). s.name) (settings m.members) in
    let decides : Decides (IsNoFirst m) (is_unset rs gs) = record { yes = unset_yes m; no = unset_no m } in
    let same : option_map event_name (find (is_unset rs gs) (events_in [] m.members)) ≡ unset_in (reg_names (flat_map told_by m.members)) (given_names (flat_map told_by m.members)) [] (flat_map told_by m.members) =
    ap (λ (l : List FirstEvent). option_map event_name (find (is_unset rs gs) l)) (sym (told_events [] m.members))
    ∙ ap₂ (λ (r g : List (List ℕ)). option_map event_name (find (is_unset r g) (with_given [] (flat_map told_by m.members)))) (sym (told_regs m.members)) (sym (told_given m.members)) in
    subst (Tells (IsUnset m)) same (tells_by (IsNoFirst m) (is_unset rs gs) decides event_name (events_in [] m.members))

-- sets of these names tell the same
set_same : (names : List (List ℕ)) (name : List ℕ) → has (insert_all [] names) name ≡ has names name
set_same names name = has-insert_all [] names name

unset_same : (rs gs : List (List ℕ)) (e : FirstEvent) → is_unset (insert_all [] rs) (insert_all [] gs) e ≡ is_unset rs gs e
unset_same rs gs (conditions.Declares name) = ap not (set_same gs name)
unset_same rs gs (conditions.Gives earlier name) = ap (λ (b : Bool). not b || has earlier name) (set_same rs name)

pub unset_by_sets : (rs gs earlier regs_set given_set : List (List ℕ)) (all : List Told) → regs_set ≡ insert_all [] rs → given_set ≡ insert_all [] gs → earlier ≡ []
    → unset_in regs_set given_set earlier all ≡ unset_in rs gs [] all
unset_by_sets rs gs earlier regs_set given_set all of_regs of_given empty =
    ap₂ (λ (r g : List (List ℕ)). unset_in r g earlier all) of_regs of_given
    ∙ ap (λ (e : List (List ℕ)). unset_in (insert_all [] rs) (insert_all [] gs) e all) empty
    ∙ ap (option_map event_name) (find_same (is_unset (insert_all [] rs) (insert_all [] gs)) (is_unset rs gs) (unset_same rs gs) (with_given [] all))
