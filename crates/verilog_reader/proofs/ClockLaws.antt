-- Where the uses of names are right, each `always` block names the clock.
use Rattle.std.proofs.Common.{◌≡◌, ℕ, true, false, List, [], ◌∷◌, ◌++◌, map, Option, Some, refl, sym, ap, subst, ◌∙◌, append_assoc, ◌⊎◌, inl, inr, ⊎_elim}
use Rattle.std.specs.Prelude.{Contains, find, flat_map, option_map}
use Rattle.std.specs.Str.{bytes_eq}
use Rattle.std.proofs.lemmas.Bool.{cases_Bool, false≢true}
use Rattle.std.proofs.lemmas.List.{map-append}
use Rattle.std.proofs.lemmas.Slice.Eq.{bytes_eq-Decides}
use Rattle.lisa_engine.specs.declared.parts.Item.{Item}
use Rattle.verilog_text.specs.Trees as trees
use Rattle.verilog_text.specs.Trees.{MemberTree, ModuleTree}
use Rattle.verilog_text.specs.Conditions.{IsFirst, Sort, Declared, Clock, Input, member_declares, head_declares, declares, names_of, sort_of, Use, Edge, used_name, member_uses, uses_in, uses, is_wrong}
use Rattle.verilog_text.specs.Faults.{Holds7}
use Rattle.verilog_rules.proofs.Apart.{Has, has_front, has_or_not, has_contains, contains_has, first_here, first_behind}
use Rattle.verilog_rules.proofs.Narrow.{Each, each_append, each_all}
use Rattle.verilog_places.specs.Clocks.{clocked, HasOneClock}

-- ---- what is first nowhere is nowhere

nowhere : {X : Type 0} (P : X → Type 0) → ((x : X) → P x ⊎ (P x → ⊥)) → (xs : List X) → ((x : X) → ¬ IsFirst P xs x) → Each (λ x. P x → ⊥) xs
nowhere P decide [] never = tt
nowhere P decide (x ∷ xs) never =
    ⊎_elim (λ yes. absurd (never x (first_here P x xs yes))) (λ no. (no, nowhere P decide xs (λ y first. never y (first_behind P x xs y no first)))) (decide x)

each_both : {X : Type 0} {P Q R : X → Type 0} → ((x : X) → P x → Q x → R x) → (xs : List X) → Each P xs → Each Q xs → Each R xs
each_both f [] ps qs = tt
each_both f (x ∷ xs) ps qs = (f x ps.0 qs.0, each_both f xs ps.1 qs.1)

each_halves : {X : Type 0} (P : X → Type 0) (xs ys : List X) → Each P (xs ++ ys) → Each P xs × Each P ys
each_halves P [] ys all = (tt, all)
each_halves P (x ∷ xs) ys all = let halves = each_halves P xs ys all.1 in ((all.0, halves.0), halves.1)

-- ---- uses

abbrev Placed : Type 0
Placed = List (List ℕ) × Use

-- an earlier declaration has the name, and it can be used so
abbrev IsRight : ModuleTree → Placed → Type 0
IsRight m q = Has q.0 (used_name q.1) × (is_wrong (sort_of m (used_name q.1)) q.1 ≡ false)

is_missing : (q : Placed) → (¬ Contains q.0 (used_name q.1)) ⊎ ((¬ Contains q.0 (used_name q.1)) → ⊥)
is_missing q =
    ⊎_elim (λ has. inr (λ no. no (has_contains q.0 (used_name q.1) has))) (λ never. inl (λ c. never (contains_has q.0 (used_name q.1) c.0 c.1 c.2))) (has_or_not q.0 (used_name q.1))

is_misused : (m : ModuleTree) (q : Placed) → (is_wrong (sort_of m (used_name q.1)) q.1 ≡ true) ⊎ ((is_wrong (sort_of m (used_name q.1)) q.1 ≡ true) → ⊥)
is_misused m q = ⊎_elim (λ yes. inl yes) (λ no. inr (λ yes. false≢true (sym no ∙ yes))) (cases_Bool (is_wrong (sort_of m (used_name q.1)) q.1))

right : (m : ModuleTree) (q : Placed) → ((¬ Contains q.0 (used_name q.1)) → ⊥) → ((is_wrong (sort_of m (used_name q.1)) q.1 ≡ true) → ⊥) → IsRight m q
right m q there fits = (
  ⊎_elim (λ has. has) (λ never. absurd (there (λ c. never (contains_has q.0 (used_name q.1) c.0 c.1 c.2)))) (has_or_not q.0 (used_name q.1)),
  ⊎_elim (λ yes. absurd (fits yes)) (λ no. no) (cases_Bool (is_wrong (sort_of m (used_name q.1)) q.1)),
)

all_right : (m : ModuleTree) → Holds7 m → Each (IsRight m) (uses m)
all_right m holds =
    each_both (right m) (uses m)
    (nowhere (λ (q : Placed). ¬ Contains q.0 (used_name q.1)) is_missing (uses m) (λ q first. holds.0.0.1 (used_name q.1) (q, first, refl)))
    (nowhere (λ (q : Placed). is_wrong (sort_of m (used_name q.1)) q.1 ≡ true) (is_misused m) (uses m) (λ q first. holds.0.1 (used_name q.1) (q, first, refl)))

-- ---- a name behind `posedge`

-- what is no clock can't stand there
abbrev IsNoEdge : List ℕ → Declared → Type 0
IsNoEdge edge d = is_wrong (Some d.sort) (Edge edge) ≡ true

inputs_no_edge : (edge : List ℕ) (inputs : List Item) → Each (IsNoEdge edge) (map (λ (item : Item). record { name = item.name; sort = Input item.width }) inputs)
inputs_no_edge edge [] = tt
inputs_no_edge edge (item ∷ inputs) = (refl, inputs_no_edge edge inputs)

members_no_edge : (edge : List ℕ) (all : List MemberTree) → Each (IsNoEdge edge) (flat_map member_declares all)
members_no_edge edge [] = tt
members_no_edge edge (trees.Reg item ∷ all) = (refl, members_no_edge edge all)
members_no_edge edge (trees.Array array ∷ all) = (refl, members_no_edge edge all)
members_no_edge edge (trees.Wire item value ∷ all) = (refl, members_no_edge edge all)
members_no_edge edge (trees.Initial settings ∷ all) = members_no_edge edge all
members_no_edge edge (trees.Always name actions ∷ all) = members_no_edge edge all

abbrev found_sort : List ℕ → List Declared → Option Sort
found_sort edge all = option_map (λ (d : Declared). d.sort) (find (λ (d : Declared). bytes_eq d.name edge) all)

skipped_sort : (edge : List ℕ) (d : Declared) (all : List Declared) → bytes_eq d.name edge ≡ false → found_sort edge (d ∷ all) ≡ found_sort edge all
skipped_sort edge d all e = rw e refl

first_sort : (edge : List ℕ) (d : Declared) (all : List Declared) → bytes_eq d.name edge ≡ true → found_sort edge (d ∷ all) ≡ Some d.sort
first_sort edge d all e = rw e refl

found_wrong : (edge : List ℕ) (all : List Declared) → Each (IsNoEdge edge) all → Has (names_of all) edge → is_wrong (found_sort edge all) (Edge edge) ≡ true
found_wrong edge [] no_edge has = absurd has
found_wrong edge (d ∷ all) no_edge has =
    ⊎_elim
    (λ yes. ap (λ s. is_wrong s (Edge edge)) (first_sort edge d all yes) ∙ no_edge.0)
    (λ no. ap (λ s. is_wrong s (Edge edge)) (skipped_sort edge d all no)
    ∙ found_wrong edge all no_edge.1 (⊎_elim (λ same. absurd (false≢true (sym no ∙ (bytes_eq-Decides d.name edge).1 same))) (λ later. later) has))
    (cases_Bool (bytes_eq d.name edge))

is_clock : (m : ModuleTree) (edge : List ℕ) → Has (names_of (declares m)) edge → is_wrong (sort_of m edge) (Edge edge) ≡ false → m.clock ≡ edge
is_clock m edge (inl same) fits = same
is_clock m edge (inr later) fits =
    let inputs = map (λ (item : Item). record { name = item.name; sort = Input item.width }) m.inputs in
    let rest : List Declared = inputs ++ flat_map member_declares m.members in
    let no_edge : Each (IsNoEdge edge) rest = each_append (IsNoEdge edge) inputs (flat_map member_declares m.members) (inputs_no_edge edge m.inputs) (members_no_edge edge m.members) in
    ⊎_elim
    (λ yes. (bytes_eq-Decides m.clock edge).0 yes)
    (λ no. absurd (false≢true (sym fits ∙ ap (λ s. is_wrong s (Edge edge)) (skipped_sort edge (record { name = m.clock; sort = Clock }) rest no) ∙ found_wrong edge rest no_edge later)))
    (cases_Bool (bytes_eq m.clock edge))

-- ---- members

one_clocked : (m : ModuleTree) (declared : List (List ℕ)) (member : MemberTree) → ((x : List ℕ) → Has declared x → Has (names_of (declares m)) x)
    → Each (IsRight m) (map (λ (u : Use). (declared, u)) (member_uses member)) → clocked m.clock member ≡ member
one_clocked m declared (trees.Reg item) within all = refl
one_clocked m declared (trees.Array array) within all = refl
one_clocked m declared (trees.Wire item value) within all = refl
one_clocked m declared (trees.Initial settings) within all = refl
one_clocked m declared (trees.Always edge actions) within all = ap (λ (name : List ℕ). trees.Always name actions) (is_clock m edge (within edge all.0.0) all.0.1)

members_clocked : (m : ModuleTree) (declared : List (List ℕ)) (all : List MemberTree) → ((x : List ℕ) → Has (declared ++ names_of (flat_map member_declares all)) x → Has (names_of (declares m)) x)
    → Each (IsRight m) (uses_in declared all) → Each (λ (member : MemberTree). clocked m.clock member ≡ member) all
members_clocked m declared [] within good = tt
members_clocked m declared (member ∷ rest) within good =
    let halves = each_halves (IsRight m) (map (λ (u : Use). (declared, u)) (member_uses member)) (uses_in (declared ++ names_of (member_declares member)) rest) good in
    let split : (declared ++ names_of (member_declares member)) ++ names_of (flat_map member_declares rest) ≡ declared ++ names_of (flat_map member_declares (member ∷ rest)) =
    append_assoc declared (names_of (member_declares member)) (names_of (flat_map member_declares rest))
    ∙ ap (λ (l : List (List ℕ)). declared ++ l) (sym (map-append (λ (d : Declared). d.name) (member_declares member) (flat_map member_declares rest))) in (
      one_clocked m declared member (λ x has. within x (has_front declared (names_of (flat_map member_declares (member ∷ rest))) x has)) halves.0,
      members_clocked m (declared ++ names_of (member_declares member)) rest (λ x has. within x (subst (λ (l : List (List ℕ)). Has l x) split has)) halves.1,
    )

pub has_one_clock : (m : ModuleTree) → Holds7 m → HasOneClock m
has_one_clock m holds =
    let split : names_of (declares m) ≡ names_of (head_declares m) ++ names_of (flat_map member_declares m.members) = map-append (λ (d : Declared). d.name) (head_declares m) (flat_map member_declares m.members) in
    each_all (λ (member : MemberTree). clocked m.clock member ≡ member) m.members
    (members_clocked m (names_of (head_declares m)) m.members (λ x has. subst (λ (l : List (List ℕ)). Has l x) (sym split) has) (all_right m holds))
