-- A module in which nothing is broken can be clocked.
use Rattle.std.proofs.Common.{◌≡◌, ℕ, ◌+◌, ◌<◌, ◌≤◌, List, [], ◌∷◌, ◌++◌, length, map, refl, sym, ap, ◌∙◌, subst, arith, codes, inl, inr, ⊎_elim, sum_by}
use Rattle.std.specs.Prelude.{flat_map}
use Rattle.std.proofs.lemmas.Bool.{cases_lt}
use Rattle.std.proofs.lemmas.List.{map-append}
use Rattle.lisa_engine.specs.declared.parts.Item.{Item}
use Rattle.lisa_engine.specs.declared.parts.ArrayItem.{ArrayItem}
use Rattle.verilog_text.specs.Tokens.{VToks}
use Rattle.verilog_text.specs.Trees as trees
use Rattle.verilog_text.specs.Trees.{MemberTree, ModuleTree}
use Rattle.verilog_text.specs.Clocked.{regs, arrays, nets, scalars, widths_of}
use Rattle.verilog_text.specs.Clocked as modules
use Rattle.verilog_text.specs.Grammar.{SpellsModule}
use Rattle.verilog_text.specs.Conditions.{Declared, Input, member_declares, declares, names_of, AtMost, IsExcess, IsTooMany}
use Rattle.verilog_text.specs.WidePlaces.{wide_inputs, wide_members}
use Rattle.verilog_text.specs.Faults.{HoldsAll, Holds4, VAccepts}
use Rattle.verilog_text.specs.Clockable.{IsNarrowMember, IsClockable}
use Rattle.verilog_rules.proofs.Apart.{Has, AreApart, has_either, apart_append, apart_front, apart_back, apart_both, apart_pairs, apart_behind, first_here, first_behind}
use Rattle.verilog_rules.proofs.Narrow.{Each, each_append, each_all, both_none, narrow_inputs, narrow_members, small_regs, small_arrays, small_nets, small_members, IsSmall, IsSome, some_inputs, some_members, some_regs, some_stores, some_nets}

-- what the members declare, by kinds
abbrev names_in : List MemberTree → List (List ℕ)
names_in all = names_of (flat_map member_declares all)

abbrev reg_names : List MemberTree → List (List ℕ)
reg_names all = map (λ (item : Item). item.name) (regs all)

abbrev array_names : List MemberTree → List (List ℕ)
array_names all = map (λ (array : ArrayItem). array.name) (arrays all)

abbrev net_names : List MemberTree → List (List ℕ)
net_names all = map (λ (item : Item). item.name) (map (λ (net : modules.Net). net.item) (nets all))

regs_in : (all : List MemberTree) (x : List ℕ) → Has (reg_names all) x → Has (names_in all) x
regs_in [] x has = has
regs_in (trees.Reg item ∷ rest) x has = ⊎_elim (λ is. inl is) (λ later. inr (regs_in rest x later)) has
regs_in (trees.Array array ∷ rest) x has = inr (regs_in rest x has)
regs_in (trees.Wire item e ∷ rest) x has = inr (regs_in rest x has)
regs_in (trees.Initial settings ∷ rest) x has = regs_in rest x has
regs_in (trees.Always edge actions ∷ rest) x has = regs_in rest x has

arrays_in : (all : List MemberTree) (x : List ℕ) → Has (array_names all) x → Has (names_in all) x
arrays_in [] x has = has
arrays_in (trees.Reg item ∷ rest) x has = inr (arrays_in rest x has)
arrays_in (trees.Array array ∷ rest) x has = ⊎_elim (λ is. inl is) (λ later. inr (arrays_in rest x later)) has
arrays_in (trees.Wire item e ∷ rest) x has = inr (arrays_in rest x has)
arrays_in (trees.Initial settings ∷ rest) x has = arrays_in rest x has
arrays_in (trees.Always edge actions ∷ rest) x has = arrays_in rest x has

nets_in : (all : List MemberTree) (x : List ℕ) → Has (net_names all) x → Has (names_in all) x
nets_in [] x has = has
nets_in (trees.Reg item ∷ rest) x has = inr (nets_in rest x has)
nets_in (trees.Array array ∷ rest) x has = inr (nets_in rest x has)
nets_in (trees.Wire item e ∷ rest) x has = ⊎_elim (λ is. inl is) (λ later. inr (nets_in rest x later)) has
nets_in (trees.Initial settings ∷ rest) x has = nets_in rest x has
nets_in (trees.Always edge actions ∷ rest) x has = nets_in rest x has

regs_apart : (all : List MemberTree) → AreApart (names_in all) → AreApart (reg_names all)
regs_apart [] apart = tt
regs_apart (trees.Reg item ∷ rest) apart = ((λ has. apart.0 (regs_in rest item.name has)), regs_apart rest apart.1)
regs_apart (trees.Array array ∷ rest) apart = regs_apart rest apart.1
regs_apart (trees.Wire item e ∷ rest) apart = regs_apart rest apart.1
regs_apart (trees.Initial settings ∷ rest) apart = regs_apart rest apart
regs_apart (trees.Always edge actions ∷ rest) apart = regs_apart rest apart

arrays_apart : (all : List MemberTree) → AreApart (names_in all) → AreApart (array_names all)
arrays_apart [] apart = tt
arrays_apart (trees.Reg item ∷ rest) apart = arrays_apart rest apart.1
arrays_apart (trees.Array array ∷ rest) apart = ((λ has. apart.0 (arrays_in rest array.name has)), arrays_apart rest apart.1)
arrays_apart (trees.Wire item e ∷ rest) apart = arrays_apart rest apart.1
arrays_apart (trees.Initial settings ∷ rest) apart = arrays_apart rest apart
arrays_apart (trees.Always edge actions ∷ rest) apart = arrays_apart rest apart

nets_apart : (all : List MemberTree) → AreApart (names_in all) → AreApart (net_names all)
nets_apart [] apart = tt
nets_apart (trees.Reg item ∷ rest) apart = nets_apart rest apart.1
nets_apart (trees.Array array ∷ rest) apart = nets_apart rest apart.1
nets_apart (trees.Wire item e ∷ rest) apart = ((λ has. apart.0 (nets_in rest item.name has)), nets_apart rest apart.1)
nets_apart (trees.Initial settings ∷ rest) apart = nets_apart rest apart
nets_apart (trees.Always edge actions ∷ rest) apart = nets_apart rest apart

regs_or_nets : (all : List MemberTree) → AreApart (names_in all) → (x : List ℕ) → Has (reg_names all) x → Has (net_names all) x → ⊥
regs_or_nets [] apart x here there = here
regs_or_nets (trees.Reg item ∷ rest) apart x here there =
    ⊎_elim (λ is. apart.0 (nets_in rest item.name (subst (λ (n : List ℕ). Has (net_names rest) n) (sym is) there))) (λ later. regs_or_nets rest apart.1 x later there) here
regs_or_nets (trees.Array array ∷ rest) apart x here there = regs_or_nets rest apart.1 x here there
regs_or_nets (trees.Wire item e ∷ rest) apart x here there =
    ⊎_elim (λ is. apart.0 (regs_in rest item.name (subst (λ (n : List ℕ). Has (reg_names rest) n) (sym is) here))) (λ later. regs_or_nets rest apart.1 x here later) there
regs_or_nets (trees.Initial settings ∷ rest) apart x here there = regs_or_nets rest apart x here there
regs_or_nets (trees.Always edge actions ∷ rest) apart x here there = regs_or_nets rest apart x here there

inputs_named : (inputs : List Item) → names_of (map (λ (item : Item). record { name = item.name; sort = Input item.width }) inputs) ≡ map (λ (item : Item). item.name) inputs
inputs_named [] = refl
inputs_named (item ∷ rest) = ap (λ (xs : List (List ℕ)). item.name ∷ xs) (inputs_named rest)

abbrev input_names : ModuleTree → List (List ℕ)
input_names m = map (λ (item : Item). item.name) m.inputs

-- all names behind the clock's
module _ (m : ModuleTree) (holds : Holds4 m) where
  all_apart : AreApart ((input_names m) ++ names_in m.members)
  all_apart =
      let rest : List Declared = map (λ (item : Item). record { name = item.name; sort = Input item.width }) m.inputs in
      let whole = apart_behind [] (names_of (declares m)) (λ p first. holds p.1 (p.0, first)) in
      let split : names_of (rest ++ flat_map member_declares m.members) ≡ (input_names m) ++ names_in m.members =
      map-append (λ (d : Declared). d.name) rest (flat_map member_declares m.members) ∙ ap (λ (xs : List (List ℕ)). xs ++ names_in m.members) (inputs_named m.inputs) in
      subst AreApart split whole.0.1

  scalars_apart : AreApart (map (λ (item : Item). item.name) (scalars m))
  scalars_apart =
      let members = m.members in
      let wires = map (λ (net : modules.Net). net.item) (nets members) in
      let inside : AreApart (names_in members) = apart_back (input_names m) (names_in members) all_apart in
      let later : AreApart ((input_names m) ++ net_names members) =
      apart_append (input_names m) (net_names members) (apart_front (input_names m) (names_in members) all_apart) (nets_apart members inside)
      (λ x here there. apart_both (input_names m) (names_in members) all_apart x here (nets_in members x there)) in
      let whole : AreApart (reg_names members ++ ((input_names m) ++ net_names members)) =
      apart_append (reg_names members) ((input_names m) ++ net_names members) (regs_apart members inside) later
      (λ x here there. ⊎_elim (λ one. apart_both (input_names m) (names_in members) all_apart x one (regs_in members x here)) (λ other. regs_or_nets members inside x here other)
      (has_either (input_names m) (net_names members) x there)) in
      let split : map (λ (item : Item). item.name) (scalars m) ≡ reg_names members ++ ((input_names m) ++ net_names members) =
      map-append (λ (item : Item). item.name) (regs members) (m.inputs ++ wires)
      ∙ ap (λ (xs : List (List ℕ)). reg_names members ++ xs) (map-append (λ (item : Item). item.name) m.inputs wires) in
      subst AreApart (sym split) whole

  arrays_are_apart : AreApart (array_names m.members)
  arrays_are_apart = arrays_apart m.members (apart_back (input_names m) (names_in m.members) all_apart)

-- no count is above its limit
abbrev IsWithinCounts : ModuleTree → Type 0
IsWithinCounts m = (what : List ℕ) (count limit : ℕ) → ¬ IsTooMany m what count limit

abbrev cells : ModuleTree → ℕ
cells m = sum_by (λ (array : ArrayItem). array.depth) (arrays m.members)

items_fit : (m : ModuleTree) → IsWithinCounts m → length (regs m.members) ≤ 8192
items_fit m never =
    ⊎_elim
    (λ many. absurd (never _ _ _ (AtMost (codes "items") (length (regs m.members)) 8192, first_here IsExcess _ _ many, refl, refl, refl)))
    (λ fits. fits)
    (cases_lt 8192 (length (regs m.members)))

arrays_fit : (m : ModuleTree) → IsWithinCounts m → length (arrays m.members) ≤ 1024
arrays_fit m never =
    let items : length (regs m.members) ≤ 8192 = items_fit m never in
    ⊎_elim
    (λ many. absurd (never _ _ _ (
      AtMost (codes "arrays") (length (arrays m.members)) 1024,
      first_behind IsExcess _ _ _ (λ (more : 8192 < length (regs m.members)). omega (arith, more, items)) (first_here IsExcess _ _ many),
      refl,
      refl,
      refl,
    )))
    (λ fits. fits)
    (cases_lt 1024 (length (arrays m.members)))

cells_fit : (m : ModuleTree) → IsWithinCounts m → cells m ≤ 4194304
cells_fit m never =
    let items : length (regs m.members) ≤ 8192 = items_fit m never in
    let all : length (arrays m.members) ≤ 1024 = arrays_fit m never in
    ⊎_elim
    (λ many. absurd (never _ _ _ (
      AtMost (codes "cells") (cells m) 4194304,
      first_behind IsExcess _ _ _ (λ (more : 8192 < length (regs m.members)). omega (arith, more, items))
          (first_behind IsExcess _ _ _ (λ (more : 1024 < length (arrays m.members)). omega (arith, more, all)) (first_here IsExcess _ _ many)),
      refl,
      refl,
      refl,
    )))
    (λ fits. fits)
    (cases_lt 4194304 (cells m))

pins_fit : (m : ModuleTree) → IsWithinCounts m → length m.inputs ≤ 64
pins_fit m never =
    let items : length (regs m.members) ≤ 8192 = items_fit m never in
    let all : length (arrays m.members) ≤ 1024 = arrays_fit m never in
    let small : cells m ≤ 4194304 = cells_fit m never in
    ⊎_elim
    (λ many. absurd (never _ _ _ (
      AtMost (codes "pins") (length m.inputs) 64,
      first_behind IsExcess _ _ _ (λ (more : 8192 < length (regs m.members)). omega (arith, more, items))
          (first_behind IsExcess _ _ _ (λ (more : 1024 < length (arrays m.members)). omega (arith, more, all))
          (first_behind IsExcess _ _ _ (λ (more : 4194304 < cells m). omega (arith, more, small)) (first_here IsExcess _ _ many))),
      refl,
      refl,
      refl,
    )))
    (λ fits. fits)
    (cases_lt 64 (length m.inputs))

pub clockable : {ts : VToks} {m : ModuleTree} (s : SpellsModule ts m) → HoldsAll s → IsClockable m
clockable {m = m} s holds =
    let at = 5 + length s.wire in
    let behind = 7 + (length s.wire + length s.input_part) in
    let w = widths_of m in
    let names : Holds4 m = holds.0.0.0.0.0.0.0 in
    let none = both_none (wide_inputs s.spells_inputs at) (wide_members w s.spells_members behind) holds.0.0.1 in
    let pins = narrow_inputs s.spells_inputs at none.0 in
    let small : Each (IsSmall w) m.members = narrow_members w s.spells_members behind none.1 in
    let some : Each IsSome m.members = some_members s.spells_members in
    let wires = map (λ (net : modules.Net). net.item) (nets m.members) in
    record {
      distinct_scalars = apart_pairs (λ (item : Item). item.name) (scalars m) (scalars_apart m names);
      distinct_arrays = apart_pairs (λ (array : ArrayItem). array.name) (arrays m.members) (arrays_are_apart m names);
      narrow_scalars = each_all (λ (item : Item). item.width ≤ 64) (scalars m)
          (each_append (λ (item : Item). item.width ≤ 64) (regs m.members) (m.inputs ++ wires) (small_regs w m.members small)
          (each_append (λ (item : Item). item.width ≤ 64) m.inputs wires pins (small_nets w m.members small)));
      narrow_arrays = each_all (λ (array : ArrayItem). array.width ≤ 64) (arrays m.members) (small_arrays w m.members small);
      some_scalars = each_all (λ (item : Item). 1 ≤ item.width) (scalars m)
          (each_append (λ (item : Item). 1 ≤ item.width) (regs m.members) (m.inputs ++ wires) (some_regs m.members some)
          (each_append (λ (item : Item). 1 ≤ item.width) m.inputs wires (some_inputs s.spells_inputs) (some_nets m.members some)));
      some_arrays = each_all (λ (array : ArrayItem). 1 ≤ array.width) (arrays m.members) (some_stores m.members some);
      few_items = items_fit m holds.1;
      few_arrays = arrays_fit m holds.1;
      few_pins = pins_fit m holds.1;
      narrow = each_all (IsNarrowMember w) m.members (small_members w m.members small);
    }

pub accepted : (bytes : List ℕ) (m : ModuleTree) → VAccepts bytes m → IsClockable m
accepted bytes m accepts = clockable accepts.spelling.spells accepts.holds
