-- The numbers that names have.
use Rattle.std.proofs.Common.{◌≡◌, ℕ, suc, ◌+◌, List, [], ◌∷◌, ◌++◌, map, Bool, true, false, cond, not, Option, Some, None, refl, sym, ap, ap₂, ◌∙◌, arith}
use Rattle.std.specs.Prelude.{flat_map, find, option_map, slice_index, if◌then◌else◌}
use Rattle.std.specs.List.{position_or_len}
use Rattle.std.specs.Option.{option_or, unwrap_or}
use Rattle.std.specs.Str.{bytes_eq}
use Rattle.std.specs.Cmp.Lexicographic.{slice_cmp}
use Rattle.std.specs.Ordering.{nat_cmp}
use Rattle.std.specs.Map.{lookup}
use Rattle.std.specs.BTreeMap.{BTreeMap, is_at}
use Rattle.name_tables.specs.TableViews.{value_of}
use Rattle.lisa_engine.specs.declared.parts.Item.{Item}
use Rattle.lisa_engine.specs.declared.parts.ArrayItem.{ArrayItem}
use Rattle.verilog_text.specs.Clocked.{regs, arrays, nets, scalars, widths_of}
use Rattle.verilog_text.specs.Clocked as modules
use Rattle.verilog_text.specs.Conditions.{Sort, Clock, Input, Register, Store, Net, Declared, member_declares, head_declares, declares}
use Rattle.verilog_places.specs.declared.modules.PlacedInput.{PlacedInput}
use Rattle.verilog_places.specs.declared.modules.PlacedMember.{PlacedMember}
use Rattle.verilog_places.specs.declared.modules.PlacedModule.{PlacedModule}
use Rattle.verilog_places.specs.Trees.{PlacedMemberTree, Reg, Array, Wire, Initial, Always, PlacedModuleTree, bare_members, bare_inputs, bare_module, placed_member, placed_module}
use Rattle.verilog_size_checks.specs.declared.tables.Kind.TheVariants as kinds
use Rattle.verilog_size_checks.specs.Sought.{first_of, named_value, member_value, input_value, exponent, sort_needs, needs, Adds}
use Rattle.verilog_size_checks.proofs.FirstLaws.{or_assoc, first_append}

-- ---- numbers by place are those of the first name

abbrev item_width : List ℕ → Item → Option ℕ
item_width n item = named_value item.name item.width n

abbrev array_width : List ℕ → ArrayItem → Option ℕ
array_width n array = named_value array.name array.width n

at_place : {A : Type 0} (name : A → List ℕ) (value : A → ℕ) (n : List ℕ) (xs : List A)
    → slice_index (map value xs) (position_or_len (λ x. bytes_eq (name x) n) xs) ≡ unwrap_or (first_of (λ x. named_value (name x) (value x) n) xs) 0
at_place name value n [] = refl
at_place name value n (x ∷ xs) = go (bytes_eq (name x) n) (at_place name value n xs)
  where
    go : (b : Bool) → slice_index (map value xs) (position_or_len (λ y. bytes_eq (name y) n) xs) ≡ unwrap_or (first_of (λ y. named_value (name y) (value y) n) xs) 0
        → slice_index (value x ∷ map value xs) (cond (not b) (1 + position_or_len (λ y. bytes_eq (name y) n) xs) 0)
        ≡ unwrap_or (option_or (if b then Some (value x) else None) (first_of (λ y. named_value (name y) (value y) n) xs)) 0
    go true is = refl
    go false is =
        let k : ℕ = position_or_len (λ y. bytes_eq (name y) n) xs in
        let e : 1 + k ≡ suc k = omega arith in
        ap (λ (i : ℕ). slice_index (value x ∷ map value xs) i) e ∙ is

regs_first : (n : List ℕ) (all : List PlacedMemberTree) → first_of (item_width n) (regs (bare_members all)) ≡ first_of (member_value kinds.Regs n) all
regs_first n [] = refl
regs_first n (Reg range item ∷ rest) = ap (option_or (named_value item.name item.width n)) (regs_first n rest)
regs_first n (Array range array ∷ rest) = regs_first n rest
regs_first n (Wire range item e ∷ rest) = regs_first n rest
regs_first n (Initial settings ∷ rest) = regs_first n rest
regs_first n (Always edge actions ∷ rest) = regs_first n rest

nets_first : (n : List ℕ) (all : List PlacedMemberTree) → first_of (item_width n) (map (λ (net : modules.Net). net.item) (nets (bare_members all))) ≡ first_of (member_value kinds.Nets n) all
nets_first n [] = refl
nets_first n (Reg range item ∷ rest) = nets_first n rest
nets_first n (Array range array ∷ rest) = nets_first n rest
nets_first n (Wire range item e ∷ rest) = ap (option_or (named_value item.name item.width n)) (nets_first n rest)
nets_first n (Initial settings ∷ rest) = nets_first n rest
nets_first n (Always edge actions ∷ rest) = nets_first n rest

arrays_first : (n : List ℕ) (all : List PlacedMemberTree) → first_of (array_width n) (arrays (bare_members all)) ≡ first_of (member_value kinds.Cells n) all
arrays_first n [] = refl
arrays_first n (Reg range item ∷ rest) = arrays_first n rest
arrays_first n (Array range array ∷ rest) = ap (option_or (named_value array.name array.width n)) (arrays_first n rest)
arrays_first n (Wire range item e ∷ rest) = arrays_first n rest
arrays_first n (Initial settings ∷ rest) = arrays_first n rest
arrays_first n (Always edge actions ∷ rest) = arrays_first n rest

inputs_first : (n : List ℕ) (all : List PlacedInput) → first_of (item_width n) (bare_inputs all) ≡ first_of (input_value kinds.Regs n) all
inputs_first n [] = refl
inputs_first n (input ∷ rest) = ap (option_or (named_value input.item.name input.item.width n)) (inputs_first n rest)

scalars_first : (n : List ℕ) (p : PlacedModuleTree) → first_of (item_width n) (scalars (bare_module p))
    ≡ option_or (option_or (first_of (member_value kinds.Regs n) p.members) (first_of (input_value kinds.Regs n) p.inputs)) (first_of (member_value kinds.Nets n) p.members)
scalars_first n p =
    let a = regs (bare_members p.members) in
    let b = bare_inputs p.inputs in
    let c = map (λ (net : modules.Net). net.item) (nets (bare_members p.members)) in
    first_append (item_width n) a (b ++ c)
    ∙ ap₂ option_or (regs_first n p.members) (first_append (item_width n) b c ∙ ap₂ option_or (inputs_first n p.inputs) (nets_first n p.members))
    ∙ sym (or_assoc (first_of (member_value kinds.Regs n) p.members) (first_of (input_value kinds.Regs n) p.inputs) (first_of (member_value kinds.Nets n) p.members))

pub wide_is : (p : PlacedModuleTree) (n : List ℕ) → (widths_of (bare_module p)).wide n
    ≡ unwrap_or (option_or (option_or (first_of (member_value kinds.Regs n) p.members) (first_of (input_value kinds.Regs n) p.inputs)) (first_of (member_value kinds.Nets n) p.members)) 0
wide_is p n = at_place (λ (item : Item). item.name) (λ (item : Item). item.width) n (scalars (bare_module p)) ∙ ap (λ (o : Option ℕ). unwrap_or o 0) (scalars_first n p)

pub cell_is : (p : PlacedModuleTree) (n : List ℕ) → (widths_of (bare_module p)).cell n ≡ unwrap_or (first_of (member_value kinds.Cells n) p.members) 0
cell_is p n = at_place (λ (array : ArrayItem). array.name) (λ (array : ArrayItem). array.width) n (arrays (bare_members p.members)) ∙ ap (λ (o : Option ℕ). unwrap_or o 0) (arrays_first n p.members)

-- ---- depths

-- the depth of what is declared as an array, and 0 for any other
abbrev sort_depth : Sort → ℕ
sort_depth (Store width depth) = depth
sort_depth _ = 0

abbrev declared_depth : List ℕ → Declared → Option ℕ
declared_depth n d = named_value d.name (sort_depth d.sort) n

exponent_zero : exponent 0 ≡ None
unfolding exponent
exponent_zero = refl

needs_depth : (s : Sort) → sort_needs (Some s) ≡ exponent (sort_depth s)
needs_depth Clock = sym exponent_zero
needs_depth (Input width) = sym exponent_zero
needs_depth (Register width) = sym exponent_zero
needs_depth (Store width depth) = refl
needs_depth (Net width) = sym exponent_zero

found_depth : (n : List ℕ) (all : List Declared) → sort_needs (option_map (λ (d : Declared). d.sort) (find (λ (d : Declared). bytes_eq d.name n) all)) ≡ exponent (unwrap_or (first_of (declared_depth n) all) 0)
found_depth n [] = sym exponent_zero
found_depth n (d ∷ rest) = go (bytes_eq d.name n) (found_depth n rest)
  where
    go : (b : Bool) → sort_needs (option_map (λ (d : Declared). d.sort) (find (λ (d : Declared). bytes_eq d.name n) rest)) ≡ exponent (unwrap_or (first_of (declared_depth n) rest) 0)
        → sort_needs (option_map (λ (d : Declared). d.sort) (cond b (Some d) (find (λ (d : Declared). bytes_eq d.name n) rest)))
        ≡ exponent (unwrap_or (option_or (if b then Some (sort_depth d.sort) else None) (first_of (declared_depth n) rest)) 0)
    go true is = needs_depth d.sort
    go false is = is

member_depths : (n : List ℕ) (all : List PlacedMemberTree) → first_of (declared_depth n) (flat_map member_declares (bare_members all)) ≡ first_of (member_value kinds.Depths n) all
member_depths n [] = refl
member_depths n (Reg range item ∷ rest) = ap (option_or (named_value item.name 0 n)) (member_depths n rest)
member_depths n (Array range array ∷ rest) = ap (option_or (named_value array.name array.depth n)) (member_depths n rest)
member_depths n (Wire range item e ∷ rest) = ap (option_or (named_value item.name 0 n)) (member_depths n rest)
member_depths n (Initial settings ∷ rest) = member_depths n rest
member_depths n (Always edge actions ∷ rest) = member_depths n rest

input_depths : (n : List ℕ) (all : List PlacedInput)
    → first_of (declared_depth n) (map (λ (item : Item). record { name = item.name; sort = Input item.width }) (bare_inputs all)) ≡ first_of (input_value kinds.Depths n) all
input_depths n [] = refl
input_depths n (input ∷ rest) = ap (option_or (named_value input.item.name 0 n)) (input_depths n rest)

pub needs_is : (p : PlacedModuleTree) (n : List ℕ) → needs (bare_module p) n
    ≡ exponent (unwrap_or (option_or (option_or (named_value p.clock 0 n) (first_of (input_value kinds.Depths n) p.inputs)) (first_of (member_value kinds.Depths n) p.members)) 0)
unfolding needs
needs_is p n =
    found_depth n (declares (bare_module p))
    ∙ ap (λ (o : Option ℕ). exponent (unwrap_or o 0))
    (first_append (declared_depth n) (head_declares (bare_module p)) (flat_map member_declares (bare_members p.members))
    ∙ ap₂ (λ (x y : Option ℕ). option_or (option_or (named_value p.clock 0 n) x) y) (input_depths n p.inputs) (member_depths n p.members))

-- ---- tables

empty_at : (table : BTreeMap (List ℕ) ℕ) (n : List ℕ) → table.entries ≡ [] → value_of table n ≡ None
empty_at table n none = ap (λ (es : List (List ℕ × ℕ)). lookup (is_at (slice_cmp nat_cmp n)) es) none

module _ (m : PlacedModule) (t0 t1 t2 t3 : BTreeMap (List ℕ) ℕ) (empty : t0.entries ≡ []) where
  pub words_table : (xs zs : List PlacedMember) (ys : List PlacedInput) → xs ≡ m.members.items → ys ≡ m.inputs.items → zs ≡ m.members.items
      → Adds t0 t1 (λ n. first_of (member_value kinds.Regs n) (map placed_member xs)) → Adds t1 t2 (λ n. first_of (input_value kinds.Regs n) ys)
      → Adds t2 t3 (λ n. first_of (member_value kinds.Nets n) (map placed_member zs)) → (n : List ℕ) → unwrap_or (value_of t3 n) 0 ≡ (widths_of (bare_module (placed_module m))).wide n
  words_table xs zs ys one two three first second third n =
      let a : value_of t1 n ≡ first_of (member_value kinds.Regs n) (map placed_member m.members.items) =
      first n ∙ ap₂ (λ (o : Option ℕ) (all : List PlacedMember). option_or o (first_of (member_value kinds.Regs n) (map placed_member all))) (empty_at t0 n empty) one in
      let b : value_of t2 n ≡ option_or (first_of (member_value kinds.Regs n) (map placed_member m.members.items)) (first_of (input_value kinds.Regs n) m.inputs.items) =
      second n ∙ ap₂ (λ (o : Option ℕ) (all : List PlacedInput). option_or o (first_of (input_value kinds.Regs n) all)) a two in
      ap (λ (o : Option ℕ). unwrap_or o 0) (third n ∙ ap₂ (λ (o : Option ℕ) (all : List PlacedMember). option_or o (first_of (member_value kinds.Nets n) (map placed_member all))) b three)
      ∙ sym (wide_is (placed_module m) n)

  pub cells_table : (xs : List PlacedMember) → xs ≡ m.members.items → Adds t0 t1 (λ n. first_of (member_value kinds.Cells n) (map placed_member xs))
      → (n : List ℕ) → unwrap_or (value_of t1 n) 0 ≡ (widths_of (bare_module (placed_module m))).cell n
  cells_table xs one first n =
      ap (λ (o : Option ℕ). unwrap_or o 0) (first n ∙ ap₂ (λ (o : Option ℕ) (all : List PlacedMember). option_or o (first_of (member_value kinds.Cells n) (map placed_member all))) (empty_at t0 n empty) one)
      ∙ sym (cell_is (placed_module m) n)

  pub depths_table : (xs : List PlacedMember) (ys : List PlacedInput) → ys ≡ m.inputs.items → xs ≡ m.members.items
      → Adds t0 t1 (named_value m.clock 0) → Adds t1 t2 (λ n. first_of (input_value kinds.Depths n) ys) → Adds t2 t3 (λ n. first_of (member_value kinds.Depths n) (map placed_member xs))
      → (n : List ℕ) → exponent (unwrap_or (value_of t3 n) 0) ≡ needs (bare_module (placed_module m)) n
  depths_table xs ys one two first second third n =
      let a : value_of t1 n ≡ named_value m.clock 0 n = first n ∙ ap (λ (o : Option ℕ). option_or o (named_value m.clock 0 n)) (empty_at t0 n empty) in
      let b : value_of t2 n ≡ option_or (named_value m.clock 0 n) (first_of (input_value kinds.Depths n) m.inputs.items) =
      second n ∙ ap₂ (λ (o : Option ℕ) (all : List PlacedInput). option_or o (first_of (input_value kinds.Depths n) all)) a one in
      ap (λ (o : Option ℕ). exponent (unwrap_or o 0)) (third n ∙ ap₂ (λ (o : Option ℕ) (all : List PlacedMember). option_or o (first_of (member_value kinds.Depths n) (map placed_member all))) b two)
      ∙ sym (needs_is (placed_module m) n)
