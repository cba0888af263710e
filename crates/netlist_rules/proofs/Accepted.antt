-- Nothing is broken in a program's module.
use Rattle.std.proofs.Common.{◌≡◌, ℕ, zero, suc, ◌+◌, ◌^◌, ◌<◌, ◌≤◌, Bool, true, false, List, [], ◌∷◌, ◌++◌, length, map, get_or, refl, sym, ap, ap₂, ◌∙◌, subst, arith, ◌⊎◌, inl, inr, ⊎_elim, Option, Some, None, cond, nat_eq, nat_le, nat_lt, not}
use Rattle.std.specs.Prelude.{All, Contains, flat_map, find, slice_index, slice_index_or, sum_by}
use Rattle.std.specs.List.{slice_get}
use Rattle.std.specs.Option.{option_map}
use Rattle.std.specs.Str.{bytes_eq}
use Rattle.std.proofs.lemmas.Bool.{cases_lt, cases_order, false_from_ne_true, false≢true, and_from, eq-eqb, le-leb, lt-ltb}
use Rattle.std.proofs.lemmas.List.{get_or-map, length-map, append-nil}
use Rattle.std.proofs.lemmas.Option.{slice_get_within, slice_get-get_or, slice_get-map, get_or_from_slice_get}
use Rattle.std.proofs.lemmas.Slice.Eq.{bytes_eq-Decides}
use Rattle.std.proofs.Math.Pow.{pow-lt}
use Rattle.lisa_engine.specs.Images.{IsDepth}
use Rattle.lisa_engine.specs.declared.parts.Item.{Item}
use Rattle.lisa_engine.specs.declared.parts.ArrayItem.{ArrayItem}
use Rattle.lisa_engine.proofs.Places.{any_default}
use Rattle.verilog_text.specs.Trees as trees
use Rattle.verilog_text.specs.Trees.{VTree, ActionTrees, SettingTree, MemberTree, ModuleTree}
use Rattle.verilog_text.specs.Values.{Widths, v_width}
use Rattle.verilog_text.specs.Values as values
use Rattle.verilog_text.specs.Clocked.{settings, blocks, widths_of}
use Rattle.verilog_text.specs.Clockable.{IsNarrow, AreNarrowActions}
use Rattle.verilog_text.specs.Spelling.{VSpells}
use Rattle.verilog_text.specs.Printing.{module_text}
use Rattle.verilog_text.specs.Conditions.{IsFirst, Sort, Clock, Input, Register, Store, Net, Declared, member_declares, head_declares, declares, names_of, sort_of, with_earlier, Use, Read, Select, Index, Assign, Start, Edge, used_name, expr_uses, action_uses, uses_in, uses, is_select, is_wrong, FirstEvent, given, events_in, IsNoFirst, expr_indexes, action_indexes, member_indexes, NeedsWidth, targets, driven, Counted, Depth, counted, IsExcess, IsDuplicate, IsUndeclared, IsWrongUse, IsUnset, IsMisindexed, IsDrivenTwice, IsTooMany}
use Rattle.verilog_text.specs.Faults.{VAccepts}
use Rattle.verilog_rules.proofs.Apart.{Has, AreApart, has_front, has_back, has_either, apart_append}
use Rattle.verilog_rules.proofs.Narrow.{Each, IsSmall, each_append}
use Rattle.step_program.specs.declared.expressions.TwoOp.{TwoOp}
use Rattle.step_program.specs.declared.expressions.TwoOp.TheVariants as ops
use Rattle.step_program.specs.Programs.{Program}
use Rattle.step_program.specs.Effects.{item_width, pin_width, array_depth}
use Rattle.step_program.specs.WellFormed.{IsFreeName, IsWellFormed}
use Rattle.step_program.proofs.Fits.{read_map}
use Rattle.netlist_wires.specs.declared.keys.Flat.{Flat}
use Rattle.netlist_wires.specs.declared.keys.Flat.TheVariants.{Fixed, OfItem, OfPin, OfWire}
use Rattle.netlist_wires.specs.declared.keys.Body.{Body}
use Rattle.netlist_wires.specs.declared.keys.Body.TheVariants.{Copied, Lowest, Padded, Inverse, Load, Operate, Select as Chosen}
use Rattle.netlist_wires.specs.declared.keys.Key.{Key}
use Rattle.netlist_wires.specs.declared.keys.Write.{Write}
use Rattle.netlist_wires.specs.Tables.{HasDistinctNames}
use Rattle.netlist_wires.specs.Wiring.{item_name, pin_name, array_name, wire_name, operator_of, named, lowest, body_tree, nothing, Going, wires_from, set_items, put_cell, put_cells, actions, first_settings, clock_name, reg_members, array_members, module_at}
use Rattle.netlist_wires.proofs.Members.{wire_items, regs_is, arrays_is, settings_is, blocks_is}
use Rattle.netlist_wires.proofs.Named.{has_place, item_names, array_names, items_apart, arrays_apart, pins_apart, items_no_pins, items_no_arrays, arrays_no_pins, items_free, arrays_free, pins_free, no_wires, has_wire, wires_apart}
use Rattle.netlist_wires.proofs.Growing.{IsBelow, IsBodyBelow, IsIndexed, IsOrdered, flat_width, below_on, item_small, pin_small, array_small}
use Rattle.netlist_wires.proofs.Knowing.{item_wide_is, pin_wide_is, wire_wide_is, array_wide_is}
use Rattle.netlist_rules.proofs.Spelled.{ArePuts, text_spells}
use Rattle.netlist_rules.proofs.Narrowed.{none_wide}

-- ---- lists

each_map : {X Y : Type 0} (P : Y → Type 0) (f : X → Y) (xs : List X) → Each (λ x. P (f x)) xs → Each P (map f xs)
each_map P f [] h = tt
each_map P f (x ∷ xs) h = (h.0, each_map P f xs h.1)

each_weaker : {X : Type 0} (P Q : X → Type 0) → ((x : X) → P x → Q x) → (xs : List X) → Each P xs → Each Q xs
each_weaker P Q f [] h = tt
each_weaker P Q f (x ∷ xs) h = (f x h.0, each_weaker P Q f xs h.1)

each_of : {X : Type 0} (P : X → Type 0) (xs : List X) → All P xs → Each P xs
each_of P [] all = tt
each_of P (x ∷ xs) all = (all 0 x (omega arith), each_of P xs (λ k d h. all (suc k) d (omega (arith, h))))

each_part : {X : Type 0} (P : X → Type 0) (front rest : List X) (x : X) → Each P (front ++ x ∷ rest) → P x
each_part P [] rest x h = h.0
each_part P (y ∷ front) rest x h = each_part P front rest x h.1

-- where a fact holds nowhere, it is nowhere first
never_first : {X : Type 0} (P : X → Type 0) (xs : List X) (x : X) → Each (λ y. ¬ P y) xs → ¬ IsFirst P xs x
never_first P xs x each first = each_part (λ y. ¬ P y) first.front first.rest x (subst (Each (λ y. ¬ P y)) first.parts each) first.here

contains : (xs : List (List ℕ)) (x : List ℕ) → Has xs x → Contains xs x
contains xs x has = let r = has_place xs x has in (r.0, r.1, any_default xs r.0 x [] r.1 ∙ r.2)

has_from : (xs : List (List ℕ)) (x : List ℕ) (k : ℕ) → k < length xs → slice_index_or xs k x ≡ x → Has xs x
has_from [] x k h e = absurd (omega (arith, h))
has_from (y ∷ xs) x zero h e = inl e
has_from (y ∷ xs) x (suc k) h e = inr (has_from xs x k (omega (arith, h)) e)

has_of : (xs : List (List ℕ)) (x : List ℕ) → Contains xs x → Has xs x
has_of xs x c = has_from xs x c.0 c.1 c.2

has_at : {X : Type 0} (f : X → List ℕ) (xs : List X) (i : ℕ) → i < length xs → Has (map f xs) (slice_index_or (map f xs) i [])
has_at f [] i h = absurd (omega (arith, h))
has_at f (x ∷ xs) zero h = inl refl
has_at f (x ∷ xs) (suc i) h = inr (has_at f xs i (omega (arith, h)))

-- ---- declarations

IsIn : List Declared → Declared → Type 0
IsIn [] d = ⊥
IsIn (x ∷ xs) d = (x ≡ d) ⊎ IsIn xs d

in_front : (xs ys : List Declared) (d : Declared) → IsIn xs d → IsIn (xs ++ ys) d
unfolding IsIn
in_front [] ys d h = absurd h
in_front (x ∷ xs) ys d h = ⊎_elim (λ e. inl e) (λ later. inr (in_front xs ys d later)) h

in_back : (xs ys : List Declared) (d : Declared) → IsIn ys d → IsIn (xs ++ ys) d
unfolding IsIn
in_back [] ys d h = h
in_back (x ∷ xs) ys d h = inr (in_back xs ys d h)

in_map : {X : Type 0} (f : X → Declared) (xs : List X) (i : ℕ) (e : X) → i < length xs → IsIn (map f xs) (f (get_or xs i e))
unfolding IsIn
in_map f [] i e h = absurd (omega (arith, h))
in_map f (x ∷ xs) zero e h = inl refl
in_map f (x ∷ xs) (suc i) e h = inr (in_map f xs i e (omega (arith, h)))

in_names : (ds : List Declared) (d : Declared) → IsIn ds d → Has (names_of ds) d.name
unfolding IsIn
in_names [] d h = h
in_names (x ∷ ds) d h = ⊎_elim (λ e. inl (ap (λ (y : Declared). y.name) e)) (λ later. inr (in_names ds d later)) h

find_in : (ds : List Declared) (d : Declared) → AreApart (names_of ds) → IsIn ds d → find (λ x. bytes_eq x.name d.name) ds ≡ Some d
unfolding IsIn
find_in [] d apart h = absurd h
find_in (x ∷ ds) d apart h = ⊎_elim
    (λ e. (let t : bytes_eq x.name d.name ≡ true = (bytes_eq-Decides x.name d.name).1 (ap (λ (y : Declared). y.name) e) in
    ap (λ (b : Bool). cond b (Some x) (find (λ x. bytes_eq x.name d.name) ds)) t ∙ ap Some e))
    (λ later. (let f : bytes_eq x.name d.name ≡ false = false_from_ne_true (bytes_eq x.name d.name) (λ t. apart.0 (subst (Has (names_of ds)) (sym ((bytes_eq-Decides x.name d.name).0 t)) (in_names ds d later))) in
    ap (λ (b : Bool). cond b (Some x) (find (λ x. bytes_eq x.name d.name) ds)) f ∙ find_in ds d apart.1 later))
    h

abbrev input_of : Item → Declared
input_of item = record { name = item.name; sort = Input item.width }

abbrev reg_of : Item → Declared
reg_of item = record { name = item.name; sort = Register item.width }

abbrev store_of : ArrayItem → Declared
store_of array = record { name = array.name; sort = Store array.width array.depth }

abbrev net_of : Item → Declared
net_of item = record { name = item.name; sort = Net item.width }

declares_regs : (items : List Item) (rest : List MemberTree) → flat_map member_declares (reg_members items ++ rest) ≡ map reg_of items ++ flat_map member_declares rest
declares_regs [] rest = refl
declares_regs (item ∷ items) rest = ap (λ (ds : List Declared). reg_of item ∷ ds) (declares_regs items rest)

declares_arrays : (all : List ArrayItem) (rest : List MemberTree) → flat_map member_declares (array_members all ++ rest) ≡ map store_of all ++ flat_map member_declares rest
declares_arrays [] rest = refl
declares_arrays (array ∷ all) rest = ap (λ (ds : List Declared). store_of array ∷ ds) (declares_arrays all rest)

declares_wires : (p : Program) (n : ℕ) (keys : List Key) (rest : List MemberTree) → flat_map member_declares (wires_from p n keys ++ rest) ≡ map net_of (wire_items n keys) ++ flat_map member_declares rest
declares_wires p n [] rest = refl
declares_wires p n (key ∷ keys) rest = ap (λ (ds : List Declared). record { name = wire_name n; sort = Net key.width } ∷ ds) (declares_wires p (suc n) keys rest)

names_join : (xs ys : List Declared) → names_of (xs ++ ys) ≡ names_of xs ++ names_of ys
names_join [] ys = refl
names_join (x ∷ xs) ys = ap (λ (ns : List (List ℕ)). x.name ∷ ns) (names_join xs ys)

names_map : {X : Type 0} (f : X → Declared) (g : X → List ℕ) → ((x : X) → (f x).name ≡ g x) → (xs : List X) → names_of (map f xs) ≡ map g xs
names_map f g same [] = refl
names_map f g same (x ∷ xs) = ap₂ (λ (n : List ℕ) (ns : List (List ℕ)). n ∷ ns) (same x) (names_map f g same xs)

-- ---- names with those before them

with_none : (earlier names : List (List ℕ)) → AreApart names → ((x : List ℕ) → Has names x → Has earlier x → ⊥) → Each (λ (q : List (List ℕ) × List ℕ). ¬ Contains q.0 q.1) (with_earlier earlier names)
with_none earlier [] apart fresh = tt
with_none earlier (name ∷ names) apart fresh = (
  (λ c. fresh name (inl refl) (has_of earlier name c)),
  with_none (earlier ++ (name ∷ [])) names apart.1
      (λ x here there. ⊎_elim (λ before. fresh x (inr here) before) (λ own. ⊎_elim (λ e. apart.0 (subst (Has names) (sym e) here)) (λ none. none) own) (has_either earlier (name ∷ []) x there)),
)

differ : (a b : ℕ) → a ≡ b → nat_eq a b ≡ false → ⊥
differ a b e f = false≢true (sym f ∙ eq-eqb a b e)

power_same : (j k : ℕ) → 2 ^ j ≡ 2 ^ k → j ≡ k
power_same j k e = ⊎_elim (λ same. same) (λ o. ⊎_elim (λ l. absurd (omega (arith, pow-lt l, e))) (λ l. absurd (omega (arith, pow-lt l, e))) o) (cases_order j k)

module _ (p : Program) (formed : IsWellFormed p) (distinct : HasDistinctNames p) (end : Going) (few : length end.keys ≤ 2 ^ 64) (ordered : IsOrdered p end.keys)
    (items_many : length end.sym.items ≡ length p.items) (items_below : (i : ℕ) → i < length p.items → IsBelow p (length end.keys) (slice_index_or end.sym.items i nothing))
    (puts : ArePuts p formed (length end.keys) end.sym.writes) (puts_deep : Each (λ (w : Write). array_depth p w.array ≡ 2 ^ flat_width p end.keys w.index) end.sym.writes) where
  abbrev m : ModuleTree
  m = module_at p end

  abbrev wires : List Item
  wires = wire_items 0 end.keys

  abbrev decls : List Declared
  decls = record { name = clock_name; sort = Clock } ∷ (map input_of p.pins ++ (map reg_of p.items ++ (map store_of p.arrays ++ map net_of wires)))

  declares_is : declares m ≡ decls
  declares_is =
      let last = trees.Always clock_name (actions p end.sym) ∷ [] in
      let middle = trees.Initial (first_settings p.items p.first) ∷ (wires_from p 0 end.keys ++ last) in
      ap (λ (ds : List Declared). record { name = clock_name; sort = Clock } ∷ (map input_of p.pins ++ ds))
      (declares_regs p.items (array_members p.arrays ++ middle)
      ∙ ap (λ (ds : List Declared). map reg_of p.items ++ ds) (declares_arrays p.arrays middle
      ∙ ap (λ (ds : List Declared). map store_of p.arrays ++ ds) (declares_wires p 0 end.keys last ∙ append-nil (map net_of wires))))

  abbrev all_names : List (List ℕ)
  all_names = clock_name ∷ (item_names p.pins ++ (item_names p.items ++ (array_names p.arrays ++ item_names wires)))

  names_is : names_of decls ≡ all_names
  names_is =
      ap (λ (ns : List (List ℕ)). clock_name ∷ ns)
      (names_join (map input_of p.pins) (map reg_of p.items ++ (map store_of p.arrays ++ map net_of wires))
      ∙ ap₂ (λ (xs ys : List (List ℕ)). xs ++ ys) (names_map input_of (λ (item : Item). item.name) (λ x. refl) p.pins)
      (names_join (map reg_of p.items) (map store_of p.arrays ++ map net_of wires)
      ∙ ap₂ (λ (xs ys : List (List ℕ)). xs ++ ys) (names_map reg_of (λ (item : Item). item.name) (λ x. refl) p.items)
      (names_join (map store_of p.arrays) (map net_of wires)
      ∙ ap₂ (λ (xs ys : List (List ℕ)). xs ++ ys) (names_map store_of (λ (array : ArrayItem). array.name) (λ x. refl) p.arrays) (names_map net_of (λ (item : Item). item.name) (λ x. refl) wires))))

  no_clock : (x : List ℕ) → IsFreeName x → clock_name ≡ x → ⊥
  no_clock x free e = free.no_clock (sym e)

  wire_no_clock : (x : List ℕ) → Has (item_names wires) x → clock_name ≡ x → ⊥
  wire_no_clock x has e = let r = has_wire 0 end.keys x has in let same : wire_name r.0 ≡ clock_name = r.3 ∙ sym e in
      differ (slice_index (wire_name r.0) 0) (slice_index clock_name 0) (ap (λ (xs : List ℕ). slice_index xs 0) same) refl

  all_apart : AreApart all_names
  all_apart = (
    (λ has. ⊎_elim (λ pin. no_clock clock_name (pins_free p formed distinct end.keys few clock_name pin) refl)
        (λ h. ⊎_elim (λ item. no_clock clock_name (items_free p formed distinct end.keys few clock_name item) refl)
        (λ k. ⊎_elim (λ array. no_clock clock_name (arrays_free p formed distinct end.keys few clock_name array) refl) (λ wire. wire_no_clock clock_name wire refl)
        (has_either (array_names p.arrays) (item_names wires) clock_name k))
        (has_either (item_names p.items) (array_names p.arrays ++ item_names wires) clock_name h))
        (has_either (item_names p.pins) (item_names p.items ++ (array_names p.arrays ++ item_names wires)) clock_name has)),
    apart_append (item_names p.pins) (item_names p.items ++ (array_names p.arrays ++ item_names wires)) (pins_apart p formed distinct end.keys few)
        (apart_append (item_names p.items) (array_names p.arrays ++ item_names wires) (items_apart p formed distinct end.keys few)
        (apart_append (array_names p.arrays) (item_names wires) (arrays_apart p formed distinct end.keys few) (wires_apart 0 end.keys (omega (arith, few)))
        (λ x here there. no_wires p formed distinct end.keys few x (arrays_free p formed distinct end.keys few x here) there))
        (λ x here there. ⊎_elim (λ array. items_no_arrays p formed distinct end.keys few x here array)
        (λ wire. no_wires p formed distinct end.keys few x (items_free p formed distinct end.keys few x here) wire) (has_either (array_names p.arrays) (item_names wires) x there)))
        (λ x here there. ⊎_elim (λ item. items_no_pins p formed distinct end.keys few x item here)
        (λ h. ⊎_elim (λ array. arrays_no_pins p formed distinct end.keys few x array here) (λ wire. no_wires p formed distinct end.keys few x (pins_free p formed distinct end.keys few x here) wire)
        (has_either (array_names p.arrays) (item_names wires) x h)) (has_either (item_names p.items) (array_names p.arrays ++ item_names wires) x there)),
  )

  decls_apart : AreApart (names_of decls)
  decls_apart = subst AreApart (sym names_is) all_apart

  -- ---- 4: no name is declared twice

  holds4 : (name : List ℕ) → ¬ IsDuplicate m name
  holds4 name d =
      never_first (λ (q : List (List ℕ) × List ℕ). Contains q.0 q.1) (with_earlier [] (names_of (declares m))) (d.0, name)
      (with_none [] (names_of (declares m)) (subst (λ (ds : List Declared). AreApart (names_of ds)) (sym declares_is) decls_apart) (λ x here there. there)) d.1

  -- ---- what each name is

  sort_is : (d : Declared) → IsIn decls d → sort_of m d.name ≡ Some d.sort
  sort_is d h = ap (λ (ds : List Declared). option_map (λ d. d.sort) (find (λ x. bytes_eq x.name d.name) ds)) declares_is ∙ ap (option_map (λ d. d.sort)) (find_in decls d decls_apart h)

  any_item : Item
  any_item = record { name = []; width = 0 }

  any_array : ArrayItem
  any_array = record { name = []; width = 0; depth = 0 }

  sort_named : (name : List ℕ) (d : Declared) → d.name ≡ name → IsIn decls d → sort_of m name ≡ Some d.sort
  sort_named name d e h = subst (λ (n : List ℕ). sort_of m n ≡ Some d.sort) e (sort_is d h)

  clock_sort : sort_of m clock_name ≡ Some Clock
  unfolding IsIn
  clock_sort = sort_is (record { name = clock_name; sort = Clock }) (inl refl)

  pin_sort : (i : ℕ) → i < length p.pins → sort_of m (pin_name p i) ≡ Some (Input (get_or p.pins i any_item).width)
  unfolding IsIn
  pin_sort i h =
      sort_named (pin_name p i) (input_of (get_or p.pins i any_item)) (sym (get_or-map (λ (item : Item). item.name) p.pins i any_item [] h))
      (inr (in_front (map input_of p.pins) _ _ (in_map input_of p.pins i any_item h)))

  item_sort : (i : ℕ) → i < length p.items → sort_of m (item_name p i) ≡ Some (Register (get_or p.items i any_item).width)
  unfolding IsIn
  item_sort i h =
      sort_named (item_name p i) (reg_of (get_or p.items i any_item)) (sym (get_or-map (λ (item : Item). item.name) p.items i any_item [] h))
      (inr (in_back (map input_of p.pins) _ _ (in_front (map reg_of p.items) _ _ (in_map reg_of p.items i any_item h))))

  array_sort : (i : ℕ) → i < length p.arrays → sort_of m (array_name p i) ≡ Some (Store (get_or p.arrays i any_array).width (get_or p.arrays i any_array).depth)
  unfolding IsIn
  array_sort i h =
      sort_named (array_name p i) (store_of (get_or p.arrays i any_array)) (sym (get_or-map (λ (array : ArrayItem). array.name) p.arrays i any_array [] h))
      (inr (in_back (map input_of p.pins) _ _ (in_back (map reg_of p.items) _ _ (in_front (map store_of p.arrays) _ _ (in_map store_of p.arrays i any_array h)))))

  wire_at : (n : ℕ) (keys : List Key) (k : ℕ) → k < length keys → slice_index_or (item_names (wire_items n keys)) k [] ≡ wire_name (n + k)
  wire_at n [] k h = absurd (omega (arith, h))
  wire_at n (key ∷ keys) zero h = ap wire_name (omega arith)
  wire_at n (key ∷ keys) (suc k) h = wire_at (suc n) keys k (omega (arith, h)) ∙ ap wire_name (omega arith)

  wire_count : (n : ℕ) (keys : List Key) → length (wire_items n keys) ≡ length keys
  wire_count n [] = refl
  wire_count n (key ∷ keys) = omega (arith, wire_count (suc n) keys)

  wire_sort : (k : ℕ) → k < length end.keys → sort_of m (wire_name k) ≡ Some (Net (get_or wires k any_item).width)
  unfolding IsIn
  wire_sort k h =
      let less : k < length wires = omega (arith, h, wire_count 0 end.keys) in
      sort_named (wire_name k) (net_of (get_or wires k any_item))
      (sym (get_or-map (λ (item : Item). item.name) wires k any_item [] less) ∙ wire_at 0 end.keys k h ∙ ap wire_name {x = 0 + k} {y = k} (omega arith))
      (inr (in_back (map input_of p.pins) _ _ (in_back (map reg_of p.items) _ _ (in_back (map store_of p.arrays) _ _ (in_map net_of wires k any_item less)))))

  -- ---- 5 and 6: each name is declared before it is used, and used as what it is

  abbrev IsFine : List (List ℕ) × Use → Type 0
  IsFine q = Has q.0 (used_name q.1) × (is_wrong (sort_of m (used_name q.1)) q.1 ≡ false)

  -- the first n wires, and everything else
  pub record HasFirst (n : ℕ) (declared : List (List ℕ)) : Type 0 where
    pub clock : Has declared clock_name
    pub items : (i : ℕ) → i < length p.items → Has declared (item_name p i)
    pub pins : (i : ℕ) → i < length p.pins → Has declared (pin_name p i)
    pub arrays : (i : ℕ) → i < length p.arrays → Has declared (array_name p i)
    pub wires : (k : ℕ) → k < n → Has declared (wire_name k)

  abbrev AreFine : List (List ℕ) → List Use → Type 0
  AreFine declared us = Each IsFine (map (λ u. (declared, u)) us)

  fine_append : (declared : List (List ℕ)) (us vs : List Use) → AreFine declared us → AreFine declared vs → AreFine declared (us ++ vs)
  fine_append declared [] vs g h = h
  fine_append declared (u ∷ us) vs g h = (g.0, fine_append declared us vs g.1 h)

  fine_flat : (n : ℕ) (declared : List (List ℕ)) (f : Flat) → n ≤ length end.keys → HasFirst n declared → IsBelow p n f → AreFine declared (expr_uses (named p f))
  fine_flat n declared (Fixed w v) less has b = tt
  fine_flat n declared (OfItem i) less has b = ((has.items i b, ap (λ (s : Option Sort). is_wrong s (Read (item_name p i))) (item_sort i b)), tt)
  fine_flat n declared (OfPin i) less has b = ((has.pins i b, ap (λ (s : Option Sort). is_wrong s (Read (pin_name p i))) (pin_sort i b)), tt)
  fine_flat n declared (OfWire k) less has b = ((has.wires k b, ap (λ (s : Option Sort). is_wrong s (Read (wire_name k))) (wire_sort k (omega (arith, less, b)))), tt)

  fine_index : (declared : List (List ℕ)) (a : ℕ) → a < length p.arrays → Has declared (array_name p a) → IsFine (declared, Index (array_name p a))
  fine_index declared a h has = (has, ap (λ (s : Option Sort). is_wrong s (Index (array_name p a))) (array_sort a h))

  -- ends of which the low one is 0 are in order, and inside where the high one is
  is_inside : (width wide high : ℕ) → wide ≡ width → high < wide → not (is_select width high 0) ≡ false
  is_inside width wide high same less = ap not (and_from (nat_le 0 high) (nat_lt high width) (le-leb 0 high (omega arith)) (lt-ltb high width (omega (arith, same, less))))

  fine_lowest : (n : ℕ) (declared : List (List ℕ)) (high : ℕ) (f : Flat) → n ≤ length end.keys → HasFirst n declared → IsBelow p n f → high < flat_width p end.keys f
      → AreFine declared (expr_uses (lowest p high f))
  fine_lowest n declared high (Fixed w v) less has b i = tt
  fine_lowest n declared high (OfItem k) less has b i = (
    (
      has.items k b,
      ap (λ (s : Option Sort). is_wrong s (Select (item_name p k) high 0)) (item_sort k b)
          ∙ is_inside (get_or p.items k any_item).width (item_width p k) high (read_map (λ (item : Item). item.width) p.items k any_item b) i,
    ),
    tt,
  )
  fine_lowest n declared high (OfPin k) less has b i = (
    (
      has.pins k b,
      ap (λ (s : Option Sort). is_wrong s (Select (pin_name p k) high 0)) (pin_sort k b)
          ∙ is_inside (get_or p.pins k any_item).width (pin_width p k) high (read_map (λ (item : Item). item.width) p.pins k any_item b) i,
    ),
    tt,
  )
  fine_lowest n declared high (OfWire k) less has b i = (
    (
      has.wires k b,
      ap (λ (s : Option Sort). is_wrong s (Select (wire_name k) high 0)) (wire_sort k (omega (arith, less, b)))
          ∙ is_inside (get_or wires k any_item).width (slice_index (map (λ (key : Key). key.width) end.keys) k) high (net_width 0 end.keys k (omega (arith, less, b))) i,
    ),
    tt,
  )
    where
      net_width : (from : ℕ) (keys : List Key) (k : ℕ) → k < length keys → slice_index (map (λ (key : Key). key.width) keys) k ≡ (get_or (wire_items from keys) k any_item).width
      net_width from [] k h = absurd (omega (arith, h))
      net_width from (key ∷ keys) zero h = refl
      net_width from (key ∷ keys) (suc k) h = net_width (suc from) keys k (omega (arith, h))

  fine_body : (n : ℕ) (declared : List (List ℕ)) (body : Body) → n ≤ length end.keys → HasFirst n declared → IsBodyBelow p n body → IsIndexed p end.keys body
      → AreFine declared (expr_uses (body_tree p body))
  fine_body n declared (Copied f) less has b i = fine_flat n declared f less has b
  fine_body n declared (Lowest high f) less has b i = fine_lowest n declared high f less has b.2 i
  fine_body n declared (Padded zeros f) less has b i = fine_append declared (expr_uses (named p f)) [] (fine_flat n declared f less has b.1) tt
  fine_body n declared (Inverse f) less has b i = fine_flat n declared f less has b
  fine_body n declared (Load a f) less has b i = (fine_index declared a b.0 (has.arrays a b.0), fine_flat n declared f less has b.1)
  fine_body n declared (Operate op f g) less has b i = fine_append declared (expr_uses (named p f)) (expr_uses (named p g)) (fine_flat n declared f less has b.0) (fine_flat n declared g less has b.1)
  fine_body n declared (Chosen c f g) less has b i =
      fine_append declared (expr_uses (named p c)) (expr_uses (named p f) ++ expr_uses (named p g)) (fine_flat n declared c less has b.0)
      (fine_append declared (expr_uses (named p f)) (expr_uses (named p g)) (fine_flat n declared f less has b.1) (fine_flat n declared g less has b.2))

  abbrev Rest : List MemberTree → List (List ℕ) → Type 0
  Rest rest declared = Each IsFine (uses_in declared rest)

  fine_regs : (items : List Item) (declared : List (List ℕ)) (rest : List MemberTree)
      → ((now : List (List ℕ)) → ((x : List ℕ) → Has declared x → Has now x) → ((x : List ℕ) → Has (item_names items) x → Has now x) → Rest rest now) → Rest (reg_members items ++ rest) declared
  fine_regs [] declared rest go = go declared (λ x h. h) (λ x h. absurd h)
  fine_regs (item ∷ items) declared rest go =
      fine_regs items (declared ++ (item.name ∷ [])) rest
      (λ now more own. go now (λ x h. more x (has_front declared (item.name ∷ []) x h)) (λ x h. ⊎_elim (λ e. more x (has_back declared (item.name ∷ []) x (inl e))) (λ later. own x later) h))

  fine_arrays : (all : List ArrayItem) (declared : List (List ℕ)) (rest : List MemberTree)
      → ((now : List (List ℕ)) → ((x : List ℕ) → Has declared x → Has now x) → ((x : List ℕ) → Has (array_names all) x → Has now x) → Rest rest now) → Rest (array_members all ++ rest) declared
  fine_arrays [] declared rest go = go declared (λ x h. h) (λ x h. absurd h)
  fine_arrays (array ∷ all) declared rest go =
      fine_arrays all (declared ++ (array.name ∷ [])) rest
      (λ now more own. go now (λ x h. more x (has_front declared (array.name ∷ []) x h)) (λ x h. ⊎_elim (λ e. more x (has_back declared (array.name ∷ []) x (inl e))) (λ later. own x later) h))

  first_on : (n : ℕ) (declared now : List (List ℕ)) → ((x : List ℕ) → Has declared x → Has now x) → HasFirst n declared → HasFirst n now
  first_on n declared now more has = record {
    clock = more clock_name has.clock;
    items = λ i h. more (item_name p i) (has.items i h);
    pins = λ i h. more (pin_name p i) (has.pins i h);
    arrays = λ i h. more (array_name p i) (has.arrays i h);
    wires = λ k h. more (wire_name k) (has.wires k h);
  }

  one_more : (n : ℕ) (declared : List (List ℕ)) → HasFirst n declared → HasFirst (suc n) (declared ++ (wire_name n ∷ []))
  one_more n declared has =
      let on = first_on n declared (declared ++ (wire_name n ∷ [])) (λ x h. has_front declared (wire_name n ∷ []) x h) has in
      record {
        clock = on.clock;
        items = on.items;
        pins = on.pins;
        arrays = on.arrays;
        wires = λ k h. ⊎_elim (λ less. on.wires k less) (λ ge. (let same : n ≡ k = omega (arith, ge, h) in has_back declared (wire_name n ∷ []) (wire_name k) (inl (ap wire_name same)))) (cases_lt k n);
      }

  fine_wires : (n : ℕ) (keys : List Key) (declared : List (List ℕ)) (rest : List MemberTree) → n + length keys ≤ length end.keys → HasFirst n declared
      → ((k : ℕ) (key : Key) → slice_get keys k ≡ Some key → IsBodyBelow p (n + k) key.body × IsIndexed p end.keys key.body)
      → ((now : List (List ℕ)) → HasFirst (n + length keys) now → Rest rest now) → Rest (wires_from p n keys ++ rest) declared
  fine_wires n [] declared rest less has low go = go declared (subst (λ (k : ℕ). HasFirst k declared) {x = n} {y = n + 0} (omega arith) has)
  fine_wires n (key ∷ keys) declared rest less has low go =
      let here = low zero key refl in
      let low0 : IsBodyBelow p n key.body = subst (λ (k : ℕ). IsBodyBelow p k key.body) {x = n + 0} {y = n} (omega arith) here.0 in
      each_append IsFine (map (λ u. (declared, u)) (expr_uses (body_tree p key.body))) (uses_in (declared ++ (wire_name n ∷ [])) (wires_from p (suc n) keys ++ rest))
      (fine_body n declared key.body (omega (arith, less)) has low0 here.1)
      (fine_wires (suc n) keys (declared ++ (wire_name n ∷ [])) rest (omega (arith, less)) (one_more n declared has)
      (λ k x e. (let r = low (suc k) x e in (subst (λ (j : ℕ). IsBodyBelow p j x.body) {x = n + suc k} {y = suc n + k} (omega arith) r.0, r.1)))
      (λ now h. go now (subst (λ (k : ℕ). HasFirst k now) {x = suc n + length keys} {y = n + length (key ∷ keys)} (omega arith) h)))

  fine_starts : (declared : List (List ℕ)) (items : List Item) (first : List ℕ) → ((x : List ℕ) → Has (item_names items) x → Has declared x × (is_wrong (sort_of m x) (Start x) ≡ false))
      → AreFine declared (map (λ s. Start s.name) (first_settings items first))
  fine_starts declared [] first ok = tt
  fine_starts declared (item ∷ items) [] ok = tt
  fine_starts declared (item ∷ items) (v ∷ first) ok = (ok item.name (inl refl), fine_starts declared items first (λ x h. ok x (inr h)))

  item_starts : (x : List ℕ) → Has (item_names p.items) x → is_wrong (sort_of m x) (Start x) ≡ false
  item_starts x has =
      let r = has_place (item_names p.items) x has in
      let h : r.0 < length p.items = omega (arith, r.1, length-map p.items (λ (item : Item). item.name)) in
      subst (λ (n : List ℕ). is_wrong (sort_of m n) (Start n) ≡ false) r.2 (ap (λ (s : Option Sort). is_wrong s (Start (item_name p r.0))) (item_sort r.0 h))

  fine_sets : (n from : ℕ) (fs : List Flat) (declared : List (List ℕ)) (rest : ActionTrees) → n ≤ length end.keys → HasFirst n declared → from + length fs ≤ length p.items
      → ((i : ℕ) → i < length fs → IsBelow p n (slice_index_or fs i nothing)) → AreFine declared (action_uses rest) → AreFine declared (action_uses (set_items p from fs rest))
  fine_sets n from [] declared rest less has many low h = h
  fine_sets n from (f ∷ fs) declared rest less has many low h =
      let here : from < length p.items = omega (arith, many) in (
        (has.items from here, ap (λ (s : Option Sort). is_wrong s (Assign (item_name p from))) (item_sort from here)),
        fine_append declared (expr_uses (named p f)) (action_uses (set_items p (suc from) fs rest)) (fine_flat n declared f less has (low zero (omega arith)))
            (fine_sets n (suc from) fs declared rest less has (omega (arith, many)) (λ i k. low (suc i) (omega (arith, k))) h),
      )

  fine_put : (n : ℕ) (w : Write) (declared : List (List ℕ)) (rest : ActionTrees) → n ≤ length end.keys → HasFirst n declared → (w.array < length p.arrays) × IsBelow p n w.guard × IsBelow p n w.index × IsBelow p n w.value
      → AreFine declared (action_uses rest) → AreFine declared (action_uses (put_cell p w rest))
  fine_put n w declared rest less has b h =
      fine_append declared (expr_uses (named p w.guard)) _ (fine_flat n declared w.guard less has b.1)
      (fine_append declared (action_uses (trees.Put (array_name p w.array) (named p w.index) (named p w.value) trees.Done)) (action_uses rest) (
        fine_index declared w.array b.0 (has.arrays w.array b.0),
        fine_append declared (expr_uses (named p w.index)) (expr_uses (named p w.value) ++ []) (fine_flat n declared w.index less has b.2)
            (fine_append declared (expr_uses (named p w.value)) [] (fine_flat n declared w.value less has b.3) tt),
      ) h)

  fine_puts : (n : ℕ) (ws : List Write) (declared : List (List ℕ)) (rest : ActionTrees) → n ≤ length end.keys → HasFirst n declared → ArePuts p formed n ws
      → AreFine declared (action_uses rest) → AreFine declared (action_uses (put_cells p ws rest))
  fine_puts n [] declared rest less has b h = h
  fine_puts n (w ∷ ws) declared rest less has b h = fine_puts n ws declared (put_cell p w rest) less has b.1 (fine_put n w declared rest less has b.0 h)

  fine_always : (declared : List (List ℕ)) → HasFirst (length end.keys) declared → Rest (trees.Always clock_name (actions p end.sym) ∷ []) declared
  fine_always declared has =
      each_append IsFine (map (λ u. (declared, u)) (Edge clock_name ∷ action_uses (actions p end.sym))) [] (
        (has.clock, ap (λ (s : Option Sort). is_wrong s (Edge clock_name)) clock_sort),
        fine_sets (length end.keys) 0 end.sym.items declared (put_cells p end.sym.writes trees.Done) (omega arith) has (omega (arith, items_many)) (λ i h. items_below i (omega (arith, items_many, h)))
            (fine_puts (length end.keys) end.sym.writes declared trees.Done (omega arith) has puts tt),
      ) tt

  fine_all : Each IsFine (uses m)
  fine_all =
      fine_regs p.items (names_of (head_declares m)) _ (λ after_items from_head own_items.
      fine_arrays p.arrays after_items _ (λ after_arrays from_items own_arrays.
      (let in_items : (x : List ℕ) → Has (item_names p.items) x → Has after_arrays x = λ x h. from_items x (own_items x h) in
      let in_head : (x : List ℕ) → Has (names_of (head_declares m)) x → Has after_arrays x = λ x h. from_items x (from_head x h) in
      let has : HasFirst 0 after_arrays = record {
        clock = in_head clock_name (inl refl);
        items = λ i h. in_items (item_name p i) (has_at (λ (item : Item). item.name) p.items i h);
        pins = λ i h. in_head (pin_name p i) (inr (subst (λ (ns : List (List ℕ)). Has ns (pin_name p i)) (sym (names_map input_of (λ (item : Item). item.name) (λ x. refl) p.pins)) (has_at (λ (item : Item). item.name) p.pins i h)));
        arrays = λ i h. own_arrays (array_name p i) (has_at (λ (array : ArrayItem). array.name) p.arrays i h);
        wires = λ k h. absurd (omega (arith, h));
      } in
      each_append IsFine (map (λ u. (after_arrays, u)) (map (λ s. Start s.name) (first_settings p.items p.first))) _
      (fine_starts after_arrays p.items p.first (λ x h. (in_items x h, item_starts x h)))
      (fine_wires 0 end.keys (after_arrays ++ []) _ (omega arith) (first_on 0 after_arrays (after_arrays ++ []) (λ x h. has_front after_arrays [] x h) has)
      (λ k key e. (let is = ordered k key e in (subst (λ (n : ℕ). IsBodyBelow p n key.body) {x = k} {y = 0 + k} (omega arith) is.below, is.indexed)))
      (λ now h. fine_always now (subst (λ (n : ℕ). HasFirst n now) {x = 0 + length end.keys} {y = length end.keys} (omega arith) h))))))

  holds5 : (name : List ℕ) → ¬ IsUndeclared m name
  holds5 name d =
      never_first (λ (q : List (List ℕ) × Use). ¬ Contains q.0 (used_name q.1)) (uses m) d.0
      (each_weaker IsFine (λ (q : List (List ℕ) × Use). ¬ (¬ Contains q.0 (used_name q.1))) (λ q fine none. none (contains q.0 (used_name q.1) fine.0)) (uses m) fine_all) d.1

  holds6 : (name : List ℕ) → ¬ IsWrongUse m name
  holds6 name d =
      never_first (λ (q : List (List ℕ) × Use). is_wrong (sort_of m (used_name q.1)) q.1 ≡ true) (uses m) d.0
      (each_weaker IsFine (λ (q : List (List ℕ) × Use). ¬ (is_wrong (sort_of m (used_name q.1)) q.1 ≡ true)) (λ q fine wrong. false≢true (sym fine.1 ∙ wrong)) (uses m) fine_all) d.1

  -- ---- 7: each reg has one first value, and nothing else has one

  abbrev IsGood : FirstEvent → Type 0
  IsGood e = ¬ IsNoFirst m e

  setting_names : (items : List Item) (first : List ℕ) → length first ≡ length items → map (λ s. s.name) (first_settings items first) ≡ item_names items
  setting_names [] first many = refl
  setting_names (item ∷ items) [] many = absurd (omega (arith, many))
  setting_names (item ∷ items) (v ∷ first) many = ap (λ (ns : List (List ℕ)). item.name ∷ ns) (setting_names items first (omega (arith, many)))

  given_names : map (λ s. s.name) (settings m.members) ≡ item_names p.items
  given_names = ap (map (λ s. s.name)) (settings_is p end) ∙ setting_names p.items p.first formed.first.count

  good_regs : (items : List Item) (rest : List MemberTree) → ((x : List ℕ) → Has (item_names items) x → Has (item_names p.items) x) → Each IsGood (events_in [] rest) → Each IsGood (events_in [] (reg_members items ++ rest))
  good_regs [] rest ok h = h
  good_regs (item ∷ items) rest ok h = (
    (λ none. none (subst (λ (ns : List (List ℕ)). Contains ns item.name) (sym given_names) (contains (item_names p.items) item.name (ok item.name (inl refl))))),
    good_regs items rest (λ x k. ok x (inr k)) h,
  )

  good_arrays : (all : List ArrayItem) (rest : List MemberTree) → Each IsGood (events_in [] rest) → Each IsGood (events_in [] (array_members all ++ rest))
  good_arrays [] rest h = h
  good_arrays (array ∷ all) rest h = good_arrays all rest h

  good_given : (earlier : List (List ℕ)) (items : List Item) (first : List ℕ) → ((x : List ℕ) → Has (item_names items) x → Has (item_names p.items) x) → AreApart (item_names items)
      → ((x : List ℕ) → Has (item_names items) x → Has earlier x → ⊥) → Each IsGood (given earlier (first_settings items first))
  good_given earlier [] first ok apart fresh = tt
  good_given earlier (item ∷ items) [] ok apart fresh = tt
  good_given earlier (item ∷ items) (v ∷ first) ok apart fresh = (
    (λ bad. ⊎_elim (λ none. none (subst (λ (xs : List Item). Contains (item_names xs) item.name) (sym (regs_is p end)) (contains (item_names p.items) item.name (ok item.name (inl refl)))))
        (λ c. fresh item.name (inl refl) (has_of earlier item.name c)) bad),
    good_given (earlier ++ (item.name ∷ [])) items first (λ x h. ok x (inr h)) apart.1
        (λ x here there. ⊎_elim (λ before. fresh x (inr here) before) (λ own. ⊎_elim (λ e. apart.0 (subst (Has (item_names items)) (sym e) here)) (λ none. none) own) (has_either earlier (item.name ∷ []) x there)),
  )

  no_events : (n : ℕ) (keys : List Key) (earlier : List (List ℕ)) → events_in earlier (wires_from p n keys ++ (trees.Always clock_name (actions p end.sym) ∷ [])) ≡ []
  no_events n [] earlier = refl
  no_events n (key ∷ keys) earlier = no_events (suc n) keys earlier

  good_all : Each IsGood (events_in [] m.members)
  good_all =
      good_regs p.items _ (λ x h. h) (good_arrays p.arrays _
      (each_append IsGood (given [] (first_settings p.items p.first)) _
      (good_given [] p.items p.first (λ x h. h) (items_apart p formed distinct end.keys few) (λ x here there. there))
      (subst (Each IsGood) (sym (no_events 0 end.keys _)) tt)))

  holds7 : (name : List ℕ) → ¬ IsUnset m name
  holds7 name d = never_first (IsNoFirst m) (events_in [] m.members) d.0 good_all d.1

  -- ---- 8: each index is as wide as the depth needs

  wide_flat : (f : Flat) → IsBelow p (length end.keys) f → v_width (widths_of m) (named p f) ≡ flat_width p end.keys f
  wide_flat (Fixed w v) b = refl
  wide_flat (OfItem i) b = item_wide_is p formed distinct end few i b
  wide_flat (OfPin i) b = pin_wide_is p formed distinct end few i b
  wide_flat (OfWire k) b = key_wide end.keys k b (λ key e. wire_wide_is p formed distinct end few k key e)
    where
      key_wide : (keys : List Key) (k : ℕ) → k < length keys → ((key : Key) → slice_get keys k ≡ Some key → (widths_of m).wide (wire_name k) ≡ key.width) → (widths_of m).wide (wire_name k) ≡ slice_index (map (λ key. key.width) keys) k
      key_wide keys k h is = go (slice_get keys k) refl
        where
          go : (o : Option Key) → slice_get keys k ≡ o → (widths_of m).wide (wire_name k) ≡ slice_index (map (λ key. key.width) keys) k
          go None e = absurd (let d : Key = record { width = 0; body = Copied (Fixed 0 0) } in let f = slice_get-get_or keys k d h in cc)
          go (Some key) e = is key e ∙ sym (get_or_from_slice_get (map (λ (key : Key). key.width) keys) k key.width 0 (slice_get-map (λ (key : Key). key.width) keys k ∙ ap (option_map (λ (key : Key). key.width)) e))

  abbrev IsRight : List ℕ × VTree → Type 0
  IsRight q = ¬ ((k : ℕ) × NeedsWidth m q k)

  right_index : (a : ℕ) (f : Flat) → a < length p.arrays → IsBelow p (length end.keys) f → array_depth p a ≡ 2 ^ flat_width p end.keys f → IsRight (array_name p a, named p f)
  right_index a f h b deep bad =
      let same : Some (Store (get_or p.arrays a any_array).width (get_or p.arrays a any_array).depth) ≡ Some (Store bad.1.0 (2 ^ bad.0)) = sym (array_sort a h) ∙ bad.1.1 in
      let depth : (get_or p.arrays a any_array).depth ≡ 2 ^ bad.0 = depth_of same in
      bad.1.2 (wide_flat f b ∙ power_same (flat_width p end.keys f) bad.0 (sym deep ∙ read_map (λ (array : ArrayItem). array.depth) p.arrays a any_array h ∙ depth))
    where
      depth_of : {v w d e : ℕ} → Some (Store v d) ≡ Some (Store w e) → d ≡ e
      depth_of e = cc

  no_indexes : (f : Flat) → expr_indexes (named p f) ≡ []
  no_indexes (Fixed w v) = refl
  no_indexes (OfItem i) = refl
  no_indexes (OfPin i) = refl
  no_indexes (OfWire k) = refl

  right_none : (f : Flat) (rest : List (List ℕ × VTree)) → Each IsRight rest → Each IsRight (expr_indexes (named p f) ++ rest)
  right_none f rest h = subst (λ (xs : List (List ℕ × VTree)). Each IsRight (xs ++ rest)) (sym (no_indexes f)) h

  right_alone : (f : Flat) → Each IsRight (expr_indexes (named p f))
  right_alone f = subst (Each IsRight) (sym (no_indexes f)) tt

  right_lowest : (high : ℕ) (f : Flat) → Each IsRight (expr_indexes (lowest p high f))
  right_lowest high (Fixed w v) = tt
  right_lowest high (OfItem i) = tt
  right_lowest high (OfPin i) = tt
  right_lowest high (OfWire k) = tt

  right_body : (n : ℕ) (body : Body) → n ≤ length end.keys → IsBodyBelow p n body → IsIndexed p end.keys body → Each IsRight (expr_indexes (body_tree p body))
  right_body n (Copied f) less b i = right_alone f
  right_body n (Lowest high f) less b i = right_lowest high f
  right_body n (Padded zeros f) less b i = right_none f [] tt
  right_body n (Inverse f) less b i = right_alone f
  right_body n (Load a f) less b i = (right_index a f b.0 (below_on p n (length end.keys) f less b.1) i, right_alone f)
  right_body n (Operate op f g) less b i = right_none f (expr_indexes (named p g)) (right_alone g)
  right_body n (Chosen c f g) less b i = right_none c (expr_indexes (named p f) ++ expr_indexes (named p g)) (right_none f (expr_indexes (named p g)) (right_alone g))

  right_regs : (items : List Item) (rest : List MemberTree) → Each IsRight (flat_map member_indexes rest) → Each IsRight (flat_map member_indexes (reg_members items ++ rest))
  right_regs [] rest h = h
  right_regs (item ∷ items) rest h = right_regs items rest h

  right_arrays : (all : List ArrayItem) (rest : List MemberTree) → Each IsRight (flat_map member_indexes rest) → Each IsRight (flat_map member_indexes (array_members all ++ rest))
  right_arrays [] rest h = h
  right_arrays (array ∷ all) rest h = right_arrays all rest h

  right_wires : (n : ℕ) (keys : List Key) (rest : List MemberTree) → n + length keys ≤ length end.keys
      → ((k : ℕ) (key : Key) → slice_get keys k ≡ Some key → IsBodyBelow p (n + k) key.body × IsIndexed p end.keys key.body)
      → Each IsRight (flat_map member_indexes rest) → Each IsRight (flat_map member_indexes (wires_from p n keys ++ rest))
  right_wires n [] rest less ok h = h
  right_wires n (key ∷ keys) rest less ok h =
      let here = ok zero key refl in
      each_append IsRight (expr_indexes (body_tree p key.body)) (flat_map member_indexes (wires_from p (suc n) keys ++ rest))
      (right_body (n + 0) key.body (omega (arith, less)) here.0 here.1)
      (right_wires (suc n) keys rest (omega (arith, less)) (λ k x e. (let r = ok (suc k) x e in (subst (λ (j : ℕ). IsBodyBelow p j x.body) {x = n + suc k} {y = suc n + k} (omega arith) r.0, r.1))) h)

  right_sets : (from : ℕ) (fs : List Flat) (rest : ActionTrees) → Each IsRight (action_indexes rest) → Each IsRight (action_indexes (set_items p from fs rest))
  right_sets from [] rest h = h
  right_sets from (f ∷ fs) rest h = right_none f (action_indexes (set_items p (suc from) fs rest)) (right_sets (suc from) fs rest h)

  right_puts : (ws : List Write) (rest : ActionTrees) → ArePuts p formed (length end.keys) ws → Each (λ (w : Write). array_depth p w.array ≡ 2 ^ flat_width p end.keys w.index) ws
      → Each IsRight (action_indexes rest) → Each IsRight (action_indexes (put_cells p ws rest))
  right_puts [] rest b deep h = h
  right_puts (w ∷ ws) rest b deep h =
      right_puts ws (put_cell p w rest) b.1 deep.1
      (right_none w.guard _ (each_append IsRight (action_indexes (trees.Put (array_name p w.array) (named p w.index) (named p w.value) trees.Done)) (action_indexes rest)
      (right_index w.array w.index b.0.0 b.0.2 deep.0, right_none w.index _ (right_none w.value [] tt)) h))

  right_all : Each IsRight (flat_map member_indexes m.members)
  right_all =
      right_regs p.items _ (right_arrays p.arrays _
      (right_wires 0 end.keys (trees.Always clock_name (actions p end.sym) ∷ []) (omega arith)
      (λ k key e. (let is = ordered k key e in (subst (λ (n : ℕ). IsBodyBelow p n key.body) {x = k} {y = 0 + k} (omega arith) is.below, is.indexed)))
      (subst (Each IsRight) (sym (append-nil (action_indexes (actions p end.sym)))) (right_sets 0 end.sym.items (put_cells p end.sym.writes trees.Done) (right_puts end.sym.writes trees.Done puts puts_deep tt)))))

  holds8 : (name : List ℕ) (width needed : ℕ) → ¬ IsMisindexed m name width needed
  holds8 name width needed d = never_first (λ (q : List ℕ × VTree). (k : ℕ) × NeedsWidth m q k) (flat_map member_indexes m.members) (name, d.0) right_all d.1

  -- ---- 9: nothing is wider than 64 bits

  below_64 : (f : Flat) → IsBelow p (length end.keys) f → v_width (widths_of m) (named p f) ≤ 64
  below_64 (Fixed w v) b = b.0.1
  below_64 (OfItem i) b = omega (arith, wide_flat (OfItem i) b, (item_small p formed i b).1)
  below_64 (OfPin i) b = omega (arith, wide_flat (OfPin i) b, (pin_small p formed i b).1)
  below_64 (OfWire k) b = go (slice_get end.keys k) refl
    where
      go : (o : Option Key) → slice_get end.keys k ≡ o → (widths_of m).wide (wire_name k) ≤ 64
      go None e = absurd (let d : Key = record { width = 0; body = Copied (Fixed 0 0) } in let f = slice_get-get_or end.keys k d b in cc)
      go (Some key) e = omega (arith, wire_wide_is p formed distinct end few k key e, (ordered k key e).small.1)

  narrow_flat : (f : Flat) → IsBelow p (length end.keys) f → IsNarrow (widths_of m) (named p f)
  narrow_flat (Fixed w v) b = below_64 (Fixed w v) b
  narrow_flat (OfItem i) b = below_64 (OfItem i) b
  narrow_flat (OfPin i) b = below_64 (OfPin i) b
  narrow_flat (OfWire k) b = below_64 (OfWire k) b

  two_most : (op : TwoOp) (a b : ℕ) → a ≤ 64 → b ≤ 64 → values.two_width (operator_of op) a b ≤ 64
  two_most ops.Add a b h k = omega (arith, h, k)
  two_most ops.Sub a b h k = omega (arith, h, k)
  two_most ops.Mul a b h k = omega (arith, h, k)
  two_most ops.And a b h k = omega (arith, h, k)
  two_most ops.Or a b h k = omega (arith, h, k)
  two_most ops.Xor a b h k = omega (arith, h, k)
  two_most ops.Shl a b h k = h
  two_most ops.Shr a b h k = h
  two_most ops.Equal a b h k = omega arith
  two_most ops.Less a b h k = omega arith

  narrow_lowest : (high : ℕ) (f : Flat) → high < 64 → IsBelow p (length end.keys) f → IsNarrow (widths_of m) (lowest p high f)
  narrow_lowest high (Fixed w v) h b = below_64 (Fixed w v) b
  narrow_lowest high (OfItem i) h b = omega (arith, h)
  narrow_lowest high (OfPin i) h b = omega (arith, h)
  narrow_lowest high (OfWire k) h b = omega (arith, h)

  narrow_body : (body : Body) → IsBodyBelow p (length end.keys) body → IsIndexed p end.keys body → IsNarrow (widths_of m) (body_tree p body)
  narrow_body (Copied f) b i = narrow_flat f b
  narrow_body (Lowest high f) b i = narrow_lowest high f b.0 b.2
  narrow_body (Padded zeros f) b i = (omega (arith, i, wide_flat f b.1), (b.0.1, (narrow_flat f b.1, tt)))
  narrow_body (Inverse f) b i = (below_64 f b, narrow_flat f b)
  narrow_body (Load a f) b i = (omega (arith, array_wide_is p formed distinct end few a b.0, (array_small p formed a b.0).1), narrow_flat f b.1)
  narrow_body (Operate op f g) b i = (two_most op _ _ (below_64 f b.0) (below_64 g b.1), narrow_flat f b.0, narrow_flat g b.1)
  narrow_body (Chosen c f g) b i = (omega (arith, below_64 f b.1, below_64 g b.2), narrow_flat c b.0, narrow_flat f b.1, narrow_flat g b.2)

  narrow_sets : (from : ℕ) (fs : List Flat) (rest : ActionTrees) → ((i : ℕ) → i < length fs → IsBelow p (length end.keys) (slice_index_or fs i nothing)) → AreNarrowActions (widths_of m) rest
      → AreNarrowActions (widths_of m) (set_items p from fs rest)
  narrow_sets from [] rest low h = h
  narrow_sets from (f ∷ fs) rest low h = (narrow_flat f (low zero (omega arith)), narrow_sets (suc from) fs rest (λ i k. low (suc i) (omega (arith, k))) h)

  narrow_puts : (ws : List Write) (rest : ActionTrees) → ArePuts p formed (length end.keys) ws → AreNarrowActions (widths_of m) rest → AreNarrowActions (widths_of m) (put_cells p ws rest)
  narrow_puts [] rest b h = h
  narrow_puts (w ∷ ws) rest b h = narrow_puts ws (put_cell p w rest) b.1 (narrow_flat w.guard b.0.1, (narrow_flat w.index b.0.2, narrow_flat w.value b.0.3, tt), tt, h)

  small_wires : (n : ℕ) (keys : List Key) (rest : List MemberTree) → ((k : ℕ) (key : Key) → slice_get keys k ≡ Some key → IsBodyBelow p (length end.keys) key.body × (key.width ≤ 64) × IsIndexed p end.keys key.body)
      → Each (IsSmall (widths_of m)) rest → Each (IsSmall (widths_of m)) (wires_from p n keys ++ rest)
  small_wires n [] rest ok h = h
  small_wires n (key ∷ keys) rest ok h =
      let here = ok zero key refl in ((here.1, narrow_body key.body here.0 here.2), small_wires (suc n) keys rest (λ k x e. ok (suc k) x e) h)

  body_below : (k n : ℕ) (body : Body) → k ≤ n → IsBodyBelow p k body → IsBodyBelow p n body
  body_below k n (Copied f) h b = below_on p k n f h b
  body_below k n (Lowest high f) h b = (b.0, b.1, below_on p k n f h b.2)
  body_below k n (Padded zeros f) h b = (b.0, below_on p k n f h b.1)
  body_below k n (Inverse f) h b = below_on p k n f h b
  body_below k n (Load a f) h b = (b.0, below_on p k n f h b.1)
  body_below k n (Operate op f g) h b = (below_on p k n f h b.0, below_on p k n g h b.1)
  body_below k n (Chosen c f g) h b = (below_on p k n c h b.0, below_on p k n f h b.1, below_on p k n g h b.2)

  small_all : Each (IsSmall (widths_of m)) m.members
  small_all =
      each_append (IsSmall (widths_of m)) (reg_members p.items) _ (each_map (IsSmall (widths_of m)) trees.Reg p.items (each_of (λ (item : Item). item.width ≤ 64) p.items (λ k d h. (formed.items k d h).1.1)))
      (each_append (IsSmall (widths_of m)) (array_members p.arrays) _ (each_map (IsSmall (widths_of m)) trees.Array p.arrays (each_of (λ (array : ArrayItem). array.width ≤ 64) p.arrays (λ k d h. (formed.arrays k d h).1.1))) (
        tt,
        small_wires 0 end.keys (trees.Always clock_name (actions p end.sym) ∷ [])
            (λ k key e. (let is = ordered k key e in (body_below k (length end.keys) key.body (omega (arith, slice_get_within end.keys k key e)) is.below, is.small.1, is.indexed)))
            (narrow_sets 0 end.sym.items (put_cells p end.sym.writes trees.Done) (λ i h. items_below i (omega (arith, items_many, h))) (narrow_puts end.sym.writes trees.Done puts tt), tt),
      ))

  -- ---- 10: no reg is assigned in two blocks

  holds10 : (name : List ℕ) → ¬ IsDrivenTwice m name
  holds10 name d =
      never_first (λ (q : List (List ℕ) × List ℕ). Contains q.0 q.1) (driven [] (blocks m.members)) (d.0, name)
      (subst (λ (bs : List ActionTrees). Each (λ (q : List (List ℕ) × List ℕ). ¬ Contains q.0 q.1) (driven [] bs)) (sym (blocks_is p end)) (one_block (targets (actions p end.sym)))) d.1
    where
      one_block : (names : List (List ℕ)) → Each (λ (q : List (List ℕ) × List ℕ). ¬ Contains q.0 q.1) (map (λ name. ([], name)) names ++ [])
      one_block [] = tt
      one_block (name ∷ names) = ((λ c. absurd (omega (arith, c.1))), one_block names)

  -- ---- 11: nothing is more than its limit

  holds11 : (what : List ℕ) (count limit : ℕ) → ¬ IsTooMany m what count limit
  holds11 what count limit d =
      never_first IsExcess (counted m) d.0 (
        (λ l. absurd (omega (arith, l, ap (λ (xs : List Item). length xs) (regs_is p end), formed.few_items))),
        (
          (λ l. absurd (omega (arith, l, ap (λ (xs : List ArrayItem). length xs) (arrays_is p end), formed.few_arrays))),
          (
            (λ l. absurd (omega (arith, l, ap (sum_by (λ (array : ArrayItem). array.depth)) (arrays_is p end), formed.few_cells))),
            (
              (λ l. absurd (omega (arith, l, formed.few_pins))),
              subst (λ (xs : List ArrayItem). Each (λ (c : Counted). ¬ IsExcess c) (map (λ array. Depth array.depth) xs)) (sym (arrays_is p end))
                  (each_map (λ (c : Counted). ¬ IsExcess c) (λ array. Depth array.depth) p.arrays (each_of (λ (array : ArrayItem). ¬ (¬ IsDepth array.depth)) p.arrays (λ k d h none. none (formed.arrays k d h).2))),
            ),
          ),
        ),
      ) d.1

  -- ---- all

  pub spelled : VSpells (module_text m) m
  spelled = text_spells p formed end few ordered items_many items_below puts

  pub accepted : VAccepts (module_text m) m
  accepted = record {
    spelling = spelled;
    holds = (((((((holds4, holds5), holds6), holds7), holds8), none_wide spelled.spells (each_of (λ (item : Item). item.width ≤ 64) p.pins (λ k d h. (formed.pins k d h).1.1)) small_all), holds10), holds11);
  }
