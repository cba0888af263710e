-- The states of a program's module are the program's.
use Rattle.std.proofs.Common.{◌≡◌, ℕ, zero, suc, ◌+◌, ◌%◌, ◌^◌, ◌<◌, ◌≤◌, Bool, true, false, List, [], ◌∷◌, ◌++◌, length, map, refl, sym, ap, ap₂, ◌∙◌, subst, arith, nat_eq, cond, not, append_assoc, length-append, None}
use Rattle.std.specs.Prelude.{fold, flat_map, slice_index, slice_index_or, slice_set}
use Rattle.std.proofs.lemmas.List.{append-nil, set_at, length-map, get_or-map}
use Rattle.std.proofs.Math.ListN.{get_or-map as get_or-map_default}
use Rattle.std.proofs.lemmas.List.Elements.{All-head, All-tail}
use Rattle.std.proofs.Math.Nat.{mod-eq_of_lt}
use Rattle.std.proofs.Math.Seq.{get_or-append_seam}
use Rattle.lisa_engine.specs.State.{State}
use Rattle.lisa_engine.specs.Memory.{Memory}
use Rattle.lisa_engine.specs.Shape.{IsFitting, IsShaped, AreEntries}
use Rattle.lisa_engine.specs.Images.{IsImage, missing_memory, first_cells}
use Rattle.lisa_engine.specs.Touches.{set_cell}
use Rattle.lisa_engine.specs.declared.parts.Item.{Item}
use Rattle.lisa_engine.specs.declared.parts.ArrayItem.{ArrayItem}
use Rattle.verilog_text.specs.Trees as trees
use Rattle.verilog_text.specs.Trees.{ActionTrees, SettingTree, MemberTree, ModuleTree}
use Rattle.verilog_text.specs.Values.{Env, self_value, assigned}
use Rattle.verilog_text.specs.Clocked.{regs, arrays, blocks, item_place, array_place, widths_of, edge_env, Update, PutTo, updates, updated, v_edge, first_set, first_items, v_first, v_state}
use Rattle.step_program.specs.Programs.{Program}
use Rattle.step_program.specs.Effects.{item_width, Moment, effect, begun, p_edge, p_first, p_state}
use Rattle.step_program.specs.WellFormed.{IsWellFormed}
use Rattle.step_program.proofs.Fits.{IsWithin, AreWithin, widths, array_widths, array_depths, within_of, cells_within, begun_now, edge_shaped, first_shaped, read_map}
use Rattle.netlist_wires.specs.declared.keys.Flat.{Flat}
use Rattle.netlist_wires.specs.declared.keys.Write.{Write}
use Rattle.netlist_wires.specs.Tables.{IsFind, HasDistinctNames}
use Rattle.netlist_wires.specs.Wiring.{item_name, array_name, Find, nothing, Going, named, begun_going, set_items, put_cell, put_cells, actions, first_settings, ended, built}
use Rattle.netlist_wires.proofs.Operands.{means, wide, at_any, copied}
use Rattle.netlist_wires.proofs.Meanings.{Knows, written, AreWrites, Ends, all_good, begun_good}
use Rattle.netlist_wires.proofs.Members.{regs_is, arrays_is, settings_is, blocks_is}
use Rattle.netlist_wires.proofs.Named.{arrays_apart}
use Rattle.netlist_wires.proofs.Growing.{IsOrdered, all_grown, begun_sound}
use Rattle.netlist_wires.proofs.Knowing.{knows, solves, item_wide_is, array_wide_is, array_place_is, reg_place_is}
use Rattle.verilog_rules.proofs.Apart.{apart_pairs}

module _ (p : Program) (formed : IsWellFormed p) (distinct : HasDistinctNames p) (find : Find) (is_find : IsFind find) (few : length (ended find p).keys ≤ 2 ^ 64) where
  abbrev end : Going
  end = ended find p

  abbrev m : ModuleTree
  m = built find p

  ordered : IsOrdered p end.keys
  ordered = (all_grown p formed find is_find (begun_going p) p.moves (begun_sound p formed find is_find) formed.moves).ordered (λ k key e. absurd (cc))

  -- ---- one edge

  module _ (old : State) (pins : List ℕ) (shape : IsShaped p.items p.arrays old) (fits : IsFitting p.pins pins) where
    items_fit : IsWithin (widths p.items) old.items
    items_fit = within_of p.items old.items shape.values

    pins_fit : IsWithin (widths p.pins) pins
    pins_fit = within_of p.pins pins fits

    cells_fit : AreWithin (array_depths p.arrays) (array_widths p.arrays) old.cells
    cells_fit = cells_within p.arrays old.cells shape.cells

    abbrev e : Env
    e = edge_env m old pins

    known : Knows p old pins e
    known = knows p formed distinct end few old pins shape.values.count fits.count ordered

    abbrev now : Moment
    now = fold (effect p old.items pins) (begun p old) p.moves

    ends : Ends p old pins items_fit pins_fit cells_fit find is_find e known end.sym now
    ends =
        all_good p old pins items_fit pins_fit cells_fit find is_find e known (begun_going p) (begun p old) p.moves
        (begun_good p old pins items_fit pins_fit cells_fit find is_find e known) (begun_now p old shape) formed.moves
        (solves p formed distinct end few old pins shape.values.count fits.count ordered)

    -- ---- the updates of the items

    abbrev with_items : List ℕ → State
    with_items xs = record { items = xs; cells = old.cells }

    set_all : (done xs : List ℕ) (fs : List Flat) (rest : ActionTrees) → length xs ≡ length fs → length done + length fs ≤ length p.items
        → ((i : ℕ) → means p e (slice_index_or fs i nothing) < 2 ^ item_width p (length done + i))
        → fold (updated m) (with_items (done ++ xs)) (updates e (set_items p (length done) fs rest)) ≡ fold (updated m) (with_items (done ++ map (means p e) fs)) (updates e rest)
    set_all done [] [] rest l less low = refl
    set_all done [] (f ∷ fs) rest l less low = absurd (omega (arith, l))
    set_all done (x ∷ xs) [] rest l less low = absurd (omega (arith, l))
    set_all done (x ∷ xs) (f ∷ fs) rest l less low =
        let i = length done in
        let w = item_width p i in
        let v = means p e f in
        let h : i < length p.items = omega (arith, less) in
        let low0 : v < 2 ^ w = subst (λ (n : ℕ). v < 2 ^ item_width p n) {x = i + 0} {y = i} (omega arith) (low zero) in
        let is : assigned e (e.widths.wide (item_name p i)) (named p f) ≡ v =
        copied p e (e.widths.wide (item_name p i)) f ∙ ap (λ (w : ℕ). v % 2 ^ w) (item_wide_is p formed distinct end few i h) ∙ mod-eq_of_lt low0 in
        let next : length (done ++ (v ∷ [])) ≡ suc i = omega (arith, length-append done (v ∷ [])) in
        let lows : (j : ℕ) → means p e (slice_index_or fs j nothing) < 2 ^ item_width p (length (done ++ (v ∷ [])) + j) =
        λ j. subst (λ (n : ℕ). means p e (slice_index_or fs j nothing) < 2 ^ item_width p n) {x = i + suc j} {y = length (done ++ (v ∷ [])) + j} (omega (arith, next)) (low (suc j)) in
        let go = λ (items : List ℕ) (n : ℕ). fold (updated m) (with_items items) (updates e (set_items p n fs rest)) in
        ap₂ (λ (place y : ℕ). go (slice_set (done ++ (x ∷ xs)) place y) (suc i)) (reg_place_is p formed distinct end few i h) is
        ∙ ap₂ go (set_at done x xs v i refl ∙ sym (append_assoc done (v ∷ []) xs)) (sym next)
        ∙ set_all (done ++ (v ∷ [])) xs fs rest (omega (arith, l)) (omega (arith, next, less)) lows
        ∙ ap (λ (items : List ℕ). fold (updated m) (with_items items) (updates e rest)) (append_assoc done (v ∷ []) (map (means p e) fs))

    -- ---- the updates of the cells

    abbrev after : List Write → List (List ℕ)
    after ws = written p old pins items_fit pins_fit cells_fit find is_find e known ws

    put_one : (b : Bool) (items : List ℕ) (cells : List (List ℕ)) (name : List ℕ) (a i v : ℕ) (us : List Update) → array_place (arrays m.members) name ≡ a
        → fold (updated m) (record { items = items; cells = cells }) (cond (not b) (PutTo name i v ∷ []) [] ++ us) ≡ fold (updated m) (record { items = items; cells = cond b cells (set_cell cells a i v) }) us
    put_one true items cells name a i v us is = refl
    put_one false items cells name a i v us is = ap (λ (place : ℕ). fold (updated m) (record { items = items; cells = set_cell cells place i v }) us) is

    put_all : (items : List ℕ) (ws : List Write) (rest : ActionTrees) → AreWrites p old pins items_fit pins_fit cells_fit find is_find e known ws
        → fold (updated m) (record { items = items; cells = old.cells }) (updates e (put_cells p ws rest)) ≡ fold (updated m) (record { items = items; cells = after ws }) (updates e rest)
    put_all items [] rest is = refl
    put_all items (w ∷ ws) rest is =
        let g = self_value e (named p w.guard) in
        let i = self_value e (named p w.index) in
        let v = assigned e (e.widths.cell (array_name p w.array)) (named p w.value) in
        let is_v : v ≡ means p e w.value =
        copied p e (e.widths.cell (array_name p w.array)) w.value ∙ ap (λ (n : ℕ). means p e w.value % 2 ^ n) (array_wide_is p formed distinct end few w.array is.0.array) ∙ mod-eq_of_lt is.0.value in
        put_all items ws (put_cell p w rest) is.1
        ∙ put_one (nat_eq g 0) items (after ws) (array_name p w.array) w.array i v (updates e rest) (array_place_is p formed distinct end few w.array is.0.array)
        ∙ ap (λ (cells : List (List ℕ)). fold (updated m) (record { items = items; cells = cells }) (updates e rest))
        (ap₂ (λ (t : ℕ) (f : List (List ℕ) → List (List ℕ)). cond (nat_eq t 0) (after ws) (f (after ws))) (at_any p e w.guard (wide p e w.guard))
        (ap₂ {C = List (List ℕ) → List (List ℕ)} (λ (i y : ℕ) (cells : List (List ℕ)). set_cell cells w.array i y) (at_any p e w.index (wide p e w.index)) is_v))

    edge_updates : flat_map (updates e) (blocks m.members) ≡ updates e (actions p end.sym)
    edge_updates = ap (flat_map (updates e)) (blocks_is p end) ∙ append-nil (updates e (actions p end.sym))

    at_flat : (fs : List Flat) (i : ℕ) → slice_index (map (means p e) fs) i ≡ means p e (slice_index_or fs i nothing)
    at_flat fs i = get_or-map_default (means p e) fs i nothing

    pub one_edge : v_edge m old pins ≡ p_edge p old pins
    one_edge =
        let st = ends.stands in
        let s = end.sym in
        let many : length s.items ≡ length p.items = sym (length-map s.items (means p e)) ∙ ap (λ (xs : List ℕ). length xs) st.items ∙ ends.is_now.items.many ∙ length-map p.items (λ (item : Item). item.width) in
        let low : (i : ℕ) → means p e (slice_index_or s.items i nothing) < 2 ^ item_width p (0 + i) =
        λ i. subst (λ (n : ℕ). means p e (slice_index_or s.items i nothing) < 2 ^ item_width p n) {x = i} {y = 0 + i} (omega arith)
        (subst (λ (x : ℕ). x < 2 ^ item_width p i) (ap (λ (xs : List ℕ). slice_index xs i) (sym st.items) ∙ at_flat s.items i) (ends.is_now.items.each i)) in
        ap (fold (updated m) old) edge_updates
        ∙ set_all [] old.items s.items (put_cells p s.writes trees.Done) (shape.values.count ∙ sym many) (omega (arith, many)) low
        ∙ put_all (map (means p e) s.items) s.writes trees.Done st.writes
        ∙ ap₂ (λ (items : List ℕ) (cells : List (List ℕ)). (let out : State = record { items = items; cells = cells } in out)) st.items st.cells

  -- ---- many edges

  pub every_edge : (old : State) (entries : List (List ℕ)) → IsShaped p.items p.arrays old → AreEntries p.pins entries → fold (v_edge m) old entries ≡ fold (p_edge p) old entries
  every_edge old [] shape fits = refl
  every_edge old (pins ∷ entries) shape fits =
      let here = All-head (IsFitting p.pins) pins entries fits in
      ap (λ (state : State). fold (v_edge m) state entries) (one_edge old pins shape here)
      ∙ every_edge (p_edge p old pins) entries (edge_shaped p old pins formed shape here) (All-tail (IsFitting p.pins) pins entries fits)

  -- ---- the first state

  first_all : (done : List ℕ) (items : List Item) (first : List ℕ) (front : List Item) → p.items ≡ front ++ items → length done ≡ length front → length first ≡ length items
      → ((i : ℕ) → slice_index first i < 2 ^ slice_index (widths items) i)
      → fold (first_set m) (done ++ map (λ item. 0) items) (first_settings items first) ≡ done ++ first
  first_all done [] [] front is same many low = refl
  first_all done [] (v ∷ first) front is same many low = absurd (omega (arith, many))
  first_all done (item ∷ items) [] front is same many low = absurd (omega (arith, many))
  first_all done (item ∷ items) (v ∷ first) front is same many low =
      let i = length front in
      let h : i < length p.items = omega (arith, ap (λ (xs : List Item). length xs) is, length-append front (item ∷ items)) in
      let there : slice_index_or p.items i item ≡ item = ap (λ (xs : List Item). slice_index_or xs i item) is ∙ get_or-append_seam front item items item in
      let name : item.name ≡ item_name p i = sym (get_or-map (λ (item : Item). item.name) p.items i item [] h ∙ ap (λ (x : Item). x.name) there) in
      let width : item_width p i ≡ item.width = read_map (λ (item : Item). item.width) p.items i item h ∙ ap (λ (x : Item). x.width) there in
      let place : item_place (regs m.members) item.name ≡ i = ap (item_place (regs m.members)) name ∙ reg_place_is p formed distinct end few i h in
      let wide : (widths_of m).wide item.name ≡ item.width = ap ((widths_of m).wide) name ∙ item_wide_is p formed distinct end few i h ∙ width in
      let cut : v % 2 ^ (widths_of m).wide item.name ≡ v = ap (λ (w : ℕ). v % 2 ^ w) wide ∙ mod-eq_of_lt (low zero) in
      let next : length (done ++ (v ∷ [])) ≡ length (front ++ (item ∷ [])) = omega (arith, length-append done (v ∷ []), length-append front (item ∷ []), same) in
      ap₂ (λ (n x : ℕ). fold (first_set m) (slice_set (done ++ (0 ∷ map (λ item. 0) items)) n x) (first_settings items first)) (place ∙ sym same) cut
      ∙ ap (λ (xs : List ℕ). fold (first_set m) xs (first_settings items first)) (set_at done 0 (map (λ (item : Item). 0) items) v (length done) refl ∙ sym (append_assoc done (v ∷ []) (map (λ (item : Item). 0) items)))
      ∙ first_all (done ++ (v ∷ [])) items first (front ++ (item ∷ [])) (is ∙ sym (append_assoc front (item ∷ []) items)) next (omega (arith, many)) (λ j. low (suc j))
      ∙ append_assoc done (v ∷ []) first

  pub first_is : (image : List Memory) → v_first m image ≡ p_first p image
  first_is image =
      let w = within_of p.items p.first formed.first in
      let items : first_items m ≡ p.first =
      ap₂ (λ (xs : List Item) (ss : List SettingTree). fold (first_set m) (map (λ item. 0) xs) ss) (regs_is p end) (settings_is p end)
      ∙ first_all [] p.items p.first [] refl refl formed.first.count w.each in
      ap₂ (λ (xs : List ℕ) (all : List ArrayItem). (let out : State = record { items = xs; cells = first_cells all image } in out)) items (arrays_is p end)

  pub states_are : (image : List Memory) (entries : List (List ℕ)) → IsImage image → missing_memory p.arrays image ≡ None → AreEntries p.pins entries → v_state m image entries ≡ p_state p image entries
  states_are image entries rules found fits =
      ap (λ (state : State). fold (v_edge m) state entries) (first_is image)
      ∙ every_edge (p_first p image) entries
      (first_shaped p image formed (apart_pairs (λ (array : ArrayItem). array.name) p.arrays (arrays_apart p formed distinct end.keys few)) rules found) fits
