-- An edge of the compiled module is an edge of the module, and keeps the shape of states.
use Rattle.std.proofs.Common.{◌≡◌, ℕ, zero, suc, ◌+◌, ◌%◌, ◌^◌, ◌<◌, ◌≤◌, List, [], ◌∷◌, ◌++◌, length, map, get_or, set, ◌-◌, Bool, true, false, refl, sym, ap, ap₂, ◌∙◌, subst, arith, ⊎_elim, append_assoc, length-append}
use Rattle.std.specs.Prelude.{All, flat_map, fold, slice_index, slice_index_or}
use Rattle.std.proofs.lemmas.Bool.{cases_eq, cases_lt}
use Rattle.std.proofs.lemmas.List.{length-set, length-map, get_or-set_same, get_or-set_other, get_or-map, get_or_past, map-append, get_or_append_left, get_or-append_right}
use Rattle.std.proofs.lemmas.List.Elements.{All-append}
use Rattle.std.proofs.lemmas.Nat.{mod_below, pow_pos}
use Rattle.std.proofs.Math.Seq.{get_or-append_seam}
use Rattle.std.specs.Prelude.{if◌then◌else◌}
use Rattle.lisa_engine.specs.State.{State}
use Rattle.lisa_engine.specs.Shape.{IsShaped, IsFitting, AreCells}
use Rattle.lisa_engine.specs.declared.parts.Item.{Item}
use Rattle.lisa_engine.specs.declared.parts.ArrayItem.{ArrayItem}
use Rattle.verilog_text.specs.Trees.{ActionTrees, Done, Set, Put, If, SettingTree, ModuleTree}
use Rattle.verilog_text.specs.Values.{assigned, self_value, is_true}
use Rattle.verilog_text.specs.Clocked.{regs, arrays, scalars, nets, blocks, widths_of, env_of, edge_env, item_place, array_place, settled, updates, updated, v_edge, first_set, first_items}
use Rattle.verilog_text.specs.Clocked as modules
use Rattle.verilog_clock.specs.declared.code.Net.{Net}
use Rattle.verilog_clock.specs.declared.code.Act.{Act}
use Rattle.verilog_clock.specs.Compiled.{code_value, nets_values, acts_updates, code_updates, applied}
use Rattle.verilog_clock.specs.Named.{AreWithin, AreNets, MeansBlocks, placed, IsFor, Runs}
use Rattle.verilog_clock.proofs.Places.{front_place}
use Rattle.verilog_clock.proofs.Cells.{set_shape}

any_item : Item
any_item = record { name = []; width = 0 }

any_array : ArrayItem
any_array = record { name = []; width = 0; depth = 0 }

below_along : (a b w : ℕ) → a ≡ b → b < 2 ^ w → a < 2 ^ w
below_along a b w is less = subst (λ (n : ℕ). n < 2 ^ w) (sym is) less

-- ---- values within widths

width_at : (items : List Item) (k : ℕ) (item : Item) → k < length items → slice_index (map (λ (x : Item). x.width) items) k ≡ (get_or items k item).width
width_at items k item within = get_or-map (λ (x : Item). x.width) items k item 0 within

fits_append : (a b : List Item) (xs ys : List ℕ) → IsFitting a xs → IsFitting b ys → IsFitting (a ++ b) (xs ++ ys)
fits_append a b xs ys fa fb = record {
  count = length-append xs ys ∙ ap₂ (λ (m n : ℕ). m + n) fa.count fb.count ∙ sym (length-append a b);
  within = λ k item less. ⊎_elim
      (λ lt. let in_xs : k < length xs = omega (arith, fa.count) in
      below_along (get_or (xs ++ ys) k 0) (get_or xs k 0) _ (get_or_append_left xs ys 0 k in_xs)
      (subst (λ (x : Item). get_or xs k 0 < 2 ^ x.width) (sym (get_or_append_left a b item k lt)) (fa.within k item lt)))
      (λ ge. let in_b : k - length a < length b = omega (arith, length-append a b) in
      below_along (get_or (xs ++ ys) k 0) (get_or ys (k - length a) 0) _ (get_or-append_right xs ys (length a) k 0 fa.count ge)
      (subst (λ (x : Item). get_or ys (k - length a) 0 < 2 ^ x.width) (sym (get_or-append_right a b (length a) k item refl ge)) (fb.within (k - length a) item in_b)))
      (cases_lt k (length a));
}

-- values of the first items are within the widths of all, and there are none past them
fits_within : (front rest : List Item) (values : List ℕ) → IsFitting front values → (place : ℕ) → slice_index values place < 2 ^ slice_index (map (λ (x : Item). x.width) (front ++ rest)) place
fits_within front rest values fit place = ⊎_elim
    (λ lt. let far : place < length (front ++ rest) = omega (arith, length-append front rest) in
    let same : slice_index (map (λ (x : Item). x.width) (front ++ rest)) place ≡ (get_or front place any_item).width =
    width_at (front ++ rest) place any_item far ∙ ap (λ (x : Item). x.width) (get_or_append_left front rest any_item place lt) in
    subst (λ (n : ℕ). slice_index values place < 2 ^ n) (sym same) (fit.within place any_item lt))
    (λ ge. let past : length values ≤ place = omega (arith, fit.count) in
    below_along (slice_index values place) 0 _ (get_or_past values place 0 past) (pow_pos _))
    (cases_lt place (length front))

cells_within : (all : List ArrayItem) (cells : List (List ℕ)) → AreCells all cells → (a i : ℕ) → slice_index (slice_index_or cells a []) i < 2 ^ slice_index (map (λ (x : ArrayItem). x.width) all) a
cells_within all cells shape a i = ⊎_elim
    (λ lt. ⊎_elim
    (λ short. subst (λ (n : ℕ). slice_index (slice_index_or cells a []) i < 2 ^ n) (sym (get_or-map (λ (x : ArrayItem). x.width) all a any_array 0 lt)) (shape.within a i any_array lt short))
    (λ long. below_along (slice_index (slice_index_or cells a []) i) 0 _ (get_or_past (slice_index_or cells a []) i 0 long) (pow_pos _))
    (cases_lt i (length (slice_index_or cells a []))))
    (λ ge. let past : length cells ≤ a = omega (arith, shape.count) in
    below_along (slice_index (slice_index_or cells a []) i) 0 _ (ap (λ (r : List ℕ). slice_index r i) (get_or_past cells a [] past)) (pow_pos _))
    (cases_lt a (length all))

-- ---- the wires

module _ (m : ModuleTree) (cells : List (List ℕ)) where
  one_more : (front : List Item) (net : modules.Net) (rest : List modules.Net) (values : List ℕ) (v : ℕ)
      → scalars m ≡ front ++ map (λ (n : modules.Net). n.item) (net ∷ rest) → length values ≡ length front → AreWithin m values cells → v < 2 ^ net.item.width → AreWithin m (values ++ (v ∷ [])) cells
  one_more front net rest values v split count within below = record {
    of_scalars = λ place. ⊎_elim
        (λ lt. below_along (slice_index (values ++ (v ∷ [])) place) (slice_index values place) _ (get_or_append_left values (v ∷ []) 0 place lt) (within.of_scalars place))
        (λ ge. ⊎_elim
        (λ e. below_along (slice_index (values ++ (v ∷ [])) place) v _ (ap (slice_index (values ++ (v ∷ []))) e ∙ get_or-append_seam values v [] 0)
        (subst (λ (n : ℕ). v < 2 ^ n) (sym (ap₂ (λ (xs : List Item) (p : ℕ). slice_index (map (λ (x : Item). x.width) xs) p) split (e ∙ count)
        ∙ ap (λ (xs : List ℕ). slice_index xs (length front)) (map-append (λ (x : Item). x.width) front (map (λ (n : modules.Net). n.item) (net ∷ rest)))
        ∙ ap (slice_index (map (λ (x : Item). x.width) front ++ (net.item.width ∷ map (λ (x : Item). x.width) (map (λ (n : modules.Net). n.item) rest)))) (sym (length-map front (λ (x : Item). x.width)))
        ∙ get_or-append_seam (map (λ (x : Item). x.width) front) net.item.width (map (λ (x : Item). x.width) (map (λ (n : modules.Net). n.item) rest)) 0)) below))
        (λ ne. let past : length (values ++ (v ∷ [])) ≤ place = omega (arith, length-append values (v ∷ [])) in
        below_along (slice_index (values ++ (v ∷ [])) place) 0 _ (get_or_past (values ++ (v ∷ [])) place 0 past) (pow_pos _))
        (cases_eq place (length values)))
        (cases_lt place (length values));
    of_cells = within.of_cells;
  }

  pub settles : (codes : List Net) (ns : List modules.Net) (front : List Item) (values : List ℕ)
      → scalars m ≡ front ++ map (λ (n : modules.Net). n.item) ns → length values ≡ length front → AreWithin m values cells → AreNets m codes ns
      → (nets_values cells values codes ≡ settled m cells values ns) × AreWithin m (settled m cells values ns) cells
  settles [] [] front values split count within are = (refl, within)
  settles [] (net ∷ rest) front values split count within are = absurd are
  settles (code ∷ codes) [] front values split count within are = absurd are
  settles (code ∷ codes) (net ∷ rest) front values split count within are =
      let v : ℕ = assigned (env_of m values cells) net.item.width net.value in
      let same : code_value values cells code.value % 2 ^ code.length.bits ≡ v = ap (λ (n : ℕ). code_value values cells code.value % 2 ^ n) are.0 ∙ are.1 values cells within in
      let next = settles codes rest (front ++ (net.item ∷ [])) (values ++ (v ∷ []))
      (split ∙ sym (append_assoc front (net.item ∷ []) (map (λ (n : modules.Net). n.item) rest)))
      (omega (arith, length-append values (v ∷ []), length-append front (net.item ∷ [])))
      (one_more front net rest values v split count within (mod_below _ _ (pow_pos net.item.width))) are.2 in
      (ap (λ (x : ℕ). nets_values cells (values ++ (x ∷ [])) codes) same ∙ next.0, next.1)

-- ---- the updates

all_cons : {X : Type 0} (P : X → Type 0) (x : X) (xs : List X) → P x → All P xs → All P (x ∷ xs)
all_cons P x xs here rest zero d within = here
all_cons P x xs here rest (suc k) d within = rest k d (omega arith)

all_none : {X : Type 0} (P : X → Type 0) → All P []
all_none P k d within = absurd (omega arith)

all_either : {X : Type 0} (P : X → Type 0) (b : Bool) (xs ys : List X) → All P xs → All P ys → All P (if b then xs else ys)
all_either P true xs ys one other = one
all_either P false xs ys one other = other

-- an update is within its target's width
abbrev IsGood : ModuleTree → modules.Update → Type 0
IsGood m (modules.SetTo name value) = value < 2 ^ (widths_of m).wide name
IsGood m (modules.PutTo name index value) = value < 2 ^ (widths_of m).cell name

module _ (m : ModuleTree) (values : List ℕ) (cells : List (List ℕ)) where
  good : (actions : ActionTrees) → All (IsGood m) (updates (env_of m values cells) actions)
  good Done = all_none (IsGood m)
  good (Set name value rest) = all_cons (IsGood m) _ (updates (env_of m values cells) rest) (mod_below _ _ (pow_pos ((widths_of m).wide name))) (good rest)
  good (Put name index value rest) = all_cons (IsGood m) _ (updates (env_of m values cells) rest) (mod_below _ _ (pow_pos ((widths_of m).cell name))) (good rest)
  good (If test this other rest) =
      All-append (IsGood m) _ (updates (env_of m values cells) rest)
      (all_either (IsGood m) (is_true (self_value (env_of m values cells) test)) (updates (env_of m values cells) this) (updates (env_of m values cells) other) (good this) (good other)) (good rest)

  pub good_all : (each : List ActionTrees) → All (IsGood m) (flat_map (updates (env_of m values cells)) each)
  good_all [] = all_none (IsGood m)
  good_all (actions ∷ rest) = All-append (IsGood m) (updates (env_of m values cells) actions) _ (good actions) (good_all rest)

module _ (m : ModuleTree) where
  applied_placed : (us : List modules.Update) (state : State) → fold applied state (map (placed m) us) ≡ fold (updated m) state us
  applied_placed [] state = refl
  applied_placed (modules.SetTo name value ∷ us) state = applied_placed us (updated m state (modules.SetTo name value))
  applied_placed (modules.PutTo name index value ∷ us) state = applied_placed us (updated m state (modules.PutTo name index value))

  cell_width_at : (name : List ℕ) (item : ArrayItem) → array_place (arrays m.members) name < length (arrays m.members) → (widths_of m).cell name ≡ (get_or (arrays m.members) (array_place (arrays m.members) name) item).width
  cell_width_at name item within = get_or-map (λ (x : ArrayItem). x.width) (arrays m.members) (array_place (arrays m.members) name) item 0 within

  for_one : (u : modules.Update) → IsGood m u → IsFor (arrays m.members) (placed m u)
  for_one (modules.SetTo name v) is = record { within = λ array index value item e less. absurd (cc) }
  for_one (modules.PutTo name i v) is = record {
    within = λ array index value item e less.
        let same : array_place (arrays m.members) name ≡ array = cc in
        let equal : v ≡ value = cc in
        let here : array_place (arrays m.members) name < length (arrays m.members) = subst (λ (n : ℕ). n < length (arrays m.members)) (sym same) less in
        subst (λ (n : ℕ). n < 2 ^ (get_or (arrays m.members) array item).width) equal
        (subst (λ (n : ℕ). v < 2 ^ (get_or (arrays m.members) n item).width) same (subst (λ (n : ℕ). v < 2 ^ n) (cell_width_at name item here) is));
  }

  for_all : (us : List modules.Update) → All (IsGood m) us → All (IsFor (arrays m.members)) (map (placed m) us)
  for_all [] all = all_none (IsFor (arrays m.members))
  for_all (u ∷ us) all = all_cons (IsFor (arrays m.members)) (placed m u) (map (placed m) us) (for_one u (all 0 u (omega arith))) (for_all us (λ k d within. all (suc k) d (omega arith)))

  -- a value that is cut to a reg's width fits the reg
  fits_set : (items : List ℕ) (name : List ℕ) (v : ℕ) → IsFitting (regs m.members) items → v < 2 ^ (widths_of m).wide name → IsFitting (regs m.members) (set items (item_place (regs m.members) name) v)
  fits_set items name v fit below =
      let place = item_place (regs m.members) name in
      record {
        count = length-set items place v ∙ fit.count;
        within = λ k item less. ⊎_elim
            (λ e. let here : place < length (regs m.members) = subst (λ (n : ℕ). n < length (regs m.members)) e less in
            let in_items : place < length items = omega (arith, fit.count) in
            let rest = m.inputs ++ map (λ (n : modules.Net). n.item) (nets m.members) in
            let same : item_place (scalars m) name ≡ place = omega (arith, front_place (regs m.members) rest name) in
            let far : place < length (scalars m) = omega (arith, length-append (regs m.members) rest) in
            let wide : (widths_of m).wide name ≡ (get_or (regs m.members) place item).width =
            ap (slice_index (map (λ (x : Item). x.width) (scalars m))) same ∙ width_at (scalars m) place item far ∙ ap (λ (x : Item). x.width) (get_or_append_left (regs m.members) rest item place here) in
            subst (λ (n : ℕ). get_or (set items place v) n 0 < 2 ^ (get_or (regs m.members) n item).width) (sym e)
            (below_along (get_or (set items place v) place 0) v _ (get_or-set_same items place v 0 in_items) (subst (λ (n : ℕ). v < 2 ^ n) wide below)))
            (λ ne. below_along (get_or (set items place v) k 0) (get_or items k 0) _ (get_or-set_other items place k v 0 ne) (fit.within k item less))
            (cases_eq k place);
      }

  shape_one : (state : State) (u : modules.Update) → IsShaped (regs m.members) (arrays m.members) state → IsGood m u → IsShaped (regs m.members) (arrays m.members) (updated m state u)
  shape_one state (modules.SetTo name value) shape is = record { values = fits_set state.items name value shape.values is; cells = shape.cells }
  shape_one state (modules.PutTo name index value) shape is = record {
    values = shape.values;
    cells = set_shape (arrays m.members) state.cells shape.cells (array_place (arrays m.members) name) index value
        (λ item within. subst (λ (n : ℕ). value < 2 ^ n) (cell_width_at name item within) is);
  }

  shape_all : (us : List modules.Update) (state : State) → IsShaped (regs m.members) (arrays m.members) state → All (IsGood m) us → IsShaped (regs m.members) (arrays m.members) (fold (updated m) state us)
  shape_all [] state shape all = shape
  shape_all (u ∷ us) state shape all = shape_all us (updated m state u) (shape_one state u shape (all 0 u (omega arith))) (λ k d within. all (suc k) d (omega arith))

  pub edge_shape : (state : State) (pins : List ℕ) → IsShaped (regs m.members) (arrays m.members) state → IsShaped (regs m.members) (arrays m.members) (v_edge m state pins)
  edge_shape state pins shape = shape_all (flat_map (updates (edge_env m state pins)) (blocks m.members)) state shape (good_all m (settled m state.cells (state.items ++ pins) (nets m.members)) state.cells (blocks m.members))

  first_fits : (all : List SettingTree) (items : List ℕ) → IsFitting (regs m.members) items → IsFitting (regs m.members) (fold (first_set m) items all)
  first_fits [] items fit = fit
  first_fits (setting ∷ rest) items fit =
      first_fits rest (first_set m items setting) (fits_set items setting.name (setting.value % 2 ^ (widths_of m).wide setting.name) fit (mod_below _ _ (pow_pos ((widths_of m).wide setting.name))))

  zeros_fit : (items : List Item) → IsFitting items (map (λ (item : Item). 0) items)
  zeros_fit items = record {
    count = length-map items (λ (item : Item). 0);
    within = λ k item less. below_along (get_or (map (λ (x : Item). 0) items) k 0) 0 _ (get_or-map (λ (x : Item). 0) items k item 0 less) (pow_pos _);
  }

  pub first_items_fit : IsFitting (regs m.members) (first_items m)
  first_items_fit = first_fits (modules.settings m.members) (map (λ (item : Item). 0) (regs m.members)) (zeros_fit (regs m.members))

-- ---- an edge

module _ (m : ModuleTree) (codes : List Net) (all : List Act) (are : AreNets m codes (nets m.members)) (means : MeansBlocks m all (blocks m.members)) where
  begins : (state : State) (pins : List ℕ) → IsShaped (regs m.members) (arrays m.members) state → IsFitting m.inputs pins → AreWithin m (state.items ++ pins) state.cells
  begins state pins shape fit =
      let wires = map (λ (n : modules.Net). n.item) (nets m.members) in
      let along : (regs m.members ++ m.inputs) ++ wires ≡ scalars m = append_assoc (regs m.members) m.inputs wires in
      record {
        of_scalars = λ place. subst (λ (xs : List Item). slice_index (state.items ++ pins) place < 2 ^ slice_index (map (λ (x : Item). x.width) xs) place) along
            (fits_within (regs m.members ++ m.inputs) wires (state.items ++ pins) (fits_append (regs m.members) m.inputs state.items pins shape.values fit) place);
        of_cells = cells_within (arrays m.members) state.cells shape.cells;
      }

  updates_are : (state : State) (pins : List ℕ) → IsShaped (regs m.members) (arrays m.members) state → IsFitting m.inputs pins
      → code_updates codes all state pins ≡ map (placed m) (flat_map (updates (edge_env m state pins)) (blocks m.members))
  updates_are state pins shape fit =
      let wires = map (λ (n : modules.Net). n.item) (nets m.members) in
      let s = settles m state.cells codes (nets m.members) (regs m.members ++ m.inputs) (state.items ++ pins)
      (sym (append_assoc (regs m.members) m.inputs wires))
      (length-append state.items pins ∙ ap₂ (λ (x y : ℕ). x + y) shape.values.count fit.count ∙ sym (length-append (regs m.members) m.inputs))
      (begins state pins shape fit) are in
      ap (λ (values : List ℕ). acts_updates values state.cells all) s.0 ∙ means (settled m state.cells (state.items ++ pins) (nets m.members)) state.cells s.1

  pub runs : Runs m codes all
  runs = record {
    edges = λ state pins shape fit. ap (fold applied state) (updates_are state pins shape fit) ∙ applied_placed m (flat_map (updates (edge_env m state pins)) (blocks m.members)) state;
    writes = λ state pins shape fit. subst (All (IsFor (arrays m.members))) (sym (updates_are state pins shape fit))
        (for_all m (flat_map (updates (edge_env m state pins)) (blocks m.members)) (good_all m (settled m state.cells (state.items ++ pins) (nets m.members)) state.cells (blocks m.members)));
  }
