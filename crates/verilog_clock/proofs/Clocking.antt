-- The states of a clock.
use Rattle.std.proofs.Common.{◌≡◌, ◌≢◌, ℕ, suc, ◌+◌, ◌<◌, List, [], ◌∷◌, ◌++◌, length, map, take, drop, refl, sym, ap, ap₂, ◌∙◌, subst, arith, fold, length-append}
use Rattle.std.specs.Prelude.{AllPairs, All}
use Rattle.std.specs.Global.{Vec}
use Rattle.std.specs.Vec.{vec_len}
use Rattle.std.proofs.lemmas.List.{get_or_append_left, get_or-append-add, length-map}
use Rattle.std.proofs.Math.Seq.{take-append_seam}
use Rattle.std.proofs.lemmas.List.Sums.{fold-append}
use Rattle.lisa_engine.specs.State.{State}
use Rattle.lisa_engine.specs.Memory.{Memory}
use Rattle.lisa_engine.specs.Shape.{IsShaped, IsFitting, AreCells, IsWidth, HaveWidths, HaveDistinctNames}
use Rattle.lisa_engine.specs.declared.parts.Item.{Item}
use Rattle.lisa_engine.specs.declared.parts.ArrayItem.{ArrayItem}
use Rattle.lisa_engine.specs.declared.parts.Touch.{Touch}
use Rattle.verilog_text.specs.Trees.{ModuleTree}
use Rattle.verilog_text.specs.Clocked.{regs, arrays, nets, scalars, v_edge, v_first, v_state, first_items}
use Rattle.verilog_text.specs.Clocked as modules
use Rattle.verilog_text.specs.Clockable.{IsClockable}
use Rattle.verilog_clock.specs.declared.code.Net.{Net}
use Rattle.verilog_clock.specs.declared.code.Act.{Act}
use Rattle.verilog_clock.specs.Compiled.{rows, code_updates, code_edge}
use Rattle.verilog_clock.specs.Named.{IsFor, Runs}
use Rattle.verilog_clock.specs.Writes.{state_of}
use Rattle.verilog_clock.proofs.Edging.{edge_shape, first_items_fit}

front_pairs : (xs ys : List Item) → AllPairs (λ (a b : Item). a.name ≢ b.name) (xs ++ ys) → AllPairs (λ (a b : Item). a.name ≢ b.name) xs
front_pairs xs ys distinct i j d less within same =
    let far : j < length (xs ++ ys) = omega (arith, length-append xs ys) in
    let near : i < length xs = omega arith in
    distinct i j d less far (ap (λ (x : Item). x.name) (get_or_append_left xs ys d i near) ∙ same ∙ sym (ap (λ (x : Item). x.name) (get_or_append_left xs ys d j within)))

back_pairs : (xs ys : List Item) → AllPairs (λ (a b : Item). a.name ≢ b.name) (xs ++ ys) → AllPairs (λ (a b : Item). a.name ≢ b.name) ys
back_pairs xs ys distinct i j d less within same =
    let far : length xs + j < length (xs ++ ys) = omega (arith, length-append xs ys) in
    let next : length xs + i < length xs + j = omega arith in
    distinct (length xs + i) (length xs + j) d next far (ap (λ (x : Item). x.name) (get_or-append-add xs ys i d) ∙ same ∙ sym (ap (λ (x : Item). x.name) (get_or-append-add xs ys j d)))

pub names_differ : (m : ModuleTree) (items : List Item) (all : List ArrayItem) → IsClockable m → items ≡ regs m.members → all ≡ arrays m.members → HaveDistinctNames items all m.inputs
names_differ m items all clockable is_items is_all =
    let wires = map (λ (n : modules.Net). n.item) (nets m.members) in
    record {
      of_items = subst (λ (xs : List Item). AllPairs (λ (a b : Item). a.name ≢ b.name) xs) (sym is_items) (front_pairs (regs m.members) (m.inputs ++ wires) clockable.distinct_scalars);
      of_arrays = subst (λ (xs : List ArrayItem). AllPairs (λ (a b : ArrayItem). a.name ≢ b.name) xs) (sym is_all) clockable.distinct_arrays;
      of_pins = front_pairs m.inputs wires (back_pairs (regs m.members) (m.inputs ++ wires) clockable.distinct_scalars);
    }

-- the first state, from its parts
pub first_state : (m : ModuleTree) (image : List Memory) (items : List ℕ) (cells : List (List ℕ)) → items ≡ first_items m → cells ≡ (v_first m image).cells → state_of items cells ≡ v_first m image
first_state m image items cells is_items is_cells = λ i. state_of (is_items i) (is_cells i)

pub first_shaped : (m : ModuleTree) (image : List Memory) (state : State) → state ≡ v_first m image → AreCells (arrays m.members) (v_first m image).cells → IsShaped (regs m.members) (arrays m.members) state
first_shaped m image state is cells =
    subst (IsShaped (regs m.members) (arrays m.members)) (sym is) (record { values = first_items_fit m; cells = cells })

-- the shape of every state that the module's definition gives
states_from : (m : ModuleTree) (state : State) (l : List (List ℕ)) → IsShaped (regs m.members) (arrays m.members) state → IsShaped (regs m.members) (arrays m.members) (fold (v_edge m) state l)
states_from m state [] shape = shape
states_from m state (pins ∷ l) shape = states_from m (v_edge m state pins) l (edge_shape m state pins shape)

pub states_shaped : (m : ModuleTree) (image : List Memory) (items : List Item) (all : List ArrayItem) → items ≡ regs m.members → all ≡ arrays m.members
    → AreCells (arrays m.members) (v_first m image).cells → (l : List (List ℕ)) → IsShaped items all (v_state m image l)
states_shaped m image items all is_items is_all cells l =
    subst (λ (xs : List Item). IsShaped xs all (v_state m image l)) (sym is_items)
    (subst (λ (xs : List ArrayItem). IsShaped (regs m.members) xs (v_state m image l)) (sym is_all)
    (states_from m (v_first m image) l (record { values = first_items_fit m; cells = cells })))

front_all : (P : Item → Type 0) (xs ys : List Item) → All P (xs ++ ys) → All P xs
front_all P xs ys all k d within = subst P (get_or_append_left xs ys d k within) (all k d (omega (arith, length-append xs ys)))

back_all : (P : Item → Type 0) (xs ys : List Item) → All P (xs ++ ys) → All P ys
back_all P xs ys all k d within =
    let far : length xs + k < length (xs ++ ys) = omega (arith, length-append xs ys) in
    subst P (get_or-append-add xs ys k d) (all (length xs + k) d far)

pub widths_are : (m : ModuleTree) (items : List Item) (all : List ArrayItem) → IsClockable m → items ≡ regs m.members → all ≡ arrays m.members → HaveWidths items all m.inputs
widths_are m items all clockable is_items is_all =
    let wires = map (λ (n : modules.Net). n.item) (nets m.members) in
    let scalar : All (λ (item : Item). IsWidth item.width) (scalars m) = λ k d within. (clockable.some_scalars k d within, clockable.narrow_scalars k d within) in
    let array : All (λ (a : ArrayItem). IsWidth a.width) (arrays m.members) = λ k d within. (clockable.some_arrays k d within, clockable.narrow_arrays k d within) in
    record {
      of_items = subst (λ (xs : List Item). All (λ (item : Item). IsWidth item.width) xs) (sym is_items)
          (front_all (λ (item : Item). IsWidth item.width) (regs m.members) (m.inputs ++ wires) scalar);
      of_arrays = subst (λ (xs : List ArrayItem). All (λ (a : ArrayItem). IsWidth a.width) xs) (sym is_all) array;
      of_pins = front_all (λ (item : Item). IsWidth item.width) m.inputs wires (back_all (λ (item : Item). IsWidth item.width) (regs m.members) (m.inputs ++ wires) scalar);
    }

-- one more edge
pub edge_leads : (m : ModuleTree) (image : List Memory) (old new : State) (pins : List ℕ) (l : List (List ℕ)) → new ≡ v_edge m old pins → old ≡ v_state m image l → new ≡ v_state m image (l ++ (pins ∷ []))
edge_leads m image old new pins l step at = step ∙ ap (λ (s : State). v_edge m s pins) at ∙ sym (fold-append (v_edge m) (v_first m image) l (pins ∷ []))

pub edge_shaped : (m : ModuleTree) (old new : State) (pins : List ℕ) → new ≡ v_edge m old pins → IsShaped (regs m.members) (arrays m.members) old → IsShaped (regs m.members) (arrays m.members) new
edge_shaped m old new pins step shape = subst (IsShaped (regs m.members) (arrays m.members)) (sym step) (edge_shape m old pins shape)

-- what was written through a borrow of a whole vector
written : {X : Type 0} (new : List X) (v : Vec X) → length new ≡ length v.items → take (vec_len v) (new ++ drop (length new) v.items) ≡ new
written new v same = ap (λ (n : ℕ). take n (new ++ drop (length new) v.items)) (v.ok.0 ∙ sym same) ∙ take-append_seam new (drop (length new) v.items)

pub edge_kept : (m : ModuleTree) (values : Vec ℕ) (cells : Vec (Vec ℕ)) (new_values : List ℕ) (new_cells : List (Vec ℕ)) (pins : List ℕ)
    → IsShaped (regs m.members) (arrays m.members) (state_of values.items (rows cells.items))
    → state_of new_values (rows new_cells) ≡ v_edge m (state_of values.items (rows cells.items)) pins
    → state_of (take (vec_len values) (new_values ++ drop (length new_values) values.items)) (rows (take (vec_len cells) (new_cells ++ drop (length new_cells) cells.items)))
    ≡ v_edge m (state_of values.items (rows cells.items)) pins
edge_kept m values cells new_values new_cells pins shape step =
    let new = edge_shaped m (state_of values.items (rows cells.items)) (state_of new_values (rows new_cells)) pins step shape in
    let is_values = written new_values values (new.values.count ∙ sym shape.values.count) in
    let is_cells = written new_cells cells
    (sym (length-map new_cells (λ (c : Vec ℕ). c.items)) ∙ new.cells.count ∙ sym shape.cells.count ∙ length-map cells.items (λ (c : Vec ℕ). c.items)) in
    (λ i. state_of (is_values i) (rows (is_cells i))) ∙ step

-- an edge, through what is borrowed
module _ (m : ModuleTree) (w w' : List Net) (a a' : List Act) (all' : List ArrayItem) (v v' : List ℕ) (c c' : List (Vec ℕ)) (pins : List ℕ) (runs : Runs m w a)
    (shape : IsShaped (regs m.members) (arrays m.members) (state_of v (rows c))) (fit : IsFitting m.inputs pins)
    (is_w : w' ≡ w) (is_a : a' ≡ a) (is_all : all' ≡ arrays m.members) (is_v : v' ≡ v) (is_c : c' ≡ c) where
  pub fitting_at : All (IsFor all') (code_updates w' a' (state_of v' (rows c')) pins)
  fitting_at =
      subst (λ (x : List Net). All (IsFor all') (code_updates x a' (state_of v' (rows c')) pins)) (sym is_w)
      (subst (λ (x : List Act). All (IsFor all') (code_updates w x (state_of v' (rows c')) pins)) (sym is_a)
      (subst (λ (x : List ArrayItem). All (IsFor x) (code_updates w a (state_of v' (rows c')) pins)) (sym is_all)
      (subst (λ (x : List ℕ). All (IsFor (arrays m.members)) (code_updates w a (state_of x (rows c')) pins)) (sym is_v)
      (subst (λ (x : List (Vec ℕ)). All (IsFor (arrays m.members)) (code_updates w a (state_of v (rows x)) pins)) (sym is_c)
      (runs.writes (state_of v (rows c)) pins shape fit)))))

  pub edge_at : (new : State) → new ≡ code_edge w' a' (state_of v' (rows c')) pins → new ≡ v_edge m (state_of v (rows c)) pins
  edge_at new is =
      is ∙ ap (λ (x : List Net). code_edge x a' (state_of v' (rows c')) pins) is_w ∙ ap (λ (x : List Act). code_edge w x (state_of v' (rows c')) pins) is_a
      ∙ ap (λ (x : List ℕ). code_edge w a (state_of x (rows c')) pins) is_v ∙ ap (λ (x : List (Vec ℕ)). code_edge w a (state_of v (rows x)) pins) is_c
      ∙ runs.edges (state_of v (rows c)) pins shape fit

-- rows of one shape have the same lengths
tail_shape : (x : ArrayItem) (xs : List ArrayItem) (r : List ℕ) (rs : List (List ℕ)) → AreCells (x ∷ xs) (r ∷ rs) → AreCells xs rs
tail_shape x xs r rs s = record {
  count = omega (arith, s.count);
  depths = λ k array less. s.depths (suc k) array (omega arith);
  within = λ k j array less short. s.within (suc k) j array (omega arith) short;
}

depths_list : (xs : List ArrayItem) (rs : List (List ℕ)) → AreCells xs rs → map (λ (r : List ℕ). length r) rs ≡ map (λ (x : ArrayItem). x.depth) xs
depths_list [] [] s = refl
depths_list [] (r ∷ rs) s = absurd (omega (arith, s.count))
depths_list (x ∷ xs) [] s = absurd (omega (arith, s.count))
depths_list (x ∷ xs) (r ∷ rs) s = ap₂ (λ (n : ℕ) (ns : List ℕ). n ∷ ns) (s.depths 0 x (omega arith)) (depths_list xs rs (tail_shape x xs r rs s))

lens_list : (a : List (Vec ℕ)) → map (λ (v : Vec ℕ). vec_len v) a ≡ map (λ (r : List ℕ). length r) (rows a)
lens_list [] = refl
lens_list (v ∷ vs) = ap₂ (λ (n : ℕ) (ns : List ℕ). n ∷ ns) v.ok.0 (lens_list vs)

pub lens_agree : (xs : List ArrayItem) (a b a' b' : List (Vec ℕ)) → AreCells xs (rows a) → AreCells xs (rows b) → a' ≡ a → b' ≡ b → map (λ (v : Vec ℕ). vec_len v) a' ≡ map (λ (v : Vec ℕ). vec_len v) b'
lens_agree xs a b a' b' sa sb is_a is_b =
    ap (map (λ (v : Vec ℕ). vec_len v)) is_a ∙ lens_list a ∙ depths_list xs (rows a) sa ∙ sym (depths_list xs (rows b) sb) ∙ sym (lens_list b) ∙ sym (ap (map (λ (v : Vec ℕ). vec_len v)) is_b)
