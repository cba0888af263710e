-- In an edge of a program's module the names mean the program's items, pins and cells, and each wire has its expression's value.
use Rattle.std.proofs.Common.{◌≡◌, ℕ, zero, suc, ◌+◌, ◌-◌, ◌*◌, ◌/◌, ◌%◌, ◌^◌, ◌<◌, ◌≤◌, List, [], ◌∷◌, ◌++◌, length, map, get_or, refl, sym, ap, ap₂, ◌∙◌, subst, arith, cond, length-append, Some}
use Rattle.std.specs.Prelude.{max, slice_index, slice_index_or}
use Rattle.std.specs.List.{slice_get}
use Rattle.std.proofs.lemmas.List.{get_or_append_left, map-append, length-map}
use Rattle.std.proofs.lemmas.Option.{slice_get_within}
use Rattle.std.proofs.Math.Seq.{get_or-append_seam}
use Rattle.lisa_engine.specs.State.{State}
use Rattle.lisa_engine.specs.declared.parts.Item.{Item}
use Rattle.lisa_engine.specs.declared.parts.ArrayItem.{ArrayItem}
use Rattle.lisa_words.specs.Words.{word_not}
use Rattle.verilog_text.specs.Trees.{ModuleTree}
use Rattle.verilog_text.specs.Values.{Widths, Env, is_true, operate, left_length, right_length, v_width, v_value, assigned}
use Rattle.verilog_text.specs.Values as values
use Rattle.verilog_text.specs.Clocked.{Net, nets, regs, arrays, scalars, item_place, array_place, widths_of, env_of, settled, edge_env}
use Rattle.step_program.specs.Programs.{Program}
use Rattle.step_program.specs.Effects.{item_width, pin_width, array_width}
use Rattle.step_program.specs.WellFormed.{IsWellFormed}
use Rattle.netlist_wires.specs.declared.keys.Flat.{Flat}
use Rattle.netlist_wires.specs.declared.keys.Flat.TheVariants.{Fixed, OfItem, OfPin, OfWire}
use Rattle.netlist_wires.specs.declared.keys.Body.{Body}
use Rattle.netlist_wires.specs.declared.keys.Body.TheVariants.{Copied, Lowest, Padded, Inverse, Load, Operate, Select}
use Rattle.netlist_wires.specs.declared.keys.Key.{Key}
use Rattle.netlist_wires.specs.Tables.{HasDistinctNames}
use Rattle.netlist_wires.specs.Wiring.{item_name, pin_name, array_name, wire_name, operator_of, named, body_tree, Going, module_at}
use Rattle.netlist_wires.proofs.Members.{wire_nets, wire_items, regs_is, arrays_is, nets_is, scalars_is}
use Rattle.netlist_wires.proofs.Named.{item_names, item_at, array_at, items_apart, arrays_apart, scalars_apart}
use Rattle.netlist_wires.proofs.Growing.{IsBelow, IsBodyBelow, IsOrdered}
use Rattle.netlist_wires.proofs.Meanings.{Knows, Solves}

wire_name_at : (n : ℕ) (keys : List Key) (k : ℕ) → k < length keys → slice_index_or (item_names (wire_items n keys)) k [] ≡ wire_name (n + k)
wire_name_at n [] k h = absurd (omega (arith, h))
wire_name_at n (key ∷ keys) zero h = ap wire_name (omega arith)
wire_name_at n (key ∷ keys) (suc k) h = wire_name_at (suc n) keys k (omega (arith, h)) ∙ ap wire_name (omega arith)

wire_width_at : (n : ℕ) (keys : List Key) (k : ℕ) (key : Key) → slice_get keys k ≡ Some key → slice_index (map (λ (item : Item). item.width) (wire_items n keys)) k ≡ key.width
wire_width_at n [] k key e = absurd (cc)
wire_width_at n (x ∷ keys) zero key e = let here : x ≡ key = cc in ap (λ (key : Key). key.width) here
wire_width_at n (x ∷ keys) (suc k) key e = wire_width_at (suc n) keys k key e

wire_many : (n : ℕ) (keys : List Key) → length (wire_items n keys) ≡ length keys
wire_many n [] = refl
wire_many n (key ∷ keys) = omega (arith, wire_many (suc n) keys)

behind : {X : Type 0} (xs ys : List X) (k : ℕ) (d : X) → get_or (xs ++ ys) (length xs + k) d ≡ get_or ys k d
behind [] ys k d = ap (λ (n : ℕ). get_or ys n d) {x = 0 + k} {y = k} (omega arith)
behind (x ∷ xs) ys k d = ap (λ (n : ℕ). get_or (x ∷ (xs ++ ys)) n d) {x = length (x ∷ xs) + k} {y = suc (length xs + k)} (omega arith) ∙ behind xs ys k d

module _ (p : Program) (formed : IsWellFormed p) (distinct : HasDistinctNames p) (end : Going) (few : length end.keys ≤ 2 ^ 64) where
  abbrev m : ModuleTree
  m = module_at p end

  abbrev all : List Item
  all = p.items ++ (p.pins ++ wire_items 0 end.keys)

  abbrev base : ℕ
  base = length p.items + length p.pins

  names_all : item_names all ≡ item_names p.items ++ (item_names p.pins ++ item_names (wire_items 0 end.keys))
  names_all = map-append (λ (item : Item). item.name) p.items (p.pins ++ wire_items 0 end.keys)
      ∙ ap (λ (xs : List (List ℕ)). item_names p.items ++ xs) (map-append (λ (item : Item). item.name) p.pins (wire_items 0 end.keys))

  widths_all : map (λ (item : Item). item.width) all ≡ map (λ (item : Item). item.width) p.items ++ (map (λ (item : Item). item.width) p.pins ++ map (λ (item : Item). item.width) (wire_items 0 end.keys))
  widths_all = map-append (λ (item : Item). item.width) p.items (p.pins ++ wire_items 0 end.keys)
      ∙ ap (λ (xs : List ℕ). map (λ (item : Item). item.width) p.items ++ xs) (map-append (λ (item : Item). item.width) p.pins (wire_items 0 end.keys))

  all_many : length all ≡ base + length end.keys
  all_many = omega (arith, length-append p.items (p.pins ++ wire_items 0 end.keys), length-append p.pins (wire_items 0 end.keys), wire_many 0 end.keys)

  -- ---- the places of names among the scalars

  pub item_place_is : (i : ℕ) → i < length p.items → item_place (scalars m) (item_name p i) ≡ i
  item_place_is i h =
      ap (λ (xs : List Item). item_place xs (item_name p i)) (scalars_is p end)
      ∙ item_at all (scalars_apart p formed distinct end.keys few) i (item_name p i) (omega (arith, h, all_many))
      (ap (λ (xs : List (List ℕ)). slice_index_or xs i []) names_all ∙ get_or_append_left (item_names p.items) (item_names p.pins ++ item_names (wire_items 0 end.keys)) [] i (omega (arith, h, length-map p.items (λ (item : Item). item.name))))

  pub pin_place_is : (i : ℕ) → i < length p.pins → item_place (scalars m) (pin_name p i) ≡ length p.items + i
  pin_place_is i h =
      ap (λ (xs : List Item). item_place xs (pin_name p i)) (scalars_is p end)
      ∙ item_at all (scalars_apart p formed distinct end.keys few) (length p.items + i) (pin_name p i) (omega (arith, h, all_many))
      (ap (λ (xs : List (List ℕ)). slice_index_or xs (length p.items + i) []) names_all
      ∙ ap (λ (n : ℕ). slice_index_or (item_names p.items ++ (item_names p.pins ++ item_names (wire_items 0 end.keys))) (n + i) []) (sym (length-map p.items (λ (item : Item). item.name)))
      ∙ behind (item_names p.items) (item_names p.pins ++ item_names (wire_items 0 end.keys)) i []
      ∙ get_or_append_left (item_names p.pins) (item_names (wire_items 0 end.keys)) [] i (omega (arith, h, length-map p.pins (λ (item : Item). item.name))))

  pub wire_place_is : (k : ℕ) → k < length end.keys → item_place (scalars m) (wire_name k) ≡ base + k
  wire_place_is k h =
      ap (λ (xs : List Item). item_place xs (wire_name k)) (scalars_is p end)
      ∙ item_at all (scalars_apart p formed distinct end.keys few) (base + k) (wire_name k) (omega (arith, h, all_many))
      (ap (λ (xs : List (List ℕ)). slice_index_or xs (base + k) []) names_all
      ∙ ap (slice_index_or_at (item_names p.items ++ (item_names p.pins ++ item_names (wire_items 0 end.keys)))) first
      ∙ behind (item_names p.items) (item_names p.pins ++ item_names (wire_items 0 end.keys)) (length (item_names p.pins) + k) []
      ∙ behind (item_names p.pins) (item_names (wire_items 0 end.keys)) k []
      ∙ wire_name_at 0 end.keys k h ∙ ap wire_name {x = 0 + k} {y = k} (omega arith))
    where
      slice_index_or_at : List (List ℕ) → ℕ → List ℕ
      slice_index_or_at xs n = slice_index_or xs n []

      first : base + k ≡ length (item_names p.items) + (length (item_names p.pins) + k)
      first = omega (arith, length-map p.items (λ (item : Item). item.name), length-map p.pins (λ (item : Item). item.name))

  pub array_place_is : (a : ℕ) → a < length p.arrays → array_place (arrays m.members) (array_name p a) ≡ a
  array_place_is a h =
      ap (λ (xs : List ArrayItem). array_place xs (array_name p a)) (arrays_is p end) ∙ array_at p.arrays (arrays_apart p formed distinct end.keys few) a (array_name p a) h refl

  pub reg_place_is : (i : ℕ) → i < length p.items → item_place (regs m.members) (item_name p i) ≡ i
  reg_place_is i h =
      ap (λ (xs : List Item). item_place xs (item_name p i)) (regs_is p end) ∙ item_at p.items (items_apart p formed distinct end.keys few) i (item_name p i) h refl

  -- ---- widths

  wide_at : (name : List ℕ) (n : ℕ) → item_place (scalars m) name ≡ n → (widths_of m).wide name ≡ slice_index (map (λ (item : Item). item.width) all) n
  wide_at name n e = ap₂ (λ (xs : List Item) (k : ℕ). slice_index (map (λ (item : Item). item.width) xs) k) (scalars_is p end) e

  pub item_wide_is : (i : ℕ) → i < length p.items → (widths_of m).wide (item_name p i) ≡ item_width p i
  item_wide_is i h =
      wide_at (item_name p i) i (item_place_is i h) ∙ ap (λ (ws : List ℕ). slice_index ws i) widths_all
      ∙ get_or_append_left (map (λ (item : Item). item.width) p.items) _ 0 i (omega (arith, h, length-map p.items (λ (item : Item). item.width)))

  pub pin_wide_is : (i : ℕ) → i < length p.pins → (widths_of m).wide (pin_name p i) ≡ pin_width p i
  pin_wide_is i h =
      let ws = map (λ (item : Item). item.width) p.items in
      let vs = map (λ (item : Item). item.width) p.pins in
      let us = map (λ (item : Item). item.width) (wire_items 0 end.keys) in
      wide_at (pin_name p i) (length p.items + i) (pin_place_is i h) ∙ ap (λ (xs : List ℕ). slice_index xs (length p.items + i)) widths_all
      ∙ ap (λ (n : ℕ). slice_index (ws ++ (vs ++ us)) (n + i)) (sym (length-map p.items (λ (item : Item). item.width)))
      ∙ behind ws (vs ++ us) i 0
      ∙ get_or_append_left vs us 0 i (omega (arith, h, length-map p.pins (λ (item : Item). item.width)))

  pub wire_wide_is : (k : ℕ) (key : Key) → slice_get end.keys k ≡ Some key → (widths_of m).wide (wire_name k) ≡ key.width
  wire_wide_is k key e =
      let h = slice_get_within end.keys k key e in
      let ws = map (λ (item : Item). item.width) p.items in
      let vs = map (λ (item : Item). item.width) p.pins in
      let us = map (λ (item : Item). item.width) (wire_items 0 end.keys) in
      let first : base + k ≡ length ws + (length vs + k) = omega (arith, length-map p.items (λ (item : Item). item.width), length-map p.pins (λ (item : Item). item.width)) in
      wide_at (wire_name k) (base + k) (wire_place_is k h) ∙ ap (λ (xs : List ℕ). slice_index xs (base + k)) widths_all
      ∙ ap (λ (n : ℕ). slice_index (ws ++ (vs ++ us)) n) first
      ∙ behind ws (vs ++ us) (length vs + k) 0 ∙ behind vs us k 0 ∙ wire_width_at 0 end.keys k key e

  pub array_wide_is : (a : ℕ) → a < length p.arrays → (widths_of m).cell (array_name p a) ≡ array_width p a
  array_wide_is a h = ap₂ (λ (xs : List ArrayItem) (k : ℕ). slice_index (map (λ (array : ArrayItem). array.width) xs) k) (arrays_is p end) (array_place_is a h)

  -- ---- values

  module _ (old : State) (pins : List ℕ) (items_many : length old.items ≡ length p.items) (pins_many : length pins ≡ length p.pins) (ordered : IsOrdered p end.keys) where
    abbrev after : List ℕ → List Net → List ℕ
    after done ns = settled m old.cells done ns

    -- what is done stays
    done_stays : (done : List ℕ) (ns : List Net) (k : ℕ) → k < length done → slice_index (after done ns) k ≡ slice_index done k
    done_stays done [] k h = refl
    done_stays done (n ∷ ns) k h =
        let x = assigned (env_of m done old.cells) n.item.width n.value in
        done_stays (done ++ (x ∷ [])) ns k (omega (arith, h, length-append done (x ∷ []))) ∙ get_or_append_left done (x ∷ []) 0 k h

    abbrev Agree : (a b : List ℕ) → ℕ → Type 0
    Agree a b n = (k : ℕ) → k < base + n → slice_index a k ≡ slice_index b k

    same_flat : (a b : List ℕ) (n : ℕ) (f : Flat) (l : ℕ) → n ≤ length end.keys → IsBelow p n f → Agree a b n → v_value (env_of m a old.cells) (named p f) l ≡ v_value (env_of m b old.cells) (named p f) l
    same_flat a b n (Fixed w v) l less h same = refl
    same_flat a b n (OfItem i) l less h same = same (item_place (scalars m) (item_name p i)) (omega (arith, item_place_is i h, h))
    same_flat a b n (OfPin i) l less h same = same (item_place (scalars m) (pin_name p i)) (omega (arith, pin_place_is i h, h))
    same_flat a b n (OfWire k) l less h same = same (item_place (scalars m) (wire_name k)) (omega (arith, wire_place_is k (omega (arith, less, h)), h))

    -- a wire's value is the same where those before it are
    stable : (a b : List ℕ) (n w : ℕ) (body : Body) → n ≤ length end.keys → IsBodyBelow p n body → Agree a b n
        → assigned (env_of m a old.cells) w (body_tree p body) ≡ assigned (env_of m b old.cells) w (body_tree p body)
    stable a b n w (Copied f) less h same =
        ap (λ (x : ℕ). x % 2 ^ w) (same_flat a b n f (max w (v_width (widths_of m) (named p f))) less h same)
    stable a b n w (Lowest high (Fixed v c)) less h same = refl
    stable a b n w (Lowest high (OfItem i)) less h same =
        ap (λ (x : ℕ). x / 2 ^ 0 % 2 ^ suc (high - 0) % 2 ^ w) (same_flat a b n (OfItem i) 0 less h.2 same)
    stable a b n w (Lowest high (OfPin i)) less h same =
        ap (λ (x : ℕ). x / 2 ^ 0 % 2 ^ suc (high - 0) % 2 ^ w) (same_flat a b n (OfPin i) 0 less h.2 same)
    stable a b n w (Lowest high (OfWire k)) less h same =
        ap (λ (x : ℕ). x / 2 ^ 0 % 2 ^ suc (high - 0) % 2 ^ w) (same_flat a b n (OfWire k) 0 less h.2 same)
    stable a b n w (Padded zeros f) less h same =
        let wf = v_width (widths_of m) (named p f) in
        ap (λ (x : ℕ). (0 * 2 ^ (wf + 0) + (x * 2 ^ 0 + 0)) % 2 ^ w) (same_flat a b n f wf less h.1 same)
    stable a b n w (Inverse f) less h same =
        let l = max w (v_width (widths_of m) (named p f)) in
        ap (λ (x : ℕ). word_not l x % 2 ^ w) (same_flat a b n f l less h same)
    stable a b n w (Load array f) less h same =
        let read = (env_of m a old.cells).read (array_name p array) in
        ap (λ (x : ℕ). read x % 2 ^ w) (same_flat a b n f (v_width (widths_of m) (named p f)) less h.1 same)
    stable a b n w (Operate op f g) less h same =
        let wf = v_width (widths_of m) (named p f) in
        let wg = v_width (widths_of m) (named p g) in
        let o = operator_of op in
        let l = max w (values.two_width o wf wg) in
        ap₂ (λ (x y : ℕ). operate o l x y % 2 ^ w) (same_flat a b n f (left_length o l wf wg) less h.0 same) (same_flat a b n g (right_length o l wf wg) less h.1 same)
    stable a b n w (Select c f g) less h same =
        let l = max w (max (v_width (widths_of m) (named p f)) (v_width (widths_of m) (named p g))) in
        ap₂ (λ (t : ℕ) (run : ℕ → ℕ). run t % 2 ^ w) (same_flat a b n c (v_width (widths_of m) (named p c)) less h.0 same)
        (ap₂ {C = ℕ → ℕ} (λ (x y t : ℕ). cond (is_true t) x y) (same_flat a b n f l less h.1 same) (same_flat a b n g l less h.2 same))

    -- the rest of the wires, behind those that are done
    valued : (done : List ℕ) (from : ℕ) (keys : List Key) → length done ≡ base + from → from + length keys ≤ length end.keys
        → ((k : ℕ) (key : Key) → slice_get keys k ≡ Some key → IsBodyBelow p (from + k) key.body)
        → (k : ℕ) (key : Key) → slice_get keys k ≡ Some key
        → slice_index (after done (wire_nets p from keys)) (base + from + k) ≡ assigned (env_of m (after done (wire_nets p from keys)) old.cells) key.width (body_tree p key.body)
    valued done from [] many less low k key e = absurd (cc)
    valued done from (x ∷ keys) many less low zero key e =
        let v = assigned (env_of m done old.cells) x.width (body_tree p x.body) in
        let finish = after (done ++ (v ∷ [])) (wire_nets p (suc from) keys) in
        let longer : length (done ++ (v ∷ [])) ≡ length done + 1 = length-append done (v ∷ []) in
        let here : x ≡ key = cc in
        let same : Agree done finish from = λ j h. sym (done_stays (done ++ (v ∷ [])) (wire_nets p (suc from) keys) j (omega (arith, longer, many, h)) ∙ get_or_append_left done (v ∷ []) 0 j (omega (arith, many, h))) in
        let low0 : IsBodyBelow p from x.body = subst (λ (n : ℕ). IsBodyBelow p n x.body) {x = from + 0} {y = from} (omega arith) (low zero x refl) in
        let at : slice_index finish (length done) ≡ assigned (env_of m finish old.cells) x.width (body_tree p x.body) =
        done_stays (done ++ (v ∷ [])) (wire_nets p (suc from) keys) (length done) (omega (arith, longer)) ∙ get_or-append_seam done v [] 0
        ∙ stable done finish from x.width x.body (omega (arith, less)) low0 same in
        let place : base + from + 0 ≡ length done = omega (arith, many) in
        subst (λ (key : Key). slice_index finish (base + from + 0) ≡ assigned (env_of m finish old.cells) key.width (body_tree p key.body)) here
        (ap (slice_index finish) place ∙ at)
    valued done from (x ∷ keys) many less low (suc k) key e =
        let v = assigned (env_of m done old.cells) x.width (body_tree p x.body) in
        let finish = after (done ++ (v ∷ [])) (wire_nets p (suc from) keys) in
        let next : (j : ℕ) (key : Key) → slice_get keys j ≡ Some key → IsBodyBelow p (suc from + j) key.body =
        λ j key h. subst (λ (n : ℕ). IsBodyBelow p n key.body) {x = from + suc j} {y = suc from + j} (omega arith) (low (suc j) key h) in
        let place : base + from + suc k ≡ base + suc from + k = omega arith in
        ap (slice_index finish) place
        ∙ valued (done ++ (v ∷ [])) (suc from) keys (omega (arith, length-append done (v ∷ []), many)) (omega (arith, less)) next k key e

    abbrev first : List ℕ
    first = old.items ++ pins

    first_many : length first ≡ base
    first_many = omega (arith, length-append old.items pins, items_many, pins_many)

    edge_values : settled m old.cells first (nets m.members) ≡ after first (wire_nets p 0 end.keys)
    edge_values = ap (after first) (nets_is p end)

    abbrev pub env : Env
    env = edge_env m old pins

    at_edge : (k : ℕ) → k < base → slice_index (settled m old.cells first (nets m.members)) k ≡ slice_index first k
    at_edge k h = done_stays first (nets m.members) k (omega (arith, first_many, h))

    pub knows : Knows p old pins env
    knows = record {
      item = λ i h.
          ap (slice_index (settled m old.cells first (nets m.members))) (item_place_is i h)
          ∙ at_edge i (omega (arith, h)) ∙ get_or_append_left old.items pins 0 i (omega (arith, items_many, h));
      item_wide = item_wide_is;
      pin = λ i h.
          ap (slice_index (settled m old.cells first (nets m.members))) (pin_place_is i h)
          ∙ at_edge (length p.items + i) (omega (arith, h))
          ∙ ap (λ (n : ℕ). slice_index first (n + i)) (sym items_many) ∙ behind old.items pins i 0;
      pin_wide = pin_wide_is;
      cell = λ a j h. ap (λ (n : ℕ). slice_index (slice_index_or old.cells n []) j) (array_place_is a h);
      cell_wide = array_wide_is;
    }

    pub solves : Solves p env end.keys
    solves k key e =
        let h = slice_get_within end.keys k key e in
        let all_values = settled m old.cells first (nets m.members) in
        let low : (j : ℕ) (key : Key) → slice_get end.keys j ≡ Some key → IsBodyBelow p (0 + j) key.body =
        λ j key h. subst (λ (n : ℕ). IsBodyBelow p n key.body) {x = j} {y = 0 + j} (omega arith) (ordered j key h).below in
        let is : slice_index (after first (wire_nets p 0 end.keys)) (base + 0 + k) ≡ assigned (env_of m (after first (wire_nets p 0 end.keys)) old.cells) key.width (body_tree p key.body) =
        valued first 0 end.keys (omega (arith, first_many)) (omega arith) low k key e in
        let place : base + k ≡ base + 0 + k = omega arith in (
          ap (slice_index all_values) (wire_place_is k h ∙ place)
              ∙ subst (λ (values : List ℕ). slice_index values (base + 0 + k) ≡ assigned (env_of m values old.cells) key.width (body_tree p key.body)) (sym edge_values) is,
          wire_wide_is k key e,
        )
