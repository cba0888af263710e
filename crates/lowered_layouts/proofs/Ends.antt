-- As an edge ends, the fields of boundaries become what is meant, and nothing else changes.
use Rattle.std.proofs.Common.{◌≡◌, ◌≢◌, ◌<◌, ◌≤◌, ◌+◌, ◌-◌, ◌||◌, ◌∙◌, ◌⊎◌, ℕ, zero, suc, Bool, true, false, cond, List, [], ◌∷◌, Option, None, Some, length, map, get_or, set, nat_eq, refl, sym, ap, subst, arith, inl, inr, ⊎_elim}
use Rattle.std.specs.Prelude.{slice_index, unwrap_or, if◌then◌else◌}
use Rattle.std.specs.Option.{is_some}
use Rattle.std.specs.List.{range_with_len}
use Rattle.std.proofs.lemmas.Bool.{cases_eq}
use Rattle.std.proofs.lemmas.List.{length-set, get_or-set_same, get_or-set_other}
use Rattle.std.proofs.lemmas.List.FromFn.{get_or-map-range_with_len}
use Rattle.lisa_tree.specs.Descriptions.{DescriptionTree}
use Rattle.lisa_tree.specs.Resources.{stages, fields}
use Rattle.machine_parts.specs.Parts.{registers_of}
use Rattle.instruction_trees.specs.Trees.{In, here, there}
use Rattle.instruction_trees.proofs.Listing.{in_map, from_map, in_flat, from_flat}
use Rattle.item_layouts.specs.declared.place.ItemPlace.TheVariants.{Field, Word, Bit}
use Rattle.item_layouts.specs.Layouts.{place_of}
use Rattle.step_program.specs.Programs.{Program, Expr, Temp, Aim, ToItem, ToTemp, ToCell, Move}
use Rattle.step_program.specs.Effects.{Moment, value, effect, chosen, kept}
use Rattle.step_pieces.specs.Running.{ran}
use Rattle.pipeline_time.specs.Edges.{is_held, is_flushed}
use Rattle.state_items.specs.lisa_meaning.Moments as moments
use Rattle.state_items.specs.lisa_meaning.Moments.{field_at, field_before, written, closed_field, by_boundaries, close_moment}
use Rattle.state_items.specs.lisa_meaning.Cores.{core_of}
use Rattle.state_items.specs.lisa_meaning.States.{layout_of}
use Rattle.lowered_time.specs.Building.{held_at, open_at}
use Rattle.lowered_time.specs.Lowering.{bit, IsTimes, a_bit, a_word, Keeps}
use Rattle.lowered_resources.specs.Places.{Written, Out, HasField}
use Rattle.lowered_resources.specs.Holding.{HoldsBefore, HoldsNow, Holds}
use Rattle.lowered_layouts.specs.Temps.{temp, boundary_count}
use Rattle.lowered_layouts.specs.Items.{field_place, bit_place, word_place, time_layout, places_of, IsArranged}
use Rattle.lowered_layouts.specs.Ends.{before_field, next_field, field_end, boundary_ends, ends}
use Rattle.lowered_layouts.specs.States.{HasContents}
use Rattle.lowered_layouts.specs.Laws.{held_temp, open_temp, AreControlled}
use Rattle.lowered_layouts.proofs.Items.{one_place, field_is, fields_apart, register_at, field_behind, place_within}

-- ---- lists

in_cons : {X : Type 0} {x y : X} {xs : List X} → In x (y ∷ xs) → (x ≡ y) ⊎ In x xs
in_cons here = inl refl
in_cons (there i) = inr i

pub in_range : (a n k : ℕ) → a ≤ k → k < a + n → In k (range_with_len a n)
in_range a zero k l h = absurd (omega (arith, l, h))
in_range a (suc n) k l h = ⊎_elim
    (λ same. subst (λ (m : ℕ). In m (a ∷ range_with_len (a + 1) n)) same here)
    (λ other. there (in_range (a + 1) n k (more other) (omega (arith, h))))
    (cases_eq a k)
  where
    more : a ≢ k → a + 1 ≤ k
    more other = grind arith

pub range_in : (a n k : ℕ) → In k (range_with_len a n) → (a ≤ k) × (k < a + n)
range_in a zero k i = elim i [ ]
range_in a (suc n) k here = (omega arith, omega arith)
range_in a (suc n) k (there i) = let t = range_in (a + 1) n k i in (omega (arith, t.0), omega (arith, t.1))

-- ---- what a field becomes, by what is read

pub closes_by : (h l f : Bool) (w : Option ℕ) (hold old free mark out past was : ℕ) → hold ≡ bit h → old ≡ was → free ≡ bit (cond l false (cond f false true)) → mark ≡ cond (is_some w) 1 0
    → ((bits : ℕ) → w ≡ Some bits → out ≡ bits) → (before : ℕ) → past ≡ before
    → chosen hold old (chosen free (chosen mark out past) 0) ≡ (if h then was else (if l || f then 0 else unwrap_or w before))
closes_by true l f w hold old free mark out past was is same opens marks outs before moves = ap (λ (n : ℕ). chosen n old (chosen free (chosen mark out past) 0)) is ∙ same
closes_by false true f w hold old free mark out past was is same opens marks outs before moves =
    ap (λ (n : ℕ). chosen n old (chosen free (chosen mark out past) 0)) is ∙ ap (λ (n : ℕ). chosen n (chosen mark out past) 0) opens
closes_by false false true w hold old free mark out past was is same opens marks outs before moves =
    ap (λ (n : ℕ). chosen n old (chosen free (chosen mark out past) 0)) is ∙ ap (λ (n : ℕ). chosen n (chosen mark out past) 0) opens
closes_by false false false None hold old free mark out past was is same opens marks outs before moves =
    ap (λ (n : ℕ). chosen n old (chosen free (chosen mark out past) 0)) is ∙ ap (λ (n : ℕ). chosen n (chosen mark out past) 0) opens ∙ ap (λ (n : ℕ). chosen n out past) marks ∙ moves
closes_by false false false (Some bits) hold old free mark out past was is same opens marks outs before moves =
    ap (λ (n : ℕ). chosen n old (chosen free (chosen mark out past) 0)) is ∙ ap (λ (n : ℕ). chosen n (chosen mark out past) 0) opens ∙ ap (λ (n : ℕ). chosen n out past) marks ∙ outs bits refl

-- ---- the steps

module _ (d : DescriptionTree) where
  abbrev End : ℕ → ℕ → Move
  End s f = field_end d held_temp open_temp s f

  pub record IsEnd (m : Move) : Type 0 where
    pub boundary : ℕ
    pub field : ℕ
    pub has : HasField d boundary field
    pub is : m ≡ End boundary field

  pub end_in : (s f from : ℕ) → HasField d s f → In (End s f) (ends d held_temp open_temp from).moves
  end_in s f from has =
      let low = has.0 in
      in_flat (boundary_ends d held_temp open_temp) (in_range 0 (boundary_count d) s (omega arith) (omega (arith, low)))
      (in_map (End s) (in_range 0 (length (fields d)) f (omega arith) (let less = has.1 in omega (arith, less))))

  pub is_end : (from : ℕ) (m : Move) → In m (ends d held_temp open_temp from).moves → IsEnd m
  is_end from m i =
      let a = from_flat (boundary_ends d held_temp open_temp) (range_with_len 0 (boundary_count d)) i in
      let b = from_map (End a.0) (range_with_len 0 (length (fields d))) a.2 in
      let r = range_in 0 (boundary_count d) a.0 a.1 in
      let q = range_in 0 (length (fields d)) b.0 b.1 in
      record { boundary = a.0; field = b.0; has = (omega (arith, r.1), omega (arith, q.1)); is = b.2 }

  pub field_of : (g : ℕ → ℕ → ℕ) (s f : ℕ) → HasField d s f → field_at (by_boundaries d g) s f ≡ g s f
  field_of g s f has =
      let low = has.0 in
      ap (λ (row : List ℕ). get_or row f 0)
      (get_or-map-range_with_len (λ t. map (g t) (range_with_len 0 (length (fields d)))) 0 (length (stages d) - 1) s s [] (omega (arith, low)) (omega arith))
      ∙ get_or-map-range_with_len (g s) 0 (length (fields d)) f f 0 has.1 (omega arith)

  module _ (p : Program) (before pins : List ℕ) where
    abbrev run : Moment → List Move → Moment
    run now moves = ran p before pins now moves

    -- temps alone tell what a field becomes
    abbrev with_temps : List ℕ → Moment
    with_temps temps = record { items = []; temps = temps; cells = [] }

    abbrev next : List ℕ → ℕ → ℕ → ℕ
    next temps s f = value p before pins (with_temps temps) (next_field d held_temp open_temp s f)

    next_is : (now : Moment) (s f : ℕ) → value p before pins now (next_field d held_temp open_temp s f) ≡ next now.temps s f
    next_is now zero f = refl
    next_is now (suc s) f = refl

    abbrev with_field : Moment → ℕ → ℕ → Moment
    with_field now s f = record { items = set now.items (field_place d s f) (next now.temps s f); temps = now.temps; cells = now.cells }

    stepped : (now : Moment) (m : Move) (e : IsEnd m) → effect p before pins now m ≡ with_field now e.boundary e.field
    stepped now m e =
        ap (effect p before pins now) e.is
        ∙ ap (λ (v : ℕ). (let made : Moment = record { items = set now.items (field_place d e.boundary e.field) v; temps = now.temps; cells = now.cells } in made)) (next_is now e.boundary e.field)

    -- all but the items of fields
    pub record LeavesRest (now after : Moment) : Type 0 where
      pub temps : after.temps ≡ now.temps
      pub cells : after.cells ≡ now.cells
      pub count : length after.items ≡ length now.items
      pub others : (place : ℕ) → ((s f : ℕ) → HasField d s f → field_place d s f ≡ place → ⊥) → get_or after.items place 0 ≡ get_or now.items place 0

    pub rest_left : (moves : List Move) → ((m : Move) → In m moves → IsEnd m) → (now : Moment) → LeavesRest now (run now moves)
    rest_left [] each now = record { temps = refl; cells = refl; count = refl; others = λ place never. refl }
    rest_left (m ∷ rest) each now =
        let e = each m here in
        let a = with_field now e.boundary e.field in
        let more = rest_left rest (λ n i. each n (there i)) a in
        subst (λ (x : Moment). LeavesRest now (run x rest)) (sym (stepped now m e))
        (record {
          temps = more.temps;
          cells = more.cells;
          count = more.count ∙ length-set now.items (field_place d e.boundary e.field) (next now.temps e.boundary e.field);
          others = λ place never.
              more.others place never
              ∙ get_or-set_other now.items (field_place d e.boundary e.field) place (next now.temps e.boundary e.field) 0 (λ same. never e.boundary e.field e.has (sym same));
        })

    -- the item of a field gets its value, and keeps it
    pub field_left : (s f v : ℕ) → HasField d s f → (moves : List Move) → ((m : Move) → In m moves → IsEnd m) → (now : Moment) → field_place d s f < length now.items → next now.temps s f ≡ v
        → (get_or now.items (field_place d s f) 0 ≡ v) ⊎ In (End s f) moves → get_or (run now moves).items (field_place d s f) 0 ≡ v
    field_left s f v has [] each now low is (inl e) = e
    field_left s f v has [] each now low is (inr i) = elim i [ ]
    field_left s f v has (m ∷ rest) each now low is which =
        let e = each m here in
        let a = with_field now e.boundary e.field in
        let long = length-set now.items (field_place d e.boundary e.field) (next now.temps e.boundary e.field) in
        let on : (get_or a.items (field_place d s f) 0 ≡ v) ⊎ In (End s f) rest → get_or (run a rest).items (field_place d s f) 0 ≡ v = field_left s f v has rest (λ n i. each n (there i)) a (omega (arith, low, long)) is in
        subst (λ (x : Moment). get_or (run x rest).items (field_place d s f) 0 ≡ v) (sym (stepped now m e))
        (on (⊎_elim (λ same. inl (taken e same)) (λ other. still e other which) (cases_eq (field_place d s f) (field_place d e.boundary e.field))))
      where
        taken : (e : IsEnd m) → field_place d s f ≡ field_place d e.boundary e.field → get_or (with_field now e.boundary e.field).items (field_place d s f) 0 ≡ v
        taken e same =
            let parts = fields_apart d s f e.boundary e.field has e.has same in
            ap (λ (place : ℕ). get_or (set now.items (field_place d e.boundary e.field) (next now.temps e.boundary e.field)) place 0) same
            ∙ get_or-set_same now.items (field_place d e.boundary e.field) (next now.temps e.boundary e.field) 0 (omega (arith, low, same))
            ∙ ap (λ (t : ℕ). next now.temps t e.field) (sym parts.0) ∙ ap (λ (g : ℕ). next now.temps s g) (sym parts.1) ∙ is

        aimed : Aim → ℕ
        aimed (ToItem place) = place
        aimed (ToTemp t) = 0
        aimed (ToCell array index) = 0

        still : (e : IsEnd m) → field_place d s f ≢ field_place d e.boundary e.field → (get_or now.items (field_place d s f) 0 ≡ v) ⊎ In (End s f) (m ∷ rest)
            → (get_or (with_field now e.boundary e.field).items (field_place d s f) 0 ≡ v) ⊎ In (End s f) rest
        still e other (inl h) = inl (get_or-set_other now.items (field_place d e.boundary e.field) (field_place d s f) (next now.temps e.boundary e.field) 0 other ∙ h)
        still e other (inr i) = ⊎_elim
            (λ same. absurd (other (ap (λ (move : Move). aimed move.aim) (same ∙ e.is))))
            (λ later. inr later)
            (in_cons i)

    -- ---- what is meant

    module _ (m : moments.Moment) (now : Moment) (holds : Holds d (places_of d) p before pins m now) (controlled : AreControlled d m now) where
      past_is : (s f : ℕ) → HasField d s f → value p before pins (with_temps now.temps) (before_field d s f) ≡ field_before m.memory.fields s f
      past_is zero f has = refl
      past_is (suc s) f has = let low = has.0 in holds.past.fields s f (omega (arith, low), has.1)

      pub closes : (s f : ℕ) → HasField d s f → next now.temps s f ≡ closed_field m s f
      closes s f has =
          let low = has.0 in
          closes_by (is_held m.stalled (suc (suc s))) (is_held m.stalled (suc s)) (is_flushed m.flushed (suc s)) (written m.outs s f) _ _ _ _ _ _ _
          (controlled.held (suc (suc s)) (omega arith) (omega (arith, low)))
          (holds.past.fields s f has)
          (controlled.free (suc s) (omega arith) (omega (arith, low)))
          (holds.present.marks s f has)
          (λ bits got. holds.present.outs s f bits has got)
          (field_before m.memory.fields s f) (past_is s f has)

  module _ (declared : Option ℕ) (width : ℕ) (p : Program) (arranged : IsArranged d declared width p) (before pins : List ℕ) (m : moments.Moment) (now : Moment) (holds : Holds d (places_of d) p before pins m now) (from : ℕ) where
    abbrev after : Moment
    after = ran p before pins now (ends d held_temp open_temp from).moves

    left : LeavesRest p before pins now after
    left = rest_left p before pins (ends d held_temp open_temp from).moves (is_end from) now

    pub has_contents : AreControlled d m now → HasContents d (close_moment d m) (kept after)
    has_contents controlled = record {
      registers = λ k low. left.others k (λ s f has same. (let behind = field_behind d s f has in omega (arith, behind, same, low))) ∙ holds.present.registers k low;
      fields = λ s f has.
          (let within = place_within d declared width p arranged (Field s f) (field_place d s f) (field_is d s f has) in
          let count = holds.item_count in
          field_left p before pins s f (closed_field m s f) has (ends d held_temp open_temp from).moves (is_end from) now (omega (arith, within, count)) (closes p before pins m now holds controlled s f has) (inr (end_in s f from has))
          ∙ sym (field_of (closed_field m) s f has));
      cells = left.cells ∙ holds.present.cells;
    }

    not_times : (place : ℕ) → IsTimes (time_layout d width) place → (s f : ℕ) → HasField d s f → field_place d s f ≡ place → ⊥
    not_times place (a_bit zero number is) s f has same = absurd (cc is)
    not_times place (a_bit (suc level) number is) s f has same =
        let one : Field s f ≡ Bit level number = one_place d (Field s f) (Bit level number) place (field_is d s f has ∙ ap (λ (n : ℕ). Some n) same) is in cc one
    not_times place (a_word zero is) s f has same = absurd (cc is)
    not_times place (a_word (suc level) is) s f has same =
        let one : Field s f ≡ Word level = one_place d (Field s f) (Word level) place (field_is d s f has ∙ ap (λ (n : ℕ). Some n) same) is in cc one

    pub ends_keep : Keeps (core_of d) (time_layout d width) from now after
    ends_keep = record {
      times = λ t low. ap (λ (ts : List ℕ). get_or ts t 0) left.temps;
      others = λ t least low. ap (λ (ts : List ℕ). get_or ts t 0) left.temps;
      temp_count = ap (λ (ts : List ℕ). length ts) left.temps;
      item_count = left.count;
      places = λ place is. left.others place (not_times place is);
    }
