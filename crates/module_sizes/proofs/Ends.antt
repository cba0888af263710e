-- What the ends of an edge cost: the next values of bits, words and fields, each with its item no more than a unit.
use Rattle.std.proofs.Common.{◌≤◌, ◌*◌, ◌++◌, ℕ, zero, suc, Bool, true, false, List, [], ◌∷◌, Option, None, Some, length, map, cond, nat_eq, refl, ap, arith, length-append}
use Rattle.step_program.specs.Programs.{Program, Expr, Before, Temp, Move}
use Rattle.pipeline_time.specs.Acts.{size}
use Rattle.pipeline_time.specs.Cores.{Core, above_of, slot_level}
use Rattle.module_sizes.specs.Charges.{operand_most}
use Rattle.lowered_time.specs.Building.{Operations, Layout, slot_at, held_at, open_at, recorded_at, place_word, stage_word, stood, came, next_bit, next_word, set_place, bit_ends, ends}
use Rattle.lisa_tree.specs.Descriptions.{DescriptionTree}
use Rattle.lisa_tree.specs.Resources.{fields}
use Rattle.std.specs.List.{flat_map, range_with_len}
use Rattle.std.proofs.lemmas.List.Concat.{flat_map-cons}
use Rattle.lowered_edges.specs.lowered_resources.Places.{Written, Out}
use Rattle.lowered_edges.specs.lowered_layouts.Temps.{temp, boundary_count}
use Rattle.lowered_edges.specs.lowered_layouts.Items.{field_place}
use Rattle.lowered_edges.specs.lowered_layouts.Ends as closing
use Rattle.lowered_edges.specs.lowered_layouts.Ends.{before_field, next_field, field_end, boundary_ends}
use Rattle.module_sizes.specs.Costs.{Rates, IsLongest, expr_cost, IsFree, moves_cost}
use Rattle.module_sizes.proofs.Operands.{temp_low, operand_low}
use Rattle.module_sizes.proofs.Adding.{moves_append}

module _ (p : Program) (most : ℕ) (longest : IsLongest most) (rates : Rates) where
  abbrev Free : Expr → Type 0
  Free e = IsFree p most rates e

  abbrev cost : List Move → ℕ
  cost moves = moves_cost p most rates moves

  -- ---- bits and words

  module _ {R M : Type 0} (core : Core R M) (ops : Operations) (layout : Layout) (flushed : (level : ℕ) → Free (ops.flushed level)) (short : (level : ℕ) → operand_most p most (ops.flushed level) ≤ 27) where
    stood_free : (r : Option ℕ) → Free (stood core ops layout r)
    stood_free None = refl
    stood_free (Some place) = refl

    came_free : (level number : ℕ) → Free (came core ops layout level number)
    came_free level number = by (nat_eq level (above_of core number)) (stood_free (layout.bit level number))
      where
        by : (b : Bool) → Free (stood core ops layout (layout.bit level number)) → Free (cond b (Temp (recorded_at core.stages number)) (stood core ops layout (layout.bit level number)))
        by true h = refl
        by false h = h

    word_free : (level : ℕ) → Free (stage_word core ops layout level)
    word_free level = by (nat_eq level (slot_level core)) (placed (layout.word level))
      where
        placed : (r : Option ℕ) → Free (place_word core ops layout r)
        placed None = refl
        placed (Some place) = refl

        by : (b : Bool) → Free (place_word core ops layout (layout.word level)) → Free (cond b (Temp slot_at) (place_word core ops layout (layout.word level)))
        by true h = refl
        by false h = h

    bit_cost : (level number place : ℕ) → expr_cost p most rates (next_bit core ops layout level number place) ≤ 856
    bit_cost level number place =
        let before = operand_low p most longest (Before place) in
        let c = operand_low p most longest (came core ops layout level number) in
        let free = came_free level number in
        let f = flushed (suc level) in
        let s = short (suc level) in
        let held = temp_low p most (held_at (suc level)) in
        let open' = temp_low p most (open_at level) in
        omega (arith, before, c, free, f, s, held, open')

    word_cost : (level place : ℕ) → expr_cost p most rates (next_word core ops layout level place) ≤ 856
    word_cost level place =
        let before = operand_low p most longest (Before place) in
        let w = operand_low p most longest (stage_word core ops layout level) in
        let free = word_free level in
        let f = flushed (suc level) in
        let s = short (suc level) in
        let held = temp_low p most (held_at (suc level)) in
        let open' = temp_low p most (open_at level) in
        omega (arith, before, w, free, f, s, held, open')

    bit_move : (level number : ℕ) (r : Option ℕ) → cost (set_place core ops layout r (next_bit core ops layout level number)) ≤ 856 * length (set_place core ops layout r (next_bit core ops layout level number))
    bit_move level number None = omega arith
    bit_move level number (Some place) = let h = bit_cost level number place in omega (arith, h)

    word_move : (level : ℕ) (r : Option ℕ) → cost (set_place core ops layout r (next_word core ops layout level)) ≤ 856 * length (set_place core ops layout r (next_word core ops layout level))
    word_move level None = omega arith
    word_move level (Some place) = let h = word_cost level place in omega (arith, h)

    both_cost : (xs ys : List Move) → cost xs ≤ 856 * length xs → cost ys ≤ 856 * length ys → cost (xs ++ ys) ≤ 856 * length (xs ++ ys)
    both_cost xs ys h k =
        let all = moves_append p most rates xs ys in
        let many = length-append xs ys in
        omega (arith, all, many, h, k)

    bits_cost : (level number : ℕ) → cost (bit_ends core ops layout level number) ≤ 856 * length (bit_ends core ops layout level number)
    bits_cost level zero = omega arith
    bits_cost level (suc number) =
        both_cost (bit_ends core ops layout level number) (set_place core ops layout (layout.bit (suc level) number) (next_bit core ops layout level number)) (bits_cost level number)
        (bit_move level number (layout.bit (suc level) number))

    pub ends_cost : (level : ℕ) → cost (ends core ops layout level) ≤ 856 * length (ends core ops layout level)
    ends_cost zero = omega arith
    ends_cost (suc level) =
        let bits = bit_ends core ops layout level (suc (size core.acts)) in
        let word = set_place core ops layout (layout.word (suc level)) (next_word core ops layout level) in
        both_cost (ends core ops layout level) (bits ++ word) (ends_cost level) (both_cost bits word (bits_cost level (suc (size core.acts))) (word_move level (layout.word (suc level))))

  -- ---- fields

  module _ (d : DescriptionTree) (held free : ℕ → Expr) (held_free : (level : ℕ) → Free (held level)) (free_free : (level : ℕ) → Free (free level))
      (held_short : (level : ℕ) → operand_most p most (held level) ≤ 27) (free_short : (level : ℕ) → operand_most p most (free level) ≤ 27) where
    before_free : (s f : ℕ) → Free (before_field d s f)
    before_free zero f = refl
    before_free (suc s) f = refl

    field_cost : (s f : ℕ) → expr_cost p most rates (next_field d held free s f) ≤ 856
    field_cost s f =
        let own = operand_low p most longest (Before (field_place d s f)) in
        let old = operand_low p most longest (before_field d s f) in
        let b = before_free s f in
        let h = held_free (suc (suc s)) in
        let g = free_free (suc s) in
        let i = held_short (suc (suc s)) in
        let j = free_short (suc s) in
        let written = temp_low p most (temp d (Written s f)) in
        let out = temp_low p most (temp d (Out s f)) in
        omega (arith, own, old, b, h, g, i, j, written, out)

    boundary_cost : (s : ℕ) (fs : List ℕ) → cost (map (field_end d held free s) fs) ≤ 856 * length (map (field_end d held free s) fs)
    boundary_cost s [] = omega arith
    boundary_cost s (f ∷ fs) = let one = field_cost s f in let more = boundary_cost s fs in omega (arith, one, more)

    boundaries_cost : (ss : List ℕ) → cost (flat_map (boundary_ends d held free) ss) ≤ 856 * length (flat_map (boundary_ends d held free) ss)
    boundaries_cost [] = omega arith
    boundaries_cost (s ∷ ss) =
        let fs = range_with_len 0 (length (fields d)) in
        let all = flat_map-cons (boundary_ends d held free) s ss in
        let both = moves_append p most rates (map (field_end d held free s) fs) (flat_map (boundary_ends d held free) ss) in
        let many = length-append (map (field_end d held free s) fs) (flat_map (boundary_ends d held free) ss) in
        let one = boundary_cost s fs in
        let more = boundaries_cost ss in
        let same = ap cost all in
        let count = ap (λ (xs : List Move). length xs) all in
        omega (arith, both, many, one, more, same, count)

    pub fields_cost : (from : ℕ) → cost (closing.ends d held free from).moves ≤ 856 * length (closing.ends d held free from).moves
    fields_cost from = boundaries_cost (range_with_len 0 (boundary_count d))
