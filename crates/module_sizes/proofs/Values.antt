-- What expressions cost once they are lowered: no more than they are worth beside the names in them.
use Rattle.std.proofs.Common.{◌≡◌, ℕ, ◌+◌, ◌≤◌, List, [], ◌++◌, refl, arith}
use Rattle.std.specs.Prelude.{sum_by}
use Rattle.std.proofs.lemmas.List.Sums.{sum_by-cons, sum_by-append}
use Rattle.lisa_tree.specs.Expressions as exprs
use Rattle.lisa_tree.specs.Expressions.{ExprTree}
use Rattle.description_places.specs.Literals.{literal}
use Rattle.step_program.specs.Programs.{Program}
use Rattle.step_pieces.specs.Pieces.{Piece, behind, top}
use Rattle.lowered_values.specs.Operands.{Operand}
use Rattle.lowered_values.specs.Templates.{made_by, chosen_by, as_shape, complement, negated}
use Rattle.lowered_values.specs.Sources.{Sources, cell_at}
use Rattle.lowered_values.specs.Computed.{Computed, kept, computed}
use Rattle.lowered_edges.specs.lowered_behaviors.Values.{names_in}
use Rattle.module_sizes.specs.Costs.{Rates, IsLongest, expr_cost, IsFree}
use Rattle.module_sizes.specs.Worths.{Naming, value_worth}
use Rattle.module_sizes.proofs.Templates.{made_cost, chosen_cost, shape_cost, complement_cost, negated_cost, element_cost}
use Rattle.module_sizes.proofs.Adding.{total, behind_cost, held_cost}

module _ (p : Program) (most : ℕ) (longest : IsLongest most) (rates : Rates) where
  -- what an expression leaves is a leaf, and its steps cost so much
  pub record Costs (n : ℕ) (c : Computed) : Type 0 where
    pub out : IsFree p most rates c.out.at
    pub low : total p most rates c.piece ≤ n

  pub costs_more : (m n : ℕ) (c : Computed) → m ≤ n → Costs m c → Costs n c
  costs_more m n c low h = record { out = h.out; low = let l = h.low in omega (arith, low, l) }

  -- what names stand for are leaves, and the cells of elements have the rates that their names are told with
  pub record AreFree (names : Naming) (s : Sources) : Type 0 where
    pub named : (n : List ℕ) → IsFree p most rates (s.named n).at
    pub element : (n : List ℕ) → rates.read (s.element n).array ≤ names.element n
    pub input : (field : List ℕ) → IsFree p most rates (s.input field).at
    pub boundary : (pipe before after field : List ℕ) → IsFree p most rates (s.boundary pipe before after field).at
    pub decoded : IsFree p most rates s.decoded.at

  -- one temp more
  pub kept_costs : (from : ℕ) (a : Piece) (x : Operand) (m n l : ℕ) → total p most rates a ≤ m → expr_cost p most rates x.at ≤ n → m + n + 243 ≤ l → Costs l (kept from a x)
  kept_costs from a x m n l h k low = record { out = refl; low = let all = held_cost p most rates longest from a x.width x.at m n h k in omega (arith, all, low) }

  module _ (names : Naming) (s : Sources) (free : AreFree names s) where
    abbrev named : ExprTree → ℕ
    named e = sum_by names.read (names_in e)

    -- an expression without the names in it
    pub record IsWorth (from : ℕ) (e : ExprTree) : Type 0 where
      pub own : ℕ
      pub costs : Costs own (computed s from e)
      pub worth : own + named e ≤ value_worth names e

    leaf_worth : (from : ℕ) (e : ExprTree) → IsFree p most rates (computed s from e).out.at → total p most rates (computed s from e).piece ≤ 0 → named e ≤ value_worth names e → IsWorth from e
    leaf_worth from e out none worth = record { own = 0; costs = record { out = out; low = none }; worth = omega (arith, worth) }

    named_two : (a b : List (List ℕ)) → sum_by names.read (a ++ b) ≡ sum_by names.read a + sum_by names.read b
    named_two a b = sum_by-append names.read a b

    pub value_costs : (e : ExprTree) (from : ℕ) → IsWorth from e
    value_costs (exprs.Number v base) from = leaf_worth from (exprs.Number v base) refl (omega arith) (omega arith)
    value_costs (exprs.Named n) from =
        let one = sum_by-cons names.read n [] in
        leaf_worth from (exprs.Named n) (free.named n) (omega arith) (omega (arith, one))
    value_costs (exprs.Element n index) from =
        let i = value_costs index from in
        let x = computed s from index in
        let w = i.worth in
        let r = free.element n in
        record {
          own = i.own + 1145 + rates.read (s.element n).array;
          costs = kept_costs from x.piece (cell_at (s.element n) x.out) i.own (902 + rates.read (s.element n).array) (i.own + 1145 + rates.read (s.element n).array) i.costs.low
              (element_cost p most longest rates (s.element n) x.out i.costs.out) (omega arith);
          worth = omega (arith, w, r);
        }
    value_costs (exprs.Input field) from = leaf_worth from (exprs.Input field) (free.input field) (omega arith) (omega arith)
    value_costs (exprs.Output field) from = leaf_worth from (exprs.Output field) (free.input field) (omega arith) (omega arith)
    value_costs (exprs.Boundary pipe before after field) from = leaf_worth from (exprs.Boundary pipe before after field) (free.boundary pipe before after field) (omega arith) (omega arith)
    value_costs exprs.Decoded from = leaf_worth from exprs.Decoded free.decoded (omega arith) (omega arith)
    value_costs (exprs.Cast shape a) from =
        let i = value_costs a from in
        let x = computed s from a in
        let w = i.worth in
        record {
          own = i.own + 702;
          costs = kept_costs from x.piece (as_shape shape x.out) i.own 459 (i.own + 702) i.costs.low (shape_cost p most longest rates shape x.out i.costs.out) (omega arith);
          worth = omega (arith, w);
        }
    value_costs (exprs.Complement a) from =
        let i = value_costs a from in
        let x = computed s from a in
        let w = i.worth in
        record {
          own = i.own + 498;
          costs = kept_costs from x.piece (complement x.out) i.own 255 (i.own + 498) i.costs.low (complement_cost p most longest rates x.out i.costs.out) (omega arith);
          worth = omega (arith, w);
        }
    value_costs (exprs.Negate a) from =
        let i = value_costs a from in
        let x = computed s from a in
        let w = i.worth in
        record {
          own = i.own + 685;
          costs = kept_costs from x.piece (negated x.out) i.own 442 (i.own + 685) i.costs.low (negated_cost p most longest rates x.out i.costs.out) (omega arith);
          worth = omega (arith, w);
        }
    value_costs (exprs.Two operator a b) from =
        let i = value_costs a from in
        let x = computed s from a in
        let j = value_costs b (top from x.piece) in
        let y = computed s (top from x.piece) b in
        let v = i.worth in
        let w = j.worth in
        let both = named_two (names_in a) (names_in b) in
        record {
          own = i.own + j.own + 1943;
          costs = kept_costs from (behind x.piece y.piece) (made_by operator (literal a) (literal b) x.out y.out) (i.own + j.own) 1700 (i.own + j.own + 1943)
              (behind_cost p most rates x.piece y.piece i.own j.own i.costs.low j.costs.low)
              (made_cost p most longest rates (literal a) (literal b) x.out y.out i.costs.out j.costs.out operator) (omega arith);
          worth = omega (arith, v, w, both);
        }
    value_costs (exprs.Choose c a b) from =
        let h = value_costs c from in
        let test = computed s from c in
        let i = value_costs a (top from test.piece) in
        let x = computed s (top from test.piece) a in
        let j = value_costs b (top from (behind test.piece x.piece)) in
        let y = computed s (top from (behind test.piece x.piece)) b in
        let u = h.worth in
        let v = i.worth in
        let w = j.worth in
        let more = named_two (names_in a) (names_in b) in
        let all = named_two (names_in c) (names_in a ++ names_in b) in
        record {
          own = h.own + i.own + j.own + 1943;
          costs = kept_costs from (behind (behind test.piece x.piece) y.piece) (chosen_by test.out (literal a) (literal b) x.out y.out) (h.own + i.own + j.own) 1700 (h.own + i.own + j.own + 1943)
              (behind_cost p most rates (behind test.piece x.piece) y.piece (h.own + i.own) j.own (behind_cost p most rates test.piece x.piece h.own i.own h.costs.low i.costs.low) j.costs.low)
              (chosen_cost p most longest rates (literal a) (literal b) x.out y.out i.costs.out j.costs.out test.out h.costs.out) (omega arith);
          worth = omega (arith, u, v, w, more, all);
        }
