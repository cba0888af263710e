-- What expressions cost with all that the children in them may choose: no more than they are worth.
use Rattle.std.proofs.Common.{ℕ, zero, suc, ◌+◌, ◌≤◌, Bool, true, false, List, [], ◌∷◌, Option, None, Some, refl, arith, cond}
use Rattle.std.specs.Prelude.{sum_by}
use Rattle.std.specs.Option.{is_some}
use Rattle.std.specs.Map.{lookup}
use Rattle.std.proofs.lemmas.List.Sums.{sum_by-cons}
use Rattle.lisa_tree.specs.Expressions.{ExprTree}
use Rattle.lisa_tree.specs.Descriptions.{DescriptionTree}
use Rattle.lisa_tree.specs.declared.declared.Meaning.{Meaning}
use Rattle.lisa_tree.specs.declared.declared.Meaning.TheVariants as meanings
use Rattle.lisa_tree.specs.Same.{same_name}
use Rattle.lisa_tree.specs.Resources.{stage_at}
use Rattle.lisa_tree.specs.Meanings.{meaning}
use Rattle.lisa_tree.specs.Operations.{sections_at, expression_in, own_stage}
use Rattle.description_types.specs.Types.{meant_type}
use Rattle.step_program.specs.Programs.{Program, Expr, Before}
use Rattle.touch_promises.specs.lisa_meaning.Values.{field_place, shape_at, stage_before}
use Rattle.touch_promises.specs.lisa_meaning.Scenes.{declared, is_label}
use Rattle.step_pieces.specs.Pieces.{top}
use Rattle.lowered_values.specs.Operands.{Operand}
use Rattle.lowered_values.specs.Computed.{Computed, leaf, computed}
use Rattle.lowered_edges.specs.lowered_statements.Scopes.{Scope}
use Rattle.lowered_edges.specs.lowered_resources.Places.{Places}
use Rattle.lowered_edges.specs.lowered_resources.Reading.{Known, absent, boundary_operand, meant_operand, sources}
use Rattle.lowered_edges.specs.lowered_behaviors.Standpoints.{Standpoint, running, home, alternatives_at, alternatives, own_way}
use Rattle.lowered_edges.specs.lowered_behaviors.Values.{Ground, names_in, Prepared, prepared, known_of, reading, child_value, label_at, declared_here, meant_here, name_here, expression_of, expressed, value_within}
use Rattle.module_sizes.specs.Costs.{Rates, IsLongest, IsFree}
use Rattle.module_sizes.specs.Worths.{unit, Naming, value_worth}
use Rattle.module_sizes.specs.Standing.{read_worth, read_at, AreNamed}
use Rattle.module_sizes.proofs.Adding.{total, behind_cost}
use Rattle.module_sizes.proofs.Values.{Costs, costs_more, AreFree, value_costs}
use Rattle.module_sizes.proofs.Names.{leaf_costs, label_costs, child_costs, resource_free, field_free, decoded_free, name_free, AreKnown, known_free}

module _ (p : Program) (most : ℕ) (longest : IsLongest most) (rates : Rates) where
  abbrev Free : Expr → Type 0
  Free e = IsFree p most rates e

  abbrev Few : ℕ → Computed → Type 0
  Few n c = Costs p most longest rates n c

  abbrev Told : List (List ℕ × Operand) → Type 0
  Told known = AreKnown p most longest rates known

  -- ---- names read one after the other

  pub record AreReady (n : ℕ) (x : Prepared) : Type 0 where
    pub low : total p most rates x.piece ≤ n
    pub known : Told x.known

  prepared_costs : (one : ℕ → List ℕ → Computed) (w : List ℕ → ℕ) → ((from : ℕ) (n : List ℕ) → Few (w n) (one from n)) → (ns : List (List ℕ)) (from : ℕ) → AreReady (sum_by w ns) (prepared one from ns)
  prepared_costs one w each [] from = record { low = omega arith; known = tt }
  prepared_costs one w each (n ∷ rest) from =
      let x = one from n in
      let h = each from n in
      let y = prepared one (top from x.piece) rest in
      let more = prepared_costs one w each rest (top from x.piece) in
      let all = behind_cost p most rates x.piece y.piece (w n) (sum_by w rest) h.low more.low in
      let sum = sum_by-cons w n rest in
      record { low = omega (arith, all, sum); known = (h.out, more.known) }

  -- ---- what names stand for

  boundary_free : (d : DescriptionTree) (places : Places) (s f : Option ℕ) → Free (boundary_operand d places s f).at
  boundary_free d places None f = refl
  boundary_free d places (Some s) None = refl
  boundary_free d places (Some s) (Some f) = field_free p most longest rates (shape_at d f) (Before (places.field s f)) refl

  meant_free : (d : DescriptionTree) (known : Known) (n : List ℕ) (m : Meaning) → Free (known.named n).at → Free (meant_operand d known n m).at
  meant_free d known n meanings.Nothing h = refl
  meant_free d known n (meanings.Resource k) h = resource_free p most longest rates d k _
  meant_free d known n (meanings.Declared i) h = h

  module _ (g : Ground) (names : ℕ → Naming) (Stood : Standpoint → Type 0) (named : AreNamed g.description names rates Stood) where
    pub sources_free : (known : Known) (o : ℕ) (scope : Scope) → ((n : List ℕ) → Free (known.named n).at) → Free known.decoded.at → AreFree p most longest rates (names o) (sources g.description g.places known o scope)
    sources_free known o scope each decoded = record {
      named = λ n. name_free p most longest rates (lookup (same_name n) scope) (meant_operand g.description known n (meaning g.description o n)) (meant_free g.description known n (meaning g.description o n) (each n));
      element = λ n. named.element o n;
      input = λ field. boundary_free g.description g.places (stage_before (own_stage g.description o)) (field_place g.description field);
      boundary = λ pipe before after field. boundary_free g.description g.places (stage_at g.description before) (field_place g.description field);
      decoded = decoded;
    }

    -- behind the names that it reads, an expression costs what it is worth
    reading_costs : (at : Standpoint) (scope : Scope) (from : ℕ) (e : ExprTree) (x : Prepared) → AreReady (sum_by (names (running at)).read (names_in e)) x
        → Few (value_worth (names (running at)) e) (reading g at scope from e x)
    reading_costs at scope from e x ready =
        let known = known_of g x in
        let s = sources g.description g.places known (running at) scope in
        let free = sources_free known (running at) scope (λ n. known_free p most longest rates n x.known ready.known) (decoded_free p most longest rates g.row) in
        let v = value_costs p most longest rates (names (running at)) s free e (top from x.piece) in
        let c = computed s (top from x.piece) e in
        let all = behind_cost p most rates x.piece c.piece (sum_by (names (running at)).read (names_in e)) v.own ready.low v.costs.low in
        let worth = v.worth in
        record { out = v.costs.out; low = omega (arith, all, worth) }

    module _ (value : Standpoint → ℕ → Computed) (each : (a : Standpoint) (from : ℕ) → Stood a → Few (read_at g.description names a) (value a from)) where
      declared_costs : (at : Standpoint) (from : ℕ) (n : List ℕ) (m : Meaning) → Stood at → Few ((names (running at)).read n) (declared_here g value from n m (home g.description n at))
      declared_costs at from n m stood = go (is_label (declared g.description (running (home g.description n at)) n))
        where
          go : (b : Bool) → Few ((names (running at)).read n)
              (cond b (label_at g from n (home g.description n at)) (child_value value g (meant_type g.types g.description m) from (alternatives_at g.description n (home g.description n at))))
          go true =
              costs_more p most longest rates unit ((names (running at)).read n) (label_at g from n (home g.description n at)) (named.one_read (running at) n)
              (label_costs p most longest rates g.description from n g.row (own_way (home g.description n at)))
          go false =
              costs_more p most longest rates (sum_by (λ (a : Standpoint). unit + read_at g.description names a) (alternatives g.description n at)) ((names (running at)).read n)
              (child_value value g (meant_type g.types g.description m) from (alternatives g.description n at)) (named.read at n stood)
              (child_costs p most longest rates g value (read_at g.description names) Stood each (meant_type g.types g.description m) from (alternatives g.description n at) (named.stood at n stood))

      meant_costs : (at : Standpoint) (from : ℕ) (n : List ℕ) (m : Meaning) → Stood at → Few ((names (running at)).read n) (meant_here g value at from n m)
      meant_costs at from n meanings.Nothing stood = leaf_costs p most longest rates absent ((names (running at)).read n) refl
      meant_costs at from n (meanings.Resource k) stood = leaf_costs p most longest rates absent ((names (running at)).read n) refl
      meant_costs at from n (meanings.Declared i) stood = declared_costs at from n (meanings.Declared i) stood

      name_costs : (at : Standpoint) (scope : Scope) (from : ℕ) (n : List ℕ) → Stood at → Few ((names (running at)).read n) (name_here g value at scope from n)
      name_costs at scope from n stood = go (is_some (lookup (same_name n) scope))
        where
          go : (b : Bool) → Few ((names (running at)).read n) (cond b (leaf absent) (meant_here g value at from n (meaning g.description (running at) n)))
          go true = leaf_costs p most longest rates absent ((names (running at)).read n) refl
          go false = meant_costs at from n (meaning g.description (running at) n) stood

    expression_costs : (a : Standpoint) (value : ExprTree → Computed) → ((e : ExprTree) → Few (value_worth (names (running a)) e) (value e)) → (r : Option ExprTree) → Few (read_worth (names (running a)) r) (expression_of value r)
    expression_costs a value each None = leaf_costs p most longest rates absent 0 refl
    expression_costs a value each (Some e) = each e

    -- through children, however many levels deep
    pub within_costs : (more : ℕ) (at : Standpoint) (scope : Scope) (from : ℕ) (e : ExprTree) → Stood at → Few (value_worth (names (running at)) e) (value_within more g at scope from e)
    within_costs zero at scope from e stood = leaf_costs p most longest rates absent (value_worth (names (running at)) e) refl
    within_costs (suc more) at scope from e stood =
        let value : Standpoint → ℕ → Computed = expressed g.description (λ a from e. value_within more g a [] from e) in
        reading_costs at scope from e (prepared (name_here g value at scope) from (names_in e))
        (prepared_costs (name_here g value at scope) (names (running at)).read
        (λ from n. name_costs value
        (λ a from stood. expression_costs a (λ e. value_within more g a [] from e) (λ e. within_costs more a [] from e stood) (expression_in (sections_at g.description (running a))))
        at scope from n stood) (names_in e) from)
