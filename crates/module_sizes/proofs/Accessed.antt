-- What reads and writes of arrays add to the worth of texts: no more than is counted of them.
use Rattle.std.proofs.Common.{◌≡◌, ◌≤◌, ◌+◌, ◌*◌, ◌++◌, max, ℕ, zero, suc, List, [], ◌∷◌, Option, None, Some, refl, ap, arith, inl, inr}
use Rattle.std.specs.Prelude.{sum_by}
use Rattle.std.specs.Option.{option_map_or}
use Rattle.std.proofs.lemmas.List.Sums.{sum_by-cons}
use Rattle.lisa_tree.specs.Expressions as exprs
use Rattle.lisa_tree.specs.Expressions.{ExprTree}
use Rattle.lisa_tree.specs.Statements as stmts
use Rattle.lisa_tree.specs.Statements.{HeadTree, StmtTree, StmtTrees}
use Rattle.lisa_tree.specs.Descriptions.{DescriptionTree}
use Rattle.lisa_tree.specs.Resources.{resource_at}
use Rattle.lisa_tree.specs.Operations.{sections_at, expression_in, behavior_in}
use Rattle.lisa_tree.specs.Declarations.{declared_at}
use Rattle.lisa_tree.specs.Meanings.{meaning_of}
use Rattle.description_places.specs.declared.sites.Region.{Region}
use Rattle.description_places.specs.declared.sites.Region.TheVariants as regions
use Rattle.description_places.specs.Scopes.{Scope}
use Rattle.description_places.specs.Places.{At, at, uses, targets, with_counter, head_places, after, places, all_places}
use Rattle.description_places.specs.Places as marks
use Rattle.shape_checks.specs.Bounds.{bounds_of, turns}
use Rattle.lisa_machine.specs.Freedom.{Stands, AllStand}
use Rattle.lisa_machine.specs.Soundness.{IsSound}
use Rattle.lisa_machine.proofs.Among.{stand_both}
use Rattle.lisa_machine.proofs.Standing.{behavior_stand, expression_stand}
use Rattle.lisa_machine.proofs.Resolved.{read_element}
use Rattle.access_counts.specs.Accesses.{Access, value_accesses, place_accesses, statement_accesses, statements_accesses}
use Rattle.access_counts.specs.Accesses as counting
use Rattle.access_counts.specs.Unfolded.{Counted, naming, counted_within}
use Rattle.description_weight.specs.Unfolded.{chosen_by}
use Rattle.touch_promises.specs.lisa_meaning.Values.{Array, meant_array, named_array}
use Rattle.lowered_edges.specs.lowered_resources.Reading.{cells_of}
use Rattle.lowered_edges.proofs.lowered_behaviors_proofs.Sources.{element_there}
use Rattle.module_sizes.specs.Costs.{Rates}
use Rattle.module_sizes.specs.Worths.{unit, Naming, value_worth, place_worth, statement_worth, statements_worth}
use Rattle.module_sizes.specs.Standing.{read_worth, assigned_worth, run_worth}
use Rattle.module_sizes.specs.Unfolded.{Worth, chosen_worth, named, worths_within}
use Rattle.module_sizes.specs.Weighed.{no_rates, resource_rate, array_rates}

scaled : (k w v a : ℕ) → w ≤ v + a → k * w ≤ k * v + k * a
scaled zero w v a h = omega arith
scaled (suc k) w v a h = let more = scaled k w v a h in omega (arith, h, more)

sum_more : (f g h : ℕ → ℕ) (xs : List ℕ) → ((x : ℕ) → f x ≤ g x + h x) → sum_by f xs ≤ sum_by g xs + sum_by h xs
sum_more f g h [] each = omega arith
sum_more f g h (x ∷ xs) each =
    let one = each x in
    let more = sum_more f g h xs each in
    let a = sum_by-cons f x xs in
    let b = sum_by-cons g x xs in
    let c = sum_by-cons h x xs in
    omega (arith, one, more, a, b, c)

-- ---- texts, by what names add

module _ (d : DescriptionTree) (s : IsSound d) (o : ℕ) (more less : Naming) (a : Access) (counted : counting.Naming)
    (read : (n : List ℕ) → more.read n ≤ less.read n + counted.read n) (assigned : (n : List ℕ) → more.assigned n ≤ less.assigned n + counted.assigned n)
    (run : (n : List ℕ) → more.run n ≤ less.run n + counted.run n)
    (element : (region : Region) (scope : Scope) (n : List ℕ) → Stands d (at o region scope (marks.ReadsElement n)) → more.element n ≤ less.element n + a.read n)
    (written : (n : List ℕ) → more.written n ≤ less.written n + a.write n) where
  before : (xs ys : List At) → AllStand d (xs ++ ys) → AllStand d xs
  before xs ys stand = ((stand_both d xs ys).0 stand).0

  behind : (xs ys : List At) → AllStand d (xs ++ ys) → AllStand d ys
  behind xs ys stand = ((stand_both d xs ys).0 stand).1

  tail : (x : At) (xs : List At) → AllStand d (x ∷ xs) → AllStand d xs
  tail x xs stand = λ y h. stand y (inr h)

  pub value_more : (region : Region) (scope : Scope) (e : ExprTree) → AllStand d (uses o region scope e) → value_worth more e ≤ value_worth less e + value_accesses a counted e
  value_more region scope (exprs.Number v base) stand = omega arith
  value_more region scope (exprs.Named n) stand = read n
  value_more region scope (exprs.Element n index) stand =
      let one = element region scope n (stand (at o region scope (marks.ReadsElement n)) (inl refl)) in
      let i = value_more region scope index (tail (at o region scope (marks.ReadsElement n)) (uses o region scope index) stand) in
      omega (arith, one, i)
  value_more region scope (exprs.Input field) stand = omega arith
  value_more region scope (exprs.Output field) stand = omega arith
  value_more region scope (exprs.Boundary pipe first last field) stand = omega arith
  value_more region scope exprs.Decoded stand = omega arith
  value_more region scope (exprs.Cast shape x) stand =
      let i = value_more region scope x (tail (at o region scope (marks.Casts shape)) (uses o region scope x) stand) in omega (arith, i)
  value_more region scope (exprs.Complement x) stand = let i = value_more region scope x stand in omega (arith, i)
  value_more region scope (exprs.Negate x) stand = let i = value_more region scope x stand in omega (arith, i)
  value_more region scope (exprs.Two operator x y) stand =
      let i = value_more region scope x (before (uses o region scope x) (uses o region scope y) stand) in
      let j = value_more region scope y (behind (uses o region scope x) (uses o region scope y) stand) in
      omega (arith, i, j)
  value_more region scope (exprs.Choose c x y) stand =
      let rest = behind (uses o region scope c) (uses o region scope x ++ uses o region scope y) stand in
      let h = value_more region scope c (before (uses o region scope c) (uses o region scope x ++ uses o region scope y) stand) in
      let i = value_more region scope x (before (uses o region scope x) (uses o region scope y) rest) in
      let j = value_more region scope y (behind (uses o region scope x) (uses o region scope y) rest) in
      omega (arith, h, i, j)

  -- of a place the index is read
  abbrev pub IndexStands : Region → Scope → ExprTree → Type 0
  IndexStands region scope (exprs.Element n index) = AllStand d (uses o region scope index)
  IndexStands region scope _ = Unit {0}

  pub place_more : (region : Region) (scope : Scope) (e : ExprTree) → IndexStands region scope e → place_worth more e ≤ place_worth less e + place_accesses a counted e
  place_more region scope (exprs.Number v base) stand = omega arith
  place_more region scope (exprs.Named n) stand = assigned n
  place_more region scope (exprs.Element n index) stand =
      let one = written n in
      let i = value_more region scope index stand in
      omega (arith, one, i)
  place_more region scope (exprs.Input field) stand = omega arith
  place_more region scope (exprs.Output field) stand = omega arith
  place_more region scope (exprs.Boundary pipe first last field) stand = omega arith
  place_more region scope exprs.Decoded stand = omega arith
  place_more region scope (exprs.Cast shape x) stand = omega arith
  place_more region scope (exprs.Complement x) stand = omega arith
  place_more region scope (exprs.Negate x) stand = omega arith
  place_more region scope (exprs.Two operator x y) stand = omega arith
  place_more region scope (exprs.Choose c x y) stand = omega arith

  of_target : (scope : Scope) (e : ExprTree) → AllStand d (targets o regions.Behavior scope e) → IndexStands regions.Behavior scope e
  of_target scope (exprs.Number v base) stand = tt
  of_target scope (exprs.Named n) stand = tt
  of_target scope (exprs.Element n index) stand = tail (at o regions.Behavior scope (marks.WritesElement n)) (uses o regions.Behavior scope index) stand
  of_target scope (exprs.Input field) stand = tt
  of_target scope (exprs.Output field) stand = tt
  of_target scope (exprs.Boundary pipe first last field) stand = tt
  of_target scope exprs.Decoded stand = tt
  of_target scope (exprs.Cast shape x) stand = tt
  of_target scope (exprs.Complement x) stand = tt
  of_target scope (exprs.Negate x) stand = tt
  of_target scope (exprs.Two operator x y) stand = tt
  of_target scope (exprs.Choose c x y) stand = tt

  pub of_expression : (e : ExprTree) → AllStand d (uses o regions.Expression [] e) → IndexStands regions.Expression [] e
  of_expression (exprs.Number v base) stand = tt
  of_expression (exprs.Named n) stand = tt
  of_expression (exprs.Element n index) stand = tail (at o regions.Expression [] (marks.ReadsElement n)) (uses o regions.Expression [] index) stand
  of_expression (exprs.Input field) stand = tt
  of_expression (exprs.Output field) stand = tt
  of_expression (exprs.Boundary pipe first last field) stand = tt
  of_expression exprs.Decoded stand = tt
  of_expression (exprs.Cast shape x) stand = tt
  of_expression (exprs.Complement x) stand = tt
  of_expression (exprs.Negate x) stand = tt
  of_expression (exprs.Two operator x y) stand = tt
  of_expression (exprs.Choose c x y) stand = tt

  first_more : (scope : Scope) (e : Option ExprTree) → AllStand d (marks.uses_of_value o regions.Behavior scope e) → option_map_or (value_worth more) e 0 ≤ option_map_or (value_worth less) e 0 + option_map_or (value_accesses a counted) e 0
  first_more scope None stand = omega arith
  first_more scope (Some e) stand = value_more regions.Behavior scope e stand

  mutual
    pub statement_more : (scope : Scope) (x : StmtTree) → AllStand d (places o scope x) → statement_worth more x ≤ statement_worth less x + statement_accesses a counted x
    statement_more scope stmts.Empty stand = omega arith
    statement_more scope (stmts.Block all) stand = let i = statements_more scope all stand in omega (arith, i)
    statement_more scope (stmts.Local shape n e) stand =
        let i = first_more scope e (tail (at o regions.Behavior scope (marks.Local shape n e)) (marks.uses_of_value o regions.Behavior scope e) stand) in omega (arith, i)
    statement_more scope (stmts.Assign target e) stand =
        let rest = tail (at o regions.Behavior scope (marks.Assigns target e)) (targets o regions.Behavior scope target ++ uses o regions.Behavior scope e) stand in
        let i = place_more regions.Behavior scope target (of_target scope target (before (targets o regions.Behavior scope target) (uses o regions.Behavior scope e) rest)) in
        let j = value_more regions.Behavior scope e (behind (targets o regions.Behavior scope target) (uses o regions.Behavior scope e) rest) in
        omega (arith, i, j)
    statement_more scope (stmts.If test chosen) stand =
        let i = value_more regions.Behavior scope test (before (uses o regions.Behavior scope test) (places o scope chosen) stand) in
        let j = statement_more scope chosen (behind (uses o regions.Behavior scope test) (places o scope chosen) stand) in
        omega (arith, i, j)
    statement_more scope (stmts.IfElse test chosen other) stand =
        let rest = behind (uses o regions.Behavior scope test) (places o scope chosen ++ places o scope other) stand in
        let h = value_more regions.Behavior scope test (before (uses o regions.Behavior scope test) (places o scope chosen ++ places o scope other) stand) in
        let i = statement_more scope chosen (before (places o scope chosen) (places o scope other) rest) in
        let j = statement_more scope other (behind (places o scope chosen) (places o scope other) rest) in
        omega (arith, h, i, j)
    statement_more scope (stmts.While test body) stand =
        let rest = tail (at o regions.Behavior scope marks.Loops) (uses o regions.Behavior scope test ++ places o scope body) stand in
        let i = value_more regions.Behavior scope test (before (uses o regions.Behavior scope test) (places o scope body) rest) in
        let j = statement_more scope body (behind (uses o regions.Behavior scope test) (places o scope body) rest) in
        omega (arith, i, j)
    statement_more scope (stmts.For head body) stand =
        let i = statement_more (with_counter scope head) body (behind (head_places o scope head) (places o (with_counter scope head) body) stand) in
        let all = scaled (option_map_or turns (bounds_of head) 0) (statement_worth more body) (statement_worth less body) (statement_accesses a counted body) i in
        omega (arith, all)
    statement_more scope (stmts.Call n) stand = let i = run n in omega (arith, i)
    statement_more scope (stmts.Stall pipe stage) stand = omega arith
    statement_more scope (stmts.Flush pipe stage) stand = omega arith
    statement_more scope (stmts.Execute pipe) stand = omega arith
    statement_more scope (stmts.Shift pipe) stand = omega arith

    pub statements_more : (scope : Scope) (all : StmtTrees) → AllStand d (all_places o scope all) → statements_worth more all ≤ statements_worth less all + statements_accesses a counted all
    statements_more scope stmts.End stand = omega arith
    statements_more scope (stmts.Then x rest) stand =
        let i = statement_more scope x (before (places o scope x) (all_places o (after scope x) rest) stand) in
        let j = statements_more (after scope x) rest (behind (places o scope x) (all_places o (after scope x) rest) stand) in
        omega (arith, i, j)

-- ---- arrays

module _ (d : DescriptionTree) (rate : ℕ → ℕ) where
  -- an array's rate by its name
  rate_is : (o : ℕ) (n : List ℕ) (a : Array) → named_array d o n ≡ Some a → option_map_or (resource_rate d rate) (resource_at d n) 0 ≡ rate a.place
  rate_is o n a e = by (declared_at d o n) (resource_at d n) e
    where
      by : (i k : Option ℕ) → meant_array d (meaning_of i k) ≡ Some a → option_map_or (resource_rate d rate) k 0 ≡ rate a.place
      by (Some i) k is = absurd (cc is)
      by None None is = absurd (cc is)
      by None (Some k) is = ap (λ (r : Option Array). option_map_or (λ (x : Array). rate x.place) r 0) is

module _ (d : DescriptionTree) (s : IsSound d) (rates : Rates) where
  abbrev access : Access
  access = array_rates d rates

  abbrev worth : ℕ → ℕ → Worth
  worth j o = worths_within j d rates o

  abbrev bare : ℕ → ℕ → Worth
  bare j o = worths_within j d no_rates o

  abbrev counted : ℕ → ℕ → Counted
  counted j o = counted_within j d (chosen_by d) access o

  pub record IsMore (more less : Worth) (c : Counted) : Type 0 where
    pub read : more.read ≤ less.read + c.read
    pub assigned : more.assigned ≤ less.assigned + c.assigned
    pub run : more.run ≤ less.run + c.run

  -- ---- names

  chosen_more : (f g h : ℕ → ℕ) → ((b : ℕ) → f b ≤ g b + h b) → (r : Option ℕ) → chosen_worth d (λ b. unit + f b) r ≤ chosen_worth d (λ b. unit + g b) r + option_map_or (λ i. sum_by (λ b. h b) (chosen_by d i)) r 0
  chosen_more f g h each None = omega arith
  chosen_more f g h each (Some i) = sum_more (λ (b : ℕ). unit + f b) (λ (b : ℕ). unit + g b) h (chosen_by d i) (λ b. (let one = each b in omega (arith, one)))

  larger : (m n k : ℕ) → m ≤ n + k → max unit m ≤ max unit n + k
  larger m n k h = omega (arith, h)

  element_more : (o j : ℕ) (region : Region) (scope : Scope) (n : List ℕ) → Stands d (at o region scope (marks.ReadsElement n))
      → (named d rates (worth j) o).element n ≤ (named d no_rates (bare j) o).element n + access.read n
  element_more o j region scope n stands =
      let there = element_there d o scope n (read_element d s.known s.stand s.uses o region scope n stands) in
      let is = rate_is d rates.read o n there.0 there.1 in
      let cells = ap (λ (r : Option Array). rates.read (cells_of r).array) there.1 in
      omega (arith, is, cells)

  written_more : (o j : ℕ) (n : List ℕ) → (named d rates (worth j) o).written n ≤ (named d no_rates (bare j) o).written n + access.write n
  written_more o j n = by (named_array d o n) refl
    where
      by : (r : Option Array) → named_array d o n ≡ r → option_map_or (λ (a : Array). rates.write a.place) r 0 ≤ option_map_or (λ (a : Array). no_rates.write a.place) r 0 + access.write n
      by None e = omega arith
      by (Some a) e = let is = rate_is d rates.write o n a e in omega (arith, is)

  -- ---- operations

  module _ (j : ℕ) (each : (b : ℕ) → IsMore (worth j b) (bare j b) (counted j b)) (o : ℕ) where
    abbrev more : Naming
    more = named d rates (worth j) o

    abbrev less : Naming
    less = named d no_rates (bare j) o

    abbrev names : counting.Naming
    names = naming d (chosen_by d) (counted j) o

    read : (n : List ℕ) → more.read n ≤ less.read n + names.read n
    read n =
        larger (chosen_worth d (λ b. unit + (worth j b).read) (declared_at d o n)) (chosen_worth d (λ b. unit + (bare j b).read) (declared_at d o n)) (names.read n)
        (chosen_more (λ b. (worth j b).read) (λ b. (bare j b).read) (λ b. (counted j b).read) (λ b. (each b).read) (declared_at d o n))

    assigned : (n : List ℕ) → more.assigned n ≤ less.assigned n + names.assigned n
    assigned n =
        larger (chosen_worth d (λ b. unit + (worth j b).assigned) (declared_at d o n)) (chosen_worth d (λ b. unit + (bare j b).assigned) (declared_at d o n)) (names.assigned n)
        (chosen_more (λ b. (worth j b).assigned) (λ b. (bare j b).assigned) (λ b. (counted j b).assigned) (λ b. (each b).assigned) (declared_at d o n))

    run : (n : List ℕ) → more.run n ≤ less.run n + names.run n
    run n = chosen_more (λ b. (worth j b).run) (λ b. (bare j b).run) (λ b. (counted j b).run) (λ b. (each b).run) (declared_at d o n)

    expression_more : (r : Option ExprTree) → expression_in (sections_at d o) ≡ r
        → (read_worth more r ≤ read_worth less r + option_map_or (value_accesses access names) r 0) × (assigned_worth more r ≤ assigned_worth less r + option_map_or (place_accesses access names) r 0)
    expression_more None e = (omega arith, omega arith)
    expression_more (Some x) e =
        let stand = expression_stand d o x e in (
          value_more d s o more less access names read assigned run (element_more o j) (written_more o j) regions.Expression [] x stand,
          place_more d s o more less access names read assigned run (element_more o j) (written_more o j) regions.Expression [] x
              (of_expression d s o more less access names read assigned run (element_more o j) (written_more o j) x stand),
        )

    behavior_more : (r : Option StmtTrees) → behavior_in (sections_at d o) ≡ r → run_worth more r ≤ run_worth less r + option_map_or (statements_accesses access names) r 0
    behavior_more None e = omega arith
    behavior_more (Some all) e = statements_more d s o more less access names read assigned run (element_more o j) (written_more o j) [] all (behavior_stand d o all e)

    -- an expression that stands there
    pub value_next : (region : Region) (scope : Scope) (e : ExprTree) → AllStand d (uses o region scope e) → value_worth more e ≤ value_worth less e + value_accesses access names e
    value_next region scope e stand = value_more d s o more less access names read assigned run (element_more o j) (written_more o j) region scope e stand

    pub next_more : IsMore (worth (suc j) o) (bare (suc j) o) (counted (suc j) o)
    next_more =
        let x = expression_more (expression_in (sections_at d o)) refl in
        record { read = x.0; assigned = x.1; run = behavior_more (behavior_in (sections_at d o)) refl }

  pub within_more : (j o : ℕ) → IsMore (worth j o) (bare j o) (counted j o)
  within_more zero o = record { read = omega arith; assigned = omega arith; run = omega arith }
  within_more (suc j) o = next_more j (λ b. within_more j b) o
