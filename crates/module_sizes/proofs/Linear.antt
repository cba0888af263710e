-- What is counted of texts follows what reads and writes count: so many times what it is by one such count, and what it is by another.
use Rattle.std.proofs.Common.{◌≡◌, ◌+◌, ◌*◌, ℕ, zero, suc, List, [], ◌∷◌, Option, None, Some, ap, arith}
use Rattle.std.specs.Prelude.{sum_by}
use Rattle.std.specs.Option.{option_map_or}
use Rattle.std.proofs.lemmas.List.Sums.{sum_by-cons}
use Rattle.lisa_tree.specs.Expressions as exprs
use Rattle.lisa_tree.specs.Expressions.{ExprTree}
use Rattle.lisa_tree.specs.Statements as stmts
use Rattle.lisa_tree.specs.Statements.{HeadTree, StmtTree, StmtTrees}
use Rattle.lisa_tree.specs.Activations as acts
use Rattle.lisa_tree.specs.Activations.{ActTree, ActTrees}
use Rattle.lisa_tree.specs.Descriptions.{SectionTree, DescriptionTree}
use Rattle.lisa_tree.specs.Operations.{sections_at, behavior_in, expression_in, activation_in}
use Rattle.lisa_tree.specs.Declarations.{declared_at}
use Rattle.access_counts.specs.Accesses.{Access, Naming, value_accesses, place_accesses, turns_of, statement_accesses, statements_accesses, item_accesses, items_accesses}
use Rattle.access_counts.specs.Unfolded.{Counted, naming, counted_within, texts_accesses, text_accesses}

turned : (turns c m n all : ℕ) → all ≡ c * m + n → turns * all ≡ c * (turns * m) + turns * n
turned zero c m n all h = omega arith
turned (suc turns) c m n all h = let more = turned turns c m n all h in omega (arith, h, more)

module _ (c : ℕ) where
  -- ---- sums

  pub sum_linear : {X : Type 0} (f g h : X → ℕ) → ((x : X) → f x ≡ c * g x + h x) → (xs : List X) → sum_by f xs ≡ c * sum_by g xs + sum_by h xs
  sum_linear f g h each [] = omega arith
  sum_linear f g h each (x ∷ xs) =
      let one = each x in
      let more = sum_linear f g h each xs in
      let a = sum_by-cons f x xs in
      let b = ap (λ (n : ℕ). c * n) (sum_by-cons g x xs) in
      let e = sum_by-cons h x xs in
      omega (arith, one, more, a, b, e)

  or_linear : {X : Type 0} (f g h : X → ℕ) → ((x : X) → f x ≡ c * g x + h x) → (r : Option X) → option_map_or f r 0 ≡ c * option_map_or g r 0 + option_map_or h r 0
  or_linear f g h each None = omega arith
  or_linear f g h each (Some x) = each x

  -- ---- texts

  pub record IsLinear (all one rest : Access) : Type 0 where
    pub read : (n : List ℕ) → all.read n ≡ c * one.read n + rest.read n
    pub write : (n : List ℕ) → all.write n ≡ c * one.write n + rest.write n

  record AreLinear (all one rest : Naming) : Type 0 where
    pub read : (n : List ℕ) → all.read n ≡ c * one.read n + rest.read n
    pub assigned : (n : List ℕ) → all.assigned n ≡ c * one.assigned n + rest.assigned n
    pub run : (n : List ℕ) → all.run n ≡ c * one.run n + rest.run n

  module _ (all one rest : Access) (is : IsLinear all one rest) where
    module _ (x y z : Naming) (names : AreLinear x y z) where
      value_linear : (e : ExprTree) → value_accesses all x e ≡ c * value_accesses one y e + value_accesses rest z e
      value_linear (exprs.Number v base) = omega arith
      value_linear (exprs.Named n) = names.read n
      value_linear (exprs.Element n index) = let a = is.read n in let i = value_linear index in omega (arith, a, i)
      value_linear (exprs.Input field) = omega arith
      value_linear (exprs.Output field) = omega arith
      value_linear (exprs.Boundary pipe first last field) = omega arith
      value_linear exprs.Decoded = omega arith
      value_linear (exprs.Cast shape e) = value_linear e
      value_linear (exprs.Complement e) = value_linear e
      value_linear (exprs.Negate e) = value_linear e
      value_linear (exprs.Two operator e f) = let i = value_linear e in let j = value_linear f in omega (arith, i, j)
      value_linear (exprs.Choose t e f) = let h = value_linear t in let i = value_linear e in let j = value_linear f in omega (arith, h, i, j)

      place_linear : (e : ExprTree) → place_accesses all x e ≡ c * place_accesses one y e + place_accesses rest z e
      place_linear (exprs.Number v base) = omega arith
      place_linear (exprs.Named n) = names.assigned n
      place_linear (exprs.Element n index) = let a = is.write n in let i = value_linear index in omega (arith, a, i)
      place_linear (exprs.Input field) = omega arith
      place_linear (exprs.Output field) = omega arith
      place_linear (exprs.Boundary pipe first last field) = omega arith
      place_linear exprs.Decoded = omega arith
      place_linear (exprs.Cast shape e) = omega arith
      place_linear (exprs.Complement e) = omega arith
      place_linear (exprs.Negate e) = omega arith
      place_linear (exprs.Two operator e f) = omega arith
      place_linear (exprs.Choose t e f) = omega arith

      mutual
        statement_linear : (s : StmtTree) → statement_accesses all x s ≡ c * statement_accesses one y s + statement_accesses rest z s
        statement_linear stmts.Empty = omega arith
        statement_linear (stmts.Block body) = statements_linear body
        statement_linear (stmts.Local shape n value) = or_linear (value_accesses all x) (value_accesses one y) (value_accesses rest z) value_linear value
        statement_linear (stmts.Assign place value) = let i = place_linear place in let j = value_linear value in omega (arith, i, j)
        statement_linear (stmts.If test chosen) = let i = value_linear test in let j = statement_linear chosen in omega (arith, i, j)
        statement_linear (stmts.IfElse test chosen other) = let h = value_linear test in let i = statement_linear chosen in let j = statement_linear other in omega (arith, h, i, j)
        statement_linear (stmts.While test body) = let i = value_linear test in let j = statement_linear body in omega (arith, i, j)
        statement_linear (stmts.For head body) =
            turned (turns_of head) c (statement_accesses one y body) (statement_accesses rest z body) (statement_accesses all x body) (statement_linear body)
        statement_linear (stmts.Call n) = names.run n
        statement_linear (stmts.Stall pipe stage) = omega arith
        statement_linear (stmts.Flush pipe stage) = omega arith
        statement_linear (stmts.Execute pipe) = omega arith
        statement_linear (stmts.Shift pipe) = omega arith

        statements_linear : (body : StmtTrees) → statements_accesses all x body ≡ c * statements_accesses one y body + statements_accesses rest z body
        statements_linear stmts.End = omega arith
        statements_linear (stmts.Then s more) = let i = statement_linear s in let j = statements_linear more in omega (arith, i, j)

      mutual
        item_linear : (item : ActTree) → item_accesses all x item ≡ c * item_accesses one y item + item_accesses rest z item
        item_linear (acts.Start n) = omega arith
        item_linear (acts.Choose test chosen) = let i = value_linear test in let j = items_linear chosen in omega (arith, i, j)
        item_linear (acts.ChooseElse test chosen other) = let h = value_linear test in let i = items_linear chosen in let j = items_linear other in omega (arith, h, i, j)

        items_linear : (items : ActTrees) → items_accesses all x items ≡ c * items_accesses one y items + items_accesses rest z items
        items_linear acts.End = omega arith
        items_linear (acts.Then item more) = let i = item_linear item in let j = items_linear more in omega (arith, i, j)

      texts_linear : (sections : List SectionTree) → texts_accesses all x sections ≡ c * texts_accesses one y sections + texts_accesses rest z sections
      texts_linear sections =
          let i = or_linear (statements_accesses all x) (statements_accesses one y) (statements_accesses rest z) statements_linear (behavior_in sections) in
          let j = or_linear (items_accesses all x) (items_accesses one y) (items_accesses rest z) items_linear (activation_in sections) in
          omega (arith, i, j)

    -- ---- operations, unfolded so many levels deep

    record IsSum (x y z : Counted) : Type 0 where
      pub read : x.read ≡ c * y.read + z.read
      pub assigned : x.assigned ≡ c * y.assigned + z.assigned
      pub run : x.run ≡ c * y.run + z.run

    module _ (d : DescriptionTree) (chosen : ℕ → List ℕ) where
      abbrev counts : Access → ℕ → ℕ → Counted
      counts a k o = counted_within k d chosen a o

      abbrev names : Access → ℕ → ℕ → Naming
      names a k o = naming d chosen (counts a k) o

      named : (k o : ℕ) → ((b : ℕ) → IsSum (counts all k b) (counts one k b) (counts rest k b)) → AreLinear (names all k o) (names one k o) (names rest k o)
      named k o each = record {
        read = λ n. or_linear (λ i. sum_by (λ b. (counts all k b).read) (chosen i)) (λ i. sum_by (λ b. (counts one k b).read) (chosen i)) (λ i. sum_by (λ b. (counts rest k b).read) (chosen i))
            (λ i. sum_linear (λ b. (counts all k b).read) (λ b. (counts one k b).read) (λ b. (counts rest k b).read) (λ b. (each b).read) (chosen i)) (declared_at d o n);
        assigned = λ n. or_linear (λ i. sum_by (λ b. (counts all k b).assigned) (chosen i)) (λ i. sum_by (λ b. (counts one k b).assigned) (chosen i)) (λ i. sum_by (λ b. (counts rest k b).assigned) (chosen i))
            (λ i. sum_linear (λ b. (counts all k b).assigned) (λ b. (counts one k b).assigned) (λ b. (counts rest k b).assigned) (λ b. (each b).assigned) (chosen i)) (declared_at d o n);
        run = λ n. or_linear (λ i. sum_by (λ b. (counts all k b).run) (chosen i)) (λ i. sum_by (λ b. (counts one k b).run) (chosen i)) (λ i. sum_by (λ b. (counts rest k b).run) (chosen i))
            (λ i. sum_linear (λ b. (counts all k b).run) (λ b. (counts one k b).run) (λ b. (counts rest k b).run) (λ b. (each b).run) (chosen i)) (declared_at d o n);
      }

      within_linear : (k o : ℕ) → IsSum (counts all k o) (counts one k o) (counts rest k o)
      within_linear zero o = record { read = omega arith; assigned = omega arith; run = omega arith }
      within_linear (suc k) o =
          let are = named k o (λ b. within_linear k b) in
          let sections = sections_at d o in
          let value = value_linear (names all k o) (names one k o) (names rest k o) are in
          let place = place_linear (names all k o) (names one k o) (names rest k o) are in
          let run = statements_linear (names all k o) (names one k o) (names rest k o) are in
          record {
            read = or_linear (value_accesses all (names all k o)) (value_accesses one (names one k o)) (value_accesses rest (names rest k o)) value (expression_in sections);
            assigned = or_linear (place_accesses all (names all k o)) (place_accesses one (names one k o)) (place_accesses rest (names rest k o)) place (expression_in sections);
            run = or_linear (statements_accesses all (names all k o)) (statements_accesses one (names one k o)) (statements_accesses rest (names rest k o)) run (behavior_in sections);
          }

      pub text_linear : (k o : ℕ) → text_accesses k d chosen all o ≡ c * text_accesses k d chosen one o + text_accesses k d chosen rest o
      text_linear k o = texts_linear (names all k o) (names one k o) (names rest k o) (named k o (λ b. within_linear k b)) (sections_at d o)
