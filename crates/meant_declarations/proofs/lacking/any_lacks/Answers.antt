use Rattle.std.proofs.Common.{◌≡◌, ◌<◌, ◌+◌, ◌||◌, ℕ, suc, List, Bool, false, length, drop, get_or, ap, sym, ◌∙◌, arith, add-one, drop-cons}
use Rattle.std.specs.Option.{is_none}
use Rattle.std.specs.List.{list_any}
use Rattle.std.proofs.lemmas.List.Folds.{list_any_at}
use Rattle.lisa_tree.specs.Descriptions.{DescriptionTree}
use Rattle.lisa_tree.specs.Declarations.{declared_at}
use Rattle.meant_declarations.proofs.lacking.any_lacks.Goals as goal

abbrev undeclared : DescriptionTree → List ℕ → ℕ → Bool
undeclared d n p = is_none (declared_at d p n)

passed : (p : ℕ → Bool) (xs : List ℕ) (i : ℕ) → i < length xs → p (get_or xs i 0) ≡ false → list_any p (drop i xs) ≡ list_any p (drop (i + 1) xs)
passed p xs i h e =
    ap (list_any p) (drop-cons xs i 0 h)
    ∙ ap (λ (b : Bool). b || list_any p (drop (suc i) xs)) e
    ∙ ap (λ (n : ℕ). list_any p (drop n xs)) (sym (add-one i))

pub returns-then-is_undeclared : goal.returns-then-is_undeclared
returns-then-is_undeclared g c =
    let p = undeclared (g.N.Names.tree c.args.names.now) c.args.name.now in
    sym (list_any_at p c.args.operations.now c.loop-operation.operation-index 0 (omega arith) (sym c.is_undeclared.ensures ∙ c.if-is_undeclared.true))

pub loop-operation-preserved : goal.loop-operation-preserved
loop-operation-preserved g c =
    let p = undeclared (g.N.Names.tree c.args.names.now) c.args.name.now in
    c.loop-operation.invariant ∙ passed p c.args.operations.now c.loop-operation.operation-index (omega arith) (sym c.is_undeclared.ensures ∙ c.if-is_undeclared.false)
