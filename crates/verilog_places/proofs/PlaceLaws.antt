-- Expressions that are moved, and lists of actions that are joined.
use Rattle.std.proofs.Common.{◌≡◌, ℕ, [], ◌∷◌, ◌++◌, Option, Some, None, refl, sym, ap, ◌∙◌}
use Rattle.verilog_text.specs.Tokens.{VToks}
use Rattle.verilog_text.specs.Trees as plain
use Rattle.verilog_text.specs.Values.{Widths}
use Rattle.verilog_text.specs.WidePlaces.{◌or_else◌}
use Rattle.verilog_places.specs.Trees.{PlacedTree, Number, Named, Bits, Cell, One, Two, Choose, Join, Repeat, place, moved, bare, PlacedActions, Done, Set, Put, If, joined, bare_actions}
use Rattle.verilog_places.specs.WidePlaces.{wide_inside, wide_expr, wide_actions}
use Rattle.verilog_places.specs.Spelling.{PlacedToks, parts_of}

pub moved_bare : (at : ℕ) (e : PlacedTree) → bare (moved at e) ≡ bare e
moved_bare at (Number old width value) = refl
moved_bare at (Named old name) = refl
moved_bare at (Bits old name high low) = refl
moved_bare at (Cell old name index) = refl
moved_bare at (One old one a) = refl
moved_bare at (Two old operator a b) = refl
moved_bare at (Choose old test this other) = refl
moved_bare at (Join old parts) = refl
moved_bare at (Repeat old times a) = refl

pub moved_place : (at : ℕ) (e : PlacedTree) → place (moved at e) ≡ at
moved_place at (Number old width value) = refl
moved_place at (Named old name) = refl
moved_place at (Bits old name high low) = refl
moved_place at (Cell old name index) = refl
moved_place at (One old one a) = refl
moved_place at (Two old operator a b) = refl
moved_place at (Choose old test this other) = refl
moved_place at (Join old parts) = refl
moved_place at (Repeat old times a) = refl

pub moved_wide : (w : Widths) (at : ℕ) (e : PlacedTree) → wide_inside w (moved at e) ≡ wide_inside w e
moved_wide w at (Number old width value) = refl
moved_wide w at (Named old name) = refl
moved_wide w at (Bits old name high low) = refl
moved_wide w at (Cell old name index) = refl
moved_wide w at (One old one a) = refl
moved_wide w at (Two old operator a b) = refl
moved_wide w at (Choose old test this other) = refl
moved_wide w at (Join old parts) = refl
moved_wide w at (Repeat old times a) = refl

pub joined_bare : (xs ys : PlacedActions) → bare_actions (joined xs ys) ≡ plain.joined (bare_actions xs) (bare_actions ys)
joined_bare Done ys = refl
joined_bare (Set name value rest) ys = ap (plain.Set name (bare value)) (joined_bare rest ys)
joined_bare (Put name index value rest) ys = ap (plain.Put name (bare index) (bare value)) (joined_bare rest ys)
joined_bare (If test this other rest) ys = ap (plain.If (bare test) (bare_actions this) (bare_actions other)) (joined_bare rest ys)

pub or_assoc : (a b c : Option ℕ) → ((a or_else b) or_else c) ≡ (a or_else (b or_else c))
or_assoc None b c = refl
or_assoc (Some x) b c = refl

pub or_none : (a : Option ℕ) → (a or_else None) ≡ a
or_none None = refl
or_none (Some x) = refl

pub joined_wide : (w : Widths) (xs ys : PlacedActions) → wide_actions w (joined xs ys) ≡ (wide_actions w xs or_else wide_actions w ys)
joined_wide w Done ys = refl
joined_wide w (Set name value rest) ys = ap (λ (r : Option ℕ). wide_expr w value or_else r) (joined_wide w rest ys) ∙ sym (or_assoc (wide_expr w value) (wide_actions w rest) (wide_actions w ys))
joined_wide w (Put name index value rest) ys =
    ap (λ (r : Option ℕ). wide_expr w index or_else (wide_expr w value or_else r)) (joined_wide w rest ys)
    ∙ ap (λ (r : Option ℕ). wide_expr w index or_else r) (sym (or_assoc (wide_expr w value) (wide_actions w rest) (wide_actions w ys)))
    ∙ sym (or_assoc (wide_expr w index) (wide_expr w value or_else wide_actions w rest) (wide_actions w ys))
joined_wide w (If test this other rest) ys =
    ap (λ (r : Option ℕ). wide_expr w test or_else (wide_actions w this or_else (wide_actions w other or_else r))) (joined_wide w rest ys)
    ∙ ap (λ (r : Option ℕ). wide_expr w test or_else (wide_actions w this or_else r)) (sym (or_assoc (wide_actions w other) (wide_actions w rest) (wide_actions w ys)))
    ∙ ap (λ (r : Option ℕ). wide_expr w test or_else r) (sym (or_assoc (wide_actions w this) (wide_actions w other or_else wide_actions w rest) (wide_actions w ys)))
    ∙ sym (or_assoc (wide_expr w test) (wide_actions w this or_else (wide_actions w other or_else wide_actions w rest)) (wide_actions w ys))

pub parts-append : (xs ys : PlacedToks) → parts_of (xs ++ ys) ≡ parts_of xs ++ parts_of ys
parts-append [] ys = refl
parts-append (t ∷ xs) ys = ap (λ (r : VToks). t.1 ∷ r) (parts-append xs ys)
