-- What assignments, stalls and flushes become is well formed.
use Rattle.std.proofs.Common.{◌≡◌, ◌≤◌, ◌∙◌, ℕ, suc, List, [], ◌∷◌, Option, None, Some, max, refl, sym, subst, arith}
use Rattle.std.specs.Prelude.{slice_get}
use Rattle.std.specs.Map.{lookup}
use Rattle.lisa_tree.specs.declared.tokens.Shape.{Shape}
use Rattle.lisa_tree.specs.Expressions as exprs
use Rattle.lisa_tree.specs.Expressions.{ExprTree}
use Rattle.lisa_tree.specs.Descriptions as trees
use Rattle.lisa_tree.specs.Descriptions.{ResourceTree, DescriptionTree}
use Rattle.lisa_tree.specs.declared.declared.Meaning.{Meaning}
use Rattle.lisa_tree.specs.declared.declared.Meaning.TheVariants as meanings
use Rattle.lisa_tree.specs.Same.{same_name}
use Rattle.lisa_tree.specs.Operations.{own_stage}
use Rattle.lisa_tree.specs.Meanings.{meaning}
use Rattle.meaning_promises.specs.lisa_machine.Verdicts.{IsAccepted}
use Rattle.meaning_promises.specs.lisa_machine.Resolving.{FitsResource}
use Rattle.meaning_promises.specs.machine_parts.Parts.{item, register_in}
use Rattle.step_program.specs.Programs.{Program, Expr, Aim, ToItem, ToTemp, ToCell, Move}
use Rattle.step_program.specs.WellFormed.{IsWidth, IsAimed}
use Rattle.step_program.specs.Depths.{expr_depth, aim_depth}
use Rattle.scene_paths.specs.lisa_meaning.Values.{Array, register_place, field_place, shape_at}
use Rattle.meaning_promises.proofs.Fitted.{placed}
use Rattle.step_pieces.specs.Pieces.{top, always}
use Rattle.step_pieces.specs.Formed.{IsStep, IsPiece}
use Rattle.step_pieces.proofs.Laid.{nothing_formed, behind_formed, all_one}
use Rattle.lowered_values.specs.Templates.{fitted}
use Rattle.lowered_values.specs.Sources.{bare}
use Rattle.lowered_values.specs.Computed.{Computed, IsComputed}
use Rattle.lowered_values.proofs.Forming.{leaf_depth, Good, good_up, operand_good, const_good, fitted_good, cell_formed}
use Rattle.lowered_values.proofs.Lowering.{all_none}
use Rattle.lowered_statements.specs.Scopes.{Local, Scope, IsScope}
use Rattle.lowered_statements.specs.Agreement.{IsGuard, AreGiven}
use Rattle.lowered_statements.proofs.Scoped.{guard_low, guard_fits}
use Rattle.lowered_resources.specs.Places.{Places, Lasting, Written, Out, IsThere, Has, lasting_width, ArePlaced}
use Rattle.lowered_resources.specs.Reading.{index_width, cells_of}
use Rattle.lowered_resources.specs.Putting.{Given, Stores, Reads, moving, move_to, assigned, resource_put, element_put, field_put, out_put, meant_put, name_put, puts, told}
use Rattle.lowered_resources.specs.Laws.{IsDeclared, IsPlace}
use Rattle.lowered_resources.proofs.Locals.{in_scope}
use Rattle.lowered_resources.proofs.Standing.{field_wide, IsArray, fits, shape_sized, named_is, register_there}
use Rattle.lowered_resources.proofs.Forming.{cells_there}

step_depth : (a b c : ℕ) → a ≤ 8 → b ≤ 8 → c ≤ 8 → max a (max b c) ≤ 8
step_depth a b c h k l = grind (arith, h, k, l)

module _ (d : DescriptionTree) (places : Places) (p : Program) (first lasts : ℕ) (are : ArePlaced d places p first lasts)
    (scope : Scope) (guard : Expr) (from : ℕ) (guards : IsGuard p lasts from scope guard) where
  -- a step of a width, under the guard
  step_formed : (aim : Aim) (w : ℕ) (e : Expr) → Good p w 4 e → IsAimed p aim w → aim_depth aim ≤ 8 → IsStep p (move_to guard aim e)
  step_formed aim w e good aimed shallow = record {
    formed = record {
      guard = guard_fits p [] [] lasts from scope guard guards;
      value = good.fits;
      aim = subst (λ (n : ℕ). IsAimed p aim n) (sym good.wide) aimed;
    };
    shallow =
        let leaf = leaf_depth from guard (guard_low p [] [] lasts from scope guard guards) in
        let low = good.shallow in
        step_depth (expr_depth guard) (aim_depth aim) (expr_depth e) (omega (arith, leaf)) shallow (omega (arith, low));
  }

  moving_formed : (move : Move) → IsStep p move → IsPiece p (moving (move ∷ []))
  moving_formed move is = record { widths = all_none IsWidth; steps = all_one (IsStep p) move is }

  -- a lasting temp that is told to be 1
  told_formed : (x : Lasting) → Has d x → lasting_width d x ≡ 1 → IsPiece p (moving (move_to guard (ToTemp (places.temp x)) always ∷ []))
  told_formed x has one =
      let low = are.temp_lasts x has in
      let room = are.temps_there in
      moving_formed (move_to guard (ToTemp (places.temp x)) always)
      (step_formed (ToTemp (places.temp x)) 1 always (good_up p 1 1 4 always (omega arith) (const_good p 1 1 (omega arith, omega arith) (omega arith)))
      (omega (arith, low, room), are.temp_wide x has ∙ one) (omega arith))

  pub level_formed : (what : ℕ → Lasting) → ((level : ℕ) → lasting_width d (what level) ≡ 1) → (o : Option ℕ) → ((s : ℕ) → o ≡ Some s → Has d (what (suc s))) → IsPiece p (told places what o guard)
  level_formed what one None has = nothing_formed p
  level_formed what one (Some s) has = told_formed (what (suc s)) (has s refl) (one (suc s))

  module _ (accepted : IsAccepted d) (x : Given) (given : AreGiven p from x) where
    assigned_formed : (aim : Aim) (shape : Shape) → IsWidth shape.width → IsAimed p aim shape.width → aim_depth aim ≤ 8 → IsPiece p (assigned guard aim shape x)
    assigned_formed aim shape wide aimed shallow =
        let is = given shape.kind in
        let value = fitted (x shape.kind) shape.width in
        moving_formed (move_to guard aim value) (step_formed aim shape.width value (fitted_good p (x shape.kind) shape.width (operand_good p from (x shape.kind) is) is.sized wide) aimed shallow)

    register_formed : (k : ℕ) (r : ResourceTree) (shape : Shape) (name : List ℕ) → slice_get d.resources k ≡ Some r → register_in r ≡ Some (item shape name) → IsWidth shape.width → IsPiece p (assigned guard (ToItem (register_place d k)) shape x)
    register_formed k r shape name is part wide =
        assigned_formed (ToItem (register_place d k)) shape wide (register_there d places p first lasts are (register_place d k) (item shape name) (placed register_in d.resources k r (item shape name) is part)) (omega arith)

    resource_formed : (k : ℕ) (r : Option ResourceTree) → slice_get d.resources k ≡ r → IsPiece p (resource_put d k r guard x)
    resource_formed k None e = nothing_formed p
    resource_formed k (Some (trees.Register word shape name None)) e =
        let fit : FitsResource (trees.Register word shape name None) = fits d accepted k (trees.Register word shape name None) e in
        register_formed k (trees.Register word shape name None) shape name e refl fit.0
    resource_formed k (Some (trees.Register word shape name (Some depth))) e = nothing_formed p
    resource_formed k (Some (trees.Clocked word shape name)) e =
        let fit : FitsResource (trees.Clocked word shape name) = fits d accepted k (trees.Clocked word shape name) e in
        register_formed k (trees.Clocked word shape name) shape name e refl fit
    resource_formed k (Some (trees.Memory word shape name depth)) e = nothing_formed p
    resource_formed k (Some (trees.Pin shape name)) e = nothing_formed p
    resource_formed k (Some (trees.Pipeline name stages)) e = nothing_formed p
    resource_formed k (Some (trees.Fields pipe fields)) e = nothing_formed p

    element_formed : (a : Array) → IsArray d a → (index : Computed) → IsComputed p from index → IsPiece p (element_put (Some a) guard index x)
    element_formed a is index computed =
        let cell = cell_formed p (top from index.piece) (cells_of (Some a)) index.out (cells_there d accepted places p first lasts are a is) computed.out in
        let at = fitted (bare index.out) (index_width a.depth) in
        let aim = ToCell a.place at in
        let low : suc (expr_depth at) ≤ 7 = cell.shallow in
        let shallow : expr_depth at ≤ 8 = omega (arith, low) in
        behind_formed p index.piece (assigned guard aim a.shape x) computed.piece (assigned_formed aim a.shape is.sized (cell.fits, cell.wide) shallow)

    out_formed : (s f : Option ℕ) → IsThere d s f → IsPiece p (out_put d places s f guard x)
    out_formed None f there = nothing_formed p
    out_formed (Some s) None there = nothing_formed p
    out_formed (Some s) (Some f) there = by (shape_at d f) refl
      where
        by : (r : Option Shape) → shape_at d f ≡ r → IsPiece p (field_put places s f r guard x)
        by None e = nothing_formed p
        by (Some shape) e =
            let has = there s f refl refl in
            let out = ToTemp (places.temp (Out s f)) in
            let low = are.temp_lasts (Out s f) has in
            let room = are.temps_there in
            behind_formed p (assigned guard out shape x) (moving (move_to guard (ToTemp (places.temp (Written s f))) always ∷ []))
            (assigned_formed out shape (shape_sized d accepted f shape e) (omega (arith, low, room), are.temp_wide (Out s f) has ∙ field_wide d f shape e) (omega arith))
            (told_formed (Written s f) has refl)

    -- ---- assignments

    module _ (reads : Reads) (stores : Stores) (o : ℕ) (is : IsScope p lasts from scope) where
      meant_formed : (n : List ℕ) (w : Meaning) → ((i : ℕ) → w ≡ meanings.Declared i → ⊥) → IsPiece p (meant_put d stores n w guard from x)
      meant_formed n meanings.Nothing other = nothing_formed p
      meant_formed n (meanings.Resource k) other = resource_formed k (slice_get d.resources k) refl
      meant_formed n (meanings.Declared i) other = absurd (other i refl)

      name_formed : (n : List ℕ) (r : Option Local) → lookup (same_name n) scope ≡ r → (IsDeclared d o scope n → ⊥) → IsPiece p (name_put r guard x (meant_put d stores n (meaning d o n) guard from x))
      name_formed n None e other = meant_formed n (meaning d o n) (λ i f. other (e, (i, f)))
      name_formed n (Some l) e other =
          let r = in_scope p n l lasts from scope is e in
          assigned_formed (ToTemp l.temp) (record { kind = l.kind; width = l.width }) r.sized (r.there, r.wide) (omega arith)

      pub puts_formed : (target : ExprTree) → IsPlace d o scope target → ((n : List ℕ) (index : ExprTree) → target ≡ exprs.Element n index → IsComputed p from (reads scope from index)) → IsPiece p (puts d places reads stores o scope guard from target x)
      puts_formed (exprs.Number v base) place computed = nothing_formed p
      puts_formed (exprs.Named n) place computed = name_formed n (lookup (same_name n) scope) refl place
      puts_formed (exprs.Element n index) place computed =
          subst (λ (r : Option Array). IsPiece p (element_put r guard (reads scope from index) x)) (sym place.1)
          (element_formed place.0 (named_is d accepted o n place.0 place.1) (reads scope from index) (computed n index refl))
      puts_formed (exprs.Input field) place computed = nothing_formed p
      puts_formed (exprs.Output field) place computed = out_formed (own_stage d o) (field_place d field) place
      puts_formed (exprs.Boundary pipe before after field) place computed = nothing_formed p
      puts_formed exprs.Decoded place computed = nothing_formed p
      puts_formed (exprs.Cast shape a) place computed = nothing_formed p
      puts_formed (exprs.Complement a) place computed = nothing_formed p
      puts_formed (exprs.Negate a) place computed = nothing_formed p
      puts_formed (exprs.Two operator a b) place computed = nothing_formed p
      puts_formed (exprs.Choose c a b) place computed = nothing_formed p
