-- Under a guard that is 0 an assignment, a stall and a flush change scratch alone.
use Rattle.std.proofs.Common.{◌≡◌, ℕ, suc, List, [], ◌∷◌, Option, None, Some, sym, ◌∙◌, subst}
use Rattle.std.specs.Prelude.{slice_get}
use Rattle.std.specs.Map.{lookup}
use Rattle.lisa_tree.specs.declared.tokens.Shape.{Shape}
use Rattle.lisa_tree.specs.Expressions as exprs
use Rattle.lisa_tree.specs.Expressions.{ExprTree}
use Rattle.lisa_tree.specs.Descriptions as trees
use Rattle.lisa_tree.specs.Descriptions.{ResourceTree, DescriptionTree}
use Rattle.lisa_tree.specs.declared.declared.Meaning.{Meaning}
use Rattle.lisa_tree.specs.declared.declared.Meaning.TheVariants as meanings
use Rattle.lisa_tree.specs.Same.{same_name}
use Rattle.lisa_tree.specs.Resources.{stage_at}
use Rattle.lisa_tree.specs.Operations.{own_stage}
use Rattle.lisa_tree.specs.Meanings.{meaning}
use Rattle.step_program.specs.Programs.{Program, Expr, Aim, ToItem, ToTemp, ToCell, Move}
use Rattle.step_program.specs.Effects.{Moment, value}
use Rattle.scene_paths.specs.lisa_meaning.Values.{Array, register_place, named_array, field_place, shape_at}
use Rattle.step_pieces.specs.Pieces.{top, always}
use Rattle.step_pieces.specs.Running.{ran, Rests, IsLow}
use Rattle.step_pieces.proofs.Rested.{rests_none, low_value, idle}
use Rattle.lowered_values.specs.Templates.{fitted}
use Rattle.lowered_values.specs.Sources.{bare}
use Rattle.lowered_values.specs.Computed.{Computed}
use Rattle.lowered_values.proofs.Lowering.{Scratch, rested}
use Rattle.lowered_statements.specs.Scopes.{Local, Scope}
use Rattle.lowered_statements.specs.Agreement.{Idles}
use Rattle.lowered_statements.proofs.Idle.{behind_rests}
use Rattle.lowered_resources.specs.Places.{Places, Lasting, Written, Out}
use Rattle.lowered_resources.specs.Reading.{index_width}
use Rattle.lowered_resources.specs.Putting.{Given, Stores, Reads, move_to, assigned, resource_put, element_put, field_put, out_put, meant_put, name_put, puts, told}

module _ (p : Program) (before pins : List ℕ) where
  abbrev run : Moment → List Move → Moment
  run now moves = ran p before pins now moves

  abbrev val : Moment → Expr → ℕ
  val now e = value p before pins now e

  -- one step
  step_rests : (from : ℕ) (move : Move) (now : Moment) → val now move.guard ≡ 0 → Rests from now (run now (move ∷ []))
  step_rests from move now off = subst (λ (m : Moment). Rests from now m) (sym (idle p before pins move now off)) (rests_none from now)

  -- two steps under the same guard
  steps_rest : (from : ℕ) (guard : Expr) (a b : Aim) (e f : Expr) (now : Moment) → val now guard ≡ 0 → Rests from now (run now (move_to guard a e ∷ move_to guard b f ∷ []))
  steps_rest from guard a b e f now off =
      subst (λ (m : Moment). Rests from now (run m (move_to guard b f ∷ []))) (sym (idle p before pins (move_to guard a e) now off)) (step_rests from (move_to guard b f) now off)

  module _ (guard : Expr) (from : ℕ) (now : Moment) (low : IsLow from guard) (off : val now guard ≡ 0) where
    assigned_rests : (aim : Aim) (shape : Shape) (x : Given) → Rests from now (run now (assigned guard aim shape x).moves)
    assigned_rests aim shape x = step_rests from (move_to guard aim (fitted (x shape.kind) shape.width)) now off

    resource_rests : (d : DescriptionTree) (k : ℕ) (r : Option ResourceTree) (x : Given) → Rests from now (run now (resource_put d k r guard x).moves)
    resource_rests d k None x = rests_none from now
    resource_rests d k (Some (trees.Register word shape name None)) x = assigned_rests (ToItem (register_place d k)) shape x
    resource_rests d k (Some (trees.Register word shape name (Some depth))) x = rests_none from now
    resource_rests d k (Some (trees.Clocked word shape name)) x = assigned_rests (ToItem (register_place d k)) shape x
    resource_rests d k (Some (trees.Memory word shape name depth)) x = rests_none from now
    resource_rests d k (Some (trees.Pin shape name)) x = rests_none from now
    resource_rests d k (Some (trees.Pipeline name stages)) x = rests_none from now
    resource_rests d k (Some (trees.Fields pipe fields)) x = rests_none from now

    element_rests : (o : Option Array) (index : Computed) (x : Given) → Scratch from index.piece → Rests from now (run now (element_put o guard index x).moves)
    element_rests None index x scratch = rests_none from now
    element_rests (Some a) index x scratch =
        let r = rested p before pins from index.piece now scratch in
        let mid = run now index.piece.moves in
        let aim = ToCell a.place (fitted (bare index.out) (index_width a.depth)) in
        behind_rests p before pins from index.piece (assigned guard aim a.shape x) now r
        (step_rests (top from index.piece) (move_to guard aim (fitted (x a.shape.kind) a.shape.width)) mid (low_value p before pins from guard now mid low r ∙ off))

    field_rests : (places : Places) (s f : ℕ) (o : Option Shape) (x : Given) → Rests from now (run now (field_put places s f o guard x).moves)
    field_rests places s f None x = rests_none from now
    field_rests places s f (Some shape) x = steps_rest from guard (ToTemp (places.temp (Out s f))) (ToTemp (places.temp (Written s f))) (fitted (x shape.kind) shape.width) always now off

    out_rests : (d : DescriptionTree) (places : Places) (s f : Option ℕ) (x : Given) → Rests from now (run now (out_put d places s f guard x).moves)
    out_rests d places None f x = rests_none from now
    out_rests d places (Some s) None x = rests_none from now
    out_rests d places (Some s) (Some f) x = field_rests places s f (shape_at d f) x

    told_rests : (places : Places) (what : ℕ → Lasting) (o : Option ℕ) → Rests from now (run now (told places what o guard).moves)
    told_rests places what None = rests_none from now
    told_rests places what (Some s) = step_rests from (move_to guard (ToTemp (places.temp (what (suc s)))) always) now off

  -- ---- assignments

  module _ (d : DescriptionTree) (places : Places) (reads : Reads) (stores : Stores) (o : ℕ) (scope : Scope) (x : Given)
      (scratch : (from : ℕ) (e : ExprTree) → Scratch from (reads scope from e).piece) (idles : (n : List ℕ) → Idles p before pins (λ guard from. stores n guard from x)) where
    meant_rest : (n : List ℕ) (w : Meaning) → Idles p before pins (λ guard from. meant_put d stores n w guard from x)
    meant_rest n meanings.Nothing guard from now low off has lies = rests_none from now
    meant_rest n (meanings.Resource k) guard from now low off has lies = resource_rests guard from now low off d k (slice_get d.resources k) x
    meant_rest n (meanings.Declared i) guard from now low off has lies = idles n guard from now low off has lies

    name_rest : (n : List ℕ) (l : Option Local) → Idles p before pins (λ guard from. name_put l guard x (meant_put d stores n (meaning d o n) guard from x))
    name_rest n None guard from now low off has lies = meant_rest n (meaning d o n) guard from now low off has lies
    name_rest n (Some l) guard from now low off has lies = assigned_rests guard from now low off (ToTemp l.temp) (record { kind = l.kind; width = l.width }) x

    pub puts_rest : (target : ExprTree) → Idles p before pins (λ guard from. puts d places reads stores o scope guard from target x)
    puts_rest (exprs.Number v base) guard from now low off has lies = rests_none from now
    puts_rest (exprs.Named n) guard from now low off has lies = name_rest n (lookup (same_name n) scope) guard from now low off has lies
    puts_rest (exprs.Element n index) guard from now low off has lies = element_rests guard from now low off (named_array d o n) (reads scope from index) x (scratch from index)
    puts_rest (exprs.Input field) guard from now low off has lies = rests_none from now
    puts_rest (exprs.Output field) guard from now low off has lies = out_rests guard from now low off d places (own_stage d o) (field_place d field) x
    puts_rest (exprs.Boundary pipe first after field) guard from now low off has lies = rests_none from now
    puts_rest exprs.Decoded guard from now low off has lies = rests_none from now
    puts_rest (exprs.Cast shape a) guard from now low off has lies = rests_none from now
    puts_rest (exprs.Complement a) guard from now low off has lies = rests_none from now
    puts_rest (exprs.Negate a) guard from now low off has lies = rests_none from now
    puts_rest (exprs.Two operator a b) guard from now low off has lies = rests_none from now
    puts_rest (exprs.Choose c a b) guard from now low off has lies = rests_none from now

  -- ---- stalls and flushes

  pub told_rest : (d : DescriptionTree) (places : Places) (what : ℕ → Lasting) (n : List ℕ) → Idles p before pins (λ guard from. told places what (stage_at d n) guard)
  told_rest d places what n guard from now low off has lies = told_rests guard from now low off places what (stage_at d n)
