-- What assignments keep, by what they do to a moment: a register, a cell, a field or a local gets bits within its width.
use Rattle.std.proofs.Common.{◌≡◌, ◌<◌, ◌^◌, ℕ, zero, suc, List, Option, None, Some, refl, sym, subst}
use Rattle.std.specs.Prelude.{slice_get, ◌%◌}
use Rattle.std.specs.Map.{lookup}
use Rattle.std.proofs.lemmas.Option.{same_Some}
use Rattle.lisa_tree.specs.declared.tokens.Shape.{Shape}
use Rattle.lisa_tree.specs.Expressions as exprs
use Rattle.lisa_tree.specs.Expressions.{ExprTree}
use Rattle.lisa_tree.specs.Descriptions as trees
use Rattle.lisa_tree.specs.Descriptions.{ResourceTree, DescriptionTree}
use Rattle.lisa_engine.specs.declared.parts.Item.{Item}
use Rattle.lisa_engine.specs.declared.parts.ArrayItem.{ArrayItem}
use Rattle.lisa_tree.specs.declared.declared.Meaning.{Meaning}
use Rattle.lisa_tree.specs.declared.declared.Meaning.TheVariants as meanings
use Rattle.lisa_tree.specs.Same.{same_name}
use Rattle.lisa_tree.specs.Operations.{own_stage}
use Rattle.lisa_tree.specs.Meanings.{meaning}
use Rattle.typed_values.specs.Words.{TypedWord}
use Rattle.typed_values.specs.Effects.{like, local_put}
use Rattle.typed_values.proofs.Fitting.{fitted_within}
use Rattle.machine_parts.specs.Parts.{item, array, array_in, arrays_of, register_in, registers_of}
use Rattle.lisa_meaning.specs.Scenes.{Link, Scene, at_path, running, home, child_at_home}
use Rattle.lisa_meaning.specs.Moments.{Moment, with_locals, with_out, bare}
use Rattle.lisa_meaning.specs.Values.{Array, register_place, array_of, meant_array, named_array, field_place, shape_at, expression_at, value_of}
use Rattle.lisa_meaning.specs.Effects.{Given, bits_for, register_put, resource_put, cell_put, element_put, out_with, out_put, PutBelow, put_below, meant_put, name_put, put, put_within}
use Rattle.scene_promises.proofs.Replaced.{placed}

pub record Keeps (d : DescriptionTree) (P : Moment → Type 0) : Type 0 where
  pub register : (place bits : ℕ) (i : Item) (m : Moment) → slice_get (registers_of d) place ≡ Some i → bits < 2 ^ i.width → P m → P (register_put place bits m)
  pub cell : (place index bits : ℕ) (a : ArrayItem) (m : Moment) → slice_get (arrays_of d) place ≡ Some a → bits < 2 ^ a.width → P m → P (cell_put place index bits m)
  pub out : (stage field bits : ℕ) (m : Moment) → P m → P (with_out stage field bits m)
  pub local : (n : List ℕ) (old : TypedWord) (given : Given) (m : Moment) → lookup (same_name n) m.locals ≡ Some old → P m → P (with_locals (local_put m.locals n (like old given)) m)
  -- a child's EXPRESSION doesn't see the locals of its user, and these stand again behind it
  pub enters : (m : Moment) → P m → P (bare m)
  pub leaves : (m n : Moment) → P m → P n → P (with_locals m.locals n)

module _ (d : DescriptionTree) (P : Moment → Type 0) (keeps : Keeps d P) where
  resource_kept : (k : ℕ) (o : Option ResourceTree) (given : Given) (m : Moment) → slice_get d.resources k ≡ o → P m → P (resource_put d k o given m)
  resource_kept k None given m e kept = kept
  resource_kept k (Some (trees.Register word shape name None)) given m e kept =
      keeps.register (register_place d k) (bits_for shape given) (item shape name) m (placed register_in d.resources k (trees.Register word shape name None) (item shape name) e refl) (fitted_within (given shape.kind) shape.width) kept
  resource_kept k (Some (trees.Register word shape name (Some depth))) given m e kept = kept
  resource_kept k (Some (trees.Clocked word shape name)) given m e kept =
      keeps.register (register_place d k) (bits_for shape given) (item shape name) m (placed register_in d.resources k (trees.Clocked word shape name) (item shape name) e refl) (fitted_within (given shape.kind) shape.width) kept
  resource_kept k (Some (trees.Memory word shape name depth)) given m e kept = kept
  resource_kept k (Some (trees.Pin shape name)) given m e kept = kept
  resource_kept k (Some (trees.Pipeline name stages)) given m e kept = kept
  resource_kept k (Some (trees.Fields pipe fields)) given m e kept = kept

  -- an array by its place, with its width
  abbrev IsThere : Array → Type 0
  IsThere a = (one : ArrayItem) × (slice_get (arrays_of d) a.place ≡ Some one) × (one.width ≡ a.shape.width)

  array_there : (k : ℕ) (o : Option ResourceTree) (a : Array) → slice_get d.resources k ≡ o → array_of d k o ≡ Some a → IsThere a
  array_there k None a e f = absurd (cc f)
  array_there k (Some (trees.Register word shape name None)) a e f = absurd (cc f)
  array_there k (Some (trees.Register word shape name (Some depth))) a e f =
      subst IsThere (same_Some _ a f) (array shape name depth, placed array_in d.resources k (trees.Register word shape name (Some depth)) (array shape name depth) e refl, refl)
  array_there k (Some (trees.Clocked word shape name)) a e f = absurd (cc f)
  array_there k (Some (trees.Memory word shape name depth)) a e f =
      subst IsThere (same_Some _ a f) (array shape name depth, placed array_in d.resources k (trees.Memory word shape name depth) (array shape name depth) e refl, refl)
  array_there k (Some (trees.Pin shape name)) a e f = absurd (cc f)
  array_there k (Some (trees.Pipeline name stages)) a e f = absurd (cc f)
  array_there k (Some (trees.Fields pipe fields)) a e f = absurd (cc f)

  meant_there : (w : Meaning) (a : Array) → meant_array d w ≡ Some a → IsThere a
  meant_there meanings.Nothing a f = absurd (cc f)
  meant_there (meanings.Resource k) a f = array_there k (slice_get d.resources k) a refl f
  meant_there (meanings.Declared i) a f = absurd (cc f)

  element_kept : (o : Option Array) (index : ℕ) (given : Given) (m : Moment) → ((a : Array) → o ≡ Some a → IsThere a) → P m → P (element_put o index given m)
  element_kept None index given m there kept = kept
  element_kept (Some a) index given m there kept =
      let t = there a refl in
      keeps.cell a.place (index % a.depth) (bits_for a.shape given) t.0 m t.1 (subst (λ (n : ℕ). bits_for a.shape given < 2 ^ n) (sym t.2) (fitted_within (given a.shape.kind) a.shape.width)) kept

  out_kept : (s f : ℕ) (o : Option Shape) (given : Given) (m : Moment) → P m → P (out_with s f o given m)
  out_kept s f None given m kept = kept
  out_kept s f (Some shape) given m kept = keeps.out s f (bits_for shape given) m kept

  outs_kept : (s f : Option ℕ) (given : Given) (m : Moment) → P m → P (out_put d s f given m)
  outs_kept None f given m kept = kept
  outs_kept (Some s) None given m kept = kept
  outs_kept (Some s) (Some f) given m kept = out_kept s f (shape_at d f) given m kept

  module _ (below : PutBelow) (each : (path : List Link) (e : ExprTree) (given : Given) (m : Moment) → P m → P (below path e given m)) where
    below_kept : (path : List Link) (o : Option ExprTree) (given : Given) (m : Moment) → P m → P (put_below below path o given m)
    below_kept path None given m kept = kept
    below_kept path (Some e) given m kept = keeps.leaves m (below path e given (bare m)) kept (each path e given (bare m) (keeps.enters m kept))

    meant_kept : (scene : Scene) (n : List ℕ) (w : Meaning) (given : Given) (m : Moment) → P m → P (meant_put below d scene n w given m)
    meant_kept scene n meanings.Nothing given m kept = kept
    meant_kept scene n (meanings.Resource k) given m kept = resource_kept k (slice_get d.resources k) given m refl kept
    meant_kept scene n (meanings.Declared i) given m kept =
        let path = child_at_home d scene.form n (home d n scene.path) in
        below_kept path (expression_at d path) given m kept

    name_kept : (scene : Scene) (n : List ℕ) (o : Option TypedWord) (given : Given) (m : Moment) → lookup (same_name n) m.locals ≡ o → P m → P (name_put below d scene n o given m)
    name_kept scene n (Some old) given m e kept = keeps.local n old given m e kept
    name_kept scene n None given m e kept = meant_kept scene n (meaning d (running scene) n) given m kept

    put_kept : (scene : Scene) (target : ExprTree) (given : Given) (m : Moment) → P m → P (put below d scene target given m)
    put_kept scene (exprs.Number v base) given m kept = kept
    put_kept scene (exprs.Named n) given m kept = name_kept scene n (lookup (same_name n) m.locals) given m refl kept
    put_kept scene (exprs.Element n index) given m kept =
        element_kept (named_array d (running scene) n) (value_of d scene m index).bits given m (meant_there (meaning d (running scene) n)) kept
    put_kept scene (exprs.Input field) given m kept = kept
    put_kept scene (exprs.Output field) given m kept = outs_kept (own_stage d (running scene)) (field_place d field) given m kept
    put_kept scene (exprs.Boundary pipe before after field) given m kept = kept
    put_kept scene exprs.Decoded given m kept = kept
    put_kept scene (exprs.Cast shape a) given m kept = kept
    put_kept scene (exprs.Complement a) given m kept = kept
    put_kept scene (exprs.Negate a) given m kept = kept
    put_kept scene (exprs.Two operator a b) given m kept = kept
    put_kept scene (exprs.Choose c a b) given m kept = kept

  pub puts_kept : (more : ℕ) (scene : Scene) (target : ExprTree) (given : Given) (m : Moment) → P m → P (put_within more d scene target given m)
  puts_kept zero scene target given m kept = kept
  puts_kept (suc more) scene target given m kept =
      put_kept (λ path place v now. put_within more d (at_path scene path) place v now) (λ path place v now held. puts_kept more (at_path scene path) place v now held) scene target given m kept
