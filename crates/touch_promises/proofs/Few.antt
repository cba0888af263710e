-- How many cells assignments write.
use Rattle.std.proofs.Common.{◌≤◌, ◌+◌, ◌%◌, ◌∙◌, ◌++◌, ℕ, zero, suc, List, [], ◌∷◌, Option, None, Some, refl, sym, ap, arith, length-append}
use Rattle.std.specs.Prelude.{fold}
use Rattle.std.specs.Map.{lookup}
use Rattle.std.proofs.lemmas.List.Sums.{fold-append}
use Rattle.lisa_tree.specs.declared.tokens.Shape.{Shape}
use Rattle.lisa_tree.specs.Expressions as exprs
use Rattle.lisa_tree.specs.Expressions.{ExprTree}
use Rattle.lisa_tree.specs.Descriptions as trees
use Rattle.lisa_tree.specs.Descriptions.{ResourceTree, DescriptionTree}
use Rattle.lisa_tree.specs.declared.declared.Meaning.{Meaning}
use Rattle.lisa_tree.specs.declared.declared.Meaning.TheVariants as meanings
use Rattle.lisa_tree.specs.Same.{same_name}
use Rattle.lisa_tree.specs.Operations.{own_stage}
use Rattle.lisa_tree.specs.Meanings.{meaning}
use Rattle.typed_values.specs.Words.{TypedWord}
use Rattle.lisa_meaning.specs.Scenes.{Link, Scene, at_path, running, home, child_at_home}
use Rattle.lisa_meaning.specs.Moments.{Moment, with_stall, with_flush, bare}
use Rattle.lisa_meaning.specs.Values.{Array, named_array, field_place, shape_at, expression_at, value_of}
use Rattle.lisa_meaning.specs.Effects.{Given, PutBelow, resource_put, element_put, out_with, out_put, put_below, meant_put, name_put, put, put_within, at_level, bits_for}
use Rattle.touch_promises.specs.Writes.{write_cell, FewWrites}

-- ---- few writes after few

pub none_written : (n : ℕ) (cells : List (List ℕ)) → FewWrites n cells cells
none_written n cells = record { writes = []; few = omega arith; are = refl }

pub more_written : (a b : ℕ) (xs ys : List (List ℕ)) → a ≤ b → FewWrites a xs ys → FewWrites b xs ys
more_written a b xs ys low f = record { writes = f.writes; few = (let few = f.few in omega (arith, few, low)); are = f.are }

pub both_written : (a b n : ℕ) (xs ys zs : List (List ℕ)) → a + b ≤ n → FewWrites a xs ys → FewWrites b ys zs → FewWrites n xs zs
both_written a b n xs ys zs low f g = record {
  writes = f.writes ++ g.writes;
  few = (let one = f.few in let two = g.few in let all = length-append f.writes g.writes in omega (arith, one, two, all, low));
  are = g.are ∙ ap (λ (cells : List (List ℕ)). fold write_cell cells g.writes) f.are ∙ sym (fold-append write_cell xs f.writes g.writes);
}

abbrev pub Few : ℕ → Moment → Moment → Type 0
Few n m now = FewWrites n m.memory.cells now.memory.cells

pub few_none : (n : ℕ) (m : Moment) → Few n m m
few_none n m = none_written n m.memory.cells

-- ---- places

module _ (d : DescriptionTree) where
  resource_few : (k : ℕ) (r : Option ResourceTree) (given : Given) (m : Moment) → Few 1 m (resource_put d k r given m)
  resource_few k None given m = few_none 1 m
  resource_few k (Some (trees.Register word shape name None)) given m = few_none 1 m
  resource_few k (Some (trees.Register word shape name (Some depth))) given m = few_none 1 m
  resource_few k (Some (trees.Clocked word shape name)) given m = few_none 1 m
  resource_few k (Some (trees.Memory word shape name depth)) given m = few_none 1 m
  resource_few k (Some (trees.Pin shape name)) given m = few_none 1 m
  resource_few k (Some (trees.Pipeline name stages)) given m = few_none 1 m
  resource_few k (Some (trees.Fields pipe fields)) given m = few_none 1 m

  element_few : (a : Option Array) (index : ℕ) (given : Given) (m : Moment) → Few 1 m (element_put a index given m)
  element_few None index given m = few_none 1 m
  element_few (Some a) index given m = record {
    writes = record { array = a.place; index = index % a.depth; bits = bits_for a.shape given } ∷ [];
    few = omega arith;
    are = refl;
  }

  out_few_with : (s f : ℕ) (r : Option Shape) (given : Given) (m : Moment) → Few 1 m (out_with s f r given m)
  out_few_with s f None given m = few_none 1 m
  out_few_with s f (Some shape) given m = few_none 1 m

  out_few : (s f : Option ℕ) (given : Given) (m : Moment) → Few 1 m (out_put d s f given m)
  out_few None f given m = few_none 1 m
  out_few (Some s) None given m = few_none 1 m
  out_few (Some s) (Some f) given m = out_few_with s f (shape_at d f) given m

  module _ (below : PutBelow) (below_few : (path : List Link) (e : ExprTree) (given : Given) (m : Moment) → Few 1 m (below path e given m)) where
    child_few : (path : List Link) (e : Option ExprTree) (given : Given) (m : Moment) → Few 1 m (put_below below path e given m)
    child_few path None given m = few_none 1 m
    child_few path (Some e) given m = below_few path e given (bare m)

    meant_few : (scene : Scene) (n : List ℕ) (r : Meaning) (given : Given) (m : Moment) → Few 1 m (meant_put below d scene n r given m)
    meant_few scene n meanings.Nothing given m = few_none 1 m
    meant_few scene n (meanings.Resource k) given m = resource_few k _ given m
    meant_few scene n (meanings.Declared i) given m =
        let path = child_at_home d scene.form n (home d n scene.path) in
        child_few path (expression_at d path) given m

    name_few : (scene : Scene) (n : List ℕ) (r : Option TypedWord) (given : Given) (m : Moment) → Few 1 m (name_put below d scene n r given m)
    name_few scene n (Some old) given m = few_none 1 m
    name_few scene n None given m = meant_few scene n (meaning d (running scene) n) given m

    put_few : (scene : Scene) (e : ExprTree) (given : Given) (m : Moment) → Few 1 m (put below d scene e given m)
    put_few scene (exprs.Number v base) given m = few_none 1 m
    put_few scene (exprs.Named n) given m = name_few scene n (lookup (same_name n) m.locals) given m
    put_few scene (exprs.Element n index) given m = element_few (named_array d (running scene) n) (value_of d scene m index).bits given m
    put_few scene (exprs.Input field) given m = few_none 1 m
    put_few scene (exprs.Output field) given m = out_few (own_stage d (running scene)) (field_place d field) given m
    put_few scene (exprs.Boundary pipe before after field) given m = few_none 1 m
    put_few scene exprs.Decoded given m = few_none 1 m
    put_few scene (exprs.Cast shape a) given m = few_none 1 m
    put_few scene (exprs.Complement a) given m = few_none 1 m
    put_few scene (exprs.Negate a) given m = few_none 1 m
    put_few scene (exprs.Two operator a b) given m = few_none 1 m
    put_few scene (exprs.Choose c a b) given m = few_none 1 m

  pub within_few : (more : ℕ) (scene : Scene) (e : ExprTree) (given : Given) (m : Moment) → Few 1 m (put_within more d scene e given m)
  within_few zero scene e given m = few_none 1 m
  within_few (suc more) scene e given m =
      put_few (λ path place v now. put_within more d (at_path scene path) place v now) (λ path place v now. within_few more (at_path scene path) place v now) scene e given m

-- ---- stalls and flushes

pub stall_few : (n : ℕ) (s : Option ℕ) (m : Moment) → Few n m (at_level with_stall s m)
stall_few n None m = few_none n m
stall_few n (Some s) m = few_none n m

pub flush_few : (n : ℕ) (s : Option ℕ) (m : Moment) → Few n m (at_level with_flush s m)
flush_few n None m = few_none n m
flush_few n (Some s) m = few_none n m
