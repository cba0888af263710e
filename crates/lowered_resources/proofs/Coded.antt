-- What the code reads of an accepted description.
use Rattle.std.proofs.Common.{◌≡◌, ◌<◌, ◌≤◌, ◌^◌, ◌∙◌, ℕ, List, None, Option, Some, length, option_map, refl, sym, ap, subst, arith}
use Rattle.std.specs.Prelude.{slice_get}
use Rattle.std.proofs.lemmas.Nat.{leading_top}
use Rattle.std.proofs.lemmas.Option.{same_Some, slice_get_within}
use Rattle.std.specs.Int.{leading_zeros, w64}
use Rattle.lisa_tree.specs.declared.tokens.Shape.{Shape}
use Rattle.lisa_tree.specs.declared.descriptions.RegisterWord.{RegisterWord}
use Rattle.lisa_tree.specs.Descriptions as trees
use Rattle.lisa_tree.specs.Descriptions.{ResourceTree, DescriptionTree}
use Rattle.meaning_promises.specs.lisa_machine.Verdicts.{IsAccepted}
use Rattle.meaning_promises.specs.lisa_machine.Resolving.{IsWidth, FitsResource}
use Rattle.meaning_promises.specs.machine_parts.Parts.{arrays_of}
use Rattle.scene_paths.specs.lisa_meaning.Values.{register_place, pin_place, named_array, shape_at}
use Rattle.scene_paths.specs.declared.array.Array.{Array}
use Rattle.scene_paths.specs.Lookups.{array_of}
use Rattle.step_program.specs.Programs.{Expr, Now, Before, Pin, ToItem}
use Rattle.step_pieces.specs.Pieces.{Piece, nothing}
use Rattle.lowered_values.specs.Operands.{Operand}
use Rattle.lowered_resources.specs.Reading.{index_width, operand_in, resource_operand}
use Rattle.lowered_resources.specs.Putting.{Given, assigned, resource_put}
use Rattle.lowered_resources.specs.Code.{register_shape}
use Rattle.lowered_resources.proofs.Depths.{tells}
use Rattle.lowered_resources.proofs.Standing.{IsArray, fits, shape_sized, named_is}
use Rattle.lowered_resources.proofs.Numbers.{arrays_low}

pub number_within : (d : DescriptionTree) (k : ℕ) (r : ResourceTree) → slice_get d.resources k ≡ Some r → k < length d.resources
number_within d k r is = slice_get_within d.resources k r is

-- ---- widths

module _ (d : DescriptionTree) (accepted : IsAccepted d) (k : ℕ) (shape : Shape) where
  of_width : (r : ResourceTree) → slice_get d.resources k ≡ Some r → register_shape r ≡ Some shape → IsWidth shape.width
  of_width (trees.Register word own name None) there is =
      let fit : FitsResource (trees.Register word own name None) = fits d accepted k (trees.Register word own name None) there in
      subst (λ (s : Shape). IsWidth s.width) (same_Some own shape is) fit.0
  of_width (trees.Register word own name (Some depth)) there is = absurd (cc is)
  of_width (trees.Clocked word own name) there is =
      let fit : FitsResource (trees.Clocked word own name) = fits d accepted k (trees.Clocked word own name) there in
      subst (λ (s : Shape). IsWidth s.width) (same_Some own shape is) fit
  of_width (trees.Memory word own name depth) there is = absurd (cc is)
  of_width (trees.Pin own name) there is = absurd (cc is)
  of_width (trees.Pipeline name stages) there is = absurd (cc is)
  of_width (trees.Fields pipe fields) there is = absurd (cc is)

  pub shape_least : (r : ResourceTree) → slice_get d.resources k ≡ Some r → register_shape r ≡ Some shape → 1 ≤ shape.width
  shape_least r there is = (of_width r there is).0

  pub shape_most : (r : ResourceTree) → slice_get d.resources k ≡ Some r → register_shape r ≡ Some shape → shape.width ≤ 64
  shape_most r there is = (of_width r there is).1

module _ (d : DescriptionTree) (accepted : IsAccepted d) (k : ℕ) (shape : Shape) (name : List ℕ) where
  pub register_least : (word : RegisterWord) → slice_get d.resources k ≡ Some (trees.Register word shape name None) → 1 ≤ shape.width
  register_least word is = shape_least d accepted k shape (trees.Register word shape name None) is refl

  pub register_most : (word : RegisterWord) → slice_get d.resources k ≡ Some (trees.Register word shape name None) → shape.width ≤ 64
  register_most word is = shape_most d accepted k shape (trees.Register word shape name None) is refl

  pub clocked_least : (word : RegisterWord) → slice_get d.resources k ≡ Some (trees.Clocked word shape name) → 1 ≤ shape.width
  clocked_least word is = shape_least d accepted k shape (trees.Clocked word shape name) is refl

  pub clocked_most : (word : RegisterWord) → slice_get d.resources k ≡ Some (trees.Clocked word shape name) → shape.width ≤ 64
  clocked_most word is = shape_most d accepted k shape (trees.Clocked word shape name) is refl

  pin_sized : slice_get d.resources k ≡ Some (trees.Pin shape name) → IsWidth shape.width
  pin_sized is = let fit : FitsResource (trees.Pin shape name) = fits d accepted k (trees.Pin shape name) is in fit

  pub pin_least : slice_get d.resources k ≡ Some (trees.Pin shape name) → 1 ≤ shape.width
  pin_least is = (pin_sized is).0

  pub pin_most : slice_get d.resources k ≡ Some (trees.Pin shape name) → shape.width ≤ 64
  pin_most is = (pin_sized is).1

module _ (d : DescriptionTree) (accepted : IsAccepted d) (f : ℕ) (shape : Shape) (is : shape_at d f ≡ Some shape) where
  pub field_least : 1 ≤ shape.width
  field_least = (shape_sized d accepted f shape is).0

  pub field_most : shape.width ≤ 64
  field_most = (shape_sized d accepted f shape is).1

-- ---- what resources are read as

module _ (d : DescriptionTree) (k : ℕ) (shape : Shape) (name : List ℕ) (place : ℕ) (x : Operand) where
  pub register_operand : (word : RegisterWord) → x ≡ operand_in shape (Now place) → slice_get d.resources k ≡ Some (trees.Register word shape name None) → place ≡ register_place d k
      → x ≡ resource_operand d k (slice_get d.resources k)
  register_operand word made is at = made ∙ ap (λ (p : ℕ). operand_in shape (Now p)) at ∙ sym (ap (resource_operand d k) is)

  pub clocked_operand : (word : RegisterWord) → x ≡ operand_in shape (Before place) → slice_get d.resources k ≡ Some (trees.Clocked word shape name) → place ≡ register_place d k
      → x ≡ resource_operand d k (slice_get d.resources k)
  clocked_operand word made is at = made ∙ ap (λ (p : ℕ). operand_in shape (Before p)) at ∙ sym (ap (resource_operand d k) is)

  pub pin_operand : x ≡ operand_in shape (Pin place) → slice_get d.resources k ≡ Some (trees.Pin shape name) → place ≡ pin_place d k
      → x ≡ resource_operand d k (slice_get d.resources k)
  pin_operand made is at = made ∙ ap (λ (p : ℕ). operand_in shape (Pin p)) at ∙ sym (ap (resource_operand d k) is)

-- ---- arrays

module _ (d : DescriptionTree) (accepted : IsAccepted d) (o : ℕ) (n : List ℕ) where
  is_array : (r : Option Array) (a : Array) → option_map array_of r ≡ named_array d o n → r ≡ Some a → IsArray d (array_of a)
  is_array r a e is = named_is d accepted o n (array_of a) (sym e ∙ ap (option_map array_of) is)

  pub array_least : (r : Option Array) (a : Array) → option_map array_of r ≡ named_array d o n → r ≡ Some a → 1 ≤ index_width a.depth
  array_least r a e is = (tells a.depth (is_array r a e is).depth).least

  pub array_most : (r : Option Array) (a : Array) → option_map array_of r ≡ named_array d o n → r ≡ Some a → index_width a.depth ≤ 64
  array_most r a e is = (tells a.depth (is_array r a e is).depth).most

  pub array_low : (r : Option Array) (a : Array) → length d.resources < 2 ^ 32 → option_map array_of r ≡ named_array d o n → r ≡ Some a → a.place < 2 ^ 32
  array_low r a few e is =
      let array = is_array r a e is in
      let low = slice_get_within (arrays_of d) a.place array.shown array.at in
      let most = arrays_low d few in
      omega (arith, low, most)

-- ---- indexes

pub few_zeros : (depth : ℕ) → 1 ≤ depth → depth < 2 ^ 64 → leading_zeros w64 depth ≤ 63
few_zeros depth least most = let top = (leading_top 64 depth (omega (arith, least)) (omega (arith, most))).1 in omega (arith, top)

-- ---- what is assigned to resources

abbrev put_shaped : DescriptionTree → ℕ → Option Shape → (guard : Expr) → Given → Piece
put_shaped d k None guard x = nothing
put_shaped d k (Some shape) guard x = assigned guard (ToItem (register_place d k)) shape x

by_shape : (d : DescriptionTree) (k : ℕ) (guard : Expr) (x : Given) (r : ResourceTree) → resource_put d k (Some r) guard x ≡ put_shaped d k (register_shape r) guard x
by_shape d k guard x (trees.Register word shape name None) = refl
by_shape d k guard x (trees.Register word shape name (Some depth)) = refl
by_shape d k guard x (trees.Clocked word shape name) = refl
by_shape d k guard x (trees.Memory word shape name depth) = refl
by_shape d k guard x (trees.Pin shape name) = refl
by_shape d k guard x (trees.Pipeline name stages) = refl
by_shape d k guard x (trees.Fields pipe fields) = refl

module _ (d : DescriptionTree) (k : ℕ) (guard : Expr) (x : Given) (r : ResourceTree) (there : slice_get d.resources k ≡ Some r) where
  found : (o : Option Shape) → register_shape r ≡ o → resource_put d k (slice_get d.resources k) guard x ≡ put_shaped d k o guard x
  found o is = ap (λ (s : Option ResourceTree). resource_put d k s guard x) there ∙ by_shape d k guard x r ∙ ap (λ (s : Option Shape). put_shaped d k s guard x) is

  pub no_register : register_shape r ≡ None → resource_put d k (slice_get d.resources k) guard x ≡ nothing
  no_register is = found None is

  pub own_register : (shape : Shape) (place : ℕ) → register_shape r ≡ Some shape → place ≡ register_place d k
      → resource_put d k (slice_get d.resources k) guard x ≡ assigned guard (ToItem place) shape x
  own_register shape place is at = found (Some shape) is ∙ sym (ap (λ (p : ℕ). assigned guard (ToItem p) shape x) at)
