-- Three alternatives make the same, whichever two are put together first.
use Rattle.std.proofs.Common.{◌≡◌, Bool, true, false, cond, refl, ap, sym, ◌∙◌}
use Rattle.lisa_tree.specs.declared.tokens.Shape.{Shape}
use Rattle.description_types.specs.declared.values.TypeOf.{TypeOf}
use Rattle.description_types.specs.declared.values.TypeOf.TheVariants as types
use Rattle.description_types.specs.declared.values.Assignable.{Assignable}
use Rattle.description_types.specs.declared.values.Assignable.TheVariants as assigns
use Rattle.description_types.specs.Shapes.{same_shape}
use Rattle.description_types.specs.Kinds.{both_types, both_assignable}
use Rattle.description_types.specs.Steady.{shapes_same}

three_shapes : (s t u : Shape) (first second : Bool) → same_shape s t ≡ first → same_shape t u ≡ second
    → both_types (cond first (types.Typed s) types.NoType) (types.Typed u) ≡ both_types (types.Typed s) (cond second (types.Typed t) types.NoType)
three_shapes s t u false false e g = refl
three_shapes s t u false true e g = sym (ap (λ b. cond b (types.Typed s) types.NoType) e)
three_shapes s t u true false e g = ap (λ (v : Shape). cond (same_shape v u) (types.Typed s) types.NoType) (shapes_same s t e) ∙ ap (λ b. cond b (types.Typed s) types.NoType) g
three_shapes s t u true true e g =
    ap (λ (v : Shape). cond (same_shape v u) (types.Typed s) types.NoType) (shapes_same s t e)
    ∙ ap (λ b. cond b (types.Typed s) types.NoType) g
    ∙ sym (ap (λ b. cond b (types.Typed s) types.NoType) e)

last_ends : (s : Shape) (first : Bool) → both_types (cond first (types.Typed s) types.NoType) types.NoType ≡ types.NoType
last_ends s true = refl
last_ends s false = refl

last_refused : (s : Shape) (first : Bool) → both_types (cond first (types.Typed s) types.NoType) types.Refused ≡ types.Refused
last_refused s true = refl
last_refused s false = refl

first_ends : (s : Shape) (second : Bool) → types.NoType ≡ both_types types.NoType (cond second (types.Typed s) types.NoType)
first_ends s true = refl
first_ends s false = refl

pub types_associate : (x y z : TypeOf) → both_types (both_types x y) z ≡ both_types x (both_types y z)
types_associate types.Refused y z = refl
types_associate types.NoType types.Refused z = refl
types_associate types.NoType types.NoType types.Refused = refl
types_associate types.NoType types.NoType types.NoType = refl
types_associate types.NoType types.NoType (types.Typed u) = refl
types_associate types.NoType (types.Typed t) types.Refused = refl
types_associate types.NoType (types.Typed t) types.NoType = refl
types_associate types.NoType (types.Typed t) (types.Typed u) = first_ends t (same_shape t u)
types_associate (types.Typed s) types.Refused z = refl
types_associate (types.Typed s) types.NoType types.Refused = refl
types_associate (types.Typed s) types.NoType types.NoType = refl
types_associate (types.Typed s) types.NoType (types.Typed u) = refl
types_associate (types.Typed s) (types.Typed t) types.Refused = last_refused s (same_shape s t)
types_associate (types.Typed s) (types.Typed t) types.NoType = last_ends s (same_shape s t)
types_associate (types.Typed s) (types.Typed t) (types.Typed u) = three_shapes s t u (same_shape s t) (same_shape t u) refl refl

pub assignables_associate : (x y z : Assignable) → both_assignable (both_assignable x y) z ≡ both_assignable x (both_assignable y z)
assignables_associate assigns.No y z = refl
assignables_associate assigns.Mixed y z = refl
assignables_associate assigns.Yes assigns.No z = refl
assignables_associate assigns.Yes assigns.Mixed z = refl
assignables_associate assigns.Yes assigns.Yes assigns.Yes = refl
assignables_associate assigns.Yes assigns.Yes assigns.No = refl
assignables_associate assigns.Yes assigns.Yes assigns.Mixed = refl
assignables_associate assigns.Yes assigns.Yes assigns.Refused = refl
assignables_associate assigns.Yes assigns.Refused assigns.Yes = refl
assignables_associate assigns.Yes assigns.Refused assigns.No = refl
assignables_associate assigns.Yes assigns.Refused assigns.Mixed = refl
assignables_associate assigns.Yes assigns.Refused assigns.Refused = refl
assignables_associate assigns.Refused assigns.No z = refl
assignables_associate assigns.Refused assigns.Mixed z = refl
assignables_associate assigns.Refused assigns.Yes assigns.Yes = refl
assignables_associate assigns.Refused assigns.Yes assigns.No = refl
assignables_associate assigns.Refused assigns.Yes assigns.Mixed = refl
assignables_associate assigns.Refused assigns.Yes assigns.Refused = refl
assignables_associate assigns.Refused assigns.Refused assigns.Yes = refl
assignables_associate assigns.Refused assigns.Refused assigns.No = refl
assignables_associate assigns.Refused assigns.Refused assigns.Mixed = refl
assignables_associate assigns.Refused assigns.Refused assigns.Refused = refl
