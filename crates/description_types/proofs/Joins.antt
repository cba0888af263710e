-- What the declarations that a reference may mean make together, in any order and however often.
use Rattle.std.proofs.Common.{◌≡◌, Bool, true, false, cond, refl, ap, sym, ◌∙◌}
use Rattle.lisa_tree.specs.declared.tokens.Shape.{Shape}
use Rattle.description_types.specs.declared.values.TypeOf.{TypeOf}
use Rattle.description_types.specs.declared.values.TypeOf.TheVariants as types
use Rattle.description_types.specs.declared.values.Assignable.{Assignable}
use Rattle.description_types.specs.declared.values.Assignable.TheVariants as assigns
use Rattle.description_types.specs.Shapes.{same_shape}
use Rattle.description_types.specs.Kinds.{both_types, either_assignable}
use Rattle.description_types.specs.Steady.{shapes_same}
use Rattle.description_types.specs.Sourced.{IsJoin}
use Rattle.description_types.proofs.Associating.{types_associate}
use Rattle.description_types.proofs.KnownTypes.{self_shape}

two_shapes : (s t : Shape) (first second : Bool) → same_shape s t ≡ first → same_shape t s ≡ second → both_types (types.Typed s) (types.Typed t) ≡ both_types (types.Typed t) (types.Typed s)
two_shapes s t true second e g = ap (λ (u : Shape). both_types (types.Typed s) (types.Typed u)) (sym (shapes_same s t e)) ∙ ap (λ (u : Shape). both_types (types.Typed u) (types.Typed s)) (shapes_same s t e)
two_shapes s t false true e g = ap (λ (u : Shape). both_types (types.Typed u) (types.Typed t)) (sym (shapes_same t s g)) ∙ ap (λ (u : Shape). both_types (types.Typed t) (types.Typed u)) (shapes_same t s g)
two_shapes s t false false e g = ap (λ (b : Bool). cond b (types.Typed s) types.NoType) e ∙ sym (ap (λ (b : Bool). cond b (types.Typed t) types.NoType) g)

types_commute : (x y : TypeOf) → both_types x y ≡ both_types y x
types_commute types.Refused types.Refused = refl
types_commute types.Refused types.NoType = refl
types_commute types.Refused (types.Typed t) = refl
types_commute types.NoType types.Refused = refl
types_commute types.NoType types.NoType = refl
types_commute types.NoType (types.Typed t) = refl
types_commute (types.Typed s) types.Refused = refl
types_commute (types.Typed s) types.NoType = refl
types_commute (types.Typed s) (types.Typed t) = two_shapes s t (same_shape s t) (same_shape t s) refl refl

types_idle : (x : TypeOf) → both_types x x ≡ x
types_idle types.Refused = refl
types_idle types.NoType = refl
types_idle (types.Typed s) = ap (λ (b : Bool). cond b (types.Typed s) types.NoType) (self_shape s)

pub types_join : IsJoin both_types
types_join = record { associates = types_associate; commutes = types_commute; idles = types_idle }

assignables_associate : (x y z : Assignable) → either_assignable (either_assignable x y) z ≡ either_assignable x (either_assignable y z)
assignables_associate assigns.Yes assigns.Yes assigns.Yes = refl
assignables_associate assigns.Yes assigns.Yes assigns.No = refl
assignables_associate assigns.Yes assigns.Yes assigns.Mixed = refl
assignables_associate assigns.Yes assigns.Yes assigns.Refused = refl
assignables_associate assigns.Yes assigns.No assigns.Yes = refl
assignables_associate assigns.Yes assigns.No assigns.No = refl
assignables_associate assigns.Yes assigns.No assigns.Mixed = refl
assignables_associate assigns.Yes assigns.No assigns.Refused = refl
assignables_associate assigns.Yes assigns.Mixed assigns.Yes = refl
assignables_associate assigns.Yes assigns.Mixed assigns.No = refl
assignables_associate assigns.Yes assigns.Mixed assigns.Mixed = refl
assignables_associate assigns.Yes assigns.Mixed assigns.Refused = refl
assignables_associate assigns.Yes assigns.Refused assigns.Yes = refl
assignables_associate assigns.Yes assigns.Refused assigns.No = refl
assignables_associate assigns.Yes assigns.Refused assigns.Mixed = refl
assignables_associate assigns.Yes assigns.Refused assigns.Refused = refl
assignables_associate assigns.No assigns.Yes assigns.Yes = refl
assignables_associate assigns.No assigns.Yes assigns.No = refl
assignables_associate assigns.No assigns.Yes assigns.Mixed = refl
assignables_associate assigns.No assigns.Yes assigns.Refused = refl
assignables_associate assigns.No assigns.No assigns.Yes = refl
assignables_associate assigns.No assigns.No assigns.No = refl
assignables_associate assigns.No assigns.No assigns.Mixed = refl
assignables_associate assigns.No assigns.No assigns.Refused = refl
assignables_associate assigns.No assigns.Mixed assigns.Yes = refl
assignables_associate assigns.No assigns.Mixed assigns.No = refl
assignables_associate assigns.No assigns.Mixed assigns.Mixed = refl
assignables_associate assigns.No assigns.Mixed assigns.Refused = refl
assignables_associate assigns.No assigns.Refused assigns.Yes = refl
assignables_associate assigns.No assigns.Refused assigns.No = refl
assignables_associate assigns.No assigns.Refused assigns.Mixed = refl
assignables_associate assigns.No assigns.Refused assigns.Refused = refl
assignables_associate assigns.Mixed assigns.Yes assigns.Yes = refl
assignables_associate assigns.Mixed assigns.Yes assigns.No = refl
assignables_associate assigns.Mixed assigns.Yes assigns.Mixed = refl
assignables_associate assigns.Mixed assigns.Yes assigns.Refused = refl
assignables_associate assigns.Mixed assigns.No assigns.Yes = refl
assignables_associate assigns.Mixed assigns.No assigns.No = refl
assignables_associate assigns.Mixed assigns.No assigns.Mixed = refl
assignables_associate assigns.Mixed assigns.No assigns.Refused = refl
assignables_associate assigns.Mixed assigns.Mixed assigns.Yes = refl
assignables_associate assigns.Mixed assigns.Mixed assigns.No = refl
assignables_associate assigns.Mixed assigns.Mixed assigns.Mixed = refl
assignables_associate assigns.Mixed assigns.Mixed assigns.Refused = refl
assignables_associate assigns.Mixed assigns.Refused assigns.Yes = refl
assignables_associate assigns.Mixed assigns.Refused assigns.No = refl
assignables_associate assigns.Mixed assigns.Refused assigns.Mixed = refl
assignables_associate assigns.Mixed assigns.Refused assigns.Refused = refl
assignables_associate assigns.Refused assigns.Yes assigns.Yes = refl
assignables_associate assigns.Refused assigns.Yes assigns.No = refl
assignables_associate assigns.Refused assigns.Yes assigns.Mixed = refl
assignables_associate assigns.Refused assigns.Yes assigns.Refused = refl
assignables_associate assigns.Refused assigns.No assigns.Yes = refl
assignables_associate assigns.Refused assigns.No assigns.No = refl
assignables_associate assigns.Refused assigns.No assigns.Mixed = refl
assignables_associate assigns.Refused assigns.No assigns.Refused = refl
assignables_associate assigns.Refused assigns.Mixed assigns.Yes = refl
assignables_associate assigns.Refused assigns.Mixed assigns.No = refl
assignables_associate assigns.Refused assigns.Mixed assigns.Mixed = refl
assignables_associate assigns.Refused assigns.Mixed assigns.Refused = refl
assignables_associate assigns.Refused assigns.Refused assigns.Yes = refl
assignables_associate assigns.Refused assigns.Refused assigns.No = refl
assignables_associate assigns.Refused assigns.Refused assigns.Mixed = refl
assignables_associate assigns.Refused assigns.Refused assigns.Refused = refl

assignables_commute : (x y : Assignable) → either_assignable x y ≡ either_assignable y x
assignables_commute assigns.Yes assigns.Yes = refl
assignables_commute assigns.Yes assigns.No = refl
assignables_commute assigns.Yes assigns.Mixed = refl
assignables_commute assigns.Yes assigns.Refused = refl
assignables_commute assigns.No assigns.Yes = refl
assignables_commute assigns.No assigns.No = refl
assignables_commute assigns.No assigns.Mixed = refl
assignables_commute assigns.No assigns.Refused = refl
assignables_commute assigns.Mixed assigns.Yes = refl
assignables_commute assigns.Mixed assigns.No = refl
assignables_commute assigns.Mixed assigns.Mixed = refl
assignables_commute assigns.Mixed assigns.Refused = refl
assignables_commute assigns.Refused assigns.Yes = refl
assignables_commute assigns.Refused assigns.No = refl
assignables_commute assigns.Refused assigns.Mixed = refl
assignables_commute assigns.Refused assigns.Refused = refl

assignables_idle : (x : Assignable) → either_assignable x x ≡ x
assignables_idle assigns.Yes = refl
assignables_idle assigns.No = refl
assignables_idle assigns.Mixed = refl
assignables_idle assigns.Refused = refl

pub assignables_join : IsJoin either_assignable
assignables_join = record { associates = assignables_associate; commutes = assignables_commute; idles = assignables_idle }
