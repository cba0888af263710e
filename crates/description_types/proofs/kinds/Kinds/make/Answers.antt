use Rattle.std.proofs.Common.{◌≡◌, ◌↔◌, ◌&&◌, ℕ, Bool, true, List, Option, subst, ap₂, ◌∙◌}
use Rattle.graph_paths.specs.Paths.{saw}
use Rattle.least_fixed_points.specs.Settles.{entry}
use Rattle.description_types.specs.declared.values.TypeOf.{TypeOf}
use Rattle.description_types.specs.declared.values.Assignable.{Assignable}
use Rattle.description_types.specs.Uses.{traits_by}
use Rattle.description_types.specs.Tables.{AreMeant, IsTypeless, DifferInType, AreAssignables, MayAssign, IsUnassignable, IsSettled}
use Rattle.description_types.proofs.KnownMarks.{differ_so}
use Rattle.description_types.proofs.kinds.Kinds.make.Goals as goal

pub returns : goal.returns
returns g c =
    let may = subst (λ (t : List (Option Assignable)). AreMeant (g.N.Names.tree c.args.names.now) (MayAssign (g.N.Names.tree c.args.names.now) (entry t)) (saw c.in_ok-assignable.assignable.items)) c.deref-9.ensures.value c.in_ok-assignable.ensures in
    let not = subst (λ (t : List (Option Assignable)). (i : ℕ) → (saw c.in_ok-unassignable.unassignable.items i ≡ true) ↔ IsUnassignable (g.N.Names.tree c.args.names.now) (entry t) i) c.deref-10.ensures.value c.in_ok-unassignable.ensures in
    record {
      traits = c.in_ok-uses.ensures;
      types = c.in_ok-types.ensures;
      typeless = subst (λ (t : List (Option TypeOf)). (i : ℕ) → (saw c.in_ok-typeless.typeless.items i ≡ true) ↔ IsTypeless (g.N.Names.tree c.args.names.now) (entry t) i) c.deref-5.ensures.value c.in_ok-typeless.ensures;
      types_differ = subst (λ (t : List (Option TypeOf)). (i : ℕ) → (saw c.in_ok-types_differ.types_differ.items i ≡ true) ↔ (IsSettled (g.N.Names.tree c.args.names.now) (entry t) i × DifferInType (g.N.Names.tree c.args.names.now) (entry t) i)) c.deref-6.ensures.value c.in_ok-types_differ.ensures;
      assignables = subst (λ (t : List Bool). AreAssignables (g.N.Names.tree c.args.names.now) (traits_by c.in_ok-uses.uses) (saw t) (entry c.in_ok-assignables.assignables.items)) c.deref-7.ensures.value c.in_ok-assignables.ensures;
      unassignable = not;
      assignables_differ = differ_so (g.N.Names.tree c.args.names.now) (entry c.in_ok-assignables.assignables.items) (saw c.in_ok-assignable.assignable.items) (saw c.in_ok-unassignable.unassignable.items) (saw c.in_ok-assignables_differ.assignables_differ.items) may not
          (λ i. c.in_ok-assignables_differ.ensures i ∙ ap₂ (λ (x y : List Bool). saw x i && saw y i) c.deref-11.ensures.value c.deref-12.ensures.value);
    }
