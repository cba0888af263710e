use Rattle.std.proofs.Common.{◌≡◌, ◌<◌, ◌↔◌, ℕ, Bool, true, List, length, ap, sym, ◌∙◌, subst}
use Rattle.lisa_tree.specs.Declarations.{entries}
use Rattle.lisa_tree.specs.Paths.{entry_node}
use Rattle.graph_paths.specs.Paths.{saw}
use Rattle.least_fixed_points.specs.Settles.{entry}
use Rattle.description_types.specs.Kinds.{unrefused}
use Rattle.description_types.specs.Tables.{DifferInType}
use Rattle.description_types.proofs.MeantMarks.{meant_from}
use Rattle.description_types.proofs.KnownMarks.{settled_so}
use Rattle.description_types.proofs.KnownTypes.{differ_in_type, differ_in_value}
use Rattle.description_types.proofs.kinds.differ_in_type.Goals as goal

pub returns : goal.returns
returns g c =
    let each : (k : ℕ) → k < length (entries (g.N.Names.tree c.args.names.now)) → entry c.deref.result.now k ≡ unrefused (entry c.args.types.now (entry_node (g.N.Names.tree c.args.names.now) k)) =
    λ k h. ap (λ xs. entry xs k) c.deref.ensures.value ∙ c.in_ok-declared.ensures.exact k h in
    settled_so (g.N.Names.tree c.args.names.now) (DifferInType (g.N.Names.tree c.args.names.now) (entry c.args.types.now)) (entry c.args.types.now) (saw c.deref-2.result.now) (saw c.in_ok-marks.marks.items)
    (λ i x. meant_from (g.N.Names.tree c.args.names.now) x.means_one)
    (λ i. subst (λ (m : List Bool). (saw m i ≡ true) ↔ DifferInType (g.N.Names.tree c.args.names.now) (entry c.args.types.now) i) (sym c.deref-2.ensures.value) (
      λ h. differ_in_type (g.N.Names.tree c.args.names.now) (entry c.args.types.now) c.deref.result.now each i ((c.in_ok-marked.ensures.exact i).0 h),
      λ x. (c.in_ok-marked.ensures.exact i).1 (differ_in_value (g.N.Names.tree c.args.names.now) (entry c.args.types.now) c.deref.result.now each i x),
    ))
    c.in_ok-marks.ensures.within c.in_ok-marks.ensures.marked
