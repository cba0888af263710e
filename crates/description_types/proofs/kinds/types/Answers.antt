use Rattle.std.proofs.Common.{◌≡◌, ◌↔◌, ℕ, List, Option, Some, subst}
use Rattle.std.specs.Global.{Vec}
use Rattle.least_fixed_points.specs.Settles.{entry, Settles}
use Rattle.description_types.specs.declared.values.TypeOf.{TypeOf}
use Rattle.description_types.specs.Facts.{Fact}
use Rattle.description_types.specs.Kinds.{type_fact}
use Rattle.description_types.specs.Uses.{traits_by}
use Rattle.description_types.specs.Tables.{apart}
use Rattle.description_types.specs.Sourced.{follows_sources}
use Rattle.description_types.proofs.Joins.{types_join}
use Rattle.description_types.proofs.SameValues.{same_values}
use Rattle.description_types.proofs.kinds.types.Goals as goal

pub returns : goal.returns
returns g c =
    let d = g.N.Names.tree c.args.names.now in
    let fact : Fact TypeOf = type_fact d (apart (traits_by c.args.uses.now)) in
    let table : ℕ → Option TypeOf = entry c.in_ok-types.types.items in
    same_values d fact types_join c.args.meanings.now.next c.requires.meanings.sources c.args.lacking.now c.requires.lacking table
    (subst (λ (rows : List (Vec ℕ)). (a : ℕ) (t : TypeOf) → (table a ≡ Some t) ↔ Settles (follows_sources d rows c.args.lacking.now fact) a t) c.sources.ensures c.in_ok-types.ensures.exact)
