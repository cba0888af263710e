use Rattle.std.proofs.Common.{ℕ, List, Bool, map, ap, ◌∙◌, arith, subst}
use Rattle.std.specs.Option.{is_some}
use Rattle.least_fixed_points.specs.Settles.{entry}
use Rattle.meant_declarations.specs.Meant.{IsFound}
use Rattle.description_types.proofs.MeantMarks.{found_meant}
use Rattle.description_types.proofs.meant.some_meant.Goals as goal

pub returns : goal.returns
returns g c =
    found_meant (g.N.Names.tree c.args.names.now) (g.P.Property.holds c.args.property.now) c.in_ok-own.own.items
    (λ i h. c.in_ok-own.ensures.exact i (omega (arith, h, c.entry_count.ensures)))
    c.in_ok-found.found.items c.in_ok-meant.meant.items
    (subst (λ (m : List Bool). (i : ℕ) → IsFound (g.N.Names.tree c.args.names.now) m i (entry c.in_ok-found.found.items i)) c.deref.ensures.value c.in_ok-found.ensures.exact)
    (c.in_ok-meant.ensures ∙ ap (map is_some) c.deref-2.ensures.value)
