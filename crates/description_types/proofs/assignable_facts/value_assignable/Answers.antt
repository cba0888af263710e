use Rattle.std.proofs.Common.{ap, ◌∙◌}
use Rattle.description_types.specs.Types.{meant_element}
use Rattle.description_types.specs.Kinds.{array_assignable}
use Rattle.description_types.proofs.assignable_facts.value_assignable.Goals as goal

pub returns-in-Element : goal.returns-in-Element
returns-in-Element g c =
    rw c.in-Element.is
    (c.array_assignable.ensures ∙ ap array_assignable (c.meant_element.ensures ∙ ap (meant_element (g.N.Names.tree c.args.names.now)) c.meaning-in-Element.ensures))
