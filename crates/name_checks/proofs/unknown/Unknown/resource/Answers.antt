use Rattle.std.proofs.Common.{◌≡◌}
use Rattle.lisa_tree.specs.declared.descriptions.Resource.{Resource}
use Rattle.lisa_tree.specs.Descriptions.{resource_tree}
use Rattle.name_checks.specs.Unknown.{resource_unknown}
use Rattle.name_checks.proofs.Arms.{last_arm}
use Rattle.name_checks.proofs.unknown.Unknown.resource.Goals as goal

pub returns-in_ok-fault-in-Fields : goal.returns-in_ok-fault-in-Fields
returns-in_ok-fault-in-Fields g c =
    let P : Resource → Type 0 = λ r. c.in_ok-fault-in-Fields.fault ≡ resource_unknown (g.N.Names.tree c.args.self.now.names.now) (resource_tree r) in
    last_arm P c.in_ok-fault-in-Fields.ensures c.in-Fields.is
