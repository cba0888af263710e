use Rattle.std.proofs.Common.{◌≡◌, inl, inr}
use Rattle.lisa_tree.specs.declared.descriptions.Resource.{Resource}
use Rattle.lisa_tree.specs.Descriptions.{resource_tree}
use Rattle.name_checks.specs.Doubled.{resource_fault}
use Rattle.name_checks.proofs.Arms.{last_arm}
use Rattle.name_checks.proofs.doubled.Doubled.resource_fault.Goals as goal

pub returns-in_ok-found-in-Register : goal.returns-in_ok-found-in-Register
returns-in_ok-found-in-Register g c =
    let P : Resource → Type 0 = λ r. c.in_ok-found-in-Register.found ≡ resource_fault (g.N.Names.tree c.args.self.now.names.now) c.args.number (resource_tree r) in
    let found = c.in_ok-found-in-Register.ensures in
    elim c.in-Register.is [
      | inl w ↦ last_arm P found w.3
      | inr other ↦ elim other [
        | inl w ↦ last_arm P found w.2
        | inr other' ↦ elim other' [ inl w ↦ last_arm P found w.3 | inr w ↦ last_arm P found w.1 ]
      ]
    ]
