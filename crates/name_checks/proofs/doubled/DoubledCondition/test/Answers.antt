use Rattle.std.proofs.Common.{◌≡◌}
use Rattle.description_places.specs.declared.sites.Site.{Site}
use Rattle.description_places.specs.Places.{place_of}
use Rattle.name_checks.specs.Doubled.{duplicate}
use Rattle.name_checks.proofs.Arms.{last_arm}
use Rattle.name_checks.proofs.doubled.DoubledCondition.test.Goals as goal

pub returns-in_ok-found-in-Declared : goal.returns-in_ok-found-in-Declared
returns-in_ok-found-in-Declared g c =
    let P : Site → Type 0 = λ s. c.in_ok-found-in-Declared.found ≡ duplicate (g.N.Names.tree c.args.self.now.names.now) c.args.operation c.args.region c.args.scope.now (place_of s) in
    last_arm P c.in_ok-found-in-Declared.ensures c.in-Declared.is

pub returns-in_ok-found-in-Local : goal.returns-in_ok-found-in-Local
returns-in_ok-found-in-Local g c =
    let P : Site → Type 0 = λ s. c.in_ok-found-in-Local.found ≡ duplicate (g.N.Names.tree c.args.self.now.names.now) c.args.operation c.args.region c.args.scope.now (place_of s) in
    last_arm P c.in_ok-found-in-Local.ensures c.in-Local.is
