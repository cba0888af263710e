use Rattle.std.proofs.Common.{◌∙◌, ℕ, Bor, Option, length, sym, ap}
use Rattle.std.specs.Prelude.{unwrap_or}
use Rattle.std.specs.Option.{option_copied}
use Rattle.name_tables.proofs.Places.{place_found}
use Rattle.name_tables.proofs.sets.NameSet.place.Goals as goal

pub returns-in-Some : goal.returns-in-Some
returns-in-Some c =
    ap (λ (o : Option (Bor ℕ)). unwrap_or (option_copied o) (length c.args.self.now.keys.items)) (sym c.in-Some.is)
    ∙ place_found c.args.self.now.keys.items c.args.name.now c.get.result _ c.get.ensures.value (c.args.self.now.placed c.args.name.now)

pub returns-in-None : goal.returns-in-None
returns-in-None c =
    c.len.ensures ∙ c.args.self.now.keys.ok.0
    ∙ ap (λ (o : Option (Bor ℕ)). unwrap_or (option_copied o) (length c.args.self.now.keys.items)) (sym c.in-None.is)
    ∙ place_found c.args.self.now.keys.items c.args.name.now c.get.result _ c.get.ensures.value (c.args.self.now.placed c.args.name.now)
