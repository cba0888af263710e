use Rattle.std.proofs.Common.{◌∙◌, Bool, [], ◌∷◌, ◌++◌, sym, ap}
use Rattle.std.specs.Prelude.{if◌then◌else◌}
use Rattle.name_checks.proofs.repeats.is_again.Goals as goal

pub returns-clause-seen : goal.returns-clause-seen
returns-clause-seen c e =
    let keys = c.args.seen.now.keys.items in
    c.in_ok-insert.ensures ∙ ap (λ (b : Bool). if b then keys else keys ++ c.args.name.now ∷ []) (sym c.contains.ensures ∙ c.if-contains.false)
