use Rattle.std.proofs.Common.{sym, ap, ◌∙◌}
use Rattle.std.specs.Prelude.{option_map}
use Rattle.form_texts.proofs.Stringed.{kept_behind}
use Rattle.form_texts.proofs.conditions.behind.Goals as goal

pub returns-in-Some : goal.returns-in-Some
returns-in-Some c =
    let all = c.args.strings.now in
    let o = c.in-Strings.number in
    let at = sym c.kept.ensures ∙ ap (option_map (λ s. s.now)) c.in-Some.is in
    kept_behind all o c.in-Some.strings.now at c.args.behind_number c.may_stand-in-Some.result (c.requires.parts o c.in-Some.strings.now at) c.args.symbol c.in-Strings.is c.may_stand-in-Some.ensures
