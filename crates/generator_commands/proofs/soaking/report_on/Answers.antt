use Rattle.std.proofs.Common.{◌≡◌, ◌∙◌, refl, ap}
use Rattle.sha2.specs.Sha256.{sha256}
use Rattle.lisa_object.specs.Texts.{image_text}
use Rattle.lisa_object.specs.declared.parts.Stamped.{Stamped}
use Rattle.assembler_commands.specs.Links.{stamped}
use Rattle.assembler_commands.specs.checked_descriptions.ToolViews.{checked_of}
use Rattle.generator_commands.proofs.Kept.{report_is}
use Rattle.generator_commands.proofs.soaking.report_on.Goals as goal

pub returns : goal.returns
returns g c =
    let same : c.args.image.now ≡ stamped (checked_of c.args.tools.now).tree c.args.image.now.image = λ i. record { digest = c.requires.digest i; image = c.args.image.now.image } in
    report_is _ _ refl refl ((rw c.deref.ensures.value at c.digest_of.ensures) ∙ ap sha256 (c.in_ok-text.ensures ∙ ap image_text same)) c.in_ok-state.ensures c.in_ok-clock.ensures
