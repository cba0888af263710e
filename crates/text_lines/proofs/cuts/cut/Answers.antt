use Rattle.std.proofs.Common.{drop, ap, ◌∙◌, arith}
use Rattle.std.specs.Prelude.{◌==◌}
use Rattle.std.proofs.lemmas.List.{take_rest, drop-drop}
use Rattle.text_lines.proofs.Parts.{cut_nowhere, cut_there}
use Rattle.text_lines.proofs.cuts.cut.Goals as goal

pub returns-in-empty-clause-parts : goal.returns-in-empty-clause-parts
returns-in-empty-clause-parts c =
    cut_nowhere (λ b. b == c.args.byte) c.args.text.now c.split_at.result.0.now c.place.result c.place.ensures.value (omega (arith, c.in-empty.len_below, c.split_at.ensures.back_len)) c.split_at.ensures.front

pub returns-in-len1-up-clause-parts : goal.returns-in-len1-up-clause-parts
returns-in-len1-up-clause-parts c =
    cut_there (λ b. b == c.args.byte) c.args.text.now c.split_at.result.0.now _ c.place.result c.place.ensures.value (omega (arith, c.in-len1-up.len_at_least, c.split_at.ensures.back_len)) c.split_at.ensures.front
    (take_rest c.split_at.result.1.now 1 ∙ ap (drop 1) c.split_at.ensures.back ∙ drop-drop 1 c.place.result c.args.text.now)
