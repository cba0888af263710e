use Rattle.std.proofs.Common.{◌≡◌, List, ◌∷◌, ℕ, sym, ap, ◌∙◌}
use Rattle.std.specs.Prelude.{◌==◌}
use Rattle.std.specs.List.{slice_split}
use Rattle.std.specs.Option.{option_copied}
use Rattle.std.specs.Str.Lines.{lines}
use Rattle.text_lines.specs.Cuts.{parts_behind}
use Rattle.text_lines.proofs.Parts.{line_there}
use Rattle.text_lines.proofs.cuts.next_line.Goals as goal

pub returns-in-Some-clause-lines : goal.returns-in-Some-clause-lines
returns-in-Some-clause-lines c =
    let parts : slice_split (λ b. b == 10) c.args.text.now ≡ c.cut.result.0.now ∷ slice_split (λ b. b == 10) c.in-Some.rest.now = c.cut.ensures.parts ∙ ap (λ o. c.cut.result.0.now ∷ parts_behind 10 (option_copied o)) c.in-Some.is in
    line_there c.args.text.now c.cut.result.0.now c.in-Some.rest.now parts ∙ ap (λ (l : List ℕ). l ∷ lines c.in-Some.rest.now) (sym c.without_return.ensures)
