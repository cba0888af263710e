use Rattle.std.proofs.Common.{refl, ap, ◌∙◌}
use Rattle.lisa_printer.specs.Sheets.{Sheet, extended}
use Rattle.lisa_printer.proofs.SheetLaws.{extended_is}
use Rattle.lisa_printer.proofs.pages.Page.append.Goals as goal

pub returns : goal.returns
returns c =
    let before : Sheet = record { text = c.self.inside.bytes.items; braces = c.self.inside.braces; rounds = c.self.inside.rounds; last = c.self.inside.last } in
    extended_is before _ c.args.text.now c.in_ok-extend_from_slice.ensures.items refl refl refl
    ∙ ap (λ (s : Sheet). extended s c.args.text.now) c.self.view_is
