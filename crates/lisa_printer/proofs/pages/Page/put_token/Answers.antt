use Rattle.std.proofs.Common.{◌++◌, List, ℕ, refl, ap, ◌∙◌}
use Rattle.lisa_printer.specs.Sheets.{Sheet, written}
use Rattle.lisa_printer.proofs.SheetLaws.{written_is}
use Rattle.lisa_printer.proofs.pages.Page.put_token.Goals as goal

pub returns : goal.returns
returns c =
    let before : Sheet = record { text = c.self.inside.bytes.items; braces = c.self.inside.braces; rounds = c.self.inside.rounds; last = c.self.inside.last } in
    written_is before _ c.args.sign c.args.text.now
    (c.in_ok-extend_from_slice.ensures.items ∙ ap (λ (xs : List ℕ). xs ++ c.args.text.now) c.in_ok-put_between.ensures)
    c.in_ok-self-inside.ensures c.in_ok-self-inside-2.ensures refl
    ∙ ap (λ (s : Sheet). written s c.args.sign c.args.text.now) c.self.view_is
