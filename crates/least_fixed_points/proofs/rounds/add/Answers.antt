use Rattle.std.proofs.Common.{◌≡◌, ◌∙◌, sym, ap, List, Option, None, true, false}
use Rattle.std.specs.Option.{is_some}
use Rattle.least_fixed_points.specs.Settles.{entry}
use Rattle.least_fixed_points.proofs.Entries.{entry_at, more_sound, gone}
use Rattle.least_fixed_points.proofs.rounds.add.Goals as goal

pub returns-then-is_some-clause-closed : goal.returns-then-is_some-clause-closed
returns-then-is_some-clause-closed g c = λ _ e.
    let on : is_some c.index.result.now ≡ true = cc in
    let off : is_some c.index.result.now ≡ false = ap is_some (c.index.ensures ∙ sym (entry_at c.args.table.now.items c.args.node c.index.result.now c.requires.node) ∙ e) in
    absurd (cc (on, off))

pub returns-in-Some-clause-sound : goal.returns-in-Some-clause-sound
returns-in-Some-clause-sound g c =
    let off : is_some c.index.result.now ≡ false = cc in
    let none : entry c.args.table.now.items c.args.node ≡ None = entry_at c.args.table.now.items c.args.node c.index.result.now c.requires.node ∙ sym c.index.ensures ∙ gone c.index.result.now off in
    more_sound (g.R.Rule.step c.args.rule.now) (g.met.R.Rule.monotone c.args.rule.now) c.args.table.now.items c.args.node c.in-Some.value c.requires.node c.requires.sound none
    (ap (λ (l : List (Option g.row.T.Denot)). g.R.Rule.step c.args.rule.now (entry l) c.args.node) (sym c.as_slice.ensures.value) ∙ sym c.in-Some.ensures)
