use Rattle.std.proofs.Common.{◌≡◌, ◌∙◌, ℕ, Option, ap, sym, subst}
use Rattle.lisa_tree.specs.Descriptions.{description_tree}
use Rattle.lowered_layouts.specs.lowered_words.Rows.{IsWordWidth}
use Rattle.lowered_edges.specs.Programs.{word_width}
use Rattle.lowered_edges.proofs.Worded.{words_are}
use Rattle.lowered_edges.proofs.programs.word_width.Goals as goal

pub returns-in-None-clause-words : goal.returns-in-None-clause-words
returns-in-None-clause-words c =
    let d = description_tree c.args.machine.now in
    subst (λ (declared : Option ℕ). IsWordWidth d (word_width declared)) (sym c.in-None.ensures.is) (words_are d c.accepted.ensures.accepted c.accepted.ensures.spelled c.requires.forms.has_forms c.args.forms.now.width c.requires.forms.has_width)

pub returns-in-Some-clause-words : goal.returns-in-Some-clause-words
returns-in-Some-clause-words c =
    let d = description_tree c.args.machine.now in
    subst (λ (declared : Option ℕ). IsWordWidth d (word_width declared)) (sym c.in-Some.ensures.is) (words_are d c.accepted.ensures.accepted c.accepted.ensures.spelled c.requires.forms.has_forms c.args.forms.now.width c.requires.forms.has_width)

pub returns-in-None-clause-value : goal.returns-in-None-clause-value
returns-in-None-clause-value c = ap word_width c.in-None.ensures.is

pub returns-in-Some-clause-value : goal.returns-in-Some-clause-value
returns-in-Some-clause-value c = ap word_width c.in-Some.ensures.is
