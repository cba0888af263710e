use Rattle.std.proofs.Common.{◌+◌, ℕ, List, map, sym, ap, ap₂, ◌∙◌, arith}
use Rattle.instruction_trees.specs.Values.{sum_of, weigh}
use Rattle.pattern_tables.specs.declared.fields.Place.{Place}
use Rattle.pattern_tables.specs.Places.{pair_of}
use Rattle.form_patterns.proofs.Rowed.{row_at}
use Rattle.lisa_forms.proofs.Adding.{bits_at}
use Rattle.lisa_forms.proofs.coding.Coding.word_with.Goals as goal

pub returns : goal.returns
returns c =
    let s = c.args.self.now in
    let vs = c.args.fields.now in
    let row = row_at s.places.items c.args.form c.index.result.now (omega (arith, s.level, c.requires.form)) c.index.ensures in
    let bits = bits_at s.patterns.items c.args.form c.index-bits.result.now c.requires.form c.index-bits.ensures in
    c.with_fields.ensures
    ∙ ap (λ (ps : List Place). c.index-bits.result.now.pattern + sum_of (weigh vs (map pair_of ps))) c.deref.ensures.value
    ∙ ap₂ (λ (p : ℕ) (ps : List (ℕ × ℕ)). p + sum_of (weigh vs ps)) (sym bits) (sym row)
