use Rattle.std.proofs.Common.{ℕ, List, sym, ap, ◌∙◌, subst, arith}
use Rattle.std.specs.Prelude.{slice_index_or}
use Rattle.instruction_trees.specs.Trees.{slice}
use Rattle.instruction_trees.specs.Values.{StandsBelow}
use Rattle.form_patterns.proofs.Rowed.{row_is, rows_counted}
use Rattle.lisa_forms.proofs.Adding.{field_at, field_inside}
use Rattle.lisa_forms.proofs.Fielded.{form_within, field_within}
use Rattle.lisa_forms.proofs.coding.Coding.field.Goals as goal

pub index-requires-2 : goal.index-requires-2
index-requires-2 c =
    let s = c.args.self.now in
    let v = c.requires.field in
    let form = form_within v.0 s v.1 c.args.form v.2.within in
    field_inside s.places.items c.args.form c.args.field c.index.result.now (omega (arith, s.level, form)) c.index.ensures (field_within v.0 s v.1 c.args.form c.args.field v.2)

pub value_at-requires : goal.value_at-requires
value_at-requires c =
    let s = c.args.self.now in
    let v = c.requires.field in
    let form = form_within v.0 s v.1 c.args.form v.2.within in
    let field = field_within v.0 s v.1 c.args.form c.args.field v.2 in
    subst (λ (p : ℕ × ℕ). StandsBelow 64 p) (field_at s.places.items c.args.form c.args.field c.index.result.now c.index-2.result.now (omega (arith, s.level, form)) c.index.ensures field c.index-2.ensures)
    (s.inside c.args.form c.args.field form field)

pub returns : goal.returns
returns c = λ d is.
    let s = c.args.self.now in
    let v = c.requires.field in
    let form = form_within v.0 s v.1 c.args.form v.2.within in
    let field = field_within v.0 s v.1 c.args.form c.args.field v.2 in
    let at = field_at s.places.items c.args.form c.args.field c.index.result.now c.index-2.result.now (omega (arith, s.level, form)) c.index.ensures field c.index-2.ensures in
    let row = row_is d s.places.items c.args.form is.all_places (omega (arith, s.level, form, rows_counted d s.places.items is.all_places)) in
    c.value_at.ensures
    ∙ ap (slice c.args.word) (sym at)
    ∙ ap (λ (ps : List (ℕ × ℕ)). slice c.args.word (slice_index_or ps c.args.field (0, 0))) row
