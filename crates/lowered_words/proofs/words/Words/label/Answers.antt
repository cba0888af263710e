use Rattle.std.proofs.Common.{◌∙◌, Option, sym, ap, subst}
use Rattle.std.proofs.lemmas.Result.{on_ok_weaker, IfOk-weaker}
use Rattle.instruction_forms.specs.declared.form.Field.{Field}
use Rattle.step_pieces.specs.Pieces.{top}
use Rattle.step_pieces.specs.Drafts.{piece_of}
use Rattle.lowered_time.specs.Code.{Adds}
use Rattle.lowered_words.specs.Labels.{field_computed}
use Rattle.lowered_words.specs.Kept.{field_at}
use Rattle.lowered_words.proofs.words.Words.label.Goals as goal

pub take_field-requires : goal.take_field-requires
take_field-requires c = λ f is. c.args.self.now.parts.stand c.args.name.now c.args.way.place f (sym c.field-field.ensures ∙ is)

pub returns-clause-draft : goal.returns-clause-draft
returns-clause-draft c = λ w at.
    on_ok_weaker c.take_field.result
    (λ put. subst (λ (f : Option Field). Adds (λ from. (field_computed c.args.base from f).piece) c.args.draft.now c.take_field.new.draft)
    (c.field-field.ensures ∙ ap (field_at c.args.self.now.table.parts.items c.args.name.now) at ∙ c.args.self.now.parts.fields w c.args.name.now) put)
    c.take_field.ensures.draft

pub returns-clause-out : goal.returns-clause-out
returns-clause-out c = λ w at.
    IfOk-weaker c.take_field.result _ _
    (λ x is. is ∙ ap (λ (f : Option Field). (field_computed c.args.base (top 0 (piece_of c.args.draft.now)) f).out)
    (c.field-field.ensures ∙ ap (field_at c.args.self.now.table.parts.items c.args.name.now) at ∙ c.args.self.now.parts.fields w c.args.name.now))
    c.take_field.ensures.out
