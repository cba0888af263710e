use Rattle.std.proofs.Common.{◌∙◌}
use Rattle.std.specs.Prelude.{Result, Ok, Err, IfOk}
use Rattle.lowered_words.specs.scene_paths.Lookups.{tree_of}
use Rattle.lowered_layouts.proofs.Counted.{base_counted}
use Rattle.lowered_layouts.proofs.making.boundary_base.Goals as goal

if_ok : {A E : Type 0} (P Q : A → Type 0) (r : Result A E) → ((x : A) → P x → Q x) → IfOk r P → IfOk r Q
if_ok P Q (Ok x) f p = f x p
if_ok P Q (Err e) f p = p

pub returns : goal.returns
returns c =
    if_ok _ _ c.number.result
    (λ base is. is
    ∙ base_counted (tree_of c.args.described.now) c.accepted.ensures c.from.result c.in_ok-sum.field-0 c.occurrences-occurrences.result.now (c.from.ensures ∙ c.requires) (c.occurrences-occurrences.ensures.is ∙ c.forms.ensures.all_occurrences) c.in_ok-sum.ensures)
    c.number.ensures
