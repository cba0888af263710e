-- Sizes of a description with forms are within their limits.
use Rattle.std.proofs.Common.{◌≡◌, Option, None, Some, inl, inr, refl}
use Rattle.std.specs.Prelude.{option_map}
use Rattle.lisa_tree.specs.Descriptions.{DescriptionTree}
use Rattle.lisa_meaning.specs.coding_tables.Instructions.{form_count}
use Rattle.lisa_meaning.specs.description_sizes.Limits.{fault}
use Rattle.lisa_meaning.specs.description_sizes.Sizes.{first_too_many}
use Rattle.lisa_meaning.proofs.description_sizes_proofs.Limited.{within_limits}
use Rattle.lisa_meaning.specs.lisa_machine.Verdicts.{Verdict, before}
use Rattle.lisa_meaning.specs.lisa_forms.Verdicts.{HasForms, IsSizeVerdict, from_texts, from_sizes, from_roots, from_writings}
use Rattle.state_items.specs.Laws.{HasLimits}

passed : {v : Verdict} (w : Verdict) → before v w None → v None × w None
passed w (inl b) = absurd (cc b.is)
passed w (inr h) = h

none_there : {X Y : Type 0} (f : X → Y) (r : Option X) → None ≡ option_map f r → r ≡ None
none_there f None e = refl
none_there f (Some x) e = absurd (cc e)

pub limited : (d : DescriptionTree) → HasForms d → HasLimits d
limited d has =
    let a : from_writings d None = (passed (from_writings d) has).1 in
    let b : from_roots d None = (passed (from_roots d) a).1 in
    let c : from_sizes d None = (passed (from_sizes d) b).1 in
    let sizes : IsSizeVerdict d None = (passed (from_texts d) c).0 in
    (sizes.width, sizes.has_width, (within_limits d sizes.width (form_count d)).0 (none_there fault (first_too_many d sizes.width (form_count d)) sizes.is))
