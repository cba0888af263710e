use Rattle.std.proofs.Common.{◌≡◌, ℕ, subst, arith}
use Rattle.text_tables.specs.declared.openings.Relation.TheVariants.{Level}
use Rattle.text_tables.specs.Openings.{IsRelated}
use Rattle.text_tables.specs.Shared.{shapes_at}
use Rattle.text_tables.proofs.Relating.{to_itself, other_way}
use Rattle.text_tables.proofs.relations.Relations.of_lists.Goals as goal

pub returns-then-one-other : goal.returns-then-one-other
returns-then-one-other c = λ all are.
    let same : c.args.one ≡ c.args.other = omega arith in
    subst (λ (k : ℕ). IsRelated (shapes_at all c.args.one) (shapes_at all k) Level) same (to_itself (shapes_at all c.args.one))

pub returns-else-other-one : goal.returns-else-other-one
returns-else-other-one c = λ all are. other_way (shapes_at all c.args.other) (shapes_at all c.args.one) c.to_earlier-else-other-one.result (c.to_earlier-else-other-one.ensures all are)
