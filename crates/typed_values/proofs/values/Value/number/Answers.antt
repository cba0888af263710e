use Rattle.std.proofs.Common.{sym, subst}
use Rattle.lisa_tree.specs.declared.tokens.Shape.{Shape}
use Rattle.typed_values.proofs.Numbers.{Holds, number_holds}
use Rattle.typed_values.proofs.values.Value.number.Goals as goal

pub invariant_of-result : goal.invariant_of-result
invariant_of-result c =
    let holds : Holds c.number_shape-shape.result c.args.value = subst (λ (s : Shape). Holds s c.args.value) (sym c.number_shape-shape.ensures) (number_holds c.args.kind c.args.value c.ranges.value.fits) in
    record { at_least_one = holds.least; at_most_64 = holds.most; fits = holds.fits }
