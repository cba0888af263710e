use Rattle.std.proofs.Common.{◌≡◌, drop, nat_eq}
use Rattle.std.specs.List.{list_all}
use Rattle.kind_checks.proofs.wrong_kinds.is_free.Given as goal

abbrev pub invariant-loop-digit : goal.invariant-loop-digit
invariant-loop-digit l = list_all (λ digit. nat_eq digit 120) l.pattern.digits ≡ list_all (λ digit. nat_eq digit 120) (drop l.digit-index l.pattern.digits)
