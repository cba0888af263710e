use Rattle.std.proofs.Common.{◌≡◌, ℕ, ◌+◌, ◌-◌, ◌*◌, ◌/◌, ◌<◌, ◌≤◌, length, Some, None, refl, sym, ap, ◌∙◌, inl, inr, arith}
use Rattle.lisa_object.proofs.Options.{some_is}
use Rattle.lisa_object.proofs.WideLaws.{none_there, bad_digit, one_read, one_found, front_number, more_read, front_none, front_some}
use Rattle.std.proofs.lemmas.Bool.{eqb-true}
use Rattle.lisa_object.proofs.DigestLoop.{some_from}
use Rattle.lisa_object.proofs.integers.+wide_digits.Goals as goal
use Rattle.lisa_object.proofs.integers.+wide_digits.Goals.{then-last-lt48-via-then-last-lt48, then-last-lt48-via-else-last-lt48+then-last-gt57, then-value-eq0-via-then-value-eq0, then-value-eq0-via-else-value-eq0+then-value-ge100000000000000000000}

pub returns-in_default-clause-found : goal.returns-in_default-clause-found
returns-in_default-clause-found t c = λ n lt e. absurd (none_there c.args.text.now c.in_default.len_below n lt e)

pub returns-then-last-lt48-clause-found : goal.returns-then-last-lt48-clause-found
returns-then-last-lt48-clause-found t c = λ n lt e. absurd (elim c.then-last-lt48.branch [
  | then-last-lt48-via-then-last-lt48 w ↦ bad_digit c.args.text.now (inl w.if-last-lt48.true) n lt e
  | then-last-lt48-via-else-last-lt48+then-last-gt57 w ↦ bad_digit c.args.text.now (inr w.if-last-gt57.true) n lt e
])

pub returns-then-is_empty-clause-read : goal.returns-then-is_empty-clause-read
returns-then-is_empty-clause-read t c =
    let one = front_none c.args.text.now c.in-len1-up.len_at_least (eqb-true _ _ (sym c.is_empty.ensures ∙ c.if-is_empty.true)) in
    one_read c.args.text.now one c.if-last-lt48.false c.if-last-gt57.false

pub returns-then-is_empty-clause-found : goal.returns-then-is_empty-clause-found
returns-then-is_empty-clause-found t c = λ n lt e.
    let one = front_none c.args.text.now c.in-len1-up.len_at_least (eqb-true _ _ (sym c.is_empty.ensures ∙ c.if-is_empty.true)) in
    ap (λ (k : ℕ). Some k) (one_found c.args.text.now one n lt e)

pub returns-in_err-value-clause-found : goal.returns-in_err-value-clause-found
returns-in_err-value-clause-found t c = λ n lt e.
    let many = front_some c.args.text.now c.in-len1-up.len_at_least (some_from _ (sym c.is_empty.ensures ∙ c.if-is_empty.false)) in
    let front = front_number c.args.text.now many n lt e in
    absurd (let f = c.in_err-value.ensures.found (n / 10) (omega arith) front.0 in cc)

pub returns-then-value-eq0-clause-found : goal.returns-then-value-eq0-clause-found
returns-then-value-eq0-clause-found t c = λ n lt e.
    let many = front_some c.args.text.now c.in-len1-up.len_at_least (some_from _ (sym c.is_empty.ensures ∙ c.if-is_empty.false)) in
    let front = front_number c.args.text.now many n lt e in
    let value : c.in_ok-value.value ≡ n / 10 = some_is _ _ (c.in_ok-value.ensures.found (n / 10) (omega arith) front.0) in
    absurd (elim c.then-value-eq0.branch [
      | then-value-eq0-via-then-value-eq0 w ↦ omega (arith, value, front.1, w.if-value-eq0.true)
      | then-value-eq0-via-else-value-eq0+then-value-ge100000000000000000000 w ↦ omega (arith, value, lt, w.if-value-ge100000000000000000000.true)
    ])

pub returns-clause-read : goal.returns-clause-read
returns-clause-read t c = more_read c.args.text.now c.in_ok-value.value (omega (arith, c.in-len1-up.len_at_least)) (omega (arith, c.if-value-eq0.false)) c.if-value-ge100000000000000000000.false c.if-last-lt48.false c.if-last-gt57.false c.in_ok-value.ensures.read

pub returns-clause-found : goal.returns-clause-found
returns-clause-found t c = λ n lt e.
    let many = front_some c.args.text.now c.in-len1-up.len_at_least (some_from _ (sym c.is_empty.ensures ∙ c.if-is_empty.false)) in
    let front = front_number c.args.text.now many n lt e in
    let value : c.in_ok-value.value ≡ n / 10 = some_is _ _ (c.in_ok-value.ensures.found (n / 10) (omega arith) front.0) in
    ap (λ (k : ℕ). Some k) (omega (arith, value, front.2))
