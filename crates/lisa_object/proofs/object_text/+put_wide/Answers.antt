use Rattle.std.proofs.Common.{◌≡◌, ℕ, List, ◌++◌, ◌+◌, [], ◌∷◌, sym, ap, ◌∙◌, append_assoc, arith}
use Rattle.std.proofs.lemmas.Result.{IfOk-equal}
use Rattle.std.proofs.lemmas.Fmt.{decimal_digit, decimal_step_wide}
use Rattle.lisa_object.proofs.object_text.+put_wide.Goals as goal

pub returns-then-value-lt10 : goal.returns-then-value-lt10
returns-then-value-lt10 t c = IfOk-equal c.put.result _ _ _ c.put.ensures (ap (λ (l : List ℕ). c.args.out.now.items ++ l) (sym (decimal_digit c.args.value c.if-value-lt10.true)))

pub returns : goal.returns
returns t c =
    IfOk-equal c.put-2.result _ _ _ c.put-2.ensures
    (rw c.in_ok-put_wide.ensures (append_assoc c.args.out.now.items _ _ ∙ ap (λ (l : List ℕ). c.args.out.now.items ++ l) (sym (decimal_step_wide c.args.value c.if-value-lt10.false (omega arith)))))
