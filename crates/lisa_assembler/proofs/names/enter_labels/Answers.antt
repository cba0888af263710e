use Rattle.std.proofs.Common.{◌≡◌, ◌∷◌, ◌+◌, ℕ, List, [], drop, sym, ap, subst, ◌∙◌, arith}
use Rattle.std.proofs.lemmas.List.{drop_all}
use Rattle.std.proofs.lemmas.Result.{err_from_is_err_and}
use Rattle.lisa_object.specs.Seen.{HoldsSorted}
use Rattle.lisa_assembler.specs.Faults.{first_double}
use Rattle.lisa_assembler.specs.Seen.{seen_behind}
use Rattle.lisa_assembler.proofs.Doubles.{double_fault, double_behind}
use Rattle.lisa_assembler.proofs.Lists.{one}
use Rattle.lisa_assembler.proofs.names.enter_labels.Goals as goal

pub returns-in_err-enter_new-clause-fault : goal.returns-in_err-enter_new-clause-fault
returns-in_err-enter_new-clause-fault c = λ names h.
    let i = c.loop-label.invariant names h in
    let n : List ℕ = c.label-item.result in
    let rest : List (List ℕ) = drop (c.loop-label.label-index + 1) c.args.labels.now in
    let here : drop c.loop-label.label-index c.args.labels.now ≡ n ∷ rest = one c.args.labels.now c.loop-label.label-index n (omega arith) c.label-item.is in
    let p = err_from_is_err_and c.from_residual.result c.from_residual.ensures.1 in
    rw (p.1, p.2) (double_fault c.args.line i.0 n rest (first_double names c.args.labels.now) c.in_err-enter_new.field-0.0 (c.in_err-enter_new.ensures.fault i.0 i.1)
    (sym (ap (λ (ns : List (List ℕ)). first_double i.0 ns) here) ∙ i.2))

pub loop-label-preserved : goal.loop-label-preserved
loop-label-preserved c = λ names h.
    let i = c.loop-label.invariant names h in
    let n : List ℕ = c.label-item.result in
    let rest : List (List ℕ) = drop (c.loop-label.label-index + 1) c.args.labels.now in
    let here : drop c.loop-label.label-index c.args.labels.now ≡ n ∷ rest = one c.args.labels.now c.loop-label.label-index n (omega arith) c.label-item.is in
    let e = c.in_ok-enter_new.ensures.new i.0 i.1 in (
      n ∷ i.0,
      e.1,
      sym (double_behind i.0 n rest e.0) ∙ sym (ap (λ (ns : List (List ℕ)). first_double i.0 ns) here) ∙ i.2,
      sym (ap (λ (ns : List (List ℕ)). seen_behind i.0 ns) here) ∙ i.3,
    )

pub returns-clause-new : goal.returns-clause-new
returns-clause-new c = λ names h.
    let i = c.loop-label.invariant names h in
    let end : drop c.loop-label.label-index c.args.labels.now ≡ [] = drop_all c.loop-label.label-index c.args.labels.now (omega arith) in
    let P : List (List ℕ) → Type 0 = λ ns. HoldsSorted c.loop-label.seen ns in (
      sym i.2 ∙ ap (λ (ns : List (List ℕ)). first_double i.0 ns) end,
      subst P (sym (ap (λ (ns : List (List ℕ)). seen_behind i.0 ns) end) ∙ i.3) i.1,
    )
