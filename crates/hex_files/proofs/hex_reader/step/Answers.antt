use Rattle.std.proofs.Common.{ℕ, ◌+◌, max, ◌≡◌, [], Ok, Err, refl, sym, ap, ◌∙◌}
use Rattle.std.proofs.lemmas.Bool.{eqb-true}
use Rattle.std.proofs.lemmas.Result.{err_from_is_err_and}
use Rattle.hex_files.specs.declared.faults.HexFault.TheVariants as faults
use Rattle.hex_files.specs.HexRecord.{HexRecord}
use Rattle.hex_files.specs.HexReading.{given_by}
use Rattle.hex_files.specs.HexMachine.{meant}
use Rattle.hex_files.proofs.WordLoops.{is_some}
use Rattle.hex_files.proofs.LineSteps.{empty_line, misses_line, on_record, past_record, good_record}
use Rattle.hex_files.proofs.hex_reader.step.Goals as goal

pub returns-then-is_empty-clause-exact : goal.returns-then-is_empty-clause-exact
returns-then-is_empty-clause-exact c = ([], empty_line c.args.size c.args.line c.args.base c.args.text.now (eqb-true _ _ (sym c.is_empty.ensures ∙ c.if-is_empty.true)), refl)

pub returns-in_err-record-clause-exact : goal.returns-in_err-record-clause-exact
returns-in_err-record-clause-exact c =
    let p = err_from_is_err_and c.from_residual.result c.from_residual.ensures.1 in
    rw (p.1, p.2) (misses_line c.args.size c.args.line c.args.base c.args.text.now (is_some c.args.text.now (sym c.is_empty.ensures ∙ c.if-is_empty.false)) c.in_err-record.field-0.0 c.in_err-record.ensures)

pub returns-in_default-clause-exact : goal.returns-in_default-clause-exact
returns-in_default-clause-exact c =
    on_record c.args.size c.args.line c.args.base c.args.text.now (is_some c.args.text.now (sym c.is_empty.ensures ∙ c.if-is_empty.false)) c.in_ok-record.record c.in_ok-record.ensures
    ∙ ap (λ b. meant c.args.size c.args.line b c.in_ok-record.record) c.in_default.is

pub returns-then-is_past-clause-exact : goal.returns-then-is_past-clause-exact
returns-then-is_past-clause-exact c =
    let start : max (c.in-Some.from + c.in_ok-record.record.address) c.args.size ≡ c.larger.result = sym (c.larger.ensures ∙ ap (λ (a : ℕ). max (c.in-Some.from + a) c.args.size) (c.from.ensures ∙ ap (λ (r : HexRecord). r.address) c.record.view_is)) in
    on_record c.args.size c.args.line c.args.base c.args.text.now (is_some c.args.text.now (sym c.is_empty.ensures ∙ c.if-is_empty.false)) c.in_ok-record.record c.in_ok-record.ensures
    ∙ ap (λ b. meant c.args.size c.args.line b c.in_ok-record.record) c.in-Some.is ∙ past_record c.args.size c.args.line c.in-Some.from c.in_ok-record.record (sym c.is_past.ensures ∙ c.if-is_past.true)
    ∙ ap (λ (a : ℕ). Err (faults.PastEnd c.args.line a c.args.size)) start

pub returns-clause-exact : goal.returns-clause-exact
returns-clause-exact c = (
  given_by c.in-Some.from c.in_ok-record.record,
  on_record c.args.size c.args.line c.args.base c.args.text.now (is_some c.args.text.now (sym c.is_empty.ensures ∙ c.if-is_empty.false)) c.in_ok-record.record c.in_ok-record.ensures
      ∙ ap (λ b. meant c.args.size c.args.line b c.in_ok-record.record) c.in-Some.is ∙ good_record c.args.size c.args.line c.in-Some.from c.in_ok-record.record (sym c.is_past.ensures ∙ c.if-is_past.false)
      ∙ ap (λ b. Ok (given_by c.in-Some.from c.in_ok-record.record, b)) (sym c.base_behind.ensures.value),
  c.in_ok-store_record.ensures,
)
