use Rattle.std.proofs.Common.{refl, sym, ◌∙◌, arith}
use Rattle.std.proofs.lemmas.Bool.{eqb-true}
use Rattle.hex_files.proofs.WordLoops.{is_some}
use Rattle.hex_files.proofs.RecordLoops.{taken, dropped, line_put, lines_put}
use Rattle.hex_files.proofs.hex_printer.put_data.Goals as goal

pub returns-then-is_empty : goal.returns-then-is_empty
returns-then-is_empty c = lines_put c.records.out.items _ c.records.rest.now c.records.upper c.records.address c.records.invariant.0 (eqb-true _ _ (sym c.is_empty.ensures ∙ c.if-is_empty.true))

pub records-preserved : goal.records-preserved
records-preserved c = (
  line_put c.records.out.items _ _ _ c.records.rest.now c.split_at.result.0.now c.split_at.result.1.now c.records.upper c.records.address _ c.records.invariant.0
      (is_some c.records.rest.now (sym c.is_empty.ensures ∙ c.if-is_empty.false)) (c.split_at.ensures.front ∙ taken 16 c.at_most-size.result c.records.rest.now c.at_most-size.ensures.value)
      (c.split_at.ensures.back ∙ dropped 16 c.at_most-size.result c.records.rest.now c.at_most-size.ensures.value) c.in_ok-put_upper.ensures c.in_ok-put_record.ensures refl,
  omega (arith, c.records.invariant.1, c.split_at.ensures.front_len, c.split_at.ensures.back_len),
)
