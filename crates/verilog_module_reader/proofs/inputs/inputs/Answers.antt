use Rattle.std.proofs.Common.{◌≡◌, rules, [], not, arith, sym, ap, ◌∙◌}
use Rattle.std.proofs.lemmas.Result.{err_from_is_err_and}
use Rattle.lisa_words.proofs.ManyLaws.{goes_on, is_done}
use Rattle.verilog_expression_reader.specs.Past.{placed_toks}
use Rattle.verilog_module_reader.specs.Parts.{input_of, ends_inputs, inputs_of}
use Rattle.verilog_module_reader.proofs.PartLaws.{fails_within, input_shrinks, inputs_start}
use Rattle.verilog_module_reader.proofs.inputs.inputs.Goals as goal

pub each-init : goal.each-init
each-init c =
    let none : c.new-all.result.items ≡ [] = search rules in
    (rw none (inputs_start (placed_toks c.args.tokens.now)), omega arith)

pub returns-in_err-next-clause-exact : goal.returns-in_err-next-clause-exact
returns-in_err-next-clause-exact c =
    let p = err_from_is_err_and c.from_residual.result c.from_residual.ensures.1 in
    rw (p.1, p.2) (fails_within input_of ends_inputs input_shrinks c.each.all.items (placed_toks c.each.rest.now) (inputs_of (placed_toks c.args.tokens.now)) c.each.invariant.0 c.in_err-next.field-0.0 (ap not (sym c.each-test.true ∙ c.has_comma.ensures)) c.in_err-next.ensures.exact)

pub each-preserved : goal.each-preserved
each-preserved c =
    (rw c.in_ok-push.ensures.items (goes_on input_of ends_inputs input_shrinks c.each.all.items (placed_toks c.each.rest.now) (inputs_of (placed_toks c.args.tokens.now)) c.each.invariant.0 c.in_ok-next.next (placed_toks c.in_ok-next.after.now) (ap not (sym c.each-test.true ∙ c.has_comma.ensures)) c.in_ok-next.ensures.exact), omega (arith, c.each.invariant.1, c.in_ok-next.ensures.shorter))

pub returns-clause-exact : goal.returns-clause-exact
returns-clause-exact c = is_done input_of ends_inputs input_shrinks c.each.all.items (placed_toks c.each.rest.now) (inputs_of (placed_toks c.args.tokens.now)) c.each.invariant.0 (ap not (sym c.each-test.false ∙ c.has_comma.ensures))
