use Rattle.std.proofs.Common.{◌≡◌, rules, ◌++◌, ◌∷◌, [], map, arith, sym, ◌∙◌}
use Rattle.std.proofs.lemmas.List.{map-append}
use Rattle.std.proofs.lemmas.Result.{err_from_is_err_and}
use Rattle.lisa_words.proofs.ManyLaws.{goes_on, is_done}
use Rattle.verilog_text.specs.Trees.{setting_tree}
use Rattle.verilog_expression_reader.specs.Past.{placed_toks}
use Rattle.verilog_module_reader.specs.Parts.{setting_of, at_end, settings_of}
use Rattle.verilog_module_reader.proofs.PartLaws.{fails_within, setting_shrinks, settings_start}
use Rattle.verilog_module_reader.proofs.settings.settings.Goals as goal

pub each-init : goal.each-init
each-init c =
    let none : c.new-all.result.items ≡ [] = search rules in
    (rw none (settings_start (placed_toks c.args.tokens.now)), omega arith)

pub returns-in_err-next-clause-exact : goal.returns-in_err-next-clause-exact
returns-in_err-next-clause-exact c =
    let p = err_from_is_err_and c.from_residual.result c.from_residual.ensures.1 in
    rw (p.1, p.2) (fails_within setting_of at_end setting_shrinks (map setting_tree c.each.all.items) (placed_toks c.each.rest.now) (settings_of (placed_toks c.args.tokens.now)) c.each.invariant.0 c.in_err-next.field-0.0 (sym c.each-test.true ∙ c.at_end.ensures) c.in_err-next.ensures.exact)

pub each-preserved : goal.each-preserved
each-preserved c =
    let more : map setting_tree c.push.new.self.items ≡ map setting_tree c.each.all.items ++ setting_tree c.in_ok-next.next ∷ [] = rw c.in_ok-push.ensures.items (map-append setting_tree c.each.all.items (c.in_ok-next.next ∷ [])) in
    (rw more (goes_on setting_of at_end setting_shrinks (map setting_tree c.each.all.items) (placed_toks c.each.rest.now) (settings_of (placed_toks c.args.tokens.now)) c.each.invariant.0 (setting_tree c.in_ok-next.next) (placed_toks c.in_ok-next.after.now) (sym c.each-test.true ∙ c.at_end.ensures) c.in_ok-next.ensures.exact), omega (arith, c.each.invariant.1, c.in_ok-next.ensures.shorter))

pub returns-clause-exact : goal.returns-clause-exact
returns-clause-exact c = is_done setting_of at_end setting_shrinks (map setting_tree c.each.all.items) (placed_toks c.each.rest.now) (settings_of (placed_toks c.args.tokens.now)) c.each.invariant.0 (sym c.each-test.false ∙ c.at_end.ensures)
