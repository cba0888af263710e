use Rattle.std.proofs.Common.{◌≡◌, length, sym, ◌∙◌}
use Rattle.std.proofs.lemmas.Bool.{eqb-true}
use Rattle.lisa_lexer.proofs.Loop.{is_done}
use Rattle.lisa_lexer.proofs.reading.all_tokens.Goals as goal

pub returns : goal.returns
returns c =
    let none : length c.each.rest.now ≡ 0 = eqb-true _ _ (sym c.is_empty.ensures ∙ c.each-test.false) in
    is_done _ _ _ _ none c.each.invariant.0
