use Rattle.std.proofs.Common.{◌≡◌, ap, sym, ◌∙◌, below_more}
use Rattle.std.proofs.lemmas.List.{length-map}
use Rattle.lisa_tree.specs.Tokens.{toks}
use Rattle.lisa_tree.specs.Brackets.{open_after, open_at}
use Rattle.lisa_lexer.proofs.Depths.{open_step}
use Rattle.lisa_lexer.proofs.brackets.too_deep.Goals as goal

pub returns-then-depth-gt-BRACKET_LIMIT : goal.returns-then-depth-gt-BRACKET_LIMIT
returns-then-depth-gt-BRACKET_LIMIT c =
    let step = open_step c.args.tokens.now c.loop-i.i c.index-tokens-i.result c.loop-i-test.true c.index-tokens-i.is in
    let now : c.open_after-depth.result ≡ open_at (toks c.args.tokens.now) c.loop-i.i = c.open_after-depth.ensures ∙ ap (λ n. open_after n c.index-tokens-i.result.part) c.loop-i.invariant.0 ∙ sym step in
    record { within = rw length-map c.loop-i-test.true; deep = rw now at c.if-depth-gt-BRACKET_LIMIT.true; first = c.loop-i.invariant.1 }

pub loop-i-preserved : goal.loop-i-preserved
loop-i-preserved c =
    let step = open_step c.args.tokens.now c.loop-i.i c.index-tokens-i.result c.loop-i-test.true c.index-tokens-i.is in
    let now : c.open_after-depth.result ≡ open_at (toks c.args.tokens.now) c.loop-i.i = c.open_after-depth.ensures ∙ ap (λ n. open_after n c.index-tokens-i.result.part) c.loop-i.invariant.0 ∙ sym step in
    (now, below_more _ _ c.loop-i.invariant.1 (rw now at c.if-depth-gt-BRACKET_LIMIT.false))
