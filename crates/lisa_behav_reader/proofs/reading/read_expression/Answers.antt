use Rattle.std.proofs.Common.{◌≡◌, ◌-◌, length, drop, Some, sym, ◌∙◌}
use Rattle.std.proofs.lemmas.List.{length-map}
use Rattle.lisa_tree.specs.Expressions.{expr_tree, expr_depth}
use Rattle.lisa_tree.specs.Grammar.{SpellsExpr}
use Rattle.lisa_behav_reader.specs.Reading.{reads, whole}
use Rattle.lisa_tree.specs.Tokens.{toks}
use Rattle.lisa_behav_reader.specs.Places.{closes}
use Rattle.lisa_behav_reader.proofs.PlaceLaws as laws
use Rattle.lisa_behav_reader.proofs.reading.read_expression.Goals as goal

pub returns-then-closes-clause-found : goal.returns-then-closes-clause-found
returns-then-closes-clause-found c =
    let whole = laws.found (SpellsExpr 0) expr_depth closes (λ ts. reads (whole 128 ts)) laws.expr_sound laws.expr_complete laws.expr_front (toks c.args.tokens.now) c.args.from (expr_tree c.in-Ok.tree) (toks c.in-Ok.rest.now) (rw length-map c.requires) (rw (← c.behind.ensures.value) c.in-Ok.ensures.exact) (sym c.closes.ensures ∙ c.if-closes.true) in
    rw (length-map, length-map) at whole

pub returns-then-closes-clause-only : goal.returns-then-closes-clause-only
returns-then-closes-clause-only c = λ to t h.
    let both = laws.ok_only (SpellsExpr 0) expr_depth closes (λ ts. reads (whole 128 ts)) laws.expr_sound laws.expr_complete laws.expr_front (toks c.args.tokens.now) c.args.from to t (expr_tree c.in-Ok.tree) (toks c.in-Ok.rest.now) (rw (← c.behind.ensures.value) c.in-Ok.ensures.exact) h in
    rw (length-map, length-map) at both

pub returns-else-closes-clause-only : goal.returns-else-closes-clause-only
returns-else-closes-clause-only c = λ to t h.
    absurd (laws.not_closed (SpellsExpr 0) expr_depth closes (λ ts. reads (whole 128 ts)) laws.expr_sound laws.expr_complete laws.expr_front (toks c.args.tokens.now) c.args.from to t (expr_tree c.in-Ok.tree) (toks c.in-Ok.rest.now) (rw (← c.behind.ensures.value) c.in-Ok.ensures.exact) (sym c.closes.ensures ∙ c.if-closes.false) h)

pub returns-in-Err-clause-only : goal.returns-in-Err-clause-only
returns-in-Err-clause-only c = λ to t h.
    laws.fails_only (SpellsExpr 0) expr_depth closes (λ ts. reads (whole 128 ts)) laws.expr_sound laws.expr_complete laws.expr_front expr_tree (toks c.args.tokens.now) c.args.from to t c.in-Err.missed c.fault-in-Err.result (rw (← c.behind.ensures.value) c.in-Err.ensures.exact) c.fault-in-Err.ensures.kind h
