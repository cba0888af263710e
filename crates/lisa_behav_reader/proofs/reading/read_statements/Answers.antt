use Rattle.std.proofs.Common.{◌≡◌, ◌-◌, length, drop, Some, sym, ◌∙◌}
use Rattle.std.proofs.lemmas.List.{length-map}
use Rattle.lisa_tree.specs.Statements.{stmt_trees, stmts_depth}
use Rattle.lisa_tree.specs.Grammar.{SpellsStmts}
use Rattle.lisa_behav_reader.specs.StmtReading.{stmts, many}
use Rattle.std.specs.Global.{Vec}
use Rattle.lisa_tree.specs.declared.statements.Stmt.{Stmt}
use Rattle.lisa_tree.specs.Tokens.{toks}
use Rattle.lisa_behav_reader.specs.Places.{closes_block}
use Rattle.lisa_behav_reader.proofs.PlaceLaws as laws
use Rattle.lisa_behav_reader.proofs.reading.read_statements.Goals as goal

pub returns-then-closes_block-clause-found : goal.returns-then-closes_block-clause-found
returns-then-closes_block-clause-found c =
    let whole = laws.found SpellsStmts stmts_depth closes_block (λ ts. stmts (many 128 ts)) laws.stmt_sound laws.stmt_complete laws.stmt_front (toks c.args.tokens.now) c.args.from (stmt_trees c.in-Ok.all.items) (toks c.in-Ok.rest.now) (rw length-map c.requires) (rw (← c.behind.ensures.value) c.in-Ok.ensures.exact) (sym c.closes_block.ensures ∙ c.if-closes_block.true) in
    rw (length-map, length-map) at whole

pub returns-then-closes_block-clause-only : goal.returns-then-closes_block-clause-only
returns-then-closes_block-clause-only c = λ to t h.
    let both = laws.ok_only SpellsStmts stmts_depth closes_block (λ ts. stmts (many 128 ts)) laws.stmt_sound laws.stmt_complete laws.stmt_front (toks c.args.tokens.now) c.args.from to t (stmt_trees c.in-Ok.all.items) (toks c.in-Ok.rest.now) (rw (← c.behind.ensures.value) c.in-Ok.ensures.exact) h in
    rw (length-map, length-map) at both

pub returns-else-closes_block-clause-only : goal.returns-else-closes_block-clause-only
returns-else-closes_block-clause-only c = λ to t h.
    absurd (laws.not_closed SpellsStmts stmts_depth closes_block (λ ts. stmts (many 128 ts)) laws.stmt_sound laws.stmt_complete laws.stmt_front (toks c.args.tokens.now) c.args.from to t (stmt_trees c.in-Ok.all.items) (toks c.in-Ok.rest.now) (rw (← c.behind.ensures.value) c.in-Ok.ensures.exact) (sym c.closes_block.ensures ∙ c.if-closes_block.false) h)

pub returns-in-Err-clause-only : goal.returns-in-Err-clause-only
returns-in-Err-clause-only c = λ to t h.
    laws.fails_only SpellsStmts stmts_depth closes_block (λ ts. stmts (many 128 ts)) laws.stmt_sound laws.stmt_complete laws.stmt_front (λ (v : Vec Stmt). stmt_trees v.items) (toks c.args.tokens.now) c.args.from to t c.in-Err.missed c.fault-in-Err.result (rw (← c.behind.ensures.value) c.in-Err.ensures.exact) c.fault-in-Err.ensures.kind h
