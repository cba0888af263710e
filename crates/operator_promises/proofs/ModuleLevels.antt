-- What tokens of a module spell at a level is grouped by the levels, and the other way round.
use Rattle.std.proofs.Common.{◌≡◌, ℕ, ◌≤◌, refl, sym, subst, arith, inl, inr}
use Rattle.std.proofs.lemmas.Bool.{cases_lt}
use Rattle.lisa_words.specs.Levels as levels
use Rattle.verilog_text.specs.Trees.{VTree}
use Rattle.verilog_text.specs.Grammar as grammar
use Rattle.verilog_text.specs.Grammar.{SpellsVExpr}
use Rattle.verilog_text.specs.Tokens.{VToks}
use Rattle.operator_levels.proofs.StackLaws.{level_range}
use Rattle.operator_promises.specs.Grouped.{IsVGrouped}

pub grouped : {level : ℕ} {ts : VToks} {t : VTree} → SpellsVExpr level ts t → 1 ≤ level → level ≤ 11 → IsVGrouped level ts t
grouped (grammar.two o same d e parts) some few =
    levels.pair o same (grouped d some few) (grouped e (omega arith) (omega (arith, same, (level_range o).1))) parts refl
grouped (grammar.one o d) some few = levels.operand (grammar.one o d)
grouped (grammar.tighter {level = level} {ts = ts} {a = a} d) some few =
    elim (cases_lt level 11) [
      | inl lt ↦ levels.tighter (grouped d (omega arith) (omega arith))
      | inr ge ↦ (let same : 11 ≡ level = omega arith in subst (λ (l : ℕ). IsVGrouped l ts a) same (levels.operand (subst (λ (l : ℕ). SpellsVExpr l ts a) (sym same) (grammar.tighter d))))
    ]
grouped _ some few = absurd (omega arith)

pub spelled : {level : ℕ} {ts : VToks} {t : VTree} → IsVGrouped level ts t → SpellsVExpr level ts t
spelled (levels.operand d) = d
spelled (levels.tighter d) = grammar.tighter (spelled d)
spelled (levels.pair o {l = l} {ts = ts} {a = a} {b = b} {t = t} same d e parts is) =
    subst (λ (u : VTree). SpellsVExpr l ts u) (sym is) (grammar.two o same (spelled d) (spelled e) parts)
