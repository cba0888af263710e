-- What tokens of a behaviour spell at a level is grouped by the levels, and the other way round.
use Rattle.std.proofs.Common.{◌≡◌, ℕ, ◌≤◌, refl, sym, subst, arith, inl, inr}
use Rattle.std.proofs.lemmas.Bool.{cases_lt}
use Rattle.lisa_words.specs.Levels as levels
use Rattle.lisa_tree.specs.Expressions.{ExprTree}
use Rattle.lisa_tree.specs.Grammar as grammar
use Rattle.lisa_tree.specs.Grammar.{Toks, SpellsExpr}
use Rattle.operator_levels.proofs.StackLaws.{level_range}
use Rattle.operator_promises.specs.Grouped.{IsGrouped}

pub grouped : {level : ℕ} {ts : Toks} {t : ExprTree} → SpellsExpr level ts t → 1 ≤ level → level ≤ 11 → IsGrouped level ts t
grouped (grammar.two o same d e parts) some few =
    levels.pair o same (grouped d some few) (grouped e (omega arith) (omega (arith, same, (level_range o).1))) parts refl
grouped (grammar.complement d) some few = levels.operand (grammar.complement d)
grouped (grammar.negate d) some few = levels.operand (grammar.negate d)
grouped (grammar.cast d) some few = levels.operand (grammar.cast d)
grouped (grammar.tighter {level = level} {ts = ts} {a = a} d) some few =
    elim (cases_lt level 11) [
      | inl lt ↦ levels.tighter (grouped d (omega arith) (omega arith))
      | inr ge ↦ (let same : 11 ≡ level = omega arith in subst (λ (l : ℕ). IsGrouped l ts a) same (levels.operand (subst (λ (l : ℕ). SpellsExpr l ts a) (sym same) (grammar.tighter d))))
    ]
grouped _ some few = absurd (omega arith)

pub spelled : {level : ℕ} {ts : Toks} {t : ExprTree} → IsGrouped level ts t → SpellsExpr level ts t
spelled (levels.operand d) = d
spelled (levels.tighter d) = grammar.tighter (spelled d)
spelled (levels.pair o {l = l} {ts = ts} {a = a} {b = b} {t = t} same d e parts is) =
    subst (λ (u : ExprTree). SpellsExpr l ts u) (sym is) (grammar.two o same (spelled d) (spelled e) parts)
