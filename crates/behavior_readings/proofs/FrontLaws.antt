-- What stands at the front is what is read there.
use Rattle.std.proofs.Common.{◌≡◌, ℕ, ◌≤◌, false, [], ◌∷◌, ◌++◌, Option, Some, None, arith}
use Rattle.std.specs.Prelude.{is_some}
use Rattle.std.specs.Option.{option_map_or}
use Rattle.lisa_tree.specs.declared.tokens.Sign.TheVariants as signs
use Rattle.lisa_tree.specs.declared.tokens.TokenPart.TheVariants as parts
use Rattle.lisa_words.specs.declared.binary.Operator.{Operator}
use Rattle.lisa_words.specs.Operators.{level_of}
use Rattle.lisa_tree.specs.Expressions.{ExprTree, expr_depth}
use Rattle.lisa_tree.specs.Statements.{StmtTrees, stmts_depth}
use Rattle.lisa_tree.specs.Grammar.{Toks, SpellsExpr, SpellsStmts}
use Rattle.lisa_behav_reader.specs.Reading.{operator_of, reads, whole}
use Rattle.lisa_behav_reader.specs.StmtReading.{stmts, many}
use Rattle.lisa_behav_reader.proofs.ExprSound.{reads_sound}
use Rattle.lisa_behav_reader.proofs.ExprComplete.{front_binds, complete}
use Rattle.lisa_behav_reader.proofs.StmtSound.{stmts_sound}
use Rattle.behavior_readings.specs.Fronts.{IsFront, goes_on}

no_operator : (o : Option Operator) → is_some o ≡ false → option_map_or level_of o 0 ≤ 0
no_operator None e = omega arith
no_operator (Some o) e = absurd cc

-- what doesn't go on with an expression holds on to none
stops : (ts : Toks) → goes_on ts ≡ false → front_binds ts ≤ 0
stops [] e = omega arith
stops (parts.Sign signs.Question ∷ ts) e = absurd cc
stops (parts.Sign signs.OpenSquare ∷ ts) e = absurd cc
stops (parts.Sign sign ∷ ts) e = no_operator (operator_of sign) e
stops _ e = omega arith

pub expression_found : (n : ℕ) (ts : Toks) (x : ExprTree × Toks) → reads (whole n ts) ≡ Some x → IsFront (SpellsExpr 0) expr_depth n ts x
expression_found n ts x e = let t = reads_sound (whole n ts) x e in record { front = t.front; parts = t.parts; spells = t.spells; deep = t.deep }

pub expression_read : (n : ℕ) (ts rest : Toks) (t : ExprTree) → SpellsExpr 0 ts t → expr_depth t ≤ n → goes_on rest ≡ false → reads (whole n (ts ++ rest)) ≡ Some (t, rest)
expression_read n ts rest t d deep e = let c = complete d in c.entire n rest deep (stops rest e)

pub statements_found : (n : ℕ) (ts : Toks) (x : StmtTrees × Toks) → stmts (many n ts) ≡ Some x → IsFront SpellsStmts stmts_depth n ts x
statements_found n ts x e = let t = stmts_sound (many n ts) x e in record { front = t.front; parts = t.parts; spells = t.spells; deep = t.deep }
