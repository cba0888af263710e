-- What is known of expressions.
use Rattle.std.proofs.Common.{◌≡◌, ℕ, ◌<◌, ◌≤◌, List, [], ◌∷◌, ◌++◌, length, Option, Some, None, refl, ap, arith}
use Rattle.std.proofs.lemmas.List.{length-append}
use Rattle.verilog_text.specs.Trees.{v_depth}
use Rattle.verilog_places.specs.Trees.{PlacedTree, bare}
use Rattle.verilog_places.specs.Spelling.{PlacedToks, SpellsPlaced}
use Rattle.verilog_expression_reader.specs.Stops.{front_binds}
use Rattle.verilog_expression_reader.specs.Reading.{whole}
use Rattle.verilog_expression_reader.proofs.ExprSound.{reads_sound}
use Rattle.verilog_expression_reader.proofs.ExprComplete.{complete}
use Rattle.verilog_action_reader.specs.Reading.{expr}

-- what was taken from the front is the expression
pub record TakesExpr (n : ℕ) (ts : PlacedToks) (x : PlacedTree × PlacedToks) : Type 0 where
  pub front : PlacedToks
  pub parts : ts ≡ front ++ x.1
  pub some : 0 < length front
  pub spells : SpellsPlaced 0 front x.0
  pub deep : v_depth (bare x.0) ≤ n

pub expr_sound : (n : ℕ) (ts : PlacedToks) (x : PlacedTree × PlacedToks) → expr n ts ≡ Some x → TakesExpr n ts x
expr_sound n ts x e = let t = reads_sound (whole n ts) x e in record { front = t.front; parts = t.split; some = t.some; spells = t.spells; deep = t.deep }

pub expr_shorter : (n : ℕ) (ts : PlacedToks) (x : PlacedTree × PlacedToks) → expr n ts ≡ Some x → length x.1 < length ts
expr_shorter n ts x e = let t = expr_sound n ts x e in omega (arith, t.some, length-append t.front x.1, ap length t.parts)

pub expr_there : {ts : PlacedToks} {e : PlacedTree} → SpellsPlaced 0 ts e → (n : ℕ) (rest : PlacedToks) → v_depth (bare e) ≤ n → front_binds rest ≤ 0 → expr n (ts ++ rest) ≡ Some (e, rest)
expr_there d n rest le stops = let c = complete d in c.entire n rest le stops
