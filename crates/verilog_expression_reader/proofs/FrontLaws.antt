-- What stands at the front is what is read there.
use Rattle.std.proofs.Common.{◌≡◌, ℕ, List, [], ◌++◌, Some, Result, Ok, Err, IfOk, sym, ap, ◌∙◌, arith, max}
use Rattle.std.specs.Borrow.{Bor}
use Rattle.lisa_words.proofs.StepLaws.{some_is}
use Rattle.verilog_text.specs.declared.tokens.VToken.{VToken}
use Rattle.verilog_places.specs.Trees.{PlacedTree}
use Rattle.verilog_places.specs.Spelling.{PlacedToks, SpellsPlaced}
use Rattle.verilog_expression_reader.specs.declared.misses.Missed.{Missed}
use Rattle.verilog_expression_reader.specs.declared.misses.Missed.TheVariants as misses
use Rattle.verilog_expression_reader.specs.declared.depths.Measured.{Measured}
use Rattle.verilog_expression_reader.specs.Gives.{Gives, seen}
use Rattle.verilog_expression_reader.specs.Reading.{depth, whole, reads}
use Rattle.verilog_expression_reader.specs.Stops.{front_binds}
use Rattle.verilog_expression_reader.specs.Fronts.{IsFront, IsAnswer}
use Rattle.verilog_expression_reader.proofs.ExprSound.{reads_sound}
use Rattle.verilog_expression_reader.proofs.ExprComplete.{complete}

pub front_read : (n : ℕ) (ts : PlacedToks) (e : PlacedTree) (rest : PlacedToks) → reads (whole n ts) ≡ Some (e, rest) → IsFront n ts e rest
front_read n ts e rest is = let t = reads_sound (whole n ts) (e, rest) is in record { front = t.front; whole = t.split; spells = t.spells; deep = t.deep }

pub reads_front : (n : ℕ) (ts : PlacedToks) (e : PlacedTree) (rest : PlacedToks) → IsFront n ts e rest → front_binds rest ≡ 0 → reads (whole n ts) ≡ Some (e, rest)
reads_front n ts e rest f stops = let c = complete f.spells in ap (λ (l : PlacedToks). reads (whole n l)) f.whole ∙ c.entire n rest f.deep (omega (arith, stops))

pub found : (n : ℕ) (ts : PlacedToks) (r : Result (Measured × Bor (List VToken)) Missed) → Gives seen r (reads (whole n ts)) → IfOk r (λ x. IsFront n ts (seen x).0 (seen x).1)
found n ts (Ok x) is = front_read n ts (seen x).0 (seen x).1 is
found n ts (Err e) is = tt

pub only : (n : ℕ) (ts : PlacedToks) (r : Result (Measured × Bor (List VToken)) Missed) → Gives seen r (reads (whole n ts)) → (e : PlacedTree) (rest : PlacedToks) → IsFront n ts e rest → front_binds rest ≡ 0 → IsAnswer e rest r
only n ts (Ok x) is e rest f stops = some_is (seen x) (e, rest) (sym is ∙ reads_front n ts e rest f stops)
only n ts (Err misses.NoMemory) is e rest f stops = tt
only n ts (Err (misses.At left)) is e rest f stops = let there = reads_front n ts e rest f stops in absurd cc

pub one_tree : (ts : PlacedToks) (t u : PlacedTree) → SpellsPlaced 0 ts t → SpellsPlaced 0 ts u → t ≡ u
one_tree ts t u d e =
    let n : ℕ = max (depth t) (depth u) in
    let c = complete d in
    let k = complete e in
    let first : reads (whole n (ts ++ [])) ≡ Some (t, []) = c.entire n [] (omega arith) (omega arith) in
    let second : reads (whole n (ts ++ [])) ≡ Some (u, []) = k.entire n [] (omega arith) (omega arith) in
    ap (λ (x : PlacedTree × PlacedToks). x.0) (some_is (t, []) (u, []) (sym first ∙ second))
