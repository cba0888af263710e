-- What assignments, calls, stalls, flushes and locals keep is kept by every behaviour.
use Rattle.std.proofs.Common.{◌+◌, ◌*◌, ℕ, zero, suc, Bool, true, false, List, length, Option, None, Some}
use Rattle.std.specs.Prelude.{if◌then◌else◌}
use Rattle.lisa_words.specs.declared.words.Kind.{Kind}
use Rattle.lisa_tree.specs.Expressions.{ExprTree}
use Rattle.lisa_tree.specs.Statements as stmts
use Rattle.lisa_tree.specs.Statements.{HeadTree, StmtTree, StmtTrees}
use Rattle.shape_checks.specs.declared.bounds.Bounds.{Bounds}
use Rattle.shape_checks.specs.Bounds.{bounds_of, turns}
use Rattle.typed_values.specs.Words.{TypedWord, is_zero}
use Rattle.typed_values.specs.Expressions.{value}
use Rattle.typed_values.specs.Effects.{Locals, Doing, leave, turned, loop_turn, all_turns, looped, with_counter, effect, effects}

-- each thing that is done keeps what is said of a moment
pub record Keeps {M : Type 0} (doing : Doing M) (P : M → Type 0) : Type 0 where
  pub put : (target : ExprTree) (given : Kind → TypedWord) (m : M) → P m → P (doing.put target given m)
  pub call : (n : List ℕ) (m : M) → P m → P (doing.call n m)
  pub stall : (n : List ℕ) (m : M) → P m → P (doing.stall n m)
  pub flush : (n : List ℕ) (m : M) → P m → P (doing.flush n m)
  pub locals : (locals : Locals) (m : M) → P m → P (doing.with_locals locals m)

turned_kept : {M : Type 0} (P : M → Type 0) (turn : ℕ → M → M) (b : Bounds) (k n : ℕ) → ((bits : ℕ) (m : M) → P m → P (turn bits m)) → (m : M) → P m → P (turned turn b k n m)
turned_kept P turn b k zero each m kept = kept
turned_kept P turn b k (suc n) each m kept = turned_kept P turn b (k + 1) n each (turn (b.first + k * b.step) m) (each (b.first + k * b.step) m kept)

turn_kept : {M : Type 0} (doing : Doing M) (P : M → Type 0) (body : M → M) (head : HeadTree) → Keeps doing P → ((m : M) → P m → P (body m)) → (bits : ℕ) (m : M) → P m → P (loop_turn doing body head bits m)
turn_kept doing P body head keeps each bits m kept = keeps.locals _ _ (each (with_counter doing head bits m) (keeps.locals _ m kept))

turns_kept : {M : Type 0} (doing : Doing M) (P : M → Type 0) (body : M → M) (head : HeadTree) (bounds : Option Bounds) → Keeps doing P → ((m : M) → P m → P (body m)) → (m : M) → P m → P (all_turns doing body head bounds m)
turns_kept doing P body head None keeps each m kept = kept
turns_kept doing P body head (Some b) keeps each m kept = turned_kept P (loop_turn doing body head) b 0 (turns b) (turn_kept doing P body head keeps each) m kept

loop_kept : {M : Type 0} (doing : Doing M) (P : M → Type 0) (body : M → M) (head : HeadTree) → Keeps doing P → ((m : M) → P m → P (body m)) → (m : M) → P m → P (looped doing body head m)
unfolding looped
loop_kept doing P body head keeps each m kept = turns_kept doing P body head (bounds_of head) keeps each m kept

one_of : {M : Type 0} (P : M → Type 0) (b : Bool) (m n : M) → P m → P n → P (if b then m else n)
one_of P true m n first second = first
one_of P false m n first second = second

mutual
  pub effect_kept : {M : Type 0} (doing : Doing M) (P : M → Type 0) → Keeps doing P → (s : StmtTree) (m : M) → P m → P (effect doing s m)
  effect_kept doing P keeps stmts.Empty m kept = kept
  effect_kept doing P keeps (stmts.Block all) m kept = keeps.locals _ _ (effects_kept doing P keeps all m kept)
  effect_kept doing P keeps (stmts.Local shape n e) m kept = keeps.locals _ m kept
  effect_kept doing P keeps (stmts.Assign target e) m kept = keeps.put target _ m kept
  effect_kept doing P keeps (stmts.If test chosen) m kept =
      one_of P (is_zero (value (doing.reader m) test)) m (leave doing (length (doing.locals m)) (effect doing chosen m)) kept
      (keeps.locals _ _ (effect_kept doing P keeps chosen m kept))
  effect_kept doing P keeps (stmts.IfElse test chosen other) m kept =
      keeps.locals _ _
      (one_of P (is_zero (value (doing.reader m) test)) (effect doing other m) (effect doing chosen m)
      (effect_kept doing P keeps other m kept) (effect_kept doing P keeps chosen m kept))
  effect_kept doing P keeps (stmts.While test body) m kept = kept
  effect_kept doing P keeps (stmts.For head body) m kept = loop_kept doing P (effect doing body) head keeps (effect_kept doing P keeps body) m kept
  effect_kept doing P keeps (stmts.Call n) m kept = keeps.call n m kept
  effect_kept doing P keeps (stmts.Stall pipe stage) m kept = keeps.stall stage m kept
  effect_kept doing P keeps (stmts.Flush pipe stage) m kept = keeps.flush stage m kept
  effect_kept doing P keeps (stmts.Execute pipe) m kept = kept
  effect_kept doing P keeps (stmts.Shift pipe) m kept = kept

  pub effects_kept : {M : Type 0} (doing : Doing M) (P : M → Type 0) → Keeps doing P → (all : StmtTrees) (m : M) → P m → P (effects doing all m)
  effects_kept doing P keeps stmts.End m kept = kept
  effects_kept doing P keeps (stmts.Then s rest) m kept = effects_kept doing P keeps rest (effect doing s m) (effect_kept doing P keeps s m kept)
