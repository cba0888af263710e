-- What holds of the ways of scenes, where it holds of what they are made of.
use Rattle.std.specs.Prelude.{◌≡◌, ℕ, ◌<◌, ◌≤◌, ◌^◌, List, [], All, Option, None, Some, ⊤}
use Rattle.lisa_words.specs.declared.words.Kind.{Kind}
use Rattle.lisa_tree.specs.Expressions.{ExprTree}
use Rattle.description_places.specs.Literals.{literal}
use Rattle.step_program.specs.Programs.{Program, Expr}
use Rattle.step_program.specs.Effects.{width}
use Rattle.step_program.specs.WellFormed.{IsFit}
use Rattle.step_program.specs.Depths.{expr_depth}
use Rattle.step_pieces.specs.Pieces.{IsScratch}
use Rattle.step_pieces.specs.Formed.{Lies, IsPiece}
use Rattle.lowered_values.specs.Operands.{Operand}
use Rattle.lowered_values.specs.Computed.{IsComputed}
use Rattle.lowered_statements.specs.Scopes.{Scope, Names, names_of, IsScope}
use Rattle.lowered_statements.specs.Scenes.{Scenes, ways_within}
use Rattle.lowered_statements.specs.Typed.{Rules, AreTyped}
use Rattle.lowered_statements.specs.Agreement.{Idles, AreIdle, IsGuard, AreGiven, AreFormed, FormWays}

-- what holds of pieces of every scene
pub record ScenesIdle {S : Type 0} (scenes : Scenes S) (p : Program) (before pins : List ℕ) : Type 0 where
  pub reads : (s : S) (scope : Scope) (from : ℕ) (e : ExprTree) → All (λ move. IsScratch from move.aim) (scenes.reads s scope from e).piece.moves
  pub puts : (s : S) (scope : Scope) (target : ExprTree) (x : Kind → Operand) → Idles p before pins (λ guard from. scenes.puts s scope guard from target x)
  pub stalls : (s : S) (n : List ℕ) → Idles p before pins (λ guard from. scenes.stalls s guard from n)
  pub flushes : (s : S) (n : List ℕ) → Idles p before pins (λ guard from. scenes.flushes s guard from n)

-- so under a guard that is 0 calls change scratch alone, however deep they are
abbrev pub CallsRest : {S : Type 0} → Scenes S → Program → (before pins : List ℕ) → Type 0
CallsRest scenes p before pins = ScenesIdle scenes p before pins → (levels : ℕ) (s : _) → AreIdle (ways_within scenes levels s) p before pins

-- ---- well-formed steps

-- one bit, of little depth
abbrev pub IsTest : Program → Option Expr → Type 0
IsTest p None = ⊤
IsTest p (Some test) = IsFit p test × (width p test ≡ 1) × (expr_depth test ≤ 7)

-- of what is called a description has said what is needed
pub record IsCallee {S : Type 0} (scenes : Scenes S) (rules : S → Rules) (p : Program) (c : S × Option Expr) : Type 0 where
  pub test : IsTest p c.1
  pub typed : AreTyped (rules c.0) [] (scenes.body c.0)

-- the pieces of every scene are well formed
pub record ScenesForm {S : Type 0} (scenes : Scenes S) (rules : S → Rules) (p : Program) (lasts : ℕ) : Type 0 where
  pub numbers : (s : S) (names : Names) (e : ExprTree) (v : ℕ) → (rules s).reads names e → literal e ≡ Some v → v < 2 ^ 64
  pub reads : (s : S) (scope : Scope) (from : ℕ) (e : ExprTree) → (rules s).reads (names_of scope) e → IsScope p lasts from scope
      → Lies p.temps from (scenes.reads s scope from e).piece.widths → IsComputed p from (scenes.reads s scope from e)
  pub puts : (s : S) (scope : Scope) (guard : Expr) (from : ℕ) (target : ExprTree) (x : Kind → Operand) → (rules s).puts (names_of scope) target
      → IsScope p lasts from scope → IsGuard p lasts from scope guard → AreGiven p from x
      → Lies p.temps from (scenes.puts s scope guard from target x).widths → IsPiece p (scenes.puts s scope guard from target x)
  pub stalls : (s : S) (scope : Scope) (n : List ℕ) → (rules s).stalls n → AreFormed p lasts scope (λ guard from. scenes.stalls s guard from n)
  pub flushes : (s : S) (scope : Scope) (n : List ℕ) → (rules s).flushes n → AreFormed p lasts scope (λ guard from. scenes.flushes s guard from n)
  pub callees : (s : S) (n : List ℕ) → (rules s).calls n → All (IsCallee scenes rules p) (scenes.callees s n)

-- so are those of calls, however deep they are
abbrev pub CallsAreFormed : {S : Type 0} → Scenes S → (S → Rules) → (lasts : ℕ) → Program → Type 0
CallsAreFormed scenes rules lasts p = ScenesForm scenes rules p lasts → (levels : ℕ) (s : _) → FormWays (ways_within scenes levels s) (rules s) p lasts
