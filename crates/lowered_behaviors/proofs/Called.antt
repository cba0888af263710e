-- Scenes by positions do what standpoints do.
use Rattle.std.proofs.Common.{◌≡◌, ◌∙◌, ℕ, zero, suc, ◌+◌, ◌-◌, ◌<◌, List, [], ◌∷◌, Option, None, Some, map, refl, ap, arith}
use Rattle.std.specs.Option.{option_map}
use Rattle.lisa_tree.specs.Statements.{StmtTrees, End}
use Rattle.lisa_tree.specs.Operations.{sections_at, behavior_in}
use Rattle.step_program.specs.Programs.{Expr, Temp}
use Rattle.step_pieces.specs.Pieces.{Piece, nothing, behind, top, held}
use Rattle.lowered_time.specs.Pieces.{both}
use Rattle.lowered_statements.specs.Ways.{Guarded, Ways}
use Rattle.lowered_statements.specs.Stated.{stated_all}
use Rattle.lowered_statements.specs.Scenes.{body_piece, call_piece, calls_piece, calls_within, ways_of}
use Rattle.lowered_words.specs.Ways.{Way}
use Rattle.lowered_behaviors.specs.declared.positions.Reach.{Reach}
use Rattle.lowered_behaviors.specs.declared.positions.Position.{Position}
use Rattle.lowered_behaviors.specs.Standpoints.{Standpoint, alternatives, alternatives_at, own_way, running}
use Rattle.lowered_behaviors.specs.Values.{Ground, flag}
use Rattle.lowered_behaviors.specs.Behaviors.{behavior_within, body_of, done_by, done_by_all, ways_at}
use Rattle.lowered_behaviors.specs.Positions.{standpoint_of, home_in, alternatives_in, below}
use Rattle.lowered_behaviors.specs.Code.{body_at, callee_at, fewer, scenes_of}
use Rattle.lowered_behaviors.proofs.Standing.{home_is, alternatives_are}

module _ (g : Ground) where
  -- ---- what is called

  module _ (levels : ℕ) (calls : List Position × ℕ → Guarded) (h : Standpoint → (guard : Expr) → ℕ → Piece)
      (same : (s : List Position) (guard : Expr) (from : ℕ) → body_piece (scenes_of g) calls (s, levels) guard from ≡ h (standpoint_of g.description s) guard from) where
    one_called : (s : List Position) (way : Option Way) (guard : Expr) (from : ℕ)
        → call_piece (scenes_of g) calls (s, levels) (option_map (λ w. flag g.description g.row (Some w)) way) guard from ≡ done_by g h guard from (standpoint_of g.description s) way
    one_called s None guard from = same s guard from
    one_called s (Some w) guard from =
        let e : from + 0 ≡ from = omega arith in
        let guarded = held from nothing 1 (both guard (flag g.description g.row (Some w))) in
        ap (λ (t : ℕ). behind guarded (body_piece (scenes_of g) calls (s, levels) (Temp t) (top from guarded))) e
        ∙ ap (behind guarded) (same s (Temp from) (top from guarded))

    pub all_called : (all : List (List Position)) (guard : Expr) (from : ℕ) → calls_piece (scenes_of g) calls guard from (map (callee_at g levels) all) ≡ done_by_all g h guard from (map (standpoint_of g.description) all)
    all_called [] guard from = refl
    all_called (s ∷ rest) guard from =
        let here = done_by g h guard from (standpoint_of g.description s) (own_way (standpoint_of g.description s)) in
        ap (λ (x : Piece). behind x (calls_piece (scenes_of g) calls guard (top from x) (map (callee_at g levels) rest))) (one_called s (own_way (standpoint_of g.description s)) guard from)
        ∙ ap (behind here) (all_called rest guard (top from here))

    pub names_called : (s : List Position) (n : List ℕ) (guard : Expr) (from : ℕ)
        → calls_piece (scenes_of g) calls guard from (map (callee_at g levels) (alternatives_in g.description n (home_in g.description n s))) ≡ done_by_all g h guard from (alternatives g.description n (standpoint_of g.description s))
    names_called s n guard from =
        all_called (alternatives_in g.description n (home_in g.description n s)) guard from
        ∙ ap (done_by_all g h guard from) (alternatives_are g.description n (home_in g.description n s) ∙ ap (alternatives_at g.description n) (home_is g.description n s))

  -- ---- what runs in a scene

  body_is : (levels : ℕ) (ways : Ways) (guard : Expr) (from : ℕ) (all : Option StmtTrees) → (stated_all ways [] guard from (body_at (suc levels) all)).piece ≡ body_of ways guard from all
  body_is levels ways guard from None = refl
  body_is levels ways guard from (Some all) = refl

  -- with as many levels of calls as are left
  pub scene_is : (levels : ℕ) (s : List Position) (guard : Expr) (from : ℕ)
      → body_piece (scenes_of g) (calls_within (scenes_of g) levels) (s, levels) guard from ≡ behavior_within levels g (standpoint_of g.description s) guard from
  scene_is zero s guard from = refl
  scene_is (suc levels) s guard from =
      let own = behavior_in (sections_at g.description (running (standpoint_of g.description s))) in
      let act : Standpoint → (guard : Expr) → ℕ → Piece = λ at guard from. behavior_within levels g at guard from in
      let called = names_called levels (calls_within (scenes_of g) levels) act (scene_is levels) s in
      ap (λ (calls : Guarded). (stated_all (ways_of (scenes_of g) (λ _. calls) (s, suc levels)) [] guard from (body_at (suc levels) own)).piece) (λ i guard from n. called n guard from i)
      ∙ body_is levels (ways_at g act (standpoint_of g.description s)) guard from own

pub fewer_is : (levels : ℕ) → 0 < levels → levels - 1 ≡ fewer levels
fewer_is zero some = absurd (omega arith)
fewer_is (suc levels) some = omega arith

-- ---- the statements that run

pub body_past : (levels : ℕ) (all : Option StmtTrees) → levels ≡ 0 → End ≡ body_at levels all
body_past zero all is = refl
body_past (suc levels) all is = absurd (omega arith)

pub body_none : (levels : ℕ) (all : Option StmtTrees) → None ≡ all → End ≡ body_at levels all
body_none zero all is = refl
body_none (suc levels) all is = ap (body_at (suc levels)) is

pub body_some : (levels : ℕ) (all : Option StmtTrees) (x : StmtTrees) → 0 < levels → Some x ≡ all → x ≡ body_at levels all
body_some zero all x some is = absurd (omega arith)
body_some (suc levels) all x some is = ap (body_at (suc levels)) is

-- ---- what a name calls, by operations

pub each_callee : (g : Ground) (levels : ℕ) (reach : Reach) (home : List Position) (all : List ℕ) → map (λ (o : ℕ). callee_at g levels (below reach home o)) all ≡ map (callee_at g levels) (map (below reach home) all)
each_callee g levels reach home [] = refl
each_callee g levels reach home (o ∷ rest) = ap (λ cs. callee_at g levels (below reach home o) ∷ cs) (each_callee g levels reach home rest)
