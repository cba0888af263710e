-- When the steps of an edge are well formed. On the way to the program: nothing here needs to be trusted.
use Rattle.std.specs.Prelude.{ℕ, suc, ◌≡◌, ◌<◌, ◌≤◌, true, length, slice_index, cond, Option, Some, nat_eq}
use Rattle.step_program.specs.Programs.{Program, Expr, Temp}
use Rattle.step_program.specs.Effects.{width, item_width}
use Rattle.step_program.specs.WellFormed.{IsWidth, IsFit}
use Rattle.step_program.specs.Depths.{expr_depth}
use Rattle.step_pieces.specs.Formed.{Lies, IsPiece}
use Rattle.pipeline_time.specs.Acts.{size}
use Rattle.pipeline_time.specs.Cores.{Core, is_past}
use Rattle.lowered_time.specs.Building.{Operations, Layout, slot_at, held_at, open_at, time_temps}
use Rattle.lowered_time.specs.Lowering.{IsGuard, IsRow, HasOwnRow}

-- a leaf of this width
pub record IsLeaf (p : Program) (w : ℕ) (e : Expr) : Type 0 where
  pub fits : IsFit p e
  pub wide : width p e ≡ w
  pub leaf : expr_depth e ≤ 1

-- the width of a temp of time
abbrev pub time_width : Layout → ℕ → ℕ
time_width layout temp = cond (nat_eq temp slot_at) layout.width 1

module _ {R M : Type 0} (core : Core R M) (ops : Operations) (layout : Layout) (p : Program) where
  -- what an occurrence runs with: the root and what is past it have a row
  pub record IsRowFor (number : ℕ) (row : Option ℕ) : Type 0 where
    pub there : number < suc (size core.acts)
    pub own : HasOwnRow core number row
    pub is_row : (r : ℕ) → row ≡ Some r → IsRow core r

  pub record AreFormed : Type 0 where
    pub word_width : IsWidth layout.width
    pub lasts : (time_temps core ≤ layout.lasting) × (layout.lasting ≤ length p.temps)
    pub temps : (temp : ℕ) → temp < time_temps core → slice_index p.temps temp ≡ time_width layout temp
    pub bits : (level number place : ℕ) → layout.bit level number ≡ Some place → (place < length p.items) × (item_width p place ≡ 1)
    pub words : (level place : ℕ) → layout.word level ≡ Some place → (place < length p.items) × (item_width p place ≡ layout.width)
    pub behaviors : (number : ℕ) (row : Option ℕ) (guard : Expr) (from : ℕ) → layout.lasting ≤ from → IsGuard p layout from guard → IsRowFor number row → Lies p.temps from (ops.behavior number row guard from).widths → IsPiece p (ops.behavior number row guard from)
    pub conditions : (number test : ℕ) (row : Option ℕ) (from : ℕ) → layout.lasting ≤ from → IsRowFor number row → Lies p.temps from (ops.condition number test row from).piece.widths → IsPiece p (ops.condition number test row from).piece × IsLeaf p 1 (ops.condition number test row from).out
    pub fetches : (from : ℕ) → layout.lasting ≤ from → Lies p.temps from (ops.fetch from).piece.widths → IsPiece p (ops.fetch from).piece × IsLeaf p layout.width (ops.fetch from).out
    pub loads : (row : ℕ) (e : Expr) (from : ℕ) → IsRow core row → layout.lasting ≤ from → IsLeaf p layout.width e → Lies p.temps from (ops.load row e from).widths → IsPiece p (ops.load row e from)
    pub row_words : (row : ℕ) → IsRow core row → IsLeaf p layout.width (ops.word row)
    pub row_decodes : (row : ℕ) → IsRow core row → IsLeaf p 1 (ops.decodes row)
    pub row_chooses : (row number : ℕ) → IsRow core row → number < suc (size core.acts) → is_past core number ≡ true → IsLeaf p 1 (ops.chooses row number)
    pub stalled : (level : ℕ) → 0 < level → level ≤ core.stages → IsLeaf p 1 (ops.stalled level)
    pub flushed : (level : ℕ) → 0 < level → level ≤ core.stages → IsLeaf p 1 (ops.flushed level)
    pub closes : (from : ℕ) → layout.lasting ≤ from → Lies p.temps from (ops.close (λ level. Temp (held_at level)) (λ level. Temp (open_at level)) from).widths → IsPiece p (ops.close (λ level. Temp (held_at level)) (λ level. Temp (open_at level)) from)
