-- What activations are worth: by what their behaviours and conditions are worth, each occurrence once.
use Rattle.std.specs.Prelude.{ℕ, zero, suc, ◌+◌, ◌≡◌, ◌≤◌, ◌*◌, Bool, ◌||◌, Option, None, cond}
use Rattle.pipeline_time.specs.Acts.{Acts, Done, Act, When}
use Rattle.pipeline_time.specs.Cores.{Core}
use Rattle.step_program.specs.Programs.{Program, Expr}
use Rattle.lowered_time.specs.Pieces.{Made}
use Rattle.lowered_time.specs.Building.{Operations, Layout}
use Rattle.module_sizes.specs.Charges.{operand_most}
use Rattle.module_sizes.specs.Costs.{Rates, AreFormed, IsFree, moves_cost}

-- of each occurrence where there are stages, which may be recorded and due; of an occurrence: its behaviour, and its word where it is the root;
-- and of a condition, by its place among those of an occurrence
pub record Activating : Type 0 where
  pub each : ℕ
  pub own : ℕ → ℕ
  pub test : ℕ → ℕ → ℕ

-- the guard of an occurrence is paid by its items, where it has some
abbrev pub items_worth : Acts → ℕ
items_worth Done = 0
items_worth (Act number level past own rest) = 600
items_worth (When number test taken other rest) = 600

abbrev pub acts_worth : Activating → Acts → ℕ
acts_worth w Done = 0
acts_worth w (Act number level past own rest) = (w.each + (w.own number + items_worth own)) + (acts_worth w own + acts_worth w rest)
acts_worth w (When number test taken other rest) = (648 + w.test number test) + (acts_worth w taken + (acts_worth w other + acts_worth w rest))

-- An occurrence runs in one of so many stages, or in none, and not before its activator; in the level of that one it waits for no bit.
abbrev pub IsQuiet : Layout → (stages above : ℕ) → Acts → Type 0
IsQuiet layout stages above Done = Unit {0}
IsQuiet layout stages above (Act number level past own rest) =
    (above ≤ level) × (level ≤ stages) × (level ≡ above → layout.bit level number ≡ None) × IsQuiet layout stages level own × IsQuiet layout stages above rest
IsQuiet layout stages above (When number test taken other rest) =
    IsQuiet layout stages above taken × IsQuiet layout stages above other × IsQuiet layout stages above rest

-- ---- what parts cost

-- what is made is a leaf, and its steps cost so much
pub record Makes (p : Program) (most : ℕ) (rates : Rates) (n : ℕ) (m : Made) : Type 0 where
  pub out : IsFree p most rates m.out
  pub low : moves_cost p most rates m.piece.moves ≤ n

-- and it is a wire or a number
pub record Tells (p : Program) (most : ℕ) (rates : Rates) (n : ℕ) (m : Made) : Type 0 where
  pub makes : Makes p most rates n m
  pub short : operand_most p most m.out ≤ 27

-- what is paid for behaviours with their guards, conditions, the root's word, and words that are loaded
pub record Prices : Type 0 where
  pub behavior : ℕ → ℕ
  pub test : ℕ → ℕ → ℕ
  pub fetch : ℕ
  pub load : ℕ

-- a guard, unless there is none
abbrev pub guard_worth : (none : Bool) → ℕ
guard_worth none = cond none 0 100

-- the parts cost no more, and a behaviour that does something less by a guard; that of the root needn't do anything
pub record ArePriced {R M : Type 0} (core : Core R M) (p : Program) (most : ℕ) (rates : Rates) (ops : Operations) (prices : Prices) : Type 0 where
  pub behaves : (number : ℕ) (row : Option ℕ) (guard : Expr) (from : ℕ) → IsFree p most rates guard
      → moves_cost p most rates (ops.behavior number row guard from).moves + guard_worth (core.is_root number || ops.idle number) ≤ prices.behavior number
  pub tests : (number n : ℕ) (row : Option ℕ) (from : ℕ) → Tells p most rates (prices.test number n) (ops.condition number n row from)
  pub fetches : (from : ℕ) → Makes p most rates prices.fetch (ops.fetch from)
  pub loads : (row : ℕ) (e : Expr) (from : ℕ) → IsFree p most rates e → AreFormed p (ops.load row e from).moves → moves_cost p most rates (ops.load row e from).moves ≤ prices.load
  pub words : (row : ℕ) → IsFree p most rates (ops.word row)
  pub decodes : (row : ℕ) → IsFree p most rates (ops.decodes row)
  pub chooses : (row number : ℕ) → IsFree p most rates (ops.chooses row number)
  pub short : (row number : ℕ) → operand_most p most (ops.chooses row number) ≤ 27
  pub stalled : (level : ℕ) → IsFree p most rates (ops.stalled level)
  pub flushed : (level : ℕ) → IsFree p most rates (ops.flushed level)

-- the root takes its word under its guard, and has it loaded
abbrev pub root_worth : Prices → ℕ
root_worth prices = prices.fetch + (prices.load + 1820)

abbrev pub each_worth : (stages : ℕ) → ℕ
each_worth zero = 0
each_worth (suc n) = 1523

abbrev pub activating : {R M : Type 0} → Core R M → Prices → Activating
activating core prices = record {
  each = each_worth core.stages;
  own = λ number. cond (core.is_root number) (root_worth prices) 0 + prices.behavior number;
  test = prices.test;
}

-- `main` and all stages: which are held and open, their words, and what is due in them
abbrev pub edge_worth : {R M : Type 0} → Core R M → Prices → (stages : ℕ) → ℕ
edge_worth core prices stages = stages * (1768 + prices.load) + ((activating core prices).own 0 + acts_worth (activating core prices) core.acts)
