-- What the parts of a description have to do, so that the steps of an edge make an edge. On the way to the program: nothing here needs to be trusted.
use Rattle.std.specs.Prelude.{ℕ, suc, ◌+◌, ◌≡◌, ◌≢◌, ◌<◌, ◌≤◌, ◌||◌, Bool, true, false, List, length, get_or, slice_index, cond, Option, None, Some, is_some, nat_eq}
use Rattle.std.specs.List.{list_any, AllByRecursion}
use Rattle.lisa_engine.specs.State.{State}
use Rattle.step_program.specs.Programs.{Expr, Temp, Move, Program}
use Rattle.step_program.specs.Effects.{Moment, value, begun, kept}
use Rattle.step_pieces.specs.Formed.{Lies}
use Rattle.pipeline_time.specs.Acts.{Acts, Done, Act, When, size}
use Rattle.pipeline_time.specs.Cores.{Core, level_of, above_of, is_past, slot_level}
use Rattle.pipeline_time.specs.Edges.{is_held, is_flushed}
use Rattle.pipeline_time.specs.Bits.{Hardware}
use Rattle.step_pieces.specs.Pieces.{Piece, always}
use Rattle.step_pieces.specs.Running.{ran}
use Rattle.lowered_time.specs.Pieces.{nothing}
use Rattle.lowered_time.specs.Building.{Operations, Layout, held_at, open_at, time_temps}

abbrev pub bit : Bool → ℕ
bit b = cond b 1 0

-- the items of bits and words
pub data IsTimes (layout : Layout) : ℕ → Type 0 where
  a_bit : {place : ℕ} (level number : ℕ) → layout.bit level number ≡ Some place → IsTimes layout place
  a_word : {place : ℕ} (level : ℕ) → layout.word level ≡ Some place → IsTimes layout place

-- an `if` stands among the items of its own occurrence
abbrev pub IsOwned : ℕ → Acts → Type 0
IsOwned owner Done = Unit {0}
IsOwned owner (Act number level past own rest) = IsOwned number own × IsOwned owner rest
IsOwned owner (When number test taken other rest) = (number ≡ owner) × IsOwned owner taken × IsOwned owner other × IsOwned owner rest

-- a guard that a part leaves as it is: none, or a temp of one bit before the part's own
pub data IsGuard (p : Program) (layout : Layout) (from : ℕ) : Expr → Type 0 where
  no_guard : IsGuard p layout from always
  held_guard : {temp : ℕ} → layout.lasting ≤ temp → temp < from → slice_index p.temps temp ≡ 1 → IsGuard p layout from (Temp temp)

module _ {R M : Type 0} (core : Core R M) where
  -- that of the root's word, or that of a level's
  abbrev pub IsRow : ℕ → Type 0
  IsRow row = row < suc (suc core.stages)

  -- the root has a row, and so has what is past it
  abbrev pub HasOwnRow : ℕ → Option ℕ → Type 0
  HasOwnRow number row = (is_past core number || core.is_root number) ≡ true → is_some row ≡ true

module _ {R M : Type 0} (core : Core R M) (layout : Layout) where
  -- what time changes, which the parts don't see
  pub record IsUnseen (now after : Moment) : Type 0 where
    pub items : (place : ℕ) → (IsTimes layout place → ⊥) → get_or after.items place 0 ≡ get_or now.items place 0
    pub item_count : length after.items ≡ length now.items
    pub temps : (temp : ℕ) → time_temps core ≤ temp → temp < layout.lasting → get_or after.temps temp 0 ≡ get_or now.temps temp 0
    pub temp_count : length after.temps ≡ length now.temps
    pub cells : after.cells ≡ now.cells

  -- what a part leaves as it is, whose temps begin with this one
  pub record Keeps (from : ℕ) (now after : Moment) : Type 0 where
    pub times : (temp : ℕ) → temp < time_temps core → get_or after.temps temp 0 ≡ get_or now.temps temp 0
    pub others : (temp : ℕ) → layout.lasting ≤ temp → temp < from → get_or after.temps temp 0 ≡ get_or now.temps temp 0
    pub temp_count : length after.temps ≡ length now.temps
    pub item_count : length after.items ≡ length now.items
    pub places : (place : ℕ) → IsTimes layout place → get_or after.items place 0 ≡ get_or now.items place 0

  -- where bits and words stand
  pub record IsLaidOut (p : Program) : Type 0 where
    pub bit_within : (level number place : ℕ) → layout.bit level number ≡ Some place → place < length p.items
    pub word_within : (level place : ℕ) → layout.word level ≡ Some place → place < length p.items
    pub one_bit : (level number level' number' place : ℕ) → layout.bit level number ≡ Some place → layout.bit level' number' ≡ Some place → (level ≡ level') × (number ≡ number')
    pub one_word : (level level' place : ℕ) → layout.word level ≡ Some place → layout.word level' ≡ Some place → level ≡ level'
    pub apart : (level number level' place : ℕ) → layout.bit level number ≡ Some place → layout.word level' ≡ Some place → ⊥
    pub bit_between : (level number place : ℕ) → layout.bit level number ≡ Some place → (number < suc (size core.acts)) × (0 < above_of core number) × (above_of core number < level) × (level ≤ level_of core number)
    pub has_bit : (level number : ℕ) → number < suc (size core.acts) → 0 < above_of core number → above_of core number < level → level ≤ level_of core number → is_some (layout.bit level number) ≡ true
    pub word_between : (level place : ℕ) → layout.word level ≡ Some place → (is_some core.root_level ≡ true) × (slot_level core < level) × (level ≤ core.stages)
    pub has_word : (level : ℕ) → is_some core.root_level ≡ true → slot_level core < level → level ≤ core.stages → is_some (layout.word level) ≡ true
    pub lasts : time_temps core ≤ layout.lasting

-- What is left open: when a moment of a program is one of the core's, when a row has a word, which words there are, when a state has what
-- lasts, and which pins there are. Each is given by its cases, whatever these are.
pub record Meant (R M A B C D E : Type 0) : Type 0 where
  pub agreeing : A → ((List ℕ × List ℕ) × (M × Moment))
  pub holding : B → ((ℕ × ℕ) × Moment)
  pub naming : C → ℕ
  pub keeping : D → (R × State)
  pub entering : E → List ℕ

module _ {R M A B C D E : Type 0} (meant : Meant R M A B C D E) where
  -- at a moment of an edge, before which the items were these, and with these pins
  abbrev pub Agrees : (before pins : List ℕ) → M → Moment → Type 0
  Agrees before pins m now = (a : A) × (meant.agreeing a ≡ ((before, pins), (m, now)))

  abbrev pub HasRowWord : (row word : ℕ) → Moment → Type 0
  HasRowWord row word now = (b : B) × (meant.holding b ≡ ((row, word), now))

  abbrev pub IsWordOf : ℕ → Type 0
  IsWordOf word = (c : C) × (meant.naming c ≡ word)

  abbrev pub Lasts : R → State → Type 0
  Lasts memory state = (d : D) × (meant.keeping d ≡ (memory, state))

  abbrev pub IsEntry : List ℕ → Type 0
  IsEntry pins = (e : E) × (meant.entering e ≡ pins)

-- a row has the word, or there is none
abbrev pub RowHas : {R M A B C D E : Type 0} → Meant R M A B C D E → Option ℕ → ℕ → Moment → Type 0
RowHas meant None word now = word ≡ 0
RowHas meant (Some row) word now = HasRowWord meant row word now

module _ {R M A B C D E : Type 0} (core : Core R M) (ops : Operations) (layout : Layout) (p : Program) (meant : Meant R M A B C D E) where
  -- an occurrence that runs with a row and its word: what is past the root is what the word's instruction chooses
  abbrev pub Runs : ℕ → Option ℕ → ℕ → Type 0
  Runs number row word = (number < suc (size core.acts)) × (is_past core number ≡ true → (core.decodes word ≡ true) × (core.chooses number word ≡ true)) × HasOwnRow core number row

  -- a part, whose temps begin with this one, at a moment
  pub record IsPart (from : ℕ) (widths : List ℕ) (before pins : List ℕ) (m : M) (now : Moment) : Type 0 where
    pub lasting : layout.lasting ≤ from
    pub placed : Lies p.temps from widths
    pub agrees : Agrees meant before pins m now

  -- what a part leaves, after which the moment is this one
  pub record Leaves (from : ℕ) (piece : Piece) (before pins : List ℕ) (end : M) (now : Moment) : Type 0 where
    pub agrees : Agrees meant before pins end (ran p before pins now piece.moves)
    pub keeps : Keeps core layout from now (ran p before pins now piece.moves)

  abbrev pub KeepsRows : List Move → (before pins : List ℕ) → Moment → (ℕ → Type 0) → Type 0
  KeepsRows moves before pins now IsKept = (row word : ℕ) → IsKept row → HasRowWord meant row word now → HasRowWord meant row word (ran p before pins now moves)

  -- what a part that acts leaves, after which the moment is this one: rows have their words still
  pub record Does (from : ℕ) (piece : Piece) (before pins : List ℕ) (end : M) (now : Moment) : Type 0 where
    pub leaves : Leaves from piece before pins end now
    pub rows : KeepsRows piece.moves before pins now (λ row. Unit {0})

  pub record AreLowered : Type 0 where
    pub owned : IsOwned 0 core.acts
    pub chosen : (number word : ℕ) → is_past core number ≡ false → core.chooses number word ≡ true
    pub no_word : IsWordOf meant 0
    pub unseen : (before pins : List ℕ) (m : M) (now after : Moment) → IsUnseen core layout now after → Agrees meant before pins m now → Agrees meant before pins m after
    pub row_unseen : (row word : ℕ) (now after : Moment) → IsUnseen core layout now after → HasRowWord meant row word now → HasRowWord meant row word after
    pub begins : (memory : R) (old : State) (pins : List ℕ) → IsEntry meant pins → Lasts meant memory old → Agrees meant old.items pins (core.begin pins memory) (begun p old)
    -- BEHAVIORs
    pub behaves : (number : ℕ) (row : Option ℕ) (guard : Expr) (from : ℕ) (before pins : List ℕ) (m : M) (now : Moment) (word : ℕ)
        → IsPart from (ops.behavior number row guard from).widths before pins m now → IsGuard p layout from guard → value p before pins now guard ≡ 1
        → RowHas meant row word now → Runs number row word
        → Does from (ops.behavior number row guard from) before pins (core.behave number word m) now
    pub rests : (number : ℕ) (row : Option ℕ) (guard : Expr) (from : ℕ) (before pins : List ℕ) (m : M) (now : Moment)
        → IsPart from (ops.behavior number row guard from).widths before pins m now → IsGuard p layout from guard → value p before pins now guard ≡ 0
        → Does from (ops.behavior number row guard from) before pins m now
    -- what is idle isn't the root, and its BEHAVIOR takes no steps
    pub idles : (number : ℕ) → ops.idle number ≡ true
        → (core.is_root number ≡ false) × ((row : Option ℕ) (guard : Expr) (from : ℕ) → ops.behavior number row guard from ≡ nothing from)
    -- conditions
    pub condition_is : (number test : ℕ) (row : Option ℕ) (from : ℕ) (before pins : List ℕ) (m : M) (now : Moment) (word : ℕ)
        → IsPart from (ops.condition number test row from).piece.widths before pins m now → RowHas meant row word now → Runs number row word
        → value p before pins (ran p before pins now (ops.condition number test row from).piece.moves) (ops.condition number test row from).out ≡ bit (core.holds number test word m)
    pub condition_leaves : (number test : ℕ) (row : Option ℕ) (from : ℕ) (before pins : List ℕ) (m : M) (now : Moment)
        → IsPart from (ops.condition number test row from).piece.widths before pins m now
        → Leaves from (ops.condition number test row from).piece before pins m now
        × KeepsRows (ops.condition number test row from).piece.moves before pins now (λ row. Unit {0})
        × IsGuard p layout (from + length (ops.condition number test row from).piece.widths) (ops.condition number test row from).out
    -- the root's word
    pub fetches : (from : ℕ) (before pins : List ℕ) (m : M) (now : Moment)
        → IsPart from (ops.fetch from).piece.widths before pins m now
        → (value p before pins (ran p before pins now (ops.fetch from).piece.moves) (ops.fetch from).out ≡ core.fetch m)
        × Leaves from (ops.fetch from).piece before pins m now
        × KeepsRows (ops.fetch from).piece.moves before pins now (λ row. Unit {0})
        × IsWordOf meant (core.fetch m)
    -- rows
    pub loads : (row : ℕ) (e : Expr) (from : ℕ) (before pins : List ℕ) (m : M) (now : Moment) (word : ℕ)
        → IsRow core row → IsPart from (ops.load row e from).widths before pins m now → value p before pins now e ≡ word → IsWordOf meant word
        → HasRowWord meant row word (ran p before pins now (ops.load row e from).moves)
    pub load_leaves : (row : ℕ) (e : Expr) (from : ℕ) (before pins : List ℕ) (m : M) (now : Moment)
        → IsRow core row → IsPart from (ops.load row e from).widths before pins m now
        → Leaves from (ops.load row e from) before pins m now
        × KeepsRows (ops.load row e from).moves before pins now (λ other. other ≢ row)
    pub row_is : (before pins : List ℕ) (row word : ℕ) (now : Moment) → HasRowWord meant row word now
        → (value p before pins now (ops.word row) ≡ word)
        × (value p before pins now (ops.decodes row) ≡ bit (core.decodes word))
        × ((number : ℕ) → number < suc (size core.acts) → is_past core number ≡ true → value p before pins now (ops.chooses row number) ≡ bit (core.chooses number word))
    -- stalls and flushes
    pub stalled_is : (before pins : List ℕ) (m : M) (now : Moment) (level : ℕ) → Agrees meant before pins m now → 0 < level → level ≤ core.stages → value p before pins now (ops.stalled level) ≡ bit (list_any (λ stall. nat_eq stall level) (core.stalled m))
    pub flushed_is : (before pins : List ℕ) (m : M) (now : Moment) (level : ℕ) → Agrees meant before pins m now → 0 < level → level ≤ core.stages → value p before pins now (ops.flushed level) ≡ bit (is_flushed (core.flushed m) level)
    pub stalls_within : (before pins : List ℕ) (m : M) (now : Moment) → Agrees meant before pins m now → AllByRecursion (λ stall. stall ≤ core.stages) (core.stalled m)
    -- the end
    pub closes : (from : ℕ) (before pins : List ℕ) (m : M) (now : Moment)
        → IsPart from (ops.close (λ level. Temp (held_at level)) (λ level. Temp (open_at level)) from).widths before pins m now
        → ((level : ℕ) → 0 < level → level ≤ core.stages → get_or now.temps (held_at level) 0 ≡ bit (is_held (core.stalled m) level))
        → ((level : ℕ) → 0 < level → level ≤ core.stages → get_or now.temps (open_at level) 0 ≡ bit (cond (is_held (core.stalled m) level) false (cond (is_flushed (core.flushed m) level) false true)))
        → Lasts meant (core.close m) (kept (ran p before pins now (ops.close (λ level. Temp (held_at level)) (λ level. Temp (open_at level)) from).moves))
        × Keeps core layout from now (ran p before pins now (ops.close (λ level. Temp (held_at level)) (λ level. Temp (open_at level)) from).moves)

  -- a state of the program shows what the hardware has
  pub record Shows (hard : Hardware R) (state : State) : Type 0 where
    pub lasts : Lasts meant hard.memory state
    pub bits : (level number place : ℕ) → layout.bit level number ≡ Some place → get_or state.items place 0 ≡ bit (hard.bits level number)
    pub words : (level place : ℕ) → layout.word level ≡ Some place → get_or state.items place 0 ≡ hard.words level
    pub item_count : length state.items ≡ length p.items
    pub are_words : (level : ℕ) → IsWordOf meant (hard.words level)
