-- The steps of an edge: which parts there are for what a core has, and in which order. On the way to the program: nothing here needs to be trusted.
use Rattle.std.specs.Prelude.{ℕ, zero, suc, ◌+◌, ◌++◌, ◌&&◌, Bool, true, false, List, [], ◌∷◌, Option, None, Some, cond, nat_eq}
use Rattle.std.specs.Option.{option_map}
use Rattle.step_program.specs.Programs.{Expr, Const, Before, Temp, Choose, ToItem, ToTemp, Move}
use Rattle.pipeline_time.specs.Acts.{Acts, Done, Act, When, size}
use Rattle.pipeline_time.specs.Cores.{Core, above_of, slot_level}
use Rattle.step_pieces.specs.Pieces.{Builder, always}
use Rattle.lowered_time.specs.Pieces.{Maker, nothing, steps, chain, bind, given, holding, both, either, none}

-- What the parts of a description become. A row is where a word stands with what there is to know of it; without one the word is 0.
pub record Operations : Type 0 where
  -- the BEHAVIOR of an occurrence, with the word of a row, where the guard isn't 0
  pub behavior : ℕ → Option ℕ → Expr → Builder
  -- whether an occurrence isn't the root, and has no BEHAVIOR that does anything
  pub idle : ℕ → Bool
  -- the condition of an `if` of an occurrence
  pub condition : ℕ → ℕ → Option ℕ → Maker
  -- the word that the root takes
  pub fetch : Maker
  -- a row gets a word
  pub load : ℕ → Expr → Builder
  pub word : ℕ → Expr
  pub decodes : ℕ → Expr
  -- whether the instruction of a row's word chooses an occurrence past the root
  pub chooses : ℕ → ℕ → Expr
  -- whether a stall, a flush named the level so far
  pub stalled : ℕ → Expr
  pub flushed : ℕ → Expr
  -- the boundaries as the edge ends, by which levels are held, and which neither held nor flushed
  pub close : (held free : ℕ → Expr) → Builder

-- Where things stand.
pub record Layout : Type 0 where
  -- items: the bit of a level and an occurrence, and the word of a level
  pub bit : ℕ → ℕ → Option ℕ
  pub word : ℕ → Option ℕ
  -- the width of words
  pub width : ℕ
  -- how many temps last through an edge: those of time come first, then those of what the parts become
  pub lasting : ℕ

-- ---- the temps of time, where there are so many stages

-- whether the root took a word that decodes, and the word
abbrev pub taken_at : ℕ
taken_at = 0

abbrev pub slot_at : ℕ
slot_at = 1

abbrev pub held_at : ℕ → ℕ
held_at level = suc (suc (level + level))

-- neither held nor flushed
abbrev pub open_at : ℕ → ℕ
open_at level = suc (held_at level)

abbrev pub recorded_at : ℕ → ℕ → ℕ
recorded_at stages number = suc (suc (held_at stages + number))

module _ {R M : Type 0} (core : Core R M) where
  -- how many there are
  abbrev pub time_temps : ℕ
  time_temps = recorded_at core.stages (suc (size core.acts))

  module _ (ops : Operations) (layout : Layout) where
    -- the row of the root's word, and that of the word of a stage
    abbrev pub root_row : ℕ
    root_row = 0

    abbrev pub row_of : ℕ → ℕ
    row_of level = suc level

    -- the row with which an occurrence runs
    abbrev pub own_row : ℕ → Bool → Option ℕ → Option ℕ
    own_row number past row = cond (core.is_root number) (Some root_row) (cond past row None)

    -- ---- what runs under a guard

    -- whether the word's instruction chooses it; what isn't past the root is chosen always
    abbrev pub chosen : ℕ → Bool → Option ℕ → Expr → Maker
    chosen number false row guard from = record { piece = nothing from; out = guard }
    chosen number true None guard from = record { piece = nothing from; out = guard }
    chosen number true (Some row) guard from = holding 1 (both guard (ops.chooses row number)) from

    -- the slot gets the root's word, where it decodes
    abbrev pub slotted : Expr → Builder
    slotted guard = bind (holding 1 (both guard (ops.decodes root_row))) (λ decoded. steps (given decoded (ToTemp slot_at) (ops.word root_row) ∷ given decoded (ToTemp taken_at) always ∷ []))

    -- the root takes its word
    abbrev pub rooted : Bool → Expr → Builder
    rooted false guard = nothing
    rooted true guard = bind ops.fetch (λ word. chain (ops.load root_row word) (slotted guard))

    -- an item of a later level is recorded
    abbrev pub recorded : ℕ → Expr → Builder
    recorded number guard = steps (given guard (ToTemp (recorded_at core.stages number)) always ∷ [])

    -- an occurrence: its word, its BEHAVIOR, and what its items become
    abbrev pub occurrence : ℕ → Bool → Option ℕ → Expr → Builder → Builder
    occurrence number past row guard items = chain (rooted (core.is_root number) guard) (chain (ops.behavior number (own_row number past row) guard) items)

    -- an occurrence with nothing to do and no items
    abbrev pub is_idle : ℕ → Acts → Bool
    is_idle number Done = ops.idle number
    is_idle number (Act _ _ _ _ _) = false
    is_idle number (When _ _ _ _ _) = false

    -- the items under an activator that runs at this level, where the guard isn't 0; an idle one that would run there takes no steps
    abbrev pub active : ℕ → Option ℕ → Expr → Acts → Builder
    active here row guard Done = nothing
    active here row guard (Act number level past own rest) =
        chain
        (cond (nat_eq level here && is_idle number own) nothing
        (bind (chosen number past row guard) (λ chosen.
        cond (nat_eq level here) (occurrence number past row chosen (active here (own_row number past row) chosen own)) (recorded number chosen))))
        (active here row guard rest)
    active here row guard (When number test taken other rest) =
        chain
        (bind (ops.condition number test row) (λ holds.
        bind (holding 1 (both guard holds)) (λ taking.
        bind (holding 1 (both guard (none holds))) (λ leaving.
        chain (active here row taking taken) (active here row leaving other)))))
        (active here row guard rest)

    -- ---- what is due

    -- whether an occurrence waits for the turn of its level, under an activator of another one; none where it never does
    abbrev pub waits : ℕ → ℕ → ℕ → Option Expr
    waits level zero number = cond (nat_eq level 1) (Some (Temp (recorded_at core.stages number))) None
    waits level (suc above) number = option_map (λ place. Before place) (layout.bit level number)

    abbrev pub due : ℕ → ℕ → Bool → Acts → Option Expr → Builder
    due level number past own None = nothing
    due level number past own (Some waiting) =
        bind (holding 1 (both (Temp (open_at level)) waiting)) (λ due.
        occurrence number past (Some (row_of level)) due (active level (own_row number past (Some (row_of level))) due own))

    -- what of the items, and of what is below them, is due at a level
    abbrev pub turn_of : ℕ → ℕ → Acts → Builder
    turn_of level above Done = nothing
    turn_of level above (Act number own_level past own rest) =
        chain (cond (nat_eq own_level level) (due level number past own (waits level above number)) (turn_of level own_level own)) (turn_of level above rest)
    turn_of level above (When number test taken other rest) = chain (turn_of level above taken) (chain (turn_of level above other) (turn_of level above rest))

    -- ---- an edge

    -- the word that is moved on from a level
    abbrev pub place_word : Option ℕ → Expr
    place_word None = Const layout.width 0
    place_word (Some place) = Before place

    abbrev pub stage_word : ℕ → Expr
    stage_word level = cond (nat_eq level (slot_level core)) (Temp slot_at) (place_word (layout.word level))

    abbrev pub held_after : ℕ → Expr
    held_after level = cond (nat_eq level core.stages) (Const 1 0) (Temp (held_at (suc level)))

    -- whether a level is held, and whether it is open
    abbrev pub controls : ℕ → Builder
    controls level = steps (
        given always (ToTemp (held_at level)) (either (ops.stalled level) (held_after level))
        ∷ given always (ToTemp (open_at level)) (both (none (Temp (held_at level))) (none (ops.flushed level)))
        ∷ []
        )

    abbrev pub turn : ℕ → Builder
    turn level = chain (controls level) (chain (ops.load (row_of level) (stage_word level)) (turn_of level 0 (Act 0 0 false core.acts Done)))

    abbrev pub turns : ℕ → Builder
    turns zero = nothing
    turns (suc level) = chain (turn (suc level)) (turns level)

    -- `main`
    abbrev pub main_run : Builder
    main_run = occurrence 0 false None always (active 0 (own_row 0 false None) always core.acts)

    -- ---- the ends of bits and words

    abbrev pub stays : ℕ → Expr
    stays level = both (Temp (held_at level)) (none (ops.flushed level))

    -- a bit: what stays, or what stood or was recorded one level before
    abbrev pub stood : Option ℕ → Expr
    stood None = Const 1 0
    stood (Some place) = Before place

    abbrev pub came : ℕ → ℕ → Expr
    came level number = cond (nat_eq level (above_of core number)) (Temp (recorded_at core.stages number)) (stood (layout.bit level number))

    abbrev pub next_bit : ℕ → ℕ → ℕ → Expr
    next_bit level number place = either (both (Before place) (stays (suc level))) (both (Temp (open_at level)) (came level number))

    abbrev pub next_word : ℕ → ℕ → Expr
    next_word level place =
        Choose (Temp (held_at (suc level)))
        (Choose (ops.flushed (suc level)) (Const layout.width 0) (Before place))
        (Choose (Temp (open_at level)) (stage_word level) (Const layout.width 0))

    abbrev pub set_place : Option ℕ → (ℕ → Expr) → List Move
    set_place None next = []
    set_place (Some place) next = given always (ToItem place) (next place) ∷ []

    -- the bits of a level, of the first occurrences
    abbrev pub bit_ends : ℕ → ℕ → List Move
    bit_ends level zero = []
    bit_ends level (suc number) = bit_ends level number ++ set_place (layout.bit (suc level) number) (next_bit level number)

    -- bits and words of the first levels
    abbrev pub ends : ℕ → List Move
    ends zero = []
    ends (suc level) = ends level ++ (bit_ends level (suc (size core.acts)) ++ set_place (layout.word (suc level)) (next_word level))

    abbrev pub edge : Builder
    edge = chain main_run (chain (turns core.stages) (chain (steps (ends core.stages)) (ops.close (λ level. Temp (held_at level)) (λ level. Temp (open_at level)))))
