-- What a store holds, as plain words, and how its parts get other ones.
use Rattle.std.specs.Prelude.{ℕ, List, Bool, true, false, Option, None, Some, length, replicate, slice_index_or, slice_set}
use Rattle.lisa_words.specs.declared.words.Kind.{Kind}
use Rattle.lisa_engine.specs.Touches.{set_cell}
use Rattle.typed_values.specs.Words.{TypedWord, truth}
use Rattle.typed_values.specs.Effects.{like}

pub record Holdings : Type 0 where
  pub registers : List TypedWord
  -- the registers as the edge began
  pub kept : List TypedWord
  pub pins : List TypedWord
  -- what locals hold
  pub slots : List TypedWord
  -- of each array
  pub cells : List (List ℕ)
  -- the instruction's word has a form
  pub decoded : Bool
  -- of each field of each boundary: its bits as the edge began, and those that it got in this edge
  pub fields : List ℕ
  pub outs : List (Option ℕ)
  -- by level: the stage is held, what stands in it is dropped
  pub stalled : List Bool
  pub flushed : List Bool

-- what a store holds as it is made, with so many slots and levels
abbrev pub first_holdings : List TypedWord → List TypedWord → List (List ℕ) → ℕ → List ℕ → ℕ → Holdings
first_holdings registers pins cells slots fields levels = record {
  registers = registers;
  kept = replicate (length registers) (truth false);
  pins = pins;
  slots = replicate slots (truth false);
  cells = cells;
  decoded = false;
  fields = fields;
  outs = replicate (length fields) None;
  stalled = replicate levels false;
  flushed = replicate levels false;
}

-- a word by its place; where there is none it is 0
abbrev pub word_at : List TypedWord → ℕ → TypedWord
word_at words place = slice_index_or words place (truth false)

-- the words with another value at a place, in the type of the one before
abbrev pub put_word : List TypedWord → ℕ → (Kind → TypedWord) → List TypedWord
put_word words place given = slice_set words place (like (word_at words place) given)

abbrev pub with_registers : List TypedWord → Holdings → Holdings
with_registers words h = record { registers = words; kept = h.kept; pins = h.pins; slots = h.slots; cells = h.cells; decoded = h.decoded; fields = h.fields; outs = h.outs; stalled = h.stalled; flushed = h.flushed }

abbrev pub with_slots : List TypedWord → Holdings → Holdings
with_slots words h = record { registers = h.registers; kept = h.kept; pins = h.pins; slots = words; cells = h.cells; decoded = h.decoded; fields = h.fields; outs = h.outs; stalled = h.stalled; flushed = h.flushed }

abbrev pub with_cell : ℕ → ℕ → ℕ → Holdings → Holdings
with_cell array index bits h = record { registers = h.registers; kept = h.kept; pins = h.pins; slots = h.slots; cells = set_cell h.cells array index bits; decoded = h.decoded; fields = h.fields; outs = h.outs; stalled = h.stalled; flushed = h.flushed }

abbrev pub with_out : ℕ → ℕ → Holdings → Holdings
with_out place bits h = record { registers = h.registers; kept = h.kept; pins = h.pins; slots = h.slots; cells = h.cells; decoded = h.decoded; fields = h.fields; outs = slice_set h.outs place (Some bits); stalled = h.stalled; flushed = h.flushed }

abbrev pub with_stall : ℕ → Holdings → Holdings
with_stall level h = record { registers = h.registers; kept = h.kept; pins = h.pins; slots = h.slots; cells = h.cells; decoded = h.decoded; fields = h.fields; outs = h.outs; stalled = slice_set h.stalled level true; flushed = h.flushed }

abbrev pub with_flush : ℕ → Holdings → Holdings
with_flush level h = record { registers = h.registers; kept = h.kept; pins = h.pins; slots = h.slots; cells = h.cells; decoded = h.decoded; fields = h.fields; outs = h.outs; stalled = h.stalled; flushed = slice_set h.flushed level true }

-- as an edge begins: the registers are kept, no field has got bits, and no stage is held or dropped
abbrev pub begun : Holdings → Holdings
begun h = record {
  registers = h.registers;
  kept = h.registers;
  pins = h.pins;
  slots = h.slots;
  cells = h.cells;
  decoded = h.decoded;
  fields = h.fields;
  outs = replicate (length h.outs) None;
  stalled = replicate (length h.stalled) false;
  flushed = replicate (length h.flushed) false;
}

-- a slot with another word, of whatever type
abbrev pub with_slot : ℕ → TypedWord → Holdings → Holdings
with_slot slot word h = with_slots (slice_set h.slots slot word) h
