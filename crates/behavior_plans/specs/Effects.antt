-- What statements do to what a store holds, and how often they may write a cell.
use Rattle.std.specs.Prelude.{ℕ, ◌+◌, ◌*◌, Option, None, Some, if◌then◌else◌}
use Rattle.lisa_words.specs.declared.words.Kind.{Kind}
use Rattle.lisa_tree.specs.declared.tokens.Shape.{Shape}
use Rattle.shape_checks.specs.Bounds.{turns}
use Rattle.typed_values.specs.Words.{TypedWord, as_shape, zero_of, is_zero}
use Rattle.typed_values.specs.Effects.{turned, counter_value}
use Rattle.behavior_plans.specs.Holdings.{Holdings, put_word, with_registers, with_slots, with_slot, with_cell, with_out, with_stall, with_flush}
use Rattle.behavior_plans.specs.Terms.{TermTree}
use Rattle.behavior_plans.specs.Spots as spots
use Rattle.behavior_plans.specs.Spots.{SpotTree}
use Rattle.behavior_plans.specs.Acts.{LoopTree, ActTree, Empty, Block, Local, Assign, If, IfElse, For, Stall, Flush, ActTrees, End, Then}
use Rattle.behavior_plans.specs.Values.{wrapped, term_value, term_whole}

-- a place gets a value, in its own type
abbrev pub spot_put : SpotTree → (Kind → TypedWord) → Holdings → Holdings
spot_put (spots.Register place) given h = with_registers (put_word h.registers place given) h
spot_put (spots.Local slot) given h = with_slots (put_word h.slots slot given) h
spot_put (spots.Element shape array last index) given h = with_cell array (wrapped last (term_value h index).bits) (as_shape shape (given shape.kind)).bits h
spot_put (spots.Output shape place) given h = with_out place (as_shape shape (given shape.kind)).bits h

-- what a local holds first: 0, or what its declaration assigns
abbrev pub first_word : Holdings → Shape → Option TermTree → TypedWord
first_word h shape None = zero_of shape
first_word h shape (Some e) = as_shape shape (term_whole h e shape.kind)

-- one turn of a loop, by the effect of its body
abbrev pub loop_turn : LoopTree → (Holdings → Holdings) → ℕ → Holdings → Holdings
loop_turn loop body bits h = body (with_slot loop.slot (counter_value loop.shape bits) h)

abbrev mutual
  pub act_effect : ActTree → Holdings → Holdings
  act_effect Empty h = h
  act_effect (Block all) h = acts_effect all h
  act_effect (Local slot shape first) h = with_slot slot (first_word h shape first) h
  act_effect (Assign spot e) h = spot_put spot (term_whole h e) h
  act_effect (If test chosen) h = if is_zero (term_value h test) then h else act_effect chosen h
  act_effect (IfElse test chosen other) h = if is_zero (term_value h test) then act_effect other h else act_effect chosen h
  act_effect (For loop body) h = turned (loop_turn loop (act_effect body)) loop.bounds 0 (turns loop.bounds) h
  act_effect (Stall level) h = with_stall level h
  act_effect (Flush level) h = with_flush level h

  -- one after the other
  pub acts_effect : ActTrees → Holdings → Holdings
  acts_effect End h = h
  acts_effect (Then a rest) h = acts_effect rest (act_effect a h)

-- how many cells are written at most
abbrev pub spot_writes : SpotTree → ℕ
spot_writes (spots.Register place) = 0
spot_writes (spots.Local slot) = 0
spot_writes (spots.Element shape array last index) = 1
spot_writes (spots.Output shape place) = 0

abbrev mutual
  pub act_writes : ActTree → ℕ
  act_writes Empty = 0
  act_writes (Block all) = acts_writes all
  act_writes (Local slot shape first) = 0
  act_writes (Assign spot e) = spot_writes spot
  act_writes (If test chosen) = act_writes chosen
  act_writes (IfElse test chosen other) = act_writes chosen + act_writes other
  act_writes (For loop body) = turns loop.bounds * act_writes body
  act_writes (Stall level) = 0
  act_writes (Flush level) = 0

  pub acts_writes : ActTrees → ℕ
  acts_writes End = 0
  acts_writes (Then a rest) = act_writes a + acts_writes rest
