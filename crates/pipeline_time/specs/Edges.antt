-- One edge: `main`, then the stages from the last to the first, each running what is due in it.
use Rattle.std.specs.Prelude.{ℕ, zero, suc, Bool, not, ◌&&◌, List, [], Option, None, is_some, nat_le, ◌==◌, if◌then◌else◌}
use Rattle.std.specs.Option.{option_map, option_or, unwrap_or}
use Rattle.std.specs.List.{list_any, find, filter, fold}
use Rattle.pipeline_time.specs.Acts.{Node}
use Rattle.pipeline_time.specs.Cores.{Core, main_node, all_nodes}
use Rattle.pipeline_time.specs.Running.{Running, run_occurrence}

-- a stage is held where a stall names it or a later one
abbrev pub is_held : List ℕ → ℕ → Bool
is_held stalled level = list_any (λ stall. nat_le level stall) stalled

abbrev pub is_flushed : List ℕ → ℕ → Bool
is_flushed flushed level = list_any (λ flush. flush == level) flushed

-- the word with which an occurrence stands in a level, where it does
abbrev pub Standing : Type 0
Standing = ℕ → ℕ → Option ℕ

-- the newest word of an occurrence in such a list
abbrev pub word_in : ℕ → List (ℕ × ℕ) → Option ℕ
word_in number pairs = option_map (λ pair. pair.1) (find (λ pair. pair.0 == number) pairs)

module _ {R M : Type 0} (core : Core R M) where
  -- neither held nor flushed so far
  abbrev pub is_free : Running M → ℕ → Bool
  is_free now level = not (is_held (core.stalled now.moment) level) && not (is_flushed (core.flushed now.moment) level)

  -- what waits for the turn of a level, by occurrence, with its word: what stands there, and in the first stage what was activated from no
  -- stage in this edge
  abbrev pub waiting : Standing → ℕ → Running M → ℕ → Option ℕ
  waiting stands level now number = option_or (stands level number) (if level == 1 then word_in number now.first else None)

  -- due is what waits in its own level
  abbrev pub is_due : (ℕ → Option ℕ) → ℕ → Node → Bool
  is_due words level node = node.level == level && is_some (words node.number)

  abbrev pub run_due : (ℕ → Option ℕ) → Running M → Node → Running M
  run_due words now node = run_occurrence core (unwrap_or (words node.number) 0) node now

  -- the turn of a level: what is due there, in order of numbers, unless the level is held or flushed
  abbrev pub turn : Standing → ℕ → Running M → Running M
  turn stands level now =
      let words = waiting stands level now in
      if is_free now level then fold (run_due words) now (filter (is_due words level) (all_nodes core)) else now

  -- the turns of the levels from this one down to the first
  abbrev pub turns : Standing → ℕ → Running M → Running M
  turns stands zero now = now
  turns stands (suc level) now = turns stands level (turn stands (suc level) now)

  abbrev pub start : List ℕ → R → Running M
  start pins memory = record { moment = core.begin pins memory; made = []; first = []; slot = None; ran = [] }

  -- the end of an edge with these pins, before which this stood
  abbrev pub edge : Standing → List ℕ → R → Running M
  edge stands pins memory = turns stands core.stages (run_occurrence core 0 (main_node core) (start pins memory))
