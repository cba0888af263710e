-- The trace of a dump, and the dump of a run.
use Rattle.std.specs.Prelude.{ℕ, List, [], ◌∷◌, ◌++◌, map, slice_index_or}
use Rattle.std.proofs.Common.{zero, suc}
use Rattle.std.specs.List.{flat_map, enumerate_from}
use Rattle.lisa_engine.specs.Text.{edge_line, value_text}
use Rattle.lisa_engine.specs.declared.parts.Item.{Item}
use Rattle.vcd_trace.specs.Written.{Changed, Dump}
use Rattle.vcd_trace.specs.Meaning.{changed, changes_between}

abbrev pub name_at : List Item → ℕ → List ℕ
name_at items place = slice_index_or (map (λ item. item.name) items) place []

-- the name of an item, and its value
abbrev pub change_line : List Item → ℕ × ℕ → List ℕ
change_line items (place, value) = name_at items place ++ value_text value

abbrev pub time_text : List Item → Changed → List ℕ
time_text items t = edge_line t.time ++ flat_map (change_line items) t.changes

-- for each time its line, and a line for each item that changed
abbrev pub dump_trace : Dump → List ℕ
dump_trace dump = flat_map (time_text dump.items) dump.times

-- the times of the edges 1 to n, where `values k` are the items' values after k edges
abbrev pub edge_times : (ℕ → List ℕ) → ℕ → List Changed
edge_times values zero = []
edge_times values (suc n) = edge_times values n ++ changed (suc n) (changes_between (values n) (values (suc n))) ∷ []

-- all values after no edge, and then what each of n edges changed
abbrev pub run_dump : List Item → (ℕ → List ℕ) → ℕ → Dump
run_dump items values n = record { items = items; times = changed 0 (enumerate_from 0 (values 0)) ∷ edge_times values n }
