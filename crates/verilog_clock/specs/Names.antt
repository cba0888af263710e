-- Names in order, as a set keeps them.
use Rattle.std.specs.Prelude.{ℕ, ◌≡◌, List, ◌++◌}
use Rattle.name_tables.specs.Keys.{insert_all}
use Rattle.verilog_clock.specs.declared.names.Names.{Names}

-- names with their widths were put behind those that were there
pub record Declares (old new : Names) (names : List (List ℕ)) (widths : List ℕ) : Type 0 where
  pub keys : new.set.keys.items ≡ insert_all old.set.keys.items names
  pub wide : new.widths.items ≡ old.widths.items ++ widths
