-- One line of a schedule: an edge, and the pins that get a value from that edge on.
use Rattle.std.specs.Prelude.{ℕ, List}
use Rattle.lisa_engine.specs.declared.parts.Setting.{Setting}

pub record Line : Type 0 where
  pub edge : ℕ
  pub settings : List Setting
