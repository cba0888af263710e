-- A record of an Intel HEX file.
use Rattle.std.specs.Prelude.{ℕ, List}

pub record HexRecord : Type 0 where
  -- of 16 bits
  pub address : ℕ
  pub kind : ℕ
  pub content : List ℕ
  -- its last byte, and what that should be
  pub kept : ℕ
  pub expected : ℕ
