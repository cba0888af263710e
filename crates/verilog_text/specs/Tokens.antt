-- Tokens without their places.
use Rattle.std.specs.Prelude.{ℕ, List, map}
use Rattle.verilog_text.specs.declared.tokens.VKeyword.{VKeyword}
use Rattle.verilog_text.specs.declared.tokens.VSign.{VSign}
use Rattle.verilog_text.specs.declared.tokens.VTokenPart.{VTokenPart}
use Rattle.verilog_text.specs.declared.tokens.VTokenPart.TheVariants as parts
use Rattle.verilog_text.specs.declared.tokens.VToken.{VToken}

pub data VTok : Type 0 where
  Named : List ℕ → VTok
  Reserved : VKeyword → VTok
  -- a number with its size
  Sized : (width value : ℕ) → VTok
  -- decimal digits alone, and how many there are
  Plain : (value digits : ℕ) → VTok
  Mark : VSign → VTok

abbrev pub VToks : Type 0
VToks = List VTok

abbrev pub vtok_of_part : VTokenPart → VTok
vtok_of_part (parts.Named name) = Named name
vtok_of_part (parts.Reserved keyword) = Reserved keyword
vtok_of_part (parts.Sized word) = Sized word.width word.bits
vtok_of_part (parts.Plain value digits) = Plain value digits
vtok_of_part (parts.Sign sign) = Mark sign

abbrev pub vtok_of : VToken → VTok
vtok_of token = vtok_of_part token.part

abbrev pub vtoks : List VToken → VToks
vtoks tokens = map vtok_of tokens
