-- The tokens that the printer's pieces stand for.
use Rattle.verilog_text.specs.declared.pieces.Piece.{Piece}
use Rattle.verilog_text.specs.declared.pieces.Piece.TheVariants as pieces
use Rattle.verilog_text.specs.Tokens.{VTok, Named, Reserved, Sized, Mark}
use Rattle.verilog_text.specs.Printing.{plain}

abbrev pub piece_tok : Piece → VTok
piece_tok (pieces.Named name) = Named name.now
piece_tok (pieces.Reserved keyword) = Reserved keyword
piece_tok (pieces.Sized word) = Sized word.now.width word.now.bits
piece_tok (pieces.Plain value) = plain value
piece_tok (pieces.Sign sign) = Mark sign
