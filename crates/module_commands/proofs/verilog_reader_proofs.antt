pub use Rattle.verilog_reader.proofs.TextLaws
