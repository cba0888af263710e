pub use Rattle.description_commands.proofs.Stopped
