pub use Rattle.module_commands.proofs.Stopped
