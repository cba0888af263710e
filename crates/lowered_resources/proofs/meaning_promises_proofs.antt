pub use Rattle.meaning_promises.proofs.Children
pub use Rattle.meaning_promises.proofs.Fitted
pub use Rattle.meaning_promises.proofs.Kept
pub use Rattle.meaning_promises.proofs.Meant
pub use Rattle.meaning_promises.proofs.Occurring
pub use Rattle.meaning_promises.proofs.Reading
pub use Rattle.meaning_promises.proofs.RootWords
pub use Rattle.meaning_promises.proofs.Typed
