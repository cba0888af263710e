use Rattle.std.proofs.Common.{◌≡◌, IfOk, subst}
use Rattle.sha2.specs.Sha256.{sha256}
use Rattle.lisa_engine.specs.Machines.{Machine}
use Rattle.generator_commands.specs.Reports.{final_text}
use Rattle.generator_commands.proofs.digests.made_digest.Goals as goal

pub returns-in-Ok : goal.returns-in-Ok
returns-in-Ok g c = λ machine is.
    subst (λ (m : Machine). IfOk c.state_digest.result (λ digest. digest ≡ sha256 (final_text m c.args.edges))) (rw c.in-Ok.is at is) c.state_digest.ensures
