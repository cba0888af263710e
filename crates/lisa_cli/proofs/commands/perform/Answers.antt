use Rattle.std.proofs.Common.{List, ℕ}
use Rattle.lisa_io.proofs.Known.{appends_none}
use Rattle.lisa_outcomes.specs.Outcomes.{Given}
use Rattle.lisa_outcomes.specs.FileViews.{all_bytes}
use Rattle.lisa_outcomes.proofs.Endings.{ends_within, wanting_ends}
use Rattle.lisa_outcomes.proofs.Files.{after_files, no_files}
use Rattle.command_words.specs.Asked.{request_of}
use Rattle.lisa_cli.specs.Gives.{GivesOver}
use Rattle.lisa_cli.specs.Worlds.{input_failed, file_failed}
use Rattle.lisa_cli.proofs.commands.perform.Goals as goal

pub returns-in-Err-clause-ends : goal.returns-in-Err-clause-ends
returns-in-Err-clause-ends g c = wanting_ends {T = Unit {0}} _ _ _ (g.O.Sink.written c.args.out.now) (g.O.Sink.faults c.args.out.now)

pub returns-in-Ok-load_files-clause-ends : goal.returns-in-Ok-load_files-clause-ends
returns-in-Ok-load_files-clause-ends g c =
    after_files {T = Unit {0}} {W = Given} _ (λ given. given.files) _ _ _ (all_bytes c.in-Ok-load_files.all) (λ given bytes. GivesOver (request_of c.args.command.now) bytes given.input) _ _ _ _ _
    (λ given told. (rw c.in-Ok.ensures at (rw c.deref.ensures.value at c.in-Ok-load_files.ensures.loads.bytes)) given.files told.files)
    (λ b. input_failed b.0 (λ files held. (all_bytes c.in-Ok-load_files.all, (rw c.in-Ok.ensures at (rw c.deref.ensures.value at c.in-Ok-load_files.ensures.loads.bytes)) files held, b.1)))
    (ends_within {W = List ℕ} {V = Given} _ _ _ _ _ (λ given. given.input) _ _ _ _ _ (λ given told. told.lines) (λ b. b) (rw c.deref-in-Ok-load_files.ensures.value at c.perform_with.ensures.ends))

pub returns-clause-ends : goal.returns-clause-ends
returns-clause-ends g c =
    no_files {T = Unit {0}} {W = Given} all_bytes _ _ (λ given. given.files) _ _ (λ given bytes. GivesOver (request_of c.args.command.now) bytes given.input) (g.O.Sink.written c.args.out.now) (g.O.Sink.faults c.args.out.now) _ _ _
    (λ given told. told.files) (rw c.in-Ok.ensures at (rw c.deref.ensures.value at c.in-Err-load_files.ensures.loads)) (λ failed. file_failed failed (appends_none (g.O.Sink.written c.args.out.now)))
