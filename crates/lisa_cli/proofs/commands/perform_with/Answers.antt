use Rattle.std.proofs.Common.{List, ℕ}
use Rattle.lisa_outcomes.proofs.Endings.{replies_end}
use Rattle.lisa_cli.proofs.FileCounts.{behind_short, behind_texts}
use Rattle.lisa_cli.proofs.Watched.{same_run}
use Rattle.lisa_cli.proofs.commands.perform_with.Goals as goal

pub returns-in-Format-clause-ends : goal.returns-in-Format-clause-ends
returns-in-Format-clause-ends g c = rw c.in-Format.is (replies_end {T = Unit {0}} {W = List ℕ} _ _ _ _ _ _ _ _ (rw c.file_at-first.ensures at c.format_description.ensures))

pub returns-in-Check-clause-ends : goal.returns-in-Check-clause-ends
returns-in-Check-clause-ends g c = rw c.in-Check.is (replies_end {T = Unit {0}} {W = List ℕ} _ _ _ _ _ _ _ _ (rw c.file_at-first.ensures at c.check_description.ensures))

pub returns-in-Verilog-clause-ends : goal.returns-in-Verilog-clause-ends
returns-in-Verilog-clause-ends g c = rw c.in-Verilog.is (replies_end {T = Unit {0}} {W = List ℕ} _ _ _ _ _ _ _ _ (rw c.file_at-first.ensures at c.write_verilog.ensures))

pub returns-in-Generate-clause-ends : goal.returns-in-Generate-clause-ends
returns-in-Generate-clause-ends g c = rw c.in-Generate.is (replies_end {T = Unit {0}} {W = List ℕ} _ _ _ _ _ _ _ _ (rw c.file_at-first.ensures at c.write_program.ensures))

pub returns-in-Soak-clause-ends : goal.returns-in-Soak-clause-ends
returns-in-Soak-clause-ends g c =
    rw c.in-Soak.is (replies_end {T = Unit {0}} {W = List ℕ} _ _ _ _ _ _ _ _ (rw c.file_at-first.ensures at (rw c.file_at-second.ensures at c.soak.ensures)))

pub returns-in-Export-clause-ends : goal.returns-in-Export-clause-ends
returns-in-Export-clause-ends g c =
    rw c.in-Export.is (replies_end {T = Unit {0}} {W = List ℕ} _ _ _ _ _ _ _ _ (rw c.file_at-first.ensures at (rw c.file_at-second.ensures at c.export_memory.ensures)))

pub returns-in-Import-clause-ends : goal.returns-in-Import-clause-ends
returns-in-Import-clause-ends g c =
    rw c.in-Import.is (replies_end {T = Unit {0}} {W = List ℕ} _ _ _ _ _ _ _ _ (rw c.file_at-first.ensures at (rw c.file_at-second.ensures at c.import_memory.ensures)))

pub returns-in-Replay-clause-ends : goal.returns-in-Replay-clause-ends
returns-in-Replay-clause-ends g c = rw c.in-Replay.is (replies_end {T = Unit {0}} {W = List ℕ} _ _ _ _ _ _ _ _ (rw c.file_at-first.ensures at c.replay_waves.ensures))

pub returns-in-Occupancy-clause-ends : goal.returns-in-Occupancy-clause-ends
returns-in-Occupancy-clause-ends g c = rw c.in-Occupancy.is (replies_end {T = Unit {0}} {W = List ℕ} _ _ _ _ _ _ _ _ (same_run c.in-Occupancy.edges _ _ _ _ _ _ _ c.run_bytes.ensures c.count_stages.ensures))

pub returns-in-Simulate-clause-ends : goal.returns-in-Simulate-clause-ends
returns-in-Simulate-clause-ends g c = rw c.in-Simulate.is (rw c.run_bytes-in-Simulate.ensures at c.do_with_description.ensures.ends)

pub returns-in-Clock-clause-ends : goal.returns-in-Clock-clause-ends
returns-in-Clock-clause-ends g c = rw c.in-Clock.is (rw c.run_bytes-in-Clock.ensures at c.do_with_module.ensures.ends)

pub returns-in-Assemble-clause-ends : goal.returns-in-Assemble-clause-ends
returns-in-Assemble-clause-ends g c =
    rw c.in-Assemble.is (replies_end {T = Unit {0}} {W = List ℕ} _ _ _ _ _ _ _ _ (rw c.file_at-first.ensures at (rw c.file_at-second.ensures at c.assemble_source.ensures)))

pub returns-in-Disassemble-clause-ends : goal.returns-in-Disassemble-clause-ends
returns-in-Disassemble-clause-ends g c =
    rw c.in-Disassemble.is (replies_end {T = Unit {0}} {W = List ℕ} _ _ _ _ _ _ _ _ (rw c.file_at-first.ensures at (rw c.file_at-second.ensures at c.list_image.ensures)))

pub link_objects-requires-clause-short : goal.link_objects-requires-clause-short
link_objects-requires-clause-short g c = rw c.behind.ensures (behind_short c.args.all.now c.requires.short)

pub returns-in-Link-clause-ends : goal.returns-in-Link-clause-ends
returns-in-Link-clause-ends g c =
    rw c.in-Link.is (replies_end {T = Unit {0}} {W = List ℕ} _ _ _ _ _ _ _ _ (rw (behind_texts c.args.all.now) at (rw c.behind.ensures at (rw c.file_at-first.ensures at c.link_objects.ensures))))
