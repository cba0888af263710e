use Rattle.command_promises.proofs.Refused.{formats_unread, checks_firsts, runs_firsts}
use Rattle.command_promises.proofs.RefusedPrograms.{modules_firsts, objects_firsts, links_firsts, listings_firsts, programs_firsts, soaks_firsts}
use Rattle.command_promises.proofs.RefusedTools.{exports_firsts, imports_firsts, occupancies_firsts}
use Rattle.command_promises.proofs.laws.refusals_are_first_faults.Goals as goal

pub returns-clause-formats : goal.returns-clause-formats
returns-clause-formats c = formats_unread

pub returns-clause-checks : goal.returns-clause-checks
returns-clause-checks c = checks_firsts

pub returns-clause-modules : goal.returns-clause-modules
returns-clause-modules c = modules_firsts

pub returns-clause-objects : goal.returns-clause-objects
returns-clause-objects c = objects_firsts

pub returns-clause-images : goal.returns-clause-images
returns-clause-images c = links_firsts

pub returns-clause-listings : goal.returns-clause-listings
returns-clause-listings c = listings_firsts

pub returns-clause-programs : goal.returns-clause-programs
returns-clause-programs c = programs_firsts

pub returns-clause-soaks : goal.returns-clause-soaks
returns-clause-soaks c = soaks_firsts

pub returns-clause-runs : goal.returns-clause-runs
returns-clause-runs c = runs_firsts

pub returns-clause-exports : goal.returns-clause-exports
returns-clause-exports c = exports_firsts

pub returns-clause-imports : goal.returns-clause-imports
returns-clause-imports c = imports_firsts

pub returns-clause-occupancies : goal.returns-clause-occupancies
returns-clause-occupancies c = occupancies_firsts
