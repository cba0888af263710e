use Rattle.std.proofs.Common.{refl}
use Rattle.lisa_outcomes.proofs.Told.{some_is, none_is_no_some}
use Rattle.command_words.specs.Asked.{request_of}
use Rattle.lisa_cli.proofs.FileCounts.{few_files}
use Rattle.lisa_cli.proofs.Ran.{ran_answer, sent_ran, usage_answer}
use Rattle.lisa_cli.proofs.top.lisa.Goals as goal

pub returns-in-None : goal.returns-in-None
returns-in-None g c = usage_answer _ _ _ _ (λ q a. none_is_no_some _ (c.in-None.ensures.only q a)) refl refl refl refl refl refl c.tell.ensures

pub returns-in-Some : goal.returns-in-Some
returns-in-Some g c =
    ran_answer _ _ (request_of c.in-Some.command) _ _
    (sent_ran {T = Unit {0}} _ _ _ (request_of c.in-Some.command) _ _ _ _ _ c.in-Some.ensures.found (λ q a. some_is (c.in-Some.ensures.only q a)) c.perform-end.ensures.ends c.sent_on.ensures
    (rw c.status_of.ensures at c.tell-in-Some.ensures) c.perform-end.ensures.input c.perform-end.ensures.held c.perform-end.ensures.files c.perform-end.ensures.later)

pub perform-end-requires : goal.perform-end-requires
perform-end-requires g c = record { few = few_files (request_of c.in-Some.command) c.in-Some.ensures.found.allowed }
