use Rattle.std.proofs.Common.{◌≡◌, ℕ, List, ◌<◌, ◌≤◌, Option, None, Some, true, false, refl}
use Rattle.std.specs.Prelude.{is_some}
use Rattle.std.proofs.lemmas.Bool.{both_ways}
use Rattle.pipeline_time.specs.Cores.{Core, level_of, above_of}
use Rattle.pipeline_time.specs.Journal.{Log, stands}
use Rattle.pipeline_time.specs.States.{after}
use Rattle.pipeline_time.proofs.Counts.{one_stands, one_slot}
use Rattle.pipeline_time.proofs.Agree.{IsGoodPast, good_past, between}
use Rattle.pipeline_time.proofs.laws.one_stands.Goals as goal

pub returns-clause-one : goal.returns-clause-one
returns-clause-one g c core sound first entries level number = (one_stands core sound first entries level number, one_slot core sound first entries level)

stands_between : {R M : Type 0} (core : Core R M) (past : List Log) (level number : ℕ) → IsGoodPast core past → (o : Option ℕ) → stands core past level number ≡ o → is_some o ≡ true → (0 < above_of core number) × (above_of core number < level) × (level ≤ level_of core number)
stands_between core past level number good None e is = absurd (both_ways false refl is)
stands_between core past level number good (Some w) e is = let b = between core past level number w good e in (b.staged, b.after_activator, b.until_own)

pub returns-clause-between : goal.returns-clause-between
returns-clause-between g c core sound first entries level number is =
    stands_between core (after core first entries).past level number (good_past core sound first entries) (stands core (after core first entries).past level number) refl is
