-- What a run refuses that told a description's fault.
use Rattle.std.proofs.Common.{◌≡◌, ◌∙◌, ◌≤◌, ◌<◌, ℕ, List, [], ◌∷◌, drop, length, refl, sym, ap, subst, inl, inr, ⊎_elim, arith}
use Rattle.std.specs.Io.KnownBytes.{Appends}
use Rattle.lisa_tree.specs.declared.faults.DescFault.{DescFault}
use Rattle.lisa_outcomes.specs.declared.status.Refusal.{Refusal}
use Rattle.lisa_outcomes.specs.declared.status.Refusal.TheVariants as refusals
use Rattle.lisa_outcomes.specs.declared.status.FileFault.{FileFault}
use Rattle.lisa_outcomes.specs.declared.status.FileFault.TheVariants as file_faults
use Rattle.lisa_outcomes.specs.declared.status.Status.{Status}
use Rattle.lisa_outcomes.specs.declared.status.Status.TheVariants as statuses
use Rattle.lisa_outcomes.specs.Outcomes.{Outcome, Refusing, FileMap, Given, passed}
use Rattle.lisa_outcomes.specs.NamedFiles.{NamedFile, AreFiles, IsLongFile, file_at}
use Rattle.lisa_outcomes.specs.RunFiles.{run_bytes}
use Rattle.command_promises.proofs.Afters.{Refuses, behind, here, refused_by}
use Rattle.command_promises.proofs.Refused.{formats_unread, checks_firsts, runs_firsts, clocks_none}
use Rattle.command_promises.proofs.RefusedPrograms.{modules_firsts, objects_firsts, links_firsts, listings_firsts, programs_firsts, soaks_firsts}
use Rattle.command_promises.proofs.RefusedTools.{exports_firsts, imports_firsts, occupancies_firsts, replays_none}
use Rattle.command_words.specs.Requests.{Request, Asks, Format, Check, Verilog, Assemble, Link, Disassemble, Generate, Soak, Export, Import, Replay, Occupancy, Simulate, Clock}
use Rattle.lisa_cli.specs.Files.{files_of}
use Rattle.lisa_cli.specs.Gives.{GivesOver, Gives}
use Rattle.lisa_cli.specs.Worlds.{World, IsKnown, NoneFailed}
use Rattle.lisa_cli.specs.Runs.{IsRefused}
use Rattle.lisa_cli.specs.Headline.{IsSomeRefusal, IsAnswer}
use Rattle.program_laws.specs.Refused.{IsFaultFor, RequestsRefuse, IsRefusedOver, RunsRefuse, IsToldOf, FaultsAreTold}
use Rattle.program_laws.proofs.Clocked.{some_same, one_files}
use Rattle.program_laws.proofs.Printed.{AskForOne}

pub requests_refuse : RequestsRefuse
requests_refuse (Format description) bytes input = formats_unread (file_at bytes 0)
requests_refuse (Check description) bytes input = checks_firsts (file_at bytes 0)
requests_refuse (Verilog description) bytes input = modules_firsts (file_at bytes 0)
requests_refuse (Assemble description source) bytes input = objects_firsts (file_at bytes 0) (file_at bytes 1)
requests_refuse (Link description objects) bytes input = links_firsts (file_at bytes 0) (drop 1 bytes)
requests_refuse (Disassemble description image) bytes input = listings_firsts (file_at bytes 0) (file_at bytes 1)
requests_refuse (Generate description number count) bytes input = programs_firsts (file_at bytes 0) number count
requests_refuse (Soak description verilog number count edges) bytes input = soaks_firsts (file_at bytes 0) (file_at bytes 1) number count edges
requests_refuse (Export format description image memory) bytes input = exports_firsts format (file_at bytes 0) (file_at bytes 1) memory
requests_refuse (Import format description file memory) bytes input = imports_firsts format (file_at bytes 0) (file_at bytes 1) memory
requests_refuse (Replay dump) bytes input = replays_none (file_at bytes 0)
requests_refuse (Occupancy names edges) bytes input = occupancies_firsts edges (run_bytes names bytes)
requests_refuse (Simulate task names) bytes input = runs_firsts task (run_bytes names bytes) input
requests_refuse (Clock task names) bytes input = clocks_none task (run_bytes names bytes) input

-- a file that is too long is no fault of a description
long_is_file : (files : FileMap) (named : List NamedFile) (r : Refusal) → IsLongFile files named r → (fault : FileFault) × (r ≡ refusals.File fault)
long_is_file files [] r w = absurd w
long_is_file files (file ∷ rest) r w = ⊎_elim (λ t. (file_faults.TooLong file.name, t.3)) (λ n. long_is_file files rest r n.2) w

no_description : (f : DescFault) (fault : FileFault) → refusals.Description f ≡ refusals.File fault → ⊥
no_description f fault e = cc

refused_is_no_failure : (f : DescFault) → statuses.Refused (refusals.Description f) ≡ statuses.WriteFault → ⊥
refused_is_no_failure f e = cc

module _ (w : World) (request : Request) (given : Given) (f : DescFault) where
  refused_over : (text : List ℕ) → Gives given request (Refusing (refusals.Description f) text) → Appends w.writes.out w.writes.out_after text → IsRefusedOver w request given f
  refused_over text gives written =
      by (refused_by (AreFiles given.files (files_of request)) (IsLongFile given.files (files_of request)) (λ bytes. GivesOver request bytes given.input) (refusals.Description f) text gives)
    where
      by : Refuses (AreFiles given.files (files_of request)) (IsLongFile given.files (files_of request)) (λ bytes. GivesOver request bytes given.input) (refusals.Description f) text → IsRefusedOver w request given f
      by (behind bytes are then) =
          let told = ((requests_refuse request bytes given.input).exactly f text).0 then in
          record { bytes = bytes; files = are; fault = told.0; written = subst (λ (t : List ℕ). Appends w.writes.out w.writes.out_after t) told.1 written }
      by (here long empty) = absurd (let file = long_is_file given.files (files_of request) (refusals.Description f) long in no_description f file.0 file.1)

pub runs_refuse : (words : List (List ℕ)) → AskForOne words → RunsRefuse words
runs_refuse words one w request given f asks known answer = ⊎_elim (λ s. by s.0) (λ x. absurd (refused_is_no_failure f x.0)) answer.answer
  where
    by : IsRefused w words (refusals.Description f) → IsRefusedOver w request given f
    by run =
        let same : run.request ≡ request = one run.request request run.asks asks in
        let it = run.written given (subst (λ (r : Request). IsKnown w r given) (sym same) known) in
        refused_over w request given f it.0 (subst (λ (r : Request). Gives given r (Refusing (refusals.Description f) it.0)) same it.1) it.2

-- ---- and what is always told

-- a file isn't both within its limit and too long
within_and_long : (a limit b : ℕ) → a ≤ limit → limit < b → a ≡ b → ⊥
within_and_long a limit b le lt e = omega (arith, le, lt, e)

none_is_long : (files : FileMap) (named : List NamedFile) (bytes : List (List ℕ)) (r : Refusal) → AreFiles files named bytes → IsLongFile files named r → ⊥
none_is_long files [] bytes r are long = long
none_is_long files (file ∷ rest) bytes r are long = ⊎_elim
    (λ t. within_and_long (length are.0) file.limit (length t.0) are.3.1 t.2 (ap (λ (b : List ℕ). length b) (some_same are.0 t.0 (sym are.3.0 ∙ t.1))))
    (λ n. none_is_long files rest are.1 r are.4 n.2)
    long

same_refusal : (r s : Refusal) (text : List ℕ) → Refusing r text ≡ Refusing s [] → r ≡ s
same_refusal r s text e = cc

some_is_no_failure : (r : Refusal) → statuses.Refused r ≡ statuses.WriteFault → ⊥
some_is_no_failure r e = cc

module _ (words : List (List ℕ)) (one : AskForOne words) (w : World) (request : Request) (given : Given) (bytes : List (List ℕ)) (f : DescFault) (asks : Asks words request) (known : IsKnown w request given) (are : AreFiles given.files (files_of request) bytes) (fault : IsFaultFor request (file_at bytes 0) f) where
  -- what is refused there is the description, with such a fault
  only_told : (r : Refusal) (text : List ℕ) → Gives given request (Refusing r text) → IsToldOf request (file_at bytes 0) (statuses.Refused r)
  only_told r text gives =
      by (refused_by (AreFiles given.files (files_of request)) (IsLongFile given.files (files_of request)) (λ all. GivesOver request all given.input) r text gives)
    where
      by : Refuses (AreFiles given.files (files_of request)) (IsLongFile given.files (files_of request)) (λ all. GivesOver request all given.input) r text → IsToldOf request (file_at bytes 0) (statuses.Refused r)
      by (behind others again then) =
          let gives_here = subst (λ (all : List (List ℕ)). GivesOver request all given.input (Refusing r text)) (one_files given.files (files_of request) others bytes again are) then in
          let told = (requests_refuse request bytes given.input).only f (Refusing r text) fault gives_here in
          (told.0, told.1, ap (λ (x : Refusal). statuses.Refused x) (same_refusal r (refusals.Description told.0) text told.2))
      by (here long empty) = absurd (none_is_long given.files (files_of request) bytes r are long)

  told_by : (r : Refusal) → IsRefused w words r → IsToldOf request (file_at bytes 0) (statuses.Refused r)
  told_by r run =
      let same : run.request ≡ request = one run.request request run.asks asks in
      let it = run.written given (subst (λ (q : Request). IsKnown w q given) (sym same) known) in
      only_told r it.0 (subst (λ (q : Request). Gives given q (Refusing r it.0)) same it.1)

  told_status : (status : Status) → IsAnswer w words status → IsSomeRefusal status → IsToldOf request (file_at bytes 0) status
  told_status status answer some =
      subst (IsToldOf request (file_at bytes 0)) (sym some.1)
      (⊎_elim (λ s. told_by some.0 s.0) (λ x. absurd (some_is_no_failure some.0 x.0)) (subst (λ (s : Status). IsAnswer w words s) some.1 answer).answer)

  -- which the request gives
  fault_given : Gives given request (Refusing (refusals.Description f) [])
  fault_given = passed {a = bytes} are (((requests_refuse request bytes given.input).exactly f []).1 (fault, refl))

pub faults_are_told : (words : List (List ℕ)) → AskForOne words → FaultsAreTold words
faults_are_told words one w request given bytes f status asks known are fault none answer = ⊎_elim
    (λ some. inl (told_status words one w request given bytes f asks known are fault status answer some))
    (λ m. inr m)
    (answer.refused_always request given (refusals.Description f) [] asks known (fault_given words one w request given bytes f asks known are fault) none)
