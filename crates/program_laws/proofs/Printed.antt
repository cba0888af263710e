-- What a run printed that was done is what its request gives.
use Rattle.std.proofs.Common.{◌≡◌, ◌∙◌, ℕ, List, [], ◌++◌, Option, None, Some, sym, ap, subst, ⊎_elim}
use Rattle.std.specs.Io.KnownBytes.{Appends}
use Rattle.lisa_outcomes.specs.declared.status.Status.TheVariants as statuses
use Rattle.lisa_outcomes.specs.Outcomes.{Finished, FileMap}
use Rattle.command_words.specs.Requests.{Request, Asks}
use Rattle.lisa_cli.specs.Gives.{Gives}
use Rattle.lisa_cli.specs.Worlds.{World, IsKnown}
use Rattle.lisa_cli.specs.Runs.{IsDone}
use Rattle.lisa_cli.specs.Headline.{IsAnswer}
use Rattle.program_laws.specs.Agreements.{given, IsPrinted}
use Rattle.program_laws.proofs.Clocked.{some_same}

none_is_no_some : (xs : List ℕ) → None ≡ Some xs → ⊥
none_is_no_some xs e = cc

-- what was appended to an output that held nothing is all that it holds
pub holds : (before after : Option (List ℕ)) (text : List ℕ) → before ≡ Some [] → Appends before after text → after ≡ Some text
holds None after text empty h = absurd (none_is_no_some [] empty)
holds (Some xs) None text empty h = absurd h
holds (Some xs) (Some ys) text empty h = ap (λ (zs : List ℕ). Some zs) (h ∙ ap (λ (zs : List ℕ). zs ++ text) (some_same xs [] empty))

-- the words ask for one request
abbrev pub AskForOne : List (List ℕ) → Type 0
AskForOne words = (first second : Request) → Asks words first → Asks words second → first ≡ second

done_is_no_failure : statuses.Done ≡ statuses.WriteFault → ⊥
done_is_no_failure e = cc

module _ (w : World) (words : List (List ℕ)) (request : Request) (files : FileMap) (input : List ℕ) (one : AskForOne words) (asks : Asks words request) (known : IsKnown w request (given files input)) where
  -- its text, which the request gives and which was appended
  abbrev Done : Type 0
  Done = (text : List ℕ) × Gives (given files input) request (Finished text) × Appends w.writes.out w.writes.out_after text

  is_done : IsDone w words → Done
  is_done run =
      let same : run.request ≡ request = one run.request request run.asks asks in
      let it = run.written (given files input) (subst (λ (r : Request). IsKnown w r (given files input)) (sym same) known) in
      (it.0, subst (λ (r : Request). Gives (given files input) r (Finished it.0)) same it.1, it.2)

  pub done_gives : IsAnswer w words statuses.Done → Done
  done_gives answer = ⊎_elim (λ s. is_done s.0) (λ f. absurd (done_is_no_failure f.0)) answer.answer

pub printed_gives : (files : FileMap) (input : List ℕ) (words : List (List ℕ)) (request : Request) (text : List ℕ) → AskForOne words → IsPrinted files input words request text → Gives (given files input) request (Finished text)
printed_gives files input words request text one run =
    let done = done_gives run.world words request files input one run.asks run.known run.done in
    let same : done.0 ≡ text = some_same done.0 text (sym (holds run.world.writes.out run.world.writes.out_after done.0 run.empty done.2) ∙ run.printed) in
    subst (λ (t : List ℕ). Gives (given files input) request (Finished t)) same done.1
