-- What is run item by item.
use Rattle.std.proofs.Common.{ℕ, Bool, false, cond, refl, ap, ap₂, arith, nat_eq}
use Rattle.std.proofs.lemmas.Bool.{eq-eqb, ne_eqb, eqb-true}
use Rattle.pipeline_time.specs.Acts.{Acts}
use Rattle.pipeline_time.specs.Cores.{Core, all_nodes}
use Rattle.pipeline_time.specs.Running.{Running, word_below, own_word, behavior, activate, run}
use Rattle.pipeline_time.specs.Sound.{IsSound}
use Rattle.pipeline_time.specs.Laws.{UnchosenDoNothing, SameLevelRunsAtOnce, OtherLevelIsRecorded, OneBranchRuns, NumbersFindOccurrences}
use Rattle.pipeline_time.proofs.Tree.{has_number, whole, within, find_passes}

module _ {R M : Type 0} (core : Core R M) where
  -- what an item comes to, by whether it is chosen and whether it is of this level
  abbrev item : ℕ → ℕ → ℕ → Bool → Acts → Acts → Running M → Bool → Bool → Running M
  item here word number past own rest now chosen same =
      run core here word rest
      (cond chosen
      (cond same (run core here (own_word core number past word now) own (behavior core number (own_word core number past word now) now)) (activate core here number (word_below past word) now))
      now)

  pub unchosen : UnchosenDoNothing core
  unchosen here word number level past own rest now not' = ap (λ b. item here word number past own rest now b (nat_eq level here)) not'

  pub same_level : SameLevelRunsAtOnce core
  same_level here word above number past own rest now chosen = ap₂ (λ b c. item here word number past own rest now b c) chosen (eq-eqb here here refl)

  pub other_level : OtherLevelIsRecorded core
  other_level here word number level past own rest now chosen ne = ap₂ (λ b c. item here word number past own rest now b c) chosen (ne_eqb level here ne)

  pub one_branch : OneBranchRuns core
  one_branch here word number test first second rest now =
      let by = λ (b : Bool). run core here word rest (cond b (run core here word first now) (run core here word second now)) in
      (λ holds. ap by holds, λ not'. ap by not')

  pub numbers_find : IsSound core → NumbersFindOccurrences core
  numbers_find sound number low =
      let found = within core 0 false 0 (whole core) number sound.tree (omega arith) (omega (arith, low)) in
      (found.0, found.1, eqb-true found.0.number number (find_passes core sound (has_number number) (all_nodes core) found.0 found.1))
