-- What each BEHAVIOR and each record of an activation keeps is kept by all that runs in an edge.
use Rattle.std.proofs.Common.{ℕ, zero, suc, cond, List, [], ◌∷◌, Option, nat_eq}
use Rattle.std.specs.List.{filter, fold}
use Rattle.std.specs.Option.{unwrap_or}
use Rattle.std.proofs.lemmas.Bool.{cond_both}
use Rattle.pipeline_time.specs.Acts.{Acts, Done, Act, When, Node}
use Rattle.pipeline_time.specs.Cores.{Core, main_node, all_nodes}
use Rattle.pipeline_time.specs.Running.{Running, word_below, own_word, behavior, activate, run, run_occurrence}
use Rattle.pipeline_time.specs.Edges.{Standing, waiting, is_free, is_due, run_due, turn, turns, start, edge}

module _ {R M : Type 0} (core : Core R M) (P : Running M → Type 0)
    (behaves : (number word : ℕ) (now : Running M) → P now → P (behavior core number word now))
    (waits : (level number word : ℕ) (now : Running M) → P now → P (activate core level number word now)) where
  run_kept : (here word : ℕ) (acts : Acts) (now : Running M) → P now → P (run core here word acts now)
  run_kept here word Done now kept = kept
  run_kept here word (Act number level past own rest) now kept =
      let mine = own_word core number past word now in
      let begun = behavior core number mine now in
      let ran = run core here mine own begun in
      let waited = activate core here number (word_below past word) now in
      let middle = cond (nat_eq level here) ran waited in
      run_kept here word rest (cond (core.chooses number word) middle now)
      (cond_both (core.chooses number word) middle now P
      (λ chosen.
      cond_both (nat_eq level here) ran waited P
      (λ same. run_kept here mine own begun (behaves number mine now kept))
      (λ other. waits here number (word_below past word) now kept))
      (λ unchosen. kept))
  run_kept here word (When number test taken other rest) now kept =
      let yes' = run core here word taken now in
      let no' = run core here word other now in
      let holds = core.holds number test word now.moment in
      run_kept here word rest (cond holds yes' no')
      (cond_both holds yes' no' P (λ is. run_kept here word taken now kept) (λ is. run_kept here word other now kept))

  occurrence_kept : (word : ℕ) (node : Node) (now : Running M) → P now → P (run_occurrence core word node now)
  occurrence_kept word node now kept =
      let mine = own_word core node.number node.past word now in
      run_kept node.level mine node.own (behavior core node.number mine now) (behaves node.number mine now kept)

  due_kept : (words : ℕ → Option ℕ) (xs : List Node) (now : Running M) → P now → P (fold (run_due core words) now xs)
  due_kept words [] now kept = kept
  due_kept words (x ∷ xs) now kept = due_kept words xs (run_due core words now x) (occurrence_kept (unwrap_or (words x.number) 0) x now kept)

  turn_kept : (stands : Standing) (level : ℕ) (now : Running M) → P now → P (turn core stands level now)
  turn_kept stands level now kept =
      let words = waiting core stands level now in
      let xs = filter (is_due core words level) (all_nodes core) in
      cond_both (is_free core now level) (fold (run_due core words) now xs) now P (λ free. due_kept words xs now kept) (λ not'. kept)

  turns_kept : (stands : Standing) (level : ℕ) (now : Running M) → P now → P (turns core stands level now)
  turns_kept stands zero now kept = kept
  turns_kept stands (suc level) now kept = turns_kept stands level (turn core stands (suc level) now) (turn_kept stands (suc level) now kept)

  pub edge_kept : (stands : Standing) (pins : List ℕ) (memory : R) → P (start core pins memory) → P (edge core stands pins memory)
  edge_kept stands pins memory kept =
      let begun = start core pins memory in
      turns_kept stands core.stages (run_occurrence core 0 (main_node core) begun) (occurrence_kept 0 (main_node core) begun kept)
