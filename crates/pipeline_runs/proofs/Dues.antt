-- What is due in a stage, one after another.
use Rattle.std.proofs.Common.{◌≡◌, ℕ, zero, suc, ◌<◌, ◌≤◌, Bool, true, false, not, ◌&&◌, List, [], ◌∷◌, length, Option, Some, refl, sym, ap, ◌∙◌, subst, arith}
use Rattle.std.specs.Prelude.{map, slice_get}
use Rattle.std.specs.List.{filter, fold}
use Rattle.std.proofs.lemmas.Bool.{cond-true, cond-false}
use Rattle.pipeline_time.specs.Cores.{Core, all_nodes}
use Rattle.pipeline_time.specs.Running.{Running, word_below, run_occurrence}
use Rattle.pipeline_time.specs.Edges.{Standing, is_held, is_flushed, is_free, waiting, is_due, run_due, turn}
use Rattle.lisa_activation.specs.declared.kept.Queues.{Queues}
use Rattle.lisa_activation.specs.Queued.{is_due as is_queued}
use Rattle.pipeline_runs.specs.declared.tree.Occurrence.{Occurrence}
use Rattle.pipeline_runs.specs.Runs.{node_of, Represents}
use Rattle.pipeline_runs.specs.Turns.{due_from, WaitAs}
use Rattle.pipeline_runs.proofs.Tables.{none_some, some_same, at_within}

module _ {R M : Type 0} (core : Core R M) (words : ℕ → Option ℕ) (stage : ℕ) where
  pub skip : (xs : List Occurrence) (k n : ℕ) → k ≤ n → ((i : ℕ) (o : Occurrence) → k ≤ i → i < n → slice_get xs i ≡ Some o → is_due core words (suc stage) (node_of o) ≡ false) → due_from core words stage k xs ≡ due_from core words stage n xs
  skip [] zero zero low none = refl
  skip [] zero (suc n) low none = refl
  skip [] (suc k) zero low none = absurd (omega arith)
  skip [] (suc k) (suc n) low none = refl
  skip (x ∷ xs) zero zero low none = refl
  skip (x ∷ xs) zero (suc n) low none =
      cond-false (is_due core words (suc stage) (node_of x)) (node_of x ∷ due_from core words stage 0 xs) (due_from core words stage 0 xs) (none 0 x (omega arith) (omega arith) refl)
      ∙ skip xs zero n (omega arith) (λ i o a b e. none (suc i) o (omega arith) (omega arith) e)
  skip (x ∷ xs) (suc k) zero low none = absurd (omega arith)
  skip (x ∷ xs) (suc k) (suc n) low none = skip xs k n (omega arith) (λ i o a b e. none (suc i) o (omega arith) (omega arith) e)

  pub next : (xs : List Occurrence) (n : ℕ) (o : Occurrence) → slice_get xs n ≡ Some o → is_due core words (suc stage) (node_of o) ≡ true → due_from core words stage n xs ≡ node_of o ∷ due_from core words stage (suc n) xs
  next [] n o e is = absurd (none_some o e)
  next (x ∷ xs) zero o e is =
      let same : x ≡ o = some_same x o e in
      cond-true (is_due core words (suc stage) (node_of x)) (node_of x ∷ due_from core words stage 0 xs) (due_from core words stage 0 xs) (subst (λ y. is_due core words (suc stage) (node_of y) ≡ true) (sym same) is)
      ∙ ap (λ y. node_of y ∷ due_from core words stage 0 xs) same
  next (x ∷ xs) (suc n) o e is = next xs n o e is

  pub none : (xs : List Occurrence) (k : ℕ) → ((i : ℕ) (o : Occurrence) → k ≤ i → slice_get xs i ≡ Some o → is_due core words (suc stage) (node_of o) ≡ false) → due_from core words stage k xs ≡ []
  none [] zero each = refl
  none [] (suc k) each = refl
  none (x ∷ xs) zero each =
      cond-false (is_due core words (suc stage) (node_of x)) (node_of x ∷ due_from core words stage 0 xs) (due_from core words stage 0 xs) (each 0 x (omega arith) refl)
      ∙ none xs zero (λ i o a e. each (suc i) o (omega arith) e)
  none (x ∷ xs) (suc k) each = none xs k (λ i o a e. each (suc i) o (omega arith) e)

module _ {R M : Type 0} (core : Core R M) where
  pub none_due : (queues : Queues) (stage word from : ℕ) (words : ℕ → Option ℕ) (occurrences : List Occurrence) (now : Running M) → WaitAs core queues stage word words occurrences → ((n : ℕ) → from ≤ n → is_queued queues stage n ≡ false) → now ≡ fold (run_due core words) now (due_from core words stage from occurrences)
  none_due queues stage word from words occurrences now waits free =
      ap (fold (run_due core words) now) (sym (none core words stage occurrences from (λ i o low e. (waits i o e).0 ∙ free i low)))

  -- the next one, and those after it
  next_due : (queues : Queues) (stage word from n : ℕ) (words : ℕ → Option ℕ) (occurrences : List Occurrence) (o : Occurrence) (now : Running M) → WaitAs core queues stage word words occurrences → from ≤ n → is_queued queues stage n ≡ true → ((i : ℕ) → from ≤ i → i < n → is_queued queues stage i ≡ false) → slice_get occurrences n ≡ Some o → fold (run_due core words) (run_occurrence core (word_below o.past word) (node_of o) now) (due_from core words stage (suc n) occurrences) ≡ fold (run_due core words) now (due_from core words stage from occurrences)
  next_due queues stage word from n words occurrences o now waits low is least e =
      let w = waits n o e in
      ap (λ v. fold (run_due core words) (run_occurrence core v (node_of o) now) (due_from core words stage (suc n) occurrences)) (sym (w.1 is))
      ∙ ap (fold (run_due core words) now)
      (sym (skip core words stage occurrences from n low (λ i p a b f. (waits i p f).0 ∙ least i a b) ∙ next core words stage occurrences n o e (w.0 ∙ is)))

  waits_after : (queues queues' : Queues) (stage word : ℕ) (words : ℕ → Option ℕ) (occurrences : List Occurrence) → ((number : ℕ) → is_queued queues' stage number ≡ is_queued queues stage number) → WaitAs core queues stage word words occurrences → WaitAs core queues' stage word words occurrences
  waits_after queues queues' stage word words occurrences same waits n o e =
      let w = waits n o e in (w.0 ∙ sym (same n), λ is. w.1 (sym (same n) ∙ is))

  -- one occurrence read twice
  pub same_item : (word own : ℕ) (moment : M) (after : Queues) (slot : Option ℕ) (bits : ℕ → ℕ → Bool) (now : Running M) (n : ℕ) (occurrences : List Occurrence) (o p : Occurrence) → slice_get occurrences n ≡ Some o → slice_get occurrences n ≡ Some p → own ≡ word_below o.past word → Represents moment after slot bits (run_occurrence core own (node_of o) now) → Represents moment after slot bits (run_occurrence core (word_below p.past word) (node_of p) now)
  same_item word own moment after slot bits now n occurrences o p e f is seen =
      subst (λ (q : Occurrence). Represents moment after slot bits (run_occurrence core (word_below q.past word) (node_of q) now)) (some_same o p (sym e ∙ f))
      (subst (λ w. Represents moment after slot bits (run_occurrence core w (node_of o) now)) is seen)

  pub turned : (core' : Core R M) (queues queues' : Queues) (moment : M) (after : Queues) (slot : Option ℕ) (bits : ℕ → ℕ → Bool) (stage word from n : ℕ) (words : ℕ → Option ℕ) (occurrences : List Occurrence) (now : Running M) → n < length occurrences → WaitAs core queues stage word words occurrences → from ≤ n → is_queued queues stage n ≡ true → ((i : ℕ) → from ≤ i → i < n → is_queued queues stage i ≡ false) → core' ≡ core → ((number : ℕ) → is_queued queues' stage number ≡ is_queued queues stage number) → ((o : Occurrence) → slice_get occurrences n ≡ Some o → WaitAs core' queues' stage word words occurrences → Represents moment after slot bits (fold (run_due core' words) (run_occurrence core (word_below o.past word) (node_of o) now) (due_from core' words stage (suc n) occurrences))) → Represents moment after slot bits (fold (run_due core words) now (due_from core words stage from occurrences))
  turned core' queues queues' moment after slot bits stage word from n words occurrences now within waits low is least same_core same rest =
      let o = at_within occurrences n within in
      let w = subst (λ (c : Core R M). WaitAs c queues' stage word words occurrences) (sym same_core) (waits_after queues queues' stage word words occurrences same waits) in
      let seen = subst (λ (c : Core R M). Represents moment after slot bits (fold (run_due c words) (run_occurrence core (word_below o.0.past word) (node_of o.0) now) (due_from c words stage (suc n) occurrences))) same_core (rest o.0 o.1 w) in
      subst (λ (m : Running M). Represents moment after slot bits m) (next_due queues stage word from n words occurrences o.0 now waits low is least o.1) seen

  -- the turn of a stage, by whether it is free
  free_as : (moment : M) (now : Running M) (level : ℕ) (b : Bool) → moment ≡ now.moment → (not (is_held (core.stalled moment) level) && not (is_flushed (core.flushed moment) level)) ≡ b → is_free core now level ≡ b
  free_as moment now level b same e = subst (λ m. (not (is_held (core.stalled m) level) && not (is_flushed (core.flushed m) level)) ≡ b) same e

  pub turn_free : (stands : Standing) (stage : ℕ) (now : Running M) (moment : M) (occurrences : List Occurrence) → moment ≡ now.moment → (not (is_held (core.stalled moment) (suc stage)) && not (is_flushed (core.flushed moment) (suc stage))) ≡ true → map node_of occurrences ≡ all_nodes core → fold (run_due core (waiting core stands (suc stage) now)) now (due_from core (waiting core stands (suc stage) now) stage 0 occurrences) ≡ turn core stands (suc stage) now
  turn_free stands stage now moment occurrences same is nodes =
      let words = waiting core stands (suc stage) now in
      ap (λ xs. fold (run_due core words) now (filter (is_due core words (suc stage)) xs)) nodes
      ∙ sym (cond-true (is_free core now (suc stage)) (fold (run_due core words) now (filter (is_due core words (suc stage)) (all_nodes core))) now (free_as moment now (suc stage) true same is))

  pub turn_busy : (stands : Standing) (stage : ℕ) (now : Running M) (moment : M) → moment ≡ now.moment → (not (is_held (core.stalled moment) (suc stage)) && not (is_flushed (core.flushed moment) (suc stage))) ≡ false → now ≡ turn core stands (suc stage) now
  turn_busy stands stage now moment same is =
      let words = waiting core stands (suc stage) now in
      sym (cond-false (is_free core now (suc stage)) (fold (run_due core words) now (filter (is_due core words (suc stage)) (all_nodes core))) now (free_as moment now (suc stage) false same is))
