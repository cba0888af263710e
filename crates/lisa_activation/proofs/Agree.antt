-- The queues hold what stands by the hardware's bits.
use Rattle.std.proofs.Common.{◌≡◌, ℕ, zero, suc, ◌+◌, ◌<◌, Bool, true, false, cond, not, ◌&&◌, ◌||◌, List, [], Option, None, Some, refl, sym, ap, ap₂, ◌∙◌, subst, arith, nat_eq}
use Rattle.std.proofs.Math.Dec.{eqb-suc-suc, eqb-suc-zero}
use Rattle.std.specs.Prelude.{is_some}
use Rattle.std.specs.Option.{option_map, option_or}
use Rattle.std.specs.List.{find}
use Rattle.std.proofs.lemmas.Bool.{ne_eqb}
use Rattle.activation_bits.specs.Members.{has}
use Rattle.pipeline_time.specs.Cores.{Core, level_of, above_of, is_past}
use Rattle.pipeline_time.specs.Running.{Running, activate, word_below}
use Rattle.pipeline_time.specs.Edges.{is_held, is_flushed, word_in, waiting}
use Rattle.pipeline_time.specs.Journal.{Log}
use Rattle.pipeline_time.specs.Bits.{Hardware, is_recorded, is_open, next_bit, bits_stand}
use Rattle.lisa_activation.specs.Columns.{ends}
use Rattle.lisa_activation.specs.Queued.{standing, entered, first, runs_in, above, count, is_due, HasTables, IsEntered, IsFinished}
use Rattle.lisa_activation.specs.Shown.{Hold, AreStages, AreQueuesOf}
use Rattle.lisa_activation.specs.declared.kept.Queues.{Queues}

eq_flip : (a b : ℕ) → nat_eq a b ≡ nat_eq b a
eq_flip a b = grind arith

same_level : (stage s : ℕ) → nat_eq (stage + 1) (suc s) ≡ nat_eq (suc s) (suc stage)
same_level stage s = grind arith

swapped : (e a b : Bool) → (e || (a && b)) ≡ ((b && a) || e)
swapped e a b = grind arith

or_none : (a : Bool) → (a || false) ≡ a
or_none a = grind arith

waits : (b one : Bool) (w : ℕ) (o : Option ℕ) → is_some (option_or (cond b (Some w) None) (cond one o None)) ≡ (b || (one && is_some o))
waits true one w o = refl
waits false true w o = refl
waits false false w o = refl

first_more : (b : Bool) (pair : ℕ × ℕ) (o : Option (ℕ × ℕ)) → is_some (option_map (λ (pair : ℕ × ℕ). pair.1) (cond b (Some pair) o)) ≡ (is_some (option_map (λ (pair : ℕ × ℕ). pair.1) o) || b)
first_more true pair None = refl
first_more true pair (Some p) = refl
first_more false pair None = refl
first_more false pair (Some p) = refl

first_none : (a o b n r : Bool) → b ≡ false → r ≡ false → a ≡ (a || (o && ((b && n) || r)))
first_none a o b n r none unrecorded = grind arith

module _ {R M : Type 0} (core : Core R M) where
  pub due_agrees : (queues : Queues) (hard : Hardware R) (now : Running M) (stage number : ℕ) → AreQueuesOf core queues → Hold queues hard.bits now.made now.first → stage < 8 → is_due queues stage number ≡ (nat_eq (level_of core number) (suc stage) && is_some (waiting core (bits_stand core hard) (suc stage) now number))
  due_agrees queues hard now stage number tables holds within =
      ap₂ (λ a b. a && b) (tables.run stage number within)
      (ap₂ (λ a b. a || b) (holds.stand stage number within) (ap₂ (λ a b. a && b) (sym (eqb-suc-suc stage 0)) (holds.outside number))
      ∙ sym (waits (hard.bits (suc stage) number) (nat_eq (suc stage) 1) (word_below (is_past core number) (hard.words (suc stage))) (word_in number now.first)))

  tables_kept : (before after : Queues) → AreQueuesOf core before → HasTables before after → AreQueuesOf core after
  tables_kept before after tables same = record {
    run = λ stage number within. same.run stage number ∙ tables.run stage number within;
    below = λ number within. same.below number ∙ tables.below number (subst (λ n. number < n) same.as_many within);
  }

  module _ (before after : Queues) (bits : ℕ → ℕ → Bool) (now : Running M) (number word : ℕ) (is : IsEntered before after number) (holds : Hold before bits now.made now.first) where
    recorded_at : (here : ℕ) → above before number ≡ here → (stage other : ℕ) → stage < 8 → entered after stage other ≡ (entered before stage other || (nat_eq (stage + 1) here && nat_eq other number))
    recorded_at here e stage other within = is.more_entered stage other within ∙ ap (λ l. entered before stage other || (nat_eq (stage + 1) l && nat_eq other number)) e

    first_at : (here : ℕ) → above before number ≡ here → (other : ℕ) → first after other ≡ (first before other || (nat_eq here 0 && nat_eq other number))
    first_at here e other = is.more_first other ∙ ap (λ l. first before other || (nat_eq l 0 && nat_eq other number)) e

    entered_holds : (here : ℕ) → above before number ≡ here → Hold after bits (activate core here number word now).made (activate core here number word now).first
    unfolding activate
    entered_holds zero e = record {
      stand = λ stage other within. is.stand stage other ∙ holds.stand stage other within;
      recorded = λ stage other within.
          recorded_at 0 e stage other within
          ∙ ap (λ b. entered before stage other || (b && nat_eq other number)) (ne_eqb (stage + 1) 0 (λ f. omega arith))
          ∙ or_none (entered before stage other)
          ∙ holds.recorded stage other within;
      outside = λ other.
          first_at 0 e other
          ∙ ap₂ (λ a b. a || b) (holds.outside other) (eq_flip other number)
          ∙ sym (first_more (nat_eq number other) (number, word) (find (λ (pair : ℕ × ℕ). nat_eq pair.0 other) now.first));
    }
    entered_holds (suc s) e = record {
      stand = λ stage other within. is.stand stage other ∙ holds.stand stage other within;
      recorded = λ stage other within.
          recorded_at (suc s) e stage other within
          ∙ ap₂ (λ a b. entered before stage other || (a && b)) (same_level stage s) (eq_flip other number)
          ∙ swapped (entered before stage other) (nat_eq (suc s) (suc stage)) (nat_eq number other)
          ∙ ap (λ r. (nat_eq number other && nat_eq (suc s) (suc stage)) || r) (holds.recorded stage other within);
      outside = λ other.
          first_at (suc s) e other
          ∙ ap (λ b. first before other || (b && nat_eq other number)) (eqb-suc-zero s)
          ∙ or_none (first before other)
          ∙ holds.outside other;
    }

  pub enter_agrees : (before after : Queues) (bits : ℕ → ℕ → Bool) (now : Running M) (number word : ℕ) → AreQueuesOf core before → number < count before → IsEntered before after number → Hold before bits now.made now.first → AreQueuesOf core after × Hold after bits (activate core (above_of core number) number word now).made (activate core (above_of core number) number word now).first
  enter_agrees before after bits now number word tables within is holds =
      (tables_kept before after tables is.tables, entered_holds before after bits now number word is holds (above_of core number) (tables.below number within))

  module _ (before : Queues) (bits : ℕ → ℕ → Bool) (log : Log) (pairs : List (ℕ × ℕ)) (held flushed : ℕ) (tables : AreQueuesOf core before) (bare : (number : ℕ) → bits 0 number ≡ false) (unrecorded : (number : ℕ) → is_recorded log.made 0 number ≡ false) (stages : AreStages log held flushed) (holds : Hold before bits log.made pairs) where
    stays_as : (stage number : ℕ) → stage < 8 → (standing before stage number && (has held stage && not (has flushed stage))) ≡ (bits (suc stage) number && (is_held log.stalled (suc stage) && not (is_flushed log.flushed (suc stage))))
    stays_as stage number within =
        ap₂ (λ a b. a && b) (holds.stand stage number within)
        (ap₂ (λ a b. a && not b) (stages.as_held stage within) (stages.as_flushed stage within))

    moves_as : (stage number : ℕ) → stage < 8 → ((not (has held stage) && not (has flushed stage)) && ((standing before stage number && not (runs_in before stage number)) || entered before stage number)) ≡ (is_open log (suc stage) && ((bits (suc stage) number && not (nat_eq (suc stage) (level_of core number))) || is_recorded log.made (suc stage) number))
    moves_as stage number within =
        ap₂ (λ a b. a && b)
        (ap₂ (λ a b. not a && not b) (stages.as_held stage within) (stages.as_flushed stage within))
        (ap₂ (λ a b. a || b)
        (ap₂ (λ a b. a && not b) (holds.stand stage number within) (tables.run stage number within ∙ eq_flip (level_of core number) (suc stage)))
        (holds.recorded stage number within))

    bit_agrees : (stage number : ℕ) → stage < 8 → ends (λ s. standing before s number) (λ s. runs_in before s number) (λ s. entered before s number) held flushed stage ≡ next_bit core log bits (suc stage) number
    bit_agrees zero number within =
        stays_as 0 number within
        ∙ first_none (bits 1 number && (is_held log.stalled 1 && not (is_flushed log.flushed 1))) (is_open log 0) (bits 0 number) (not (nat_eq 0 (level_of core number))) (is_recorded log.made 0 number) (bare number) (unrecorded number)
    bit_agrees (suc stage) number within = ap₂ (λ a b. a || b) (stays_as (suc stage) number within) (moves_as stage number (omega arith))

  pub finish_agrees : (before after : Queues) (bits : ℕ → ℕ → Bool) (log : Log) (pairs : List (ℕ × ℕ)) (held flushed : ℕ) → AreQueuesOf core before → ((number : ℕ) → bits 0 number ≡ false) → ((number : ℕ) → is_recorded log.made 0 number ≡ false) → AreStages log held flushed → IsFinished before after held flushed → Hold before bits log.made pairs → AreQueuesOf core after × Hold after (next_bit core log bits) [] []
  finish_agrees before after bits log pairs held flushed tables bare unrecorded stages ended holds = (
    tables_kept before after tables ended.tables,
    record {
      stand = λ stage number within. ended.stand stage number within ∙ bit_agrees before bits log pairs held flushed tables bare unrecorded stages holds stage number within;
      recorded = λ stage number within. ended.none_entered stage number;
      outside = λ number. ended.none_first number;
    },
  )
