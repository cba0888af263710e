-- What a board gives with the input that it was to take whole.
use Rattle.std.proofs.Common.{◌≡◌, ◌<◌, ◌≤◌, ◌∙◌, sym, ap, refl, subst, arith, List, ℕ, [], length, Option, Some, Result, Err, inr}
use Rattle.std.specs.Io.KnownBytes.{Appends}
use Rattle.std.proofs.lemmas.Bool.{lt-ltb, le-ltb}
use Rattle.lisa_io.specs.Causes.{Rose}
use Rattle.lisa_io.specs.declared.whole.ReadEnd.{ReadEnd}
use Rattle.lisa_io.specs.declared.whole.ReadEnd.TheVariants as read_ends
use Rattle.lisa_io.proofs.Known.{appends_none}
use Rattle.lisa_board.specs.Boards.{Devices}
use Rattle.lisa_board.specs.Runs.{output}
use Rattle.lisa_engine.specs.Machines.{Machine}
use Rattle.lisa_outcomes.specs.declared.status.End.{End}
use Rattle.lisa_outcomes.specs.declared.status.End.TheVariants as ends
use Rattle.lisa_outcomes.specs.declared.status.Refusal.{Refusal}
use Rattle.lisa_outcomes.specs.declared.status.Refusal.TheVariants as refusals
use Rattle.lisa_outcomes.specs.declared.status.InputFault.TheVariants as input_faults
use Rattle.lisa_outcomes.specs.Outcomes.{Outcome, Finished, Refusing}
use Rattle.lisa_outcomes.specs.Ends.{Ends}
use Rattle.lisa_outcomes.specs.Refusals.{IsRefusal}
use Rattle.lisa_outcomes.specs.Writes.{Writes}
use Rattle.lisa_outcomes.specs.Replies.{Replies}
use Rattle.lisa_outcomes.proofs.Endings.{wanting_ends}
use Rattle.lisa_outcomes.proofs.Refusals.{input_refusal}
use Rattle.lisa_outcomes.proofs.Told.{err_is, not_ok}
use Rattle.lisa_outcomes.proofs.Within.{nothing_within}
use Rattle.lisa_outcomes.proofs.Writing.{written_replies}
use Rattle.engine_commands.specs.Boards.{board_input_limit, board_outcome}
use Rattle.engine_commands.specs.Unread.{unread_input}

-- an input that isn't too long is what the console has
short_outcome : (m : Machine) (board : Devices) (edges : ℕ) (input : List ℕ) → length input ≤ board_input_limit → board_outcome m board edges input ≡ Finished (output m board input edges)
short_outcome m board edges input short = rw (le-ltb board_input_limit (length input) short) refl

long_outcome : (m : Machine) (board : Devices) (edges : ℕ) (input : List ℕ) → board_input_limit < length input → board_outcome m board edges input ≡ Refusing (refusals.Input input_faults.TooLong) []
long_outcome m board edges input long = rw (lt-ltb board_input_limit (length input) long) refl

refusing_is_no_finished : (refusal : Refusal) (a b : List ℕ) → Refusing refusal a ≡ Finished b → ⊥
refusing_is_no_finished refusal a b e = cc

module _ (m : Machine) (board : Devices) (edges : ℕ) (left : Option (List ℕ)) where
  abbrev pub Prints : List ℕ → Outcome → Type 0
  Prints bytes outcome = outcome ≡ board_outcome m board edges bytes

  abbrev pub IsTold : List ℕ → Type 0
  IsTold bytes = left ≡ Some bytes

  -- the input was taken whole, and the text written
  pub heard_ends : (Blamed : Type 0) (items : List ℕ) (before after : Option (List ℕ)) (old new : ℕ) (result : Result (Unit {0}) End) → length items ≤ board_input_limit
      → ((bytes : List ℕ) → left ≡ Some bytes → items ≡ bytes) → Writes before after old new result (output m board items edges)
      → Ends IsTold Prints Blamed before after old new result
  heard_ends Blamed items before after old new result short same writes = record {
    done = λ ok bytes e. let r = replies.done ok in (r.0, r.1 ∙ sym (is bytes e), r.2);
    refused = λ refusal refused. absurd (writes.refused refusal refused);
    real = λ refusal refused. absurd (writes.refused refusal refused);
    read = λ fault. absurd (writes.read fault);
    later = writes.later;
    write = writes.write;
    front = λ bytes e. inr (Finished text, sym (is bytes e), writes.front);
    finished = λ bytes shown e gives refusal refused. writes.refused refusal refused;
    refusing = λ bytes refusal shown e gives ok. refusing_is_no_finished refusal shown text (gives ∙ is bytes e);
  }
    where
      text : List ℕ
      text = output m board items edges

      replies : Replies (λ (outcome : Outcome). outcome ≡ Finished text) before after old new result
      replies = written_replies text before after old new result writes

      is : (bytes : List ℕ) → left ≡ Some bytes → board_outcome m board edges bytes ≡ Finished text
      is bytes e = ap (board_outcome m board edges) (sym (same bytes e)) ∙ short_outcome m board edges items short

  -- it wasn't, and nothing was written
  pub unheard_ends : (first last : ℕ) (end : ReadEnd) (sink : Option (List ℕ)) (old : ℕ)
      → ((bytes : List ℕ) → left ≡ Some bytes → end ≡ read_ends.TooLong → board_input_limit < length bytes) → (end ≡ read_ends.ReadFault → Rose first last)
      → Ends {T = Unit {0}} IsTold Prints (Rose first last × Appends sink sink []) sink sink old old (Err (unread_input end))
  unheard_ends first last read_ends.TooLong sink old long fault = record {
    done = λ ok. absurd (not_ok ok);
    refused = λ refusal is bytes e.
        ([], ap (λ (r : Refusal). Refusing r []) (sym (same_refusal _ _ (err_is _ _ is))) ∙ sym (long_outcome m board edges bytes (long bytes e refl)), appends_none sink);
    real = λ refusal is. subst IsRefusal (same_refusal _ _ (err_is _ _ is)) (input_refusal input_faults.TooLong (λ e. cc));
    read = λ is. absurd (refused_is_no_read _ (err_is _ _ is));
    later = omega arith;
    write = λ is. absurd (refused_is_no_write _ (err_is _ _ is));
    front = λ bytes e. nothing_within (Prints bytes) sink;
    finished = λ bytes text e gives refusal is. refusing_is_no_finished _ _ _ (sym (gives ∙ long_outcome m board edges bytes (long bytes e refl)));
    refusing = λ bytes refusal text e gives ok. not_ok ok;
  }
    where
      same_refusal : (a b : Refusal) → ends.Refused a ≡ ends.Refused b → a ≡ b
      same_refusal a b e = cc

      refused_is_no_read : (r : Refusal) → ends.Refused r ≡ ends.ReadFault → ⊥
      refused_is_no_read r e = cc

      refused_is_no_write : (r : Refusal) → ends.Refused r ≡ ends.WriteFault → ⊥
      refused_is_no_write r e = cc
  unheard_ends first last read_ends.ReadFault sink old long fault = record {
    done = λ ok. absurd (not_ok ok);
    refused = λ refusal is. absurd (read_is_no_refusal _ (err_is _ _ is));
    real = λ refusal is. absurd (read_is_no_refusal _ (err_is _ _ is));
    read = λ is. (fault refl, appends_none sink);
    later = omega arith;
    write = λ is. absurd (read_is_no_write (err_is _ _ is));
    front = λ bytes e. nothing_within (Prints bytes) sink;
    finished = λ bytes text e gives refusal is. read_is_no_refusal _ (err_is _ _ is);
    refusing = λ bytes refusal text e gives ok. not_ok ok;
  }
    where
      read_is_no_refusal : (r : Refusal) → ends.ReadFault ≡ ends.Refused r → ⊥
      read_is_no_refusal r e = cc

      read_is_no_write : ends.ReadFault ≡ ends.WriteFault → ⊥
      read_is_no_write e = cc
  unheard_ends first last read_ends.NoMemory sink old long fault = wanting_ends IsTold Prints (Rose first last × Appends sink sink []) sink old
