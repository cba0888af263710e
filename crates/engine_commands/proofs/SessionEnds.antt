-- From what a session gives of an input to how its command ends.
use Rattle.std.proofs.Common.{◌≡◌, ◌∙◌, sym, ap, refl, subst, List, ℕ, Option, Some, Ok, Err, inr, Bool, true, false}
use Rattle.lisa_io.specs.Causes.{Rose}
use Rattle.lisa_io.specs.Contents.{AppendsFront}
use Rattle.lisa_engine.specs.Machines.{Course}
use Rattle.lisa_debug.specs.Sessions.{session_text}
use Rattle.lisa_debug.specs.Runs.{Ran, Gives, HasCauses}
use Rattle.lisa_debug.specs.declared.ends.SessionEnd.{SessionEnd}
use Rattle.lisa_debug.specs.declared.ends.SessionEnd.TheVariants as session_ends
use Rattle.lisa_outcomes.specs.declared.status.End.TheVariants as ends
use Rattle.lisa_outcomes.specs.declared.status.Refusal.{Refusal}
use Rattle.lisa_outcomes.specs.declared.status.Refusal.TheVariants as refusals
use Rattle.lisa_outcomes.specs.declared.status.InputFault.TheVariants as input_faults
use Rattle.lisa_outcomes.specs.Outcomes.{Finished, Refusing, written_of}
use Rattle.lisa_outcomes.specs.Ends.{Ends}
use Rattle.lisa_outcomes.specs.Refusals.{IsRefusal}
use Rattle.lisa_outcomes.proofs.Refusals.{input_refusal}
use Rattle.lisa_outcomes.proofs.Told.{err_is, not_ok}
use Rattle.engine_commands.specs.Sessions.{given_up, session_outcome, IsCutOff, end_of}

-- an end is of one kind
is_refusal : (e : SessionEnd) (refusal : Refusal) → end_of e ≡ ends.Refused refusal → (e ≡ session_ends.TooLong) × (refusal ≡ refusals.Input input_faults.TooLong)
is_refusal session_ends.TooLong refusal is = (refl, inner _ _ is)
  where
    inner : (a b : Refusal) → ends.Refused a ≡ ends.Refused b → b ≡ a
    inner a b e = cc
is_refusal session_ends.ReadFault refusal is = absurd (cc)
is_refusal session_ends.WriteFault refusal is = absurd (cc)
is_refusal session_ends.NoMemory refusal is = absurd (cc)

is_read : (e : SessionEnd) → end_of e ≡ ends.ReadFault → e ≡ session_ends.ReadFault
is_read session_ends.TooLong is = absurd (cc)
is_read session_ends.ReadFault is = refl
is_read session_ends.WriteFault is = absurd (cc)
is_read session_ends.NoMemory is = absurd (cc)

is_write : (e : SessionEnd) → end_of e ≡ ends.WriteFault → e ≡ session_ends.WriteFault
is_write session_ends.TooLong is = absurd (cc)
is_write session_ends.ReadFault is = absurd (cc)
is_write session_ends.WriteFault is = refl
is_write session_ends.NoMemory is = absurd (cc)

-- what is given up is refused, and what isn't finishes
written_given : (b : Bool) (text : List ℕ) → written_of (given_up b text) ≡ text
written_given true text = refl
written_given false text = refl

refusing_finished : (refusal : Refusal) (a b : List ℕ) → Finished a ≡ Refusing refusal b → ⊥
refusing_finished refusal a b e = cc

finished_up : (b : Bool) (text other : List ℕ) → Finished other ≡ given_up b text → b ≡ true → ⊥
finished_up true text other is long = refusing_finished _ _ _ is
finished_up false text other is long = not_ok long

refused_up : (b : Bool) (refusal : Refusal) (text other : List ℕ) → Refusing refusal other ≡ given_up b text → b ≡ false → ⊥
refused_up true refusal text other is short = not_ok (sym short)
refused_up false refusal text other is short = refusing_finished _ _ _ (sym is)

pub session_ended : (course : Course) (left rest before after : Option (List ℕ)) (first last old new : ℕ) (u : Unit {0})
    → Ran course left rest before after (Ok u) → ((bytes : List ℕ) → left ≡ Some bytes → Gives course bytes before after (Ok u)) → HasCauses first last old new (Ok u)
    → Ends {T = Unit {0}} (λ (bytes : List ℕ). left ≡ Some bytes) (λ bytes outcome. outcome ≡ session_outcome course bytes) (Rose first last × IsCutOff course left rest before after) before after old new (Ok u)
session_ended course left rest before after first last old new u ran gives causes = record {
  done = λ ok bytes e. let d = (gives bytes e).done in (session_text course bytes, ap (λ (b : Bool). given_up b (session_text course bytes)) (sym d.0), d.1);
  refused = λ refusal is. absurd (cc);
  real = λ refusal is. absurd (cc);
  read = λ is. absurd (cc);
  later = causes.out_later;
  write = λ is. absurd (cc);
  front = λ bytes e. inr (session_outcome course bytes, refl, subst (AppendsFront before after) (sym (written_given _ _)) (gives bytes e).front);
  finished = λ bytes text e is refusal refused. absurd (cc);
  refusing = λ bytes refusal text e is ok. refused_up _ refusal _ _ is (gives bytes e).done.0;
}

pub session_failed : (course : Course) (left rest before after : Option (List ℕ)) (first last old new : ℕ) (end : SessionEnd)
    → Ran course left rest before after (Err end) → ((bytes : List ℕ) → left ≡ Some bytes → Gives course bytes before after (Err end)) → HasCauses {T = Unit {0}} first last old new (Err end)
    → Ends {T = Unit {0}} (λ (bytes : List ℕ). left ≡ Some bytes) (λ bytes outcome. outcome ≡ session_outcome course bytes) (Rose first last × IsCutOff course left rest before after) before after old new (Err (end_of end))
session_failed course left rest before after first last old new end ran gives causes = record {
  done = λ ok. absurd (not_ok ok);
  refused = λ refusal is bytes e.
      let kind = is_refusal end refusal (err_is _ _ is) in
      let d = (gives bytes e).too_long (ap Err kind.0) in
      (session_text course bytes, ap (λ (r : Refusal). Refusing r (session_text course bytes)) kind.1 ∙ ap (λ (b : Bool). given_up b (session_text course bytes)) (sym d.0), d.1);
  real = λ refusal is. subst IsRefusal (sym (is_refusal end refusal (err_is _ _ is)).1) (input_refusal input_faults.TooLong (λ e. cc));
  read = λ is.
      let kind = is_read end (err_is _ _ is) in
      (causes.read_fault (ap Err kind), record { taken = ran.taken; consumed = ran.consumed; goes_on = ran.read_fault (ap Err kind) });
  later = causes.out_later;
  write = λ is. causes.write_fault (ap Err (is_write end (err_is _ _ is)));
  front = λ bytes e. inr (session_outcome course bytes, refl, subst (AppendsFront before after) (sym (written_given _ _)) (gives bytes e).front);
  finished = λ bytes text e is refusal refused. finished_up _ _ _ is ((gives bytes e).too_long (ap Err (is_refusal end refusal (err_is _ _ refused)).0)).0;
  refusing = λ bytes refusal text e is ok. not_ok ok;
}
