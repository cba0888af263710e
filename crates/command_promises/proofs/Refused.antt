-- A description is refused with its first fault.
use Rattle.std.proofs.Common.{◌≡◌, ◌≢◌, ◌∙◌, ◌↔◌, ◌⊎◌, ℕ, Bool, true, false, cond, nat_lt, List, [], length, Option, None, Some, refl, sym, ap, subst, ⊎_elim}
use Rattle.lisa_tree.specs.declared.faults.DescFault.{DescFault}
use Rattle.lisa_tree.specs.Descriptions.{DescriptionTree}
use Rattle.lisa_tree.specs.Texts.{SpellsText}
use Rattle.lisa_reader.specs.Answers.{IsBroken}
use Rattle.lisa_reader.proofs.ByteLaws.{spelled_unbroken}
use Rattle.lisa_printer.specs.CanonicalText.{canonical_text}
use Rattle.lisa_printer.specs.CanonicalTokens.{description_tokens}
use Rattle.lisa_engine.specs.Memory.{Memory}
use Rattle.lisa_engine.specs.declared.parts.ArrayItem.{ArrayItem}
use Rattle.lisa_engine.specs.declared.schedule.ScheduleFault.{ScheduleFault}
use Rattle.lisa_board.specs.declared.fault.BoardFault.{BoardFault}
use Rattle.lisa_board.specs.Runs.{output}
use Rattle.lisa_object.specs.declared.faults.ImageFault.{ImageFault}
use Rattle.lisa_object.specs.declared.faults.ImageFault.TheVariants as images
use Rattle.verilog_text.specs.declared.faults.VerilogFault.{VerilogFault}
use Rattle.verilog_text.specs.Faults.{VFault}
use Rattle.verilog_reader.proofs.TextLaws.{accepted_unbroken}
use Rattle.lisa_outcomes.specs.declared.status.Refusal.{Refusal}
use Rattle.lisa_outcomes.specs.declared.status.Refusal.TheVariants as refusals
use Rattle.lisa_outcomes.specs.declared.status.InputFault.TheVariants as input_faults
use Rattle.lisa_outcomes.specs.Outcomes.{Outcome, Finished, Refusing, After, passed, stopped}
use Rattle.lisa_outcomes.specs.RunFiles.{RunBytes}
use Rattle.lisa_debug.specs.Sessions.{is_too_long, session_text}
use Rattle.engine_commands.specs.declared.tasks.Task.{Task}
use Rattle.engine_commands.specs.declared.tasks.Task.TheVariants as tasks
use Rattle.engine_commands.specs.Images.{IsNoImage, IsMissing}
use Rattle.lisa_engine.specs.Machines.{Machine, course_of}
use Rattle.engine_commands.specs.Schedules.{schedule_bytes}
use Rattle.engine_commands.specs.Boards.{board_input_limit}
use Rattle.engine_commands.specs.Sessions.{given_up}
use Rattle.engine_commands.specs.Tasks.{Driver, is_on_board, IsDriver, IsNoDriver, GivesTask, GivesUnder}
use Rattle.engine_commands.specs.Making.{IsMade, GivesMade}
use Rattle.verilog_command.specs.checked_descriptions.Checked.{Checked, AfterChecks}
use Rattle.verilog_command.specs.checked_descriptions.Descriptions.{IsUnread, AfterSpelling}
use Rattle.verilog_command.specs.checked_descriptions.DescriptionImages.{IsImageFor, IsNoImageFor, IsForAnother}
use Rattle.generator_commands.specs.description_commands.Formats.{Formats}
use Rattle.generator_commands.specs.description_commands.Checks.{Checks, counts_text, counts_of}
use Rattle.generator_commands.specs.description_commands.Runs.{described_machine, GivesChecked, GivesRun}
use Rattle.module_commands.specs.Designs.{Design, IsDesign, IsNoDesign, no_module, no_image, clock_machine}
use Rattle.module_commands.specs.Clocks.{GivesClock}
use Rattle.verdict_promises.specs.Firsts.{IsAcceptedAs, IsFirstFaultOf, IsRefusedFirst}
use Rattle.verdict_promises.proofs.Firsts.{not_both}
use Rattle.verdict_promises.proofs.Stages.{stages}
use Rattle.command_promises.specs.Refusals.{IsRefusedSo, RefusesWith, RefusesFirsts, RefusesUnread, RefusesModules}
use Rattle.command_promises.proofs.Afters.{Refuses, behind, here, refused_by}

-- ---- sorts of refusals

same_description : (f g : DescFault) → refusals.Description f ≡ refusals.Description g → f ≡ g
same_description f g e = cc

pub no_finish : (r : Refusal) (t u : List ℕ) → Refusing r t ≡ Finished u → ⊥
no_finish r t u e = cc

-- behind an accepted description no other is refused so
abbrev pub IsQuiet : (Checked → Outcome → Type 0) → Type 0
IsQuiet Then = (c : Checked) (f : DescFault) (text : List ℕ) → Then c (Refusing (refusals.Description f) text) → ⊥

exactly_firsts : (Then : Checked → Outcome → Type 0) → IsQuiet Then → (bytes : List ℕ) (f : DescFault) (text : List ℕ)
    → AfterSpelling bytes (λ d. AfterChecks d Then) (Refusing (refusals.Description f) text) ↔ (IsFirstFaultOf bytes f × (text ≡ []))
exactly_firsts Then quiet bytes f text = (λ x. told (refused_by (IsAcceptedAs bytes) (IsRefusedFirst bytes) Then (refusals.Description f) text ((stages bytes Then (Refusing (refusals.Description f) text)).0 x)), back)
  where
    told : Refuses (IsAcceptedAs bytes) (IsRefusedFirst bytes) Then (refusals.Description f) text → IsFirstFaultOf bytes f × (text ≡ [])
    told (behind c is then) = absurd (quiet c f text then)
    told (here w empty) = (subst (IsFirstFaultOf bytes) (sym (same_description f w.0 w.2)) w.1, empty)

    back : IsFirstFaultOf bytes f × (text ≡ []) → AfterSpelling bytes (λ d. AfterChecks d Then) (Refusing (refusals.Description f) text)
    back x = subst (λ (t : List ℕ). AfterSpelling bytes (λ d. AfterChecks d Then) (Refusing (refusals.Description f) t)) (sym x.1)
        ((stages bytes Then (Refusing (refusals.Description f) [])).1 (stopped (f, x.0, refl)))

-- bytes with a first fault aren't accepted
only_firsts : (Then : Checked → Outcome → Type 0) (bytes : List ℕ) (f : DescFault) (outcome : Outcome) → IsFirstFaultOf bytes f → AfterSpelling bytes (λ d. AfterChecks d Then) outcome
    → IsRefusedSo (λ (g : DescFault). refusals.Description g) (IsFirstFaultOf bytes) outcome
only_firsts Then bytes f outcome fault gives = by outcome ((stages bytes Then outcome).0 gives)
  where
    by : (outcome : Outcome) → After (IsAcceptedAs bytes) (IsRefusedFirst bytes) Then outcome → IsRefusedSo (λ (g : DescFault). refusals.Description g) (IsFirstFaultOf bytes) outcome
    by outcome (passed {a = c} is then) = absurd (not_both bytes c f is fault)
    by outcome (stopped w) = (w.0, w.1, ap (λ (r : Refusal). Refusing r []) w.2)

pub firsts : (Then : Checked → Outcome → Type 0) → IsQuiet Then → (bytes : List ℕ) → RefusesFirsts bytes (AfterSpelling bytes (λ d. AfterChecks d Then))
firsts Then quiet bytes = record { exactly = exactly_firsts Then quiet bytes; only = only_firsts Then bytes }

-- a step that looks for something and isn't refused so, with what isn't either behind it
pub never_after : {A : Type 0} (Found : A → Type 0) (Wrong : Refusal → Type 0) (Then : A → Outcome → Type 0) (r : Refusal) (text : List ℕ)
    → (Wrong r → ⊥) → ((a : A) → Then a (Refusing r text) → ⊥) → After Found Wrong Then (Refusing r text) → ⊥
never_after {A = A} Found Wrong Then r text wrong then x = by (refused_by Found Wrong Then r text x)
  where
    by : Refuses Found Wrong Then r text → ⊥
    by (behind a is next) = then a next
    by (here w empty) = wrong w

pub quiet_after : {A : Type 0} (Found : A → Type 0) (Wrong : Refusal → Type 0) (Then : A → Outcome → Type 0) (f : DescFault) (text : List ℕ)
    → (Wrong (refusals.Description f) → ⊥) → ((a : A) → Then a (Refusing (refusals.Description f) text) → ⊥) → After Found Wrong Then (Refusing (refusals.Description f) text) → ⊥
quiet_after Found Wrong Then f text wrong then x = never_after Found Wrong Then (refusals.Description f) text wrong then x

-- ---- what only prints a description, or counts what there is of it

exactly_unread : (bytes : List ℕ) (f : DescFault) (text : List ℕ) → AfterSpelling bytes Formats (Refusing (refusals.Description f) text) ↔ (IsBroken bytes f × (text ≡ []))
exactly_unread bytes f text = (λ x. told (refused_by (SpellsText bytes) (IsUnread bytes) Formats (refusals.Description f) text x), back)
  where
    told : Refuses (SpellsText bytes) (IsUnread bytes) Formats (refusals.Description f) text → IsBroken bytes f × (text ≡ [])
    told (behind d is then) = absurd (no_finish (refusals.Description f) text (canonical_text (description_tokens d)) then)
    told (here w empty) = (subst (IsBroken bytes) (sym (same_description f w.0 w.2)) w.1, empty)

    back : IsBroken bytes f × (text ≡ []) → AfterSpelling bytes Formats (Refusing (refusals.Description f) text)
    back x = subst (λ (t : List ℕ). AfterSpelling bytes Formats (Refusing (refusals.Description f) t)) (sym x.1) (stopped (f, x.0, refl))

only_unread : (bytes : List ℕ) (f : DescFault) (outcome : Outcome) → IsBroken bytes f → AfterSpelling bytes Formats outcome → IsRefusedSo (λ (g : DescFault). refusals.Description g) (IsBroken bytes) outcome
only_unread bytes f outcome fault (passed {a = d} spelled then) = absurd (spelled_unbroken bytes d f spelled fault)
only_unread bytes f outcome fault (stopped w) = (w.0, w.1, ap (λ (r : Refusal). Refusing r []) w.2)

pub formats_unread : (bytes : List ℕ) → RefusesUnread bytes (AfterSpelling bytes Formats)
formats_unread bytes = record { exactly = exactly_unread bytes; only = only_unread bytes }

pub checks_firsts : (bytes : List ℕ) → RefusesFirsts bytes (AfterSpelling bytes Checks)
checks_firsts bytes = firsts (λ c outcome. outcome ≡ Finished (counts_text (counts_of c))) (λ c f text e. no_finish (refusals.Description f) text (counts_text (counts_of c)) e) bytes

-- ---- runs

-- it is about neither an image, nor a schedule, nor a board, nor the input
pub record IsApart (r : Refusal) : Type 0 where
  pub image : (f : ImageFault) → r ≢ refusals.Image f
  pub schedule : (f : ScheduleFault) → r ≢ refusals.Schedule f
  pub board : (f : BoardFault) → r ≢ refusals.Board f
  pub input : r ≢ refusals.Input input_faults.TooLong

description_apart : (f : DescFault) → IsApart (refusals.Description f)
description_apart f = record { image = λ g e. cc e; schedule = λ g e. cc e; board = λ g e. cc e; input = λ e. cc e }

pub apart_image : (bytes : Option (List ℕ)) (r : Refusal) → IsApart r → IsNoImage bytes r → ⊥
apart_image None r apart w = w
apart_image (Some bytes) r apart w = apart.image (images.NotAnImage w.1.0) w.1.2

same_refusal : (r s : Refusal) (t u : List ℕ) → Refusing r t ≡ Refusing s u → r ≡ s
same_refusal r s t u e = cc

up : (late : Bool) (r : Refusal) (text answers : List ℕ) → IsApart r → Refusing r text ≡ given_up late answers → ⊥
up true r text answers apart e = apart.input (same_refusal r (refusals.Input input_faults.TooLong) text answers e)
up false r text answers apart e = no_finish r text answers e

on_board : (late : Bool) (r : Refusal) (text printed : List ℕ) → IsApart r → Refusing r text ≡ cond late (Refusing (refusals.Input input_faults.TooLong) []) (Finished printed) → ⊥
on_board true r text printed apart e = apart.input (same_refusal r (refusals.Input input_faults.TooLong) text [] e)
on_board false r text printed apart e = no_finish r text printed e

apart_task : (task : Task) (m : Machine) (input : List ℕ) (driver : Driver (is_on_board task)) (r : Refusal) (text : List ℕ) → IsApart r → GivesTask task m input driver (Refusing r text) → ⊥
apart_task (tasks.State edges) m input lines r text apart e = no_finish _ _ _ e
apart_task (tasks.Trace edges) m input lines r text apart e = no_finish _ _ _ e
apart_task (tasks.Waves edges) m input lines r text apart e = no_finish _ _ _ e
apart_task (tasks.Board edges) m input devices r text apart e = on_board (nat_lt board_input_limit (length input)) r text (output m devices input edges) apart e
apart_task tasks.Answers m input lines r text apart e = up (is_too_long (course_of m lines) input) r text (session_text (course_of m lines) input) apart e

apart_driver : (board : Bool) (m : Machine) (third : List ℕ) (r : Refusal) → IsApart r → IsNoDriver board m.items m.pins third r → ⊥
apart_driver true m third r apart w = apart.board w.0 w.2
apart_driver false m third r apart w = apart.schedule w.0 w.2

apart_under : (task : Task) (m : Machine) (third input : List ℕ) (r : Refusal) (text : List ℕ) → IsApart r → GivesUnder task m third input (Refusing r text) → ⊥
apart_under task m third input r text apart = never_after (IsDriver (is_on_board task) m.items m.pins third) (IsNoDriver (is_on_board task) m.items m.pins third) (GivesTask task m input) r text
    (apart_driver (is_on_board task) m third r apart)
    (λ driver. apart_task task m input driver r text apart)

apart_missing : (arrays : List ArrayItem) (memories : List Memory) (r : Refusal) → IsApart r → IsMissing arrays memories r → ⊥
apart_missing arrays memories r apart w = apart.image (images.NoSuchMemory w.0) w.2

pub apart_made : (task : Task) (m : Machine) (memories : List Memory) (schedule input : List ℕ) (r : Refusal) (text : List ℕ) → IsApart r → GivesMade task m memories schedule input (Refusing r text) → ⊥
apart_made task m memories schedule input r text apart = never_after (IsMade m memories) (IsMissing m.arrays memories) (λ machine. GivesUnder task machine schedule input) r text
    (apart_missing m.arrays memories r apart)
    (λ machine. apart_under task machine schedule input r text apart)

-- a memory that is missing
pub none_missing : (arrays : List ArrayItem) (memories : List Memory) (f : DescFault) → IsMissing arrays memories (refusals.Description f) → ⊥
none_missing arrays memories f w = apart_missing arrays memories (refusals.Description f) (description_apart f) w

-- no image for a description
pub none_for : (d : DescriptionTree) (bytes : Option (List ℕ)) (f : DescFault) → IsNoImageFor d bytes (refusals.Description f) → ⊥
none_for d bytes f w = ⊎_elim (λ n. apart_image bytes (refusals.Description f) (description_apart f) n) (λ (a : IsForAnother d bytes (refusals.Description f)). let e = a.3 in cc) w

-- what a task gives over a description with these memories first
abbrev Made : Task → RunBytes → List ℕ → Checked → List Memory → Outcome → Type 0
Made task bytes input c memories = GivesMade task (described_machine c memories) memories (schedule_bytes bytes.schedule) input

quiet_run : (task : Task) (bytes : RunBytes) (input : List ℕ) → IsQuiet (GivesChecked task bytes input)
quiet_run task bytes input c f text = quiet_after (IsImageFor c.tree bytes.image) (IsNoImageFor c.tree bytes.image) (Made task bytes input c) f text
    (none_for c.tree bytes.image f)
    (λ memories. apart_made task (described_machine c memories) memories (schedule_bytes bytes.schedule) input (refusals.Description f) text (description_apart f))

pub runs_firsts : (task : Task) (bytes : RunBytes) (input : List ℕ) → RefusesFirsts bytes.main (GivesRun task bytes input)
runs_firsts task bytes input = firsts (GivesChecked task bytes input) (quiet_run task bytes input) bytes.main

-- ---- clocks

module_apart : (f : VerilogFault) → IsApart (refusals.Verilog f)
module_apart f = record { image = λ g e. cc e; schedule = λ g e. cc e; board = λ g e. cc e; input = λ e. cc e }

same_module : (f g : VerilogFault) → refusals.Verilog f ≡ refusals.Verilog g → f ≡ g
same_module f g e = cc

module_fault : (bytes : RunBytes) (f : VerilogFault) (r : Refusal) → r ≡ refusals.Verilog f → IsNoDesign bytes r → VFault bytes.main f
module_fault bytes f r e (no_module w) = subst (VFault bytes.main) (same_module w.0 f (sym w.2 ∙ e)) w.1
module_fault bytes f r e (no_image accepted n) = absurd (apart_image bytes.image (refusals.Verilog f) (module_apart f) (subst (IsNoImage bytes.image) e n))

-- what a task gives over the clock of a design
abbrev Clocked : Task → RunBytes → List ℕ → Design → Outcome → Type 0
Clocked task bytes input d = GivesMade task (clock_machine d) d.memories (schedule_bytes bytes.schedule) input

exactly_modules : (task : Task) (bytes : RunBytes) (input : List ℕ) (f : VerilogFault) (text : List ℕ)
    → GivesClock task bytes input (Refusing (refusals.Verilog f) text) ↔ (VFault bytes.main f × (text ≡ []))
exactly_modules task bytes input f text = (λ x. told (refused_by (IsDesign bytes) (IsNoDesign bytes) (Clocked task bytes input) (refusals.Verilog f) text x), back)
  where
    told : Refuses (IsDesign bytes) (IsNoDesign bytes) (Clocked task bytes input) (refusals.Verilog f) text → VFault bytes.main f × (text ≡ [])
    told (behind d is then) = absurd (apart_made task (clock_machine d) d.memories (schedule_bytes bytes.schedule) input (refusals.Verilog f) text (module_apart f) then)
    told (here w empty) = (module_fault bytes f (refusals.Verilog f) refl w, empty)

    back : VFault bytes.main f × (text ≡ []) → GivesClock task bytes input (Refusing (refusals.Verilog f) text)
    back x = subst (λ (t : List ℕ). GivesClock task bytes input (Refusing (refusals.Verilog f) t)) (sym x.1) (stopped (no_module (f, x.0, refl)))

only_module : (bytes : RunBytes) (f : VerilogFault) (r : Refusal) → VFault bytes.main f → IsNoDesign bytes r → IsRefusedSo (λ (g : VerilogFault). refusals.Verilog g) (VFault bytes.main) (Refusing r [])
only_module bytes f r fault (no_module w) = (w.0, w.1, ap (λ (x : Refusal). Refusing x []) w.2)
only_module bytes f r fault (no_image {tree = m} accepted n) = absurd (accepted_unbroken bytes.main m f accepted fault)

only_modules : (task : Task) (bytes : RunBytes) (input : List ℕ) (f : VerilogFault) (outcome : Outcome) → VFault bytes.main f → GivesClock task bytes input outcome
    → IsRefusedSo (λ (g : VerilogFault). refusals.Verilog g) (VFault bytes.main) outcome
only_modules task bytes input f outcome fault (passed {a = d} is then) = absurd (accepted_unbroken bytes.main d.tree f is.accepted fault)
only_modules task bytes input f outcome fault (stopped {refusal = r} w) = only_module bytes f r fault w

pub clocks_firsts : (task : Task) (bytes : RunBytes) (input : List ℕ) → RefusesModules bytes.main (GivesClock task bytes input)
clocks_firsts task bytes input = record { exactly = exactly_modules task bytes input; only = only_modules task bytes input }

-- what never gives such a refusal
pub never_refuses : (Gives : Outcome → Type 0) → ((f : DescFault) (text : List ℕ) → Gives (Refusing (refusals.Description f) text) → ⊥) → RefusesWith (λ f. ⊥) Gives
never_refuses Gives quiet = record { exactly = λ f text. (λ x. absurd (quiet f text x), λ x. absurd x.0); only = λ f outcome none gives. absurd none }

-- they refuse no description
no_description : (bytes : RunBytes) (f : DescFault) (r : Refusal) → r ≡ refusals.Description f → IsNoDesign bytes r → ⊥
no_description bytes f r e (no_module w) = let other = sym w.2 ∙ e in cc other
no_description bytes f r e (no_image accepted n) = apart_image bytes.image (refusals.Description f) (description_apart f) (subst (IsNoImage bytes.image) e n)

pub clocks_none : (task : Task) (bytes : RunBytes) (input : List ℕ) → RefusesWith (λ f. ⊥) (GivesClock task bytes input)
clocks_none task bytes input = never_refuses (GivesClock task bytes input) quiet
  where
    quiet : (f : DescFault) (text : List ℕ) → GivesClock task bytes input (Refusing (refusals.Description f) text) → ⊥
    quiet f text x = quiet_after (IsDesign bytes) (IsNoDesign bytes) (Clocked task bytes input) f text (no_description bytes f (refusals.Description f) refl)
        (λ d. apart_made task (clock_machine d) d.memories (schedule_bytes bytes.schedule) input (refusals.Description f) text (description_apart f)) x
