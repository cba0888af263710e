-- From what reading and assembling a source answer to what a command finds.
use Rattle.std.proofs.Common.{◌≡◌, ◌≢◌, ◌∙◌, sym, ap, refl, subst, ℕ, List, [], map, Option, None, Result, Ok, Err, ◌⊎◌, inl, inr, ⊎_elim}
use Rattle.std.specs.Global.{Vec}
use Rattle.asm_source.specs.declared.parts.SourceLine.{SourceLine}
use Rattle.asm_source.specs.declared.flaw.SourceFault.{SourceFault}
use Rattle.asm_source.specs.declared.flaw.SourceFault.TheVariants as sources
use Rattle.asm_source.specs.Plain.{PlainLine, line_tree}
use Rattle.asm_source.specs.Source.{source_of}
use Rattle.asm_source.specs.Gives.{Misses}
use Rattle.lisa_tree.specs.Descriptions.{DescriptionTree}
use Rattle.lisa_object.specs.declared.parts.Object.{Object}
use Rattle.lisa_object.specs.Objects.{PlainObject, object_tree}
use Rattle.lisa_object.specs.ObjectText.{object_text}
use Rattle.source_promises.specs.lisa_assembler.Objects.{IsObjectOf}
use Rattle.source_promises.specs.lisa_assembler.Faults.{IsSourceFault}
use Rattle.source_promises.specs.lisa_assembler.Sourced.{IsObjectOfBytes, IsFaultOfBytes}
use Rattle.lisa_outcomes.specs.declared.status.End.{End}
use Rattle.lisa_outcomes.specs.declared.status.End.TheVariants as ends
use Rattle.lisa_outcomes.specs.declared.status.Refusal.TheVariants as refusals
use Rattle.lisa_outcomes.specs.Outcomes.{Outcome, Finished}
use Rattle.lisa_outcomes.specs.Replies.{Replies}
use Rattle.lisa_outcomes.specs.Stages.{Finds}
use Rattle.lisa_outcomes.proofs.Finding.{found_ok, found_memory, found_refused}
use Rattle.lisa_outcomes.proofs.Refusals.{source_refusal}
use Rattle.lisa_outcomes.proofs.Told.{ok_is_no_err}
use Rattle.lisa_outcomes.proofs.Stages.{passed_replies, stopped_replies, memory_replies}
use Rattle.assembler_commands.specs.Assembled.{IsSource, IsNoSource, IsUnassembled, AfterSource, Assembles}
use Rattle.assembler_commands.specs.Unlinked.{unassembled_end}

ok_is : (a b : List PlainLine) → ◌≡◌ {A = Result (List PlainLine) SourceFault} (Ok a) (Ok b) → a ≡ b
ok_is a b e = cc

-- ---- lines

abbrev lines_tree : Vec SourceLine → List PlainLine
lines_tree lines = map line_tree lines.items

pub sourced_finds : (bytes : List ℕ) (lines : Vec SourceLine) → source_of bytes ≡ Ok (map line_tree lines.items)
    → Finds {X = Vec SourceLine} (λ lines. map line_tree lines.items) (IsSource bytes) (IsNoSource bytes) (Ok lines)
sourced_finds bytes lines e =
    found_ok lines_tree (IsSource bytes) (IsNoSource bytes) lines e (λ others is. ok_is _ _ (sym e ∙ is)) (λ refusal wrong. ok_is_no_err _ _ (sym e ∙ wrong.1))

module _ (bytes : List ℕ) where
  refused : (f : SourceFault) → f ≢ sources.NoMemory → source_of bytes ≡ Err f
      → Finds {X = Vec SourceLine} (λ lines. map line_tree lines.items) (IsSource bytes) (IsNoSource bytes) (Err (ends.Refused (refusals.Source f)))
  refused f other e =
      found_refused lines_tree (IsSource bytes) (IsNoSource bytes) (refusals.Source f) (source_refusal f other) (f, e, refl) (λ lines is. ok_is_no_err _ _ (sym is ∙ e))

  pub unsourced_finds : (f : SourceFault) → Misses f (source_of bytes)
      → Finds {X = Vec SourceLine} (λ lines. map line_tree lines.items) (IsSource bytes) (IsNoSource bytes) (Err (unassembled_end f))
  unsourced_finds sources.NoMemory e = found_memory lines_tree (IsSource bytes) (IsNoSource bytes)
  unsourced_finds (sources.BadLine line) e = refused (sources.BadLine line) (λ w. cc) e
  unsourced_finds (sources.UnknownDirective line) e = refused (sources.UnknownDirective line) (λ w. cc) e
  unsourced_finds (sources.BadExpression line) e = refused (sources.BadExpression line) (λ w. cc) e
  unsourced_finds (sources.NoSection line) e = refused (sources.NoSection line) (λ w. cc) e
  unsourced_finds (sources.UnknownMemory line name) e = refused (sources.UnknownMemory line name) (λ w. cc) e
  unsourced_finds (sources.NotProgram line) e = refused (sources.NotProgram line) (λ w. cc) e
  unsourced_finds (sources.NoInstruction line) e = refused (sources.NoInstruction line) (λ w. cc) e
  unsourced_finds (sources.TwoInstructions line first second) e = refused (sources.TwoInstructions line first second) (λ w. cc) e
  unsourced_finds (sources.DuplicateLabel line name) e = refused (sources.DuplicateLabel line name) (λ w. cc) e
  unsourced_finds (sources.FieldRange line value width) e = refused (sources.FieldRange line value width) (λ w. cc) e

-- ---- objects

module _ (d : DescriptionTree) (ls : List PlainLine)
    (one : (o p : PlainObject) → IsObjectOf d ls o → IsObjectOf d ls p → o ≡ p)
    (apart : (o : PlainObject) (f : SourceFault) → IsObjectOf d ls o → IsSourceFault d None [] ls f → ⊥) where
  pub object_finds : (o : Object) → IsObjectOf d ls (object_tree o) → Finds {X = Object} object_tree (IsObjectOf d ls) (IsUnassembled d ls) (Ok o)
  object_finds o is = found_ok object_tree (IsObjectOf d ls) (IsUnassembled d ls) o is (λ p other. one (object_tree o) p is other) (λ refusal wrong. apart (object_tree o) wrong.0 is wrong.1)

  stopped : (f : SourceFault) → f ≢ sources.NoMemory → ((f ≡ sources.NoMemory) ⊎ IsSourceFault d None [] ls f) → Finds {X = Object} object_tree (IsObjectOf d ls) (IsUnassembled d ls) (Err (ends.Refused (refusals.Source f)))
  stopped f other broken = ⊎_elim (λ m. absurd (other m))
      (λ b. found_refused object_tree (IsObjectOf d ls) (IsUnassembled d ls) (refusals.Source f) (source_refusal f other) (f, b, refl) (λ o is. apart o f is b))
      broken

  pub unobject_finds : (f : SourceFault) → ((f ≡ sources.NoMemory) ⊎ IsSourceFault d None [] ls f) → Finds {X = Object} object_tree (IsObjectOf d ls) (IsUnassembled d ls) (Err (unassembled_end f))
  unobject_finds sources.NoMemory e = found_memory object_tree (IsObjectOf d ls) (IsUnassembled d ls)
  unobject_finds (sources.BadLine line) e = stopped (sources.BadLine line) (λ w. cc) e
  unobject_finds (sources.UnknownDirective line) e = stopped (sources.UnknownDirective line) (λ w. cc) e
  unobject_finds (sources.BadExpression line) e = stopped (sources.BadExpression line) (λ w. cc) e
  unobject_finds (sources.NoSection line) e = stopped (sources.NoSection line) (λ w. cc) e
  unobject_finds (sources.UnknownMemory line name) e = stopped (sources.UnknownMemory line name) (λ w. cc) e
  unobject_finds (sources.NotProgram line) e = stopped (sources.NotProgram line) (λ w. cc) e
  unobject_finds (sources.NoInstruction line) e = stopped (sources.NoInstruction line) (λ w. cc) e
  unobject_finds (sources.TwoInstructions line first second) e = stopped (sources.TwoInstructions line first second) (λ w. cc) e
  unobject_finds (sources.DuplicateLabel line name) e = stopped (sources.DuplicateLabel line name) (λ w. cc) e
  unobject_finds (sources.FieldRange line value width) e = stopped (sources.FieldRange line value width) (λ w. cc) e

-- ---- bytes

lines_finds : (bytes : List ℕ) (ls : List PlainLine) → source_of bytes ≡ Ok ls → Finds {X = List PlainLine} (λ lines. lines) (IsSource bytes) (IsNoSource bytes) (Ok ls)
lines_finds bytes ls e =
    found_ok {X = List PlainLine} (λ lines. lines) (IsSource bytes) (IsNoSource bytes) ls e (λ others is. ok_is _ _ (sym e ∙ is)) (λ refusal wrong. ok_is_no_err _ _ (sym e ∙ wrong.1))

misses : (f : SourceFault) (bytes : List ℕ) → source_of bytes ≡ Err f → Misses f (source_of bytes)
misses sources.NoMemory bytes e = tt
misses f bytes e = e

abbrev WritesText : PlainObject → Outcome → Type 0
WritesText object outcome = outcome ≡ Finished (object_text object)

module _ (d : DescriptionTree) (bytes : List ℕ)
    (one : (ls : List PlainLine) (o p : PlainObject) → IsObjectOf d ls o → IsObjectOf d ls p → o ≡ p)
    (apart : (ls : List PlainLine) (o : PlainObject) (f : SourceFault) → IsObjectOf d ls o → IsSourceFault d None [] ls f → ⊥) where
  -- the lines that bytes say have this object
  pub assembled_replies : (o : Object) → IsObjectOfBytes d bytes (object_tree o) → (before after : Option (List ℕ)) (old new : ℕ) (result : Result (Unit {0}) End)
      → Replies {T = Unit {0}} (WritesText (object_tree o)) before after old new result → Replies {T = Unit {0}} (AfterSource bytes (Assembles d)) before after old new result
  assembled_replies o is before after old new result replies =
      let ls = is.0 in
      passed_replies {X = List PlainLine} {T = Unit {0}} (λ lines. lines) (IsSource bytes) (IsNoSource bytes) (Assembles d) ls before after old new result (lines_finds bytes ls is.1)
      (passed_replies {X = Object} {T = Unit {0}} object_tree (IsObjectOf d ls) (IsUnassembled d ls) WritesText o before after old new result (object_finds d ls (one ls) (apart ls) o is.2) replies)

  -- they have this fault
  pub unassembled_replies : (f : SourceFault) → (f ≡ sources.NoMemory) ⊎ IsFaultOfBytes d bytes f → (sink : Option (List ℕ)) (old : ℕ)
      → Replies {T = Unit {0}} (AfterSource bytes (Assembles d)) sink sink old old (Err (unassembled_end f))
  unassembled_replies f (inl e) sink old = rw e (memory_replies {T = Unit {0}} (AfterSource bytes (Assembles d)) sink old)
  unassembled_replies f (inr (inl e)) sink old =
      stopped_replies {X = Vec SourceLine} {T = Unit {0}} lines_tree (IsSource bytes) (IsNoSource bytes) (Assembles d) (unassembled_end f) sink old (unsourced_finds bytes f (misses f bytes e))
  unassembled_replies f (inr (inr is)) sink old =
      let ls = is.0 in
      passed_replies {X = List PlainLine} {T = Unit {0}} (λ lines. lines) (IsSource bytes) (IsNoSource bytes) (Assembles d) ls sink sink old old (Err (unassembled_end f)) (lines_finds bytes ls is.1)
      (stopped_replies {X = Object} {T = Unit {0}} object_tree (IsObjectOf d ls) (IsUnassembled d ls) WritesText (unassembled_end f) sink old (unobject_finds d ls (one ls) (apart ls) f (inr is.2)))
