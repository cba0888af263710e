-- From what listing an image answers to what a command replies.
use Rattle.std.proofs.Common.{◌≡◌, ◌≢◌, ◌∙◌, sym, ap, refl, subst, ℕ, List, Option, None, Some, Result, Ok, Err, IsOk, ◌⊎◌, inl, inr, ⊎_elim}
use Rattle.std.specs.Prelude.{find, not, option_map}
use Rattle.std.specs.List.{list_any}
use Rattle.std.specs.Io.KnownBytes.{Appends}
use Rattle.lisa_io.specs.Causes.{Rose}
use Rattle.lisa_tree.specs.Descriptions.{DescriptionTree}
use Rattle.lisa_engine.specs.Memory.{Memory}
use Rattle.lisa_engine.specs.Images.{is_array, missing_memory}
use Rattle.lisa_engine.specs.Traces.{PutsUnless}
use Rattle.lisa_engine.specs.declared.parts.ArrayItem.{ArrayItem}
use Rattle.lisa_engine.specs.declared.trace.TraceEnd.{TraceEnd}
use Rattle.lisa_engine.specs.declared.trace.TraceEnd.TheVariants as trace_ends
use Rattle.lisa_object.specs.declared.faults.ImageFault.TheVariants as images
use Rattle.source_promises.specs.lisa_assembler.Memories.{memory_items}
use Rattle.lisa_disasm.specs.Listings.{IsListing}
use Rattle.lisa_outcomes.specs.declared.status.End.{End}
use Rattle.lisa_outcomes.specs.declared.status.End.TheVariants as ends
use Rattle.lisa_outcomes.specs.declared.status.Refusal.{Refusal}
use Rattle.lisa_outcomes.specs.declared.status.Refusal.TheVariants as refusals
use Rattle.lisa_outcomes.specs.Outcomes.{Outcome, Finished, Refusing}
use Rattle.lisa_outcomes.specs.Replies.{Replies}
use Rattle.lisa_outcomes.specs.Stages.{Finds}
use Rattle.lisa_outcomes.proofs.Finding.{found_ok, found_memory, found_refused}
use Rattle.lisa_outcomes.proofs.Refusals.{image_refusal}
use Rattle.lisa_outcomes.proofs.Told.{err_is, not_ok, ok_is_no_err, none_is_no_some}
use Rattle.checked_descriptions.specs.engine_commands.Images.{IsMissing}
use Rattle.assembler_commands.specs.Listed.{AreThere, IsListed}

-- ---- memories

abbrev pub first_missing : List ArrayItem → List Memory → Option Memory
first_missing memories image = find (λ memory. not (list_any (is_array memory) memories)) image

pub there_finds : (d : DescriptionTree) (image : List Memory) → first_missing (memory_items d) image ≡ None → Finds {X = Unit {0}} (λ _. image) (AreThere d image) (IsMissing (memory_items d) image) (Ok tt)
there_finds d image none =
    let whole : missing_memory (memory_items d) image ≡ None = ap (λ (m : Option Memory). option_map (λ memory. memory.name) m) none in
    found_ok (λ (_ : Unit {0}). image) (AreThere d image) (IsMissing (memory_items d) image) tt (whole, refl) (λ other there. sym there.1) (λ refusal wrong. none_is_no_some _ (sym whole ∙ wrong.1))

pub missing_finds : (d : DescriptionTree) (image : List Memory) (memory : Memory) (end : End) → first_missing (memory_items d) image ≡ Some memory
    → ((end ≡ ends.NoMemory) ⊎ (end ≡ ends.Refused (refusals.Image (images.NoSuchMemory memory.name))))
    → Finds {X = Unit {0}} (λ _. image) (AreThere d image) (IsMissing (memory_items d) image) (Err end)
missing_finds d image memory end some is =
    let found : missing_memory (memory_items d) image ≡ Some memory.name = ap (λ (m : Option Memory). option_map (λ memory. memory.name) m) some in
    ⊎_elim
    (λ m. subst (λ (e : End). Finds {X = Unit {0}} (λ _. image) (AreThere d image) (IsMissing (memory_items d) image) (Err e)) (sym m) (found_memory (λ (_ : Unit {0}). image) (AreThere d image) (IsMissing (memory_items d) image)))
    (λ r. subst (λ (e : End). Finds {X = Unit {0}} (λ _. image) (AreThere d image) (IsMissing (memory_items d) image) (Err e)) (sym r)
    (found_refused (λ (_ : Unit {0}). image) (AreThere d image) (IsMissing (memory_items d) image) (refusals.Image (images.NoSuchMemory memory.name)) (image_refusal (images.NoSuchMemory memory.name) (λ e. cc))
    (memory.name, found, refl) (λ other there. none_is_no_some _ (sym there.0 ∙ found))))
    is

-- ---- the listing

refusing_is_no_finished : (refusal : Refusal) (text other : List ℕ) → Refusing refusal text ≡ Finished other → ⊥
refusing_is_no_finished refusal text other e = cc

memory_is_no_refusal : (r : Refusal) → ends.NoMemory ≡ ends.Refused r → ⊥
memory_is_no_refusal r e = cc

write_is_no_refusal : (r : Refusal) → ends.WriteFault ≡ ends.Refused r → ⊥
write_is_no_refusal r e = cc

memory_is_no_read : ends.NoMemory ≡ ends.ReadFault → ⊥
memory_is_no_read e = cc

write_is_no_read : ends.WriteFault ≡ ends.ReadFault → ⊥
write_is_no_read e = cc

memory_is_no_write : ends.NoMemory ≡ ends.WriteFault → ⊥
memory_is_no_write e = cc

-- how a command ends whose listing was written, or wasn't
abbrev pub listed_end : TraceEnd → End
listed_end trace_ends.WriteFault = ends.WriteFault
listed_end trace_ends.NoMemory = ends.NoMemory

no_refusal : (e : TraceEnd) (r : Refusal) → listed_end e ≡ ends.Refused r → ⊥
no_refusal trace_ends.WriteFault r is = write_is_no_refusal r is
no_refusal trace_ends.NoMemory r is = memory_is_no_refusal r is

no_read : (e : TraceEnd) → listed_end e ≡ ends.ReadFault → ⊥
no_read trace_ends.WriteFault is = write_is_no_read is
no_read trace_ends.NoMemory is = memory_is_no_read is

rose : (before after : Option (List ℕ)) (old new : ℕ) (e : TraceEnd) (text : List ℕ) → PutsUnless {T = Unit {0}} before after old new (Err e) text → listed_end e ≡ ends.WriteFault → Rose old new
rose before after old new trace_ends.WriteFault text puts is = puts.fault refl
rose before after old new trace_ends.NoMemory text puts is = absurd (memory_is_no_write is)

pub listed : (d : DescriptionTree) (image : List Memory) (before after : Option (List ℕ)) (old new : ℕ) (text : List ℕ) → IsListing d image text → PutsUnless {T = Unit {0}} before after old new (Ok tt) text
    → Replies {T = Unit {0}} (IsListed d image) before after old new (Ok tt)
listed d image before after old new text is puts = record {
  done = λ ok. (text, (text, is, refl), puts.all);
  refused = λ refusal e. absurd (ok_is_no_err _ _ e);
  real = λ refusal e. absurd (ok_is_no_err _ _ e);
  read = λ e. ok_is_no_err _ _ e;
  later = puts.later;
  write = λ e. absurd (ok_is_no_err _ _ e);
  front = inr (Finished text, (text, is, refl), puts.front);
  finished = λ other gives refusal e. ok_is_no_err _ _ e;
  refusing = λ refusal other gives ok. refusing_is_no_finished refusal other gives.0 gives.2;
}

pub unlisted : (d : DescriptionTree) (image : List Memory) (before after : Option (List ℕ)) (old new : ℕ) (text : List ℕ) (e : TraceEnd) → IsListing d image text → PutsUnless {T = Unit {0}} before after old new (Err e) text
    → Replies {T = Unit {0}} (IsListed d image) before after old new (Err (listed_end e))
unlisted d image before after old new text e is puts = record {
  done = λ ok. absurd (not_ok ok);
  refused = λ refusal r. absurd (no_refusal e refusal (err_is _ _ r));
  real = λ refusal r. absurd (no_refusal e refusal (err_is _ _ r));
  read = λ r. no_read e (err_is _ _ r);
  later = puts.later;
  write = λ r. rose before after old new e text puts (err_is _ _ r);
  front = inr (Finished text, (text, is, refl), puts.front);
  finished = λ other gives refusal r. no_refusal e refusal (err_is _ _ r);
  refusing = λ refusal other gives ok. refusing_is_no_finished refusal other gives.0 gives.2;
}
