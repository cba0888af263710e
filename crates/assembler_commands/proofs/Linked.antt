-- From what linking answers to what a command finds.
use Rattle.std.proofs.Common.{◌≡◌, ◌∙◌, sym, ap, refl, subst, ℕ, List, Option, None, Some, Result, Ok, Err, ◌⊎◌, inl, inr, ⊎_elim}
use Rattle.lisa_tree.specs.Descriptions.{DescriptionTree}
use Rattle.lisa_engine.specs.Memory.{Memory}
use Rattle.lisa_object.specs.Objects.{PlainObject}
use Rattle.lisa_object.specs.declared.faults.LinkFault.{LinkFault}
use Rattle.lisa_object.specs.declared.faults.LinkFault.TheVariants as links
use Rattle.placed_programs.specs.Placed.{object_sense, placed_image}
use Rattle.object_links.specs.LineNames.{parts_of}
use Rattle.object_links.specs.LinkFaults.{link_fault}
use Rattle.source_promises.specs.lisa_assembler.Memories.{memory_items}
use Rattle.lisa_outcomes.specs.declared.status.End.{End}
use Rattle.lisa_outcomes.specs.declared.status.End.TheVariants as ends
use Rattle.lisa_outcomes.specs.declared.status.Refusal.{Refusal}
use Rattle.lisa_outcomes.specs.declared.status.Refusal.TheVariants as refusals
use Rattle.lisa_outcomes.specs.Stages.{Finds}
use Rattle.lisa_outcomes.proofs.Finding.{found_ok, found_memory, found_refused}
use Rattle.lisa_outcomes.proofs.Refusals.{link_refusal}
use Rattle.lisa_outcomes.proofs.Told.{none_is_no_some}
use Rattle.assembler_commands.specs.Links.{IsLinked, IsUnlinked}
use Rattle.assembler_commands.specs.Unlinked.{unlinked_end}

pub linked_finds : (d : DescriptionTree) (objects : List PlainObject) (image : List Memory) → image ≡ placed_image object_sense (memory_items d) (parts_of objects) → link_fault (memory_items d) (parts_of objects) ≡ None
    → Finds {X = List Memory} (λ image. image) (IsLinked d objects) (IsUnlinked d objects) (Ok image)
linked_finds d objects image is whole = found_ok (λ (i : List Memory). i) (IsLinked d objects) (IsUnlinked d objects) image (record { whole = whole; is = is })
    (λ other linked. is ∙ sym linked.is) (λ refusal wrong. none_is_no_some _ (sym whole ∙ wrong.1))

memory_is_no_refusal : (r : Refusal) → ends.NoMemory ≡ ends.Refused r → ⊥
memory_is_no_refusal r e = cc

unlinked_is : (f : LinkFault) → (unlinked_end f ≡ ends.NoMemory) ⊎ (unlinked_end f ≡ ends.Refused (refusals.Link f))
unlinked_is links.NoMemory = inl refl
unlinked_is (links.NoSuchMemory name) = inr refl
unlinked_is (links.DuplicateGlobal name) = inr refl
unlinked_is (links.DoesNotFit memory cells depth) = inr refl
unlinked_is (links.Undefined object name) = inr refl
unlinked_is (links.FieldRange object memory address value width) = inr refl

pub unlinked_finds : (d : DescriptionTree) (objects : List PlainObject) (f : LinkFault) → ((f ≡ links.NoMemory) ⊎ (link_fault (memory_items d) (parts_of objects) ≡ Some f))
    → Finds {X = List Memory} (λ image. image) (IsLinked d objects) (IsUnlinked d objects) (Err (unlinked_end f))
unlinked_finds d objects f broken = ⊎_elim
    (λ m. subst (λ (e : End). Finds {X = List Memory} (λ image. image) (IsLinked d objects) (IsUnlinked d objects) (Err e)) (sym m) (found_memory (λ (i : List Memory). i) (IsLinked d objects) (IsUnlinked d objects)))
    (λ r. subst (λ (e : End). Finds {X = List Memory} (λ image. image) (IsLinked d objects) (IsUnlinked d objects) (Err e)) (sym r)
    (⊎_elim (λ w. absurd (wanted w r))
    (λ b. found_refused (λ (i : List Memory). i) (IsLinked d objects) (IsUnlinked d objects) (refusals.Link f) (link_refusal f (λ e. wanted e r)) (f, b, refl)
    (λ image linked. none_is_no_some _ (sym linked.whole ∙ b))) broken))
    (unlinked_is f)
  where
    wanted : f ≡ links.NoMemory → unlinked_end f ≡ ends.Refused (refusals.Link f) → ⊥
    wanted w r = memory_is_no_refusal _ (ap unlinked_end (sym w) ∙ r)
