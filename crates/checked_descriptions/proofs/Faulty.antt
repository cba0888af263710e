-- Bytes that spell no description.
use Rattle.std.proofs.Common.{◌≡◌, ◌∙◌, sym, ap, refl, subst, List, ℕ, Err, ◌⊎◌, inl, inr, ⊎_elim}
use Rattle.lisa_tree.specs.declared.faults.DescFault.{DescFault}
use Rattle.lisa_tree.specs.declared.faults.DescFault.TheVariants as descriptions
use Rattle.lisa_tree.specs.declared.descriptions.Description.{Description}
use Rattle.lisa_tree.specs.Descriptions.{DescriptionTree, description_tree}
use Rattle.lisa_tree.specs.Texts.{SpellsText}
use Rattle.lisa_outcomes.specs.declared.status.End.{End}
use Rattle.lisa_outcomes.specs.declared.status.End.TheVariants as ends
use Rattle.lisa_outcomes.specs.declared.status.Refusal.{Refusal}
use Rattle.lisa_outcomes.specs.declared.status.Refusal.TheVariants as refusals
use Rattle.lisa_reader.specs.Answers.{IsBroken}
use Rattle.checked_descriptions.specs.Descriptions.{IsUnread}
use Rattle.lisa_outcomes.specs.Stages.{Finds}
use Rattle.checked_descriptions.specs.Unread.{unread_end}
use Rattle.lisa_outcomes.proofs.Finding.{found_memory, found_refused}
use Rattle.lisa_outcomes.proofs.Refusals.{description_refusal}

pub memory_is_no_refusal : (r : Refusal) → ends.NoMemory ≡ ends.Refused r → ⊥
memory_is_no_refusal r e = cc

-- the end is want of memory, or the fault is the refusal
pub unread_is : (f : DescFault) → (unread_end f ≡ ends.NoMemory) ⊎ (unread_end f ≡ ends.Refused (refusals.Description f))
unread_is descriptions.NoMemory = inl refl
unread_is _ = inr refl

pub unread_finds : (bytes : List ℕ) (f : DescFault) → ((f ≡ descriptions.NoMemory) ⊎ IsBroken bytes f) → ((t : DescriptionTree) → SpellsText bytes t → f ≡ descriptions.NoMemory)
    → Finds {X = Description} description_tree (SpellsText bytes) (IsUnread bytes) (Err (unread_end f))
unread_finds bytes f broken only = ⊎_elim
    (λ m. subst (λ (e : End). Finds {X = Description} description_tree (SpellsText bytes) (IsUnread bytes) (Err e)) (sym m) (found_memory description_tree (SpellsText bytes) (IsUnread bytes)))
    (λ r. subst (λ (e : End). Finds {X = Description} description_tree (SpellsText bytes) (IsUnread bytes) (Err e)) (sym r)
    (found_refused description_tree (SpellsText bytes) (IsUnread bytes) (refusals.Description f) (description_refusal f (λ e. wanted e r))
    (⊎_elim (λ w. absurd (wanted w r)) (λ b. (f, b, refl)) broken) (λ t h. wanted (only t h) r)))
    (unread_is f)
  where
    wanted : f ≡ descriptions.NoMemory → unread_end f ≡ ends.Refused (refusals.Description f) → ⊥
    wanted w r = memory_is_no_refusal _ (ap unread_end (sym w) ∙ r)
