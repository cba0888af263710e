-- The image of one object keeps the rules of images.
use Rattle.std.proofs.Common.{◌≡◌, ◌<◌, ℕ, zero, suc, List, [], ◌∷◌, length, get_or, Option, None, Some, refl, sym, subst, arith}
use Rattle.std.specs.Option.{option_or, option_map}
use Rattle.lisa_engine.specs.Memory.{Memory}
use Rattle.lisa_engine.specs.Images.{IsImage}
use Rattle.lisa_engine.specs.declared.parts.ArrayItem.{ArrayItem}
use Rattle.lisa_tree.specs.Descriptions.{DescriptionTree}
use Rattle.lisa_object.specs.declared.faults.LinkFault.{LinkFault}
use Rattle.lisa_object.specs.declared.faults.LinkFault.TheVariants as faults
use Rattle.lisa_object.specs.Objects.{PlainObject}
use Rattle.lisa_object.specs.ObjectRules.{IsObject}
use Rattle.object_links.specs.LinkFaults.{Entries, first_unknown, double_export, overfull, undefined_from, all_exported, fault_before_values, out_of_range}
use Rattle.object_links.specs.LineNames.{parts_of}
use Rattle.generator_commands.specs.lisa_assembler.Memories.{memory_items}
use Rattle.lisa_linker.specs.Memories.{AreMemories}
use Rattle.lisa_linker.proofs.Images.{image_rules}
use Rattle.lisa_linker.proofs.Within.{none_both}
use Rattle.generator_commands.specs.assembler_commands.Links.{IsLinked}

none_mapped : {A B : Type 0} (f : A → B) (x : Option A) → option_map f x ≡ None → x ≡ None
none_mapped f None e = refl
none_mapped f (Some x) e = absurd (cc e)

record IsSound (memories : List ArrayItem) (parts : List Entries) : Type 0 where
  known : first_unknown memories parts ≡ None
  room : overfull memories parts ≡ None

sound : (memories : List ArrayItem) (parts : List Entries) → fault_before_values memories parts ≡ None → IsSound memories parts
sound memories parts e =
    let undefined : Option LinkFault = undefined_from 1 (all_exported parts) parts in
    let crowded : Option LinkFault = option_or (overfull memories parts) undefined in
    let doubled : Option LinkFault = option_or (option_map faults.DuplicateGlobal (double_export parts)) crowded in
    let first = none_both (option_map faults.NoSuchMemory (first_unknown memories parts)) doubled e in
    let second = none_both (option_map faults.DuplicateGlobal (double_export parts)) crowded first.1 in
    let third = none_both (overfull memories parts) undefined second.1 in
    record { known = none_mapped faults.NoSuchMemory (first_unknown memories parts) first.0; room = third.0 }

one_kept : (object : PlainObject) → IsObject object → (i : ℕ) (d : PlainObject) → i < length (object ∷ []) → IsObject (get_or (object ∷ []) i d)
one_kept object rules zero d low = rules
one_kept object rules (suc i) d low = absurd (omega (arith, low))

pub linked_image : (d : DescriptionTree) (object : PlainObject) (image : List Memory) → AreMemories (memory_items d) → IsObject object → IsLinked d (object ∷ []) image → IsImage image
linked_image d object image places rules linked =
    let parts = parts_of (object ∷ []) in
    let s = sound (memory_items d) parts (none_both (fault_before_values (memory_items d) parts) (out_of_range parts) linked.whole).0 in
    subst IsImage (sym linked.is) (image_rules (memory_items d) (object ∷ []) (one_kept object rules) s.known places s.room)
