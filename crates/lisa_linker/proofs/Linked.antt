-- What linking answers, by its parts.
use Rattle.std.proofs.Common.{◌≡◌, ◌<◌, ℕ, zero, suc, Bool, List, [], ◌∷◌, ◌++◌, length, map, filter, get_or, Option, None, Some, refl, sym, ap, ◌∙◌, append_assoc, arith}
use Rattle.std.specs.Prelude.{All}
use Rattle.std.specs.Option.{option_or, option_map}
use Rattle.std.proofs.lemmas.List.Elements.{All-head, All-tail, filter-append}
use Rattle.lisa_engine.specs.Memory.{Memory}
use Rattle.lisa_engine.specs.Images.{IsImage}
use Rattle.lisa_engine.specs.declared.parts.ArrayItem.{ArrayItem}
use Rattle.lisa_object.specs.declared.faults.LinkFault.{LinkFault}
use Rattle.lisa_object.specs.declared.faults.LinkFault.TheVariants as faults
use Rattle.lisa_object.specs.declared.parts.Object.{Object}
use Rattle.lisa_object.specs.Objects.{PlainObject, object_tree}
use Rattle.lisa_object.specs.ObjectRules.{IsObject}
use Rattle.placed_programs.specs.Placed.{object_sense, is_some_cell, placed_image}
use Rattle.object_links.specs.LinkFaults.{Entries, first_unknown, double_export, overfull, undefined_from, all_exported, fault_before_values, out_of_range, link_fault}
use Rattle.object_links.specs.LineNames.{parts_of}
use Rattle.lisa_linker.specs.Memories.{AreMemories}
use Rattle.lisa_linker.specs.Parts.{all_cells}
use Rattle.lisa_linker.specs.Tables.{filled_with}
use Rattle.lisa_linker.proofs.Images.{image_rules}
use Rattle.lisa_linker.proofs.Within.{none_both}

none_mapped : {A B : Type 0} (f : A → B) (x : Option A) → option_map f x ≡ None → x ≡ None
none_mapped f None e = refl
none_mapped f (Some x) e = absurd (cc e)

record AreSound (memories : List ArrayItem) (parts : List Entries) : Type 0 where
  known : first_unknown memories parts ≡ None
  room : overfull memories parts ≡ None

sound : (memories : List ArrayItem) (parts : List Entries) → fault_before_values memories parts ≡ None → AreSound memories parts
sound memories parts e =
    let undefined : Option LinkFault = undefined_from 1 (all_exported parts) parts in
    let crowded : Option LinkFault = option_or (overfull memories parts) undefined in
    let doubled : Option LinkFault = option_or (option_map faults.DuplicateGlobal (double_export parts)) crowded in
    let first = none_both (option_map faults.NoSuchMemory (first_unknown memories parts)) doubled e in
    let second = none_both (option_map faults.DuplicateGlobal (double_export parts)) crowded first.1 in
    let third = none_both (overfull memories parts) undefined second.1 in
    record { known = none_mapped faults.NoSuchMemory (first_unknown memories parts) first.0; room = third.0 }

objects_keep : (objects : List Object) → All (λ o. IsObject (object_tree o)) objects → (i : ℕ) (d : PlainObject) → i < length (map object_tree objects) → IsObject (get_or (map object_tree objects) i d)
objects_keep [] all i d h = absurd (omega arith)
objects_keep (o ∷ objects) all zero d h = All-head (λ p. IsObject (object_tree p)) o objects all
objects_keep (o ∷ objects) all (suc i) d h = objects_keep objects (All-tail (λ p. IsObject (object_tree p)) o objects all) i d (omega arith)

pub linked_rules : (memories : List ArrayItem) (objects : List Object) → All (λ o. IsObject (object_tree o)) objects → AreMemories memories
    → fault_before_values memories (parts_of (map object_tree objects)) ≡ None → IsImage (placed_image object_sense memories (parts_of (map object_tree objects)))
linked_rules memories objects all places e =
    let s = sound memories (parts_of (map object_tree objects)) e in
    image_rules memories (map object_tree objects) (objects_keep objects all) s.known places s.room

pub filled_image : (memories : List ArrayItem) (parts : List Entries) (cells : List ℕ → List ℕ) → ((m : List ℕ) → cells m ≡ all_cells parts m)
    → filter (λ m. is_some_cell m.cells) (map (filled_with cells) memories) ≡ placed_image object_sense memories parts
filled_image memories parts cells same = ap (λ (c : List ℕ → List ℕ). filter (λ m. is_some_cell m.cells) (map (filled_with c) memories)) (λ i m. same m i)

pub no_fault : (memories : List ArrayItem) (parts : List Entries) → fault_before_values memories parts ≡ None → out_of_range parts ≡ None → link_fault memories parts ≡ None
no_fault memories parts before behind = ap (λ (f : Option LinkFault). option_or f (out_of_range parts)) before ∙ behind

pub fault_before : (memories : List ArrayItem) (parts : List Entries) (f : LinkFault) → fault_before_values memories parts ≡ Some f → link_fault memories parts ≡ Some f
fault_before memories parts f before = ap (λ (g : Option LinkFault). option_or g (out_of_range parts)) before

pub fault_behind : (memories : List ArrayItem) (parts : List Entries) (f : LinkFault) → fault_before_values memories parts ≡ None → out_of_range parts ≡ Some f → link_fault memories parts ≡ Some f
fault_behind memories parts f before behind = ap (λ (g : Option LinkFault). option_or g (out_of_range parts)) before ∙ behind

pub kept_added : (x : Memory) (rest old new : List Memory) → new ≡ old ++ filter (λ m. is_some_cell m.cells) (x ∷ [])
    → new ++ filter (λ m. is_some_cell m.cells) rest ≡ old ++ filter (λ m. is_some_cell m.cells) (x ∷ rest)
kept_added x rest old new e =
    let p : Memory → Bool = λ m. is_some_cell m.cells in
    let moved : (old ++ filter p (x ∷ [])) ++ filter p rest ≡ old ++ (filter p (x ∷ []) ++ filter p rest) = simp append_assoc in
    ap (λ (ms : List Memory). ms ++ filter p rest) e ∙ moved ∙ ap (λ (ms : List Memory). old ++ ms) (sym (filter-append p (x ∷ []) rest))
