-- An export whose file is imported.
use Rattle.std.proofs.Common.{◌≡◌, ◌∙◌, ◌≤◌, Bool, true, false, refl, sym, ap, subst, List, ℕ, Option, Some, None, Ok}
use Rattle.std.specs.Prelude.{find, ◌&&◌, ◌==◌}
use Rattle.std.specs.Option.{unwrap_or}
use Rattle.std.specs.Str.{bytes_eq}
use Rattle.std.proofs.lemmas.Bool.{eqb-true}
use Rattle.std.proofs.lemmas.List.Elements.{recursion_from_All}
use Rattle.std.proofs.lemmas.Slice.Eq.{bytes_eq-Decides}
use Rattle.lisa_tree.specs.Descriptions.{DescriptionTree}
use Rattle.lisa_tree.specs.Texts.{SpellsText}
use Rattle.lisa_engine.specs.Memory.{Memory}
use Rattle.lisa_engine.specs.Images.{IsImage, IsMemory as IsImageMemory, is_array}
use Rattle.lisa_engine.specs.declared.parts.ArrayItem.{ArrayItem}
use Rattle.item_promises.specs.lisa_machine.Verdicts.{IsAccepted}
use Rattle.item_promises.specs.use_promises.Showing.{FitsArray, FitsShown}
use Rattle.hex_files.specs.HexText.{hex_text}
use Rattle.hex_files.specs.HexReading.{hex_of}
use Rattle.hex_files.specs.MemhText.{memh_text}
use Rattle.hex_files.specs.MemhReading.{memh_of}
use Rattle.hex_files.specs.Printable.{IsPrintable, array_of}
use Rattle.hex_files.specs.declared.formats.MemoryFormat.{MemoryFormat}
use Rattle.hex_files.specs.declared.formats.MemoryFormat.TheVariants as formats
use Rattle.lisa_outcomes.specs.declared.status.Refusal.{Refusal}
use Rattle.lisa_outcomes.specs.Outcomes.{Outcome, Finished, After, passed}
use Rattle.checked_descriptions.specs.Conditions.{IsSound}
use Rattle.checked_descriptions.specs.engine_commands.Images.{memories_of}
use Rattle.memory_commands.specs.Exports.{empty_memory, part_for, memory_text, GivesExport}
use Rattle.memory_commands.specs.Imports.{IsRead}
use Rattle.memory_commands.specs.Passed.{IsPassed}
use Rattle.memory_commands.proofs.Finds.{found}
use Rattle.memory_commands.proofs.Named.{named_fits}
use Rattle.memory_commands.proofs.EmptyHex.{hex_none}
use Rattle.memory_commands.proofs.EmptyMemh.{memh_none}

-- what was looked for was found, where a command finishes
finished : {A : Type 0} (Found : A → Type 0) (Wrong : Refusal → Type 0) (Then : A → Outcome → Type 0) (text : List ℕ) → After Found Wrong Then (Finished text) → (a : A) × Found a × Then a (Finished text)
finished Found Wrong Then text (passed {a = a} here then) = (a, here, then)

same_text : (a b : List ℕ) → Finished a ≡ Finished b → a ≡ b
same_text a b e = cc

-- ---- what is printed is read again

-- a memory that is an array has its name, width and depth
same_array : (memory : Memory) (array : ArrayItem) → is_array memory array ≡ true → array_of memory ≡ array
same_array memory array e =
    let front = first_of (bytes_eq memory.name array.name && memory.width == array.width) _ e in
    let name = (bytes_eq-Decides memory.name array.name).0 (first_of (bytes_eq memory.name array.name) _ front) in
    let width = eqb-true memory.width array.width (second_of (bytes_eq memory.name array.name) _ front) in
    let depth = eqb-true memory.depth array.depth (second_of (bytes_eq memory.name array.name && memory.width == array.width) _ e) in
    λ i. record { name = name i; width = width i; depth = depth i }
  where
    first_of : (a b : Bool) → (a && b) ≡ true → a ≡ true
    first_of true b h = refl
    first_of false b h = h

    second_of : (a b : Bool) → (a && b) ≡ true → b ≡ true
    second_of true b h = h
    second_of false b h = absurd (cc h)

module _ (hex_back : (memory : Memory) → IsPrintable memory → hex_of (array_of memory) (hex_text memory) ≡ Ok memory)
    (memh_back : (memory : Memory) → IsPrintable memory → memh_of (array_of memory) (memh_text memory) ≡ Ok memory) where
  -- a memory of an image, for its array
  cells_back : (format : MemoryFormat) (array : ArrayItem) (memory : Memory) → IsPrintable memory → array_of memory ≡ array → IsRead format array (memory_text format memory) memory
  cells_back formats.Hex array memory printable same = subst (λ a. hex_of a (hex_text memory) ≡ Ok memory) same (hex_back memory printable)
  cells_back formats.Memh array memory printable same = subst (λ a. memh_of a (memh_text memory) ≡ Ok memory) same (memh_back memory printable)

  none_back : (format : MemoryFormat) (array : ArrayItem) → 1 ≤ array.width → IsRead format array (memory_text format (empty_memory array)) (empty_memory array)
  none_back formats.Hex array some = hex_none array some
  none_back formats.Memh array some = memh_none array

  printable : (memory : Memory) → IsImageMemory memory → IsPrintable memory
  printable memory is = record { some = is.narrow; wide = is.wide; depth = is.depth; room = is.room; within = is.within }

  part_back : (format : MemoryFormat) (array : ArrayItem) (image : List Memory) → IsImage image → 1 ≤ array.width → IsRead format array (memory_text format (part_for image array)) (part_for image array)
  part_back format array image is some = by (find (λ memory. is_array memory array) image) refl
    where
      by : (o : Option Memory) → find (λ memory. is_array memory array) image ≡ o → IsRead format array (memory_text format (unwrap_or o (empty_memory array))) (unwrap_or o (empty_memory array))
      by None none = none_back format array some
      by (Some memory) here =
          let f = found (λ m. is_array m array) IsImageMemory image memory (recursion_from_All IsImageMemory image is.memories) here in
          cells_back format array memory (printable memory f.0) (same_array memory array f.1)

pub passes : ((memory : Memory) → IsPrintable memory → hex_of (array_of memory) (hex_text memory) ≡ Ok memory) → ((memory : Memory) → IsPrintable memory → memh_of (array_of memory) (memh_text memory) ≡ Ok memory)
    → ((d : DescriptionTree) → IsSound d → IsAccepted d) → ((d : DescriptionTree) → IsAccepted d → FitsShown d)
    → (format : MemoryFormat) (description image name file : List ℕ) → GivesExport format description image name (Finished file) → IsPassed format description image name file
passes hex_back memh_back accepted shown format description image name file gives =
    let s = finished _ _ _ _ gives in
    let k = finished _ _ _ _ s.2 in
    let i = finished _ _ _ _ k.2 in
    let r = finished _ _ _ _ i.2 in
    let m = finished _ _ _ _ r.2 in
    let d : DescriptionTree = k.0.tree in
    let spelled : SpellsText description d = subst (SpellsText description) (sym k.1.tree) s.1 in
    let first = i.1.spelled.0 in
    let whole : r.0 ≡ first.image = r.1.1 ∙ i.1.are ∙ ap memories_of i.1.spelled.1 in
    let fits : FitsArray m.0 = named_fits d name m.0 (shown d (accepted d (subst IsSound (sym k.1.tree) k.1.sound))) m.1 in
    let text : file ≡ memory_text format (part_for first.image m.0) = same_text file _ m.2 ∙ ap (λ x. memory_text format (part_for x m.0)) whole in
    record {
      tree = d;
      spelled = spelled;
      first = first;
      stamped = i.1.spelled.2;
      is_image = i.1.spelled.3;
      memory = m.0;
      named = m.1;
      gives = passed {a = s.0} s.1 (passed {a = k.0} k.1 (passed {a = m.0} m.1 (passed {a = part_for first.image m.0}
          (subst (λ t. IsRead format m.0 t (part_for first.image m.0)) (sym text) (part_back hex_back memh_back format m.0 first.image i.1.spelled.2.image fits.0.0)) refl)));
    }
