-- Looking up memories as steps of a command.
use Rattle.std.proofs.Common.{◌≡◌, ◌∙◌, sym, ap, refl, subst, List, ℕ, Option, Some, None, Ok, Err, ◌⊎◌, ⊎_elim}
use Rattle.std.specs.Prelude.{find, not, Bool}
use Rattle.std.specs.Option.{option_map}
use Rattle.std.specs.List.{list_any}
use Rattle.lisa_tree.specs.Descriptions.{DescriptionTree}
use Rattle.lisa_engine.specs.Memory.{Memory}
use Rattle.lisa_engine.specs.Images.{is_array, missing_memory}
use Rattle.lisa_engine.specs.declared.parts.ArrayItem.{ArrayItem}
use Rattle.lisa_object.specs.declared.faults.ImageFault.TheVariants as images
use Rattle.item_promises.specs.machine_parts.Parts.{arrays_of}
use Rattle.hex_files.specs.declared.formats.MemoryFormat.{MemoryFormat}
use Rattle.hex_files.specs.declared.formats.MemoryFormat.TheVariants as formats
use Rattle.hex_files.specs.declared.faults.HexFault.TheVariants as hex
use Rattle.hex_files.specs.declared.faults.MemhFault.TheVariants as memh
use Rattle.lisa_outcomes.specs.declared.status.End.{End}
use Rattle.lisa_outcomes.specs.declared.status.End.TheVariants as ends
use Rattle.lisa_outcomes.specs.declared.status.Refusal.TheVariants as refusals
use Rattle.lisa_outcomes.specs.Refusals.{IsRefusal}
use Rattle.lisa_outcomes.specs.Stages.{Finds}
use Rattle.lisa_outcomes.proofs.Finding.{found_ok, found_memory, found_refused}
use Rattle.lisa_outcomes.proofs.Refusals.{image_refusal, hex_refusal, memh_refusal}
use Rattle.lisa_outcomes.proofs.Told.{none_is_no_some, some_is}
use Rattle.checked_descriptions.specs.engine_commands.Images.{IsMissing}
use Rattle.memory_commands.specs.DescriptionMemories.{memory_named, IsMemory, no_such_memory, IsNoMemory}
use Rattle.memory_commands.specs.Exports.{AreArrays}

-- ---- the memory of a name

pub memory_finds : {X : Type 0} (view : X → ArrayItem) (format : MemoryFormat) (d : DescriptionTree) (name : List ℕ) (x : X) → memory_named d name ≡ Some (view x)
    → Finds view (IsMemory d name) (IsNoMemory format d name) (Ok x)
memory_finds view format d name x is =
    found_ok view (IsMemory d name) (IsNoMemory format d name) x is (λ other here. some_is (sym is ∙ here)) (λ refusal wrong. none_is_no_some _ (sym wrong.0 ∙ is))

real : (format : MemoryFormat) (name : List ℕ) → IsRefusal (no_such_memory format name)
real formats.Hex name = hex_refusal (hex.NoSuchMemory name) (λ e. cc)
real formats.Memh name = memh_refusal (memh.NoSuchMemory name) (λ e. cc)

pub no_memory_finds : {X : Type 0} (view : X → ArrayItem) (format : MemoryFormat) (d : DescriptionTree) (name : List ℕ) (end : End) → memory_named d name ≡ None
    → ((end ≡ ends.NoMemory) ⊎ (end ≡ ends.Refused (no_such_memory format name))) → Finds {X = X} view (IsMemory d name) (IsNoMemory format d name) (Err end)
no_memory_finds {X = X} view format d name end none ended = ⊎_elim
    (λ m. subst (λ (e : End). Finds {X = X} view (IsMemory d name) (IsNoMemory format d name) (Err e)) (sym m) (found_memory view (IsMemory d name) (IsNoMemory format d name)))
    (λ r. subst (λ (e : End). Finds {X = X} view (IsMemory d name) (IsNoMemory format d name) (Err e)) (sym r)
    (found_refused view (IsMemory d name) (IsNoMemory format d name) (no_such_memory format name) (real format name) (none, refl) (λ other here. none_is_no_some _ (sym none ∙ here))))
    ended

-- ---- the memories of an image

-- a memory of an image that is no array of the description
abbrev pub is_strange : DescriptionTree → Memory → Bool
is_strange d memory = not (list_any (is_array memory) (arrays_of d))

abbrev name_in : Option Memory → Option (List ℕ)
name_in found = option_map (λ (memory : Memory). memory.name) found

pub arrays_find : (d : DescriptionTree) (image : List Memory) → find (is_strange d) image ≡ None → Finds {X = Unit {0}} (λ _. image) (AreArrays d image) (IsMissing (arrays_of d) image) (Ok tt)
arrays_find d image none =
    let here : missing_memory (arrays_of d) image ≡ None = ap name_in none in
    found_ok {X = Unit {0}} (λ _. image) (AreArrays d image) (IsMissing (arrays_of d) image) tt (here, refl) (λ other is. sym is.1) (λ refusal wrong. none_is_no_some _ (sym here ∙ wrong.1))

pub missing_find : (d : DescriptionTree) (image : List Memory) (memory : Memory) (end : End) → find (is_strange d) image ≡ Some memory
    → ((end ≡ ends.NoMemory) ⊎ (end ≡ ends.Refused (refusals.Image (images.NoSuchMemory memory.name)))) → Finds {X = Unit {0}} (λ _. image) (AreArrays d image) (IsMissing (arrays_of d) image) (Err end)
missing_find d image memory end some ended =
    let here : missing_memory (arrays_of d) image ≡ Some memory.name = ap name_in some in
    ⊎_elim
    (λ m. subst (λ (e : End). Finds {X = Unit {0}} (λ _. image) (AreArrays d image) (IsMissing (arrays_of d) image) (Err e)) (sym m) (found_memory {X = Unit {0}} (λ _. image) (AreArrays d image) (IsMissing (arrays_of d) image)))
    (λ r. subst (λ (e : End). Finds {X = Unit {0}} (λ _. image) (AreArrays d image) (IsMissing (arrays_of d) image) (Err e)) (sym r)
    (found_refused {X = Unit {0}} (λ _. image) (AreArrays d image) (IsMissing (arrays_of d) image) (refusals.Image (images.NoSuchMemory memory.name)) (image_refusal (images.NoSuchMemory memory.name) (λ e. cc)) (memory.name, here, refl)
    (λ other is. none_is_no_some _ (sym is.0 ∙ here))))
    ended
