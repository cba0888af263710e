-- Boards, dumps, and memories and their files are found, or there is a refusal.
use Rattle.std.proofs.Common.{◌≡◌, ◌∙◌, ◌⊎◌, ℕ, List, Option, None, Some, refl, sym, ap, arith, inl, inr, ⊎_elim}
use Rattle.lisa_tree.specs.Descriptions.{DescriptionTree}
use Rattle.machine_parts.specs.Parts.{arrays_of}
use Rattle.lisa_engine.specs.Memory.{Memory}
use Rattle.lisa_engine.specs.Images.{missing_memory}
use Rattle.lisa_engine.specs.declared.parts.Item.{Item}
use Rattle.lisa_engine.specs.declared.parts.ArrayItem.{ArrayItem}
use Rattle.lisa_object.specs.declared.faults.ImageFault.TheVariants as images
use Rattle.lisa_board.specs.BoardLines.{board_of}
use Rattle.hex_files.specs.HexReading.{hex_of}
use Rattle.hex_files.specs.MemhReading.{memh_of}
use Rattle.hex_files.specs.declared.formats.MemoryFormat.{MemoryFormat}
use Rattle.hex_files.specs.declared.formats.MemoryFormat.TheVariants as formats
use Rattle.vcd_trace.specs.Forms.{Form}
use Rattle.vcd_trace.specs.Parts.{form_of}
use Rattle.vcd_trace.specs.Meaning.{dump_of}
use Rattle.vcd_trace.specs.Written.{Dump}
use Rattle.vcd_trace.specs.VcdFaults.{Spells, HasFault, fault_of}
use Rattle.vcd_trace.specs.declared.faults.VcdFault.{VcdFault}
use Rattle.vcd_trace.specs.declared.faults.VcdFault.TheVariants as vcds
use Rattle.lisa_outcomes.specs.declared.status.Refusal.{Refusal}
use Rattle.lisa_outcomes.specs.declared.status.Refusal.TheVariants as refusals
use Rattle.engine_commands.specs.Boards.{IsBoard, IsNoBoard}
use Rattle.engine_commands.specs.Images.{IsMissing}
use Rattle.engine_commands.specs.Replays.{IsFormless, IsNoDump}
use Rattle.memory_commands.specs.DescriptionMemories.{memory_named, IsMemory, no_such_memory, IsNoMemory}
use Rattle.memory_commands.specs.Exports.{AreArrays}
use Rattle.memory_commands.specs.Imports.{IsRead, IsUnread}
use Rattle.command_promises.specs.Decided.{IsSameRefusal, IsDecided}
use Rattle.command_promises.proofs.Decided.{alike, alike_by, by_result}

none_and_some : {F : Type 0} (x : Option F) (f : F) → x ≡ None → x ≡ Some f → ⊥
none_and_some {F = F} x f e h = let k : ◌≡◌ {A = Option F} None (Some f) = sym e ∙ h in cc k

same_some : {F : Type 0} (x : Option F) (f g : F) → x ≡ Some f → x ≡ Some g → f ≡ g
same_some {F = F} x f g e h = let k : ◌≡◌ {A = Option F} (Some f) (Some g) = sym e ∙ h in cc k

-- ---- boards

pub boards_decided : (items pins : List Item) (bytes : List ℕ) → IsDecided (IsBoard items pins bytes) (IsNoBoard items pins bytes)
boards_decided items pins bytes =
    by_result (board_of items pins bytes) refusals.Board (IsBoard items pins bytes) (IsNoBoard items pins bytes) (λ a x. x) (λ a x. x) (λ r x. x) (λ r x. x)

-- ---- memories

pub names_decided : (format : MemoryFormat) (d : DescriptionTree) (name : List ℕ) → IsDecided (IsMemory d name) (IsNoMemory format d name)
names_decided format d name = record {
  some = by_name (memory_named d name) refl;
  single = record {
    one = λ a b x y. same_some (memory_named d name) a b x y;
    first = λ r s x y. alike r s (x.1 ∙ sym y.1);
    whole = λ a r x y. none_and_some (memory_named d name) a y.0 x;
  };
}
  where
    by_name : (x : Option ArrayItem) → memory_named d name ≡ x → ((memory : ArrayItem) × IsMemory d name memory) ⊎ ((r : Refusal) × IsNoMemory format d name r)
    by_name None e = inr (no_such_memory format name, (e, refl))
    by_name (Some memory) e = inl (memory, e)

pub files_decided : (format : MemoryFormat) (array : ArrayItem) (bytes : List ℕ) → IsDecided (IsRead format array bytes) (IsUnread format array bytes)
files_decided formats.Hex array bytes =
    by_result (hex_of array bytes) refusals.Hex (IsRead formats.Hex array bytes) (IsUnread formats.Hex array bytes) (λ a x. x) (λ a x. x) (λ r x. x) (λ r x. x)
files_decided formats.Memh array bytes =
    by_result (memh_of array bytes) refusals.Memh (IsRead formats.Memh array bytes) (IsUnread formats.Memh array bytes) (λ a x. x) (λ a x. x) (λ r x. x) (λ r x. x)

pub exported_decided : (d : DescriptionTree) (image : List Memory) → IsDecided (AreArrays d image) (IsMissing (arrays_of d) image)
exported_decided d image = record {
  some = by_memory (missing_memory (arrays_of d) image) refl;
  single = record {
    one = λ a b x y. x.1 ∙ sym y.1;
    first = λ r s x y. alike r s (x.2 ∙ ap (λ (name : List ℕ). refusals.Image (images.NoSuchMemory name)) (same_some (missing_memory (arrays_of d) image) x.0 y.0 x.1 y.1) ∙ sym y.2);
    whole = λ a r x y. none_and_some (missing_memory (arrays_of d) image) y.0 x.0 y.1;
  };
}
  where
    by_memory : (x : Option (List ℕ)) → missing_memory (arrays_of d) image ≡ x → ((found : List Memory) × AreArrays d image found) ⊎ ((r : Refusal) × IsMissing (arrays_of d) image r)
    by_memory None e = inl (image, (e, refl))
    by_memory (Some name) e = inr (refusals.Image (images.NoSuchMemory name), (name, e, refl))

-- ---- dumps

abbrev IsAtFault : List ℕ → VcdFault → Type 0
IsAtFault bytes fault = IsFormless bytes fault ⊎ HasFault bytes fault

-- forms of the same bytes
module _ (bytes : List ℕ) where
  same_form : (x y : Form) → form_of bytes ≡ Some x → form_of bytes ≡ Some y → x ≡ y
  same_form x y e h = same_some (form_of bytes) x y e h

  same_faults : (f g : VcdFault) → HasFault bytes f → HasFault bytes g → f ≡ g
  same_faults f g x y = same_some (fault_of y.0.variables y.0.events) f g (ap (λ (form : Form). fault_of form.variables form.events) (sym (same_form x.0 y.0 x.1 y.1)) ∙ x.2) y.2

  whole_dump : (dump : Dump) (fault : VcdFault) → Spells bytes dump → IsAtFault bytes fault → ⊥
  whole_dump dump fault x w = ⊎_elim
      (λ formless. none_and_some (form_of bytes) x.0 formless.0 x.1)
      (λ has. none_and_some (fault_of x.0.variables x.0.events) fault x.2 (ap (λ (form : Form). fault_of form.variables form.events) (same_form x.0 has.0 x.1 has.1) ∙ has.2))
      w

  -- two faults are one, apart from a place that is only bounded
  first_fault : (f g : VcdFault) → IsAtFault bytes f → IsAtFault bytes g → IsSameRefusal (refusals.Vcd f) (refusals.Vcd g)
  first_fault f g (inl x) (inl y) = alike_by (refusals.Vcd f) (refusals.Vcd g) (refusals.Vcd (vcds.BadToken x.1.0)) (refusals.Vcd (vcds.BadToken y.1.0)) (ap refusals.Vcd x.1.2) (ap refusals.Vcd y.1.2) tt
  first_fault f g (inl x) (inr y) = absurd (none_and_some (form_of bytes) y.0 x.0 y.1)
  first_fault f g (inr x) (inl y) = absurd (none_and_some (form_of bytes) x.0 y.0 x.1)
  first_fault f g (inr x) (inr y) = alike (refusals.Vcd f) (refusals.Vcd g) (ap refusals.Vcd (same_faults f g x y))

  abbrev IsSome : Type 0
  IsSome = ((dump : Dump) × Spells bytes dump) ⊎ ((r : Refusal) × IsNoDump bytes r)

  by_fault : (form : Form) → form_of bytes ≡ Some form → (fault : Option VcdFault) → fault_of form.variables form.events ≡ fault → IsSome
  by_fault form e None h = inl (dump_of form, (form, e, h, refl))
  by_fault form e (Some fault) h = inr (refusals.Vcd fault, (fault, inr (form, e, h), refl))

  by_form : (x : Option Form) → form_of bytes ≡ x → IsSome
  by_form None e = inr (refusals.Vcd (vcds.BadToken 0), (vcds.BadToken 0, inl (e, (0, omega arith, refl)), refl))
  by_form (Some form) e = by_fault form e (fault_of form.variables form.events) refl

  pub dumps_decided : IsDecided (Spells bytes) (IsNoDump bytes)
  dumps_decided = record {
    some = by_form (form_of bytes) refl;
    single = record {
      one = λ a b x y. x.3 ∙ ap dump_of (same_form x.0 y.0 x.1 y.1) ∙ sym y.3;
      first = λ r s x y. alike_by r s (refusals.Vcd x.0) (refusals.Vcd y.0) x.2 y.2 (first_fault x.0 y.0 x.1 y.1);
      whole = λ a r x y. whole_dump a y.0 x y.1;
    };
  }
