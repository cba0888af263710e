-- Reading a file of a memory as a step of a command.
use Rattle.std.proofs.Common.{◌≡◌, ◌≢◌, ◌∙◌, sym, refl, subst, List, ℕ, Result, Ok, Err, ◌⊎◌, inl, inr, ⊎_elim}
use Rattle.lisa_engine.specs.Memory.{Memory}
use Rattle.lisa_engine.specs.declared.parts.ArrayItem.{ArrayItem}
use Rattle.hex_files.specs.HexReading.{hex_of}
use Rattle.hex_files.specs.HexGives as hexes
use Rattle.hex_files.specs.MemhReading.{memh_of}
use Rattle.hex_files.specs.MemhGives as memhs
use Rattle.hex_files.specs.declared.formats.MemoryFormat.TheVariants as formats
use Rattle.hex_files.specs.declared.faults.HexFault.{HexFault}
use Rattle.hex_files.specs.declared.faults.HexFault.TheVariants as hex
use Rattle.hex_files.specs.declared.faults.MemhFault.{MemhFault}
use Rattle.hex_files.specs.declared.faults.MemhFault.TheVariants as memh
use Rattle.lisa_outcomes.specs.declared.status.End.{End}
use Rattle.lisa_outcomes.specs.declared.status.End.TheVariants as ends
use Rattle.lisa_outcomes.specs.declared.status.Refusal.TheVariants as refusals
use Rattle.lisa_outcomes.specs.Stages.{Finds}
use Rattle.lisa_outcomes.proofs.Finding.{found_ok, found_memory, found_refused}
use Rattle.lisa_outcomes.proofs.Refusals.{hex_refusal, memh_refusal}
use Rattle.lisa_outcomes.proofs.Told.{ok_is_no_err, err_is}
use Rattle.memory_commands.specs.Imports.{IsRead, IsUnread}
use Rattle.memory_commands.specs.Unread.{unread_hex, unread_memh}

same_memory : {F : Type 0} (a b : Memory) → ◌≡◌ {A = Result Memory F} (Ok a) (Ok b) → a ≡ b
same_memory a b e = cc

-- what a reader answers that isn't want of memory is what the definition gives
given : {F : Type 0} (lack : F) (expected result : Result Memory F) → (result ≡ expected) ⊎ (result ≡ Err lack) → (result ≡ Err lack → ⊥) → expected ≡ result
given lack expected result answered other = ⊎_elim (λ same. sym same) (λ memory. absurd (other memory)) answered

-- ---- an Intel HEX file

pub hex_read : (array : ArrayItem) (bytes : List ℕ) (memory : Memory) → hexes.IsUnlessNoMemory (hex_of array bytes) (Ok memory)
    → Finds (λ (m : Memory). m) (IsRead formats.Hex array bytes) (IsUnread formats.Hex array bytes) (Ok memory)
hex_read array bytes memory answered =
    let here = given hex.NoMemory (hex_of array bytes) (Ok memory) answered (λ e. ok_is_no_err _ _ e) in
    found_ok (λ (m : Memory). m) (IsRead formats.Hex array bytes) (IsUnread formats.Hex array bytes) memory here
    (λ other is. same_memory memory other (sym here ∙ is)) (λ refusal wrong. ok_is_no_err memory wrong.0 (sym here ∙ wrong.1))

-- the end is want of memory, or the fault is the refusal
hex_end : (f : HexFault) → (unread_hex f ≡ ends.NoMemory) ⊎ ((unread_hex f ≡ ends.Refused (refusals.Hex f)) × (f ≢ hex.NoMemory))
hex_end (hex.NoSuchMemory name) = inr (refl, λ e. absurd (cc))
hex_end (hex.BadRecord line) = inr (refl, λ e. absurd (cc))
hex_end (hex.BadSum line kept expected) = inr (refl, λ e. absurd (cc))
hex_end (hex.RecordType line kind) = inr (refl, λ e. absurd (cc))
hex_end (hex.AfterEnd line) = inr (refl, λ e. absurd (cc))
hex_end (hex.PastEnd line address bytes) = inr (refl, λ e. absurd (cc))
hex_end hex.NoEnd = inr (refl, λ e. absurd (cc))
hex_end (hex.CellRange index value width) = inr (refl, λ e. absurd (cc))
hex_end hex.NoMemory = inl refl

pub hex_unread : (array : ArrayItem) (bytes : List ℕ) (f : HexFault) → hexes.IsUnlessNoMemory (hex_of array bytes) (Err f)
    → Finds {X = Memory} (λ (m : Memory). m) (IsRead formats.Hex array bytes) (IsUnread formats.Hex array bytes) (Err (unread_hex f))
hex_unread array bytes f answered = ⊎_elim
    (λ m. subst (λ (e : End). Finds {X = Memory} (λ (m : Memory). m) (IsRead formats.Hex array bytes) (IsUnread formats.Hex array bytes) (Err e)) (sym m) wanting)
    (λ r.
    let here = given hex.NoMemory (hex_of array bytes) (Err f) answered (λ e. r.1 (err_is _ _ e)) in
    subst (λ (e : End). Finds {X = Memory} (λ (m : Memory). m) (IsRead formats.Hex array bytes) (IsUnread formats.Hex array bytes) (Err e)) (sym r.0)
    (found_refused (λ (m : Memory). m) (IsRead formats.Hex array bytes) (IsUnread formats.Hex array bytes) (refusals.Hex f) (hex_refusal f r.1) (f, here, refl) (λ memory is. ok_is_no_err memory f (sym is ∙ here))))
    (hex_end f)
  where
    wanting : Finds {X = Memory} (λ (m : Memory). m) (IsRead formats.Hex array bytes) (IsUnread formats.Hex array bytes) (Err ends.NoMemory)
    wanting = found_memory (λ (m : Memory). m) (IsRead formats.Hex array bytes) (IsUnread formats.Hex array bytes)

-- ---- a file for `$readmemh`

pub memh_read : (array : ArrayItem) (bytes : List ℕ) (memory : Memory) → memhs.IsUnlessNoMemory (memh_of array bytes) (Ok memory)
    → Finds (λ (m : Memory). m) (IsRead formats.Memh array bytes) (IsUnread formats.Memh array bytes) (Ok memory)
memh_read array bytes memory answered =
    let here = given memh.NoMemory (memh_of array bytes) (Ok memory) answered (λ e. ok_is_no_err _ _ e) in
    found_ok (λ (m : Memory). m) (IsRead formats.Memh array bytes) (IsUnread formats.Memh array bytes) memory here
    (λ other is. same_memory memory other (sym here ∙ is)) (λ refusal wrong. ok_is_no_err memory wrong.0 (sym here ∙ wrong.1))

memh_end : (f : MemhFault) → (unread_memh f ≡ ends.NoMemory) ⊎ ((unread_memh f ≡ ends.Refused (refusals.Memh f)) × (f ≢ memh.NoMemory))
memh_end (memh.NoSuchMemory name) = inr (refl, λ e. absurd (cc))
memh_end (memh.BadWord at) = inr (refl, λ e. absurd (cc))
memh_end (memh.CellRange index value width) = inr (refl, λ e. absurd (cc))
memh_end (memh.PastEnd index depth) = inr (refl, λ e. absurd (cc))
memh_end memh.NoMemory = inl refl

pub memh_unread : (array : ArrayItem) (bytes : List ℕ) (f : MemhFault) → memhs.IsUnlessNoMemory (memh_of array bytes) (Err f)
    → Finds {X = Memory} (λ (m : Memory). m) (IsRead formats.Memh array bytes) (IsUnread formats.Memh array bytes) (Err (unread_memh f))
memh_unread array bytes f answered = ⊎_elim
    (λ m. subst (λ (e : End). Finds {X = Memory} (λ (m : Memory). m) (IsRead formats.Memh array bytes) (IsUnread formats.Memh array bytes) (Err e)) (sym m) wanting)
    (λ r.
    let here = given memh.NoMemory (memh_of array bytes) (Err f) answered (λ e. r.1 (err_is _ _ e)) in
    subst (λ (e : End). Finds {X = Memory} (λ (m : Memory). m) (IsRead formats.Memh array bytes) (IsUnread formats.Memh array bytes) (Err e)) (sym r.0)
    (found_refused (λ (m : Memory). m) (IsRead formats.Memh array bytes) (IsUnread formats.Memh array bytes) (refusals.Memh f) (memh_refusal f r.1) (f, here, refl) (λ memory is. ok_is_no_err memory f (sym is ∙ here))))
    (memh_end f)
  where
    wanting : Finds {X = Memory} (λ (m : Memory). m) (IsRead formats.Memh array bytes) (IsUnread formats.Memh array bytes) (Err ends.NoMemory)
    wanting = found_memory (λ (m : Memory). m) (IsRead formats.Memh array bytes) (IsUnread formats.Memh array bytes)
