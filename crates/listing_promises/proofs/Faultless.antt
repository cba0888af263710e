-- The object of a listing has no fault that keeps it from being linked.
use Rattle.std.proofs.Common.{◌≡◌, ◌≤◌, ◌+◌, ℕ, ℤ, Bool, true, false, cond, List, [], ◌∷◌, ◌++◌, length, map, filter, Option, None, Some, refl, ap, ◌∙◌, arith}
use Rattle.std.specs.Prelude.{flat_map, find, nat_lt, not}
use Rattle.std.specs.List.{AllByRecursion}
use Rattle.std.specs.Option.{option_or, option_map}
use Rattle.std.proofs.lemmas.Bool.{eq-eqb}
use Rattle.std.proofs.lemmas.Bool.Decides.{nat_tests}
use Rattle.lisa_tree.specs.Descriptions.{DescriptionTree}
use Rattle.lisa_engine.specs.Memory.{Memory}
use Rattle.lisa_engine.specs.declared.parts.ArrayItem.{ArrayItem}
use Rattle.lisa_object.specs.declared.faults.LinkFault.{LinkFault}
use Rattle.lisa_object.specs.declared.faults.LinkFault.TheVariants as faults
use Rattle.placed_programs.specs.Entries.{Entry, Enter, Room, Put, Mark, Equal, Share, mapped, PlainFix, PlainCell}
use Rattle.placed_programs.specs.Addresses.{Counts, no_cells, adding, counts_after, address, definitions}
use Rattle.placed_programs.specs.Symbols.{Symbols, with_counts, is_shared, all_exports, symbol}
use Rattle.placed_programs.proofs.Counted.{counts_grow}
use Rattle.object_links.specs.Firsts.{first_of, first_double}
use Rattle.object_links.specs.LinkFaults.{named_width, has_width, unknown, first_unknown, own_names, all_exported, double_export, all_counts, capped, if_overfull, overfull, fix_names, used_by, is_defined, undefined_from, fix_fault, cell_fault, range_in, out_of_range, link_fault}
use Rattle.lisa_assembler.specs.Memories.{memory_items}
use Rattle.lisa_assembler.specs.Sources.{SourceCell}
use Rattle.lisa_assembler.specs.Objects.{object_cell, source_sense}
use Rattle.listing_promises.proofs.ListedMemories.{IsSimple, SayImage}
use Rattle.listing_promises.proofs.SameMemories.{named_cells}

module _ (d : DescriptionTree) where
  abbrev pub linked_entries : List (Entry SourceCell) → List (Entry PlainCell)
  linked_entries es = map (mapped (object_cell d)) es

  abbrev AreSimple : List (Entry SourceCell) → Type 0
  AreSimple es = AllByRecursion (IsSimple d) es

  -- ---- 1: each memory has its width

  same_width : (widths : Option ℕ) (w : ℕ) → widths ≡ Some w → has_width widths w ≡ true
  same_width widths w e = ap (λ (found : Option ℕ). has_width found w) e ∙ eq-eqb w w refl

  pub none_unknown : (es : List (Entry SourceCell)) → AreSimple es → first_of (unknown (named_width (memory_items d))) (linked_entries es) ≡ None
  none_unknown [] all = refl
  none_unknown (Enter n w ∷ es) all =
      ap (λ (b : Bool). option_or (cond b None (Some n)) (first_of (unknown (named_width (memory_items d))) (linked_entries es))) (same_width (named_width (memory_items d) n) w all.0)
      ∙ none_unknown es all.1
  none_unknown (Put c ∷ es) all = none_unknown es all.1
  none_unknown (Room n ∷ es) all = absurd all.0
  none_unknown (Mark n ∷ es) all = absurd all.0
  none_unknown (Equal n v ∷ es) all = absurd all.0
  none_unknown (Share n ∷ es) all = absurd all.0

  -- ---- 2: nothing is named

  none_named : (es : List (Entry SourceCell)) → AreSimple es → own_names (linked_entries es) ≡ []
  none_named [] all = refl
  none_named (Enter n w ∷ es) all = none_named es all.1
  none_named (Put c ∷ es) all = none_named es all.1
  none_named (Room n ∷ es) all = absurd all.0
  none_named (Mark n ∷ es) all = absurd all.0
  none_named (Equal n v ∷ es) all = absurd all.0
  none_named (Share n ∷ es) all = absurd all.0

  none_exported : (es : List (Entry SourceCell)) → AreSimple es → all_exported (linked_entries es ∷ []) ≡ []
  none_exported es all = ap (λ (names : List (List ℕ)). filter (is_shared (linked_entries es)) names ++ []) (none_named es all)

  none_double : (es : List (Entry SourceCell)) → AreSimple es → double_export (linked_entries es ∷ []) ≡ None
  none_double es all = ap (first_double []) (none_exported es all)

  -- ---- 3: each memory has room

  counts_kept : (counts : Counts) (here : Option (List ℕ)) (es : List (Entry SourceCell)) → AreSimple es → counts_after counts here (linked_entries es) ≡ counts_after counts here es
  counts_kept counts here [] all = refl
  counts_kept counts here (Enter n w ∷ es) all = counts_kept (adding here 0 counts) (Some n) es all.1
  counts_kept counts here (Put c ∷ es) all = counts_kept (adding here 1 counts) here es all.1
  counts_kept counts here (Room n ∷ es) all = absurd all.0
  counts_kept counts here (Mark n ∷ es) all = absurd all.0
  counts_kept counts here (Equal n v ∷ es) all = absurd all.0
  counts_kept counts here (Share n ∷ es) all = absurd all.0

  no_symbols : Symbols
  no_symbols name = None

  counted : (image : List Memory) (texts : List (List ℕ)) (says : SayImage d image texts) (name : List ℕ) → all_counts no_cells (linked_entries says.es ∷ []) name ≡ length (named_cells name image)
  counted image texts says name =
      let grown : counts_after no_cells None says.es name ≡ 0 + length (named_cells name image) =
      counts_grow (source_sense d) no_symbols name no_cells None 0 says.es ∙ ap (λ (cells : List ℕ). 0 + length cells) (says.placed no_symbols name false 0) in
      let kept : counts_after no_cells None (linked_entries says.es) name ≡ counts_after no_cells None says.es name = ap (λ (counts : Counts). counts name) (counts_kept no_cells None says.es says.simple) in
      omega (arith, grown, kept)

  not_over : (depth count : ℕ) → count ≤ depth → nat_lt depth count ≡ false
  not_over depth count le = grind (arith, nat_tests)

  fits_all : (counts : Counts) (arrays : List ArrayItem) → AllByRecursion (λ (a : ArrayItem). counts a.name ≤ a.depth) arrays → first_of (if_overfull counts) arrays ≡ None
  fits_all counts [] all = refl
  fits_all counts (a ∷ arrays) all =
      ap (λ (b : Bool). option_or (cond b (Some (faults.DoesNotFit a.name (capped (counts a.name)) a.depth)) None) (first_of (if_overfull counts) arrays)) (not_over a.depth (counts a.name) all.0)
      ∙ fits_all counts arrays all.1

  -- ---- 4 and 5: no cell has a sum

  none_used : (es : List (Entry SourceCell)) → AreSimple es → flat_map used_by (linked_entries es) ≡ []
  none_used [] all = refl
  none_used (Enter n w ∷ es) all = none_used es all.1
  none_used (Put c ∷ es) all = ap (λ (fixes : List PlainFix). flat_map fix_names fixes ++ flat_map used_by (linked_entries es)) all.0 ∙ none_used es all.1
  none_used (Room n ∷ es) all = absurd all.0
  none_used (Mark n ∷ es) all = absurd all.0
  none_used (Equal n v ∷ es) all = absurd all.0
  none_used (Share n ∷ es) all = absurd all.0

  none_undefined : (es : List (Entry SourceCell)) → AreSimple es → (others : List (List ℕ)) → undefined_from 1 others (linked_entries es ∷ []) ≡ None
  none_undefined es all others =
      ap (λ (names : List (List ℕ)). option_or (option_map (faults.Undefined 1) (find (λ name. not (is_defined (own_names (linked_entries es)) others name)) names)) None) (none_used es all)

  whole_cell : (number : ℕ) (symbols : Symbols) (here : Option (List ℕ)) (a : ℕ) (c : PlainCell) → c.fixes ≡ [] → cell_fault number symbols here a c ≡ None
  whole_cell number symbols None a c e = refl
  whole_cell number symbols (Some memory) a c e = ap (first_of (fix_fault number symbols memory a)) e

  all_in_range : (number : ℕ) (symbols : Symbols) (counts : Counts) (here : Option (List ℕ)) (es : List (Entry SourceCell)) → AreSimple es → range_in number symbols counts here (linked_entries es) ≡ None
  all_in_range number symbols counts here [] all = refl
  all_in_range number symbols counts here (Enter n w ∷ es) all = all_in_range number symbols (adding here 0 counts) (Some n) es all.1
  all_in_range number symbols counts here (Put c ∷ es) all =
      ap (λ (found : Option LinkFault). option_or found (range_in number symbols (adding here 1 counts) here (linked_entries es))) (whole_cell number symbols here (address here counts) (object_cell d c) all.0)
      ∙ all_in_range number symbols (adding here 1 counts) here es all.1
  all_in_range number symbols counts here (Room n ∷ es) all = absurd all.0
  all_in_range number symbols counts here (Mark n ∷ es) all = absurd all.0
  all_in_range number symbols counts here (Equal n v ∷ es) all = absurd all.0
  all_in_range number symbols counts here (Share n ∷ es) all = absurd all.0

  none_out : (es : List (Entry SourceCell)) → AreSimple es → out_of_range (linked_entries es ∷ []) ≡ None
  none_out es all =
      let shared : List (List ℕ × ℤ) = all_exports (with_counts no_cells (linked_entries es ∷ [])) in
      ap (λ (found : Option LinkFault). option_or found None) (all_in_range 1 (symbol (definitions no_cells None (linked_entries es)) shared) no_cells None es all)

  -- ---- all together

  all_none : (known double : Option (List ℕ)) (over undefined out : Option LinkFault) → known ≡ None → double ≡ None → over ≡ None → undefined ≡ None → out ≡ None
      → option_or (option_or (option_map faults.NoSuchMemory known) (option_or (option_map faults.DuplicateGlobal double) (option_or over undefined))) out ≡ None
  all_none known double over undefined out a b c e f = rw (a, b, c, e, f) refl

  first_is_none : (es : List (Entry SourceCell)) → AreSimple es → first_unknown (memory_items d) (linked_entries es ∷ []) ≡ None
  first_is_none es all = ap (λ (found : Option (List ℕ)). option_or found None) (none_unknown es all)

  pub has_room_for : (image : List Memory) (texts : List (List ℕ)) (says : SayImage d image texts) → AllByRecursion (λ (a : ArrayItem). length (named_cells a.name image) ≤ a.depth) (memory_items d)
      → overfull (memory_items d) (linked_entries says.es ∷ []) ≡ None
  has_room_for image texts says rooms = fits_all (all_counts no_cells (linked_entries says.es ∷ [])) (memory_items d) (moved (memory_items d) rooms)
    where
      moved : (arrays : List ArrayItem) → AllByRecursion (λ (a : ArrayItem). length (named_cells a.name image) ≤ a.depth) arrays
          → AllByRecursion (λ (a : ArrayItem). all_counts no_cells (linked_entries says.es ∷ []) a.name ≤ a.depth) arrays
      moved [] all = tt
      moved (a ∷ arrays) all = ((let e = counted image texts says a.name in let room = all.0 in omega (arith, e, room)), moved arrays all.1)

  pub known_memories : (image : List Memory) (texts : List (List ℕ)) (says : SayImage d image texts) → first_unknown (memory_items d) (linked_entries says.es ∷ []) ≡ None
  known_memories image texts says = first_is_none says.es says.simple

  pub no_fault : (image : List Memory) (texts : List (List ℕ)) (says : SayImage d image texts) → AllByRecursion (λ (a : ArrayItem). length (named_cells a.name image) ≤ a.depth) (memory_items d)
      → link_fault (memory_items d) (linked_entries says.es ∷ []) ≡ None
  no_fault image texts says rooms =
      all_none (first_unknown (memory_items d) (linked_entries says.es ∷ [])) (double_export (linked_entries says.es ∷ [])) (overfull (memory_items d) (linked_entries says.es ∷ []))
      (undefined_from 1 (all_exported (linked_entries says.es ∷ [])) (linked_entries says.es ∷ [])) (out_of_range (linked_entries says.es ∷ []))
      (known_memories image texts says) (none_double says.es says.simple) (has_room_for image texts says rooms)
      (none_undefined says.es says.simple (all_exported (linked_entries says.es ∷ []))) (none_out says.es says.simple)
