-- Each text spells a module that breaks no condition, or has a fault.
use Rattle.std.proofs.Common.{◌≡◌, ℕ, ◌≤◌, List, [], length, Option, Some, None, Ok, Err, refl, sym, subst, arith}
use Rattle.std.specs.Prelude.{flat_map}
use Rattle.verilog_text.specs.declared.faults.VerilogFault.TheVariants as faults
use Rattle.verilog_text.specs.Trees.{ModuleTree, members_depth}
use Rattle.verilog_text.specs.Clocked.{blocks}
use Rattle.verilog_text.specs.Conditions.{declares, head_declares, names_of, member_indexes, counted, IsDuplicate, IsUndeclared, IsWrongUse, IsUnset}
use Rattle.verilog_text.specs.Lexing.{Lexes}
use Rattle.verilog_text.specs.Spelling.{first_deep, VSpells}
use Rattle.verilog_text.specs.Faults.{Holds4, Holds5, Holds6, Holds7, bad_byte, too_deep, not_in_subset}
use Rattle.verilog_places.specs.Spelling.{PlacedToks, SpellsPlacedModule}
use Rattle.verilog_places.specs.Trees.{PlacedModuleTree, bare_module, bare_members}
use Rattle.verilog_places.specs.WidePlaces.{first_wide}
use Rattle.verilog_places.proofs.PlacedSpellings.{placed_module}
use Rattle.verilog_lexer.specs.Reading.{Answer, lex}
use Rattle.verilog_lexer.proofs.LexLaws.{LexIs, lexed}
use Rattle.verilog_module_reader.specs.Answers.{IsModule}
use Rattle.verilog_module_reader.specs.Modules.{module_of}
use Rattle.verilog_module_reader.proofs.ModuleLaws.{module_sound, module_there, lexed_fit}
use Rattle.verilog_checks.specs.Views.{told_by, counted_uses}
use Rattle.verilog_checks.specs.Readings.{again_in, is_early, is_against, first_use, reg_names, given_names, unset_in}
use Rattle.verilog_checks.proofs.Firsts.{Tells}
use Rattle.verilog_checks.proofs.BrokenRules.{duplicate_tells, undeclared_tells, wrong_tells, unset_tells}
use Rattle.verilog_size_checks.specs.Answers.{IndexesHold, WidthsHold, DriversHold}
use Rattle.verilog_size_checks.specs.Sought.{first_of, index_fault, driven_again, count_fault}
use Rattle.verilog_size_checks.proofs.DriverLaws.{none_driven}
use Rattle.verilog_size_checks.proofs.SizeLaws.{indexes_hold, index_told, place_told, driver_told, count_told, counts_hold}
use Rattle.verilog_reader.specs.Answers.{HasOutcome, accepts, refuses}
use Rattle.verilog_reader.proofs.TextLaws.{lexes_same, names_fault, sizes_fault, accepted}

-- ---- the rules on names

-- a name breaks the rule, or none does
either : {R : Type 0} (P : List ℕ → Type 0) (o : Option (List ℕ)) → Tells P o → ((name : List ℕ) → P name → R) → (((name : List ℕ) → ¬ P name) → R) → R
either P (Some name) told broken holds = broken name told
either P None told broken holds = holds told

by_names : {R : Type 0} (m : ModuleTree) → ((name : List ℕ) → IsDuplicate m name → R) → ((name : List ℕ) → Holds4 m × IsUndeclared m name → R) → ((name : List ℕ) → Holds5 m × IsWrongUse m name → R)
    → ((name : List ℕ) → Holds6 m × IsUnset m name → R) → (Holds7 m → R) → R
by_names m twice early wrong unset holds =
    either (IsDuplicate m) (again_in [] (names_of (declares m))) (duplicate_tells m) twice
    (λ four. either (IsUndeclared m) (first_use (is_early (names_of (declares m))) (counted_uses (length (head_declares m)) m.members)) (undeclared_tells m) (λ name b. early name (four, b))
    (λ five. either (IsWrongUse m) (first_use (is_against (declares m)) (counted_uses (length (head_declares m)) m.members)) (wrong_tells m) (λ name b. wrong name ((four, five), b))
    (λ six. either (IsUnset m) (unset_in (reg_names (flat_map told_by m.members)) (given_names (flat_map told_by m.members)) [] (flat_map told_by m.members)) (unset_tells m)
    (λ name b. unset name (((four, five), six), b)) (λ seven. holds (((four, five), six), seven)))))

-- ---- what is spelled

module _ (bytes : List ℕ) (ts : PlacedToks) (l : Lexes 0 bytes ts) (flat : first_deep 0 ts ≡ None) (p : PlacedModuleTree) (is : IsModule ts p) where
  by_counts : Holds7 (bare_module p) → DriversHold p → (o : Option (List ℕ × ℕ × ℕ)) → first_of count_fault (counted (bare_module p)) ≡ o → HasOutcome bytes
  by_counts names holds None none = accepts (bare_module p) (accepted bytes ts l flat p is names (holds, counts_hold (bare_module p) none))
  by_counts names holds (Some (what, count, limit)) told =
      refuses (faults.TooMany what count limit) (sizes_fault bytes ts l flat p is names (faults.TooMany what count limit) (count_told p (faults.TooMany what count limit) holds told))

  by_drivers : Holds7 (bare_module p) → WidthsHold p → (o : Option (List ℕ)) → driven_again [] (blocks (bare_members p.members)) ≡ o → HasOutcome bytes
  by_drivers names holds None none = by_counts names (holds, none_driven (bare_module p) none) (first_of count_fault (counted (bare_module p))) refl
  by_drivers names holds (Some name) told = refuses (faults.TwoDrivers name) (sizes_fault bytes ts l flat p is names (faults.TwoDrivers name) (driver_told p (faults.TwoDrivers name) holds told))

  by_widths : Holds7 (bare_module p) → IndexesHold p → (o : Option ℕ) → first_wide p ≡ o → HasOutcome bytes
  by_widths names holds None none = by_drivers names (holds, none) (driven_again [] (blocks (bare_members p.members))) refl
  by_widths names holds (Some at) told = refuses (faults.TooWide at) (sizes_fault bytes ts l flat p is names (faults.TooWide at) (place_told p (faults.TooWide at) holds told))

  by_indexes : Holds7 (bare_module p) → (o : Option (List ℕ × ℕ × ℕ)) → first_of (index_fault (bare_module p)) (flat_map member_indexes (bare_members p.members)) ≡ o → HasOutcome bytes
  by_indexes names None none = by_widths names (indexes_hold p none) (first_wide p) refl
  by_indexes names (Some (name, width, needed)) told =
      refuses (faults.IndexWidth name width needed) (sizes_fault bytes ts l flat p is names (faults.IndexWidth name width needed) (index_told p (faults.IndexWidth name width needed) told))

  by_rules : HasOutcome bytes
  by_rules =
      by_names (bare_module p)
      (λ name b. refuses (faults.DuplicateName name) (names_fault bytes ts l flat p is (faults.DuplicateName name) b))
      (λ name b. refuses (faults.UsedBeforeDeclared name) (names_fault bytes ts l flat p is (faults.UsedBeforeDeclared name) b))
      (λ name b. refuses (faults.WrongUse name) (names_fault bytes ts l flat p is (faults.WrongUse name) b))
      (λ name b. refuses (faults.NoInitial name) (names_fault bytes ts l flat p is (faults.NoInitial name) b))
      (λ names. by_indexes names (first_of (index_fault (bare_module p)) (flat_map member_indexes (bare_members p.members))) refl)

-- ---- what isn't

-- what the bytes spell is found in their tokens
spelled_there : {bytes : List ℕ} {ts : PlacedToks} → Lexes 0 bytes ts → {m : ModuleTree} → VSpells bytes m → (p : PlacedModuleTree) × (module_of 128 ts ≡ Some p)
spelled_there {ts = ts} l v =
    let lifted = placed_module 0 v.tokens v.spells in
    let spells : SpellsPlacedModule ts lifted.tree = subst (λ (us : PlacedToks). SpellsPlacedModule us lifted.tree) (lexes_same v.lexes l) lifted.spells in
    let deep : members_depth (bare_module lifted.tree).members ≤ 128 = subst (λ (k : ModuleTree). members_depth k.members ≤ 128) (sym lifted.same) v.deep in
    (lifted.tree, module_there 128 ts lifted.tree (lexed_fit l) spells deep)

-- ---- bytes, tokens and modules

pub has_outcome : (bytes : List ℕ) → HasOutcome bytes
has_outcome bytes = by_tokens (lex (0, bytes)) (lexed (length bytes) 0 bytes (omega arith))
  where
    by_module : (ts : PlacedToks) → Lexes 0 bytes ts → first_deep 0 ts ≡ None → (o : Option PlacedModuleTree) → module_of 128 ts ≡ o → HasOutcome bytes
    by_module ts l flat (Some p) read = let s = module_sound 128 ts p read in by_rules bytes ts l flat p (record { spells = s.spells; deep = s.deep })
    by_module ts l flat None none =
        refuses (faults.NotInSubset 0) (not_in_subset (record { tokens = ts; lexes = l; flat = flat }) (λ m v. let there = (spelled_there l v).1 in cc) (omega arith))

    by_depth : (ts : PlacedToks) → Lexes 0 bytes ts → (o : Option ℕ) → first_deep 0 ts ≡ o → HasOutcome bytes
    by_depth ts l (Some at) deep = refuses (faults.TooDeep at) (too_deep l deep)
    by_depth ts l None flat = by_module ts l flat (module_of 128 ts) refl

    by_tokens : (r : Answer) → LexIs 0 bytes r → HasOutcome bytes
    by_tokens (Ok ts) l = by_depth ts l (first_deep 0 ts) refl
    by_tokens (Err place) b = refuses (faults.BadByte place) (bad_byte b)
