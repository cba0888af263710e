-- The first names that break a rule, as functions of lists.
use Rattle.std.specs.Prelude.{ℕ, Bool, List, [], ◌∷◌, ◌++◌, take, find, filter_map, option_map, Option, Some, None, not, ◌||◌}
use Rattle.std.specs.List.{list_any}
use Rattle.std.specs.Str.{bytes_eq}
use Rattle.name_tables.specs.Keys.{insert_key}
use Rattle.verilog_text.specs.Conditions.{Sort, Declared, Use, used_name, is_wrong, with_earlier, FirstEvent, event_name}
use Rattle.verilog_text.specs.Conditions as conditions
use Rattle.verilog_checks.specs.Views.{Told, Declares, Gives}

-- the name is among others
abbrev pub has : List (List ℕ) → List ℕ → Bool
has names name = list_any (bytes_eq name) names

-- ---- declared twice

abbrev pub is_again : List (List ℕ) × List ℕ → Bool
is_again (earlier, name) = has earlier name

-- the first of the names that is among earlier ones or those before it
abbrev pub again_in : (earlier names : List (List ℕ)) → Option (List ℕ)
again_in earlier names = option_map (λ (p : List (List ℕ) × List ℕ). p.1) (find is_again (with_earlier earlier names))

-- ---- used before they are declared

abbrev pub is_early : List (List ℕ) → ℕ × Use → Bool
is_early names (n, u) = not (has (take n names) (used_name u))

-- the first use for which a test holds
abbrev pub first_use : (ℕ × Use → Bool) → List (ℕ × Use) → Option (List ℕ)
first_use test uses = option_map (λ (p : ℕ × Use). used_name p.1) (find test uses)

-- ---- used as what they are not

abbrev pub sort_in : List Declared → List ℕ → Option Sort
sort_in declared name = option_map (λ d. d.sort) (find (λ d. bytes_eq d.name name) declared)

abbrev pub is_against : List Declared → ℕ × Use → Bool
is_against declared (n, u) = is_wrong (sort_in declared (used_name u)) u

-- ---- first values

abbrev pub reg_name : Told → Option (List ℕ)
reg_name (Declares name) = Some name
reg_name (Gives name) = None

abbrev pub given_name : Told → Option (List ℕ)
given_name (Declares name) = None
given_name (Gives name) = Some name

-- the names of the regs, and those that are given first values
abbrev pub reg_names : List Told → List (List ℕ)
reg_names all = filter_map reg_name all

abbrev pub given_names : List Told → List (List ℕ)
given_names all = filter_map given_name all

-- with the names that are given first values before it
abbrev pub event_after : List (List ℕ) → Told → FirstEvent
event_after earlier (Declares name) = conditions.Declares name
event_after earlier (Gives name) = conditions.Gives earlier name

-- the names that are given first values, after one more event
abbrev pub noted : List (List ℕ) → Told → List (List ℕ)
noted earlier (Declares name) = earlier
noted earlier (Gives name) = insert_key earlier name

-- each with the names that are given first values before it
abbrev pub with_given : (earlier : List (List ℕ)) → List Told → List FirstEvent
with_given earlier [] = []
with_given earlier (Declares name ∷ rest) = conditions.Declares name ∷ with_given earlier rest
with_given earlier (Gives name ∷ rest) = conditions.Gives earlier name ∷ with_given (earlier ++ name ∷ []) rest

abbrev pub is_unset : (regs given : List (List ℕ)) → FirstEvent → Bool
is_unset regs given (conditions.Declares name) = not (has given name)
is_unset regs given (conditions.Gives earlier name) = not (has regs name) || has earlier name

abbrev pub unset_in : (regs given earlier : List (List ℕ)) → List Told → Option (List ℕ)
unset_in regs given earlier all = option_map event_name (find (is_unset regs given) (with_given earlier all))
