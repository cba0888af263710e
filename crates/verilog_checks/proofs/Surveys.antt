-- What the answers of the rules tell of a module, from its declarations, uses and events.
use Rattle.std.proofs.Common.{◌≡◌, ℕ, List, [], length, map, Option, sym, ap, ap₂, subst, ◌∙◌}
use Rattle.std.specs.Prelude.{flat_map}
use Rattle.verilog_text.specs.Trees.{ModuleTree}
use Rattle.verilog_text.specs.Conditions.{Declared, Use, declares, head_declares, names_of, IsDuplicate, IsUndeclared, IsWrongUse, IsUnset}
use Rattle.verilog_checks.specs.declared.parts.Declaration.{Declaration}
use Rattle.verilog_checks.specs.declared.parts.NameUse.{NameUse}
use Rattle.verilog_checks.specs.declared.parts.Event.{Event}
use Rattle.verilog_checks.specs.Views.{Told, declared_by, counted_use, counted_uses, told, told_by}
use Rattle.verilog_checks.specs.Readings.{again_in, first_use, is_early, is_against, unset_in, reg_names, given_names}
use Rattle.verilog_checks.proofs.Firsts.{Tells}
use Rattle.verilog_checks.proofs.BrokenRules.{duplicate_tells, undeclared_tells, wrong_tells, unset_tells}

pub duplicate_told : (m : ModuleTree) (o : Option (List ℕ)) (all seen : List Declaration) → map declared_by all ≡ declares m → seen ≡ all
    → o ≡ again_in [] (names_of (map declared_by seen)) → Tells (IsDuplicate m) o
duplicate_told m o all seen declared same is =
    subst (Tells (IsDuplicate m)) (sym (is ∙ ap (λ (ds : List Declared). again_in [] (names_of ds)) (ap (λ (ds : List Declaration). map declared_by ds) same ∙ declared))) (duplicate_tells m)

-- all uses of a module
abbrev pub all_counted : ModuleTree → List (ℕ × Use)
all_counted m = counted_uses (length (head_declares m)) m.members

pub undeclared_told : (m : ModuleTree) (o : Option (List ℕ)) (keys : List (List ℕ)) (all seen : List Declaration) (used looked : List NameUse)
    → map declared_by all ≡ declares m → seen ≡ all → keys ≡ names_of (map declared_by seen) → map counted_use used ≡ all_counted m → looked ≡ used
    → o ≡ first_use (is_early keys) (map counted_use looked) → Tells (IsUndeclared m) o
undeclared_told m o keys all seen used looked declared same names counted same_uses is =
    subst (Tells (IsUndeclared m))
    (sym (is ∙ ap₂ (λ (ks : List (List ℕ)) (us : List (ℕ × Use)). first_use (is_early ks) us)
    (names ∙ ap names_of (ap (λ (ds : List Declaration). map declared_by ds) same ∙ declared))
    (ap (λ (us : List NameUse). map counted_use us) same_uses ∙ counted)))
    (undeclared_tells m)

pub wrong_told : (m : ModuleTree) (o : Option (List ℕ)) (all seen : List Declaration) (used looked : List NameUse)
    → map declared_by all ≡ declares m → seen ≡ all → map counted_use used ≡ all_counted m → looked ≡ used
    → o ≡ first_use (is_against (map declared_by seen)) (map counted_use looked) → Tells (IsWrongUse m) o
wrong_told m o all seen used looked declared same counted same_uses is =
    subst (Tells (IsWrongUse m))
    (sym (is ∙ ap₂ (λ (ds : List Declared) (us : List (ℕ × Use)). first_use (is_against ds) us)
    (ap (λ (ds : List Declaration). map declared_by ds) same ∙ declared)
    (ap (λ (us : List NameUse). map counted_use us) same_uses ∙ counted)))
    (wrong_tells m)

pub unset_told : (m : ModuleTree) (o : Option (List ℕ)) (all seen : List Event) → map told all ≡ flat_map told_by m.members → seen ≡ all
    → o ≡ unset_in (reg_names (map told seen)) (given_names (map told seen)) [] (map told seen) → Tells (IsUnset m) o
unset_told m o all seen events same is =
    subst (Tells (IsUnset m)) (sym (is ∙ ap (λ (ts : List Told). unset_in (reg_names ts) (given_names ts) [] ts) (ap (λ (es : List Event). map told es) same ∙ events))) (unset_tells m)
