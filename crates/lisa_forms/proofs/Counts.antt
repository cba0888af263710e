-- How many forms there are, where no size exceeds its limit.
use Rattle.std.proofs.Common.{◌≡◌, ◌≤◌, ◌<◌, ℕ, ◌-◌, ◌^◌, None, Some, Option, Result, Ok, MatchResult, min, option_map, subst, sym, ap, ◌∙◌, arith}
use Rattle.lisa_tree.specs.declared.faults.DescFault.{DescFault}
use Rattle.lisa_tree.specs.Descriptions.{DescriptionTree}
use Rattle.form_patterns.specs.coding_checks.Widths.{capped}
use Rattle.form_patterns.specs.coding_tables.Instructions.{form_count}
use Rattle.description_sizes.specs.declared.unfolding.Unfolded.{Unfolded}
use Rattle.description_sizes.specs.Limits.{fault}
use Rattle.description_sizes.specs.Outcomes.{IsUnfolded}
use Rattle.description_sizes.specs.Sizes.{first_too_many, size_fault}
use Rattle.description_sizes.specs.Laws.{AreWithinLimits}
use Rattle.description_sizes.proofs.Limited.{within_limits, forms_alike}
use Rattle.form_patterns.specs.instruction_forms.Widths.{HasWidth}
use Rattle.lisa_forms.specs.Verdicts.{IsSizeVerdict}

min_small : (n m k : ℕ) → min n m ≤ k → k < m → n ≤ k
min_small n m k h l = grind arith

pub few_forms : (d : DescriptionTree) (width : Option ℕ) → first_too_many d width (capped (form_count d)) ≡ None → form_count d ≤ 1024
few_forms d width fits = min_small (form_count d) (2 ^ 64 - 1) 1024 ((within_limits d width (capped (form_count d))).0 fits).few_forms (omega arith)

pub limited : (d : DescriptionTree) (width : Option ℕ) → first_too_many d width (capped (form_count d)) ≡ None → AreWithinLimits d width (form_count d)
limited d width fits =
    let within = (within_limits d width (capped (form_count d))).0 fits in
    record {
      few_stages = within.few_stages;
      few_pins = within.few_pins;
      few_operations = within.few_operations;
      few_arrays = within.few_arrays;
      few_cells = within.few_cells;
      few_forms = few_forms d width fits;
      few_occurrences = within.few_occurrences;
      few_items = within.few_items;
      few_statements = within.few_statements;
      few_nodes = within.few_nodes;
    }

pub size_refused : (d : DescriptionTree) (width : Option ℕ) (f : DescFault) → HasWidth d width → size_fault d width (capped (form_count d)) ≡ Some f → IsSizeVerdict d (Some f)
size_refused d width f has is = record { width = width; has_width = has; is = sym is ∙ forms_alike d width (form_count d) }

pub size_fits : (d : DescriptionTree) (width : Option ℕ) → HasWidth d width → first_too_many d width (capped (form_count d)) ≡ None → IsSizeVerdict d None
size_fits d width has fits = record { width = width; has_width = has; is = sym (sym (forms_alike d width (form_count d)) ∙ ap (option_map fault) fits) }

-- where something is unfolded
pub unfolded_fits : (d : DescriptionTree) (width : Option ℕ) (forms : ℕ) (found : Result Unfolded DescFault) (all : Unfolded) → HasWidth d width → forms ≡ capped (form_count d)
    → found ≡ Ok all → MatchResult found (IsUnfolded d width forms) (λ f. size_fault d width forms ≡ Some f) → IsSizeVerdict d None
unfolded_fits d width forms found all has count is told =
    let of_all : IsUnfolded d width forms all = subst (λ (r : Result Unfolded DescFault). MatchResult r (IsUnfolded d width forms) (λ f. size_fault d width forms ≡ Some f)) is told in
    size_fits d width has (subst (λ (n : ℕ). first_too_many d width n ≡ None) count of_all.fits)
