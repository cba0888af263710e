use Rattle.std.proofs.Common.{◌≡◌, List, [], map, None, subst}
use Rattle.verilog_text.specs.Clocked.{blocks}
use Rattle.verilog_places.specs.declared.modules.PlacedMember.{PlacedMember}
use Rattle.verilog_places.specs.declared.modules.PlacedModule.{PlacedModule}
use Rattle.verilog_places.specs.Trees.{placed_member, bare_members, placed_module, bare_module}
use Rattle.verilog_places.specs.WidePlaces.{first_wide}
use Rattle.verilog_size_checks.specs.Answers.{IndexesHold}
use Rattle.verilog_size_checks.specs.Sought.{driven_again, TellsPlace, TellsDriver}
use Rattle.verilog_size_checks.proofs.DriverLaws.{none_driven}
use Rattle.verilog_size_checks.proofs.SizeLaws.{place_told, driver_told, count_told, counts_hold}
use Rattle.verilog_size_checks.proofs.TellingLaws.{passed}
use Rattle.verilog_size_checks.proofs.check.check_sizes.Goals as goal

pub returns-in_err-check_widths-clause-broken : goal.returns-in_err-check_widths-clause-broken
returns-in_err-check_widths-clause-broken c =
    let p = placed_module c.args.m.now in
    let indexes = subst (λ (x : PlacedModule). IndexesHold (placed_module x)) c.in_ok-scope.ensures c.in_ok-check_indexes.ensures.right in
    passed _ _ _ c.from_residual-in_err-check_widths.ensures
    (place_told p _ indexes (subst (λ (x : PlacedModule). TellsPlace (first_wide (placed_module x)) c.in_err-check_widths.field-0.0) c.in_ok-scope.ensures c.in_err-check_widths.ensures.wrong))

pub returns-in_err-check_drivers-clause-broken : goal.returns-in_err-check_drivers-clause-broken
returns-in_err-check_drivers-clause-broken c =
    let p = placed_module c.args.m.now in
    let indexes = subst (λ (x : PlacedModule). IndexesHold (placed_module x)) c.in_ok-scope.ensures c.in_ok-check_indexes.ensures.right in
    let wide = subst (λ (x : PlacedModule). first_wide (placed_module x) ≡ None) c.in_ok-scope.ensures c.in_ok-check_widths.ensures.right in
    passed _ _ _ c.from_residual-in_err-check_drivers.ensures
    (driver_told p _ (indexes, wide)
    (subst (λ (xs : List PlacedMember). TellsDriver (driven_again [] (blocks (bare_members (map placed_member xs)))) c.in_err-check_drivers.field-0.0) c.deref.ensures.value c.in_err-check_drivers.ensures.wrong))

pub returns-in_err-check_counts-clause-broken : goal.returns-in_err-check_counts-clause-broken
returns-in_err-check_counts-clause-broken c =
    let p = placed_module c.args.m.now in
    let indexes = subst (λ (x : PlacedModule). IndexesHold (placed_module x)) c.in_ok-scope.ensures c.in_ok-check_indexes.ensures.right in
    let wide = subst (λ (x : PlacedModule). first_wide (placed_module x) ≡ None) c.in_ok-scope.ensures c.in_ok-check_widths.ensures.right in
    let driven = subst (λ (xs : List PlacedMember). driven_again [] (blocks (bare_members (map placed_member xs))) ≡ None) c.deref.ensures.value c.in_ok-check_drivers.ensures.right in
    passed _ _ _ c.from_residual-in_err-check_counts.ensures (count_told p _ ((indexes, wide), none_driven (bare_module p) driven) c.in_err-check_counts.ensures.wrong)

pub returns-clause-holds : goal.returns-clause-holds
returns-clause-holds c =
    let p = placed_module c.args.m.now in
    let indexes = subst (λ (x : PlacedModule). IndexesHold (placed_module x)) c.in_ok-scope.ensures c.in_ok-check_indexes.ensures.right in
    let wide = subst (λ (x : PlacedModule). first_wide (placed_module x) ≡ None) c.in_ok-scope.ensures c.in_ok-check_widths.ensures.right in
    let driven = subst (λ (xs : List PlacedMember). driven_again [] (blocks (bare_members (map placed_member xs))) ≡ None) c.deref.ensures.value c.in_ok-check_drivers.ensures.right in
    (((indexes, wide), none_driven (bare_module p) driven), counts_hold (bare_module p) c.in_ok-check_counts.ensures.right)
