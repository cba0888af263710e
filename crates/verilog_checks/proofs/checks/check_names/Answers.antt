use Rattle.verilog_text.specs.Trees.{ModuleTree}
use Rattle.verilog_text.specs.Conditions.{IsDuplicate, IsUndeclared, IsWrongUse, IsUnset}
use Rattle.verilog_places.specs.Trees.{bare_module, placed_module}
use Rattle.verilog_checks.proofs.Firsts.{none_of, told_some, told_none}
use Rattle.verilog_checks.proofs.Surveys.{duplicate_told, undeclared_told, wrong_told, unset_told}
use Rattle.verilog_checks.proofs.checks.check_names.Goals as goal

pub returns-in-Some-clause-broken : goal.returns-in-Some-clause-broken
returns-in-Some-clause-broken c =
    let m : ModuleTree = bare_module (placed_module c.args.module.now) in
    let twice = duplicate_told m c.in_ok-name.field-0 _ _ c.in_ok-survey.ensures.declared c.deref.ensures.value c.in_ok-name.ensures.name in
    told_some (IsDuplicate m) c.in_ok-name.field-0 c.in-Some.name twice c.in-Some.is

pub returns-in-Some-2-clause-broken : goal.returns-in-Some-2-clause-broken
returns-in-Some-2-clause-broken c =
    let m : ModuleTree = bare_module (placed_module c.args.module.now) in
    let twice = duplicate_told m c.in_ok-name.field-0 _ _ c.in_ok-survey.ensures.declared c.deref.ensures.value c.in_ok-name.ensures.name in
    let once = told_none (IsDuplicate m) c.in_ok-name.field-0 twice c.in_default.not-Some in
    let keys = c.in_ok-name.ensures.all (none_of c.in_ok-name.field-0 c.in_default.not-Some) in
    let early = undeclared_told m c.in_ok-name-2.field-0 _ _ _ _ _ c.in_ok-survey.ensures.declared c.deref.ensures.value keys c.in_ok-survey.ensures.uses c.deref-2.ensures.value c.in_ok-name-2.ensures in
    (once, told_some (IsUndeclared m) c.in_ok-name-2.field-0 c.in-Some-2.name early c.in-Some-2.is)

pub returns-in-Some-3-clause-broken : goal.returns-in-Some-3-clause-broken
returns-in-Some-3-clause-broken c =
    let m : ModuleTree = bare_module (placed_module c.args.module.now) in
    let twice = duplicate_told m c.in_ok-name.field-0 _ _ c.in_ok-survey.ensures.declared c.deref.ensures.value c.in_ok-name.ensures.name in
    let once = told_none (IsDuplicate m) c.in_ok-name.field-0 twice c.in_default.not-Some in
    let keys = c.in_ok-name.ensures.all (none_of c.in_ok-name.field-0 c.in_default.not-Some) in
    let early = undeclared_told m c.in_ok-name-2.field-0 _ _ _ _ _ c.in_ok-survey.ensures.declared c.deref.ensures.value keys c.in_ok-survey.ensures.uses c.deref-2.ensures.value c.in_ok-name-2.ensures in
    let late = told_none (IsUndeclared m) c.in_ok-name-2.field-0 early c.in_default-2.not-Some in
    let wrong = wrong_told m c.in_ok-name-3.field-0 _ _ _ _ c.in_ok-survey.ensures.declared c.deref-3.ensures.value c.in_ok-survey.ensures.uses c.deref-4.ensures.value c.in_ok-name-3.ensures in
    ((once, late), told_some (IsWrongUse m) c.in_ok-name-3.field-0 c.in-Some-3.name wrong c.in-Some-3.is)

pub returns-in-Some-4-clause-broken : goal.returns-in-Some-4-clause-broken
returns-in-Some-4-clause-broken c =
    let m : ModuleTree = bare_module (placed_module c.args.module.now) in
    let twice = duplicate_told m c.in_ok-name.field-0 _ _ c.in_ok-survey.ensures.declared c.deref.ensures.value c.in_ok-name.ensures.name in
    let once = told_none (IsDuplicate m) c.in_ok-name.field-0 twice c.in_default.not-Some in
    let keys = c.in_ok-name.ensures.all (none_of c.in_ok-name.field-0 c.in_default.not-Some) in
    let early = undeclared_told m c.in_ok-name-2.field-0 _ _ _ _ _ c.in_ok-survey.ensures.declared c.deref.ensures.value keys c.in_ok-survey.ensures.uses c.deref-2.ensures.value c.in_ok-name-2.ensures in
    let late = told_none (IsUndeclared m) c.in_ok-name-2.field-0 early c.in_default-2.not-Some in
    let wrong = wrong_told m c.in_ok-name-3.field-0 _ _ _ _ c.in_ok-survey.ensures.declared c.deref-3.ensures.value c.in_ok-survey.ensures.uses c.deref-4.ensures.value c.in_ok-name-3.ensures in
    let right = told_none (IsWrongUse m) c.in_ok-name-3.field-0 wrong c.in_default-3.not-Some in
    let unset = unset_told m c.in_ok-name-4.field-0 _ _ c.in_ok-events.ensures c.deref-5.ensures.value c.in_ok-name-4.ensures in
    (((once, late), right), told_some (IsUnset m) c.in_ok-name-4.field-0 c.in-Some-4.name unset c.in-Some-4.is)

pub returns-clause-holds : goal.returns-clause-holds
returns-clause-holds c =
    let m : ModuleTree = bare_module (placed_module c.args.module.now) in
    let twice = duplicate_told m c.in_ok-name.field-0 _ _ c.in_ok-survey.ensures.declared c.deref.ensures.value c.in_ok-name.ensures.name in
    let once = told_none (IsDuplicate m) c.in_ok-name.field-0 twice c.in_default.not-Some in
    let keys = c.in_ok-name.ensures.all (none_of c.in_ok-name.field-0 c.in_default.not-Some) in
    let early = undeclared_told m c.in_ok-name-2.field-0 _ _ _ _ _ c.in_ok-survey.ensures.declared c.deref.ensures.value keys c.in_ok-survey.ensures.uses c.deref-2.ensures.value c.in_ok-name-2.ensures in
    let late = told_none (IsUndeclared m) c.in_ok-name-2.field-0 early c.in_default-2.not-Some in
    let wrong = wrong_told m c.in_ok-name-3.field-0 _ _ _ _ c.in_ok-survey.ensures.declared c.deref-3.ensures.value c.in_ok-survey.ensures.uses c.deref-4.ensures.value c.in_ok-name-3.ensures in
    let right = told_none (IsWrongUse m) c.in_ok-name-3.field-0 wrong c.in_default-3.not-Some in
    let unset = unset_told m c.in_ok-name-4.field-0 _ _ c.in_ok-events.ensures c.deref-5.ensures.value c.in_ok-name-4.ensures in
    (((once, late), right), told_none (IsUnset m) c.in_ok-name-4.field-0 unset c.in_default-4.not-Some)
