use Rattle.std.proofs.Common.{arith}
use Rattle.lisa_tree.specs.Descriptions.{description_tree}
use Rattle.lisa_forms.proofs.Patterned.{first_uncovered_is, uncovered_within, small, verdict_none, verdict_some}
use Rattle.lisa_forms.proofs.coverage.uncovered_name.Goals as goal

pub overflow_cast-form : goal.overflow_cast-form
overflow_cast-form c =
    let d = description_tree c.args.machine.now in
    let f = c.args.forms.now in
    let first = first_uncovered_is d f c.args.patterns.now c.plain.result.now c.first_uncovered.result c.requires.forms c.requires.patterns c.plain.ensures.is c.first_uncovered.ensures in
    omega (arith, small d f c.in-Some.form c.requires.forms (uncovered_within d f c.first_uncovered.result c.in-Some.form c.requires.forms c.in-Some.is first))

pub form_name-requires-clause-within : goal.form_name-requires-clause-within
form_name-requires-clause-within c =
    let d = description_tree c.args.machine.now in
    let f = c.args.forms.now in
    let first = first_uncovered_is d f c.args.patterns.now c.plain.result.now c.first_uncovered.result c.requires.forms c.requires.patterns c.plain.ensures.is c.first_uncovered.ensures in
    uncovered_within d f c.first_uncovered.result c.in-Some.form c.requires.forms c.in-Some.is first

pub returns-in-None : goal.returns-in-None
returns-in-None c =
    let d = description_tree c.args.machine.now in
    let f = c.args.forms.now in
    let first = first_uncovered_is d f c.args.patterns.now c.plain.result.now c.first_uncovered.result c.requires.forms c.requires.patterns c.plain.ensures.is c.first_uncovered.ensures in
    verdict_none d c.first_uncovered.result c.in-None.is first

pub returns-in_ok-name-in-Some : goal.returns-in_ok-name-in-Some
returns-in_ok-name-in-Some c =
    let d = description_tree c.args.machine.now in
    let f = c.args.forms.now in
    let first = first_uncovered_is d f c.args.patterns.now c.plain.result.now c.first_uncovered.result c.requires.forms c.requires.patterns c.plain.ensures.is c.first_uncovered.ensures in
    verdict_some d c.first_uncovered.result c.in-Some.form c.in_ok-name-in-Some.name c.in-Some.is first c.in_ok-name-in-Some.ensures
