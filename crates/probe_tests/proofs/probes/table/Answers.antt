use Rattle.std.proofs.Common.{◌≡◌, ◌∙◌, ◌++◌, ◌∷◌, [], ℕ, List, length, map, sym, ap, subst, arith}
use Rattle.std.proofs.lemmas.List.{length-map}
use Rattle.pattern_tables.specs.declared.entry.Entry.{Entry}
use Rattle.pattern_tables.specs.Entries.{entry}
use Rattle.pattern_tables.specs.Rising.{IsRising}
use Rattle.probe_tests.proofs.Numbered.{of_number, one_more, length-numbered, they_rise}
use Rattle.probe_tests.proofs.probes.table.Goals as goal

pub forms-init : goal.forms-init
forms-init c = c.new-entries.ensures.items

pub forms-preserved : goal.forms-preserved
forms-preserved c =
    c.in_ok-push.ensures.items
    ∙ ap (λ (p : ℕ). c.forms.entries.items ++ record { mask = 2047; pattern = p; form = c.forms.form } ∷ []) c.from.ensures
    ∙ ap (λ (es : List Entry). es ++ of_number c.forms.form ∷ []) c.forms.invariant
    ∙ sym (one_more c.forms.form)

pub make-requires-clause-rising : goal.make-requires-clause-rising
make-requires-clause-rising c =
    subst (λ (es : List Entry). IsRising (map (λ (e : Entry). e.pattern) es)) (sym (c.deref.ensures.value ∙ c.forms.invariant)) (they_rise c.forms.form)

pub make-requires-clause-few : goal.make-requires-clause-few
make-requires-clause-few c =
    let l : length c.deref.result.now ≡ c.forms.form = ap length (c.deref.ensures.value ∙ c.forms.invariant) ∙ length-numbered c.forms.form in
    omega (arith, l, c.forms.auto.form-end, c.requires)

pub returns : goal.returns
returns c =
    let l : length c.deref.result.now ≡ c.forms.form = ap length (c.deref.ensures.value ∙ c.forms.invariant) ∙ length-numbered c.forms.form in
    ap length c.in_ok-make.ensures.entries ∙ length-map c.deref.result.now (λ (e : Entry). entry 2047 e.pattern e.form) ∙ omega (arith, l, c.forms.auto.form-end, c.forms-test.false)
