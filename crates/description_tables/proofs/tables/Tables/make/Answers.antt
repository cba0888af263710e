use Rattle.std.proofs.Common.{ℕ, ◌≡◌, ◌<◌, List, nat_eq, length, map, take, ap, ap₂, sym, ◌∙◌, arith}
use Rattle.std.specs.Prelude.{position}
use Rattle.std.specs.List.{list_all, dedup}
use Rattle.std.proofs.lemmas.List.{take-map}
use Rattle.lisa_tree.specs.Descriptions.{OperationTree, description_tree, operation_tree}
use Rattle.lisa_tree.specs.declared.descriptions.Description.{Description}
use Rattle.lisa_tree.specs.Declarations.{Entry, entries, choices, entries_from, choices_from}
use Rattle.description_tables.specs.Laws.{Chosen, chosen, declares, is_owned_below, chooses_below, above_chosen}
use Rattle.description_tables.proofs.Wholes.{owners_below, choices_below, above_is, same_operations, same_count}
use Rattle.description_tables.proofs.tables.Tables.make.Goals as goal

pub index_names-requires : goal.index_names-requires
index_names-requires c =
    let x = c.args.description.now in
    let g = c.in_ok-globals.globals.description.now in
    let len : c.len-count.result ≡ length x.operations.items = omega (arith, x.operations.ok.0, c.len-count.ensures) in
    let count : c.len-count.result ≡ length (description_tree g).operations = len ∙ same_count x g c.in_ok-globals.ensures in
    let all : c.deref-2.result.now ≡ entries (description_tree g) =
    c.deref-2.ensures.value ∙ c.in_ok-entries.ensures.entries ∙ ap (entries_from 0 0) (same_operations x g c.deref.result.now c.in_ok-globals.ensures c.deref.ensures.value) in
    ap₂ (λ (n : ℕ) (es : List Entry). list_all (is_owned_below n) es) count all ∙ owners_below (description_tree g)

pub list_above-requires : goal.list_above-requires
list_above-requires c =
    let x = c.args.description.now in
    let g = c.in_ok-globals.globals.description.now in
    let d = description_tree g in
    let len : c.len-count.result ≡ length x.operations.items = omega (arith, x.operations.ok.0, c.len-count.ensures) in
    let count : c.len-count.result ≡ length d.operations = len ∙ same_count x g c.in_ok-globals.ensures in
    let all : c.deref-3.result.now ≡ map (chosen d) (choices d) =
    c.deref-3.ensures.value ∙ c.in_ok-entries.ensures.choices
    ∙ ap (λ (ts : List OperationTree). map (chosen d) (choices_from 0 ts)) (same_operations x g c.deref.result.now c.in_ok-globals.ensures c.deref.ensures.value) in
    ap₂ (λ (n : ℕ) (cs : List Chosen). list_all (chooses_below n) cs) count all ∙ choices_below d

pub invariant_of-result : goal.invariant_of-result
invariant_of-result c =
    let x = c.args.description.now in
    let g = c.in_ok-globals.globals.description.now in
    let d = description_tree g in
    let all = same_operations x g c.deref.result.now c.in_ok-globals.ensures c.deref.ensures.value in
    let of_entries : c.in_ok-entries.field-0.entries.items ≡ entries d = c.in_ok-entries.ensures.entries ∙ ap (entries_from 0 0) all in
    let of_choices : c.in_ok-entries.field-0.choices.items ≡ map (chosen d) (choices d) = c.in_ok-entries.ensures.choices ∙ ap (λ (ts : List OperationTree). map (chosen d) (choices_from 0 ts)) all in
    let count : length c.in_ok-entries.field-0.before.items ≡ length g.operations.items =
    c.in_ok-entries.ensures.length ∙ ap length c.deref.ensures.value ∙ ap (λ (y : Description). length y.operations.items) (sym c.in_ok-globals.ensures) in
    record {
      of_entries = of_entries;
      of_choices = of_choices;
      before_count = count;
      of_before = λ o h.
          let k : o < length c.deref.result.now = (let e = c.in_ok-entries.ensures.length in omega arith) in
          c.in_ok-entries.ensures.before o k
          ∙ ap (λ (ts : List OperationTree). length (entries_from 0 0 ts)) (sym (take-map operation_tree o c.deref.result.now) ∙ ap (take o) all);
      of_declared = λ o n. c.in_ok-declared.ensures o n ∙ ap (position (declares o n)) (c.deref-2.ensures.value ∙ of_entries);
      of_above = λ o. c.in_ok-above.ensures o ∙ ap (λ (cs : List Chosen). dedup nat_eq (above_chosen d o cs)) (c.deref-3.ensures.value ∙ of_choices) ∙ above_is d o;
    }
