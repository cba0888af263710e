use Rattle.std.proofs.Common.{List, map, length, codes, ap, sym, subst, ◌∙◌}
use Rattle.std.specs.Prelude.{sum_by}
use Rattle.std.proofs.lemmas.List.{length-map}
use Rattle.lisa_engine.specs.declared.parts.ArrayItem.{ArrayItem}
use Rattle.verilog_text.specs.Clocked.{regs, arrays}
use Rattle.verilog_text.specs.Conditions.{Depth}
use Rattle.verilog_places.specs.declared.modules.PlacedInput.{PlacedInput}
use Rattle.verilog_places.specs.declared.modules.PlacedMember.{PlacedMember}
use Rattle.verilog_places.specs.Trees.{placed_member, bare_members, bare_inputs}
use Rattle.verilog_size_checks.specs.Sought.{first_of, count_fault, TellsCount}
use Rattle.verilog_size_checks.proofs.CountLaws.{checked, excess}
use Rattle.verilog_size_checks.proofs.TellingLaws.{passed}
use Rattle.verilog_size_checks.proofs.counts.check_counts.Goals as goal

pub returns-in_err-check_count-3-clause-wrong : goal.returns-in_err-check_count-3-clause-wrong
returns-in_err-check_count-3-clause-wrong c =
    let all = bare_members (map placed_member c.args.m.now.members.items) in
    let items = c.count_regs.ensures ∙ ap (λ (xs : List PlacedMember). length (regs (bare_members (map placed_member xs)))) c.deref.ensures.value in
    let stores = c.count_arrays.ensures ∙ ap (λ (xs : List PlacedMember). length (arrays (bare_members (map placed_member xs)))) c.deref-2.ensures.value in
    let cells = c.count_cells.ensures ∙ ap (λ (xs : List PlacedMember). sum_by (λ (array : ArrayItem). array.depth) (arrays (bare_members (map placed_member xs)))) c.deref-3.ensures.value in
    passed _ _ _ c.from_residual-in_err-check_count-3.ensures
    (checked (codes "items") c.count_regs.result (length (regs all)) 8192 _ _ items c.in_ok-check_count.ensures.right
    (checked (codes "arrays") c.count_arrays.result (length (arrays all)) 1024 _ _ stores c.in_ok-check_count-2.ensures.right
    (excess (codes "cells") c.count_cells.result (sum_by (λ (array : ArrayItem). array.depth) (arrays all)) 4194304 _ _ cells c.in_err-check_count-3.ensures.wrong)))

pub returns-in_err-check_count-4-clause-wrong : goal.returns-in_err-check_count-4-clause-wrong
returns-in_err-check_count-4-clause-wrong c =
    let all = bare_members (map placed_member c.args.m.now.members.items) in
    let items = c.count_regs.ensures ∙ ap (λ (xs : List PlacedMember). length (regs (bare_members (map placed_member xs)))) c.deref.ensures.value in
    let stores = c.count_arrays.ensures ∙ ap (λ (xs : List PlacedMember). length (arrays (bare_members (map placed_member xs)))) c.deref-2.ensures.value in
    let cells = c.count_cells.ensures ∙ ap (λ (xs : List PlacedMember). sum_by (λ (array : ArrayItem). array.depth) (arrays (bare_members (map placed_member xs)))) c.deref-3.ensures.value in
    let pins = c.len.ensures ∙ c.args.m.now.inputs.ok.0 ∙ sym (length-map c.args.m.now.inputs.items (λ (input : PlacedInput). input.item)) in
    passed _ _ _ c.from_residual-in_err-check_count-4.ensures
    (checked (codes "items") c.count_regs.result (length (regs all)) 8192 _ _ items c.in_ok-check_count.ensures.right
    (checked (codes "arrays") c.count_arrays.result (length (arrays all)) 1024 _ _ stores c.in_ok-check_count-2.ensures.right
    (checked (codes "cells") c.count_cells.result (sum_by (λ (array : ArrayItem). array.depth) (arrays all)) 4194304 _ _ cells c.in_ok-check_count-3.ensures.right
    (excess (codes "pins") c.len.result (length (bare_inputs c.args.m.now.inputs.items)) 64 _ _ pins c.in_err-check_count-4.ensures.wrong))))

pub returns-in_err-check_depths-clause-wrong : goal.returns-in_err-check_depths-clause-wrong
returns-in_err-check_depths-clause-wrong c =
    let all = bare_members (map placed_member c.args.m.now.members.items) in
    let items = c.count_regs.ensures ∙ ap (λ (xs : List PlacedMember). length (regs (bare_members (map placed_member xs)))) c.deref.ensures.value in
    let stores = c.count_arrays.ensures ∙ ap (λ (xs : List PlacedMember). length (arrays (bare_members (map placed_member xs)))) c.deref-2.ensures.value in
    let cells = c.count_cells.ensures ∙ ap (λ (xs : List PlacedMember). sum_by (λ (array : ArrayItem). array.depth) (arrays (bare_members (map placed_member xs)))) c.deref-3.ensures.value in
    let pins = c.len.ensures ∙ c.args.m.now.inputs.ok.0 ∙ sym (length-map c.args.m.now.inputs.items (λ (input : PlacedInput). input.item)) in
    passed _ _ _ c.from_residual-in_err-check_depths.ensures
    (checked (codes "items") c.count_regs.result (length (regs all)) 8192 _ _ items c.in_ok-check_count.ensures.right
    (checked (codes "arrays") c.count_arrays.result (length (arrays all)) 1024 _ _ stores c.in_ok-check_count-2.ensures.right
    (checked (codes "cells") c.count_cells.result (sum_by (λ (array : ArrayItem). array.depth) (arrays all)) 4194304 _ _ cells c.in_ok-check_count-3.ensures.right
    (checked (codes "pins") c.len.result (length (bare_inputs c.args.m.now.inputs.items)) 64 _ _ pins c.in_ok-check_count-4.ensures.right
    (subst (λ (xs : List PlacedMember). TellsCount (first_of count_fault (map (λ (array : ArrayItem). Depth array.depth) (arrays (bare_members (map placed_member xs))))) c.in_err-check_depths.field-0.0)
    c.deref-4.ensures.value c.in_err-check_depths.ensures.wrong)))))
