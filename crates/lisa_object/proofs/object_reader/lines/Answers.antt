use Rattle.std.proofs.Common.{◌≡◌, ◌∷◌, [], ◌++◌, List, length, map, true, false, Some, None, refl, sym, ap, ◌∙◌, arith}
use Rattle.std.specs.Option.{option_copied}
use Rattle.std.proofs.lemmas.List.{map_push}
use Rattle.std.proofs.lemmas.Result.{err_from_is_err_and}
use Rattle.text_lines.specs.Cuts.{parts_behind}
use Rattle.lisa_object.specs.declared.parts.ObjectLine.{ObjectLine}
use Rattle.lisa_object.specs.Reading.{is_last}
use Rattle.lisa_object.specs.Objects.{object_line_tree}
use Rattle.lisa_object.specs.ObjectRules.{defined}
use Rattle.lisa_object.specs.LineMachine.{start}
use Rattle.lisa_object.specs.ObjectReading.{lines_of}
use Rattle.lisa_object.proofs.LineLoop.{lines_with, begins, lacking, at_end, fails, goes_on}
use Rattle.lisa_object.proofs.object_reader.lines.Goals as goal

pub each-init : goal.each-init
each-init c = (
  omega arith,
  omega arith,
  (
    [],
    (λ name. rw c.new-seen.ensures.empty refl),
    ap (λ (l : List ObjectLine). lines_with (map object_line_tree l) (lines_of start [] (parts_behind 10 (option_copied c.args.left)))) c.new-all.ensures.items ∙ begins (lines_of start [] (parts_behind 10 (option_copied c.args.left))),
  ),
)

pub returns-in_default : goal.returns-in_default
returns-in_default c = lacking (map object_line_tree c.each.all.items) _ _ _ _ c.each.invariant.2.2 (ap (λ o. parts_behind 10 (option_copied o)) c.in_default.is)

pub returns-then-is_last : goal.returns-then-is_last
returns-then-is_last c =
    let first : parts_behind 10 (option_copied c.each.rest) ≡ c.cut.result.0.now ∷ parts_behind 10 (option_copied c.cut.result.1) = ap (λ o. parts_behind 10 (option_copied o)) c.in-Some.is ∙ c.cut.ensures.parts in
    let last : is_last (parts_behind 10 (option_copied c.cut.result.1)) ≡ true = sym c.is_last.ensures ∙ c.if-is_last.true in
    rw last at (at_end (map object_line_tree c.each.all.items) _ _ _ _ c.each.invariant.2.2 _ _ first (sym c.is_end.ensures ∙ c.if-is_end.true))

pub returns-else-is_last : goal.returns-else-is_last
returns-else-is_last c =
    let first : parts_behind 10 (option_copied c.each.rest) ≡ c.cut.result.0.now ∷ parts_behind 10 (option_copied c.cut.result.1) = ap (λ o. parts_behind 10 (option_copied o)) c.in-Some.is ∙ c.cut.ensures.parts in
    let last : is_last (parts_behind 10 (option_copied c.cut.result.1)) ≡ false = sym c.is_last.ensures ∙ c.if-is_last.false in
    rw last at (at_end (map object_line_tree c.each.all.items) _ _ _ _ c.each.invariant.2.2 _ _ first (sym c.is_end.ensures ∙ c.if-is_end.true))

pub returns-in_err-line : goal.returns-in_err-line
returns-in_err-line c =
    let p = err_from_is_err_and c.from_residual.result c.from_residual.ensures.1 in
    let first : parts_behind 10 (option_copied c.each.rest) ≡ c.cut.result.0.now ∷ parts_behind 10 (option_copied c.cut.result.1) = ap (λ o. parts_behind 10 (option_copied o)) c.in-Some.is ∙ c.cut.ensures.parts in
    rw (p.1, p.2) (fails (map object_line_tree c.each.all.items) _ _ _ _ c.each.invariant.2.2 _ _ first c.in_err-line.field-0.0 (sym c.is_end.ensures ∙ c.if-is_end.false) (c.in_err-line.ensures.exact c.each.invariant.2.0 c.each.invariant.2.1))

pub each-smaller : goal.each-smaller
each-smaller c =
    let first : parts_behind 10 (option_copied c.each.rest) ≡ c.cut.result.0.now ∷ parts_behind 10 (option_copied c.cut.result.1) = ap (λ o. parts_behind 10 (option_copied o)) c.in-Some.is ∙ c.cut.ensures.parts in
    omega (arith, ap length first)

pub each-preserved : goal.each-preserved
each-preserved c =
    let first : parts_behind 10 (option_copied c.each.rest) ≡ c.cut.result.0.now ∷ parts_behind 10 (option_copied c.cut.result.1) = ap (λ o. parts_behind 10 (option_copied o)) c.in-Some.is ∙ c.cut.ensures.parts in
    let there = c.in_ok-line.ensures.exact c.each.invariant.2.0 c.each.invariant.2.1 in
    let more : map object_line_tree c.push.new.self.items ≡ map object_line_tree c.each.all.items ++ object_line_tree c.in_ok-line.line ∷ [] = rw c.in_ok-push.ensures.items (map_push object_line_tree c.each.all.items c.in_ok-line.line) in
    let on = goes_on (map object_line_tree c.each.all.items) _ _ _ _ c.each.invariant.2.2 _ _ first (object_line_tree c.in_ok-line.line) (sym c.is_end.ensures ∙ c.if-is_end.false) there in (
      rw c.after-standing.ensures c.in_ok-line.ensures.wide,
      rw c.after-standing.ensures c.in_ok-line.ensures.below,
      (defined (object_line_tree c.in_ok-line.line) ++ c.each.invariant.2.0, c.in_ok-line.ensures.seen c.each.invariant.2.0 c.each.invariant.2.1, rw (more, c.after-standing.ensures) on),
    )
