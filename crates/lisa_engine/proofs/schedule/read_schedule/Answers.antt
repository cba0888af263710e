use Rattle.std.proofs.Common.{arith, ◌+◌, sym, map, [], ◌∙◌, ap, drop}
use Rattle.std.proofs.lemmas.Bool.{eqb-true, eqb-false}
use Rattle.std.specs.Str.Lines.{lines, lines_of_parts}
use Rattle.lisa_engine.proofs.LineTexts.{is_text, room_for, after_empty, after_line, after_fault, all_taken, same_rest}
use Rattle.lisa_engine.proofs.Checked.{kept_for, lines_kept}
use Rattle.std.proofs.lemmas.List.{length-map}
use Rattle.lisa_engine.proofs.schedule.read_schedule.Goals as goal
use Rattle.lisa_engine.proofs.schedule.read_schedule.Goals.{then-not-is_empty+in_ok-line+in_ok-push, else-not-is_empty}

pub overflow_cast-place : goal.overflow_cast-place
overflow_cast-place c =
    let here = is_text c.args.bytes.now _ c.loop-place.place _ _ c.line_text-text.result.now c.in_ok-parts.ensures (omega (arith, c.len-place-end.ensures, c.in_ok-parts.parts.ok.0)) (omega (arith, c.len.ensures, c.in_ok-parts.parts.ok.0)) c.index.ensures c.line_text-text.ensures in
    omega (arith, room_for here (eqb-false _ 0 (sym c.is_empty.ensures ∙ c.if-not-is_empty.true)))

pub returns-in_err-line-clause-read : goal.returns-in_err-line-clause-read
returns-in_err-line-clause-read c =
    let here = is_text c.args.bytes.now _ c.loop-place.place _ _ c.line_text-text.result.now c.in_ok-parts.ensures (omega (arith, c.len-place-end.ensures, c.in_ok-parts.parts.ok.0)) (omega (arith, c.len.ensures, c.in_ok-parts.parts.ok.0)) c.index.ensures c.line_text-text.ensures in
    after_fault _ _ _ _ _ _ _ here c.loop-place.invariant _ _ (eqb-false _ 0 (sym c.is_empty.ensures ∙ c.if-not-is_empty.true)) c.in_err-line.ensures c.from_residual-in_err-line.ensures.1

pub loop-place-preserved : goal.loop-place-preserved
loop-place-preserved c =
    let here = is_text c.args.bytes.now _ c.loop-place.place _ _ c.line_text-text.result.now c.in_ok-parts.ensures (omega (arith, c.len-place-end.ensures, c.in_ok-parts.parts.ok.0)) (omega (arith, c.len.ensures, c.in_ok-parts.parts.ok.0)) c.index.ensures c.line_text-text.ensures in
    elim c.if-not-is_empty.branch [
      | then-not-is_empty+in_ok-line+in_ok-push w ↦
          (after_line _ _ _ _ _ _ _ here c.loop-place.invariant w.in_ok-line.line (eqb-false _ 0 (sym c.is_empty.ensures ∙ w.if-not-is_empty.true)) w.in_ok-line.ensures
          ∙ same_rest c.args.pins.now (lines_of_parts (drop (c.loop-place.place + 1) (map (λ p. p.now) c.in_ok-parts.parts.items))) (c.loop-place.place + 1 + 1) (sym (ap (λ v. v.items) w.lines-is ∙ w.in_ok-push.ensures.items)) (sym (w.before-is ∙ ap (λ l. l.edge) w.line.view_is)))
      | else-not-is_empty w ↦
          (after_empty _ _ _ _ _ _ _ here c.loop-place.invariant (eqb-true _ 0 (sym c.is_empty.ensures ∙ w.if-not-is_empty.false))
          ∙ same_rest c.args.pins.now (lines_of_parts (drop (c.loop-place.place + 1) (map (λ p. p.now) c.in_ok-parts.parts.items))) (c.loop-place.place + 1 + 1) (sym (ap (λ v. v.items) w.lines-is)) (sym w.before-is))
    ]

pub returns-clause-fits : goal.returns-clause-fits
returns-clause-fits c =
    kept_for (lines_kept c.args.pins.now (record { name = []; width = 0 }) (lines c.args.bytes.now) 1 0 c.loop-place.lines.items
    (all_taken c.args.pins.now c.args.bytes.now (map (λ p. p.now) c.in_ok-parts.parts.items) c.loop-place.place c.loop-place.before c.loop-place.lines.items (omega (arith, c.len-place-end.ensures, c.in_ok-parts.parts.ok.0, length-map c.in_ok-parts.parts.items (λ p. p.now))) c.loop-place.invariant))
