use Rattle.std.proofs.Common.{arith, ◌+◌, sym, map, ◌∙◌, ap, refl, subst, inl, Ok}
use Rattle.std.proofs.lemmas.Bool.{eqb-true, eqb-false}
use Rattle.std.proofs.lemmas.List.{length-map}
use Rattle.lisa_board.specs.Boards.{IsBoardFor}
use Rattle.lisa_board.proofs.BoardFits.{device_fits}
use Rattle.lisa_board.proofs.BoardReads.{is_text, room_for, left_from, after_empty, after_device, after_fault, is_device, all_read}
use Rattle.lisa_board.proofs.reader.read_board.Goals as goal
use Rattle.lisa_board.proofs.reader.read_board.Goals.{then-not-is_empty+in_ok-device+in_ok-add, else-not-is_empty}

pub overflow_cast-place : goal.overflow_cast-place
overflow_cast-place c =
    let here = is_text c.args.bytes.now _ c.loop-place.place _ c.line_text-text.result.now c.in_ok-parts.ensures (omega (arith, c.len-place-end.ensures, c.in_ok-parts.parts.ok.0)) c.index.ensures c.line_text-text.ensures in
    omega (arith, room_for here (eqb-false _ 0 (sym c.is_empty.ensures ∙ c.if-not-is_empty.true)))

pub returns-in_err-device-clause-read : goal.returns-in_err-device-clause-read
returns-in_err-device-clause-read c =
    let here = is_text c.args.bytes.now _ c.loop-place.place _ c.line_text-text.result.now c.in_ok-parts.ensures (omega (arith, c.len-place-end.ensures, c.in_ok-parts.parts.ok.0)) c.index.ensures c.line_text-text.ensures in
    after_fault c.args.items.now c.args.pins.now _ _ _ _ c.loop-place.board here c.loop-place.invariant.0 _ _ (eqb-false _ 0 (sym c.is_empty.ensures ∙ c.if-not-is_empty.true)) c.in_err-device.ensures c.from_residual-in_err-device.ensures.1

pub loop-place-preserved : goal.loop-place-preserved
loop-place-preserved c =
    let here = is_text c.args.bytes.now _ c.loop-place.place _ c.line_text-text.result.now c.in_ok-parts.ensures (omega (arith, c.len-place-end.ensures, c.in_ok-parts.parts.ok.0)) c.index.ensures c.line_text-text.ensures in
    elim c.if-not-is_empty.branch [
      | then-not-is_empty+in_ok-device+in_ok-add w ↦
          let some = eqb-false _ 0 (sym c.is_empty.ensures ∙ w.if-not-is_empty.true) in
          let added = w.board-is ∙ w.in_ok-add.ensures in (
            after_device c.args.items.now c.args.pins.now _ _ _ _ c.loop-place.board here c.loop-place.invariant.0 w.in_ok-device.device some w.in_ok-device.ensures
                ∙ ap (left_from c.args.items.now c.args.pins.now (map (λ p. p.now) c.in_ok-parts.parts.items) (c.loop-place.place + 1)) (sym added),
            subst (IsBoardFor c.args.items.now c.args.pins.now) (sym added)
                (device_fits c.args.items.now c.args.pins.now (c.loop-place.place + 1) c.loop-place.board c.line_text-text.result.now w.in_ok-device.device c.loop-place.invariant.1
                (is_device c.args.items.now c.args.pins.now _ _ _ _ c.loop-place.board here c.loop-place.invariant.0 w.in_ok-device.device w.in_ok-device.ensures)),
          )
      | else-not-is_empty w ↦ (
        after_empty c.args.items.now c.args.pins.now _ _ _ _ c.loop-place.board here c.loop-place.invariant.0 (eqb-true _ 0 (sym c.is_empty.ensures ∙ w.if-not-is_empty.false))
            ∙ ap (left_from c.args.items.now c.args.pins.now (map (λ p. p.now) c.in_ok-parts.parts.items) (c.loop-place.place + 1)) (sym w.board-is),
        subst (IsBoardFor c.args.items.now c.args.pins.now) (sym w.board-is) c.loop-place.invariant.1,
      )
    ]

pub returns-clause-read : goal.returns-clause-read
returns-clause-read c =
    inl (ap Ok refl ∙ sym (all_read c.args.items.now c.args.pins.now c.args.bytes.now (map (λ p. p.now) c.in_ok-parts.parts.items) c.loop-place.place c.loop-place.board
    (omega (arith, c.len-place-end.ensures, c.in_ok-parts.parts.ok.0, length-map c.in_ok-parts.parts.items (λ p. p.now))) c.loop-place.invariant.0))
