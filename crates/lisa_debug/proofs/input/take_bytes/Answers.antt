use Rattle.std.proofs.Common.{◌≡◌, ◌++◌, ◌∷◌, ◌+◌, [], take, drop, get_or, arith, refl, ap}
use Rattle.std.proofs.lemmas.List.{take_all}
use Rattle.lisa_debug.proofs.Takings.{takes_ended, takes_cut, takes_at, takes_all, so_far_rest}
use Rattle.lisa_debug.proofs.input.take_bytes.Goals as goal

pub returns-in_err-take_byte-clause-takes : goal.returns-in_err-take_byte-clause-takes
returns-in_err-take_byte-clause-takes g c course start taken st had =
    let so_far = c.loop-byte.invariant.2 course start taken st had in
    let k = c.loop-byte.byte-index in
    takes_at (so_far_rest taken c.args.bytes.now k (get_or c.args.bytes.now k 0) c.loop-byte-test.true refl)
    (takes_cut _ ((taken ++ take k c.args.bytes.now) ++ get_or c.args.bytes.now k 0 ∷ []) (drop (k + 1) c.args.bytes.now) start _ _ _ c.from_residual.ensures.1
    (c.in_err-take_byte.ensures.takes course start (taken ++ take k c.args.bytes.now) so_far.0 so_far.1))

pub returns-in-Quit-clause-takes : goal.returns-in-Quit-clause-takes
returns-in-Quit-clause-takes g c course start taken st had =
    let so_far = c.loop-byte.invariant.2 course start taken st had in
    let k = c.loop-byte.byte-index in
    takes_at (so_far_rest taken c.args.bytes.now k (get_or c.args.bytes.now k 0) c.loop-byte-test.true refl)
    (takes_ended _ ((taken ++ take k c.args.bytes.now) ++ get_or c.args.bytes.now k 0 ∷ []) (drop (k + 1) c.args.bytes.now) start _
    (rw c.in-Quit.is at c.in_ok-take_byte.ensures.takes course start (taken ++ take k c.args.bytes.now) so_far.0 so_far.1))

pub returns-clause-takes : goal.returns-clause-takes
returns-clause-takes g c course start taken st had =
    let so_far = c.loop-byte.invariant.2 course start taken st had in
    let all : taken ++ take c.loop-byte.byte-index c.args.bytes.now ≡ taken ++ c.args.bytes.now = ap (λ t. taken ++ t) (take_all c.loop-byte.byte-index c.args.bytes.now (omega arith)) in
    takes_at all (takes_all (taken ++ take c.loop-byte.byte-index c.args.bytes.now) start _ so_far.0 so_far.1)
