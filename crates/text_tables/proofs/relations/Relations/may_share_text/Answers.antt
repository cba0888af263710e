use Rattle.std.proofs.Common.{◌≡◌, ℕ, ◌+◌, drop, subst, arith}
use Rattle.text_tables.specs.Openings.{Share}
use Rattle.text_tables.specs.Parts.{text_pieces}
use Rattle.text_tables.proofs.Parted.{share_parts, rest_pieces}
use Rattle.text_tables.proofs.relations.Relations.may_share_text.Goals as goal

pub returns-in-Apart : goal.returns-in-Apart
returns-in-Apart c = λ ts t u.
    absurd (c.in-Apart.ensures (text_pieces c.args.shared.now (drop (c.parts.i + 1) c.args.first.now)) (text_pieces c.args.shared.now (drop (c.parts.i + 1) c.args.second.now))
    (share_parts c.args.shared.now c.args.first.now c.args.second.now c.parts.i c.index-first-i.result c.index-second-i.result (omega (arith, c.min.ensures, c.saturating_sub-most.ensures)) (omega (arith, c.min.ensures, c.saturating_sub-most.ensures))
    c.index-first-i.is c.index-second-i.is (c.parts.invariant (ts, t, u))))

pub parts-preserved : goal.parts-preserved
parts-preserved c = λ h.
    c.in-Level.ensures (text_pieces c.args.shared.now (drop (c.parts.i + 1) c.args.first.now)) (text_pieces c.args.shared.now (drop (c.parts.i + 1) c.args.second.now))
    (share_parts c.args.shared.now c.args.first.now c.args.second.now c.parts.i c.index-first-i.result c.index-second-i.result (omega (arith, c.min.ensures, c.saturating_sub-most.ensures)) (omega (arith, c.min.ensures, c.saturating_sub-most.ensures))
    c.index-first-i.is c.index-second-i.is (c.parts.invariant h))

pub returns : goal.returns
returns c = λ ts t u.
    let most = c.saturating_sub-most.result in
    let end : c.parts.i ≡ most = omega arith in
    let behind = rest_pieces c.args.shared.now most c.args.first.now c.args.second.now
    (subst (λ (n : ℕ). Share (text_pieces c.args.shared.now (drop n c.args.first.now)) (text_pieces c.args.shared.now (drop n c.args.second.now))) end (c.parts.invariant (ts, t, u))) in
    c.may_share_behind.ensures behind.0 behind.1 behind.2
