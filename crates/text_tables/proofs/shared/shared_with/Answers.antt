use Rattle.std.proofs.Common.{ap₂, arith}
use Rattle.text_tables.specs.Parts.{text_pieces}
use Rattle.text_tables.proofs.Parted.{pieces_in, sized_text, as_found, as_none}
use Rattle.text_tables.proofs.Sharing.{first_later, none_up_to, none_later}
use Rattle.text_tables.proofs.shared.shared_with.Goals as goal

pub shared_text-requires-clause-first : goal.shared_text-requires-clause-first
shared_text-requires-clause-first c = sized_text c.args.texts.now c.args.first c.index.result.now c.deref.result.now c.deref-in-later.result.now c.requires.sized c.requires.within c.index.ensures c.deref.ensures.value c.deref-in-later.ensures.value

pub shared_text-requires-clause-second : goal.shared_text-requires-clause-second
shared_text-requires-clause-second c = sized_text c.args.texts.now c.later.second c.index-in-later.result.now c.deref.result.now c.deref-in-later-2.result.now c.requires.sized (omega arith) c.index-in-later.ensures c.deref.ensures.value c.deref-in-later-2.ensures.value

pub returns-in-Some : goal.returns-in-Some
returns-in-Some c =
    let t = c.args.texts.now in
    let view = pieces_in t in
    let one = ap₂ text_pieces c.deref.ensures.value c.deref-in-later.ensures.value in
    let other = ap₂ text_pieces c.deref.ensures.value c.deref-in-later-2.ensures.value in
    first_later view t.texts.items c.args.first c.later.second c.index.result.now c.index-in-later.result.now (omega arith) (omega arith) c.index.ensures c.index-in-later.ensures c.in-Some.text c.later.invariant
    (as_found (text_pieces c.deref.result.now c.deref-in-later.result.now) (view c.index.result.now) (text_pieces c.deref.result.now c.deref-in-later-2.result.now) (view c.index-in-later.result.now) c.in-Some.text.items one other
    (rw c.in-Some.is at c.in_ok-text.ensures.found))

pub later-preserved : goal.later-preserved
later-preserved c =
    let t = c.args.texts.now in
    let view = pieces_in t in
    let one = ap₂ text_pieces c.deref.ensures.value c.deref-in-later.ensures.value in
    let other = ap₂ text_pieces c.deref.ensures.value c.deref-in-later-2.ensures.value in
    none_up_to view t.texts.items c.args.first c.later.second c.index.result.now c.index-in-later.result.now (omega arith) (omega arith) c.index.ensures c.index-in-later.ensures c.later.invariant
    (as_none (text_pieces c.deref.result.now c.deref-in-later.result.now) (view c.index.result.now) (text_pieces c.deref.result.now c.deref-in-later-2.result.now) (view c.index-in-later.result.now) one other
    (rw c.in_default.is at c.in_ok-text.ensures.none))

pub returns : goal.returns
returns c = none_later (pieces_in c.args.texts.now) c.args.texts.now.texts.items c.args.first c.later.second c.later.invariant (omega arith)
