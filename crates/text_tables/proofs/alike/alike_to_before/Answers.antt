use Rattle.std.proofs.Common.{◌-◌, arith}
use Rattle.text_tables.specs.Parts.{all_pieces, text_pieces}
use Rattle.text_tables.proofs.Aliking.{is_before}
use Rattle.text_tables.proofs.Parted.{text_of_parts}
use Rattle.text_tables.proofs.alike.alike_to_before.Goals as goal

pub returns : goal.returns
returns c =
    let t = c.args.texts.now in
    let shared = c.deref.result.now in
    let here = text_of_parts t c.args.form c.index-2.result.now shared c.deref-3.result.now c.requires c.index-2.ensures c.deref.ensures.value c.deref-3.ensures.value in
    let there = text_of_parts t (c.args.form - 1) c.index.result.now shared c.deref-2.result.now (omega (arith, c.requires)) c.index.ensures c.deref.ensures.value c.deref-2.ensures.value in
    λ j e. is_before (all_pieces t) c.args.form j c.alike_texts.result (text_pieces shared c.deref-2.result.now) (text_pieces shared c.deref-3.result.now) e there here c.alike_texts.ensures
