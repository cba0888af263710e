use Rattle.std.proofs.Common.{get_or, map, refl}
use Rattle.std.specs.List.{flat_map}
use Rattle.form_texts.specs.Segments.{written_in}
use Rattle.form_texts.specs.Strings.{symbols_of, part_of}
use Rattle.form_texts.specs.Written.{numbered_fields}
use Rattle.form_texts.specs.declared.segments.Segment.TheVariants as segments
use Rattle.form_texts.specs.declared.symbols.Symbol.TheVariants as symbols
use Rattle.form_texts.proofs.Segmented.{one_segment, last_segment}
use Rattle.form_texts.proofs.assembling.assemble.Goals as goal

pub loop-segment-preserved : goal.loop-segment-preserved
loop-segment-preserved c = λ all.
    let source = c.args.source.now in
    let here = c.args.segments.now in
    let i = c.loop-segment.segment-index in
    let fields = numbered_fields source.first source.fields.now in
    let parts = map (part_of all) source.parts.now in
    one_segment all here i (get_or here i (segments.Same (symbols.Byte 0))) (segments.Same (symbols.Byte 0)) (flat_map (symbols_of all) c.loop-segment.symbols.items) (flat_map (symbols_of all) c.add_segment.new.symbols.items)
    (written_in all here fields parts) fields parts c.loop-segment-test.true refl (c.in_ok-add_segment.ensures all) (c.loop-segment.invariant all)

pub returns : goal.returns
returns c = λ all.
    let source = c.args.source.now in
    let here = c.args.segments.now in
    let fields = numbered_fields source.first source.fields.now in
    let parts = map (part_of all) source.parts.now in
    last_segment all here c.loop-segment.segment-index (flat_map (symbols_of all) c.loop-segment.symbols.items) (written_in all here fields parts) fields parts c.loop-segment-test.false (c.loop-segment.invariant all)
