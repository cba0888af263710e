use Rattle.std.proofs.Common.{◌++◌, map}
use Rattle.instruction_texts.specs.Symbols.{text_sym}
use Rattle.form_texts.specs.Segments.{segment_symbols, written_in}
use Rattle.form_texts.specs.declared.segments.Segment.TheVariants as segments
use Rattle.form_texts.proofs.Segmented.{one_byte, last_byte}
use Rattle.form_texts.proofs.segments.add_bytes.Goals as goal

pub loop-byte-preserved : goal.loop-byte-preserved
loop-byte-preserved c = λ all fields parts.
    let text = c.args.text.now in
    one_byte (segment_symbols all fields parts) text c.loop-byte.byte-index (segments.Same c.text_symbol.result) c.loop-byte.segments.items c.push.new.self.items (written_in all c.args.segments.now.items fields parts ++ map text_sym text)
    c.loop-byte-test.true (c.text_symbol.ensures all) c.in_ok-push.ensures.items (c.loop-byte.invariant all fields parts)

pub returns : goal.returns
returns c = λ all fields parts.
    let text = c.args.text.now in
    last_byte (segment_symbols all fields parts) text c.loop-byte.byte-index c.loop-byte.segments.items (written_in all c.args.segments.now.items fields parts ++ map text_sym text) c.loop-byte-test.false (c.loop-byte.invariant all fields parts)
