use Rattle.std.proofs.Common.{◌/◌, ◌%◌, length, [], ◌∷◌, refl}
use Rattle.hex_files.proofs.RecordLoops.{record_puts}
use Rattle.hex_files.proofs.hex_printer.put_record.Goals as goal

pub returns : goal.returns
returns c =
    record_puts c.args.out.now.items _ _ _ _ _ (length c.args.content.now ∷ c.args.address / 256 ∷ c.args.address % 256 ∷ c.args.kind ∷ []) c.args.content.now _ c.args.address c.args.kind
    c.in_ok-push.ensures.items c.in_ok-put_bytes.ensures c.in_ok-put_bytes-2.ensures c.in_ok-put_byte.ensures c.in_ok-push-2.ensures.items refl c.complement.ensures
