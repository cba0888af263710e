use Rattle.std.proofs.Common.{◌≡◌, length, ap, ◌∙◌, arith}
use Rattle.lisa_engine.specs.Memory.{Memory}
use Rattle.hex_files.specs.HexText.{byte_count}
use Rattle.hex_files.proofs.DigitPuts.{few_bytes}
use Rattle.hex_files.proofs.hex_printer.print_hex.Goals as goal

pub put_data-requires : goal.put_data-requires
put_data-requires c =
    let width : c.memory.inside.width ≡ c.args.memory.now.width = ap (λ (m : Memory). m.width) c.memory.view_is in
    let cells : c.deref.result.now ≡ c.args.memory.now.cells = c.deref.ensures.value ∙ ap (λ (m : Memory). m.cells) c.memory.view_is in
    let narrow = c.requires.width in
    few_bytes (byte_count c.memory.inside.width) c.deref.result.now c.deref-2.result.now (c.deref-2.ensures.value ∙ c.in_ok-bytes.ensures) (omega (arith, width, narrow)) (omega (arith, ap length cells, c.requires.few))
