use Rattle.verilog_text.specs.Trees.{module_tree}
use Rattle.verilog_text.specs.Clocked.{arrays}
use Rattle.verilog_clock.proofs.Clocking.{lens_agree}
use Rattle.verilog_clock.proofs.clock.ClockEngine.restart.Goals as goal

pub copy_rows-requires : goal.copy_rows-requires
copy_rows-requires c =
    let s = c.args.self.now in
    lens_agree (arrays (module_tree s.module.now).members) s.cells.items s.first_rows.items c.deref_mut.result.now c.deref-2.result.now s.shape.cells s.first_shape.cells c.deref_mut.ensures.value c.deref-2.ensures.value
