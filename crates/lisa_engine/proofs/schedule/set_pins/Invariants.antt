use Rattle.std.proofs.Common.{◌≡◌, take}
use Rattle.std.specs.Prelude.{fold}
use Rattle.lisa_engine.specs.PinValues.{set_pin}
use Rattle.lisa_engine.proofs.schedule.set_pins.Given as goal

abbrev pub invariant-loop-setting : goal.invariant-loop-setting
invariant-loop-setting l = l.into ≡ fold set_pin l.fn.into (take l.setting-index l.settings)
