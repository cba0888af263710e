use Rattle.std.proofs.Common.{◌≡◌, map, drop}
use Rattle.lisa_engine.specs.Schedules.{settings_of}
use Rattle.lisa_engine.proofs.SettingLists.{prepended}
use Rattle.lisa_engine.proofs.schedule.read_settings.Given as goal

abbrev pub invariant-loop-word : goal.invariant-loop-word
invariant-loop-word l =
    settings_of (map (λ w. w.now) l.words) ≡ prepended l.settings.items (settings_of (drop l.word-index (map (λ w. w.now) l.words)))
