use Rattle.std.proofs.Common.{arith, ◌+◌, sym, map, [], ◌∙◌, ap, drop}
use Rattle.std.proofs.lemmas.List.{get_or-map, length-map}
use Rattle.lisa_engine.specs.Schedules.{settings_of}
use Rattle.lisa_engine.proofs.SettingLists.{one_read, one_bad, prepended}
use Rattle.lisa_engine.proofs.schedule.read_settings.Goals as goal

pub returns-in-None : goal.returns-in-None
returns-in-None c =
    sym (one_bad (map (λ w. w.now) c.args.words.now) c.loop-word.word-index _ _ (omega (arith, length-map c.args.words.now (λ w. w.now)))
    (sym (get_or-map (λ w. w.now) c.args.words.now c.loop-word.word-index _ [] c.loop-word-test.true)) (sym c.in-None.ensures) c.loop-word.invariant)

pub loop-word-preserved : goal.loop-word-preserved
loop-word-preserved c =
    one_read (map (λ w. w.now) c.args.words.now) c.loop-word.word-index _ c.loop-word.settings.items _ (omega (arith, length-map c.args.words.now (λ w. w.now)))
    (sym (get_or-map (λ w. w.now) c.args.words.now c.loop-word.word-index _ [] c.loop-word-test.true)) (sym c.in-Some.ensures) c.loop-word.invariant
    ∙ ap (λ done. prepended done (settings_of (drop (c.loop-word.word-index + 1) (map (λ w. w.now) c.args.words.now)))) (sym c.in_ok-push-in-Some.ensures.items)
