use Rattle.generator_commands.proofs.Kept.{kept_text}
use Rattle.generator_commands.proofs.digests.keep_state.Goals as goal

pub returns-in-Ok : goal.returns-in-Ok
returns-in-Ok g c = λ none.
    kept_text (g.E.Engine.machine c.args.engine.now) c.args.edges c.args.schedule.now c.new-text.result.items c.put_state.new.out.text.items none c.new-text.ensures.items c.in-Ok.ensures.all
