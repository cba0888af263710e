use Rattle.std.proofs.Common.{◌≡◌, ◌∙◌, length, ap, sym, subst, arith, refl}
use Rattle.std.proofs.Common.{take}
use Rattle.lisa_engine.specs.PinValues.{after_lines, IsPlaceAfter, IsPlayable}
use Rattle.lisa_debug.proofs.Rows.{kept_items}
use Rattle.lisa_debug.proofs.Steps.{live_same}
use Rattle.lisa_debug.proofs.session.Session.replay.Goals as goal

pub position-position-requires : goal.position-position-requires
position-position-requires g c = c.requires.limit

pub play_until-requires : goal.play_until-requires
play_until-requires g c =
    let width : length c.deref_mut.result.now ≡ length (g.E.Engine.machine c.args.self.now.engine).pins = omega (arith, ap length c.deref_mut.ensures.value, c.requires.room) in
    subst (λ n. IsPlayable n c.args.self.now.schedule) (sym width) c.requires.schedule.playable

pub returns-clause-came : goal.returns-clause-came
returns-clause-came g c =
    let long : length c.play_until.new.pins ≡ c.args.self.now.journal.pins.len = omega (arith, c.deref_mut.ensures.len) in
    let total : length c.play_until.new.pins ≡ length c.args.self.now.journal.pins.items = omega (arith, ap length c.deref_mut.ensures.value) in
    record { same = refl; live = live_same c.requires refl refl (ap length (kept_items c.args.self.now.journal.pins.len c.play_until.new.pins c.args.self.now.journal.pins.items long) ∙ total); stands = refl }

pub returns-clause-played : goal.returns-clause-played
returns-clause-played g c =
    let long : length c.play_until.new.pins ≡ c.args.self.now.journal.pins.len = omega (arith, c.deref_mut.ensures.len) in
    let width : length c.deref_mut.result.now ≡ length (g.E.Engine.machine c.args.self.now.engine).pins = omega (arith, ap length c.deref_mut.ensures.value, c.requires.room) in
    record {
      after = subst (λ k. IsPlaceAfter c.args.self.now.schedule k c.play_until.result) c.position-position.ensures c.play_until.ensures.place;
      values = kept_items c.args.self.now.journal.pins.len c.play_until.new.pins c.args.self.now.journal.pins.items long ∙ c.play_until.ensures.values
          ∙ ap (λ n. after_lines n (take c.play_until.result c.args.self.now.schedule)) width;
    }
