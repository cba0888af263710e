use Rattle.std.proofs.Common.{◌≡◌, ◌+◌, ◌<◌, false, get_or, length, sym, ap, ◌∙◌, arith, subst, refl}
use Rattle.moment_stores.specs.Levels.{AreNoted}
use Rattle.moment_stores.proofs.Noted.{one_more, room_left}
use Rattle.moment_stores.proofs.levels.Levels.note.Goals as goal

pub push_reserved-requires : goal.push_reserved-requires
push_reserved-requires c =
    let self = c.args.self.now in
    let free : get_or self.marks.items (c.args.stage + 1) false ≡ false = ap (get_or self.marks.items (c.args.stage + 1)) (sym c.if-index.false) ∙ sym c.index.ensures ∙ c.if-index.false in
    let within : c.args.stage + 1 < length self.marks.items = omega (arith, c.requires, self.marks.ok.0) in
    omega (arith, room_left self.noted.items self.marks.items _ (c.args.stage + 1) self.sound within free, self.noted.ok.0)

pub invariant_of-self : goal.invariant_of-self
invariant_of-self c =
    let self = c.args.self.now in
    let free : get_or self.marks.items (c.args.stage + 1) false ≡ false = ap (get_or self.marks.items (c.args.stage + 1)) (sym c.if-index.false) ∙ sym c.index.ensures ∙ c.if-index.false in
    let within : c.args.stage + 1 < length self.marks.items = omega (arith, c.requires, self.marks.ok.0) in
    record {
      sound = subst (AreNoted _ _) (sym c.push_reserved.ensures.capacity) (one_more self.noted.items c.push_reserved.new.self.items self.marks.items _ _ (c.args.stage + 1) self.sound within free c.push_reserved.ensures.items refl);
    }
