use Rattle.std.proofs.Common.{◌≡◌, ◌++◌, ℕ, Bool, List, arith, ap, sym, subst, take, drop, length}
use Rattle.moment_stores.specs.Levels.{AreNoted}
use Rattle.moment_stores.proofs.Noted.{none_left}
use Rattle.moment_stores.proofs.Tables.{written_back}
use Rattle.std.specs.Prelude.{reverse}
use Rattle.std.specs.Vec.{vec_capacity}
use Rattle.std.specs.Vec.{vec_capacity}
use Rattle.moment_stores.proofs.levels.Levels.clear.Goals as goal

pub invariant_of-self : goal.invariant_of-self
invariant_of-self c =
    let old = c.args.self.now in
    let new = c.clear_marks.new.marks in
    let same : length new ≡ length old.marks.items = omega (arith, c.clear_marks.auto.marks, c.deref_mut.ensures.len, ap length c.deref_mut.ensures.value) in
    let back : take old.marks.len (new ++ drop (length new) old.marks.items) ≡ new = written_back new old.marks.items old.marks.len same old.marks.ok.0 in
    record {
      sound = subst (λ (room : ℕ). AreNoted (reverse c.clear.new.self.items) (take old.marks.len (new ++ drop (length new) old.marks.items)) room) (sym c.clear.ensures.capacity)
          (subst (λ (all : List Bool). AreNoted (reverse c.clear.new.self.items) all (vec_capacity old.noted)) (sym back)
          (none_left c.clear.new.self.items old.marks.items new (reverse old.noted.items) (vec_capacity old.noted) old.sound c.clear.ensures.items same c.clear_marks.ensures));
    }
