-- No local before the place has the name.
use Rattle.std.proofs.Common.{◌≡◌, ◌<◌, ◌≤◌, ◌-◌, ℕ, false, get_or}
use Rattle.std.specs.Vec.{vec_len}
use Rattle.lisa_tree.specs.Same.{same_name}
use Rattle.moment_stores.specs.declared.locals.Local.{Local}
use Rattle.moment_stores.proofs.locals.Locals.place.Given as goal

abbrev pub invariant-each : goal.invariant-each
invariant-each l = record {
  from : l.self.base ≤ l.place;
  most : l.place ≤ vec_len l.self.all;
  before : (k : ℕ) (d : Local) → l.self.base ≤ k → k < l.place → same_name l.name (get_or l.self.all.items k d).name.now ≡ false;
}

abbrev pub decreases-each : goal.decreases-each
decreases-each l = vec_len l.self.all - l.place
