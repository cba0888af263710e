use Rattle.std.proofs.Common.{refl}
use Rattle.description_types.proofs.uses.choice_traits.Goals as goal

pub returns : goal.returns
returns g c =
    rw c.any_staged.ensures (rw c.any_rooted.ensures (rw c.any_coded.ensures (rw c.any_staged-2.ensures (rw c.any_rooted-2.ensures (rw c.plain_at-plain.ensures (rw c.alternatives_at-listed.ensures refl))))))
