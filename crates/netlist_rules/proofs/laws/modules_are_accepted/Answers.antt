use Rattle.std.proofs.Common.{arith}
use Rattle.netlist_rules.proofs.Whole.{whole_accepted, whole_depth, whole_size, whole_short}
use Rattle.netlist_rules.proofs.laws.modules_are_accepted.Goals as goal

pub returns-clause-accepted : goal.returns-clause-accepted
returns-clause-accepted c find p is_find formed distinct few = whole_accepted find is_find p formed few distinct

pub returns-clause-depth : goal.returns-clause-depth
returns-clause-depth c find p is_find formed few = whole_depth find is_find p formed few

pub returns-clause-size : goal.returns-clause-size
returns-clause-size c find p is_find formed few = whole_size find is_find p formed few 20 (omega arith) (omega arith) (omega (arith, few))

pub returns-clause-short : goal.returns-clause-short
returns-clause-short c find p digits is_find formed few enough = whole_short find is_find p formed few digits enough
