use Rattle.name_tables.specs.TableViews.{value_of}
use Rattle.noted_names.proofs.Kept.{kept_noted, new_joins, put_at_slot, put_noted}
use Rattle.noted_names.proofs.memo.Memo.put.Goals as goal

pub invariant_of-self-in-Some : goal.invariant_of-self-in-Some
invariant_of-self-in-Some c = record {
  of_slots = put_at_slot c.args.self.now.table c.insert.new.self c.args.name.now c.args.places c.in_ok-key.key c.in_ok-clone.field-0 c.args.self.now.slots.items c.in-Some.slot c.in_ok-key.ensures.cases c.in_ok-clone.ensures.cases c.in_ok-insert.ensures.updates c.requires c.args.self.now.of_slots;
}

pub invariant_of-self-in-None-free_slot : goal.invariant_of-self-in-None-free_slot
invariant_of-self-in-None-free_slot c = record {
  of_slots = kept_noted c.args.self.now.table c.insert.new.self c.args.name.now c.args.places c.in_ok-key.key c.args.self.now.slots.items c.in_ok-key.ensures.cases c.in_ok-insert.ensures.updates c.requires c.args.self.now.of_slots;
}

pub returns-in-Some-clause-ok : goal.returns-in-Some-clause-ok
returns-in-Some-clause-ok c = new_joins (value_of c.args.self.now.table) (value_of c.insert.new.self) c.args.name.now c.args.places c.requires (put_noted c.args.self.now.table c.insert.new.self c.args.name.now c.args.places c.in_ok-key.key c.in_ok-key.ensures.cases c.in_ok-insert.ensures.updates)

pub returns-in_default-clause-ok : goal.returns-in_default-clause-ok
returns-in_default-clause-ok c = new_joins (value_of c.args.self.now.table) (value_of c.insert.new.self) c.args.name.now c.args.places c.requires (put_noted c.args.self.now.table c.insert.new.self c.args.name.now c.args.places c.in_ok-key.key c.in_ok-key.ensures.cases c.in_ok-insert.ensures.updates)
