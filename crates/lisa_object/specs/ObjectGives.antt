-- What reading an object answers.
use Rattle.std.specs.Prelude.{ℕ, List, ◌≡◌, ◌+◌, ◌≤◌, ◌==◌, count_by, Result, Ok, Err}
use Rattle.lisa_object.specs.declared.parts.Object.{Object}
use Rattle.lisa_object.specs.declared.faults.ObjectFault.{ObjectFault}
use Rattle.lisa_object.specs.declared.faults.ObjectFault.TheVariants as faults
use Rattle.lisa_object.specs.Objects.{PlainObject, object_tree}

-- this object, unless memory ran out
abbrev pub IsThisObject : PlainObject → Result Object ObjectFault → Type 0
IsThisObject o (Ok p) = object_tree p ≡ o
IsThisObject o (Err faults.NoMemory) = Unit {0}
IsThisObject o (Err fault) = ⊥

-- the bytes are no object, with a line of theirs, or memory ran out
abbrev pub IsObjectRefusal : ℕ → List ℕ → ObjectFault → Type 0
IsObjectRefusal number bytes (faults.NotAnObject object line) = (object ≡ number) × (line ≤ 1 + count_by (λ b. b == 10) bytes)
IsObjectRefusal number bytes faults.NoMemory = Unit {0}
IsObjectRefusal number bytes fault = ⊥
