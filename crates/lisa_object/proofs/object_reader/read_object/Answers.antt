use Rattle.std.proofs.Common.{◌≡◌, Some, None, sym, ap, ◌∙◌}
use Rattle.std.specs.Prelude.{◌==◌}
use Rattle.std.specs.List.{slice_split}
use Rattle.lisa_object.specs.Objects.{object_tree}
use Rattle.lisa_object.specs.ObjectReading.{object_of}
use Rattle.lisa_object.proofs.Options.{some_is}
use Rattle.lisa_object.proofs.ObjectWhole.{found, only}
use Rattle.lisa_object.proofs.object_reader.read_object.Goals as goal

pub returns-in-Ok-clause-found : goal.returns-in-Ok-clause-found
returns-in-Ok-clause-found c = let f = found c.args.bytes.now (object_tree c.in-Ok.read) c.in-Ok.ensures in (f.keeps, f.text)

pub returns-in-Ok-clause-only : goal.returns-in-Ok-clause-only
returns-in-Ok-clause-only c = λ o h e.
    let there : object_of (slice_split (λ b. b == 10) c.args.bytes.now) ≡ Some o = ap (λ l. object_of (slice_split (λ b. b == 10) l)) e ∙ only o h in
    some_is (object_tree c.in-Ok.read) o (sym c.in-Ok.ensures ∙ there)

pub returns-in-Err-Misspelled-clause-only : goal.returns-in-Err-Misspelled-clause-only
returns-in-Err-Misspelled-clause-only c = λ o h e.
    let there : object_of (slice_split (λ b. b == 10) c.args.bytes.now) ≡ Some o = ap (λ l. object_of (slice_split (λ b. b == 10) l)) e ∙ only o h in
    let none : object_of (slice_split (λ b. b == 10) c.args.bytes.now) ≡ None = rw c.in-Err-Misspelled.field-0-is at c.in-Err-Misspelled.ensures in
    absurd cc
