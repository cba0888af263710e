use Rattle.std.proofs.Common.{◌≡◌, Some, None, sym, ap, ◌∙◌}
use Rattle.std.specs.Prelude.{◌==◌}
use Rattle.std.specs.List.{slice_split}
use Rattle.lisa_object.specs.Texts.{image_text}
use Rattle.lisa_object.specs.ImageReading.{image_of}
use Rattle.lisa_object.proofs.Options.{some_is}
use Rattle.lisa_object.proofs.ImageWhole.{found, only}
use Rattle.lisa_object.proofs.image_reader.read_image.Goals as goal

pub returns-in-Ok-clause-found : goal.returns-in-Ok-clause-found
returns-in-Ok-clause-found c = let f = found c.args.bytes.now c.in-Ok.image c.in-Ok.ensures in (f.keeps, f.text)

pub returns-in-Ok-clause-only : goal.returns-in-Ok-clause-only
returns-in-Ok-clause-only c = λ s h e.
    let there : image_of (slice_split (λ b. b == 10) c.args.bytes.now) ≡ Some s = ap (λ l. image_of (slice_split (λ b. b == 10) l)) e ∙ only s h in
    some_is c.in-Ok.image s (sym c.in-Ok.ensures ∙ there)

pub returns-in-Err-Misspelled-clause-only : goal.returns-in-Err-Misspelled-clause-only
returns-in-Err-Misspelled-clause-only c = λ s h e.
    let there : image_of (slice_split (λ b. b == 10) c.args.bytes.now) ≡ Some s = ap (λ l. image_of (slice_split (λ b. b == 10) l)) e ∙ only s h in
    let none : image_of (slice_split (λ b. b == 10) c.args.bytes.now) ≡ None = rw c.in-Err-Misspelled.field-0-is at c.in-Err-Misspelled.ensures in
    absurd cc
