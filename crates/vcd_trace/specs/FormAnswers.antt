-- What the reading of a form says of the bytes.
use Rattle.std.specs.Prelude.{ℕ, ◌≤◌, ◌≡◌, List, length, Some, None, Result, Ok, Err, ⊤}
use Rattle.vcd_trace.specs.Forms.{Form}
use Rattle.vcd_trace.specs.Parts.{form_of}
use Rattle.vcd_trace.specs.declared.faults.VcdFault.{VcdFault}
use Rattle.vcd_trace.specs.declared.faults.VcdFault.TheVariants.{BadToken, UnknownCode, BadWidth, NotRising, ValueWidth, NoFirst, TooMany, NoMemory}

abbrev pub AnswersForm : List ℕ → Result Form VcdFault → Type 0
AnswersForm bytes (Ok form) = form_of bytes ≡ Some form
AnswersForm bytes (Err (BadToken at)) = (at ≤ length bytes) × (form_of bytes ≡ None)
AnswersForm bytes (Err (UnknownCode at)) = ⊥
AnswersForm bytes (Err (BadWidth name width)) = ⊥
AnswersForm bytes (Err (NotRising at)) = ⊥
AnswersForm bytes (Err (ValueWidth at)) = ⊥
AnswersForm bytes (Err (NoFirst name)) = ⊥
AnswersForm bytes (Err (TooMany what count limit)) = ⊥
AnswersForm bytes (Err NoMemory) = ⊤
