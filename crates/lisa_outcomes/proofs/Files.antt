-- From what a command does with the bytes of its files to what it does with their names.
use Rattle.std.proofs.Common.{◌≡◌, ◌≤◌, ◌∙◌, sym, ap, refl, arith, List, ℕ, [], ◌∷◌, Some, Err, inl, inr, ⊎_elim, Option, Result}
use Rattle.lisa_io.specs.Causes.{Rose}
use Rattle.lisa_io.specs.Contents.{Held}
use Rattle.lisa_outcomes.specs.declared.status.End.{End}
use Rattle.lisa_outcomes.specs.declared.status.Refusal.{Refusal}
use Rattle.lisa_outcomes.specs.Outcomes.{Outcome, FileMap, IsFile, IsTooLong}
use Rattle.lisa_outcomes.specs.Ends.{Ends}
use Rattle.lisa_outcomes.specs.NamedFiles.{NamedFile, AreFiles, IsLongFile, AfterFiles, SomeFailed, LoadsFiles}
use Rattle.lisa_outcomes.proofs.Endings.{passed_told, stopped_told, same_file, no_long_file}

-- each file has one list of bytes
only_files : (files : FileMap) (named : List NamedFile) (a b : List (List ℕ)) → AreFiles files named a → AreFiles files named b → a ≡ b
only_files files [] a b first second = first ∙ sym second
only_files files (file ∷ rest) a b first second =
    let one = same_file files file.name first.0 second.0 file.limit first.3.0 second.3 in
    let others = only_files files rest first.1 second.1 first.4 second.4 in
    first.2 ∙ (λ i. one i ∷ others i) ∙ sym second.2

-- which isn't both short and long
none_long : (files : FileMap) (named : List NamedFile) (bytes : List (List ℕ)) (refusal : Refusal) → AreFiles files named bytes → IsLongFile files named refusal → ⊥
none_long files [] bytes refusal here long = long
none_long files (file ∷ rest) bytes refusal here long = ⊎_elim
    (λ l. no_long_file files file.name here.0 file.limit refusal here.3.0 here.3.1 l)
    (λ later. none_long files rest here.1 refusal here.4 later.2)
    long

-- the command went on with the bytes of the files
pub after_files : {T W : Type 0} (Told : W → Type 0) (files : W → FileMap) (Inner Blamed : Type 0) (named : List NamedFile) (bytes : List (List ℕ)) (Then : W → List (List ℕ) → Outcome → Type 0) (before after : Option (List ℕ)) (old new : ℕ)
    (result : Result T End) → ((w : W) → Told w → AreFiles (files w) named bytes) → (Inner → Blamed)
    → Ends Told (λ w. Then w bytes) Inner before after old new result → Ends Told (λ w. AfterFiles (files w) named (Then w)) Blamed before after old new result
after_files Told files Inner Blamed named bytes Then before after old new result told blamed ends =
    passed_told Told (λ w. AreFiles (files w) named) (λ w. IsLongFile (files w) named) Then Inner Blamed bytes before after old new result
    told (λ w b e here. only_files (files w) named bytes b (told w e) here) (λ w refusal e wrong. none_long (files w) named bytes refusal (told w e) wrong) blamed ends

-- nothing was written: a file was too long or failed, or memory was wanted
pub no_files : {X T W : Type 0} (view : X → List (List ℕ)) (held : Held) (Told : W → Type 0) (files : W → FileMap) (Blamed : Type 0) (named : List NamedFile) (Then : W → List (List ℕ) → Outcome → Type 0) (sink : Option (List ℕ)) (old : ℕ) (first last : List ℕ → ℕ) (end : End)
    → ((w : W) → Told w → held ≡ Some (files w)) → LoadsFiles {X = X} view held named first last (Err end) → (SomeFailed named first last → Blamed)
    → Ends {T = T} Told (λ w. AfterFiles (files w) named (Then w)) Blamed sink sink old old (Err end)
no_files view held Told files Blamed named Then sink old first last end holds loads blamed =
    stopped_told Told (λ w. AreFiles (files w) named) (λ w. IsLongFile (files w) named) Then Blamed end sink old (λ refusal is. loads.real refusal (ap Err is))
    (λ refusal is w e. loads.refused refusal (ap Err is) (files w) (holds w e))
    (λ refusal is w a e here. none_long (files w) named a refusal here (loads.refused refusal (ap Err is) (files w) (holds w e)))
    (λ is. blamed (loads.read (ap Err is))) (λ is. loads.write (ap Err is))
