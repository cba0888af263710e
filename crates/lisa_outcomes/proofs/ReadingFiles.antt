-- The files of a list, read one after another.
use Rattle.std.proofs.Common.{◌≡◌, ◌≤◌, ◌<◌, ◌^◌, zero, suc, ◌∙◌, sym, ap, refl, subst, arith, List, ℕ, [], ◌∷◌, ◌++◌, append_assoc, length, Option, Some, Result, Ok, Err, inl, inr, ⊎_elim}
use Rattle.std.proofs.lemmas.List.{append-nil}
use Rattle.lisa_io.specs.Causes.{Rose}
use Rattle.lisa_io.specs.Contents.{Held}
use Rattle.lisa_outcomes.specs.declared.status.End.{End}
use Rattle.lisa_outcomes.specs.declared.status.End.TheVariants as ends
use Rattle.lisa_outcomes.specs.declared.status.Refusal.{Refusal}
use Rattle.lisa_outcomes.specs.Outcomes.{FileMap, IsFile}
use Rattle.lisa_outcomes.specs.Ends.{Loads}
use Rattle.lisa_outcomes.specs.NamedFiles.{NamedFile, AreFiles, IsLongFile, SomeFailed, LoadsFiles, file_at}
use Rattle.lisa_outcomes.proofs.Told.{err_is}

-- what is left to read decides what comes of all: the bytes behind those that were read, the first that is too long, and what failed
pub record HasRead (held : Held) (named rest : List NamedFile) (read : List (List ℕ)) (before now : List ℕ → ℕ) : Type 0 where
  pub bytes : (files : FileMap) → held ≡ Some files → (others : List (List ℕ)) → AreFiles files rest others → AreFiles files named (read ++ others)
  pub long : (files : FileMap) → held ≡ Some files → (refusal : Refusal) → IsLongFile files rest refusal → IsLongFile files named refusal
  pub failed : (last : List ℕ → ℕ) → SomeFailed rest now last → SomeFailed named before last

-- none was read
pub none_read : (held : Held) (named : List NamedFile) (before : List ℕ → ℕ) → HasRead held named named [] before before
none_read held named before = record {
  bytes = λ files told others are. are;
  long = λ files told refusal long. long;
  failed = λ last some. some;
}

-- counts that rose later have risen since before
risen_before : (named : List NamedFile) (before now last : List ℕ → ℕ) → ((n : List ℕ) → before n ≤ now n) → SomeFailed named now last → SomeFailed named before last
risen_before [] before now last later failed = failed
risen_before (file ∷ rest) before now last later failed = ⊎_elim (λ f. inl (rose (later file.name) f)) (λ more. inr (risen_before rest before now last later more)) failed
  where
    rose : before file.name ≤ now file.name → Rose (now file.name) (last file.name) → Rose (before file.name) (last file.name)
    rose x y = omega arith

-- one more was
pub one_more : (held held' : Held) (named : List NamedFile) (file : NamedFile) (rest : List NamedFile) (read : List (List ℕ)) (bytes : List ℕ) (before now next : List ℕ → ℕ)
    → held' ≡ held → ((n : List ℕ) → now n ≤ next n) → (length bytes ≤ file.limit) × ((files : FileMap) → held' ≡ Some files → files file.name ≡ Some bytes)
    → HasRead held named (file ∷ rest) read before now → HasRead held named rest (read ++ (bytes ∷ [])) before next
one_more held held' named file rest read bytes before now next same later first has = record {
  bytes = λ files told others are.
      subst (AreFiles files named) (sym (append_assoc read (bytes ∷ []) others)) (has.bytes files told (bytes ∷ others) (bytes, others, refl, is files told, are));
  long = λ files told refusal long. has.long files told refusal (inr (bytes, is files told, long));
  failed = λ last some. has.failed last (inr (risen_before rest now next last later some));
}
  where
    is : (files : FileMap) → held ≡ Some files → IsFile files file.name file.limit bytes
    is files told = (first.1 files (same ∙ told), first.0)

-- all were
pub all_read : {X : Type 0} (view : X → List (List ℕ)) (held : Held) (named : List NamedFile) (x : X) (before now : List ℕ → ℕ) → HasRead held named [] (view x) before now
    → LoadsFiles {X = X} view held named before now (Ok x)
all_read view held named x before now has = record {
  bytes = λ files told. subst (AreFiles files named) (append-nil (view x)) (has.bytes files told [] refl);
  refused = λ refusal is. absurd (cc);
  real = λ refusal is. absurd (cc);
  read = λ is. absurd (cc);
  write = λ is. cc;
}

-- the next wasn't
pub next_unread : {X : Type 0} (view : X → List (List ℕ)) (held held' : Held) (named : List NamedFile) (file : NamedFile) (rest : List NamedFile) (read : List (List ℕ)) (before now last : List ℕ → ℕ) (end : End)
    → held' ≡ held → HasRead held named (file ∷ rest) read before now → Loads held' file.name file.limit (now file.name) (last file.name) (Err end)
    → LoadsFiles {X = X} view held named before last (Err end)
next_unread view held held' named file rest read before now last end same has loads = record {
  bytes = tt;
  refused = λ refusal is files told.
      let said = loads.refused refusal (ap Err (err_is _ _ is)) in
      let long = said.1 files (same ∙ told) in
      has.long files told refusal (inl (long.0, long.1, long.2, said.0));
  real = λ refusal is. loads.real refusal (ap Err (err_is _ _ is));
  read = λ is. has.failed last (inl (loads.read (ap Err (err_is _ _ is))));
  write = λ is. loads.write (ap Err (err_is _ _ is));
}

-- memory was wanted
pub unkept : {X : Type 0} (view : X → List (List ℕ)) (held : Held) (named : List NamedFile) (before now : List ℕ → ℕ) → LoadsFiles {X = X} view held named before now (Err ends.NoMemory)
unkept view held named before now = record {
  bytes = tt;
  refused = λ refusal is. absurd (cc);
  real = λ refusal is. absurd (cc);
  read = λ is. absurd (cc);
  write = λ is. cc;
}

-- where each is short and so is one more
pub short_more : (bytes : List (List ℕ)) (more : List ℕ) → ((place : ℕ) → length (file_at bytes place) < 2 ^ 32) → length more < 2 ^ 32 → (place : ℕ) → length (file_at (bytes ++ (more ∷ [])) place) < 2 ^ 32
short_more [] more short one zero = one
short_more [] more short one (suc place) = short place
short_more (first ∷ bytes) more short one zero = short zero
short_more (first ∷ bytes) more short one (suc place) = short_more bytes more (λ k. short (suc k)) one place
