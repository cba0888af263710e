-- What a read of a whole file tells.
use Rattle.std.proofs.Common.{◌≡◌, ◌<◌, ◌∙◌, sym, ap, refl, List, ℕ, length, Option, Some, None, Result, Ok, Err, true, false}
use Rattle.lisa_io.specs.Contents.{Held, Tells, TellsNone}
use Rattle.lisa_io.specs.declared.whole.ReadEnd.{ReadEnd}
use Rattle.lisa_io.specs.declared.whole.ReadEnd.TheVariants as read_ends
use Rattle.lisa_outcomes.specs.Outcomes.{FileMap}

-- a file that was read has its bytes in each map of the files
pub told_bytes : (held : Held) (name items : List ℕ) → ((bytes : List ℕ) → Tells held name bytes → items ≡ bytes) → (TellsNone held name → ⊥)
    → (files : FileMap) → held ≡ Some files → files name ≡ Some items
told_bytes held name items same there files e = by_option (files name) refl
  where
    by_option : (o : Option (List ℕ)) → files name ≡ o → files name ≡ Some items
    by_option None n = absurd (there (files, e, n))
    by_option (Some b) s = s ∙ ap Some (sym (same b (files, e, s)))

-- a file that was too long has more bytes than the limit in each map of the files
pub told_more : (held : Held) (name : List ℕ) (limit : ℕ) → ((bytes : List ℕ) → Tells held name bytes → limit < length bytes) → (TellsNone held name → ⊥)
    → (files : FileMap) → held ≡ Some files → (bytes : List ℕ) × (files name ≡ Some bytes) × (limit < length bytes)
told_more held name limit more there files e = by_option (files name) refl
  where
    by_option : (o : Option (List ℕ)) → files name ≡ o → (bytes : List ℕ) × (files name ≡ Some bytes) × (limit < length bytes)
    by_option None n = absurd (there (files, e, n))
    by_option (Some b) s = (b, s, more b (files, e, s))

pub long_is_no_fault : (e : ReadEnd) → e ≡ read_ends.TooLong → e ≡ read_ends.ReadFault → ⊥
long_is_no_fault e a b = distinct (sym a ∙ b)
  where
    distinct : read_ends.TooLong ≡ read_ends.ReadFault → ⊥
    distinct e = cc

pub err_is : {T E : Type 0} (x y : E) → ◌≡◌ {A = Result T E} (Err x) (Err y) → x ≡ y
err_is x y e = cc

pub ok_is_no_err : {T E : Type 0} (x : T) (y : E) → Ok x ≡ Err y → ⊥
ok_is_no_err x y e = cc

pub none_is_no_some : {T : Type 0} (x : T) → None ≡ Some x → ⊥
none_is_no_some x e = cc

pub not_ok : false ≡ true → ⊥
not_ok e = cc

pub some_is : {T : Type 0} {x y : T} → Some x ≡ Some y → x ≡ y
some_is e = cc
