-- Cells that are added to a memory.
use Rattle.std.proofs.Common.{◌≡◌, ℕ, Bool, true, false, cond, List, ◌++◌, Some, refl, sym, ap, ◌∙◌}
use Rattle.std.specs.Prelude.{Vec}
use Rattle.std.specs.BTreeMap.{Updates}
use Rattle.std.specs.Cmp.Lexicographic.{slice_cmp}
use Rattle.std.specs.Global.{Global}
use Rattle.std.specs.Ordering.{nat_cmp}
use Rattle.std.specs.Str.{bytes_eq}
use Rattle.std.proofs.lemmas.Slice.Eq.{bytes_eq-Decides}
use Rattle.name_tables.specs.TableViews.{value_of}
use Rattle.name_tables.proofs.TableLaws.{put_one}
use Rattle.lisa_linker.specs.Tables.{ByName, cells_or_none, cells_of, behind_if}

-- the memory of this name has these cells behind its own, and each other has what it had
pub appended : (old new : ByName (Vec ℕ Global)) (name more : List ℕ) (before after : Vec ℕ Global) → value_of old name ≡ Some before
    → Updates (slice_cmp nat_cmp) old new name (Some after) → after.items ≡ before.items ++ more
    → (m : List ℕ) → cells_of new m ≡ behind_if (bytes_eq m name) more (cells_of old m)
appended old new name more before after was updates items m =
    ap cells_or_none (put_one old new name (Some after) updates m) ∙ go (bytes_eq m name) refl
  where
    go : (b : Bool) → bytes_eq m name ≡ b → cells_or_none (cond b (Some after) (value_of old m)) ≡ behind_if b more (cells_of old m)
    go true same = items ∙ ap (λ (xs : List ℕ). xs ++ more) (sym (ap (cells_of old) ((bytes_eq-Decides m name).0 same) ∙ ap cells_or_none was))
    go false other = refl
