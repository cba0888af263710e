-- Objects whose digests are looked at, one after another.
use Rattle.std.proofs.Common.{◌≡◌, ◌≢◌, ◌<◌, ◌^◌, ◌+◌, ◌∙◌, sym, ap, refl, subst, ℕ, Bool, true, false, List, [], ◌∷◌, ◌++◌, length, map, Result, Ok, Err, IfOk, IfErr, ◌⊎◌, inl, inr, ⊎_elim}
use Rattle.std.specs.Prelude.{All, not}
use Rattle.std.specs.Str.{bytes_eq}
use Rattle.std.proofs.lemmas.Slice.Eq.{bytes_eq-Decides}
use Rattle.std.specs.Global.{Vec}
use Rattle.lisa_object.specs.declared.parts.Object.{Object}
use Rattle.lisa_object.specs.declared.faults.ObjectFault.TheVariants as objects
use Rattle.lisa_object.specs.Objects.{PlainObject, object_tree}
use Rattle.lisa_object.specs.ObjectRules.{IsObject}
use Rattle.lisa_outcomes.specs.declared.status.End.{End}
use Rattle.lisa_outcomes.specs.declared.status.End.TheVariants as ends
use Rattle.lisa_outcomes.specs.declared.status.Refusal.{Refusal}
use Rattle.lisa_outcomes.specs.declared.status.Refusal.TheVariants as refusals
use Rattle.lisa_outcomes.specs.Refusals.{IsRefusal}
use Rattle.lisa_outcomes.specs.Stages.{Finds}
use Rattle.lisa_outcomes.proofs.Finding.{found_ok, found_refused}
use Rattle.lisa_outcomes.proofs.Refusals.{object_refusal}
use Rattle.lisa_outcomes.proofs.Told.{err_is, not_ok}
use Rattle.assembler_commands.specs.DescriptionObjects.{AreObjects, IsUnspelled, HaveDigest, IsElsewhere, AreObjectsFor, AreNoObjectsFor}
use Rattle.assembler_commands.specs.ObjectViews.{trees_of}
use Rattle.assembler_commands.proofs.ObjectFiles.{AreUnique, one_list, none_unspelled}

-- what is left to look at decides of all
pub record HasDigests (digest : List ℕ) (all rest : List PlainObject) (number : ℕ) : Type 0 where
  pub same : HaveDigest digest rest → HaveDigest digest all
  pub other : (refusal : Refusal) → IsElsewhere digest number rest refusal → IsElsewhere digest 1 all refusal

pub none_seen : (digest : List ℕ) (all : List PlainObject) → HasDigests digest all all 1
none_seen digest all = record { same = λ h. h; other = λ refusal h. h }

pub one_same : (digest : List ℕ) (all : List PlainObject) (object : PlainObject) (rest : List PlainObject) (number : ℕ) → object.digest ≡ digest → HasDigests digest all (object ∷ rest) number
    → HasDigests digest all rest (number + 1)
one_same digest all object rest number same has = record { same = λ h. has.same (same, h); other = λ refusal h. has.other refusal (inr (same, h)) }

-- an end of a command that is refused for an object with another digest
abbrev pub IsForOther : (digest : List ℕ) → List PlainObject → End → Type 0
IsForOther digest all end = (refusal : Refusal) × (end ≡ ends.Refused refusal) × IsRefusal refusal × IsElsewhere digest 1 all refusal

pub one_other : (digest : List ℕ) (all : List PlainObject) (object : PlainObject) (rest : List PlainObject) (number : ℕ) → object.digest ≢ digest → HasDigests digest all (object ∷ rest) number
    → IsForOther digest all (ends.Refused (refusals.Object (objects.OtherDescription number object.digest digest)))
one_other digest all object rest number other has = (
  refusals.Object (objects.OtherDescription number object.digest digest),
  refl,
  object_refusal (objects.OtherDescription number object.digest digest) (λ e. cc),
  has.other (refusals.Object (objects.OtherDescription number object.digest digest)) (inl (other, refl)),
)

-- digests that are compared
pub same_of : (a b : List ℕ) (t : Bool) → t ≡ not (bytes_eq a b) → t ≡ false → a ≡ b
same_of a b t is off = by (bytes_eq a b) refl
  where
    by : (u : Bool) → bytes_eq a b ≡ u → a ≡ b
    by true e = (bytes_eq-Decides a b).0 e
    by false e = absurd (cc (is, off, ap not e))

pub other_of : (a b : List ℕ) (t : Bool) → t ≡ not (bytes_eq a b) → t ≡ true → a ≢ b
other_of a b t is on same = absurd (cc (is, on, ap not ((bytes_eq-Decides a b).1 same)))

-- ---- with the objects that were read

none_elsewhere : (digest : List ℕ) (number : ℕ) (all : List PlainObject) (refusal : Refusal) → HaveDigest digest all → IsElsewhere digest number all refusal → ⊥
none_elsewhere digest number [] refusal same other = other
none_elsewhere digest number (object ∷ all) refusal same other = ⊎_elim (λ h. h.0 same.0) (λ h. none_elsewhere digest (number + 1) all refusal same.1 h.1) other

pub digests_find : AreUnique → (digest : List ℕ) (files : List (List ℕ)) (read : Vec Object) (result : Result (Vec Object) End) → AreObjects files (trees_of read.items)
    → IfOk result (λ all. (all.items ≡ read.items) × HaveDigest digest (trees_of read.items)) → IfErr result (IsForOther digest (trees_of read.items))
    → Finds {X = Vec Object} (λ all. trees_of all.items) (AreObjectsFor digest files) (AreNoObjectsFor digest files) result
digests_find unique digest files read (Ok all) are same other =
    let is : trees_of all.items ≡ trees_of read.items = ap trees_of same.0 in
    found_ok (λ (v : Vec Object). trees_of v.items) (AreObjectsFor digest files) (AreNoObjectsFor digest files) all
    (subst (AreObjectsFor digest files) (sym is) (are, same.1))
    (λ others for. is ∙ one_list unique files (trees_of read.items) others are for.0)
    (λ refusal wrong. ⊎_elim (λ u. none_unspelled files 1 (trees_of read.items) refusal are u)
    (λ e. none_elsewhere digest 1 e.0 refusal (subst (HaveDigest digest) (one_list unique files (trees_of read.items) e.0 are e.1) same.1) e.2) wrong)
digests_find unique digest files read (Err end) are same other =
    subst (λ (e : End). Finds {X = Vec Object} (λ all. trees_of all.items) (AreObjectsFor digest files) (AreNoObjectsFor digest files) (Err e)) (sym other.1)
    (found_refused (λ (v : Vec Object). trees_of v.items) (AreObjectsFor digest files) (AreNoObjectsFor digest files) other.0 other.2 (inr (trees_of read.items, are, other.3))
    (λ others for. none_elsewhere digest 1 (trees_of read.items) other.0 (subst (HaveDigest digest) (one_list unique files others (trees_of read.items) for.0 are) for.1) other.3))

pub unread_finds_none : (digest : List ℕ) (files : List (List ℕ)) (end : End) → Finds {X = Vec Object} (λ all. trees_of all.items) (AreObjects files) (IsUnspelled 1 files) (Err end)
    → Finds {X = Vec Object} (λ all. trees_of all.items) (AreObjectsFor digest files) (AreNoObjectsFor digest files) (Err end)
unread_finds_none digest files end finds = record {
  found = tt;
  only = λ all for. finds.only all for.0;
  wrong = λ refusal e. inl (finds.wrong refusal (ap Err (err_is _ _ e)));
  real = λ refusal e. finds.real refusal (ap Err (err_is _ _ e));
  none = λ refusal wrong ok. not_ok ok;
  read = λ e. finds.read (ap Err (err_is _ _ e));
  write = λ e. finds.write (ap Err (err_is _ _ e));
}

-- what was read is what is there
pub kept_all : (P : List Object → Type 0) (Q : Type 0) (read : Vec Object) (result : Result (Vec Object) End) → IfOk result (λ all. (all.items ≡ read.items) × Q) → P read.items → IfOk result (λ all. P all.items)
kept_all P Q read (Ok all) same p = subst P (sym same.0) p
kept_all P Q read (Err end) same p = tt
