-- Objects that are read from files, one after another.
use Rattle.std.proofs.Common.{◌≡◌, ◌+◌, ◌∙◌, sym, ap, refl, subst, ℕ, suc, List, [], ◌∷◌, ◌++◌, append_assoc, length, map, Result, Ok, Err, ◌⊎◌, inl, inr, ⊎_elim}
use Rattle.std.specs.Prelude.{All}
use Rattle.std.proofs.lemmas.List.{append-nil}
use Rattle.std.proofs.lemmas.List.Elements.{All-cons, All-nil}
use Rattle.std.specs.Global.{Vec}
use Rattle.lisa_object.specs.declared.parts.Object.{Object}
use Rattle.lisa_object.specs.declared.faults.ObjectFault.{ObjectFault}
use Rattle.lisa_object.specs.declared.faults.ObjectFault.TheVariants as objects
use Rattle.lisa_object.specs.Objects.{PlainObject, object_tree}
use Rattle.lisa_object.specs.ObjectRules.{IsObject}
use Rattle.lisa_object.specs.ObjectText.{object_text}
use Rattle.lisa_object.specs.ObjectGives.{IsThisObject, IsObjectRefusal}
use Rattle.lisa_outcomes.specs.declared.status.End.{End}
use Rattle.lisa_outcomes.specs.declared.status.End.TheVariants as ends
use Rattle.lisa_outcomes.specs.declared.status.Refusal.{Refusal}
use Rattle.lisa_outcomes.specs.declared.status.Refusal.TheVariants as refusals
use Rattle.lisa_outcomes.specs.Stages.{Finds}
use Rattle.lisa_outcomes.proofs.Finding.{found_ok, found_memory, found_refused}
use Rattle.lisa_outcomes.proofs.Refusals.{object_refusal}
use Rattle.lisa_outcomes.proofs.Told.{err_is, not_ok}
use Rattle.assembler_commands.specs.DescriptionObjects.{SpellsObject, AreObjects, IsNoObject, IsUnspelled}
use Rattle.assembler_commands.specs.ObjectViews.{trees_of}
use Rattle.assembler_commands.specs.Unlinked.{unread_object}

-- a text is that of one object at most
abbrev pub AreUnique : Type 0
AreUnique = (o p : PlainObject) → IsObject o → IsObject p → object_text o ≡ object_text p → o ≡ p

-- ---- one file

pub one_object : AreUnique → (bytes : List ℕ) (o p : PlainObject) → SpellsObject bytes o → SpellsObject bytes p → o ≡ p
one_object unique bytes o p a b = unique o p a.0 b.0 (sym a.1 ∙ b.1)

pub read_finds : AreUnique → (bytes : List ℕ) (number : ℕ) (object : Object) → SpellsObject bytes (object_tree object) → Finds {X = Object} object_tree (SpellsObject bytes) (IsNoObject number bytes) (Ok object)
read_finds unique bytes number object here =
    found_ok object_tree (SpellsObject bytes) (IsNoObject number bytes) object here (λ o is. one_object unique bytes (object_tree object) o here is) (λ refusal wrong. wrong.0 (object_tree object) here)

pub unread_finds : (bytes : List ℕ) (number : ℕ) (fault : ObjectFault) → IsObjectRefusal number bytes fault → ((o : PlainObject) → IsObject o → bytes ≡ object_text o → IsThisObject o (Err fault))
    → Finds {X = Object} object_tree (SpellsObject bytes) (IsNoObject number bytes) (Err (unread_object fault))
unread_finds bytes number objects.NoMemory refusal only = found_memory object_tree (SpellsObject bytes) (IsNoObject number bytes)
unread_finds bytes number (objects.NotAnObject object line) refusal only =
    found_refused object_tree (SpellsObject bytes) (IsNoObject number bytes) (refusals.Object (objects.NotAnObject object line)) (object_refusal (objects.NotAnObject object line) (λ e. cc))
    (λ o is. only o is.0 is.1, (line, refusal.1, ap (λ (n : ℕ). refusals.Object (objects.NotAnObject n line)) refusal.0)) (λ o is. only o is.0 is.1)
unread_finds bytes number (objects.OtherDescription object kept expected) refusal only = absurd refusal

-- ---- files, one after another

pub one_list : AreUnique → (files : List (List ℕ)) (a b : List PlainObject) → AreObjects files a → AreObjects files b → a ≡ b
one_list unique [] a b first second = first ∙ sym second
one_list unique (bytes ∷ files) a b first second =
    let one = one_object unique bytes first.0 second.0 first.3 second.3 in
    let others = one_list unique files first.1 second.1 first.4 second.4 in
    first.2 ∙ (λ i. one i ∷ others i) ∙ sym second.2

pub none_unspelled : (files : List (List ℕ)) (number : ℕ) (all : List PlainObject) (refusal : Refusal) → AreObjects files all → IsUnspelled number files refusal → ⊥
none_unspelled [] number all refusal are wrong = wrong
none_unspelled (bytes ∷ files) number all refusal are wrong = ⊎_elim
    (λ here. here.0 are.0 are.3)
    (λ later. none_unspelled files (number + 1) are.1 refusal are.4 later.1)
    wrong

-- what is left to read decides what comes of all: the objects behind those that were read, and the first that is none
pub record HasRead (files rest : List (List ℕ)) (number : ℕ) (read : List PlainObject) : Type 0 where
  pub more : (others : List PlainObject) → AreObjects rest others → AreObjects files (read ++ others)
  pub parts : (all : List PlainObject) → AreObjects files all → (others : List PlainObject) × AreObjects rest others
  pub wrong : (refusal : Refusal) → IsUnspelled number rest refusal → IsUnspelled 1 files refusal

-- none was read
pub none_read : (files : List (List ℕ)) → HasRead files files 1 []
none_read files = record { more = λ others are. are; parts = λ all are. (all, are); wrong = λ refusal wrong. wrong }

-- one more was
pub one_more : (files : List (List ℕ)) (bytes : List ℕ) (rest : List (List ℕ)) (number : ℕ) (read : List PlainObject) (object : PlainObject) → SpellsObject bytes object
    → HasRead files (bytes ∷ rest) number read → HasRead files rest (number + 1) (read ++ (object ∷ []))
one_more files bytes rest number read object is has = record {
  more = λ others are. subst (AreObjects files) (sym (append_assoc read (object ∷ []) others)) (has.more (object ∷ others) (object, others, refl, is, are));
  parts = λ all are. let left = has.parts all are in (left.1.1, left.1.4);
  wrong = λ refusal wrong. has.wrong refusal (inr ((object, is), wrong));
}

-- all were
pub all_read : AreUnique → (files : List (List ℕ)) (number : ℕ) (all : Vec Object) → HasRead files [] number (trees_of all.items)
    → Finds {X = Vec Object} (λ v. trees_of v.items) (AreObjects files) (IsUnspelled 1 files) (Ok all)
all_read unique files number all has =
    let here : AreObjects files (trees_of all.items) = subst (AreObjects files) (append-nil (trees_of all.items)) (has.more [] refl) in
    found_ok (λ (v : Vec Object). trees_of v.items) (AreObjects files) (IsUnspelled 1 files) all here (λ others are. one_list unique files (trees_of all.items) others here are)
    (λ refusal wrong. none_unspelled files 1 (trees_of all.items) refusal here wrong)

-- the next wasn't
pub next_unread : (files : List (List ℕ)) (bytes : List ℕ) (rest : List (List ℕ)) (number : ℕ) (read : List PlainObject) (end : End) → HasRead files (bytes ∷ rest) number read
    → Finds {X = Object} object_tree (SpellsObject bytes) (IsNoObject number bytes) (Err end) → Finds {X = Vec Object} (λ v. trees_of v.items) (AreObjects files) (IsUnspelled 1 files) (Err end)
next_unread files bytes rest number read end has finds = record {
  found = tt;
  only = λ all are. let left = has.parts all are in finds.only left.1.0 left.1.3;
  wrong = λ refusal e. has.wrong refusal (inl (finds.wrong refusal (ap Err (err_is _ _ e))));
  real = λ refusal e. finds.real refusal (ap Err (err_is _ _ e));
  none = λ refusal wrong ok. not_ok ok;
  read = λ e. finds.read (ap Err (err_is _ _ e));
  write = λ e. finds.write (ap Err (err_is _ _ e));
}

-- ---- the rules of objects

pub spelled_objects : (files : List (List ℕ)) (all : List Object) → AreObjects files (trees_of all) → All (λ o. IsObject (object_tree o)) all
spelled_objects files [] are = All-nil (λ (o : Object). IsObject (object_tree o))
spelled_objects [] (o ∷ all) are = absurd (cc are)
spelled_objects (bytes ∷ files) (o ∷ all) are =
    let first : object_tree o ≡ are.0 = cc are.2 in
    let others : trees_of all ≡ are.1 = cc are.2 in
    All-cons (λ (o : Object). IsObject (object_tree o)) o all (subst IsObject (sym first) are.3.0) (spelled_objects files all (subst (AreObjects files) (sym others) are.4))

pub spelled_number : (files : List (List ℕ)) (all : List PlainObject) → AreObjects files all → length all ≡ length files
spelled_number [] all are = ap length are
spelled_number (bytes ∷ files) all are = ap length are.2 ∙ ap suc (spelled_number files are.1 are.4)
