-- Names without doubles are distinct.
use Rattle.std.proofs.Common.{◌≡◌, ◌≢◌, ◌⊎◌, inl, inr, ℕ, not, Bool, true, false, ◌||◌, cond, List, [], ◌∷◌, ◌++◌, get_or, Option, None, Some, refl, sym, ap, subst, ◌∙◌, arith}
use Rattle.std.specs.Prelude.{All, AllPairs, Result, OnOk, IfErr, flat_map}
use Rattle.std.specs.List.{list_any}
use Rattle.std.specs.Option.{option_or}
use Rattle.std.specs.Str.{bytes_eq}
use Rattle.std.proofs.lemmas.Bool.{false≢true}
use Rattle.std.proofs.lemmas.List.Elements.{All-nil, All-cons}
use Rattle.std.proofs.lemmas.List.Kept.{AllPairs-cons}
use Rattle.std.proofs.lemmas.Result.{on_ok_weaker, IfErr-weaker}
use Rattle.std.proofs.lemmas.Slice.Eq.{bytes_eq-Decides}
use Rattle.asm_source.specs.Plain.{PlainLine}
use Rattle.asm_source.specs.declared.flaw.SourceFault.{SourceFault}
use Rattle.asm_source.specs.declared.flaw.SourceFault.TheVariants as faults
use Rattle.std.specs.BTreeSet.{BTreeSet}
use Rattle.lisa_object.specs.Seen.{HoldsSorted}
use Rattle.lisa_assembler.specs.Faults.{first_double}
use Rattle.lisa_assembler.specs.Seen.{seen_behind}
use Rattle.lisa_assembler.specs.Sources.{line_names}

abbrev pub Names : Type 0
Names = List (List ℕ)

abbrev pub NameSet : Type 0
NameSet = BTreeSet (List ℕ)

abbrev pub has : Names → List ℕ → Bool
has names n = list_any (bytes_eq n) names

-- names that were not seen, and that differ
pub record AreNew (seen names : Names) : Type 0 where
  pub apart : All (λ n. has seen n ≡ false) names
  pub distinct : AllPairs (λ a b. a ≢ b) names

or_false : (a b : Bool) → (a || b) ≡ false → (a ≡ false) × (b ≡ false)
or_false true b e = absurd (cc e)
or_false false b e = (refl, e)

unequal : (a b : List ℕ) → bytes_eq b a ≡ false → a ≢ b
unequal a b e same = absurd (false≢true (sym e ∙ (bytes_eq-Decides b a).1 (sym same)))

-- the first name is new, and no later one is it
one_new : (seen : Names) (n : List ℕ) (ns : Names) → has seen n ≡ false → AreNew (n ∷ seen) ns → AreNew seen (n ∷ ns)
one_new seen n ns none rest = record {
  apart = All-cons (λ m. has seen m ≡ false) n ns none (λ k d lt. let m : List ℕ = get_or ns k d in (or_false (bytes_eq m n) (has seen m) (rest.apart k d lt)).1);
  distinct = AllPairs-cons (λ (a b : List ℕ). a ≢ b) n ns (λ k d lt. let m : List ℕ = get_or ns k d in unequal n m (or_false (bytes_eq m n) (has seen m) (rest.apart k d lt)).0) rest.distinct;
}

is_new : (seen : Names) (n : List ℕ) (ns : Names) → first_double seen (n ∷ ns) ≡ None → (has seen n ≡ false) × (first_double (n ∷ seen) ns ≡ None)
is_new seen n ns e = by (has seen n) refl
  where
    by : (b : Bool) → has seen n ≡ b → (has seen n ≡ false) × (first_double (n ∷ seen) ns ≡ None)
    by true t = absurd (let told : first_double seen (n ∷ ns) ≡ Some n = ap (λ (b : Bool). cond b (Some n) (first_double (n ∷ seen) ns)) t in cc (told, e))
    by false t = (t, sym (ap (λ (b : Bool). cond b (Some n) (first_double (n ∷ seen) ns)) t) ∙ e)

all_new : (seen xs rest : Names) → first_double seen xs ≡ None → AreNew (seen_behind seen xs) rest → AreNew seen (xs ++ rest)
all_new seen [] rest e new = new
all_new seen (x ∷ xs) rest e new =
    let i = is_new seen x xs e in
    one_new seen x (xs ++ rest) i.0 (all_new (x ∷ seen) xs rest i.1 new)

-- ---- names that were seen behind others

or_moved : (a b c : Bool) → (b || (a || c)) ≡ (a || (b || c))
or_moved true true c = refl
or_moved true false c = refl
or_moved false true c = refl
or_moved false false c = refl

any_moved : (n m : List ℕ) (xs seen : Names) → has (xs ++ m ∷ seen) n ≡ has (m ∷ (xs ++ seen)) n
any_moved n m [] seen = refl
any_moved n m (x ∷ xs) seen = ap (λ (b : Bool). bytes_eq n x || b) (any_moved n m xs seen) ∙ or_moved (bytes_eq n m) (bytes_eq n x) (has (xs ++ seen) n)

pub seen_has : (n : List ℕ) (seen xs : Names) → has (seen_behind seen xs) n ≡ has (xs ++ seen) n
seen_has n seen [] = refl
seen_has n seen (x ∷ xs) = seen_has n (x ∷ seen) xs ∙ any_moved n x xs seen

same_new : (seen other names : Names) → ((n : List ℕ) → has seen n ≡ has other n) → AreNew seen names → AreNew other names
same_new seen other names same new = record { apart = λ k d lt. sym (same (get_or names k d)) ∙ new.apart k d lt; distinct = new.distinct }

-- ---- lines

abbrev pub AreSingle : Names → List PlainLine → Type 0
AreSingle names [] = Unit {0}
AreSingle names (l ∷ ls) = (first_double names (line_names l) ≡ None) × AreSingle (line_names l ++ names) ls

lines_new : (names : Names) (ls : List PlainLine) → AreSingle names ls → AreNew names (flat_map line_names ls)
lines_new names [] single = record { apart = All-nil (λ n. has names n ≡ false); distinct = λ i j d lt within. absurd (omega arith) }
lines_new names (l ∷ ls) single =
    all_new names (line_names l) (flat_map line_names ls) single.0
    (same_new (line_names l ++ names) (seen_behind names (line_names l)) (flat_map line_names ls) (λ n. sym (seen_has n names (line_names l))) (lines_new (line_names l ++ names) ls single.1))

pub single_distinct : (ls : List PlainLine) → AreSingle [] ls → AllPairs (λ a b. a ≢ b) (flat_map line_names ls)
single_distinct ls single = (lines_new [] ls single).distinct

-- ---- doubles of names in parts

or_by : (b : Bool) (n : List ℕ) (xs ys : Option (List ℕ)) (zs : Option (List ℕ)) → xs ≡ option_or ys zs → cond b (Some n) xs ≡ option_or (cond b (Some n) ys) zs
or_by true n xs ys zs e = refl
or_by false n xs ys zs e = e

pub double-append : (seen xs ys : Names) → first_double seen (xs ++ ys) ≡ option_or (first_double seen xs) (first_double (seen_behind seen xs) ys)
double-append seen [] ys = refl
double-append seen (x ∷ xs) ys =
    or_by (has seen x) x (first_double (x ∷ seen) (xs ++ ys)) (first_double (x ∷ seen) xs) (first_double (seen_behind (x ∷ seen) xs) ys) (double-append (x ∷ seen) xs ys)

pub behind-append : (seen xs ys : Names) → seen_behind seen (xs ++ ys) ≡ seen_behind (seen_behind seen xs) ys
behind-append seen [] ys = refl
behind-append seen (x ∷ xs) ys = behind-append (x ∷ seen) xs ys

-- ---- one name more

pub not_seen : (seen : Names) (n : List ℕ) (new : Bool) → new ≡ not (has seen n) → new ≡ true → has seen n ≡ false
not_seen seen n new is on = by (has seen n) refl
  where
    by : (b : Bool) → has seen n ≡ b → has seen n ≡ false
    by true e = absurd (let off : new ≡ false = is ∙ ap not e in cc (off, on))
    by false e = e

pub was_seen : (seen : Names) (n : List ℕ) (new : Bool) → new ≡ not (has seen n) → new ≡ false → has seen n ≡ true
was_seen seen n new is off = by (has seen n) refl
  where
    by : (b : Bool) → has seen n ≡ b → has seen n ≡ true
    by true e = e
    by false e = absurd (let on : new ≡ true = is ∙ ap not e in cc (off, on))

pub double_here : (seen : Names) (n : List ℕ) (ns : Names) → has seen n ≡ true → first_double seen (n ∷ ns) ≡ Some n
double_here seen n ns e = ap (λ (b : Bool). cond b (Some n) (first_double (n ∷ seen) ns)) e

pub double_behind : (seen : Names) (n : List ℕ) (ns : Names) → has seen n ≡ false → first_double seen (n ∷ ns) ≡ first_double (n ∷ seen) ns
double_behind seen n ns e = ap (λ (b : Bool). cond b (Some n) (first_double (n ∷ seen) ns)) e

abbrev pub IsDouble : ℕ → Option (List ℕ) → SourceFault → Type 0
IsDouble line found f = (f ≡ faults.NoMemory) ⊎ ((n : List ℕ) × (found ≡ Some n) × (f ≡ faults.DuplicateLabel line n))

-- a name that was seen is the first double of it and what follows
pub double_fault : (line : ℕ) (seen : Names) (n : List ℕ) (ns : Names) (found : Option (List ℕ)) (f : SourceFault)
    → (f ≡ faults.NoMemory) ⊎ ((has seen n ≡ true) × (f ≡ faults.DuplicateLabel line n)) → first_double seen (n ∷ ns) ≡ found → IsDouble line found f
double_fault line seen n ns found f (inl e) same = inl e
double_fault line seen n ns found f (inr t) same = inr (n, sym same ∙ double_here seen n ns t.0, t.1)

pub front_fault : (line : ℕ) (seen xs ys : Names) (f : SourceFault) → IsDouble line (first_double seen xs) f → IsDouble line (first_double seen (xs ++ ys)) f
front_fault line seen xs ys f (inl e) = inl e
front_fault line seen xs ys f (inr t) = inr (t.0, double-append seen xs ys ∙ ap (λ (o : Option (List ℕ)). option_or o (first_double (seen_behind seen xs) ys)) t.1, t.2)

pub back_fault : (line : ℕ) (seen xs ys : Names) (f : SourceFault) → first_double seen xs ≡ None → IsDouble line (first_double (seen_behind seen xs) ys) f → IsDouble line (first_double seen (xs ++ ys)) f
back_fault line seen xs ys f none (inl e) = inl e
back_fault line seen xs ys f none (inr t) = inr (t.0, double-append seen xs ys ∙ ap (λ (o : Option (List ℕ)). option_or o (first_double (seen_behind seen xs) ys)) none ∙ t.1, t.2)

pub none_double : (seen xs ys : Names) → first_double seen xs ≡ None → first_double (seen_behind seen xs) ys ≡ None → first_double seen (xs ++ ys) ≡ None
none_double seen xs ys a b = double-append seen xs ys ∙ ap (λ (o : Option (List ℕ)). option_or o (first_double (seen_behind seen xs) ys)) a ∙ b

pub holds_behind : (set : NameSet) (seen xs ys : Names) → HoldsSorted set (seen_behind (seen_behind seen xs) ys) → HoldsSorted set ((xs ++ ys) ++ seen)
holds_behind set seen xs ys h = λ n. h n ∙ ap (λ (ns : Names). has ns n) (sym (behind-append seen xs ys)) ∙ seen_has n seen (xs ++ ys)

-- ---- a further name, where there is one

pub none_more : (set : NameSet) (names own : Names) → own ≡ [] → HoldsSorted set names → (first_double names own ≡ None) × HoldsSorted set (seen_behind names own)
none_more set names own e h = let P : Names → Type 0 = λ ns. (first_double names ns ≡ None) × HoldsSorted set (seen_behind names ns) in subst P (sym e) (refl, h)

pub one_more_new : {T : Type 0} (r : Result T SourceFault) (set : NameSet) (names own : Names) (n : List ℕ) → own ≡ n ∷ [] → OnOk r ((has names n ≡ false) × HoldsSorted set (n ∷ names))
    → OnOk r ((first_double names own ≡ None) × HoldsSorted set (seen_behind names own))
one_more_new r set names own n e fresh =
    let P : Names → Type 0 = λ ns. (first_double names ns ≡ None) × HoldsSorted set (seen_behind names ns) in
    on_ok_weaker r (λ x. subst P (sym e) (double_behind names n [] x.0, x.1)) fresh

pub one_more_fault : {T : Type 0} (r : Result T SourceFault) (line : ℕ) (names own : Names) (n : List ℕ) → own ≡ n ∷ []
    → IfErr r (λ f. (f ≡ faults.NoMemory) ⊎ ((has names n ≡ true) × (f ≡ faults.DuplicateLabel line n))) → IfErr r (λ f. IsDouble line (first_double names own) f)
one_more_fault r line names own n e fault =
    IfErr-weaker r (λ f. (f ≡ faults.NoMemory) ⊎ ((has names n ≡ true) × (f ≡ faults.DuplicateLabel line n))) (λ f. IsDouble line (first_double names own) f)
    (λ f x. double_fault line names n [] (first_double names own) f x (ap (first_double names) (sym e))) fault
