-- What a slot holds, and what stands in a row.
use Rattle.std.proofs.Common.{◌≡◌, ◌<◌, ◌∙◌, ℕ, zero, suc, List, [], ◌∷◌, ◌++◌, Option, None, Some, Bool, true, false, cond, length, get_or, set, refl, sym, ap, subst}
use Rattle.std.proofs.lemmas.List.Elements.{All-append, All-cons, All-get_or, All-nil, All-set}
use Rattle.std.proofs.lemmas.Option.{same_Some, slice_get-get_or}
use Rattle.std.proofs.lemmas.Slice.Eq.{bytes_eq-Decides}
use Rattle.lisa_tree.specs.Same.{same_name}
use Rattle.std.specs.Prelude.{is_some}
use Rattle.std.specs.Option.{option_or}
use Rattle.std.specs.BTreeMap.{BTreeMap, Updates}
use Rattle.std.specs.Cmp.Lexicographic.{slice_cmp}
use Rattle.std.specs.Ordering.{nat_cmp}
use Rattle.std.specs.Str.{bytes_eq}
use Rattle.name_tables.specs.TableViews.{value_of}
use Rattle.name_tables.proofs.TableLaws.{put_one}
use Rattle.noted_names.specs.declared.places.Places.{Places}
use Rattle.noted_names.specs.declared.entry.Entry.{Entry}
use Rattle.noted_names.specs.Memos.{Remembers}
use Rattle.noted_names.specs.Naming.{EachIs}

abbrev has : (List ℕ → Option Places) → Option Entry → Type 0
has f slot = (entry : Entry) → slot ≡ Some entry → f entry.name ≡ Some entry.places

nothing_there : (f : List ℕ → Option Places) → has f None
nothing_there f entry at = absurd (cc at)

one_there : (f : List ℕ → Option Places) (entry : Entry) → f entry.name ≡ Some entry.places → has f (Some entry)
one_there f entry is other at = subst (λ (e : Entry). f e.name ≡ Some e.places) (same_Some entry other at) is

pub kept_at : (f : List ℕ → Option Places) (slots : List (Option Entry)) (i : ℕ) (slot : Option Entry) (entry : Entry) (name : List ℕ) → Remembers f slots → i < length slots → slot ≡ get_or slots i slot → slot ≡ Some entry
    → same_name entry.name name ≡ true → f name ≡ Some entry.places
kept_at f slots i slot entry name all within read is same =
    sym (ap f ((bytes_eq-Decides entry.name name).0 same)) ∙ All-get_or (has f) slots i slot within all entry (sym read ∙ is)

pub kept_set : (f : List ℕ → Option Places) (slots new : List (Option Entry)) (i : ℕ) (entry : Entry) → f entry.name ≡ Some entry.places → Remembers f slots → new ≡ set slots i (Some entry) → Remembers f new
kept_set f slots new i entry is all made = subst (Remembers f) (sym made) (All-set (has f) slots i (Some entry) (one_there f entry is) all)

pub no_slot_yet : (f : List ℕ → Option Places) (new : List (Option Entry)) → new ≡ [] → Remembers f new
no_slot_yet f new made = subst (Remembers f) (sym made) (All-nil (has f))

pub one_slot_more : (f : List ℕ → Option Places) (slots new : List (Option Entry)) → Remembers f slots → new ≡ slots ++ None ∷ [] → Remembers f new
one_slot_more f slots new all made = subst (Remembers f) (sym made) (All-append (has f) slots (None ∷ []) all (All-cons (has f) None [] (nothing_there f) (All-nil (has f))))

-- ---- one more name

module _ (old new : BTreeMap (List ℕ) Places) (name : List ℕ) (places : Places) where
  pub put_noted : (key : List ℕ) → key ≡ name → Updates (slice_cmp nat_cmp) old new key (Some places) → (n : List ℕ) → value_of new n ≡ cond (bytes_eq n name) (Some places) (value_of old n)
  put_noted key same updates n = put_one old new key (Some places) updates n ∙ ap (λ (k : List ℕ). cond (bytes_eq n k) (Some places) (value_of old n)) same

  -- what was noted stays
  stays : value_of old name ≡ None → (other : List ℕ) (found : Places) → value_of old other ≡ Some found → cond (bytes_eq other name) (Some places) (value_of old other) ≡ Some found
  stays absent other found is = go (bytes_eq other name) refl
    where
      go : (b : Bool) → bytes_eq other name ≡ b → cond b (Some places) (value_of old other) ≡ Some found
      go true same = absurd (cc (sym absent ∙ ap (value_of old) (sym ((bytes_eq-Decides other name).0 same)) ∙ is))
      go false apart = is

  pub kept_noted : (key : List ℕ) (slots : List (Option Entry)) → key ≡ name → Updates (slice_cmp nat_cmp) old new key (Some places) → value_of old name ≡ None → Remembers (value_of old) slots
      → Remembers (value_of new) slots
  kept_noted key slots same updates absent all k d within entry at = put_noted key same updates entry.name ∙ stays absent entry.name entry.places (all k d within entry at)

  -- and the new name goes to a slot
  pub put_at_slot : (key copy : List ℕ) (slots : List (Option Entry)) (i : ℕ) → key ≡ name → copy ≡ name → Updates (slice_cmp nat_cmp) old new key (Some places) → value_of old name ≡ None
      → Remembers (value_of old) slots → Remembers (value_of new) (set slots i (Some (record { name = copy; places = places })))
  put_at_slot key copy slots i same same_copy updates absent all =
      kept_set (value_of new) slots _ i (record { name = copy; places = places })
      (put_noted key same updates copy ∙ ap (λ (b : Bool). cond b (Some places) (value_of old copy)) ((bytes_eq-Decides copy name).1 same_copy))
      (kept_noted key slots same updates absent all) refl

-- a name that is noted stays, and another is new
first_stays : (f : List ℕ → Option Places) (name n : List ℕ) (found places : Places) → f name ≡ Some found → f n ≡ option_or (f n) (cond (bytes_eq n name) (Some places) None)
first_stays f name n found places there = go (bytes_eq n name) refl (f n) refl
  where
    go : (b : Bool) → bytes_eq n name ≡ b → (o : Option Places) → f n ≡ o → o ≡ option_or o (cond b (Some places) None)
    go b same (Some other) is = refl
    go true same None is = absurd (cc (sym there ∙ ap f (sym ((bytes_eq-Decides n name).0 same)) ∙ is))
    go false apart None is = refl

pub noted_stays : (f : List ℕ → Option Places) (name : List ℕ) (places : Places) → is_some (f name) ≡ true → (n : List ℕ) → f n ≡ option_or (f n) (cond (bytes_eq n name) (Some places) None)
noted_stays f name places there n = go (f name) refl there
  where
    go : (o : Option Places) → f name ≡ o → is_some o ≡ true → f n ≡ option_or (f n) (cond (bytes_eq n name) (Some places) None)
    go (Some found) is there = first_stays f name n found places is
    go None is there = absurd (cc there)

pub new_joins : (f g : List ℕ → Option Places) (name : List ℕ) (places : Places) → f name ≡ None → ((n : List ℕ) → g n ≡ cond (bytes_eq n name) (Some places) (f n))
    → (n : List ℕ) → g n ≡ option_or (f n) (cond (bytes_eq n name) (Some places) None)
new_joins f g name places absent put n = put n ∙ go (bytes_eq n name) refl (f n) refl
  where
    go : (b : Bool) → bytes_eq n name ≡ b → (o : Option Places) → f n ≡ o → cond b (Some places) o ≡ option_or o (cond b (Some places) None)
    go true same (Some other) is = absurd (cc (sym absent ∙ ap f (sym ((bytes_eq-Decides n name).0 same)) ∙ is))
    go true same None is = refl
    go false apart (Some other) is = refl
    go false apart None is = refl

pub not_there : (o : Option Places) → is_some o ≡ false → o ≡ None
not_there None is = refl
not_there (Some p) is = absurd (cc is)

-- ---- rows

module _ {X : Type 0} where
  appended : (P : ℕ → X → Type 0) (xs : List X) (x : X) → EachIs P xs → P (length xs) x → EachIs P (xs ++ x ∷ [])
  appended P [] x all is zero y at = subst (P zero) (same_Some x y at) is
  appended P [] x all is (suc i) y at = absurd (cc at)
  appended P (z ∷ xs) x all is zero y at = all zero y at
  appended P (z ∷ xs) x all is (suc i) y at = appended (λ (k : ℕ) (v : X). P (suc k) v) xs x (λ (k : ℕ) (v : X). all (suc k) v) is i y at

  nothing_in : (P : ℕ → X → Type 0) → EachIs P []
  nothing_in P i x at = absurd (cc at)

  pub none_yet : (P : ℕ → X → Type 0) (new : List X) → new ≡ [] → EachIs P new
  none_yet P new made = subst (EachIs P) (sym made) (nothing_in P)

  pub one_more : (P : ℕ → X → Type 0) (xs new : List X) (o : ℕ) (x : X) → EachIs P xs → length xs ≡ o → P o x → new ≡ xs ++ x ∷ [] → EachIs P new
  one_more P xs new o x all at is made = subst (EachIs P) (sym made) (appended P xs x all (subst (λ (k : ℕ). P k x) (sym at) is))

  pub each_at : (P : ℕ → X → Type 0) (xs : List X) (i : ℕ) (x : X) → EachIs P xs → i < length xs → x ≡ get_or xs i x → P i x
  each_at P xs i x all within read = all i x (slice_get-get_or xs i x within ∙ ap (λ (y : X). Some y) (sym read))
