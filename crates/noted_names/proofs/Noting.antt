-- What is noted of names, one after the other.
use Rattle.std.proofs.Common.{◌≡◌, ◌<◌, ◌+◌, ◌∙◌, ℕ, zero, suc, List, [], ◌∷◌, ◌++◌, ◌⊎◌, inl, inr, Option, None, Some, Bool, true, false, cond, length, get_or, refl, sym, ap, subst, arith}
use Rattle.std.specs.Prelude.{◌≤◌, IsSome, All, slice_get}
use Rattle.std.specs.Option.{option_or, option_and_then}
use Rattle.std.specs.BTreeMap.{BTreeMap}
use Rattle.std.specs.Borrow.{Bor}
use Rattle.std.specs.Str.{bytes_eq}
use Rattle.std.proofs.lemmas.Option.{same_Some, slice_get_cases, slice_get_past}
use Rattle.std.proofs.lemmas.List.{length-map}
use Rattle.std.proofs.lemmas.Bool.{cases_lt}
use Rattle.std.proofs.lemmas.Slice.Eq.{bytes_eq-Decides}
use Rattle.name_tables.specs.TableViews.{value_of}
use Rattle.noted_names.specs.declared.places.Places.{Places}
use Rattle.noted_names.specs.Memos.{AgreesWith, IsNoted}
use Rattle.noted_names.proofs.Kept.{one_more}
use Rattle.lisa_tree.specs.declared.descriptions.Description.{Description}
use Rattle.lisa_tree.specs.Descriptions.{DescriptionTree, description_tree, operation_tree}
use Rattle.noted_names.specs.declared.memo.Memo.{Memo}
use Rattle.noted_names.specs.Naming.{AreNoted, EachIs, IsMemo, NotesAll, noted_at}
use Rattle.noted_names.specs.Standing.{names_in, names_of}

module _ (old new : BTreeMap (List ℕ) Places) (name : List ℕ) (places : Places) (more : (n : List ℕ) → value_of new n ≡ option_or (value_of old n) (cond (bytes_eq n name) (Some places) None)) where
  pub still_right : (f : List ℕ → Places) → AgreesWith f old → places ≡ f name → AgreesWith f new
  still_right f right is n found at = go (value_of old n) refl (bytes_eq n name) refl (sym (more n) ∙ at)
    where
      go : (o : Option Places) → value_of old n ≡ o → (b : Bool) → bytes_eq n name ≡ b → option_or o (cond b (Some places) None) ≡ Some found → found ≡ f n
      go (Some p) there b same it = right n found (there ∙ it)
      go None there true same it = sym (same_Some places found it) ∙ is ∙ ap f (sym ((bytes_eq-Decides n name).0 same))
      go None there false same it = absurd (cc it)

  pub now_noted : IsNoted new name
  now_noted = subst IsSome (sym (more name ∙ ap (λ (b : Bool). option_or (value_of old name) (cond b (Some places) None)) ((bytes_eq-Decides name name).1 refl))) (go (value_of old name))
    where
      go : (o : Option Places) → IsSome (option_or o (Some places))
      go None = refl
      go (Some p) = refl

  pub still_noted : (n : List ℕ) → IsNoted old n → IsNoted new n
  still_noted n there = subst IsSome (sym (more n)) (go (value_of old n) (cond (bytes_eq n name) (Some places) None) there)
    where
      go : (o p : Option Places) → IsSome o → IsSome (option_or o p)
      go (Some q) p h = refl
      go None p h = absurd (cc h)

-- ---- a row of names

pub names_count : (rs : List (Bor (List ℕ))) → length (names_of rs) ≡ length rs
names_count [] = refl
names_count (r ∷ rs) = ap suc (names_count rs)

pub name_read : (rs : List (Bor (List ℕ))) (i : ℕ) (r : Bor (List ℕ)) (d : List ℕ) → i < length rs → r ≡ get_or rs i r → get_or (names_of rs) i d ≡ r.now
name_read [] i r d within read = absurd (omega arith)
name_read (x ∷ rs) zero r d within read = ap (λ (y : Bor (List ℕ)). y.now) (sym read)
name_read (x ∷ rs) (suc i) r d within read = name_read rs i r d (omega arith) read

-- the names before a place are noted
abbrev pub NotedBefore : BTreeMap (List ℕ) Places → List (List ℕ) → ℕ → Type 0
NotedBefore table names place = (k : ℕ) (d : List ℕ) → k < place → k < length names → IsNoted table (get_or names k d)

pub one_noted : (old new : BTreeMap (List ℕ) Places) (rs : List (Bor (List ℕ))) (place : ℕ) (r : Bor (List ℕ)) → NotedBefore old (names_of rs) place → ((n : List ℕ) → IsNoted old n → IsNoted new n)
    → place < length rs → r ≡ get_or rs place r → IsNoted new r.now → NotedBefore new (names_of rs) (place + 1)
one_noted old new rs place r before kept within read noted k d below inside = go (cases_lt k place)
  where
    go : (k < place) ⊎ (place ≤ k) → IsNoted new (get_or (names_of rs) k d)
    go (inl less) = kept (get_or (names_of rs) k d) (before k d less inside)
    go (inr most) =
        let same : k ≡ place = omega (arith, below, most) in
        subst (IsNoted new) (sym (ap (λ (i : ℕ). get_or (names_of rs) i d) same ∙ name_read rs place r d within read)) noted

pub all_noted : (table : BTreeMap (List ℕ) Places) (rs : List (Bor (List ℕ))) (names : List (List ℕ)) (place : ℕ) → NotedBefore table (names_of rs) place → length rs ≤ place → names_of rs ≡ names → All (IsNoted table) names
all_noted table rs names place before whole same =
    subst (All (IsNoted table)) same (λ k d inside. before k d (omega (arith, inside, whole, names_count rs)) inside)

-- ---- the memos of all operations

no_names : (d : DescriptionTree) (o : ℕ) → slice_get d.operations o ≡ None → names_in d o ≡ []
no_names d o none = rw none refl

pub standing_noted : (d : DescriptionTree) (memos : List Memo) → EachIs (NotesAll d) memos → length d.operations ≤ length memos → AreNoted d memos
standing_noted d memos each enough o n stands = go (slice_get_cases memos o).1
  where
    go : ((memo : Memo) × (o < length memos) × (slice_get memos o ≡ Some memo) × (get_or memos o memo ≡ memo)) ⊎ ((length memos ≤ o) × (slice_get memos o ≡ None)) → IsSome (noted_at memos o n)
    go (inl at) =
        subst (λ (m : Option Memo). IsSome (option_and_then (λ (x : Memo). value_of x.table n) m)) (sym at.2)
        (subst (IsNoted at.0.table) stands.2 (each o at.0 at.2 stands.0 n stands.1))
    go (inr past) =
        let none : names_in d o ≡ [] = no_names d o (slice_get_past d.operations o (omega (arith, enough, past.0))) in
        absurd (omega (arith, subst (λ (xs : List (List ℕ)). stands.0 < length xs) none stands.1))

pub nothing_noted : (f : List ℕ → Places) (table : BTreeMap (List ℕ) Places) → ((n : List ℕ) → value_of table n ≡ None) → AgreesWith f table
nothing_noted f table none n found at = absurd (cc (sym (none n) ∙ at))

-- ---- one memo behind the others

pub one_memo : (d : DescriptionTree) (memos new : List Memo) (o : ℕ) (memo : Memo) → length memos ≡ o → EachIs (NotesAll d) memos → NotesAll d o memo → new ≡ memos ++ memo ∷ [] → EachIs (NotesAll d) new
one_memo d memos new o memo len each is made = one_more (NotesAll d) memos new o memo each len is made

pub one_right : (d : DescriptionTree) (memos new : List Memo) (o : ℕ) (memo : Memo) → length memos ≡ o → EachIs (IsMemo d) memos → IsMemo d o memo → new ≡ memos ++ memo ∷ [] → EachIs (IsMemo d) new
one_right d memos new o memo len each is made = one_more (IsMemo d) memos new o memo each len is made

pub operations_counted : (x : Description) (d : DescriptionTree) → description_tree x ≡ d → length x.operations.items ≡ length d.operations
operations_counted x d is = sym (length-map x.operations.items operation_tree) ∙ ap (λ (t : DescriptionTree). length t.operations) is
