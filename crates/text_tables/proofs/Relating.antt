-- How lists of pieces stand to each other.
use Rattle.std.proofs.Common.{◌≡◌, ℕ, zero, suc, ◌+◌, ◌<◌, List, [], ◌∷◌, ◌++◌, length, map, take, drop, get_or, min, refl, sym, ap, ◌∙◌, subst, arith, append-nil, append_assoc}
use Rattle.std.specs.Prelude.{slice_index_or}
use Rattle.std.specs.Global.{Vec}
use Rattle.std.proofs.Math.ListN.{drop_of_length-le}
use Rattle.std.proofs.lemmas.List.{take-append-drop, get_or-map, length-append}
use Rattle.instruction_texts.specs.declared.shapes.Shape.{Shape}
use Rattle.text_tables.specs.declared.openings.Relation.{Relation}
use Rattle.text_tables.specs.declared.openings.Relation.TheVariants.{Apart, Level, Uneven, Open}
use Rattle.text_tables.specs.declared.relations.Relations.{Relations}
use Rattle.text_tables.specs.Openings.{Share, IsRelated}
use Rattle.text_tables.specs.Relations.{IsRow, AreRows, AreRelated}
use Rattle.text_tables.specs.Shared.{shapes_at}
use Rattle.text_tables.specs.Parts.{part_pieces}
use Rattle.text_tables.specs.declared.texts.Part.{Part}
use Rattle.text_tables.specs.declared.texts.Part.TheVariants as parts
use Rattle.text_tables.proofs.Opened.{rest, rest_is, share_past, one_ends}

-- ---- the end of the comparison

module _ (ss us : List Shape) (i : ℕ) (on : (vs ws : List Shape) → Share (ss ++ vs) (us ++ ws) → Share (drop i ss ++ vs) (drop i us ++ ws)) (end : i ≡ min (length ss) (length us)) where
  pub both_end : length ss ≡ length us → IsRelated ss us Level
  both_end level vs ws h =
      let none : drop i ss ≡ [] = drop_of_length-le ss (omega (arith, end, level)) in
      let none_too : drop i us ≡ [] = drop_of_length-le us (omega (arith, end, level)) in
      subst (λ (xs : List Shape). Share (xs ++ vs) ws) none (subst (λ (xs : List Shape). Share (drop i ss ++ vs) (xs ++ ws)) none_too (on vs ws h))

  bare : Share ss us → Share (drop i ss) (drop i us)
  bare h =
      let more : Share (ss ++ []) (us ++ []) = subst (λ (xs : List Shape). Share xs (us ++ [])) (sym (append-nil ss)) (subst (λ (xs : List Shape). Share ss xs) (sym (append-nil us)) h) in
      subst (λ (xs : List Shape). Share xs (drop i us)) (append-nil (drop i ss)) (subst (λ (xs : List Shape). Share (drop i ss ++ []) xs) (append-nil (drop i us)) (on [] [] more))

  pub one_goes_on : (length ss ≡ length us → ⊥) → IsRelated ss us Uneven
  one_goes_on uneven h = uneven (one_ends ss us i bare end h)

-- ---- the same pieces before others

passed : (same ss us vs ws : List Shape) → Share ((same ++ ss) ++ vs) ((same ++ us) ++ ws) → Share (ss ++ vs) (us ++ ws)
passed same ss us vs ws h =
    share_past same (ss ++ vs) (us ++ ws)
    (subst (λ (xs : List Shape). Share xs (same ++ (us ++ ws))) (append_assoc same ss vs) (subst (λ (xs : List Shape). Share ((same ++ ss) ++ vs) xs) (append_assoc same us ws) h))

past_same : (same ss us : List Shape) (r : Relation) → IsRelated ss us r → IsRelated (same ++ ss) (same ++ us) r
past_same same ss us Apart is = λ vs ws h. is vs ws (passed same ss us vs ws h)
past_same same ss us Level is = λ vs ws h. is vs ws (passed same ss us vs ws h)
past_same same ss us Uneven is = λ h. is (share_past same ss us h)
past_same same ss us Open is = tt

pub past_alike : (ss us : List Shape) (n : ℕ) (r : Relation) → take n ss ≡ take n us → IsRelated (rest n ss) (rest n us) r → IsRelated ss us r
past_alike ss us n r same is =
    let behind : IsRelated (drop n ss) (drop n us) r = rw (rest_is n ss, rest_is n us) at is in
    subst (λ (xs : List Shape). IsRelated xs us r) (take-append-drop n ss)
    (subst (λ (xs : List Shape). IsRelated (take n ss ++ drop n ss) xs r) (ap (λ (xs : List Shape). xs ++ drop n us) same ∙ take-append-drop n us)
    (past_same (take n ss) (drop n ss) (drop n us) r behind))

-- ---- two lists of many

pub to_itself : (ss : List Shape) → IsRelated ss ss Level
to_itself ss = λ vs ws h. share_past ss vs ws h

pub other_way : (ss us : List Shape) (r : Relation) → IsRelated ss us r → IsRelated us ss r
other_way ss us Apart is = λ vs ws h. is ws vs (h.0, h.2, h.1)
other_way ss us Level is = λ vs ws h. (let s = is ws vs (h.0, h.2, h.1) in (s.0, s.2, s.1))
other_way ss us Uneven is = λ h. is (h.0, h.2, h.1)
other_way ss us Open is = tt

entry_is : (row : List Relation) (k : ℕ) (d : Relation) → k < length row → slice_index_or row k Open ≡ slice_index_or row k d
entry_is [] k d h = absurd (omega arith)
entry_is (y ∷ row) zero d h = refl
entry_is (y ∷ row) (suc k) d h = entry_is row k d (omega arith)

pub known : (all : List (List Shape)) (r : Relations) (row : Vec Relation) (entries : List Relation) (k j : ℕ) (d : Relation) → k < length r.rows.items → row ≡ get_or r.rows.items k row → entries ≡ row.items → j < length entries
    → AreRelated all r → IsRelated (shapes_at all k) (shapes_at all j) (slice_index_or entries j d)
known all r row entries k j d inside is entries_are there are =
    let here : slice_index_or (map (λ (v : Vec Relation). v.items) r.rows.items) k [] ≡ entries = get_or-map (λ (v : Vec Relation). v.items) r.rows.items k row [] inside ∙ ap (λ (v : Vec Relation). v.items) (sym is) ∙ sym entries_are in
    let entry : slice_index_or (slice_index_or (map (λ (v : Vec Relation). v.items) r.rows.items) k []) j Open ≡ slice_index_or entries j d = ap (λ (l : List Relation). slice_index_or l j Open) here ∙ entry_is entries j d there in
    subst (IsRelated (shapes_at all k) (shapes_at all j)) entry (are k j)

-- ---- two parts

pub of_shared : (shared : List (Vec Shape)) (p q : Part) (k j : ℕ) (r : Relation) → p ≡ parts.Shared k → q ≡ parts.Shared j
    → IsRelated (shapes_at (map (λ (v : Vec Shape). v.items) shared) k) (shapes_at (map (λ (v : Vec Shape). v.items) shared) j) r → IsRelated (part_pieces shared p) (part_pieces shared q) r
of_shared shared p q k j r one other is =
    subst (λ (x : Part). IsRelated (part_pieces shared x) (part_pieces shared q) r) (sym one) (subst (λ (x : Part). IsRelated (part_pieces shared (parts.Shared k)) (part_pieces shared x) r) (sym other) is)

-- ---- one more

each_more : {A : Type 0} (P : ℕ → A → Type 0) (d : A) (xs : List A) (x : A) → ((k : ℕ) → P k (slice_index_or xs k d)) → P (length xs) x → (k : ℕ) → P k (slice_index_or (xs ++ x ∷ []) k d)
each_more P d [] x all here zero = here
each_more P d [] x all here (suc k) = all (suc k)
each_more P d (y ∷ xs) x all here zero = all zero
each_more P d (y ∷ xs) x all here (suc k) = each_more (λ n. P (suc n)) d xs x (λ n. all (suc n)) here k

longer : {A : Type 0} {n : ℕ} (xs : List A) (x : A) → length xs ≡ n → length (xs ++ x ∷ []) ≡ n + 1
longer xs x level = length-append xs (x ∷ []) ∙ ap (λ (m : ℕ). m + 1) level

-- what is known of the list k and the first n lists
pub record IsRowOf (all : List (List Shape)) (k n : ℕ) (row : List Relation) : Type 0 where
  pub level : length row ≡ n
  pub known : IsRow all k row

pub record AreRowsOf (all : List (List Shape)) (n : ℕ) (rows : List (List Relation)) : Type 0 where
  pub level : length rows ≡ n
  pub known : AreRows all rows

pub no_entry : (all : List (List Shape)) (k : ℕ) (row : List Relation) → row ≡ [] → IsRowOf all k 0 row
no_entry all k row none = subst (IsRowOf all k 0) (sym none) (record { level = refl; known = λ j. tt })

pub no_rows : (all : List (List Shape)) (rows : List (Vec Relation)) → rows ≡ [] → AreRowsOf all 0 (map (λ v. v.items) rows)
no_rows all rows none = subst (λ (l : List (Vec Relation)). AreRowsOf all 0 (map (λ v. v.items) l)) (sym none) (record { level = refl; known = λ k j. tt })

pub entry_more : (all : List (List Shape)) (k n : ℕ) (old new : List Relation) (x : Relation) (ss us : List Shape) → new ≡ old ++ x ∷ [] → ss ≡ shapes_at all k → us ≡ shapes_at all n → IsRelated ss us x
    → IsRowOf all k n old → IsRowOf all k (n + 1) new
entry_more all k n old new x ss us are one other is so_far = record {
  level = ap length are ∙ longer old x so_far.level;
  known = subst (IsRow all k) (sym are) (each_more (λ (j : ℕ) (r : Relation). IsRelated (shapes_at all k) (shapes_at all j) r) Open old x so_far.known here);
}
  where
    here : IsRelated (shapes_at all k) (shapes_at all (length old)) x
    here = subst (λ (j : ℕ). IsRelated (shapes_at all k) (shapes_at all j) x) (sym so_far.level) (subst (λ (xs : List Shape). IsRelated (shapes_at all k) xs x) other (subst (λ (xs : List Shape). IsRelated xs us x) one is))

pub row_more : (all : List (List Shape)) (n : ℕ) (old new : List (List Relation)) (row : List Relation) → new ≡ old ++ row ∷ [] → IsRow all n row → AreRowsOf all n old → AreRowsOf all (n + 1) new
row_more all n old new row are is so_far = record {
  level = ap length are ∙ longer old row so_far.level;
  known = subst (AreRows all) (sym are) (each_more (IsRow all) [] old row so_far.known (subst (λ (k : ℕ). IsRow all k row) (sym so_far.level) is));
}
