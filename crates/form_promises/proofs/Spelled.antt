-- Operations of an accepted description that write each of their fields and children once.
use Rattle.std.proofs.Common.{◌≡◌, ◌⊎◌, ◌<◌, ◌≤◌, ◌+◌, ◌&&◌, ◌++◌, ℕ, zero, suc, List, [], ◌∷◌, Option, None, Some, Bool, true, false, cond, not, nat_eq, map, length, refl, sym, ap, ap₂, ◌∙◌, arith, subst, inl, inr}
use Rattle.std.specs.Prelude.{slice_get, slice_index_or}
use Rattle.std.specs.List.{AllByRecursion}
use Rattle.std.proofs.lemmas.Bool.{and_parts, eqb-true}
use Rattle.lisa_tree.specs.declared.faults.DescFault.{DescFault}
use Rattle.lisa_tree.specs.declared.descriptions.CodingItem.{CodingItem}
use Rattle.lisa_tree.specs.declared.descriptions.CodingItem.TheVariants as items
use Rattle.lisa_tree.specs.declared.descriptions.SyntaxItem.{SyntaxItem}
use Rattle.lisa_tree.specs.declared.descriptions.SyntaxPart.{SyntaxPart}
use Rattle.lisa_tree.specs.declared.descriptions.SyntaxPart.TheVariants as parts
use Rattle.lisa_tree.specs.Descriptions as trees
use Rattle.lisa_tree.specs.Descriptions.{CodingTree, SectionTree, DescriptionTree}
use Rattle.lisa_machine.specs.description_places.Places.{part_places, parts_places}
use Rattle.lisa_tree.specs.declared.declared.What.{What}
use Rattle.lisa_tree.specs.declared.declared.What.TheVariants as whats
use Rattle.lisa_tree.specs.Operations.{coding_in, syntax_in, sections_at}
use Rattle.lisa_tree.specs.Declarations.{declared_at}
use Rattle.lisa_machine.proofs.description_graph_proofs.Hits.{found}
use Rattle.lisa_machine.specs.coded_names.Codings.{in_coding, is_coding, field_width}
use Rattle.form_texts.specs.coding_checks.Written.{coded_count, shown_count, is_written, is_to_write, writing_in, writing_named, not_written}
use Rattle.instruction_trees.specs.Trees.{Item, In, coding}
use Rattle.form_texts.specs.coding_tables.Codings.{digit_item, pattern_digits, items_of, coding_items, coding_table}
use Rattle.form_texts.proofs.coding_tables_proofs.Levels as levels
use Rattle.form_texts.specs.instruction_forms.Described.{labels, own_items}
use Rattle.form_texts.specs.instruction_texts.Symbols.{Element}
use Rattle.form_texts.specs.instruction_texts.Once.{Key, OfField, OfPart, fields_of, children_of, IsWrittenOnce}
use Rattle.form_texts.specs.Syntaxes.{child_names, elements_in, elements_at, syntax_from, syntax_table}
use Rattle.lisa_machine.specs.Codings.{FitsItem, FitsPart}
use Rattle.lisa_machine.specs.Declaring.{IsDeclared, IsLabel, IsChild}
use Rattle.lisa_machine.specs.Freedom.{AreFree, IsFree, AllStand}
use Rattle.lisa_machine.specs.Soundness.{IsSound}
use Rattle.lisa_machine.proofs.Among.{free_place, free_places, free_both}
use Rattle.lisa_machine.proofs.Decoding.{or_left}
use Rattle.lisa_machine.proofs.Entries.{entry_stands}
use Rattle.lisa_machine.proofs.Fitting.{coding_fits, syntax_fits}
use Rattle.lisa_machine.proofs.Standing.{coding_stand, syntax_stand}
use Rattle.form_promises.proofs.Rooted.{coded_there}
use Rattle.form_promises.proofs.Counted.{count, label_there, child_there, child_coded}
use Rattle.form_promises.proofs.Keyed.{IsKeyOf, HasPlace, HavePlaces, keys_of, all_keyed, all_distinct, some_key}

-- ---- a coding's fields and children

digits_apart : (digits : List ℕ) (rest : List Item) → (fields_of (map digit_item digits ++ rest) ≡ fields_of rest) × (children_of (map digit_item digits ++ rest) ≡ children_of rest)
digits_apart [] rest = (refl, refl)
digits_apart (digit ∷ digits) rest = by (nat_eq digit 48) (nat_eq digit 49) (digits_apart digits rest)
  where
    by : (b c : Bool) → (fields_of (map digit_item digits ++ rest) ≡ fields_of rest) × (children_of (map digit_item digits ++ rest) ≡ children_of rest)
        → (fields_of (cond b (Item.Fixed false) (cond c (Item.Fixed true) Item.Free) ∷ (map digit_item digits ++ rest)) ≡ fields_of rest) × (children_of (cond b (Item.Fixed false) (cond c (Item.Fixed true) Item.Free) ∷ (map digit_item digits ++ rest)) ≡ children_of rest)
    by true c h = h
    by false true h = h
    by false false h = h

fields_counted : (d : DescriptionTree) (o : ℕ) (all : List CodingItem) → fields_of (items_of d o all) ≡ length (labels all)
fields_counted d o [] = refl
fields_counted d o (items.Bits p ∷ rest) = (digits_apart (pattern_digits p) (items_of d o rest)).0 ∙ fields_counted d o rest
fields_counted d o (items.Field n p ∷ rest) = ap suc (fields_counted d o rest)
fields_counted d o (items.Child n ∷ rest) = fields_counted d o rest

children_counted : (d : DescriptionTree) (o : ℕ) (all : List CodingItem) → children_of (items_of d o all) ≡ length (child_names all)
children_counted d o [] = refl
children_counted d o (items.Bits p ∷ rest) = (digits_apart (pattern_digits p) (items_of d o rest)).1 ∙ children_counted d o rest
children_counted d o (items.Field n p ∷ rest) = children_counted d o rest
children_counted d o (items.Child n ∷ rest) = ap suc (children_counted d o rest)

some_name : (names : List (List ℕ)) (j : ℕ) → j < length names → (n : List ℕ) × (slice_get names j ≡ Some n)
some_name [] j h = absurd (omega (arith, h))
some_name (n ∷ names) zero h = (n, refl)
some_name (n ∷ names) (suc j) h = some_name names j (omega (arith, h))

-- ---- the syntax of an operation

pub syntax_is : (d : DescriptionTree) (more o k : ℕ) → k < more → slice_index_or (syntax_from d o more) k [] ≡ elements_at d (o + k)
syntax_is d zero o k h = absurd (omega (arith, h))
syntax_is d (suc more) o zero h = ap (elements_at d) (let e : o ≡ o + 0 = omega arith in e)
syntax_is d (suc more) o (suc k) h = syntax_is d more (suc o) k (omega (arith, h)) ∙ ap (elements_at d) (let e : suc o + k ≡ o + suc k = omega arith in e)

module _ (d : DescriptionTree) (o : ℕ) (all : List CodingItem) (is : coding_in (sections_at d o) ≡ Some (trees.Items all)) where
  its_items : coding (coding_table d) o ≡ items_of d o all
  its_items = levels.items_at d o ∙ ap (coding_items d o) is

  shown_in : Option (List SyntaxItem) → List SyntaxItem
  shown_in None = []
  shown_in (Some shown) = shown

  its_elements : (part : Option (List SyntaxItem)) → syntax_in (sections_at d o) ≡ part → slice_index_or (syntax_table d) o [] ≡ elements_in all part
  its_elements part at =
      let there = coded_there d o (trees.Items all) is in
      let number : 0 + o ≡ o = omega arith in
      syntax_is d (length d.operations) 0 o there
      ∙ ap (elements_at d) number
      ∙ ap₂ (λ (x : Option CodingTree) (y : Option (List SyntaxItem)). elements_in (own_items x) y) is at

  -- ---- what is declared stands once in both

  label_fits : (rest : List CodingItem) → AllByRecursion (FitsItem d o) rest → (j : ℕ) (n : List ℕ) → slice_get (labels rest) j ≡ Some n → IsLabel d o n
  label_fits [] h j n e = absurd (cc e)
  label_fits (items.Bits p ∷ rest) h j n e = label_fits rest h.1 j n e
  label_fits (items.Child m ∷ rest) h j n e = label_fits rest h.1 j n e
  label_fits (items.Field m p ∷ rest) h zero n e = let same : m ≡ n = cc e in subst (λ (z : List ℕ). IsLabel d o z) same h.0.label
  label_fits (items.Field m p ∷ rest) h (suc j) n e = label_fits rest h.1 j n e

  child_fits : (rest : List CodingItem) → AllByRecursion (FitsItem d o) rest → (j : ℕ) (n : List ℕ) → slice_get (child_names rest) j ≡ Some n → IsChild d o n
  child_fits [] h j n e = absurd (cc e)
  child_fits (items.Bits p ∷ rest) h j n e = child_fits rest h.1 j n e
  child_fits (items.Field m p ∷ rest) h j n e = child_fits rest h.1 j n e
  child_fits (items.Child m ∷ rest) h zero n e = let same : m ≡ n = cc e in subst (λ (z : List ℕ). IsChild d o z) same h.0
  child_fits (items.Child m ∷ rest) h (suc j) n e = child_fits rest h.1 j n e

  module _ (s : IsSound d) (free : IsFree (not_written d) d) where
    unwritten : (k n : List ℕ) (b : Bool) → cond b (Some (DescFault.NotWritten k n)) None ≡ None → b ≡ false
    unwritten k n false e = refl
    unwritten k n true e = absurd (cc e)

    named_written : (n : List ℕ) (i : ℕ) → declared_at d o n ≡ Some i → (writing_named d o n).missing ≡ false
    named_written n i at =
        let f = found d o n i at in
        let owner : f.e.operation ≡ o = cc (f.at, f.owner) in
        let name : f.e.name ≡ n = cc (f.at, f.name) in
        let st = entry_stands d i f.e f.at in
        let none = unwritten _ f.e.name (writing_named d f.e.operation f.e.name).missing (free_place (not_written d) d free _ st.stands) in
        sym (ap₂ (λ (p : ℕ) (m : List ℕ). (writing_named d p m).missing) owner name) ∙ none

    -- the name stands once in the coding and once in the syntax
    abbrev Once : List ℕ → Type 0
    Once n = (coded_count n (coding_in (sections_at d o)) ≡ 1) × (shown_count n (syntax_in (sections_at d o)) ≡ 1)

    both_of : (a b c : Bool) → a ≡ true → b ≡ true → (a && (b && not c)) ≡ false → c ≡ true
    both_of a b true e f h = refl
    both_of true true false e f h = absurd (cc h)
    both_of true false false e f h = absurd (cc f)
    both_of false b false e f h = absurd (cc e)

    declared_once : (n : List ℕ) (what : What) → (g : IsDeclared d o n what) → is_to_write (sections_at d o) (Some what) n ≡ true → Once n
    declared_once n what g to_write =
        let f = found d o n g.number g.declared in
        let own : (writing_named d o n).missing ≡ (writing_in (sections_at d o) (Some what) (Some n)).missing = cc (g.declared, g.is, f.owner, f.name) in
        let coded : is_coding (coding_in (sections_at d o)) ≡ true = ap is_coding is in
        let written = both_of (is_coding (coding_in (sections_at d o))) (is_to_write (sections_at d o) (Some what) n) (is_written (sections_at d o) n) coded to_write (sym own ∙ named_written n g.number g.declared) in
        let p = and_parts (nat_eq (coded_count n (coding_in (sections_at d o))) 1) (nat_eq (shown_count n (syntax_in (sections_at d o))) 1) written in
        (eqb-true (coded_count n (coding_in (sections_at d o))) 1 p.0, eqb-true (shown_count n (syntax_in (sections_at d o))) 1 p.1)

    stood : AllByRecursion (FitsItem d o) all
    stood = coding_fits d s.known s.stand s.uses s.widths o (trees.Items all) (coding_stand d o (trees.Items all) is)

    key_once : (x : Key) (n : List ℕ) → IsKeyOf all x n → Once n
    key_once (OfField j) n e = declared_once n whats.Label (label_fits all stood j n e) refl
    key_once (OfPart j) n e = by (child_fits all stood j n e)
      where
        coded : in_coding n (coding_in (sections_at d o)) ≡ true
        coded = ap (in_coding n) is ∙ child_coded n all j e

        by : IsChild d o n → Once n
        by (c, inl g) = declared_once n (whats.Group c) g coded
        by (c, inr g) = declared_once n (whats.Instance c) g coded

    -- ---- what is shown stands in the coding

    extra_of : (a b : Bool) → a ≡ true → (a && not b) ≡ false → b ≡ true
    extra_of a true e h = refl
    extra_of true false e h = absurd (cc h)
    extra_of false false e h = absurd (cc e)

    shown_coded : (n : List ℕ) → IsChild d o n → (writing_named d o n).extra ≡ false → in_coding n (coding_in (sections_at d o)) ≡ true
    shown_coded n (c, g) none = by g
      where
        of : (what : What) → IsDeclared d o n what → in_coding n (coding_in (sections_at d o)) ≡ true
        of what g =
            let f = found d o n g.number g.declared in
            let own : (writing_named d o n).extra ≡ (writing_in (sections_at d o) (Some what) (Some n)).extra = cc (g.declared, f.owner, f.name) in
            extra_of (is_coding (coding_in (sections_at d o))) (in_coding n (coding_in (sections_at d o))) (ap is_coding is) (sym own ∙ none)

        by : IsDeclared d o n (whats.Group c) ⊎ IsDeclared d o n (whats.Instance c) → in_coding n (coding_in (sections_at d o)) ≡ true
        by (inl g) = of (whats.Group c) g
        by (inr g) = of (whats.Instance c) g

    part_placed : (part : SyntaxPart) → FitsPart d o part → AreFree (not_written d) (part_places o part) → HasPlace all part
    part_placed (parts.Literal text) h e = tt
    part_placed (parts.Number n format) h e = label_there n all h.width (sym (ap (field_width n) is) ∙ h.field)
    part_placed (parts.Child n) h e =
        let none = unwritten _ n (writing_named d o n).extra (or_left _ None e) in
        child_there n all (sym (ap (in_coding n) is) ∙ shown_coded n h none)

    all_placed : (shown : List SyntaxItem) → AllByRecursion (λ item. FitsPart d o item.part) shown → AreFree (not_written d) (parts_places o shown) → HavePlaces all shown
    all_placed [] h e = tt
    all_placed (item ∷ shown) h e =
        let b = (free_both (not_written d) (part_places o item.part) (parts_places o shown)).0 e in
        (part_placed item.part h.0 b.0, all_placed shown h.1 b.1)

    pub written_once : IsWrittenOnce (coding (coding_table d) o) (slice_index_or (syntax_table d) o [])
    written_once = by (syntax_in (sections_at d o)) refl
      where
        counted : (n : List ℕ) → Once n → count n all ≤ 1
        counted n h = let c = sym (ap (coded_count n) is) ∙ h.0 in omega (arith, c)

        whole : (es : List Element) → slice_index_or (syntax_table d) o [] ≡ es → IsWrittenOnce (items_of d o all) es → IsWrittenOnce (coding (coding_table d) o) (slice_index_or (syntax_table d) o [])
        whole es at h = subst (λ (x : List Item). IsWrittenOnce x (slice_index_or (syntax_table d) o [])) (sym its_items) (subst (λ (x : List Element). IsWrittenOnce (items_of d o all) x) (sym at) h)

        by : (part : Option (List SyntaxItem)) → syntax_in (sections_at d o) ≡ part → IsWrittenOnce (coding (coding_table d) o) (slice_index_or (syntax_table d) o [])
        by None at = whole [] (its_elements None at) (record {
          fields = λ j h. absurd (nothing (OfField j) (some_name (labels all) j (let c = fields_counted d o all in omega (arith, c, h))));
          parts = λ j h. absurd (nothing (OfPart j) (some_name (child_names all) j (let c = children_counted d o all in omega (arith, c, h))));
          distinct = all_distinct all [] tt (λ n c. absurd (omega (arith, c)));
        })
          where
            nothing : (x : Key) → (n : List ℕ) × IsKeyOf all x n → ⊥
            nothing x (n, e) = let h = sym (ap (shown_count n) at) ∙ (key_once x n e).1 in absurd (omega (arith, h))
        by (Some shown) at = whole _ (its_elements (Some shown) at) (record {
          fields = λ j h. key (OfField j) (some_name (labels all) j (let c = fields_counted d o all in omega (arith, c, h)));
          parts = λ j h. key (OfPart j) (some_name (child_names all) j (let c = children_counted d o all in omega (arith, c, h)));
          distinct = all_distinct all shown placed (λ n c. let k = some_key all n shown placed c in let h = sym (ap (shown_count n) at) ∙ (key_once k.0 n k.1).1 in omega (arith, h));
        })
          where
            stand : AllStand d (parts_places o shown)
            stand = syntax_stand d o shown at

            placed : HavePlaces all shown
            placed = all_placed shown (syntax_fits d s.known s.stand s.uses s.kinds o shown stand) (free_places (not_written d) d free (parts_places o shown) stand)

            key : (x : Key) → (n : List ℕ) × IsKeyOf all x n → In x (keys_of all shown)
            key x (n, e) =
                let o = key_once x n e in
                let h = sym (ap (shown_count n) at) ∙ o.1 in
                all_keyed all n (counted n o) x e shown placed (omega (arith, h))
