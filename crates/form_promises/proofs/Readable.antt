-- The forms of an accepted description's instructions, whose texts tell trees apart.
use Rattle.std.proofs.Common.{◌≡◌, ◌<◌, ◌+◌, ◌||◌, ◌++◌, ℕ, zero, suc, List, [], ◌∷◌, Option, None, Some, Bool, true, false, cond, nat_eq, map, length, refl, sym, ap, ◌∙◌, arith, subst}
use Rattle.std.specs.Prelude.{slice_index_or}
use Rattle.std.specs.List.{AllByRecursion, list_any}
use Rattle.lisa_tree.specs.declared.descriptions.CodingItem.{CodingItem}
use Rattle.lisa_tree.specs.declared.descriptions.CodingItem.TheVariants as items
use Rattle.lisa_tree.specs.Descriptions as trees
use Rattle.lisa_tree.specs.Descriptions.{CodingTree, DescriptionTree}
use Rattle.lisa_machine.specs.description_places.Places.{item_places, items_places, coding_places}
use Rattle.lisa_tree.specs.Operations.{coding_in, sections_at}
use Rattle.lisa_tree.specs.Declarations.{alternatives_at}
use Rattle.lisa_machine.specs.coded_names.Codings.{is_coding}
use Rattle.form_texts.specs.coding_checks.Widths.{choice_named, child_width}
use Rattle.form_texts.specs.coding_checks.Uneven.{lacks_coding, is_too_wide, known_widths, differ, is_uneven, choice_uneven, child_uneven, root_uneven, place_width, are_apart, uneven_fault, group_width}
use Rattle.form_texts.specs.coding_checks.Written.{not_written}
use Rattle.instruction_trees.specs.Trees.{Item, Fixed, Free, coding, Form, Choose, Fits, AnyValue, In, here, there}
use Rattle.instruction_trees.specs.Forms.{Distinct, none}
use Rattle.instruction_trees.specs.Values.{numbered, owns}
use Rattle.form_texts.specs.coding_tables.Codings.{digit_item, pattern_digits, choice_alternatives, items_of, coding_items, coding_table}
use Rattle.form_texts.specs.coding_tables.Instructions.{instruction_choice, instruction_items}
use Rattle.form_texts.proofs.coding_tables_proofs.Levels as levels
use Rattle.form_texts.specs.instruction_texts.Symbols.{Element, Sym, is_clean, shown_values, AreWide}
use Rattle.form_texts.specs.instruction_texts.Once.{IsWrittenOnce}
use Rattle.form_texts.specs.instruction_texts.Texts.{form_symbols, IsReadable}
use Rattle.form_texts.proofs.instruction_texts_proofs.Tiles.{may_be_compared}
use Rattle.form_texts.specs.Syntaxes.{elements_at, syntax_table}
use Rattle.lisa_machine.specs.Codings.{FitsItem}
use Rattle.lisa_machine.specs.Freedom.{AreFree, IsFree}
use Rattle.lisa_machine.specs.Soundness.{IsSound}
use Rattle.lisa_machine.proofs.Among.{free_places, free_both}
use Rattle.lisa_machine.proofs.Decoding.{off_left, off_right, or_left, not_off}
use Rattle.lisa_machine.proofs.Fitting.{coding_fits}
use Rattle.lisa_machine.proofs.Standing.{coding_stand}
use Rattle.form_promises.proofs.Rooted.{IsRootOf, the_root, coded_there}
use Rattle.form_promises.proofs.Wide.{even_child, child_named}
use Rattle.form_promises.proofs.Spelled.{syntax_is, written_once}
use Rattle.form_promises.proofs.Agreeing.{AreGood, fits_numbered, symbols_wide, symbols_same}

-- the operation has a coding that isn't the root's
abbrev pub IsCoded : DescriptionTree → ℕ → Type 0
IsCoded d k = is_coding (coding_in (sections_at d k)) ≡ true

-- ---- the syntax of operations with such a coding alone

abbrev kept : Option CodingTree → List Element → List Element
kept (Some (trees.Items all)) es = es
kept _ es = []

abbrev coded_from : DescriptionTree → ℕ → ℕ → List (List Element)
coded_from d o zero = []
coded_from d o (suc more) = kept (coding_in (sections_at d o)) (elements_at d o) ∷ coded_from d (suc o) more

abbrev coded_syntax : DescriptionTree → List (List Element)
coded_syntax d = coded_from d 0 (length d.operations)

abbrev kept_at : DescriptionTree → ℕ → List Element
kept_at d o = kept (coding_in (sections_at d o)) (elements_at d o)

kept_is : (d : DescriptionTree) (more o k : ℕ) → k < more → slice_index_or (coded_from d o more) k [] ≡ kept_at d (o + k)
kept_is d zero o k h = absurd (omega (arith, h))
kept_is d (suc more) o zero h = ap (kept_at d) (let e : o ≡ o + 0 = omega arith in e)
kept_is d (suc more) o (suc k) h = kept_is d more (suc o) k (omega (arith, h)) ∙ ap (kept_at d) (let e : suc o + k ≡ o + suc k = omega arith in e)

none_kept : (d : DescriptionTree) (more o k : ℕ) → ((j : ℕ) → o + k ≡ j → kept_at d j ≡ []) → slice_index_or (coded_from d o more) k [] ≡ []
none_kept d zero o k h = refl
none_kept d (suc more) o zero h = h o (omega arith)
none_kept d (suc more) o (suc k) h = none_kept d more (suc o) k (λ j e. h j (omega (arith, e)))

module _ (d : DescriptionTree) where
  kept_same : (k : ℕ) (all : List CodingItem) → coding_in (sections_at d k) ≡ Some (trees.Items all) → slice_index_or (syntax_table d) k [] ≡ slice_index_or (coded_syntax d) k []
  kept_same k all is =
      let there = coded_there d k (trees.Items all) is in
      let number : 0 + k ≡ k = omega arith in
      syntax_is d (length d.operations) 0 k there
      ∙ ap (elements_at d) number
      ∙ sym (kept_is d (length d.operations) 0 k there ∙ ap (kept_at d) number ∙ ap (λ (part : Option CodingTree). kept part (elements_at d k)) is)

  pub agree : (k : ℕ) → IsCoded d k → slice_index_or (syntax_table d) k [] ≡ slice_index_or (coded_syntax d) k []
  agree k coded = by (coding_in (sections_at d k)) refl
    where
      by : (part : Option CodingTree) → coding_in (sections_at d k) ≡ part → slice_index_or (syntax_table d) k [] ≡ slice_index_or (coded_syntax d) k []
      by None is = absurd (cc (is, coded))
      by (Some (trees.Root place group)) is = absurd (cc (is, coded))
      by (Some (trees.Items all)) is = kept_same k all is

  nothing_once : IsWrittenOnce [] []
  nothing_once = record { fields = λ j h. absurd (omega (arith, h)); parts = λ j h. absurd (omega (arith, h)); distinct = none }

  without_coding : (k : ℕ) (part : Option CodingTree) → coding_in (sections_at d k) ≡ part → coding_items d k part ≡ [] → kept part (elements_at d k) ≡ [] → IsWrittenOnce (coding (coding_table d) k) (slice_index_or (coded_syntax d) k [])
  without_coding k part is no_items no_elements =
      let a : coding (coding_table d) k ≡ [] = levels.items_at d k ∙ ap (coding_items d k) is ∙ no_items in
      let b : slice_index_or (coded_syntax d) k [] ≡ [] = none_kept d (length d.operations) 0 k (λ j e. (let number : j ≡ k = omega (arith, e) in ap (kept_at d) number ∙ ap (λ (x : Option CodingTree). kept x (elements_at d k)) is ∙ no_elements)) in
      subst (λ (x : List Item). IsWrittenOnce x (slice_index_or (coded_syntax d) k [])) (sym a) (subst (λ (x : List Element). IsWrittenOnce [] x) (sym b) nothing_once)

  coded_in : (ks : List ℕ) → list_any (lacks_coding d) ks ≡ false → (k : ℕ) → In k ks → IsCoded d k
  coded_in [] e k i = elim i [ ]
  coded_in (j ∷ ks) e k here = not_off (is_coding (coding_in (sections_at d k))) (off_left (lacks_coding d k) (list_any (lacks_coding d) ks) e)
  coded_in (j ∷ ks) e k (there i) = coded_in ks (off_right (lacks_coding d j) (list_any (lacks_coding d) ks) e) k i

  digits_good : (digits : List ℕ) (rest : List Item) → AreGood (IsCoded d) rest → AreGood (IsCoded d) (map digit_item digits ++ rest)
  digits_good [] rest g = g
  digits_good (digit ∷ digits) rest g = by (nat_eq digit 48) (nat_eq digit 49) (digits_good digits rest g)
    where
      by : (b c : Bool) → AreGood (IsCoded d) (map digit_item digits ++ rest) → AreGood (IsCoded d) (cond b (Fixed false) (cond c (Fixed true) Free) ∷ (map digit_item digits ++ rest))
      by true c h = h
      by false true h = h
      by false false h = h

  module _ (s : IsSound d) where
    all_once : IsFree (not_written d) d → (k : ℕ) → IsWrittenOnce (coding (coding_table d) k) (slice_index_or (coded_syntax d) k [])
    all_once free k = by (coding_in (sections_at d k)) refl
      where
        by : (part : Option CodingTree) → coding_in (sections_at d k) ≡ part → IsWrittenOnce (coding (coding_table d) k) (slice_index_or (coded_syntax d) k [])
        by None is = without_coding k None is refl refl
        by (Some (trees.Root place group)) is = without_coding k (Some (trees.Root place group)) is refl refl
        by (Some (trees.Items all)) is = subst (λ (x : List Element). IsWrittenOnce (coding (coding_table d) k) x) (kept_same k all is) (written_once d k all is s free)

    module _ (widths : ℕ → Option ℕ) (even : IsFree (group_width widths d) d) where
      -- each alternative of an even child has a coding
      alternatives_coded : (o : ℕ) (n : List ℕ) (c : ℕ) → choice_named d o n ≡ Some c → child_uneven widths d o n ≡ false → (k : ℕ) → In k (alternatives_at d c) → IsCoded d k
      alternatives_coded o n c is same =
          let ks = alternatives_at d c in
          let uneven : is_uneven widths d ks ≡ false = sym (ap (choice_uneven widths d) is) ∙ same in
          coded_in ks (off_left (list_any (lacks_coding d) ks) (list_any (λ k. is_too_wide (widths k)) ks || differ (known_widths widths ks)) uneven)

      items_good : (o : ℕ) (all : List CodingItem) → AllByRecursion (FitsItem d o) all → AreFree (group_width widths d) (items_places o all) → AreGood (IsCoded d) (items_of d o all)
      items_good o [] fits free = tt
      items_good o (items.Bits pattern ∷ rest) fits free = digits_good (pattern_digits pattern) (items_of d o rest) (items_good o rest fits.1 free)
      items_good o (items.Field n pattern ∷ rest) fits free = (fits.0.least, items_good o rest fits.1 ((free_both (group_width widths d) (item_places o (items.Field n pattern)) (items_places o rest)).0 free).1)
      items_good o (items.Child n ∷ rest) fits free =
          let both = (free_both (group_width widths d) (item_places o (items.Child n)) (items_places o rest)).0 free in
          let same = even_child _ n (child_uneven widths d o n) (or_left (uneven_fault d o n (child_uneven widths d o n)) None both.0) in
          let is = child_named d s o n fits.0.0 fits.0.1 in
          (λ k i. alternatives_coded o n fits.0.0 is same k (subst (λ (x : Option ℕ). In k (choice_alternatives d x)) is i), items_good o rest fits.1 both.1)

      coding_good : (o : ℕ) → IsCoded d o → AreGood (IsCoded d) (coding (coding_table d) o)
      coding_good o coded = by (coding_in (sections_at d o)) refl
        where
          by : (part : Option CodingTree) → coding_in (sections_at d o) ≡ part → AreGood (IsCoded d) (coding (coding_table d) o)
          by None is = absurd (cc (is, coded))
          by (Some (trees.Root place group)) is = absurd (cc (is, coded))
          by (Some (trees.Items all)) is =
              let stand = coding_stand d o (trees.Items all) is in
              let fits = coding_fits d s.known s.stand s.uses s.widths o (trees.Items all) stand in
              subst (λ (x : List Item). AreGood (IsCoded d) x) (sym (levels.items_at d o ∙ ap (coding_items d o) is))
              (items_good o all fits (free_places (group_width widths d) d even (items_places o all) stand))

      -- each instruction has a coding
      root_coded : (c : ℕ) → IsRootOf d c → (k : ℕ) → In k (alternatives_at d c) → IsCoded d k
      root_coded c r =
          let stand = coding_stand d r.operation (trees.Root r.place r.group) r.is in
          let free = free_places (group_width widths d) d even (coding_places r.operation (trees.Root r.place r.group)) stand in
          let uneven = even_child _ r.group (root_uneven widths d r.operation r.place r.group) (or_left (uneven_fault d r.operation r.group (root_uneven widths d r.operation r.place r.group)) None free) in
          alternatives_coded r.operation r.group c r.chosen (off_left (child_uneven widths d r.operation r.group) (are_apart (place_width d r.place) (child_width widths d r.operation r.group)) uneven)

      instruction_coded : (k : ℕ) → In k (choice_alternatives d (instruction_choice d)) → IsCoded d k
      instruction_coded k i = by (instruction_choice d) refl i
        where
          by : (r : Option ℕ) → instruction_choice d ≡ r → In k (choice_alternatives d r) → IsCoded d k
          by None is j = elim j [ ]
          by (Some c) is j = root_coded c (the_root d c is) k j

      pub form_readable : IsFree (not_written d) d → (o : ℕ) (own t : Form) → Fits AnyValue (coding_table d) (Choose o own t) (instruction_items d) → is_clean (form_symbols (coding_table d) (syntax_table d) o own) ≡ true
          → IsReadable (coding_table d) (syntax_table d) o own
      form_readable free o own t fits clean =
          let table = coding_table d in
          let coded = instruction_coded o fits.0 in
          let n = numbered 0 (owns own) own in
          let fit = fits_numbered table 0 (owns own) own (coding table o) fits.1 in
          let wide = symbols_wide table (IsCoded d) coding_good (syntax_table d) o coded n fit in
          let same = symbols_same table (IsCoded d) coding_good (syntax_table d) (coded_syntax d) agree o coded n fit in
          let r = may_be_compared table (coded_syntax d) (all_once free) o own fits.1 (sym (ap is_clean same) ∙ clean) (subst (λ (x : List (Sym ℕ)). AreWide x) same wide) in
          record {
            clean = clean;
            wide = wide;
            covered = λ i h. subst (λ (x : List (Sym ℕ)). In i (shown_values x)) (sym same) (r.covered i h);
            once = subst (λ (x : List (Sym ℕ)). Distinct (shown_values x)) (sym same) r.once;
          }
