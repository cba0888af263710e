-- Going over the items of a form's operation.
use Rattle.std.proofs.Common.{◌≡◌, ◌<◌, ◌≤◌, ◌+◌, ◌++◌, ℕ, zero, suc, List, [], ◌∷◌, None, length, map, drop, get_or, replicate, refl, sym, ap, ◌∙◌, subst, arith}
use Rattle.instruction_forms.proofs.description_graph_proofs.Lists.{one_more}
use Rattle.lisa_tree.specs.declared.descriptions.Pattern.{Pattern}
use Rattle.lisa_tree.specs.declared.descriptions.CodingItem.{CodingItem}
use Rattle.lisa_tree.specs.declared.descriptions.CodingItem.TheVariants as items
use Rattle.lisa_tree.specs.Descriptions.{DescriptionTree}
use Rattle.instruction_forms.specs.coded_names.Codings.{pattern_width}
use Rattle.instruction_forms.specs.coding_tables.Codings.{items_of}
use Rattle.instruction_trees.specs.Bits.{Frame}
use Rattle.instruction_forms.specs.declared.form.Form.{Form, out-Form}
use Rattle.instruction_forms.specs.Trees.{FormTree, form_tree, in_turn}
use Rattle.instruction_forms.specs.Described.{items_at}
use Rattle.pattern_tables.specs.declared.bit_pattern.BitPattern.{BitPattern}
use Rattle.form_patterns.specs.Frames.{pattern_frame, items_frame, tree_frame, trees_frames, Adds}
use Rattle.form_patterns.proofs.Adding.{Leads, leads_on, leads_end, no_digits}
use Rattle.form_patterns.proofs.Views.{trees, next_tree}
use Rattle.form_patterns.proofs.Framing.{rest_frame, at_bits, frame_is}

module _ (d : DescriptionTree) (o : ℕ) (kids : List Form) (all : List CodingItem) (i : ℕ) (item : CodingItem) (within : i < length all) (at : item ≡ get_or all i item)
    (whole : Frame) (p q : BitPattern) (place : ℕ) (lead : Leads p whole q (rest_frame d o (drop i all) (drop place kids))) where
  -- the items from here on, where this one is known
  with_item : (known : CodingItem) → item ≡ known → drop i all ≡ known ∷ drop (i + 1) all
  with_item known is = one_more all i item within at ∙ ap (λ (x : CodingItem). x ∷ drop (i + 1) all) is

  -- past an item with these bits
  past : (part : Frame) (r s : BitPattern) (k : ℕ) → s ≡ r → rest_frame d o (drop i all) (drop place kids) ≡ part ++ rest_frame d o (drop (i + 1) all) (drop k kids) → Adds q part r
      → Leads p whole s (rest_frame d o (drop (i + 1) all) (drop k kids))
  past part r s k same is a = leads_on p q s whole part (rest_frame d o (drop i all) (drop place kids)) (rest_frame d o (drop (i + 1) all) (drop k kids)) lead is (subst (λ (x : BitPattern). Adds q part x) (sym same) a)

  pub past_bits : (pattern : Pattern) (r s : BitPattern) (k : ℕ) → item ≡ items.Bits pattern → k ≡ place → s ≡ r → Adds q (pattern_frame pattern) r
      → Leads p whole s (rest_frame d o (drop (i + 1) all) (drop k kids))
  past_bits pattern r s k is stays same a =
      past (pattern_frame pattern) r s k same
      (ap (λ (xs : List CodingItem). rest_frame d o xs (drop place kids)) (with_item (items.Bits pattern) is)
      ∙ at_bits d o pattern (drop (i + 1) all) (drop place kids)
      ∙ ap (λ (m : ℕ). pattern_frame pattern ++ rest_frame d o (drop (i + 1) all) (drop m kids)) (sym stays))
      a

  pub past_field : (n : List ℕ) (pattern : Pattern) (w : ℕ) (r s : BitPattern) (k : ℕ) → item ≡ items.Field n pattern → w ≡ pattern_width pattern → k ≡ place → s ≡ r → Adds q (replicate w None) r
      → Leads p whole s (rest_frame d o (drop (i + 1) all) (drop k kids))
  past_field n pattern w r s k is wide stays same a =
      past (replicate w None) r s k same
      (ap (λ (xs : List CodingItem). rest_frame d o xs (drop place kids)) (with_item (items.Field n pattern) is)
      ∙ ap (λ (m : ℕ). replicate m None ++ rest_frame d o (drop (i + 1) all) (drop place kids)) (sym wide)
      ∙ ap (λ (m : ℕ). replicate w None ++ rest_frame d o (drop (i + 1) all) (drop m kids)) (sym stays))
      a

  pub past_child : (n : List ℕ) (child : Form) (list : List Form) (r s : BitPattern) (k : ℕ) → item ≡ items.Child n → list ≡ kids → place < length list → child ≡ get_or list place child → k ≡ place + 1 → s ≡ r → Adds q (tree_frame d (form_tree child)) r
      → Leads p whole s (rest_frame d o (drop (i + 1) all) (drop k kids))
  past_child n child list r s k is these there is_child next same a =
      past (tree_frame d (form_tree child)) r s k same
      (ap (λ (xs : List CodingItem). rest_frame d o xs (drop place kids)) (with_item (items.Child n) is)
      ∙ ap (λ (cs : List Form). rest_frame d o (items.Child n ∷ drop (i + 1) all) (drop place cs)) (sym these)
      ∙ ap (λ cs. items_frame (items_of d o (items.Child n ∷ drop (i + 1) all)) (trees_frames d cs)) (next_tree list place child there is_child)
      ∙ ap (λ (cs : List Form). tree_frame d (form_tree child) ++ rest_frame d o (drop (i + 1) all) (drop (place + 1) cs)) these
      ∙ ap (λ (m : ℕ). tree_frame d (form_tree child) ++ rest_frame d o (drop (i + 1) all) (drop m kids)) (sym next))
      a

  pub past_last : (n : List ℕ) (list : List Form) (s : BitPattern) (k : ℕ) → item ≡ items.Child n → list ≡ kids → length list ≤ place → k ≡ place → s ≡ q
      → Leads p whole s (rest_frame d o (drop (i + 1) all) (drop k kids))
  past_last n list s k is these past_end stays same =
      let none : map form_tree (drop place kids) ≡ [] = ap (λ (cs : List Form). map form_tree (drop place cs)) (sym these) ∙ no_digits form_tree list place past_end in
      let e : rest_frame d o (drop i all) (drop place kids) ≡ rest_frame d o (drop (i + 1) all) (drop k kids) =
      ap (λ (xs : List CodingItem). rest_frame d o xs (drop place kids)) (with_item (items.Child n) is)
      ∙ ap (λ (ts : List FormTree). items_frame (items_of d o (items.Child n ∷ drop (i + 1) all)) (trees_frames d (in_turn ts))) none
      ∙ ap (λ (ts : List FormTree). items_frame (items_of d o (drop (i + 1) all)) (trees_frames d (in_turn ts))) (sym none)
      ∙ ap (λ (m : ℕ). rest_frame d o (drop (i + 1) all) (drop m kids)) (sym stays)
      in
      λ r a. lead r (subst (λ (fs : Frame). Adds q fs r) (sym e) (subst (λ (x : BitPattern). Adds x (rest_frame d o (drop (i + 1) all) (drop k kids)) r) same a))

-- past all items
pub all_added : (d : DescriptionTree) (f : Form) (all : List CodingItem) (i place : ℕ) (p q : BitPattern) → all ≡ items_at d (out-Form f).operation → length all ≤ i
    → Leads p (rest_frame d (out-Form f).operation all (out-Form f).children.items) q (rest_frame d (out-Form f).operation (drop i all) (drop place (out-Form f).children.items))
    → Adds p (tree_frame d (form_tree f)) q
all_added d f all i place p q is past lead =
    let o = (out-Form f).operation in
    let kids = (out-Form f).children.items in
    let whole : rest_frame d o all kids ≡ tree_frame d (form_tree f) = ap (λ (xs : List CodingItem). rest_frame d o xs kids) is ∙ sym (frame_is d f) in
    subst (λ (fs : Frame). Adds p fs q) whole (leads_end p q (rest_frame d o all kids) (rest_frame d o (drop i all) (drop place kids)) lead (none all i past (trees_frames d (trees (drop place kids)))))
  where
    none : (xs : List CodingItem) (j : ℕ) → length xs ≤ j → (frames : List Frame) → items_frame (items_of d (out-Form f).operation (drop j xs)) frames ≡ []
    none [] zero h frames = refl
    none [] (suc j) h frames = refl
    none (x ∷ xs) zero h frames = absurd (omega arith)
    none (x ∷ xs) (suc j) h frames = none xs j (omega arith) frames
