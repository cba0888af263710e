-- Masks and patterns for all forms of a description.
use Rattle.std.proofs.Common.{Bool, take, get_or, ◌≡◌, ◌<◌, ◌≤◌, ◌+◌, ◌++◌, ℕ, zero, suc, List, [], ◌∷◌, Option, Some, None, length, map, refl, sym, ap, ◌∙◌, subst, arith}
use Rattle.std.specs.Prelude.{slice_index_or}
use Rattle.std.specs.List.{AllByRecursion}
use Rattle.lisa_tree.specs.Descriptions.{DescriptionTree}
use Rattle.lisa_tree.specs.Operations.{is_alias}
use Rattle.lisa_tree.specs.Paths.{node_count}
use Rattle.instruction_trees.specs.Bits.{Frame}
use Rattle.instruction_trees.specs.Trees.{Form, Fits, AnyValue, In, here, there, form_bits, is_plain, instructions}
use Rattle.instruction_trees.specs.Forms.{forms}
use Rattle.instruction_trees.proofs.Listing.{forms_fit}
use Rattle.instruction_forms.specs.coding_tables.Codings.{choice_alternatives, coding_table}
use Rattle.instruction_forms.specs.coding_tables.Instructions.{instruction_choice, instruction_items, forms_of}
use Rattle.instruction_forms.specs.declared.form.Form as made
use Rattle.instruction_forms.specs.Trees.{FormTree, form_tree, is_plain_tree}
use Rattle.instruction_forms.specs.Described.{instruction_form, AreForms}
use Rattle.instruction_forms.specs.Widths.{HasWidth}
use Rattle.instruction_forms.proofs.Wide.{whole_width, small_width, whole_plain}
use Rattle.pattern_tables.specs.declared.bit_pattern.BitPattern.{BitPattern}
use Rattle.pattern_tables.specs.Patterns.{Stands, AllStand, frame_at}
use Rattle.pattern_tables.specs.Instructions.{frames_of}
use Rattle.form_patterns.specs.Frames.{tree_frame, Adds, StandsFor}
use Rattle.form_patterns.specs.Instructions.{instruction_frames, instruction_plain, ArePatterns}
use Rattle.form_patterns.proofs.Framing.{whole_framed}
use Rattle.form_patterns.proofs.Listing.{all_made, one_made, map_both, map_same}

-- what is added to nothing stands alone
pub stands_alone : (p q : BitPattern) (fs : Frame) → p.mask ≡ 0 → p.pattern ≡ 0 → Adds p fs q → StandsFor fs q
stands_alone p q fs m n a = λ h. a.stands [] (omega (arith, h)) (record { wide = refl; masked = m; patterned = n })

-- each stands for a frame of no more than 64 bits
abbrev pub StandForAll : List Frame → List BitPattern → Type 0
StandForAll [] [] = Unit {0}
StandForAll (fs ∷ frames) (p ∷ ps) = StandsFor fs p × StandForAll frames ps
StandForAll _ _ = ⊥

pub one_stands : (frames : List Frame) (ps : List BitPattern) (fs : Frame) (p : BitPattern) → StandForAll frames ps → StandsFor fs p → StandForAll (frames ++ (fs ∷ [])) (ps ++ (p ∷ []))
one_stands [] [] fs p all s = (s, tt)
one_stands (gs ∷ frames) (q ∷ ps) fs p all s = (all.0, one_stands frames ps fs p all.1 s)
one_stands [] (q ∷ ps) fs p all s = absurd all
one_stands (gs ∷ frames) [] fs p all s = absurd all

-- ---- frames of one width

module _ (w : ℕ) (small : w ≤ 64) where
  stand_level : (frames : List Frame) (ps : List BitPattern) → StandForAll frames ps → length frames ≡ length ps
  stand_level [] [] all = refl
  stand_level (fs ∷ frames) (p ∷ ps) all = ap suc (stand_level frames ps all.1)
  stand_level [] (p ∷ ps) all = absurd all
  stand_level (fs ∷ frames) [] all = absurd all

  stand_each : (frames : List Frame) (ps : List BitPattern) → AllByRecursion (λ fs. length fs ≡ w) frames → StandForAll frames ps
      → (k : ℕ) (e : BitPattern) → k < length ps → Stands w (frame_at frames k) (slice_index_or ps k e)
  stand_each [] [] wide all k e h = absurd (omega arith)
  stand_each (fs ∷ frames) (p ∷ ps) wide all zero e h = subst (λ (n : ℕ). Stands n fs p) wide.0 (all.0 (let l = wide.0 in omega (arith, l, small)))
  stand_each (fs ∷ frames) (p ∷ ps) wide all (suc k) e h = stand_each frames ps wide.1 all.1 k e (omega arith)
  stand_each [] (p ∷ ps) wide all k e h = absurd all
  stand_each (fs ∷ frames) [] wide all k e h = absurd all

  pub all_stand : (frames : List Frame) (ps : List BitPattern) → AllByRecursion (λ fs. length fs ≡ w) frames → StandForAll frames ps → AllStand w frames ps
  all_stand frames ps wide all = record { level = stand_level frames ps all; each = stand_each frames ps wide all }

-- ---- the forms of a description

module _ (d : DescriptionTree) where
  pub all_fit : (f : Form) → In f (forms_of d) → Fits AnyValue (coding_table d) f (instruction_items d)
  all_fit f i = forms_fit (coding_table d) (suc (node_count d)) (instruction_items d) f i

  pub frames_are : map (tree_frame d) (map (instruction_form d) (forms_of d)) ≡ instruction_frames d
  frames_are =
      sym (map_both (instruction_form d) (tree_frame d) (forms_of d))
      ∙ map_same (λ f. tree_frame d (instruction_form d f)) (λ f. form_bits (coding_table d) f (instruction_items d)) (forms_of d) (λ f i. whole_framed d f (all_fit f i))

  all_wide : (w : ℕ) (fs : List Form) → ((f : Form) → In f fs → length (form_bits (coding_table d) f (instruction_items d)) ≡ w) → AllByRecursion (λ gs. length gs ≡ w) (frames_of (coding_table d) (instruction_items d) fs)
  all_wide w [] h = tt
  all_wide w (f ∷ fs) h = (h f here, all_wide w fs (λ g i. h g (there i)))

  none_listed : instruction_choice d ≡ None → instruction_frames d ≡ []
  none_listed is = ap (λ (c : Option ℕ). frames_of (coding_table d) (instructions (choice_alternatives d c)) (forms (suc (node_count d)) (coding_table d) (instructions (choice_alternatives d c)))) is

  pub are_patterns : (ps : List BitPattern) → StandForAll (instruction_frames d) ps → (width : Option ℕ) → HasWidth d width → ArePatterns d width ps
  are_patterns ps all None none =
      let e = none_listed none in
      subst (λ (frames : List Frame). AllStand 0 frames ps) (sym e) (all_stand 0 (omega arith) [] ps tt (subst (λ (frames : List Frame). StandForAll frames ps) e all))
  are_patterns ps all (Some w) (c, is, wide) =
      all_stand w (small_width d c w is wide) (instruction_frames d) ps (all_wide w (forms_of d) (λ f i. whole_width d c w is wide f (all_fit f i))) all

  -- what is made of each form is made of all
  made_all : {Y : Type 0} (f : FormTree → Y) (all : List made.Form) (i : ℕ) → AreForms d all → length all ≤ i → map (λ x. f (form_tree x)) (take i all) ≡ map f (map (instruction_form d) (forms_of d))
  made_all f all i are past = all_made (λ x. f (form_tree x)) all i past ∙ map_both form_tree f all ∙ ap (map f) are

  pub patterns_made : (all : List made.Form) (i : ℕ) (ps : List BitPattern) → AreForms d all → length all ≤ i → StandForAll (map (λ x. tree_frame d (form_tree x)) (take i all)) ps
      → (width : Option ℕ) → HasWidth d width → ArePatterns d width ps
  patterns_made all i ps are past s = are_patterns ps (subst (λ (frames : List Frame). StandForAll frames ps) (made_all (tree_frame d) all i are past ∙ frames_are) s)

  pub plain_made : (all : List made.Form) (i : ℕ) (bs : List Bool) → AreForms d all → length all ≤ i → bs ≡ map (λ x. is_plain_tree (is_alias d) (form_tree x)) (take i all) → bs ≡ instruction_plain d
  plain_made all i bs are past is =
      is ∙ made_all (is_plain_tree (is_alias d)) all i are past
      ∙ sym (map_both (instruction_form d) (is_plain_tree (is_alias d)) (forms_of d))
      ∙ map_same (λ f. is_plain_tree (is_alias d) (instruction_form d f)) (λ f. is_plain (is_alias d) f) (forms_of d) (λ f i. whole_plain (is_alias d) d f (all_fit f i))

  pub patterns_more : (all : List made.Form) (i : ℕ) (x : made.Form) (ps qs : List BitPattern) (p : BitPattern) → i < length all → x ≡ get_or all i x → qs ≡ ps ++ (p ∷ []) → StandsFor (tree_frame d (form_tree x)) p
      → StandForAll (map (λ y. tree_frame d (form_tree y)) (take i all)) ps → StandForAll (map (λ y. tree_frame d (form_tree y)) (take (i + 1) all)) qs
  patterns_more all i x ps qs p within is more one so_far =
      let f : made.Form → Frame = λ y. tree_frame d (form_tree y) in
      let s = one_stands (map f (take i all)) ps (f x) p so_far one in
      subst (λ (rs : List BitPattern). StandForAll (map f (take (i + 1) all)) rs) (sym more) (subst (λ (frames : List Frame). StandForAll frames (ps ++ (p ∷ []))) (sym (one_made f all i x within is)) s)
