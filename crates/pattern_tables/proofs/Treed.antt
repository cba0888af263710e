-- From frames back to the trees of forms.
use Rattle.std.proofs.Common.{◌≡◌, ℕ, ◌<◌, Bool, true, false, List, [], length, Some, None, sym, ap, ◌∙◌, subst, arith, inl, inr}
use Rattle.std.specs.Prelude.{slice_index_or}
use Rattle.std.proofs.lemmas.Bool.{cases_Bool, cases_order}
use Rattle.std.proofs.lemmas.List.{get_or-map, length-map}
use Rattle.instruction_trees.specs.Bits.{Frame, Has}
use Rattle.instruction_trees.specs.Trees.{Table, Tree, Done, Item, Form, In, bits, form_bits, form, is_plain, tree_at}
use Rattle.instruction_trees.specs.Words.{IsWordOf, Overlap, word_of}
use Rattle.instruction_trees.proofs.Trees.{has_some, form_has, covered_has}
use Rattle.instruction_trees.proofs.Weighed.{read_fits}
use Rattle.instruction_trees.proofs.Relabelled.{plain_relabel, bits_relabel}
use Rattle.instruction_trees.proofs.FormWords.{read_is, only_tree, has_word, pattern_has}
use Rattle.pattern_tables.specs.declared.overlaps.Overlap.{Overlap as FirstOverlap}
use Rattle.pattern_tables.specs.Patterns.{frame_at, IsPlain}
use Rattle.pattern_tables.specs.Overlaps.{AnswersOverlap, AnswersUncovered}
use Rattle.pattern_tables.specs.Tables.{IsDecoded}
use Rattle.pattern_tables.specs.Instructions.{form_at, frames_of, plain_of, AllFit, IsListed, IsPlainTree}
use Rattle.pattern_tables.proofs.Decoding.{in_place, place_in}

module _ (table : Table) (items : List Item) (aliases : ℕ → Bool) (forms : List Form) where
  frame_is : (k : ℕ) → k < length forms → frame_at (frames_of table items forms) k ≡ form_bits table (form_at forms k) items
  frame_is k h = get_or-map (λ (f : Form). form_bits table f items) forms k Done [] h

  plain_is : (k : ℕ) (d : Bool) → k < length forms → slice_index_or (plain_of aliases forms) k d ≡ is_plain aliases (form_at forms k)
  plain_is k d h = get_or-map (λ (f : Form). is_plain aliases f) forms k Done d h

  inside : (k : ℕ) → k < length (frames_of table items forms) → k < length forms
  inside k h = subst (λ (n : ℕ). k < n) (length-map forms (λ (f : Form). form_bits table f items)) h

  outside : (k : ℕ) → k < length forms → k < length (frames_of table items forms)
  outside k h = subst (λ (n : ℕ). k < n) (sym (length-map forms (λ (f : Form). form_bits table f items))) h

  -- the place of a tree's form
  record At (t : Tree ℕ) : Type 0 where
    place : ℕ
    within : place < length forms
    is : form_at forms place ≡ form t

  at : (t : Tree ℕ) → In (form t) forms → At t
  at t i = let p = in_place i in record { place = p.0; within = p.1; is = p.2 Done }

  frame_has : (t : Tree ℕ) (w : ℕ) (a : At t) → Has w (bits table t items) → Has w (frame_at (frames_of table items forms) a.place)
  frame_has t w a has =
      subst (λ (fs : Frame). Has w fs) (sym (bits_relabel (λ _. tt) table t items) ∙ sym (ap (λ (f : Form). form_bits table f items) a.is) ∙ sym (frame_is a.place a.within)) (form_has table t items w has)

  same_plain : (t : Tree ℕ) (d : Bool) (a : At t) → slice_index_or (plain_of aliases forms) a.place d ≡ is_plain aliases t
  same_plain t d a = plain_is a.place d a.within ∙ ap (λ (f : Form). is_plain aliases f) a.is ∙ plain_relabel (λ _. tt) aliases t

  -- ---- decoding

  pub decoded_tree : (w k : ℕ) → AllFit table items forms → IsDecoded (frames_of table items forms) (plain_of aliases forms) w (Some k) → IsPlainTree table items aliases forms w (tree_at table w 0 (form_at forms k) items)
  decoded_tree w k fit is =
      let f = form_at forms k in
      let within = inside k is.0 in
      let listed : In f forms = place_in forms k Done within in
      let fits = fit f listed in
      let has : Has w (form_bits table f items) = subst (λ (fs : Frame). Has w fs) (frame_is k within) is.2 in
      let formed = read_is table items f w fits in
      record {
        of_form = record { fits = read_fits table w 0 f items fits; listed = subst (λ (g : Form). In g forms) (sym formed) listed };
        is_plain = sym (plain_relabel (λ _. tt) aliases (tree_at table w 0 f items)) ∙ ap (λ (g : Form). is_plain aliases g) formed ∙ sym (plain_is k false within) ∙ is.1;
        has = has_some table w f items fits has;
      }

  pub decoded_form : (w k : ℕ) → AllFit table items forms → IsDecoded (frames_of table items forms) (plain_of aliases forms) w (Some k) → form (tree_at table w 0 (form_at forms k) items) ≡ form_at forms k
  decoded_form w k fit is = read_is table items (form_at forms k) w (fit (form_at forms k) (place_in forms k Done (inside k is.0)))

  -- two plain forms with one word are one
  one_place : (w i j : ℕ) → AnswersOverlap (frames_of table items forms) (plain_of aliases forms) None → i < length forms → j < length forms
      → IsPlain (plain_of aliases forms) i → IsPlain (plain_of aliases forms) j → Has w (frame_at (frames_of table items forms) i) → Has w (frame_at (frames_of table items forms) j) → i ≡ j
  one_place w i j apart a b p q f g = elim (cases_order i j) [
    | inl e ↦ e
    | inr o ↦ (elim o [
      | inl less ↦ absurd (apart i j w (record { order = less; within = outside j b; first = p; second = q; one = f; other = g }))
      | inr more ↦ absurd (apart j i w (record { order = more; within = outside i a; first = q; second = p; one = g; other = f }))
    ])
  ]

  tree_there : (w k : ℕ) → AnswersOverlap (frames_of table items forms) (plain_of aliases forms) None → k < length forms → IsPlain (plain_of aliases forms) k → Has w (frame_at (frames_of table items forms) k)
      → (t : Tree ℕ) → IsPlainTree table items aliases forms w t → t ≡ tree_at table w 0 (form_at forms k) items
  tree_there w k apart within plain has t is =
      let a = at t is.of_form.listed in
      let same = one_place w a.place k apart a.within within (same_plain t false a ∙ is.is_plain) plain (frame_has t w a is.has) has in
      only_tree table items t w is.of_form.fits is.has ∙ ap (λ (f : Form). tree_at table w 0 f items) (sym a.is ∙ ap (form_at forms) same)

  pub only_decoded : (w k : ℕ) → AnswersOverlap (frames_of table items forms) (plain_of aliases forms) None → IsDecoded (frames_of table items forms) (plain_of aliases forms) w (Some k)
      → (t : Tree ℕ) → IsPlainTree table items aliases forms w t → t ≡ tree_at table w 0 (form_at forms k) items
  only_decoded w k apart is t tree = tree_there w k apart (inside k is.0) is.1 is.2 t tree

  pub none_decoded : (w : ℕ) → IsDecoded (frames_of table items forms) (plain_of aliases forms) w None → (t : Tree ℕ) → IsPlainTree table items aliases forms w t → ⊥
  none_decoded w absent t is =
      let a = at t is.of_form.listed in
      absent a.place (outside a.place a.within) (same_plain t false a ∙ is.is_plain) (frame_has t w a is.has)

  -- ---- overlaps

  form_word : (w k : ℕ) → AllFit table items forms → k < length forms → Has w (frame_at (frames_of table items forms) k) → IsWordOf table items (form_at forms k) w
  form_word w k fit within has = has_word table items (form_at forms k) w (fit (form_at forms k) (place_in forms k Done within)) (subst (λ (fs : Frame). Has w fs) (frame_is k within) has)

  pub overlap_of_trees : (o : FirstOverlap) → AllFit table items forms → AnswersOverlap (frames_of table items forms) (plain_of aliases forms) (Some o) → Overlap table items (form_at forms o.first) (form_at forms o.second)
  overlap_of_trees o fit is =
      let within = inside o.second is.overlap.within in
      let order = is.overlap.order in
      record { word = o.word; first = form_word o.word o.first fit (omega arith) is.overlap.one; second = form_word o.word o.second fit within is.overlap.other }

  pub one_plain_tree : (w : ℕ) → AnswersOverlap (frames_of table items forms) (plain_of aliases forms) None → (t u : Tree ℕ) → IsPlainTree table items aliases forms w t → IsPlainTree table items aliases forms w u → t ≡ u
  one_plain_tree w apart t u is other =
      let a = at u other.of_form.listed in
      let plain = same_plain u false a ∙ other.is_plain in
      let has = frame_has u w a other.has in
      tree_there w a.place apart a.within plain has t is ∙ sym (tree_there w a.place apart a.within plain has u other)

  -- ---- covers

  pub decoded_word : (t : Tree ℕ) → AnswersUncovered (frames_of table items forms) (plain_of aliases forms) None → IsListed table items forms t
      → IsDecoded (frames_of table items forms) (plain_of aliases forms) (word_of table t items) None → ⊥
  decoded_word t covered is absent =
      let a = at t is.listed in
      let w = word_of table t items in
      let has = frame_has t w a (pattern_has (bits table t items)) in
      elim (cases_Bool (is_plain aliases t)) [
        | inl plain ↦ absent a.place (outside a.place a.within) (same_plain t false a ∙ plain) has
        | inr alias ↦ (let c = covered a.place (outside a.place a.within) (same_plain t true a ∙ alias) in absent c.by_form c.within c.is_plain (covered_has w c.covers has))
      ]
