-- Which words the trees of a form have.
use Rattle.std.proofs.Common.{◌≡◌, ℕ, ◌^◌, ◌<◌, Bool, List, [], ◌∷◌, length, map, Some, None, refl, sym, ap, ap₂, ◌∙◌, subst}
use Rattle.std.specs.Prelude.{◌↔◌}
use Rattle.std.proofs.lemmas.List.{length-map}
use Rattle.instruction_trees.specs.Bits.{digits, Frame, Meets, none, same, free, Has, Covers, pattern_bit, pattern_bits, pattern}
use Rattle.instruction_trees.specs.Trees.{Item, Table, Tree, Done, Pass, Value, Choose, relabel, Form, Fits, IsBelow, AnyValue, bits, form_bits, size, form, placed, slice, tree_at}
use Rattle.instruction_trees.specs.Values.{values}
use Rattle.instruction_trees.specs.Words.{IsWordOf, Overlap, word_of}
use Rattle.instruction_trees.proofs.Numbers.{value_lt, digits_value}
use Rattle.instruction_trees.proofs.Trees.{has_only, has_some, form_has, covered_has, sizes}
use Rattle.instruction_trees.proofs.Weighed.{read_fits, read_form}
use Rattle.instruction_trees.proofs.Relabelled.{bits_relabel, placed_relabel}
use Rattle.instruction_trees.proofs.Numbering.{values_relabel}

pattern_meets : (fs : Frame) → Meets (pattern_bits fs) fs
pattern_meets [] = none
pattern_meets (None ∷ fs) = free (pattern_meets fs)
pattern_meets (Some b ∷ fs) = same (pattern_meets fs)

pub pattern_below : (fs : Frame) → pattern fs < 2 ^ length fs
pattern_below fs = subst (λ (n : ℕ). pattern fs < 2 ^ n) (length-map fs pattern_bit) (value_lt (pattern_bits fs))

pub pattern_has : (fs : Frame) → Has (pattern fs) fs
pattern_has fs = record {
  below = pattern_below fs;
  agrees = subst (λ (bs : List Bool). Meets bs fs) (sym (ap (λ (n : ℕ). digits n (pattern fs)) (sym (length-map fs pattern_bit)) ∙ digits_value (pattern_bits fs))) (pattern_meets fs);
}

pub form_is : (f : Form) → form f ≡ f
form_is Done = refl
form_is (Pass t) = ap (λ (u : Form). Pass u) (form_is t)
form_is (Value v t) = ap (λ (u : Form). Value tt u) (form_is t)
form_is (Choose k own t) = ap₂ (λ (x y : Form). Choose k x y) (form_is own) (form_is t)

module _ (table : Table) (items : List Item) where
  pub only_tree : (t : Tree ℕ) (w : ℕ) → Fits IsBelow table t items → Has w (bits table t items) → t ≡ tree_at table w 0 (form t) items
  only_tree t w fits has = has_only table w t items fits has ∙ ap (λ (u : Tree (ℕ × ℕ)). relabel (slice w) u) (sym (placed_relabel (λ _. tt) table 0 t items))

  pub read_is : (f : Form) (w : ℕ) → Fits AnyValue table f items → form (tree_at table w 0 f items) ≡ f
  read_is f w fits = read_form table w 0 f items fits ∙ form_is f

  pub word_has : (f : Form) (w : ℕ) → IsWordOf table items f w → Has w (form_bits table f items)
  word_has f w is = subst (λ (fs : Frame). Has w fs) (sym (bits_relabel (λ _. tt) table is.tree items) ∙ ap (λ (g : Form). form_bits table g items) is.formed) (form_has table is.tree items w is.has)

  pub has_word : (f : Form) (w : ℕ) → Fits AnyValue table f items → Has w (form_bits table f items) → IsWordOf table items f w
  has_word f w fits has = record { tree = tree_at table w 0 f items; fits = read_fits table w 0 f items fits; formed = read_is f w fits; has = has_some table w f items fits has }

  pub word_iff : (f : Form) (w : ℕ) → Fits AnyValue table f items → IsWordOf table items f w ↔ Has w (form_bits table f items)
  word_iff f w fits = (word_has f w, has_word f w fits)

  pub overlap_iff : (f g : Form) → Fits AnyValue table f items → Fits AnyValue table g items → Overlap table items f g ↔ ((w : ℕ) × Has w (form_bits table f items) × Has w (form_bits table g items))
  overlap_iff f g a b = (
    λ o. (o.word, word_has f o.word o.first, word_has g o.word o.second),
    λ t. record { word = t.0; first = has_word f t.0 a t.1; second = has_word g t.0 b t.2 },
  )

  pub covered_word : (f g : Form) (w : ℕ) → Fits AnyValue table f items → Covers (form_bits table f items) (form_bits table g items) → IsWordOf table items g w → IsWordOf table items f w
  covered_word f g w fits c is = has_word f w fits (covered_has w c (word_has g w is))

  pub covered_tree : (f : Form) (t : Tree ℕ) → Fits AnyValue table f items → Covers (form_bits table f items) (form_bits table t items) → IsWordOf table items f (word_of table t items)
  covered_tree f t fits c = has_word f _ fits (covered_has _ c (form_has table t items _ (pattern_has (bits table t items))))

  pub word_below : (t : Tree ℕ) → word_of table t items < 2 ^ size table t items
  word_below t = subst (λ (n : ℕ). word_of table t items < 2 ^ n) (sizes table t items) (pattern_below (bits table t items))

  pub read_values : (f : Form) (w : ℕ) → values (tree_at table w 0 f items) ≡ map (slice w) (values (placed table 0 f items))
  read_values f w = values_relabel (slice w) (placed table 0 f items)
