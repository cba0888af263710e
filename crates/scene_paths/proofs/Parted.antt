-- The children and the own fields of a form, as they are kept.
use Rattle.std.proofs.Common.{◌≡◌, ◌<◌, ◌+◌, ◌∙◌, ℕ, zero, suc, Bool, true, false, cond, List, [], ◌∷◌, Option, Some, length, get_or, map, drop, refl, sym, ap, subst, arith}
use Rattle.std.specs.Prelude.{find, slice_get, option_map}
use Rattle.std.specs.List.{All}
use Rattle.std.proofs.lemmas.Option.{same_Some}
use Rattle.lisa_tree.specs.Same.{same_name}
use Rattle.description_tables.proofs.Lists.{one_more}
use Rattle.lisa_meaning.specs.instruction_forms.declared.form.Field.{Field}
use Rattle.lisa_meaning.specs.instruction_forms.declared.form.Form.{Form}
use Rattle.lisa_meaning.specs.instruction_forms.declared.form.Form.TheViews.{out-Form}
use Rattle.lisa_meaning.specs.instruction_forms.declared.form.Form.TheFolds.{fold_out-Form}
use Rattle.lisa_meaning.specs.instruction_forms.Trees.{FormTree, in_turn, layer_tree, form_tree}
use Rattle.lisa_meaning.specs.lisa_forms.Choosing.{tree_at, child_at}
use Rattle.lisa_meaning.specs.Values.{fields_of, field_value, label_value}
use Rattle.scene_paths.specs.Spans.{IsField, HasFields}
use Rattle.scene_paths.proofs.Wide.{own_fields}

trees_at : (fs : List Form) (i : ℕ) → tree_at (in_turn (map form_tree fs)) i ≡ option_map form_tree (slice_get fs i)
trees_at [] i = refl
trees_at (f ∷ fs) zero = refl
trees_at (f ∷ fs) (suc i) = trees_at fs i

pub child_is : (part : Form) (children : List Form) → children ≡ (out-Form part).children.items → (i : ℕ) → child_at (form_tree part) i ≡ option_map form_tree (slice_get children i)
child_is part children is i =
    ap (λ (t : FormTree). child_at t i) (fold_out-Form FormTree layer_tree part)
    ∙ ap (λ (fs : List Form). tree_at (in_turn (map form_tree fs)) i) (sym is)
    ∙ trees_at children i

pub form_own : (part : Form) (own : List Field) → own ≡ (out-Form part).fields.items → HasFields (form_tree part) → All IsField own
form_own part own is fits =
    subst (λ (fs : List Field). All IsField fs) (sym is)
    (own_fields (out-Form part).operation (in_turn (map form_tree (out-Form part).children.items)) (out-Form part).fields.items (subst HasFields (fold_out-Form FormTree layer_tree part) fits))

pub found_fits : (p : Field → Bool) (all : List Field) (x : Field) → All IsField all → find p all ≡ Some x → IsField x
found_fits p [] x fit e = absurd (cc e)
found_fits p (y ∷ rest) x fit e = by (p y) e (found_fits p rest x (λ k z h. fit (suc k) z (omega (arith, h))))
  where
    by : (b : Bool) → cond b (Some y) (find p rest) ≡ Some x → (find p rest ≡ Some x → IsField x) → IsField x
    by true is later = subst IsField (same_Some y x is) (fit 0 x (omega arith))
    by false is later = later is

pub label_is : (part : Form) (own : List Field) (n : List ℕ) (word : ℕ) (found : Option Field) → own ≡ (out-Form part).fields.items → found ≡ find (λ (field : Field). same_name n field.label) own → field_value word found ≡ label_value n word (Some (form_tree part))
label_is part own n word found is e =
    ap (field_value word) (e ∙ ap (find (λ (field : Field). same_name n field.label)) (is ∙ sym (ap fields_of (fold_out-Form FormTree layer_tree part))))

-- the first field of a name, from one on
pub find_next : (n : List ℕ) (all : List Field) (i : ℕ) (x : Field) → i < length all → x ≡ get_or all i x
    → find (λ (field : Field). same_name n field.label) (drop i all) ≡ cond (same_name n x.label) (Some x) (find (λ (field : Field). same_name n field.label) (drop (i + 1) all))
find_next n all i x h is = ap (find (λ (field : Field). same_name n field.label)) (one_more all i x h is)
