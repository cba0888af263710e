-- The names of forms, part by part.
use Rattle.std.proofs.Common.{◌≡◌, ◌<◌, ◌≤◌, ◌+◌, ◌++◌, ◌∙◌, ℕ, Bool, true, false, cond, List, [], ◌∷◌, length, map, drop, get_or, append_assoc, refl, sym, ap, ap₂}
use Rattle.std.specs.Prelude.{codes}
use Rattle.std.proofs.lemmas.List.{append-nil, drop_more, drop_all}
use Rattle.instruction_forms.specs.declared.form.Field.{Field}
use Rattle.instruction_forms.specs.declared.form.Form.{Form}
use Rattle.instruction_forms.specs.declared.form.Form.TheViews.{out-Form}
use Rattle.instruction_forms.specs.declared.form.Form.TheFolds.{fold_out-Form}
use Rattle.instruction_forms.specs.Trees.{FormTree, FormTrees, Node, End, Then, in_turn, layer_tree, form_tree}
use Rattle.instruction_forms.specs.Naming.{form_text, others}

-- what is left to write of some children, behind the first one or before it
abbrev pub left : (ℕ → List ℕ) → Bool → FormTrees → List ℕ
left names true trees = others names trees
left names false End = []
left names false (Then f rest) = codes "(" ++ form_text names f ++ others names rest

module _ (names : ℕ → List ℕ) where
  whole : (o : ℕ) (trees : FormTrees) (fields : List Field) → names o ++ left names false trees ≡ form_text names (Node o trees fields)
  whole o End fields = append-nil (names o)
  whole o (Then f rest) fields =
      sym (append_assoc (names o) (codes "(" ++ form_text names f) (others names rest))
      ∙ ap (λ (t : List ℕ). t ++ others names rest) (sym (append_assoc (names o) (codes "(") (form_text names f)))

  one_more : (text : List ℕ) (opened : Bool) (f : FormTree) (rest : FormTrees)
      → ((text ++ cond opened 44 40 ∷ []) ++ form_text names f) ++ left names true rest ≡ text ++ left names opened (Then f rest)
  one_more text true f rest =
      ap (λ (t : List ℕ). t ++ others names rest) (append_assoc text (codes ",") (form_text names f))
      ∙ append_assoc text (codes "," ++ form_text names f) (others names rest)
  one_more text false f rest =
      ap (λ (t : List ℕ). t ++ others names rest) (append_assoc text (codes "(") (form_text names f))
      ∙ append_assoc text (codes "(" ++ form_text names f) (others names rest)

  at_end : (opened : Bool) → left names opened End ≡ cond opened (codes ")") []
  at_end true = refl
  at_end false = refl

  pub first_written : (form : Form) (children : List Form) → children ≡ (out-Form form).children.items → (text old : List ℕ) → text ≡ old ++ names (out-Form form).operation
      → text ++ left names false (in_turn (map form_tree children)) ≡ old ++ form_text names (form_tree form)
  first_written form children is text old e =
      ap₂ (λ (t : List ℕ) (fs : List Form). t ++ left names false (in_turn (map form_tree fs))) e is
      ∙ append_assoc old (names (out-Form form).operation) (left names false (in_turn (map form_tree (out-Form form).children.items)))
      ∙ ap (λ (t : List ℕ). old ++ t) (whole (out-Form form).operation (in_turn (map form_tree (out-Form form).children.items)) (out-Form form).fields.items)
      ∙ ap (λ (t : FormTree). old ++ form_text names t) (sym (fold_out-Form FormTree layer_tree form))

  pub next_written : (children : List Form) (i : ℕ) (child : Form) → i < length children → child ≡ get_or children i child
      → (opened : Bool) (mark : ℕ) → mark ≡ cond opened 44 40 → (text marked written : List ℕ) → marked ≡ text ++ mark ∷ [] → written ≡ marked ++ form_text names (form_tree child)
      → written ++ left names true (in_turn (map form_tree (drop (i + 1) children))) ≡ text ++ left names opened (in_turn (map form_tree (drop i children)))
  next_written children i child h is opened mark which text marked written e f =
      let rest = in_turn (map form_tree (drop (i + 1) children)) in
      ap (λ (t : List ℕ). t ++ left names true rest) (f ∙ ap (λ (t : List ℕ). t ++ form_text names (form_tree child)) (e ∙ ap (λ (m : ℕ). text ++ m ∷ []) which))
      ∙ one_more text opened (form_tree child) rest
      ∙ ap (λ (c : Form). text ++ left names opened (in_turn (map form_tree (c ∷ drop (i + 1) children)))) is
      ∙ ap (λ (fs : List Form). text ++ left names opened (in_turn (map form_tree fs))) (sym (drop_more children i child h))

  pub all_written : (children : List Form) (i : ℕ) → length children ≤ i → (opened : Bool) (text : List ℕ)
      → text ++ left names opened (in_turn (map form_tree (drop i children))) ≡ text ++ cond opened (codes ")") []
  all_written children i h opened text =
      ap (λ (fs : List Form). text ++ left names opened (in_turn (map form_tree fs))) (drop_all i children h)
      ∙ ap (λ (t : List ℕ). text ++ t) (at_end opened)
