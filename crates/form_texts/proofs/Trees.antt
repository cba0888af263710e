-- What a form writes, by its children one after the other.
use Rattle.std.proofs.Common.{◌≡◌, ◌<◌, ◌≤◌, ◌+◌, ◌++◌, ℕ, List, [], ◌∷◌, length, get_or, drop, map, refl, sym, ap, ap₂, ◌∙◌, append_assoc, append-nil, arith}
use Rattle.std.specs.Global.{Vec}
use Rattle.std.specs.List.{flat_map}
use Rattle.std.proofs.Math.ListN.{drop_of_length-le}
use Rattle.std.proofs.lemmas.List.{map-append}
use Rattle.std.specs.Vec.{vec_len}
use Rattle.lisa_tree.specs.Descriptions.{DescriptionTree}
use Rattle.instruction_forms.proofs.description_graph_proofs.Lists as lists
use Rattle.instruction_forms.specs.declared.form.Field.{Field}
use Rattle.instruction_forms.specs.declared.form.Form.{Form, out-Form}
use Rattle.instruction_forms.specs.declared.form.Form.TheFolds.{fold_out-Form}
use Rattle.instruction_forms.specs.Trees.{FormTree, FormTrees, Node, End, Then, in_turn, layer_tree, form_tree}
use Rattle.instruction_texts.specs.Symbols.{Sym, assemble}
use Rattle.form_texts.specs.declared.symbols.Symbol.{Symbol}
use Rattle.form_texts.specs.Syntaxes.{elements_at}
use Rattle.form_texts.specs.Strings.{symbols_of, part_of}
use Rattle.form_texts.specs.declared.strings.Strings.{Strings}
use Rattle.form_texts.specs.Written.{numbered_fields, own_count, field_count, inner_count, inner_of, written_from, written_parts}

pub opened : (x : Form) → form_tree x ≡ Node (out-Form x).operation (in_turn (map form_tree (out-Form x).children.items)) (out-Form x).fields.items
opened x = fold_out-Form FormTree layer_tree x

own_counted : (x : Form) → own_count (form_tree x) ≡ vec_len (out-Form x).fields
own_counted x = ap own_count (opened x) ∙ sym (out-Form x).fields.ok.0

counted : (f : FormTree) → field_count f ≡ own_count f + inner_of f
counted (Node o children fields) = refl

-- ---- one child more

module _ (children : List Form) (i : ℕ) (child : Form) (h : i < length children) (is : child ≡ get_or children i child) (first count behind end : ℕ) (c : count ≡ vec_len (out-Form child).fields) (b : behind ≡ first + count) (n : end ≡ behind + inner_of (form_tree child)) where
  abbrev f : FormTree
  f = form_tree child

  abbrev rest : FormTrees
  rest = in_turn (map form_tree (drop (i + 1) children))

  e : behind ≡ first + own_count f
  e = let o = own_counted child in omega (arith, b, c, o)

  split : in_turn (map form_tree (drop i children)) ≡ Then f rest
  split = ap (λ (xs : List Form). in_turn (map form_tree xs)) (lists.one_more children i child h is)

  next : end ≡ first + field_count f
  next = let a = e in let o = counted f in omega (arith, a, n, o)

  pub counted_on : (total : ℕ) → first + inner_count (in_turn (map form_tree (drop i children))) ≡ total → end + inner_count rest ≡ total
  counted_on total so_far = let c = next in let s = ap inner_count split in omega (arith, c, s, so_far)

  pub written_on : (strings : List Strings) (d : DescriptionTree) (parts more : List (Vec Symbol)) (part : Vec Symbol) (total : List (List (Sym ℕ))) → part_of strings part ≡ written_from d first behind f → more ≡ parts ++ part ∷ []
      → map (part_of strings) parts ++ written_parts d first (in_turn (map form_tree (drop i children))) ≡ total → map (part_of strings) more ++ written_parts d end rest ≡ total
  written_on strings d parts more part total made are so_far =
      let before : List (List (Sym ℕ)) = map (part_of strings) parts in
      ap (λ (x : List (Vec Symbol)). map (part_of strings) x ++ written_parts d end rest) are
      ∙ ap (λ (x : List (List (Sym ℕ))). x ++ written_parts d end rest) (map-append (part_of strings) parts (part ∷ []))
      ∙ append_assoc before (part_of strings part ∷ []) (written_parts d end rest)
      ∙ ap₂ (λ (x : List (Sym ℕ)) (k : ℕ). before ++ (x ∷ written_parts d k rest)) (made ∙ ap (λ (k : ℕ). written_from d first k f) e) next
      ∙ ap (λ (x : FormTrees). before ++ written_parts d first x) (sym split)
      ∙ so_far

-- ---- all children

module _ (x : Form) (children : List Form) (are : children ≡ (out-Form x).children.items) (i : ℕ) (past : length children ≤ i) where
  none_left : in_turn (map form_tree (drop i children)) ≡ End
  none_left = ap (λ (xs : List Form). in_turn (map form_tree xs)) (drop_of_length-le children past)

  pub inner_counted : (first end : ℕ) → end + inner_count (in_turn (map form_tree (drop i children))) ≡ first + inner_count (in_turn (map form_tree children)) → end ≡ first + inner_of (form_tree x)
  inner_counted first end e =
      let o = ap inner_of (opened x) in
      let c = ap (λ (xs : List Form). inner_count (in_turn (map form_tree xs))) are in
      let s = ap inner_count none_left in
      omega (arith, e, o, c, s)

  -- where the fields and the parts are those of the form
  pub all_written : (d : DescriptionTree) (strings : List Strings) (own first end : ℕ) (parts whole : List (Vec Symbol)) → whole ≡ parts
      → map (part_of strings) parts ++ written_parts d end (in_turn (map form_tree (drop i children))) ≡ written_parts d first (in_turn (map form_tree children))
      → (fields : List Field) → fields ≡ (out-Form x).fields.items
      → (made : List Symbol) → flat_map (symbols_of strings) made ≡ assemble (numbered_fields own fields) (map (part_of strings) whole) (elements_at d (out-Form x).operation) → flat_map (symbols_of strings) made ≡ written_from d own first (form_tree x)
  all_written d strings own first end parts whole same e fields fields_are made is =
      let o = (out-Form x).operation in
      let inner : FormTrees = in_turn (map form_tree (out-Form x).children.items) in
      let none : written_parts d end (in_turn (map form_tree (drop i children))) ≡ [] = ap (written_parts d end) none_left in
      let parts_are : map (part_of strings) whole ≡ written_parts d first inner =
      ap (map (part_of strings)) same ∙ sym (append-nil (map (part_of strings) parts)) ∙ ap (λ (ps : List (List (Sym ℕ))). map (part_of strings) parts ++ ps) (sym none) ∙ e
      ∙ ap (λ (xs : List Form). written_parts d first (in_turn (map form_tree xs))) are in
      is
      ∙ ap (λ (fs : List Field). assemble (numbered_fields own fs) (map (part_of strings) whole) (elements_at d o)) fields_are
      ∙ ap (λ (ps : List (List (Sym ℕ))). assemble (numbered_fields own (out-Form x).fields.items) ps (elements_at d o)) parts_are
      ∙ ap (written_from d own first) (sym (opened x))
