-- From values in preorder to the text of a tree with them.
use Rattle.std.proofs.Common.{◌≡◌, ◌<◌, ◌≤◌, ◌+◌, ◌++◌, ℕ, zero, suc, List, [], ◌∷◌, Some, length, get_or, map, take, refl, sym, ap, ap₂, ◌∙◌, subst, arith}
use Rattle.std.specs.Prelude.{Vec, Result, Ok, Err, IfOk}
use Rattle.std.specs.Global.{Global}
use Rattle.std.specs.List.{All}
use Rattle.std.proofs.lemmas.List.{map_push, take_more}
use Rattle.std.proofs.lemmas.Option.{slice_get-get_or}
use Rattle.lisa_tree.specs.Descriptions.{DescriptionTree}
use Rattle.instruction_trees.specs.Trees.{Tree, Form, Choose, In}
use Rattle.lisa_forms.specs.coding_tables.Instructions.{forms_of}
use Rattle.lisa_forms.specs.form_patterns.Filled.{AreValuesOf, IsInstruction}
use Rattle.lisa_forms.proofs.form_patterns_proofs.Filling.{nth, instruction_of}
use Rattle.instruction_texts.specs.declared.shapes.Shape.{Shape}
use Rattle.instruction_texts.specs.declared.shapes.Shape.TheVariants.{Other, Literal, Unsigned, Signed}
use Rattle.instruction_texts.specs.declared.shapes.Token.{Token}
use Rattle.instruction_texts.specs.Shapes.{Spells, IsSized, IsWide}
use Rattle.instruction_texts.specs.Written.{Holds, text_bytes}
use Rattle.instruction_texts.proofs.OneText.{text_is_one}
use Rattle.instruction_texts.proofs.SpelledTexts.{first_sized, others_sized}
use Rattle.instruction_texts.proofs.TextLaws.{spelled_held}
use Rattle.lisa_forms.specs.form_texts.Instructions.{instruction_shapes, instruction_order}
use Rattle.text_tables.specs.Shared.{shapes_at}
use Rattle.lisa_syntax.specs.declared.syntax.Syntax.{Syntax}
use Rattle.lisa_syntax.specs.Orders.{IsOrder, order_at}
use Rattle.lisa_syntax.specs.Parts.{IsSyntaxOf}
use Rattle.lisa_syntax.specs.Trees.{AreFields, instruction_text}
use Rattle.lisa_syntax.proofs.Instructed.{Chosen, chosen, fields_are, spelled, order_is_long, table_counted, listed, pieces_are, order_is}
use Rattle.lisa_syntax.proofs.Sharing.{at_map, all_sized}

-- ---- the order of the text

-- what the first places of the text show
abbrev pub Shows : List ℕ → List ℕ → List ℕ → Type 0
Shows order fields shown = (f : ℕ → ℕ) → AreFields f fields → shown ≡ map f order

pub shows_next : (order fields shown next : List ℕ) (k d e : ℕ) → IsOrder order → length fields ≡ length order → k < length order → Shows (take k order) fields shown → next ≡ shown ++ get_or fields (get_or order k d) e ∷ [] → Shows (take (k + 1) order) fields next
shows_next order fields shown next k d e is level h before grown f are =
    let i = get_or order k d in
    let inside : i < length fields = (let j = is.inside k i (slice_get-get_or order k d h) in omega (arith, j, level)) in
    let got : Some (get_or fields i e) ≡ Some (f i) = sym (slice_get-get_or fields i e inside) ∙ are i inside in
    let taken : take (k + 1) order ≡ take k order ++ i ∷ [] = take_more order k d h in
    grown ∙ ap₂ (λ (xs : List ℕ) (z : ℕ). xs ++ z ∷ []) (before f are) (same (get_or fields i e) (f i) got) ∙ sym (map_push f (take k order) i) ∙ ap (map f) (sym taken)
  where
    same : (y z : ℕ) → Some y ≡ Some z → y ≡ z
    same y z q = cc q

take_all : (xs : List ℕ) (n : ℕ) → length xs ≤ n → take n xs ≡ xs
take_all [] zero h = refl
take_all [] (suc n) h = refl
take_all (x ∷ xs) zero h = absurd (omega (arith, h))
take_all (x ∷ xs) (suc n) h = ap (λ (l : List ℕ). x ∷ l) (take_all xs n (omega (arith, h)))

pub shows_all : (order fields shown : List ℕ) (k : ℕ) → length order ≤ k → Shows (take k order) fields shown → Shows order fields shown
shows_all order fields shown k h before f are = before f are ∙ ap (map f) (take_all order k h)

-- ---- the text

sized_wide : (ss : List Shape) → All IsSized ss → IsWide ss
sized_wide [] all = tt
sized_wide (Other c ∷ ss) all = sized_wide ss (others_sized (Other c) ss all)
sized_wide (Literal p ∷ ss) all = sized_wide ss (others_sized (Literal p) ss all)
sized_wide (Unsigned hex p n ∷ ss) all = sized_wide ss (others_sized (Unsigned hex p n) ss all)
sized_wide (Signed p n ∷ ss) all = (let one = (first_sized (Signed p n) ss all).0 in omega (arith, one), sized_wide ss (others_sized (Signed p n) ss all))

module _ (s : Syntax) (form : ℕ) (fields : List ℕ) where
  -- the text of these values can be written
  pub record IsReady : Type 0 where
    pub within : form < length s.table
    pub level : length fields ≡ length (order_at (map (λ v. v.items) s.orders.items) form)
    pub sized : All IsSized (shapes_at s.table form)
    pub holds : (shown : List ℕ) → Shows (order_at (map (λ v. v.items) s.orders.items) form) fields shown → Holds (shapes_at s.table form) shown

  module _ (d : DescriptionTree) (is : IsSyntaxOf d s) (t : Tree ℕ) (instruction : IsInstruction d form fields t) where
    c : Chosen d form fields t
    c = chosen d form fields t instruction

    abbrev whole : Form
    whole = Choose c.operation c.own c.rest

    inside : In whole (forms_of d)
    inside = listed d s is form c.within whole c.at

    pieces : shapes_at s.table form ≡ instruction_shapes d whole
    pieces = pieces_are d s is form c.within whole c.at

    ordered : order_at (map (λ v. v.items) s.orders.items) form ≡ instruction_order d whole
    ordered = order_is d s is form c.within whole c.at

    spells : Spells (shapes_at s.table form) (map (nth fields) (order_at (map (λ v. v.items) s.orders.items) form)) (instruction_text d t)
    spells =
        subst (λ (ss : List Shape). Spells ss (map (nth fields) (order_at (map (λ v. v.items) s.orders.items) form)) (instruction_text d t)) (sym pieces)
        (subst (λ (xs : List ℕ). Spells (instruction_shapes d whole) (map (nth fields) xs) (instruction_text d t)) (sym ordered)
        (subst (λ (ts : List Token). Spells (instruction_shapes d whole) (map (nth fields) (instruction_order d whole)) ts) (sym c.is)
        (spelled d is.accepted is.has_forms c.operation c.own c.rest inside (nth fields) c.below)))

    all_are_sized : All IsSized (shapes_at s.table form)
    all_are_sized = subst (λ (us : List (List Shape)). All IsSized (shapes_at us form)) (sym is.pieces) (all_sized d is.accepted is.has_forms form [] (let e = table_counted d s is in let p = ap length is.pieces in let h = c.within in omega (arith, e, p, h)))

    pub is_ready : IsReady
    is_ready = record {
      within = let e = table_counted d s is in let h = c.within in omega (arith, e, h);
      level = c.many ∙ sym (order_is_long d is.accepted is.has_forms c.operation c.own c.rest inside) ∙ ap length (sym ordered);
      sized = all_are_sized;
      holds = λ shown shows. subst (λ (vs : List ℕ). Holds (shapes_at s.table form) vs) (sym (shows (nth fields) (fields_are fields)))
          (spelled_held (shapes_at s.table form) (map (nth fields) (order_at (map (λ v. v.items) s.orders.items) form)) (instruction_text d t) all_are_sized spells);
    }

    pub one_text : (shown : List ℕ) → Shows (order_at (map (λ v. v.items) s.orders.items) form) fields shown → (ts : List Token) → Spells (shapes_at s.table form) shown ts → ts ≡ instruction_text d t
    one_text shown shows ts said = text_is_one (sized_wide (shapes_at s.table form) all_are_sized) said spells (shows (nth fields) (fields_are fields))

  -- values of one of the form's instructions can be written
  pub ready : ((d : DescriptionTree) × IsSyntaxOf d s × AreValuesOf d form fields) → IsReady
  ready w = let i = instruction_of w.0 form fields w.2 in is_ready w.0 w.1 i.0 i.1

-- what is read at a place of vectors
pub seen_at : (vs : List (Vec ℕ Global)) (k : ℕ) (v : Vec ℕ Global) → k < length vs → v ≡ get_or vs k v → v.items ≡ order_at (map (λ (w : Vec ℕ Global). w.items) vs) k
seen_at vs k v h is = ap (λ (w : Vec ℕ Global). w.items) is ∙ sym (at_map (λ (w : Vec ℕ Global). w.items) vs k v [] h)

pub order_seen : (s : Syntax) (form : ℕ) → form < length s.table → (v : Vec ℕ Global) (order : List ℕ) → v ≡ get_or s.orders.items form v → order ≡ v.items → order ≡ order_at (map (λ w. w.items) s.orders.items) form
order_seen s form h v order is same = same ∙ seen_at s.orders.items form v (let l = s.level in omega (arith, h, l)) is

-- the bytes that are written are the text of the instruction
pub text_kept : (s : Syntax) (form : ℕ) (fields shown : List ℕ) → Shows (order_at (map (λ w. w.items) s.orders.items) form) fields shown → (shapes : List Shape) → shapes ≡ shapes_at s.table form → (values : List ℕ) → values ≡ shown
    → {E : Type 0} (r : Result (Vec ℕ Global) E) → IfOk r (λ b. (ts : List Token) × Spells shapes values ts × (b.items ≡ text_bytes ts))
    → IfOk r (λ b. (d : DescriptionTree) (t : Tree ℕ) → IsSyntaxOf d s → IsInstruction d form fields t → b.items ≡ text_bytes (instruction_text d t))
text_kept s form fields shown shows shapes at values all (Ok b) exact = λ d t is instruction.
    exact.2 ∙ ap text_bytes (one_text s form fields d is t instruction shown shows exact.0 (subst (λ (ss : List Shape). Spells ss shown exact.0) at (subst (λ (vs : List ℕ). Spells shapes vs exact.0) all exact.1)))
text_kept s form fields shown shows shapes at values all (Err e) exact = tt
