-- What a tree writes with other values differs in these alone.
use Rattle.std.proofs.Common.{◌≡◌, ℕ, zero, suc, ◌+◌, ◌<◌, ◌≤◌, Bool, true, false, cond, ◌&&◌, List, [], ◌∷◌, ◌++◌, map, refl, sym, ap, ap₂, ◌∙◌, subst, arith, nat_eq}
use Rattle.std.specs.Prelude.{slice_index_or}
use Rattle.std.proofs.lemmas.List.{map-append}
use Rattle.instruction_trees.specs.Trees.{Item, Fixed, Free, Field, Child, Table, coding, Tree, Done, Pass, Value, Choose, relabel, Form, In, here, there}
use Rattle.instruction_trees.specs.Values.{numbered, owns, inners, filled}
use Rattle.instruction_texts.specs.declared.shapes.Shape.{Shape}
use Rattle.instruction_texts.specs.declared.shapes.Shape.TheVariants.{Other, Unsigned, Signed}
use Rattle.instruction_texts.specs.Shapes.{Spells}
use Rattle.instruction_texts.specs.Symbols.{Kind, Decimal, WithSign, Hexadecimal, Element, Content, Text, Number, Part, Sym, Byte, Gap, Shown, own_fields, shown_at, text_sym, written_by, gap, others, assemble, parts_of, gather, shown_values, sym_map, symbols, flush_shape, is_clean, parts_from}
use Rattle.asm_source.specs.Bytes.{is_word}
use Rattle.instruction_texts.specs.Texts.{text, shape, order, IsWritten, InRange}
use Rattle.instruction_texts.proofs.Gathering.{gathered}
use Rattle.instruction_texts.proofs.OneText.{one_values}

abbrev text_syms : {W : Type 0} → List ℕ → List (Sym W)
text_syms bs = map text_sym bs

abbrev one_gap : {W : Type 0} → Bool → List (Sym W)
one_gap b = gap b

module _ {V U : Type 0} (f : V → U) where
  abbrev syms : List (Sym V) → List (Sym U)
  syms s = map (sym_map f) s

  abbrev pair : ℕ × V → ℕ × U
  pair p = (p.0, f p.1)

  fields_as : (t : Tree V) (items : List Item) → own_fields (relabel f t) items ≡ map pair (own_fields t items)
  fields_as (Pass t) (Fixed b ∷ items) = fields_as t items
  fields_as (Pass t) (Free ∷ items) = fields_as t items
  fields_as (Value v t) (Field n ∷ items) = ap (λ (l : List (ℕ × U)). (n, f v) ∷ l) (fields_as t items)
  fields_as (Choose k own t) (Child ks ∷ items) = fields_as t items
  fields_as Done items = refl
  fields_as _ _ = refl

  shown_as : (kind : Kind) (k : ℕ) (fs : List (ℕ × V)) → shown_at kind k (map pair fs) ≡ syms (shown_at kind k fs)
  shown_as kind k [] = refl
  shown_as kind zero (p ∷ fs) = refl
  shown_as kind (suc k) (p ∷ fs) = shown_as kind k fs

  byte_as : (b : ℕ) → text_sym b ≡ sym_map f (text_sym b)
  byte_as b = go (nat_eq b 32) where
    go : (c : Bool) → cond {A = Sym U} c Gap (Byte b) ≡ sym_map f (cond {A = Sym V} c Gap (Byte b))
    go true = refl
    go false = refl

  bytes_as : (bs : List ℕ) → text_syms bs ≡ syms (text_syms bs)
  bytes_as [] = refl
  bytes_as (b ∷ bs) = ap₂ (λ (x : Sym U) (l : List (Sym U)). x ∷ l) (byte_as b) (bytes_as bs)

  part_as : (parts : List (List (Sym V))) (k : ℕ) → slice_index_or (map syms parts) k [] ≡ syms (slice_index_or parts k [])
  part_as [] k = refl
  part_as (p ∷ parts) zero = refl
  part_as (p ∷ parts) (suc k) = part_as parts k

  written_as : (fs : List (ℕ × V)) (parts : List (List (Sym V))) (c : Content) → written_by (map pair fs) (map syms parts) c ≡ syms (written_by fs parts c)
  written_as fs parts (Text bs) = bytes_as bs
  written_as fs parts (Number kind k) = shown_as kind k fs
  written_as fs parts (Part k) = part_as parts k

  gap_as : (b : Bool) → one_gap b ≡ syms (one_gap b)
  gap_as true = refl
  gap_as false = refl

  others_as : (fs : List (ℕ × V)) (parts : List (List (Sym V))) (es : List Element) → others (map pair fs) (map syms parts) es ≡ syms (others fs parts es)
  others_as fs parts [] = refl
  others_as fs parts (e ∷ es) =
      ap₂ (λ (x y : List (Sym U)). x ++ y) (gap_as e.joined) (ap₂ (λ (x y : List (Sym U)). x ++ y) (written_as fs parts e.content) (others_as fs parts es) ∙ sym (map-append (sym_map f) (written_by fs parts e.content) (others fs parts es)))
      ∙ sym (map-append (sym_map f) (one_gap e.joined) (written_by fs parts e.content ++ others fs parts es))

  assemble_as : (fs : List (ℕ × V)) (parts : List (List (Sym V))) (es : List Element) → assemble (map pair fs) (map syms parts) es ≡ syms (assemble fs parts es)
  assemble_as fs parts [] = refl
  assemble_as fs parts (e ∷ es) = ap₂ (λ (x y : List (Sym U)). x ++ y) (written_as fs parts e.content) (others_as fs parts es) ∙ sym (map-append (sym_map f) (written_by fs parts e.content) (others fs parts es))

  parts_as : (table : Table) (syntax : List (List Element)) (t : Tree V) → parts_of table syntax (relabel f t) ≡ map syms (parts_of table syntax t)
  parts_as table syntax Done = refl
  parts_as table syntax (Pass t) = parts_as table syntax t
  parts_as table syntax (Value v t) = parts_as table syntax t
  parts_as table syntax (Choose k own t) =
      ap₂ (λ (x : List (Sym U)) (l : List (List (Sym U))). x ∷ l)
      (ap₂ (λ (x : List (ℕ × U)) (y : List (List (Sym U))). assemble x y (slice_index_or syntax k [])) (fields_as own (coding table k)) (parts_as table syntax own)
      ∙ assemble_as (own_fields own (coding table k)) (parts_of table syntax own) (slice_index_or syntax k []))
      (parts_as table syntax t)

  pub symbols_as : (table : Table) (syntax : List (List Element)) (k : ℕ) (t : Tree V) → symbols table syntax k (relabel f t) ≡ syms (symbols table syntax k t)
  symbols_as table syntax k t =
      ap₂ (λ (x : List (ℕ × U)) (y : List (List (Sym U))). assemble x y (slice_index_or syntax k [])) (fields_as t (coding table k)) (parts_as table syntax t)
      ∙ assemble_as (own_fields t (coding table k)) (parts_of table syntax t) (slice_index_or syntax k [])

  pub gather_as : (p : List ℕ) (s : List (Sym V)) → gather p (syms s) ≡ gather p s
  gather_as p [] = refl
  gather_as p (Gap ∷ s) = ap (flush_shape p) (gather_as [] s)
  gather_as p (Byte c ∷ s) = ap₂ (λ (x y : List Shape). cond (is_word c) x y) (gather_as (p ++ c ∷ []) s) (ap (λ (l : List Shape). flush_shape p (Other c ∷ l)) (gather_as [] s))
  gather_as p (Shown Decimal n v ∷ s) = ap (λ (l : List Shape). Unsigned false p n ∷ l) (gather_as [] s)
  gather_as p (Shown Hexadecimal n v ∷ s) = ap (λ (l : List Shape). Unsigned true p n ∷ l) (gather_as [] s)
  gather_as p (Shown WithSign n v ∷ s) = ap (λ (l : List Shape). Signed p n ∷ l) (gather_as [] s)

  pub shown_values_as : (s : List (Sym V)) → shown_values (syms s) ≡ map f (shown_values s)
  shown_values_as [] = refl
  shown_values_as (Gap ∷ s) = shown_values_as s
  shown_values_as (Byte c ∷ s) = shown_values_as s
  shown_values_as (Shown kind n v ∷ s) = ap (λ (l : List U). f v ∷ l) (shown_values_as s)

  pub parts_from_as : (s : List (Sym V)) → parts_from (syms s) ≡ parts_from s
  parts_from_as [] = refl
  parts_from_as (Gap ∷ s) = refl
  parts_from_as (Byte c ∷ s) = refl
  parts_from_as (Shown kind n v ∷ s) = refl

  pub is_clean_as : (s : List (Sym V)) → is_clean (syms s) ≡ is_clean s
  is_clean_as [] = refl
  is_clean_as (Gap ∷ s) = is_clean_as s
  is_clean_as (Byte c ∷ s) = is_clean_as s
  is_clean_as (Shown kind n v ∷ s) = ap₂ (λ (x y : Bool). x && y) (parts_from_as s) (is_clean_as s)

-- ---- two trees of one form

same_at_each : (f g : ℕ → ℕ) (i : ℕ) (xs : List ℕ) → map f xs ≡ map g xs → In i xs → f i ≡ g i
same_at_each f g i [] e j = elim j [ ]
same_at_each f g i (x ∷ xs) e (here) = cc
same_at_each f g i (x ∷ xs) e (there j) = same_at_each f g i xs (cc) j

agree : {U : Type 0} (f g : ℕ → ℕ) (n : ℕ) → ((i : ℕ) → i < n → f i ≡ g i) → (a b : ℕ) (t : Tree U) → a + owns t ≤ n → b + inners t ≤ n → relabel f (numbered a b t) ≡ relabel g (numbered a b t)
agree f g n h a b Done x y = refl
agree f g n h a b (Pass t) x y = ap (λ (u : Tree ℕ). Pass u) (agree f g n h a b t x y)
agree f g n h a b (Value v t) x y = ap₂ (λ (i : ℕ) (u : Tree ℕ). Value i u) (h a (omega arith)) (agree f g n h (suc a) b t (omega arith) y)
agree f g n h a b (Choose k own t) x y = ap₂ (λ (u w : Tree ℕ). Choose k u w) (agree f g n h b (b + owns own) own (omega arith) (omega arith)) (agree f g n h a (b + (owns own + inners own)) t x (omega arith))

-- a tree of a form spells the form's shape, with its values in the form's order
pub spelled_by : (table : Table) (syntax : List (List Element)) (k : ℕ) (t : Form) (f : ℕ → ℕ) → is_clean (symbols table syntax k (numbered 0 (owns t) t)) ≡ true
    → InRange (symbols table syntax k (filled f t)) → Spells (shape table syntax k (numbered 0 (owns t) t)) (map f (order table syntax k t)) (text table syntax k (filled f t))
spelled_by table syntax k t f clean in_range =
    let s = symbols table syntax k (numbered 0 (owns t) t) in
    let e : symbols table syntax k (filled f t) ≡ map (sym_map f) s = symbols_as f table syntax k (numbered 0 (owns t) t) in
    let g : Spells (gather [] (symbols table syntax k (filled f t))) (shown_values (symbols table syntax k (filled f t))) (text table syntax k (filled f t)) =
    gathered [] (symbols table syntax k (filled f t)) (ap (λ (l : List (Sym ℕ)). is_clean l) e ∙ is_clean_as f s ∙ clean) in_range in
    let one : gather [] (symbols table syntax k (filled f t)) ≡ gather [] s = ap (λ (l : List (Sym ℕ)). gather [] l) e ∙ gather_as f [] s in
    let two : shown_values (symbols table syntax k (filled f t)) ≡ map f (shown_values s) = ap (λ (l : List (Sym ℕ)). shown_values l) e ∙ shown_values_as f s in
    subst (λ (vs : List ℕ). Spells (gather [] s) vs (text table syntax k (filled f t))) two
    (subst (λ (ss : List Shape). Spells ss (shown_values (symbols table syntax k (filled f t))) (text table syntax k (filled f t))) one g)

pub one_tree : (table : Table) (syntax : List (List Element)) (k : ℕ) (t : Form) (f g : ℕ → ℕ) → is_clean (symbols table syntax k (numbered 0 (owns t) t)) ≡ true → IsWritten table syntax k t
    → InRange (symbols table syntax k (filled f t)) → InRange (symbols table syntax k (filled g t)) → text table syntax k (filled f t) ≡ text table syntax k (filled g t) → filled f t ≡ filled g t
one_tree table syntax k t f g clean covered a b e =
    let same : map f (order table syntax k t) ≡ map g (order table syntax k t) = one_values (spelled_by table syntax k t f clean a) (spelled_by table syntax k t g clean b) e in
    agree f g (owns t + inners t) (λ i h. same_at_each f g i (order table syntax k t) same (covered i h)) 0 (owns t) t (omega arith) (omega arith)
