-- What an instruction tree writes, element by element, and the shape that comes of it.
use Rattle.std.specs.Prelude.{◌<◌, ℕ, zero, suc, Bool, true, false, not, ◌&&◌, List, [], ◌∷◌, ◌++◌, map, nat_eq, slice_index_or, if◌then◌else◌}
use Rattle.asm_source.specs.Bytes.{is_word}
use Rattle.instruction_trees.specs.Trees.{Item, Fixed, Free, Field, Child, Table, coding, Tree, Done, Pass, Value, Choose}
use Rattle.instruction_texts.specs.declared.shapes.Shape.{Shape}
use Rattle.instruction_texts.specs.declared.shapes.Shape.TheVariants.{Other, Literal, Unsigned, Signed}

-- how a number is written: in decimal, in decimal with a sign, in hexadecimal behind `0x`
pub data Kind : Type 0 where
  Decimal : Kind
  WithSign : Kind
  Hexadecimal : Kind

-- a string, an own field by its place among those of the operation, a child by its place
pub data Content : Type 0 where
  Text : List ℕ → Content
  Number : Kind → ℕ → Content
  Part : ℕ → Content

-- it is joined where a `~` stands before it
pub record Element : Type 0 where
  pub joined : Bool
  pub content : Content

-- a byte, a place where runs part, or a field of n bits
pub data Sym (V : Type 0) : Type 0 where
  Byte : ℕ → Sym V
  Gap : Sym V
  Shown : Kind → ℕ → V → Sym V

-- the own fields of a tree, each with its width
abbrev pub own_fields : {V : Type 0} → Tree V → List Item → List (ℕ × V)
own_fields (Pass t) (Fixed b ∷ items) = own_fields t items
own_fields (Pass t) (Free ∷ items) = own_fields t items
own_fields (Value v t) (Field n ∷ items) = (n, v) ∷ own_fields t items
own_fields (Choose k own t) (Child ks ∷ items) = own_fields t items
own_fields _ _ = []

abbrev pub shown_at : {V : Type 0} → Kind → ℕ → List (ℕ × V) → List (Sym V)
shown_at kind k [] = []
shown_at kind zero (f ∷ fs) = Shown kind f.0 f.1 ∷ []
shown_at kind (suc k) (f ∷ fs) = shown_at kind k fs

-- a blank in a string only separates
abbrev pub text_sym : {V : Type 0} → ℕ → Sym V
text_sym b = if nat_eq b 32 then Gap else Byte b

abbrev pub written_by : {V : Type 0} → List (ℕ × V) → List (List (Sym V)) → Content → List (Sym V)
written_by fields parts (Text bs) = map text_sym bs
written_by fields parts (Number kind k) = shown_at kind k fields
written_by fields parts (Part k) = slice_index_or parts k []

abbrev pub gap : {V : Type 0} → Bool → List (Sym V)
gap true = []
gap false = Gap ∷ []

abbrev pub others : {V : Type 0} → List (ℕ × V) → List (List (Sym V)) → List Element → List (Sym V)
others fields parts [] = []
others fields parts (e ∷ es) = gap e.joined ++ (written_by fields parts e.content ++ others fields parts es)

-- a gap stands between two elements, unless they are joined
abbrev pub assemble : {V : Type 0} → List (ℕ × V) → List (List (Sym V)) → List Element → List (Sym V)
assemble fields parts [] = []
assemble fields parts (e ∷ es) = written_by fields parts e.content ++ others fields parts es

-- what each child writes
abbrev pub parts_of : {V : Type 0} → Table → List (List Element) → Tree V → List (List (Sym V))
parts_of table syntax Done = []
parts_of table syntax (Pass t) = parts_of table syntax t
parts_of table syntax (Value v t) = parts_of table syntax t
parts_of table syntax (Choose k own t) = assemble (own_fields own (coding table k)) (parts_of table syntax own) (slice_index_or syntax k []) ∷ parts_of table syntax t

-- what a tree of an operation writes
abbrev pub symbols : {V : Type 0} → Table → List (List Element) → ℕ → Tree V → List (Sym V)
symbols table syntax k t = assemble (own_fields t (coding table k)) (parts_of table syntax t) (slice_index_or syntax k [])

-- ---- the shape

abbrev pub flush_shape : List ℕ → List Shape → List Shape
flush_shape [] ss = ss
flush_shape (c ∷ p) ss = Literal (c ∷ p) ∷ ss

-- the shape of what is written, behind the run p
abbrev pub gather : {V : Type 0} → List ℕ → List (Sym V) → List Shape
gather p [] = flush_shape p []
gather p (Gap ∷ s) = flush_shape p (gather [] s)
gather p (Byte c ∷ s) = if is_word c then gather (p ++ c ∷ []) s else flush_shape p (Other c ∷ gather [] s)
gather p (Shown Decimal n v ∷ s) = Unsigned false p n ∷ gather [] s
gather p (Shown Hexadecimal n v ∷ s) = Unsigned true p n ∷ gather [] s
gather p (Shown WithSign n v ∷ s) = Signed p n ∷ gather [] s

-- the values in the order of the text
abbrev pub shown_values : {V : Type 0} → List (Sym V) → List V
shown_values [] = []
shown_values (Shown kind n v ∷ s) = v ∷ shown_values s
shown_values (Byte c ∷ s) = shown_values s
shown_values (Gap ∷ s) = shown_values s

-- ---- what may be a text

-- no run goes on behind a number
abbrev pub parts_from : {V : Type 0} → List (Sym V) → Bool
parts_from [] = true
parts_from (Gap ∷ s) = true
parts_from (Byte c ∷ s) = not (is_word c)
parts_from (Shown kind n v ∷ s) = false

-- each number is the last thing in its run
abbrev pub is_clean : {V : Type 0} → List (Sym V) → Bool
is_clean [] = true
is_clean (Gap ∷ s) = is_clean s
is_clean (Byte c ∷ s) = is_clean s
is_clean (Shown kind n v ∷ s) = parts_from s && is_clean s

abbrev pub starts_dot : List ℕ → Bool
starts_dot [] = false
starts_dot (c ∷ p) = nat_eq c 46

-- the first run begins with `.`, also where other characters stand before it
abbrev pub is_dotted : List Shape → Bool
is_dotted [] = false
is_dotted (Other c ∷ ss) = is_dotted ss
is_dotted (Literal p ∷ ss) = starts_dot p
is_dotted (Unsigned hex p n ∷ ss) = starts_dot p
is_dotted (Signed p n ∷ ss) = starts_dot p

abbrev pub has_pieces : List Shape → Bool
has_pieces [] = false
has_pieces (s ∷ ss) = true

-- a form may have this text: it isn't empty, its first run doesn't begin with `.`, as a directive does, and a number ends its run
abbrev pub is_instruction_text : {V : Type 0} → List (Sym V) → Bool
is_instruction_text s = is_clean s && (has_pieces (gather [] s) && not (is_dotted (gather [] s)))

abbrev pub sym_map : {V U : Type 0} → (V → U) → Sym V → Sym U
sym_map f (Byte c) = Byte c
sym_map f Gap = Gap
sym_map f (Shown kind n v) = Shown kind n (f v)

-- no field has width 0
abbrev pub AreWide : {V : Type 0} → List (Sym V) → Type 0
AreWide [] = Unit {0}
AreWide (Byte c ∷ s) = AreWide s
AreWide (Gap ∷ s) = AreWide s
AreWide (Shown kind n u ∷ s) = (0 < n) × AreWide s
