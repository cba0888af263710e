-- Operations by number with their codings, and the trees of instructions.
use Rattle.std.specs.Prelude.{◌<◌, ℕ, zero, suc, ◌+◌, ◌/◌, ◌%◌, ◌^◌, Bool, true, false, ◌&&◌, List, [], ◌∷◌, ◌++◌, length, Some, None, map, replicate, if◌then◌else◌}
use Rattle.instruction_trees.specs.Bits.{Frame, digits}

-- an item of a coding: a literal bit, a free bit, a field of n bits, a child that is one of these operations
pub data Item : Type 0 where
  Fixed : Bool → Item
  Free : Item
  Field : ℕ → Item
  Child : List ℕ → Item

-- the coding of each operation
abbrev pub Table : Type 0
Table = List (List Item)

abbrev pub coding : Table → ℕ → List Item
coding [] k = []
coding (items ∷ table) zero = items
coding (items ∷ table) (suc k) = coding table k

-- an instruction is one of the alternatives of the root's group
abbrev pub instructions : List ℕ → List Item
instructions alternatives = Child alternatives ∷ []

-- one part for each item, in order: nothing for a bit, a value for a field, an operation with its own parts for a child
pub data Tree (V : Type 0) : Type 0 where
  Done : Tree V
  Pass : Tree V → Tree V
  Value : V → Tree V → Tree V
  Choose : ℕ → Tree V → Tree V → Tree V

pub data In {A : Type 0} (x : A) : List A → Type 0 where
  here : {xs : List A} → In x (x ∷ xs)
  there : {y : A} {xs : List A} → In x xs → In x (y ∷ xs)

-- the tree has a part for each item and chooses alternatives that are listed; `Ok n v` says that a field of n bits may hold v
abbrev pub Fits : {V : Type 0} → (ℕ → V → Type 0) → Table → Tree V → List Item → Type 0
Fits Ok table Done [] = Unit {0}
Fits Ok table (Pass t) (Fixed b ∷ items) = Fits Ok table t items
Fits Ok table (Pass t) (Free ∷ items) = Fits Ok table t items
Fits Ok table (Value v t) (Field n ∷ items) = Ok n v × Fits Ok table t items
Fits Ok table (Choose k own t) (Child ks ∷ items) = In k ks × Fits Ok table own (coding table k) × Fits Ok table t items
Fits Ok table _ _ = ⊥

-- the bits of a tree, where `shown n v` are those of a field
abbrev pub frame_by : {V : Type 0} → (ℕ → V → Frame) → Table → Tree V → List Item → Frame
frame_by shown table (Pass t) (Fixed b ∷ items) = Some b ∷ frame_by shown table t items
frame_by shown table (Pass t) (Free ∷ items) = None ∷ frame_by shown table t items
frame_by shown table (Value v t) (Field n ∷ items) = shown n v ++ frame_by shown table t items
frame_by shown table (Choose k own t) (Child ks ∷ items) = frame_by shown table own (coding table k) ++ frame_by shown table t items
frame_by shown table _ _ = []

abbrev pub IsBelow : ℕ → ℕ → Type 0
IsBelow n v = v < 2 ^ n

abbrev pub AnyValue : {V : Type 0} → ℕ → V → Type 0
AnyValue n v = Unit {0}

abbrev pub held : ℕ → ℕ → Frame
held n v = map Some (digits n v)

abbrev pub open_field : {V : Type 0} → ℕ → V → Frame
open_field n v = replicate n None

-- the bits of a tree: literal bits, the bits of its values, free bits, and those of its children
abbrev pub bits : Table → Tree ℕ → List Item → Frame
bits table t items = frame_by held table t items

-- the bits of a tree's form: the bits of a field are free
abbrev pub form_bits : {V : Type 0} → Table → Tree V → List Item → Frame
form_bits table t items = frame_by open_field table t items

-- how many bits it has
abbrev pub size : {V : Type 0} → Table → Tree V → List Item → ℕ
size table t items = length (form_bits table t items)

abbrev pub relabel : {V U : Type 0} → (V → U) → Tree V → Tree U
relabel f Done = Done
relabel f (Pass t) = Pass (relabel f t)
relabel f (Value v t) = Value (f v) (relabel f t)
relabel f (Choose k own t) = Choose k (relabel f own) (relabel f t)

-- a tree without values
abbrev pub Form : Type 0
Form = Tree (Unit {0})

abbrev pub form : {V : Type 0} → Tree V → Form
form t = relabel (λ _. tt) t

-- no operation in it is an alias
abbrev pub is_plain : {V : Type 0} → (ℕ → Bool) → Tree V → Bool
is_plain aliases Done = true
is_plain aliases (Pass t) = is_plain aliases t
is_plain aliases (Value v t) = is_plain aliases t
is_plain aliases (Choose k own t) = if aliases k then false else (is_plain aliases own && is_plain aliases t)

-- each field with its lowest bit and its width, where `low` bits stand below the tree's
abbrev pub placed : {V : Type 0} → Table → ℕ → Tree V → List Item → Tree (ℕ × ℕ)
placed table low (Pass t) (Fixed b ∷ items) = Pass (placed table low t items)
placed table low (Pass t) (Free ∷ items) = Pass (placed table low t items)
placed table low (Value v t) (Field n ∷ items) = Value (low + size table t items, n) (placed table low t items)
placed table low (Choose k own t) (Child ks ∷ items) = Choose k (placed table (low + size table t items) own (coding table k)) (placed table low t items)
placed table low _ _ = Done

-- the bits of a word that stand at a place
abbrev pub slice : ℕ → ℕ × ℕ → ℕ
slice w p = w / 2 ^ p.0 % 2 ^ p.1

-- the tree of a form that this word gives, each field read at its place
abbrev pub tree_at : {V : Type 0} → Table → ℕ → ℕ → Tree V → List Item → Tree ℕ
tree_at table w low t items = relabel (slice w) (placed table low t items)
