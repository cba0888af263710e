-- A small instruction set of 8 bits, worked out by hand: ADDI has a register of one bit and a number of five, NOP has six free bits, BR a number of six.
use Rattle.std.proofs.Common.{◌≡◌, ℕ, true, false, List, [], ◌∷◌, map, refl}
use Rattle.std.specs.Prelude.{nat_eq}
use Rattle.instruction_trees.specs.Bits.{mask, pattern}
use Rattle.instruction_trees.specs.Trees.{Item, Fixed, Free, Field, Child, Table, instructions, Tree, Done, Pass, Value, Choose, Form, form_bits, form, is_plain, placed, tree_at}
use Rattle.instruction_trees.specs.Words.{word_of}
use Rattle.instruction_trees.specs.Values.{values}
use Rattle.instruction_trees.specs.Forms.{forms}

-- by number: addi, reg, nop, br, and inc, an alias that adds 1
abbrev sample : Table
sample =
    (Fixed false ∷ Fixed true ∷ Child (1 ∷ []) ∷ Field 5 ∷ [])
    ∷ (Field 1 ∷ [])
    ∷ (Fixed false ∷ Fixed false ∷ Free ∷ Free ∷ Free ∷ Free ∷ Free ∷ Free ∷ [])
    ∷ (Fixed true ∷ Fixed false ∷ Field 6 ∷ [])
    ∷ (Fixed false ∷ Fixed true ∷ Child (1 ∷ []) ∷ Fixed false ∷ Fixed false ∷ Fixed false ∷ Fixed false ∷ Fixed true ∷ [])
    ∷ []

abbrev all : List Item
all = instructions (0 ∷ 2 ∷ 3 ∷ 4 ∷ [])

-- ADDI R1,7
abbrev addi : Tree ℕ
addi = Choose 0 (Pass (Pass (Choose 1 (Value 1 Done) (Value 7 Done)))) Done

masks_are : map (λ (f : Form). mask (form_bits sample f all)) (forms 2 sample all) ≡ 192 ∷ 192 ∷ 192 ∷ 223 ∷ []
masks_are = refl

patterns_are : map (λ (f : Form). pattern (form_bits sample f all)) (forms 2 sample all) ≡ 64 ∷ 0 ∷ 128 ∷ 65 ∷ []
patterns_are = refl

plain_are : map (λ (f : Form). is_plain (nat_eq 4) f) (forms 2 sample all) ≡ true ∷ true ∷ true ∷ false ∷ []
plain_are = refl

word_is : word_of sample addi all ≡ 103
word_is = refl

values_are : values addi ≡ 7 ∷ 1 ∷ []
values_are = refl

places_are : values (placed sample 0 addi all) ≡ (0, 5) ∷ (5, 1) ∷ []
places_are = refl

tree_is : tree_at sample 103 0 (form addi) all ≡ addi
tree_is = refl
