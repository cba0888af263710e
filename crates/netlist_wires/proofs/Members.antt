-- What the members of a program's module declare and do.
use Rattle.std.proofs.Common.{◌≡◌, ℕ, suc, List, [], ◌∷◌, ◌++◌, map, refl, ap, ◌∙◌}
use Rattle.std.proofs.lemmas.List.{append-nil}
use Rattle.lisa_engine.specs.declared.parts.Item.{Item}
use Rattle.lisa_engine.specs.declared.parts.ArrayItem.{ArrayItem}
use Rattle.verilog_text.specs.Trees as trees
use Rattle.verilog_text.specs.Trees.{ActionTrees, SettingTree, MemberTree}
use Rattle.verilog_text.specs.Clocked.{regs, arrays, nets, settings, blocks, Net, scalars}
use Rattle.step_program.specs.Programs.{Program}
use Rattle.netlist_wires.specs.declared.keys.Key.{Key}
use Rattle.netlist_wires.specs.Wiring.{wire_name, body_tree, wires_from, reg_members, array_members, Going, actions, first_settings, clock_name, members_at, module_at}

-- the wires and what they are, from a number on
abbrev pub wire_nets : Program → ℕ → List Key → List Net
wire_nets p wire [] = []
wire_nets p wire (key ∷ keys) = record { item = record { name = wire_name wire; width = key.width }; value = body_tree p key.body } ∷ wire_nets p (suc wire) keys

abbrev pub wire_items : ℕ → List Key → List Item
wire_items wire [] = []
wire_items wire (key ∷ keys) = record { name = wire_name wire; width = key.width } ∷ wire_items (suc wire) keys

pub nets_items : (p : Program) (wire : ℕ) (keys : List Key) → map (λ (net : Net). net.item) (wire_nets p wire keys) ≡ wire_items wire keys
nets_items p wire [] = refl
nets_items p wire (key ∷ keys) = ap (λ (items : List Item). record { name = wire_name wire; width = key.width } ∷ items) (nets_items p (suc wire) keys)

-- ---- each kind of declaration in each part of the members

regs_regs : (items : List Item) (rest : List MemberTree) → regs (reg_members items ++ rest) ≡ items ++ regs rest
regs_regs [] rest = refl
regs_regs (item ∷ items) rest = ap (λ (xs : List Item). item ∷ xs) (regs_regs items rest)

regs_arrays : (all : List ArrayItem) (rest : List MemberTree) → regs (array_members all ++ rest) ≡ regs rest
regs_arrays [] rest = refl
regs_arrays (array ∷ all) rest = regs_arrays all rest

regs_wires : (p : Program) (n : ℕ) (keys : List Key) (rest : List MemberTree) → regs (wires_from p n keys ++ rest) ≡ regs rest
regs_wires p n [] rest = refl
regs_wires p n (key ∷ keys) rest = regs_wires p (suc n) keys rest

arrays_regs : (items : List Item) (rest : List MemberTree) → arrays (reg_members items ++ rest) ≡ arrays rest
arrays_regs [] rest = refl
arrays_regs (item ∷ items) rest = arrays_regs items rest

arrays_arrays : (all : List ArrayItem) (rest : List MemberTree) → arrays (array_members all ++ rest) ≡ all ++ arrays rest
arrays_arrays [] rest = refl
arrays_arrays (array ∷ all) rest = ap (λ (xs : List ArrayItem). array ∷ xs) (arrays_arrays all rest)

arrays_wires : (p : Program) (n : ℕ) (keys : List Key) (rest : List MemberTree) → arrays (wires_from p n keys ++ rest) ≡ arrays rest
arrays_wires p n [] rest = refl
arrays_wires p n (key ∷ keys) rest = arrays_wires p (suc n) keys rest

nets_regs : (items : List Item) (rest : List MemberTree) → nets (reg_members items ++ rest) ≡ nets rest
nets_regs [] rest = refl
nets_regs (item ∷ items) rest = nets_regs items rest

nets_arrays : (all : List ArrayItem) (rest : List MemberTree) → nets (array_members all ++ rest) ≡ nets rest
nets_arrays [] rest = refl
nets_arrays (array ∷ all) rest = nets_arrays all rest

nets_wires : (p : Program) (n : ℕ) (keys : List Key) (rest : List MemberTree) → nets (wires_from p n keys ++ rest) ≡ wire_nets p n keys ++ nets rest
nets_wires p n [] rest = refl
nets_wires p n (key ∷ keys) rest = ap (λ (xs : List Net). record { item = record { name = wire_name n; width = key.width }; value = body_tree p key.body } ∷ xs) (nets_wires p (suc n) keys rest)

settings_regs : (items : List Item) (rest : List MemberTree) → settings (reg_members items ++ rest) ≡ settings rest
settings_regs [] rest = refl
settings_regs (item ∷ items) rest = settings_regs items rest

settings_arrays : (all : List ArrayItem) (rest : List MemberTree) → settings (array_members all ++ rest) ≡ settings rest
settings_arrays [] rest = refl
settings_arrays (array ∷ all) rest = settings_arrays all rest

settings_wires : (p : Program) (n : ℕ) (keys : List Key) (rest : List MemberTree) → settings (wires_from p n keys ++ rest) ≡ settings rest
settings_wires p n [] rest = refl
settings_wires p n (key ∷ keys) rest = settings_wires p (suc n) keys rest

blocks_regs : (items : List Item) (rest : List MemberTree) → blocks (reg_members items ++ rest) ≡ blocks rest
blocks_regs [] rest = refl
blocks_regs (item ∷ items) rest = blocks_regs items rest

blocks_arrays : (all : List ArrayItem) (rest : List MemberTree) → blocks (array_members all ++ rest) ≡ blocks rest
blocks_arrays [] rest = refl
blocks_arrays (array ∷ all) rest = blocks_arrays all rest

blocks_wires : (p : Program) (n : ℕ) (keys : List Key) (rest : List MemberTree) → blocks (wires_from p n keys ++ rest) ≡ blocks rest
blocks_wires p n [] rest = refl
blocks_wires p n (key ∷ keys) rest = blocks_wires p (suc n) keys rest

-- ---- of the whole module

module _ (p : Program) (end : Going) where
  abbrev behind_arrays : List MemberTree
  behind_arrays = trees.Initial (first_settings p.items p.first) ∷ (wires_from p 0 end.keys ++ (trees.Always clock_name (actions p end.sym) ∷ []))

  pub regs_is : regs (members_at p end) ≡ p.items
  regs_is =
      regs_regs p.items (array_members p.arrays ++ behind_arrays)
      ∙ ap (λ (xs : List Item). p.items ++ xs) (regs_arrays p.arrays behind_arrays ∙ regs_wires p 0 end.keys (trees.Always clock_name (actions p end.sym) ∷ [])) ∙ append-nil p.items

  pub arrays_is : arrays (members_at p end) ≡ p.arrays
  arrays_is =
      arrays_regs p.items (array_members p.arrays ++ behind_arrays)
      ∙ arrays_arrays p.arrays behind_arrays
      ∙ ap (λ (xs : List ArrayItem). p.arrays ++ xs) (arrays_wires p 0 end.keys (trees.Always clock_name (actions p end.sym) ∷ [])) ∙ append-nil p.arrays

  pub nets_is : nets (members_at p end) ≡ wire_nets p 0 end.keys
  nets_is =
      nets_regs p.items (array_members p.arrays ++ behind_arrays) ∙ nets_arrays p.arrays behind_arrays
      ∙ nets_wires p 0 end.keys (trees.Always clock_name (actions p end.sym) ∷ []) ∙ append-nil (wire_nets p 0 end.keys)

  pub settings_is : settings (members_at p end) ≡ first_settings p.items p.first
  settings_is =
      settings_regs p.items (array_members p.arrays ++ behind_arrays) ∙ settings_arrays p.arrays behind_arrays
      ∙ ap (λ (xs : List SettingTree). first_settings p.items p.first ++ xs) (settings_wires p 0 end.keys (trees.Always clock_name (actions p end.sym) ∷ [])) ∙ append-nil (first_settings p.items p.first)

  pub blocks_is : blocks (members_at p end) ≡ actions p end.sym ∷ []
  blocks_is =
      blocks_regs p.items (array_members p.arrays ++ behind_arrays) ∙ blocks_arrays p.arrays behind_arrays
      ∙ blocks_wires p 0 end.keys (trees.Always clock_name (actions p end.sym) ∷ [])

  pub scalars_is : scalars (module_at p end) ≡ p.items ++ (p.pins ++ wire_items 0 end.keys)
  scalars_is =
      ap (λ (xs : List Item). xs ++ (p.pins ++ map (λ (net : Net). net.item) (nets (members_at p end)))) regs_is
      ∙ ap (λ (xs : List Net). p.items ++ (p.pins ++ map (λ (net : Net). net.item) xs)) nets_is
      ∙ ap (λ (xs : List Item). p.items ++ (p.pins ++ xs)) (nets_items p 0 end.keys)
