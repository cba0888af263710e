-- Going over the fields of a coding.
use Rattle.std.proofs.Common.{◌≡◌, ◌<◌, ◌≤◌, ◌+◌, ◌-◌, ◌++◌, ℕ, List, Option, length, drop, get_or, sym, ap, ◌∙◌, arith, append_assoc}
use Rattle.lisa_tree.specs.declared.descriptions.CodingItem.{CodingItem}
use Rattle.lisa_tree.specs.Descriptions.{DescriptionTree}
use Rattle.coding_tables.proofs.description_graph_proofs.Lists as lists
use Rattle.instruction_forms.specs.declared.form.Field.{Field}
use Rattle.instruction_forms.specs.Picks.{item_span, span, item_fields, own_fields}
use Rattle.instruction_forms.proofs.Walking.{span_at}

module _ (known : ℕ → Option ℕ) (d : DescriptionTree) (o low : ℕ) (all : List CodingItem) (i : ℕ) (item : CodingItem) (h : i < length all) (at : item ≡ get_or all i item) where
  pub next_high : (high k : ℕ) → high ≡ low + span known d o (drop i all) → k ≡ item_span known d o item → high - k ≡ low + span known d o (drop (i + 1) all)
  next_high high k e f = let s = span_at known d o all i item h at in omega (arith, e, f, s)

  pub no_lower : (high k : ℕ) → high ≡ low + span known d o (drop i all) → k ≡ item_span known d o item → k ≤ high
  no_lower high k e f = let s = span_at known d o all i item h at in omega (arith, e, f, s)

  pub one_more_field : (made more total : List Field) (high k : ℕ) → high ≡ low + span known d o (drop i all) → k ≡ item_span known d o item → more ≡ made ++ item_fields d o item (high - k)
      → made ++ own_fields known d o low (drop i all) ≡ total → more ++ own_fields known d o low (drop (i + 1) all) ≡ total
  one_more_field made more total high k e f is so_far =
      let rest = drop (i + 1) all in
      ap (λ (xs : List Field). xs ++ own_fields known d o low rest) (is ∙ ap (λ (m : ℕ). made ++ item_fields d o item m) (next_high high k e f))
      ∙ append_assoc made (item_fields d o item (low + span known d o rest)) (own_fields known d o low rest)
      ∙ ap (λ (xs : List CodingItem). made ++ own_fields known d o low xs) (sym (lists.one_more all i item h at))
      ∙ so_far
