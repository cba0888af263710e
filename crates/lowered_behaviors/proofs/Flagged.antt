-- What a row tells by an operation's way.
use Rattle.std.proofs.Common.{◌≡◌, ◌∙◌, ℕ, true, false, List, ◌∷◌, Option, None, Some, refl, sym, ap, subst}
use Rattle.std.specs.Prelude.{is_some}
use Rattle.std.specs.Option.{option_map}
use Rattle.lisa_tree.specs.Descriptions.{DescriptionTree}
use Rattle.step_program.specs.Programs.{Expr, Const}
use Rattle.step_pieces.specs.Pieces.{Piece, behind, top, held, always}
use Rattle.lowered_time.specs.Pieces.{both}
use Rattle.lowered_values.specs.Operands.{Operand}
use Rattle.lowered_values.specs.Computed.{leaf}
use Rattle.lowered_resources.specs.Reading.{absent}
use Rattle.lowered_statements.proofs.Drafted.{none_adds}
use Rattle.lowered_words.specs.declared.way_at.WayAt.{WayAt}
use Rattle.lowered_words.specs.Ways.{Way, Child, way_place}
use Rattle.lowered_words.specs.Rows.{flag as way_flag}
use Rattle.lowered_words.specs.Labels.{label_computed}
use Rattle.lowered_words.specs.Code.{IsAt, AreAt}
use Rattle.lowered_behaviors.specs.declared.positions.Reach.{Reach}
use Rattle.lowered_behaviors.specs.declared.positions.Reach.TheVariants as reaches
use Rattle.lowered_behaviors.specs.declared.positions.Position.{Position}
use Rattle.lowered_behaviors.specs.Standpoints.{own_way}
use Rattle.lowered_behaviors.specs.Positions.{reached, standpoint_of}
use Rattle.lowered_behaviors.specs.Values.{Ground, flag, label_by}
use Rattle.lowered_behaviors.specs.Code.{guard_out, guard_piece}
use Rattle.lowered_behaviors.proofs.Acted.{held_adds}

module _ (d : DescriptionTree) where
  pub none_is : (w : Option Way) → AreAt d w None → w ≡ None
  none_is None is = refl
  none_is (Some v) is = absurd (cc is)

  -- ---- children

  child_at : (w : Option Way) (place o : ℕ) (at below : WayAt) → AreAt d w (Some at) → ((v : Way) → IsAt d v at → IsAt d (Child v place o) below) → AreAt d (option_map (λ v. Child v place o) w) (Some below)
  child_at None place o at below is told = absurd (cc is)
  child_at (Some v) place o at below is told = let own : at.place ≡ way_place d v = cc is in ap (λ (k : Option ℕ). Some k) (told v own)

  -- the way to a child, by that to what stands above it
  pub way_child : (ps above : List Position) (here : Position) (place : ℕ) (at below : WayAt) → ps ≡ here ∷ above → here.reach ≡ reaches.Child place → AreAt d (own_way (standpoint_of d above)) (Some at)
      → ((v : Way) → IsAt d v at → IsAt d (Child v place here.operation) below) → AreAt d (own_way (standpoint_of d ps)) (Some below)
  way_child ps above here place at below is reach are told =
      let path : own_way (standpoint_of d ps) ≡ option_map (λ v. Child v place here.operation) (own_way (standpoint_of d above)) =
      ap (λ (all : List Position). own_way (standpoint_of d all)) is ∙ ap (λ (r : Reach). reached d r (own_way (standpoint_of d above)) here.operation) reach in
      subst (λ (w : Option Way). AreAt d w (Some below)) (sym path) (child_at (own_way (standpoint_of d above)) place here.operation at below are told)

  -- ---- flags

  pub flag_apart : (row : Option ℕ) (w : Option Way) → AreAt d w None → always ≡ flag d row w
  flag_apart row w is = ap (flag d row) (sym (none_is w is))

  pub flag_wordless : (w : Option Way) (at : WayAt) → AreAt d w (Some at) → Const 1 0 ≡ flag d None w
  flag_wordless None at is = absurd (cc is)
  flag_wordless (Some v) at is = refl

  pub flag_known : (base : ℕ) (w : Option Way) (at : WayAt) (e : Expr) → AreAt d w (Some at) → ((v : Way) → IsAt d v at → e ≡ way_flag d base v) → e ≡ flag d (Some base) w
  flag_known base None at e is told = absurd (cc is)
  flag_known base (Some v) at e is told = let own : at.place ≡ way_place d v = cc is in told v own

  -- ---- labels

  pub label_wordless : (from : ℕ) (n : List ℕ) (w : Option Way) → label_by d from n None w ≡ leaf absent
  label_wordless from n None = refl
  label_wordless from n (Some v) = refl

  pub label_apart : (from : ℕ) (n : List ℕ) (base : ℕ) (w : Option Way) → AreAt d w None → label_by d from n (Some base) w ≡ leaf absent
  label_apart from n base w is = ap (label_by d from n (Some base)) (none_is w is)

  pub label_adds : (n : List ℕ) (base : ℕ) (w : Option Way) (at : WayAt) (old new : Piece) → AreAt d w (Some at) → ((v : Way) → IsAt d v at → new ≡ behind old (label_computed d base (top 0 old) v n).piece)
      → new ≡ behind old (label_by d (top 0 old) n (Some base) w).piece
  label_adds n base None at old new is told = absurd (cc is)
  label_adds n base (Some v) at old new is told = let own : at.place ≡ way_place d v = cc is in told v own

  pub label_out : (n : List ℕ) (base from : ℕ) (w : Option Way) (at : WayAt) (x : Operand) → AreAt d w (Some at) → ((v : Way) → IsAt d v at → x ≡ (label_computed d base from v n).out)
      → x ≡ (label_by d from n (Some base) w).out
  label_out n base from None at x is told = absurd (cc is)
  label_out n base from (Some v) at x is told = let own : at.place ≡ way_place d v = cc is in told v own

-- ---- guards

module _ (g : Ground) (guard : Expr) where
  pub guard_apart : (w : Option Way) (old new : Piece) → is_some w ≡ false → new ≡ old → new ≡ behind old (guard_piece g guard w (top 0 old))
  guard_apart None old new is same = none_adds old new same
  guard_apart (Some v) old new is same = absurd (cc is)

  pub guard_same : (w : Option Way) (from : ℕ) → is_some w ≡ false → guard ≡ guard_out guard w from
  guard_same None from is = refl
  guard_same (Some v) from is = absurd (cc is)

  pub guard_held : (w : Option Way) (old new : Piece) (e : Expr) → is_some w ≡ true → e ≡ both guard (flag g.description g.row w) → new ≡ held 0 old 1 e → new ≡ behind old (guard_piece g guard w (top 0 old))
  guard_held None old new e is made done = absurd (cc is)
  guard_held (Some v) old new e is made done = done ∙ ap (held 0 old 1) made ∙ held_adds old 1 (both guard (flag g.description g.row (Some v)))
