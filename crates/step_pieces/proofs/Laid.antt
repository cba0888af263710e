-- Where temps lie.
use Rattle.std.proofs.Common.{◌≡◌, ℕ, zero, suc, ◌+◌, ◌<◌, ◌≤◌, List, [], ◌∷◌, ◌++◌, length, sym, ap, ◌∙◌, arith, length-append}
use Rattle.std.specs.Prelude.{slice_index, All}
use Rattle.std.proofs.lemmas.List.{get_or_append_left, get_or-append-add}
use Rattle.std.proofs.lemmas.List.Elements.{All-append}
use Rattle.step_program.specs.Programs.{Program, Expr}
use Rattle.step_program.specs.Effects.{width}
use Rattle.step_program.specs.WellFormed.{IsWidth, IsFit}
use Rattle.step_program.specs.Depths.{expr_depth}
use Rattle.step_pieces.specs.Pieces.{Piece, nothing, behind, set_temp, held, top}
use Rattle.step_pieces.specs.Formed.{Lies, IsStep, IsPiece}

pub lies_left : (temps : List ℕ) (from : ℕ) (xs ys : List ℕ) → Lies temps from (xs ++ ys) → Lies temps from xs
lies_left temps from xs ys h = record {
  room = omega (arith, h.room, length-append xs ys);
  at = λ k l. h.at k (omega (arith, length-append xs ys)) ∙ get_or_append_left xs ys 0 k l;
}

pub lies_right : (temps : List ℕ) (from : ℕ) (xs ys : List ℕ) → Lies temps from (xs ++ ys) → Lies temps (from + length xs) ys
lies_right temps from xs ys h = record {
  room = omega (arith, h.room, length-append xs ys);
  at = λ k l.
      let f : from + (length xs + k) ≡ from + length xs + k = omega arith in
      ap (slice_index temps) (sym f) ∙ h.at (length xs + k) (omega (arith, length-append xs ys)) ∙ get_or-append-add xs ys k 0;
}

pub lies_one : (temps : List ℕ) (from w : ℕ) (ws : List ℕ) → Lies temps from (w ∷ ws) → (from < length temps) × (slice_index temps from ≡ w)
lies_one temps from w ws h =
    let f : from + 0 ≡ from = omega arith in
    (omega (arith, h.room), ap (slice_index temps) (sym f) ∙ h.at 0 (omega arith))

-- ---- pieces

pub nothing_formed : (p : Program) → IsPiece p nothing
nothing_formed p = record { widths = λ k d h. absurd (omega (arith, h)); steps = λ k d h. absurd (omega (arith, h)) }

pub behind_formed : (p : Program) (a b : Piece) → IsPiece p a → IsPiece p b → IsPiece p (behind a b)
behind_formed p a b f g = record {
  widths = All-append IsWidth a.widths b.widths f.widths g.widths;
  steps = All-append (IsStep p) a.moves b.moves f.steps g.steps;
}

pub all_one : {X : Type 0} (P : X → Type 0) (x : X) → P x → All P (x ∷ [])
all_one P x h zero d l = h
all_one P x h (suc k) d l = absurd (omega (arith, l))

pub set_formed : (p : Program) (temp w : ℕ) (e : Expr) → IsWidth w → temp < length p.temps → slice_index p.temps temp ≡ w → IsFit p e → width p e ≡ w → expr_depth e ≤ 8 → IsStep p (set_temp temp e)
set_formed p temp w e is there at fits wide low = record {
  formed = record {
    guard = ((omega arith, omega arith), omega arith);
    value = fits;
    aim = (there, at ∙ sym wide);
  };
  shallow = grind (arith, low);
}

pub held_formed : (p : Program) (from : ℕ) (a : Piece) (w : ℕ) (e : Expr) → IsPiece p a → Lies p.temps from (held from a w e).widths → IsWidth w → IsFit p e → width p e ≡ w → expr_depth e ≤ 8 → IsPiece p (held from a w e)
held_formed p from a w e f lies is fits wide low =
    let one = lies_one p.temps (top from a) w [] (lies_right p.temps from a.widths (w ∷ []) lies) in
    behind_formed p a (record { widths = w ∷ []; moves = set_temp (top from a) e ∷ [] }) f (record {
      widths = all_one IsWidth w is;
      steps = all_one (IsStep p) (set_temp (top from a) e) (set_formed p (top from a) w e is one.0 one.1 fits wide low);
    })
