-- What the loop over the cells of a memory keeps.
use Rattle.std.proofs.Common.{◌≡◌, ℕ, zero, suc, ◌+◌, ◌-◌, ◌<◌, ◌≤◌, List, [], ◌∷◌, ◌++◌, length, Option, Some, None, refl, sym, ap, subst, ◌∙◌, append_assoc, arith}
use Rattle.std.proofs.lemmas.List.{append-nil}
use Rattle.lisa_object.specs.Reading.{◌>>=◌, Word}
use Rattle.lisa_object.proofs.Options.{bind_some, some_is}
use Rattle.lisa_object.specs.ImageReading.{cell_at, cells_of}

abbrev pub Cells : Type 0
Cells = Option (List ℕ × List Word)

abbrev pub cells_with : List ℕ → Cells → Cells
cells_with front more = more >>= λ r. Some (front ++ r.0, r.1)

pub begins : (r : Cells) → cells_with [] r ≡ r
begins (Some x) = refl
begins None = refl

regroup : (front : List ℕ) (c : ℕ) (r : Cells) → cells_with front (r >>= λ r. Some (c ∷ r.0, r.1)) ≡ cells_with (front ++ c ∷ []) r
regroup front c (Some x) = ap (λ (l : List ℕ). Some (l, x.1)) (simp append_assoc)
regroup front c None = refl

one : (width k : ℕ) (line : Word) (lines : List Word) (r : Option ℕ) → cell_at width line ≡ r → cells_of width (suc k) (line ∷ lines) ≡ (r >>= λ cell. cells_of width k lines >>= λ r. Some (cell ∷ r.0, r.1))
unfolding cells_of
one width k line lines r e = ap (λ (q : Option ℕ). q >>= λ cell. cells_of width k lines >>= λ r. Some (cell ∷ r.0, r.1)) e

none_there : (width k : ℕ) → cells_of width (suc k) [] ≡ None
unfolding cells_of
none_there width k = refl

all_there : (width : ℕ) (lines : List Word) → cells_of width zero lines ≡ Some ([], lines)
unfolding cells_of
all_there width lines = refl

-- of so many cells those in front were read, and these lines are left
module _ (width count i : ℕ) (front : List ℕ) (left : List Word) (total : Cells) (same : cells_with front (cells_of width (count - i) left) ≡ total) where
  module _ (lt : i < count) where
    next : count - i ≡ suc (count - (i + 1))
    next = omega arith

    at_next : (lines : List Word) → left ≡ lines → cells_with front (cells_of width (suc (count - (i + 1))) lines) ≡ total
    at_next lines is = ap (λ (n : ℕ). cells_with front (cells_of width n lines)) (sym next) ∙ ap (λ (l : List Word). cells_with front (cells_of width (count - i) l)) (sym is) ∙ same

    pub lacking : left ≡ [] → total ≡ None
    lacking is = sym (at_next [] is) ∙ ap (cells_with front) (none_there width (count - (i + 1)))

    pub spoiled : (line : Word) (lines : List Word) → left ≡ line ∷ lines → cell_at width line ≡ None → total ≡ None
    spoiled line lines is e = sym (at_next (line ∷ lines) is) ∙ ap (cells_with front) (one width (count - (i + 1)) line lines None e)

    pub goes_on : (line : Word) (lines : List Word) (c : ℕ) → left ≡ line ∷ lines → cell_at width line ≡ Some c → cells_with (front ++ c ∷ []) (cells_of width (count - (i + 1)) lines) ≡ total
    goes_on line lines c is e =
        sym (regroup front c (cells_of width (count - (i + 1)) lines)) ∙ ap (cells_with front) (sym (one width (count - (i + 1)) line lines (Some c) e)) ∙ at_next (line ∷ lines) is

  pub whole : count ≤ i → total ≡ Some (front, left)
  whole le =
      let spent : count - i ≡ zero = omega arith in
      sym same ∙ ap (λ (n : ℕ). cells_with front (cells_of width n left)) spent ∙ ap (cells_with front) (all_there width left) ∙ ap (λ (l : List ℕ). Some (l, left)) (append-nil front)

-- so many cells are read, and no lines are added
pub record Counted (count : ℕ) (lines : List Word) (all : List ℕ) (rest : List Word) : Type 0 where
  pub cells : length all ≡ count
  pub left : length rest ≤ length lines

pub cells_counted : (width count : ℕ) (lines : List Word) (all : List ℕ) (rest : List Word) → cells_of width count lines ≡ Some (all, rest) → Counted count lines all rest
unfolding cells_of
cells_counted width zero lines all rest e =
    let same : ([], lines) ≡ (all, rest) = some_is ([], lines) (all, rest) e in
    let none : [] ≡ all = ap (λ (x : List ℕ × List Word). x.0) same in
    let kept : lines ≡ rest = ap (λ (x : List ℕ × List Word). x.1) same in
    record { cells = sym (ap length none); left = omega (arith, ap length kept) }
cells_counted width (suc n) [] all rest e = absurd cc
cells_counted width (suc n) (line ∷ lines) all rest e =
    let a = bind_some (cell_at width line) (λ cell. cells_of width n lines >>= λ r. Some (cell ∷ r.0, r.1)) (all, rest) e in
    let b = bind_some (cells_of width n lines) (λ r. Some (a.0 ∷ r.0, r.1)) (all, rest) a.2 in
    let more = cells_counted width n lines b.0.0 b.0.1 b.1 in
    let same : (a.0 ∷ b.0.0, b.0.1) ≡ (all, rest) = some_is (a.0 ∷ b.0.0, b.0.1) (all, rest) b.2 in
    let first : a.0 ∷ b.0.0 ≡ all = ap (λ (x : List ℕ × List Word). x.0) same in
    let kept : b.0.1 ≡ rest = ap (λ (x : List ℕ × List Word). x.1) same in
    record { cells = omega (arith, ap length first, more.cells); left = omega (arith, ap length kept, more.left) }
