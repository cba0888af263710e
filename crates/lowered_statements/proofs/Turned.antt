-- The turns of a loop, put behind a draft.
use Rattle.std.proofs.Common.{◌≡◌, ℕ, zero, suc, ◌+◌, ◌-◌, ◌*◌, ◌<◌, ◌≤◌, Bool, true, false, List, [], ◌∷◌, ◌++◌, Option, None, Some, length, length-append, refl, sym, ap, ap₂, ◌∙◌, subst, arith, nat_eq, cond, if◌then◌else◌}
use Rattle.std.specs.Prelude.{take}
use Rattle.std.proofs.lemmas.Bool.{ne_eqb}
use Rattle.std.proofs.lemmas.List.{append_assoc}
use Rattle.std.proofs.Math.Seq.{take-append_seam}
use Rattle.lisa_tree.specs.declared.tokens.Shape.{Shape}
use Rattle.lisa_tree.specs.Statements.{HeadTree, StmtTree}
use Rattle.lisa_tree.specs.Same.{same_name}
use Rattle.description_places.specs.Literals.{literal}
use Rattle.shape_checks.specs.declared.bounds.Bounds.{Bounds}
use Rattle.shape_checks.specs.Bounds.{bounds_of, bounds_with, limit_of, step_of, turns, where_typed}
use Rattle.step_program.specs.Programs.{Expr, Move}
use Rattle.step_pieces.specs.Pieces.{Piece, nothing, behind, top}
use Rattle.step_pieces.specs.Drafts.{one_temp}
use Rattle.lowered_statements.specs.Scopes.{Local, Scope, entered}
use Rattle.lowered_statements.specs.Ways.{Ways}
use Rattle.lowered_statements.specs.Stated.{all_moves, counter_of, looped, stated, turn_moves}
use Rattle.lowered_statements.specs.Code.{counter_piece, turns_piece}
use Rattle.lowered_values.proofs.Drafting.{behind_assoc}
use Rattle.lowered_statements.proofs.Drafted.{append_none}

-- ---- one turn

-- the temps of the turn before are taken again, the variable is given its value, and the body's steps are repeated
module _ (old now cut set new : Piece) (body : ℕ → Piece) (temp : ℕ) (shape : Shape) (bits : ℕ)
    (widths : cut.widths ≡ old.widths) (moves : cut.moves ≡ now.moves) (sets : set ≡ behind cut (counter_piece temp shape bits)) (news : new ≡ behind set (body (top 0 set))) where
  set_widths : set.widths ≡ old.widths
  set_widths = ap (λ (a : Piece). a.widths) sets ∙ append_none cut.widths ∙ widths

  same_top : top 0 set ≡ top 0 old
  same_top = ap (λ (ws : List ℕ). 0 + length ws) set_widths

  news_here : new ≡ behind set (body (top 0 old))
  news_here = news ∙ ap (λ (t : ℕ). behind set (body t)) same_top

  pub turn_widths : new.widths ≡ old.widths ++ (body (top 0 old)).widths
  turn_widths = ap (λ (a : Piece). a.widths) news_here ∙ ap (λ (ws : List ℕ). ws ++ (body (top 0 old)).widths) set_widths

  pub turn_moved : new.moves ≡ now.moves ++ turn_moves temp (Some shape) (body (top 0 old)) bits
  turn_moved =
      ap (λ (a : Piece). a.moves) news_here
      ∙ ap (λ (a : Piece). a.moves ++ (body (top 0 old)).moves) sets
      ∙ append_assoc cut.moves (counter_piece temp shape bits).moves (body (top 0 old)).moves
      ∙ ap (λ (ms : List Move). ms ++ turn_moves temp (Some shape) (body (top 0 old)) bits) moves

-- ---- what is left of the turns

one_less : (n k : ℕ) → k < n → n - k ≡ suc (n - (k + 1))
one_less n k h = omega arith

pub moves_more : (turn : ℕ → List Move) (b : Bounds) (k n : ℕ) (now new whole : List Move)
    → k < n → now ++ all_moves turn b k (n - k) ≡ whole → new ≡ now ++ turn (b.first + k * b.step)
    → new ++ all_moves turn b (k + 1) (n - (k + 1)) ≡ whole
moves_more turn b k n now new whole h is e =
    ap (λ (ms : List Move). ms ++ all_moves turn b (k + 1) (n - (k + 1))) e
    ∙ append_assoc now (turn (b.first + k * b.step)) (all_moves turn b (k + 1) (n - (k + 1)))
    ∙ ap (λ (left : ℕ). now ++ all_moves turn b k left) (sym (one_less n k h))
    ∙ is

pub first_kept : (count : ℕ) (old new more : List ℕ) → count ≡ length old → new ≡ old ++ more → take count new ≡ old
first_kept count old new more h e = ap₂ (λ (n : ℕ) (xs : List ℕ). take n xs) h e ∙ take-append_seam old more

none_left : (turn : ℕ → List Move) (b : Bounds) (k n left : ℕ) (now : List Move) → n ≡ k → now ++ all_moves turn b k (n - k) ≡ now
none_left turn b k n left now h =
    let none : n - k ≡ 0 = omega (arith, h) in
    ap (λ (left : ℕ). now ++ all_moves turn b k left) none ∙ append_none now

pub turns_done : (old new body : Piece) (temp : ℕ) (shape : Shape) (b : Bounds) (k n : ℕ) → n ≡ turns b → n ≡ k
    → new.widths ≡ old.widths ++ body.widths
    → new.moves ++ all_moves (turn_moves temp (Some shape) body) b k (n - k) ≡ old.moves ++ all_moves (turn_moves temp (Some shape) body) b 0 n
    → new ≡ behind old (turns_piece temp shape body b)
turns_done old new body temp shape b k n count end widths moves =
    let turn = turn_moves temp (Some shape) body in
    let all : new.moves ≡ old.moves ++ all_moves turn b 0 (turns b) =
    sym (none_left turn b k n 0 new.moves end) ∙ moves ∙ ap (λ (m : ℕ). old.moves ++ all_moves turn b 0 m) count in
    λ i. record { widths = widths i; moves = all i }

-- ---- the whole loop

pub no_bounds : (head : HeadTree) → head.shape ≡ None → bounds_of head ≡ None
no_bounds head h =
    let own = cond (same_name head.name head.next) (bounds_with (literal head.first) (limit_of head.name head.test) (step_of head.name head.step)) None in
    ap (λ (shape : Option Shape). where_typed shape own) h

next_top : (old now : Piece) (w : ℕ) → now ≡ behind old (one_temp w) → top 0 now ≡ top 0 old + 1
next_top old now w h = let e : length now.widths ≡ length (old.widths ++ w ∷ []) = ap (λ (a : Piece). length a.widths) h in let l = length-append old.widths (w ∷ []) in omega (arith, e, l)

pub loop_adds : (old now new : Piece) (shape : Shape) (b : Bounds) (body : ℕ → Piece) → (turns b ≡ 0 → ⊥)
    → now ≡ behind old (one_temp (counter_of (top 0 old) (Some shape)).width) → new ≡ behind now (turns_piece (top 0 old) shape (body (top 0 now)) b)
    → new ≡ behind old (looped (top 0 old) (Some shape) (body (top 0 old + 1)) (Some b))
loop_adds old now new shape b body some h k =
    let w = (counter_of (top 0 old) (Some shape)).width in
    let x = body (top 0 old + 1) in
    let turn : nat_eq (turns b) 0 ≡ false = ne_eqb (turns b) 0 some in
    let one : new ≡ behind now (turns_piece (top 0 old) shape x b) = k ∙ ap (λ (t : ℕ). behind now (turns_piece (top 0 old) shape (body t) b)) (next_top old now w h) in
    let two : new ≡ behind (behind old (one_temp w)) (turns_piece (top 0 old) shape x b) = one ∙ ap (λ (d : Piece). behind d (turns_piece (top 0 old) shape x b)) h in
    two
    ∙ behind_assoc old (one_temp w) (turns_piece (top 0 old) shape x b)
    ∙ ap (λ (e : Bool). behind old (if e then nothing else record { widths = w ∷ x.widths; moves = all_moves (turn_moves (top 0 old) (Some shape) x) b 0 (turns b) })) (sym turn)

pub loop_done : (ways : Ways) (scope inner : Scope) (guard : Expr) (head : HeadTree) (body : StmtTree) (old now new : Piece) (shape : Shape) (b : Bounds) (counter : Local)
    → head.shape ≡ Some shape → bounds_of head ≡ Some b → (turns b ≡ 0 → ⊥)
    → now ≡ behind old (one_temp (counter_of (top 0 old) (Some shape)).width) → counter ≡ counter_of (top 0 old) (Some shape) → inner ≡ entered scope head.name counter
    → new ≡ behind now (turns_piece counter.temp shape (stated ways inner guard (top 0 now) body).piece b)
    → new ≡ behind old (looped (top 0 old) head.shape (stated ways (entered scope head.name (counter_of (top 0 old) head.shape)) guard (top 0 old + 1) body).piece (bounds_of head))
loop_done ways scope inner guard head body old now new shape b counter shape_is bounds_is some h counter_is inner_is k =
    let from = top 0 old in
    let own = entered scope head.name (counter_of from (Some shape)) in
    let own_is : inner ≡ own = inner_is ∙ ap (λ (l : Local). entered scope head.name l) counter_is in
    let here : new ≡ behind now (turns_piece from shape (stated ways own guard (top 0 now) body).piece b) =
    k ∙ ap₂ (λ (t : ℕ) (s : Scope). behind now (turns_piece t shape (stated ways s guard (top 0 now) body).piece b)) (ap (λ (l : Local). l.temp) counter_is) own_is in
    loop_adds old now new shape b (λ t. (stated ways own guard t body).piece) some h here
    ∙ ap₂ (λ (o : Option Shape) (r : Option Bounds). behind old (looped from o (stated ways (entered scope head.name (counter_of from o)) guard (from + 1) body).piece r)) (sym shape_is) (sym bounds_is)
