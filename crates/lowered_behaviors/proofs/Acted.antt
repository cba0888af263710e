-- What the alternatives of a child do, one after the other.
use Rattle.std.proofs.Common.{◌≡◌, ◌∙◌, ℕ, zero, suc, ◌+◌, ◌<◌, ◌≤◌, List, [], ◌∷◌, Option, None, Some, map, drop, get_or, length, refl, sym, ap, ap₂, arith}
use Rattle.std.proofs.lemmas.List.{drop_all}
use Rattle.lisa_tree.specs.declared.tokens.Shape.{Shape}
use Rattle.step_program.specs.Programs.{Expr, Const, Temp}
use Rattle.typed_values.specs.Words.{word_width}
use Rattle.step_pieces.specs.Pieces.{Piece, nothing, behind, top, held, set_temp}
use Rattle.lowered_values.specs.Computed.{Computed}
use Rattle.lowered_values.specs.Operands.{operand_of}
use Rattle.lowered_statements.specs.Stated.{shaped}
use Rattle.lowered_statements.proofs.Drafted.{then_adds, none_behind}
use Rattle.lowered_words.specs.Ways.{Way}
use Rattle.lowered_behaviors.specs.Standpoints.{Standpoint, own_way}
use Rattle.lowered_behaviors.specs.Values.{Ground, child_value, chosen_value}
use Rattle.lowered_behaviors.specs.Behaviors.{done_by, done_by_all}
use Rattle.lowered_behaviors.specs.Code.{choice_piece, guard_out, guard_piece}

-- its guard, and then what it does
pub done_is : (g : Ground) (act : Standpoint → (guard : Expr) → ℕ → Piece) (guard : Expr) (from : ℕ) (a : Standpoint) (way : Option Way)
    → done_by g act guard from a way ≡ behind (guard_piece g guard way from) (act a (guard_out guard way from) (top from (guard_piece g guard way from)))
done_is g act guard from a None =
    let e : from + 0 ≡ from = omega arith in
    ap (λ (t : ℕ). behind nothing (act a guard t)) (sym e)
done_is g act guard from a (Some way) = refl

-- what is left of the alternatives puts the same behind
pub done_more : (g : Ground) (act : Standpoint → (guard : Expr) → ℕ → Piece) (guard : Expr) (now mid new whole : Piece) (a : Standpoint) (rest : List Standpoint)
    → behind now (done_by_all g act guard (top 0 now) (a ∷ rest)) ≡ whole
    → mid ≡ behind now (guard_piece g guard (own_way a) (top 0 now)) → new ≡ behind mid (act a (guard_out guard (own_way a) (top 0 now)) (top 0 mid))
    → behind new (done_by_all g act guard (top 0 new) rest) ≡ whole
done_more g act guard now mid new whole a rest is first second =
    let here = done_by g act guard (top 0 now) a (own_way a) in
    let done : new ≡ behind now here =
    then_adds now mid new (guard_piece g guard (own_way a) (top 0 now)) (λ t. act a (guard_out guard (own_way a) (top 0 now)) t) first second
    ∙ ap (behind now) (sym (done_is g act guard (top 0 now) a (own_way a))) in
    then_adds now new (behind new (done_by_all g act guard (top 0 new) rest)) here (λ t. done_by_all g act guard t rest) done refl ∙ is

-- and so for a child's value
pub chosen_more : (value : Standpoint → ℕ → Computed) (g : Ground) (shape : Shape) (temp : ℕ) (now new whole : Piece) (a : Standpoint) (rest : List Standpoint)
    → behind now (chosen_value value g shape temp (top 0 now) (a ∷ rest)) ≡ whole → new ≡ behind now (choice_piece value g shape.width temp (top 0 now) a)
    → behind new (chosen_value value g shape temp (top 0 new) rest) ≡ whole
chosen_more value g shape temp now new whole a rest is done =
    then_adds now new (behind new (chosen_value value g shape temp (top 0 new) rest)) (choice_piece value g shape.width temp (top 0 now) a) (λ t. chosen_value value g shape temp t rest) done refl ∙ is

-- ---- lists

pub item_at : {A B : Type 0} (f : A → B) (all : List A) (i : ℕ) (d : A) → i < length all → map f (drop i all) ≡ f (get_or all i d) ∷ map f (drop (i + 1) all)
item_at f [] i d within = absurd (omega arith)
item_at f (x ∷ xs) zero d within = refl
item_at f (x ∷ xs) (suc i) d within =
    let e : suc i + 1 ≡ suc (i + 1) = omega arith in
    item_at f xs i d (omega arith) ∙ ap (λ (j : ℕ). f (get_or xs i d) ∷ map f (drop j (x ∷ xs))) (sym e)

pub none_left : {A B : Type 0} (f : A → B) (all : List A) (i : ℕ) → length all ≤ i → map f (drop i all) ≡ []
none_left f all i past = ap (map f) (drop_all i all past)

-- ---- drafts

-- one more temp is a piece of its own
pub held_adds : (old : Piece) (width : ℕ) (e : Expr) → held 0 old width e ≡ behind old (held (top 0 old) nothing width e)
held_adds old width e =
    let same : top 0 old + 0 ≡ top 0 old = omega arith in
    ap (λ (t : ℕ). behind old (record { widths = width ∷ []; moves = set_temp t e ∷ [] })) (sym same)

-- once none is left
pub all_added : (old now new : Piece) → behind now nothing ≡ behind old new → now ≡ behind old new
all_added old now new is = sym (none_behind now) ∙ is

-- ---- a child's value

module _ (value : Standpoint → ℕ → Computed) (g : Ground) (shape : Shape) (old : Piece) (width temp : ℕ) (wide : width ≡ word_width shape.width) (at : temp ≡ top 0 old) where
  pub child_adds : (mid new : Piece) (all : List Standpoint) → mid ≡ held 0 old width (Const width 0)
      → new ≡ behind mid (chosen_value value g (record { kind = shape.kind; width = width }) temp (top 0 mid) all) → new ≡ behind old (child_value value g (Some shape) (top 0 old) all).piece
  child_adds mid new all first second =
      let w = word_width shape.width in
      then_adds old mid new (held (top 0 old) nothing w (Const w 0)) (λ t. chosen_value value g (shaped shape) (top 0 old) t all)
      (first ∙ ap (λ (k : ℕ). held 0 old k (Const k 0)) wide ∙ held_adds old w (Const w 0))
      (second ∙ ap₂ (λ (k t : ℕ). behind mid (chosen_value value g (record { kind = shape.kind; width = k }) t (top 0 mid) all)) wide at)

  pub child_out : (all : List Standpoint) → operand_of shape.kind width (Temp temp) ≡ (child_value value g (Some shape) (top 0 old) all).out
  child_out all = ap₂ (λ (k t : ℕ). operand_of shape.kind k (Temp t)) wide at
