-- What a console keeps and prints, edge by edge.
use Rattle.std.proofs.Common.{◌≡◌, ℕ, zero, suc, ◌+◌, Bool, true, false, cond, List, [], ◌∷◌, ◌++◌, drop, map, refl, sym, ap, ◌∙◌, arith, Result, Ok, Err}
use Rattle.std.specs.Prelude.{◌==◌, ◌%◌, not, filter, count_by, slice_index, Option, Some, None, IfOk, OnOk}
use Rattle.std.proofs.lemmas.List.{map-append}
use Rattle.std.proofs.lemmas.List.Elements.{filter-append}
use Rattle.std.proofs.lemmas.List.Sums.{sum_by-append}
use Rattle.lisa_board.specs.declared.parts.Console.{Console}
use Rattle.lisa_board.specs.Feeding.{edges_of, has_changed, rest_of, offer, offers, printed_by}
use Rattle.lisa_board.specs.Kept.{Seen, seen_by, offered_by, next_seen, shown_by}
use Rattle.lisa_board.proofs.RowLists.{edges_more}

drop_more : (n : ℕ) (xs : List ℕ) → drop 1 (drop n xs) ≡ drop (n + 1) xs
drop_more zero xs = refl
drop_more (suc n) [] = let e : suc n + 1 ≡ suc (n + 1) = omega arith in rw e refl
drop_more (suc n) (x ∷ xs) = let e : suc n + 1 ≡ suc (n + 1) = omega arith in rw e (drop_more n xs)

taken_more : (same : Bool) (before : ℕ) (input : List ℕ) → cond same (drop before input) (drop 1 (drop before input)) ≡ drop (before + cond (not same) 1 0) input
taken_more true before input = let e : before ≡ before + 0 = omega arith in ap (λ n. drop n input) e
taken_more false before input = drop_more before input

shown_more : (same : Bool) {X : Type 0} (f : X → ℕ) (x : X) → map f (cond (not same) (x ∷ []) []) ≡ cond same [] (f x ∷ [])
shown_more true f x = refl
shown_more false f x = refl

module _ (console : Console) (earlier : List (List ℕ)) (row next : List ℕ) where
  -- one more edge takes one more byte, where it changed TAKEN
  rest_more : (input : List ℕ) → (next_seen console (seen_by (Some console) input earlier row) next).rest ≡ rest_of console input ((earlier ++ row ∷ []) ++ next ∷ [])
  rest_more input = taken_more (slice_index row console.taken == slice_index next console.taken) before input ∙ ap (λ n. drop n input) (sym counted)
    where
      before : ℕ
      before = count_by (has_changed console.taken) (edges_of (earlier ++ row ∷ []))

      change : ℕ
      change = cond (not (slice_index row console.taken == slice_index next console.taken)) 1 0

      counted : count_by (has_changed console.taken) (edges_of ((earlier ++ row ∷ []) ++ next ∷ [])) ≡ before + change
      counted =
          ap (count_by (has_changed console.taken)) (edges_more earlier row next)
          ∙ sum_by-append (λ e. cond (has_changed console.taken e) 1 0) (edges_of (earlier ++ row ∷ [])) ((row, next) ∷ [])
          ∙ (let e : 0 + change ≡ change = omega arith in ap (λ k. before + k) e)

  pub seen_more : (input : List ℕ) → next_seen console (seen_by (Some console) input earlier row) next ≡ seen_by (Some console) input (earlier ++ row ∷ []) next
  seen_more input = λ i. record { rest = rest_more input i; strobe = slice_index next console.strobe; taken = slice_index next console.taken }

  -- and prints one more byte, where it changed STROBE
  pub printed_more : printed_by (Some console) ((earlier ++ row ∷ []) ++ next ∷ []) ≡ printed_by (Some console) (earlier ++ row ∷ []) ++ shown_by console (slice_index row console.strobe) next
  printed_more =
      let byte : List ℕ × List ℕ → ℕ = λ e. slice_index e.1 console.shown % 256 in
      let kept : List (List ℕ × List ℕ) = filter (has_changed console.strobe) (edges_of (earlier ++ row ∷ [])) in
      ap (λ es. map byte (filter (has_changed console.strobe) es)) (edges_more earlier row next)
      ∙ ap (map byte) (filter-append (has_changed console.strobe) (edges_of (earlier ++ row ∷ [])) ((row, next) ∷ []))
      ∙ map-append byte kept (filter (has_changed console.strobe) ((row, next) ∷ []))
      ∙ ap (λ t. map byte kept ++ t) (shown_more (slice_index row console.strobe == slice_index next console.strobe) byte (row, next))

-- what is offered is the next byte of what is left
pub offered_is : (console : Option Console) (input : List ℕ) (earlier : List (List ℕ)) (row : List ℕ) (rows : List (List ℕ)) → rows ≡ earlier ++ row ∷ []
    → offered_by console (seen_by console input earlier row).rest ≡ offers console input rows
offered_is None input earlier row rows is = refl
offered_is (Some console) input earlier row rows is = ap (λ r. offer console (rest_of console input r)) (sym is)

-- one row alone prints nothing
pub prints_nothing : (console : Option Console) (row : List ℕ) → [] ≡ printed_by console (row ∷ [])
prints_nothing None row = refl
prints_nothing (Some console) row = refl

-- the answer of one more look, at an optional console
pub seen_again : {E : Type 0} (o : Option Console) (console : Console) (input : List ℕ) (earlier : List (List ℕ)) (row next : List ℕ) (port : Seen) (r : Result Seen E)
    → o ≡ Some console → port ≡ seen_by o input earlier row → IfOk r (λ n. n ≡ next_seen console port next) → IfOk r (λ n. n ≡ seen_by o input (earlier ++ row ∷ []) next)
seen_again o console input earlier row next port (Ok n) is was gives =
    gives
    ∙ ap (λ p. next_seen console p next) (was ∙ ap (λ x. seen_by x input earlier row) is)
    ∙ seen_more console earlier row next input
    ∙ ap (λ x. seen_by x input (earlier ++ row ∷ []) next) (sym is)
seen_again o console input earlier row next port (Err e) is was gives = tt

pub printed_again : {T E : Type 0} (o : Option Console) (console : Console) (input : List ℕ) (earlier : List (List ℕ)) (row next : List ℕ) (port : Seen) (old new : List ℕ) (r : Result T E)
    → o ≡ Some console → port ≡ seen_by o input earlier row → old ≡ printed_by o (earlier ++ row ∷ []) → OnOk r (new ≡ old ++ shown_by console port.strobe next)
    → OnOk r (new ≡ printed_by o ((earlier ++ row ∷ []) ++ next ∷ []))
printed_again o console input earlier row next port old new (Ok t) is was had gives =
    gives
    ∙ ap (λ l. l ++ shown_by console port.strobe next) (had ∙ ap (λ x. printed_by x (earlier ++ row ∷ [])) is)
    ∙ ap (λ p. printed_by (Some console) (earlier ++ row ∷ []) ++ shown_by console p.strobe next) (was ∙ ap (λ x. seen_by x input earlier row) is)
    ∙ sym (printed_more console earlier row next)
    ∙ ap (λ x. printed_by x ((earlier ++ row ∷ []) ++ next ∷ [])) (sym is)
printed_again o console input earlier row next port old new (Err e) is was had gives = tt
