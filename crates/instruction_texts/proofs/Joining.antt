-- A meeting behind two steps.
use Rattle.std.proofs.Common.{◌≡◌, ℕ, ◌<◌, List, [], ◌∷◌, ◌++◌, length, Option, Some, None, refl, sym, subst}
use Rattle.std.specs.List.{slice_get}
use Rattle.instruction_texts.specs.declared.shapes.Token.{Token}
use Rattle.instruction_texts.specs.declared.places.Meeting.{Meeting}
use Rattle.instruction_texts.specs.Moves.{Step, IsCommon}
use Rattle.instruction_texts.specs.Meetings.{Comes, nothing, meeting, Joins}

pub get_last : {A : Type 0} (xs : List A) (y : A) → slice_get (xs ++ y ∷ []) (length xs) ≡ Some y
get_last [] y = refl
get_last (x ∷ xs) y = get_last xs y

pub no_first : (ms : List Meeting) (before : ℕ) (s t : Option Step) → s ≡ None → Joins ms ms before s t
no_first ms before None t e = record { adds = nothing; has = tt }
no_first ms before (Some s) t e = absurd cc

pub no_second : (ms : List Meeting) (before : ℕ) (s t : Option Step) → t ≡ None → Joins ms ms before s t
no_second ms before None t e = record { adds = nothing; has = tt }
no_second ms before (Some s) None e = record { adds = nothing; has = tt }
no_second ms before (Some s) (Some t) e = absurd cc

pub none_joins : (ms : List Meeting) (before : ℕ) (s t : Step) → IsCommon s.piece t.piece None → Joins ms ms before (Some s) (Some t)
none_joins ms before s t none = record { adds = nothing; has = λ token a b. absurd (none token a b) }

pub coming_joins : (ms : List Meeting) (before : ℕ) (s t : Step) → Comes ms s.next t.next → Joins ms ms before (Some s) (Some t)
coming_joins ms before s t comes = record { adds = nothing; has = λ token a b. comes }

pub pushed_joins : (ms new : List Meeting) (before : ℕ) (s t : Step) (token : Token) → IsCommon s.piece t.piece (Some token)
    → new ≡ ms ++ record { first = s.next; second = t.next; reached = Some (record { before = before; token = token }) } ∷ [] → Joins ms new before (Some s) (Some t)
pushed_joins ms new before s t token both e =
    subst (λ (l : List Meeting). Joins ms l before (Some s) (Some t)) (sym e) (record {
      adds = meeting token both.0 both.1;
      has = λ other a b. record {
        number = length ms;
        meeting = record { first = s.next; second = t.next; reached = Some (record { before = before; token = token }) };
        is = get_last ms _;
        first_is = refl;
        second_is = refl;
      };
    })
