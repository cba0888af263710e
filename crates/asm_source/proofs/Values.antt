-- What the loop over the values of a `.word` keeps.
use Rattle.std.proofs.Common.{◌≡◌, ℕ, ◌+◌, ◌<◌, Bool, true, false, List, [], ◌∷◌, ◌++◌, length, Option, Some, None, Result, Ok, Err, refl, sym, ap, ◌∙◌, append_assoc, arith}
use Rattle.std.specs.Prelude.{◌&&◌, ◌==◌, IfSome}
use Rattle.std.specs.List.{slice_split}
use Rattle.std.specs.Option.{option_copied}
use denote.Ref.{Bor}
use Rattle.std.proofs.lemmas.List.{append-nil}
use Rattle.asm_source.specs.declared.flaw.Flaw.{Flaw}
use Rattle.asm_source.specs.declared.flaw.Flaw.TheVariants as flaws
use Rattle.asm_source.specs.Sums.{◌>>=◌}
use Rattle.asm_source.specs.Plain.{PlainValue}
use Rattle.asm_source.specs.Parts.{cell_of, value_and, past_expression, values_of}
use Rattle.text_lines.specs.Cuts.{parts_behind}
use Rattle.asm_source.specs.Gives.{Fails, Takes, values_with}

-- how much is left
abbrev pub left_size : Option (List ℕ) → ℕ
left_size None = 0
left_size (Some rest) = length rest + 1

abbrev Values : Type 0
Values = Result (List PlainValue) Flaw

pub begins : (r : Values) → values_with true [] r ≡ r
begins (Ok x) = refl
begins (Err e) = refl

regroup : (front : List PlainValue) (v : PlainValue) (r : Values) → values_with true front (r >>= λ all. Ok (v ∷ all)) ≡ values_with true (front ++ v ∷ []) r
regroup front v (Ok x) = ap (λ (l : List PlainValue). Ok l) (simp append_assoc)
regroup front v (Err e) = refl

passed : (v : PlainValue) (r : Values) → past_expression (r >>= λ all. Ok (v ∷ all)) ≡ past_expression r
passed v (Ok x) = refl
passed v (Err e) = refl

twice : (r : Values) → past_expression (past_expression r) ≡ past_expression r
twice (Ok x) = refl
twice (Err flaws.BadLine) = refl
twice (Err flaws.UnknownDirective) = refl
twice (Err flaws.BadExpression) = refl
twice (Err flaws.NoMemory) = refl

onto_spoiled : (front : List PlainValue) (r : Values) → values_with true front (past_expression r) ≡ past_expression r
onto_spoiled front (Ok x) = refl
onto_spoiled front (Err flaws.BadLine) = refl
onto_spoiled front (Err flaws.UnknownDirective) = refl
onto_spoiled front (Err flaws.BadExpression) = refl
onto_spoiled front (Err flaws.NoMemory) = refl

first_value : (text : List ℕ) (texts : List (List ℕ)) (r : Result PlainValue Flaw) → cell_of text ≡ r → values_of (text ∷ texts) ≡ value_and r (values_of texts)
unfolding values_of
first_value text texts r e = ap (λ (q : Result PlainValue Flaw). value_and q (values_of texts)) e

-- the first part of what is left
pub opened : (sound : Bool) (old : List PlainValue) (left : Option (List ℕ)) (text front : List ℕ) (texts : List (List ℕ)) (total : Values) → left ≡ Some text → slice_split (λ b. b == 44) text ≡ front ∷ texts → values_with sound old (values_of (parts_behind 44 left)) ≡ total → values_with sound old (values_of (front ∷ texts)) ≡ total
opened sound old left text front texts total is e same =
    ap (λ (l : List (List ℕ)). values_with sound old (values_of l)) (sym e) ∙ ap (λ (o : Option (List ℕ)). values_with sound old (values_of (parts_behind 44 o))) (sym is) ∙ same

-- nothing is left
pub closed : (sound s : Bool) (old : List PlainValue) (left : Option (List ℕ)) (total : Values) → left ≡ None → sound ≡ s → values_with sound old (values_of (parts_behind 44 left)) ≡ total → values_with s old (values_of []) ≡ total
closed sound s old left total is e same =
    ap (λ (b : Bool). values_with b old (values_of [])) (sym e) ∙ ap (λ (o : Option (List ℕ)). values_with sound old (values_of (parts_behind 44 o))) (sym is) ∙ same

pub smaller : (o : Option (Bor (List ℕ))) (left : Option (List ℕ)) (text : List ℕ) → left ≡ Some text → IfSome o (λ r. length r.now < length text) → left_size (option_copied o) < left_size left
smaller None left text is h = rw is (omega arith)
smaller (Some r) left text is h = rw is (omega (arith, h))

-- a value more
pub takes_on : (sound good : Bool) (old new : List PlainValue) (text : List ℕ) (texts : List (List ℕ)) → Takes (Ok good) old new (cell_of text) → values_with (sound && good) new (values_of texts) ≡ values_with sound old (values_of (text ∷ texts))
takes_on true true old new text texts t = ap (λ (l : List PlainValue). values_with true l (values_of texts)) t.2 ∙ sym (regroup old t.0 (values_of texts)) ∙ ap (values_with true old) (sym (first_value text texts (Ok t.0) t.1))
takes_on true false old new text texts t = sym (ap (values_with true old) (first_value text texts (Err flaws.BadExpression) t.0) ∙ onto_spoiled old (values_of texts))
takes_on false true old new text texts t = sym (ap past_expression (first_value text texts (Ok t.0) t.1) ∙ passed t.0 (values_of texts))
takes_on false false old new text texts t = sym (ap past_expression (first_value text texts (Err flaws.BadExpression) t.0) ∙ twice (values_of texts))

pub stops_at : (sound : Bool) (e : Flaw) (old new : List PlainValue) (text : List ℕ) (texts : List (List ℕ)) (total : Values) → Takes (Err e) old new (cell_of text) → values_with sound old (values_of (text ∷ texts)) ≡ total → Fails e total
stops_at sound flaws.NoMemory old new text texts total t same = tt
stops_at true flaws.BadLine old new text texts total t same = sym same ∙ ap (values_with true old) (first_value text texts (Err flaws.BadLine) t)
stops_at false flaws.BadLine old new text texts total t same = sym same ∙ ap past_expression (first_value text texts (Err flaws.BadLine) t)
stops_at true flaws.UnknownDirective old new text texts total t same = sym same ∙ ap (values_with true old) (first_value text texts (Err flaws.UnknownDirective) t)
stops_at false flaws.UnknownDirective old new text texts total t same = sym same ∙ ap past_expression (first_value text texts (Err flaws.UnknownDirective) t)
stops_at sound flaws.BadExpression old new text texts total t same = absurd t

no_values : values_of [] ≡ Ok []
unfolding values_of
no_values = refl

pub all_taken : (old : List PlainValue) (total : Values) → values_with true old (values_of []) ≡ total → total ≡ Ok old
all_taken old total same = sym same ∙ ap (values_with true old) no_values ∙ ap (λ (l : List PlainValue). Ok l) (append-nil old)

pub one_spoiled : (old : List PlainValue) (total : Values) → values_with false old (values_of []) ≡ total → total ≡ Err flaws.BadExpression
one_spoiled old total same = sym same ∙ ap past_expression no_values
