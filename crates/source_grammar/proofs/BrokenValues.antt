-- What is read of values, some of which have a bad expression.
use Rattle.std.proofs.Common.{◌≡◌, ℕ, ℤ, ⊎_elim, Bool, true, false, List, [], ◌∷◌, ◌++◌, Option, Some, None, Result, Ok, Err, refl, sym, ap, subst, ◌∙◌}
use Rattle.std.specs.Prelude.{◌==◌, codes}
use Rattle.std.specs.List.{list_all, slice_split}
use Rattle.std.proofs.lemmas.Bool.{eqb-true}
use Rattle.asm_source.specs.declared.flaw.Flaw.{Flaw}
use Rattle.asm_source.specs.declared.flaw.Flaw.TheVariants as flaws
use Rattle.asm_source.specs.Bytes.{is_blank, skip_blanks}
use Rattle.asm_source.specs.Plain.{PlainSum, PlainValue, Number, Added}
use Rattle.asm_source.specs.Sums.{◌>>=◌, Reading, operand_at}
use Rattle.asm_source.specs.Parts.{number_in, or_bad, cell_at, cell_of, value_and, values_of}
use Rattle.source_grammar.specs.Grammar.{Among, SpellsValue, SpellsValues, one_value, value}
use Rattle.source_grammar.specs.Refusals.{BreaksValue, SpellsMixed, good_last, broken_last, good_first, broken_first}
use Rattle.source_grammar.proofs.Runs.{bind_err, by_test, other_flaw, not_ok, blanks_of, skip_is}
use Rattle.source_grammar.proofs.BrokenSums.{operand_err, no_sum, sum_none}
use Rattle.source_grammar.proofs.ValueTexts.{lone, cell_found, cell_only}
use Rattle.source_grammar.proofs.ValueLists.{uncut, among_uncut, Cuts, whole, cut, parts_of, cuts_of, one_part, first_part, onto, cuts_found, values_step, no_values}

-- why a value isn't read
pub data CellErr (text : List ℕ) (e : Flaw) : Type 0 where
  bad_form : e ≡ flaws.BadLine → CellErr text e
  bad_sum : e ≡ flaws.BadExpression → (list_all uncut text ≡ true → BreaksValue text) → CellErr text e

number_err : (o : Option ℤ) (e : Flaw) → or_bad Number o ≡ Err e → e ≡ flaws.BadLine
number_err None e h = other_flaw _ e h
number_err (Some z) e h = absurd (not_ok (Number z) e h)

cell_err_at : (text rest : List ℕ) (e : Flaw) → skip_blanks text ≡ rest → cell_at rest ≡ Err e → CellErr text e
cell_err_at text [] e is h = bad_form (other_flaw _ e h)
cell_err_at text (b ∷ bs) e is h =
    ⊎_elim
    (λ at_sign. ⊎_elim
    (λ bad.
    let blanks = blanks_of text in
    bad_sum (operand_err bs e bad) (λ all. record {
      blanks = blanks.0;
      rest = bs;
      is = blanks.1 ∙ ap (λ (l : List ℕ). blanks.0 ++ l) (is ∙ ap (λ (c : ℕ). c ∷ bs) (eqb-true b 64 at_sign.0));
      blank = blanks.2;
      no_sum = no_sum bs e bad;
      no_comma = all;
    }))
    (λ got. ⊎_elim
    (λ yes. absurd (not_ok (Added got.0.0) e yes.1))
    (λ none. bad_form (other_flaw _ e none.1))
    (by_test (list_all is_blank got.0.1) (Ok (Added got.0.0)) (Err flaws.BadLine) (Err e) got.2))
    (bind_err (operand_at bs) lone e at_sign.1))
    (λ bare. bad_form (number_err (number_in (b ∷ bs)) e bare.1))
    (by_test (b == 64) (operand_at bs >>= lone) (or_bad Number (number_in (b ∷ bs))) (Err e) h)

pub cell_err : (text : List ℕ) (e : Flaw) → cell_of text ≡ Err e → CellErr text e
unfolding cell_of
cell_err text e h = cell_err_at text (skip_blanks text) e refl h

pub cell_broken : {text : List ℕ} → BreaksValue text → cell_of text ≡ Err flaws.BadExpression
unfolding cell_of
cell_broken v =
    ap (λ (l : List ℕ). cell_at (skip_blanks l)) v.is
    ∙ ap cell_at (skip_is v.blanks (codes "@" ++ v.rest) v.blank refl)
    ∙ ap (λ (q : Reading PlainSum). q >>= lone) (sum_none v.rest v.no_sum)

-- ---- all values

abbrev Values : Type 0
Values = Result (List PlainValue) Flaw

abbrev spoil : List PlainValue → Values
spoil all = Err flaws.BadExpression

-- why values aren't read
pub data ValuesErr (text : List ℕ) (e : Flaw) : Type 0 where
  bad_values : e ≡ flaws.BadLine → ValuesErr text e
  bad_sums : e ≡ flaws.BadExpression → SpellsMixed true text → ValuesErr text e

no_mixed : {text : List ℕ} {vs : List PlainValue} → SpellsValues text vs → SpellsMixed false text
no_mixed (one_value m) = good_last m
no_mixed (value split m more) = good_first split m (no_mixed more)

-- a first value that is read, and one that isn't, before further ones
good_err : (v : PlainValue) (more : Values) (e : Flaw) → value_and (Ok v) more ≡ Err e → more ≡ Err e
good_err v more e h = ⊎_elim (λ bad. bad) (λ got. absurd (not_ok (v ∷ got.0) e got.2)) (bind_err more (onto v) e h)

pub data FirstErr (texts : List (List ℕ)) (r : Result PlainValue Flaw) (e : Flaw) : Type 0 where
  bad_first : (f : Flaw) → r ≡ Err f → e ≡ f → (f ≡ flaws.BadExpression → ⊥) → FirstErr texts r e
  bad_behind : (v : PlainValue) → r ≡ Ok v → values_of texts ≡ Err e → FirstErr texts r e
  sum_and_bad : r ≡ Err flaws.BadExpression → values_of texts ≡ Err e → FirstErr texts r e
  sum_and_good : r ≡ Err flaws.BadExpression → e ≡ flaws.BadExpression → (vs : List PlainValue) → values_of texts ≡ Ok vs → FirstErr texts r e

first_err : (texts : List (List ℕ)) (r : Result PlainValue Flaw) (e : Flaw) → value_and r (values_of texts) ≡ Err e → FirstErr texts r e
first_err texts (Ok v) e h = bad_behind v refl (good_err v (values_of texts) e h)
first_err texts (Err flaws.BadExpression) e h =
    ⊎_elim (λ bad. sum_and_bad refl bad) (λ got. sum_and_good refl (other_flaw _ e got.2) got.0 got.1) (bind_err (values_of texts) spoil e h)
first_err texts (Err flaws.BadLine) e h = bad_first flaws.BadLine refl (other_flaw _ e h) (λ x. cc x)
first_err texts (Err flaws.UnknownDirective) e h = bad_first flaws.UnknownDirective refl (other_flaw _ e h) (λ x. cc x)
first_err texts (Err flaws.NoMemory) e h = bad_first flaws.NoMemory refl (other_flaw _ e h) (λ x. cc x)

values_err_first : (text : List ℕ) (texts : List (List ℕ)) (e : Flaw) → values_of (text ∷ texts) ≡ Err e → FirstErr texts (cell_of text) e
unfolding values_of
values_err_first text texts e h = first_err texts (cell_of text) e h

formless : (text whole_text : List ℕ) (f e : Flaw) → (f ≡ flaws.BadExpression → ⊥) → e ≡ f → CellErr text f → ValuesErr whole_text e
formless text whole_text f e other same (bad_form is) = bad_values (same ∙ is)
formless text whole_text f e other same (bad_sum is breaks) = absurd (other is)

breaks_of : (text : List ℕ) → list_all uncut text ≡ true → CellErr text flaws.BadExpression → BreaksValue text
breaks_of text all (bad_form is) = absurd (cc is)
breaks_of text all (bad_sum is breaks) = breaks all

values_err_none : (e : Flaw) → values_of [] ≡ Err e → ⊥
values_err_none e h = not_ok [] e (sym no_values ∙ h)

last_err : (text : List ℕ) (e : Flaw) → list_all uncut text ≡ true → FirstErr [] (cell_of text) e → ValuesErr text e
last_err text e all (bad_first f is same other) = formless text text f e other same (cell_err text f is)
last_err text e all (bad_behind v is h) = absurd (values_err_none e h)
last_err text e all (sum_and_bad is h) = absurd (values_err_none e h)
last_err text e all (sum_and_good is same vs rest) = bad_sums same (broken_last (breaks_of text all (cell_err text flaws.BadExpression is)))

good_before : {text first rest : List ℕ} {v : PlainValue} (e : Flaw) → text ≡ first ++ (codes "," ++ rest) → Among SpellsValue first v → ValuesErr rest e → ValuesErr text e
good_before e split m (bad_values is) = bad_values is
good_before e split m (bad_sums is mixed) = bad_sums is (good_first split m mixed)

broken_before : {text first rest : List ℕ} (e : Flaw) → text ≡ first ++ (codes "," ++ rest) → BreaksValue first → ValuesErr rest e → ValuesErr text e
broken_before e split m (bad_values is) = bad_values is
broken_before e split m (bad_sums is mixed) = bad_sums is (broken_first true split m mixed)

cut_err : (text first rest : List ℕ) (more : List (List ℕ)) (e : Flaw) → list_all uncut first ≡ true → text ≡ first ++ (codes "," ++ rest) → Cuts rest more → (values_of more ≡ Err e → ValuesErr rest e) → FirstErr more (cell_of first) e → ValuesErr text e
cut_err text first rest more e all split cuts later (bad_first f is same other) = formless first text f e other same (cell_err first f is)
cut_err text first rest more e all split cuts later (bad_behind v is h) = good_before e split (cell_found first v is) (later h)
cut_err text first rest more e all split cuts later (sum_and_bad is h) = broken_before e split (breaks_of first all (cell_err first flaws.BadExpression is)) (later h)
cut_err text first rest more e all split cuts later (sum_and_good is same vs good) =
    bad_sums same (broken_first false split (breaks_of first all (cell_err first flaws.BadExpression is)) (no_mixed (cuts_found cuts vs good)))

cuts_err : {text : List ℕ} {parts : List (List ℕ)} → Cuts text parts → (e : Flaw) → values_of parts ≡ Err e → ValuesErr text e
cuts_err (whole {text = text} all is) e h = last_err text e all (values_err_first text [] e (ap values_of (sym is) ∙ h))
cuts_err (cut {text = text} {first = first} {rest = rest} {more = more} all split cuts is) e h =
    cut_err text first rest more e all split cuts (cuts_err cuts e) (values_err_first first more e (ap values_of (sym is) ∙ h))

pub values_err : (text : List ℕ) (e : Flaw) → values_of (slice_split (λ b. b == 44) text) ≡ Err e → ValuesErr text e
values_err text e h = cuts_err (cuts_of text) e h

-- what is read of values, by whether there is a bad expression
abbrev IsMixed : Bool → Values → Type 0
IsMixed true r = r ≡ Err flaws.BadExpression
IsMixed false r = (vs : List PlainValue) × (r ≡ Ok vs)

broken_step : (text : List ℕ) (texts : List (List ℕ)) (later : Bool) → cell_of text ≡ Err flaws.BadExpression → IsMixed later (values_of texts) → values_of (text ∷ texts) ≡ Err flaws.BadExpression
unfolding values_of
broken_step text texts true h is = rw (h, is) refl
broken_step text texts false h is = rw (h, is.1) refl

good_err_step : (text : List ℕ) (texts : List (List ℕ)) (v : PlainValue) → cell_of text ≡ Ok v → values_of texts ≡ Err flaws.BadExpression → values_of (text ∷ texts) ≡ Err flaws.BadExpression
unfolding values_of
good_err_step text texts v h is = rw (h, is) refl

good_step : (text : List ℕ) (texts : List (List ℕ)) (v : PlainValue) (later : Bool) → cell_of text ≡ Ok v → IsMixed later (values_of texts) → IsMixed later (values_of (text ∷ texts))
good_step text texts v true h is = good_err_step text texts v h is
good_step text texts v false h is = (v ∷ is.0, values_step text texts v is.0 h is.1)

mixed_read : {broken : Bool} {text : List ℕ} → SpellsMixed broken text → IsMixed broken (values_of (parts_of text))
mixed_read (good_last {text = text} {v = v} m) = (v ∷ [], ap values_of (one_part text (among_uncut m)) ∙ values_step text [] v [] (cell_only m) no_values)
mixed_read (broken_last {text = text} m) = ap values_of (one_part text m.no_comma) ∙ broken_step text [] false (cell_broken m) ([], no_values)
mixed_read (good_first {broken = b} {text = text} {first = first} {rest = rest} {v = v} split m more) =
    subst (λ (l : List (List ℕ)). IsMixed b (values_of l)) (sym (ap parts_of split ∙ first_part first rest (among_uncut m))) (good_step first (parts_of rest) v b (cell_only m) (mixed_read more))
mixed_read (broken_first later {first = first} {rest = rest} split m more) =
    ap values_of (ap parts_of split ∙ first_part first rest m.no_comma) ∙ broken_step first (parts_of rest) later (cell_broken m) (mixed_read more)

pub mixed_only : {text : List ℕ} → SpellsMixed true text → values_of (slice_split (λ b. b == 44) text) ≡ Err flaws.BadExpression
mixed_only m = mixed_read m
