-- What the reading of a dump answers, by its form and its fault.
use Rattle.std.proofs.Common.{◌≡◌, ℕ, ◌≤◌, Bool, true, false, cond, List, [], length, map, Option, Some, None, Result, Ok, Err, refl, sym, ap, subst, ◌∙◌, inl, inr}
use Rattle.std.specs.Prelude.{⊤, All, IfSome, find, count_by, nat_lt, ◌||◌, ◌==◌, not, codes}
use Rattle.std.specs.Option.{option_map}
use Rattle.std.specs.Result.{IsErrAnd}
use Rattle.std.proofs.lemmas.Bool.{ltb-false}
use Rattle.lisa_engine.specs.declared.parts.Item.{Item}
use Rattle.vcd_trace.specs.Written.{Variable, Changed, Dump}
use Rattle.vcd_trace.specs.Forms.{Form}
use Rattle.vcd_trace.specs.Parts.{form_of}
use Rattle.vcd_trace.specs.Meaning.{item_of, blocks, width_of, times_from, dump_of}
use Rattle.vcd_trace.specs.FormAnswers.{AnswersForm}
use Rattle.vcd_trace.specs.Checked.{checked, IsUnlessNoMemory}
use Rattle.vcd_trace.specs.VcdFaults.{is_unknown, is_misfit, first_fall, is_too_wide, is_time, first_changes, is_unset, event_place, too_many, or_else, unknown_code, bad_width, not_rising, value_width, no_first, counts, fault_of, Answers}
use Rattle.vcd_trace.specs.declared.faults.VcdFault.{VcdFault}
use Rattle.vcd_trace.specs.declared.faults.VcdFault.TheVariants.{BadToken, UnknownCode, BadWidth, NotRising, ValueWidth, NoFirst, TooMany, NoMemory}
use Rattle.vcd_trace.specs.declared.parts.Event.{Event}
use Rattle.vcd_trace.proofs.FindLaws.{each_fails}

-- a fault of a form
abbrev IsOfForm : VcdFault → Type 0
IsOfForm (BadToken at) = ⊥
IsOfForm (UnknownCode at) = ⊤
IsOfForm (BadWidth name width) = ⊤
IsOfForm (NotRising at) = ⊤
IsOfForm (ValueWidth at) = ⊤
IsOfForm (NoFirst name) = ⊤
IsOfForm (TooMany what count limit) = ⊤
IsOfForm NoMemory = ⊥

either : (a b : Option VcdFault) → IfSome a IsOfForm → IfSome b IsOfForm → IfSome (or_else a b) IsOfForm
either None b p q = q
either (Some x) b p q = p

mapped : {X : Type 0} (f : X → VcdFault) → ((x : X) → IsOfForm (f x)) → (o : Option X) → IfSome (option_map f o) IsOfForm
mapped f each None = tt
mapped f each (Some x) = each x

counted : (what : List ℕ) (count limit : ℕ) → IfSome (too_many what count limit) IsOfForm
counted what count limit = go (nat_lt limit count)
  where
    go : (b : Bool) → IfSome (cond b (Some (TooMany what count limit)) None) IsOfForm
    go true = tt
    go false = tt

of_form : (vs : List Variable) (es : List Event) → IfSome (fault_of vs es) IsOfForm
of_form vs es =
    either (unknown_code vs es) (or_else (bad_width vs) (or_else (not_rising es) (or_else (value_width vs es) (or_else (no_first vs es) (counts vs es)))))
    (mapped (λ (e : Event). UnknownCode (event_place e)) (λ e. tt) (find (is_unknown vs) es))
    (either (bad_width vs) (or_else (not_rising es) (or_else (value_width vs es) (or_else (no_first vs es) (counts vs es))))
    (mapped (λ (v : Variable). BadWidth v.name v.width) (λ v. tt) (find (is_misfit vs) vs))
    (either (not_rising es) (or_else (value_width vs es) (or_else (no_first vs es) (counts vs es)))
    (mapped (λ (at : ℕ). NotRising at) (λ at. tt) (first_fall None es))
    (either (value_width vs es) (or_else (no_first vs es) (counts vs es))
    (mapped (λ (e : Event). ValueWidth (event_place e)) (λ e. tt) (find (is_too_wide vs) es))
    (either (no_first vs es) (counts vs es)
    (mapped (λ (v : Variable). NoFirst v.name) (λ v. tt) (find (is_unset (first_changes (blocks es))) vs))
    (either (too_many (codes "items") (length vs) 8192) (too_many (codes "times") (count_by is_time es) 10001) (counted (codes "items") (length vs) 8192) (counted (codes "times") (count_by is_time es) 10001))))))

told : (bytes : List ℕ) (form : Form) (d : VcdFault) → form_of bytes ≡ Some form → fault_of form.variables form.events ≡ Some d → IsOfForm d → Answers bytes (Err d)
told bytes form (BadToken at) is fault p = absurd p
told bytes form (UnknownCode at) is fault p = (form, is, fault)
told bytes form (BadWidth name width) is fault p = (form, is, fault)
told bytes form (NotRising at) is fault p = (form, is, fault)
told bytes form (ValueWidth at) is fault p = (form, is, fault)
told bytes form (NoFirst name) is fault p = (form, is, fault)
told bytes form (TooMany what count limit) is fault p = (form, is, fault)
told bytes form NoMemory is fault p = absurd p

-- want of memory
pub answers_memory : (bytes : List ℕ) (r : Result Dump VcdFault) → IsErrAnd r (λ e. e ≡ NoMemory) → Answers bytes r
answers_memory bytes (Ok v) is = absurd is
answers_memory bytes (Err d) is = subst (λ (e : VcdFault). Answers bytes (Err e)) (sym is) tt

-- no form
pub answers_form : (bytes : List ℕ) (e : VcdFault) (r : Result Dump VcdFault) → IsErrAnd r (λ d. d ≡ e) → AnswersForm bytes (Err e) → Answers bytes r
answers_form bytes e (Ok v) is p = absurd is
answers_form bytes e (Err d) is p = subst (λ (x : VcdFault). Answers bytes (Err x)) (sym is) (go e p)
  where
    go : (e : VcdFault) → AnswersForm bytes (Err e) → Answers bytes (Err e)
    go (BadToken at) p = p
    go (UnknownCode at) p = absurd p
    go (BadWidth name width) p = absurd p
    go (NotRising at) p = absurd p
    go (ValueWidth at) p = absurd p
    go (NoFirst name) p = absurd p
    go (TooMany what count limit) p = absurd p
    go NoMemory p = tt

-- a fault of the form
pub answers_fault : (bytes : List ℕ) (form : Form) (e : VcdFault) (r : Result Dump VcdFault) → form_of bytes ≡ Some form → IsErrAnd r (λ d. d ≡ e)
    → IsUnlessNoMemory {T = Unit {0}} (checked (fault_of form.variables form.events)) (Err e) → Answers bytes r
answers_fault bytes form e (Ok v) is same p = absurd same
answers_fault bytes form e (Err d) is same p = subst (λ (x : VcdFault). Answers bytes (Err x)) (sym same) (go p)
  where
    by : (o : Option VcdFault) → fault_of form.variables form.events ≡ o → IfSome o IsOfForm → Err e ≡ checked o → Answers bytes (Err e)
    by None f p q = absurd cc
    by (Some x) f p q = let g : e ≡ x = cc in subst (λ (y : VcdFault). Answers bytes (Err y)) (sym g) (told bytes form x is f p)

    go : IsUnlessNoMemory {T = Unit {0}} (checked (fault_of form.variables form.events)) (Err e) → Answers bytes (Err e)
    go (inl q) = by (fault_of form.variables form.events) refl (of_form form.variables form.events) q
    go (inr q) = let g : e ≡ NoMemory = cc in subst (λ (y : VcdFault). Answers bytes (Err y)) (sym g) tt

-- the same, said of equal lists
pub answers_check : (bytes : List ℕ) (form : Form) (vs : List Variable) (es : List Event) (e : VcdFault) (r : Result Dump VcdFault) → form_of bytes ≡ Some form → vs ≡ form.variables → es ≡ form.events
    → IsErrAnd r (λ d. d ≡ e) → IsUnlessNoMemory {T = Unit {0}} (checked (fault_of vs es)) (Err e) → Answers bytes r
answers_check bytes form vs es e r is same_vs same_es same p =
    answers_fault bytes form e r is same
    (subst (λ (l : List Event). IsUnlessNoMemory {T = Unit {0}} (checked (fault_of form.variables l)) (Err e)) same_es
    (subst (λ (l : List Variable). IsUnlessNoMemory {T = Unit {0}} (checked (fault_of l es)) (Err e)) same_vs p))

pub dump_is : (form : Form) (items : List Item) (times : List Changed) (vs ws : List Variable) (es : List Event) → items ≡ map item_of vs → vs ≡ form.variables
    → times ≡ times_from ws None [] (blocks es) → ws ≡ form.variables → es ≡ form.events → ◌≡◌ {A = Dump} (record { items = items; times = times }) (dump_of form)
dump_is form items times vs ws es p same_vs q same_ws same_es =
    let declared : items ≡ map item_of form.variables = p ∙ ap (map item_of) same_vs in
    let timed : times ≡ times_from form.variables None [] (blocks form.events) = q ∙ (λ j. times_from (same_ws j) None [] (blocks (same_es j))) in
    λ i. record { items = declared i; times = timed i }

-- ---- what a form without fault promises

pub no_fault : (o : Option VcdFault) → IsUnlessNoMemory {T = Unit {0}} (checked o) (Ok tt) → o ≡ None
no_fault None p = refl
no_fault (Some x) (inl q) = absurd cc
no_fault (Some x) (inr q) = absurd cc

pub no_fault_of : (form : Form) (vs : List Variable) (es : List Event) → vs ≡ form.variables → es ≡ form.events → IsUnlessNoMemory {T = Unit {0}} (checked (fault_of vs es)) (Ok tt)
    → fault_of form.variables form.events ≡ None
no_fault_of form vs es same_vs same_es p = (λ i. fault_of (sym same_vs i) (sym same_es i)) ∙ no_fault (fault_of vs es) p

else_none : (a b : Option VcdFault) → or_else a b ≡ None → (a ≡ None) × (b ≡ None)
else_none None b e = (refl, e)
else_none (Some x) b e = absurd cc

map_none : {X : Type 0} (f : X → VcdFault) (o : Option X) → option_map f o ≡ None → o ≡ None
map_none f None e = refl
map_none f (Some x) e = absurd cc

fits_word : (vs : List Variable) (v : Variable) → is_misfit vs v ≡ false → v.width ≤ 64
fits_word vs v e = go (nat_lt v.width 1) (nat_lt 64 v.width) refl e
  where
    go : (a b : Bool) → nat_lt 64 v.width ≡ b → (a || b || not (v.width == width_of vs v.code)) ≡ false → v.width ≤ 64
    go true b is f = absurd cc
    go false true is f = absurd cc
    go false false is f = ltb-false 64 v.width is

module _ (vs : List Variable) (es : List Event) (none : fault_of vs es ≡ None) where
  pub narrow_all : All (λ v. v.width ≤ 64) vs
  narrow_all =
      let rest = (else_none (unknown_code vs es) (or_else (bad_width vs) (or_else (not_rising es) (or_else (value_width vs es) (or_else (no_first vs es) (counts vs es))))) none).1 in
      let width = (else_none (bad_width vs) (or_else (not_rising es) (or_else (value_width vs es) (or_else (no_first vs es) (counts vs es)))) rest).0 in
      each_fails (is_misfit vs) (λ (v : Variable). v.width ≤ 64) vs (λ v e. fits_word vs v e) (map_none (λ (v : Variable). BadWidth v.name v.width) (find (is_misfit vs) vs) width)

  pub few_all : length vs ≤ 8192
  few_all =
      let a = (else_none (unknown_code vs es) (or_else (bad_width vs) (or_else (not_rising es) (or_else (value_width vs es) (or_else (no_first vs es) (counts vs es))))) none).1 in
      let b = (else_none (bad_width vs) (or_else (not_rising es) (or_else (value_width vs es) (or_else (no_first vs es) (counts vs es)))) a).1 in
      let d = (else_none (not_rising es) (or_else (value_width vs es) (or_else (no_first vs es) (counts vs es))) b).1 in
      let e = (else_none (value_width vs es) (or_else (no_first vs es) (counts vs es)) d).1 in
      let f = (else_none (no_first vs es) (counts vs es) e).1 in
      let g = (else_none (too_many (codes "items") (length vs) 8192) (too_many (codes "times") (count_by is_time es) 10001) f).0 in
      go (nat_lt 8192 (length vs)) refl g
    where
      go : (b : Bool) → nat_lt 8192 (length vs) ≡ b → cond b (Some (TooMany (codes "items") (length vs) 8192)) None ≡ None → length vs ≤ 8192
      go true is f = absurd cc
      go false is f = ltb-false 8192 (length vs) is
