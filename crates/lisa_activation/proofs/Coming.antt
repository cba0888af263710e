-- Queues on the way to what is shown.
use Rattle.std.proofs.Common.{◌≡◌, ℕ, zero, suc, ◌+◌, ◌<◌, ◌≤◌, Bool, true, false, not, ◌&&◌, ◌||◌, refl, sym, ap, ap₂, ◌∙◌, subst, arith, nat_eq, nat_lt, nat_le, ⊎_elim}
use Rattle.std.proofs.lemmas.Bool.{eq-eqb, ne_eqb, cases_eq, cases_lt, lt-ltb, le-ltb, lt-leb, le-leb, ltb-true, and_parts}
use Rattle.activation_bits.specs.Members.{has}
use Rattle.activation_bits.proofs.HasBits.{has_none}
use Rattle.lisa_activation.specs.declared.kept.Queues.{Queues}
use Rattle.lisa_activation.specs.Columns.{ends}
use Rattle.lisa_activation.specs.Queued.{standing, entered, first, runs_in, above, count, HasTables, IsFinished}
use Rattle.lisa_activation.specs.Restored.{comes, IsShownBetween, IsRestored}

-- ---- the occurrences one after another

pub tables_same : (queues : Queues) → HasTables queues queues
tables_same queues = record { as_many = refl; run = λ stage number. refl; below = λ number. refl }

pub tables_both : (a b c : Queues) → HasTables a b → HasTables b c → HasTables a c
tables_both a b c one two = record {
  as_many = two.as_many ∙ one.as_many;
  run = λ stage number. two.run stage number ∙ one.run stage number;
  below = λ number. two.below number ∙ one.below number;
}

-- as far as an index what comes was recorded
pub record EnteredTo (shown : ℕ → ℕ → Bool) (steps : ℕ) (before now : Queues) (index : ℕ) : Type 0 where
  pub recorded : (stage number : ℕ) → stage < 8 → entered now stage number ≡ (nat_lt number index && (comes shown (above before number) steps number && nat_eq (stage + 1) (above before number)))
  pub same_first : (number : ℕ) → first now number ≡ first before number
  pub same_standing : (stage number : ℕ) → standing now stage number ≡ standing before stage number
  pub tables : HasTables before now

pub none_recorded : (shown : ℕ → ℕ → Bool) (steps : ℕ) (before : Queues) → ((stage number : ℕ) → entered before stage number ≡ false) → EnteredTo shown steps before before 0
none_recorded shown steps before none = record {
  recorded = λ stage number within. none stage number ∙ below number (comes shown (above before number) steps number && nat_eq (stage + 1) (above before number));
  same_first = λ number. refl;
  same_standing = λ stage number. refl;
  tables = tables_same before;
}
  where
    below : (number : ℕ) (x : Bool) → false ≡ (nat_lt number 0 && x)
    below number x = grind arith

one_more : (number index : ℕ) (x y : Bool) → (number ≡ index → x ≡ y) → ((nat_lt number index && x) || (y && nat_eq number index)) ≡ (nat_lt number (index + 1) && x)
one_more number index x y same =
    ⊎_elim (λ e. of x y (same e) (le-ltb number index (omega arith)) (eq-eqb number index e) (lt-ltb number (index + 1) (omega arith)))
    (λ ne. ⊎_elim
    (λ below. here x y (lt-ltb number index below) (ne_eqb number index ne) (lt-ltb number (index + 1) (omega arith)))
    (λ above. there x y (le-ltb number index above) (ne_eqb number index ne) (le-ltb number (index + 1) (omega arith)))
    (cases_lt number index))
    (cases_eq number index)
  where
    of : (x y : Bool) {a b c : Bool} → x ≡ y → a ≡ false → b ≡ true → c ≡ true → ((a && x) || (y && b)) ≡ (c && x)
    of x y e a b c = grind arith

    here : (x y : Bool) {a b c : Bool} → a ≡ true → b ≡ false → c ≡ true → ((a && x) || (y && b)) ≡ (c && x)
    here x y a b c = grind arith

    there : (x y : Bool) {a b c : Bool} → a ≡ false → b ≡ false → c ≡ false → ((a && x) || (y && b)) ≡ (c && x)
    there x y a b c = grind arith

grouped : (c s n : Bool) → (c && (s && n)) ≡ ((c && s) && n)
grouped c s n = grind arith

module _ (shown : ℕ → ℕ → Bool) (steps : ℕ) (before now after : Queues) (index : ℕ) (recorded : (stage number : ℕ) → stage < 8 → entered after stage number ≡ (entered now stage number || (comes shown (above now index) steps index && (nat_eq (stage + 1) (above now index) && nat_eq number index)))) (same_first : (number : ℕ) → first after number ≡ first now number) (same_standing : (stage number : ℕ) → standing after stage number ≡ standing now stage number) (tables : HasTables now after) where
  pub one_recorded : EnteredTo shown steps before now index → EnteredTo shown steps before after (index + 1)
  one_recorded far = record {
    recorded = λ stage number within.
        let here = λ (n : ℕ). comes shown (above before n) steps n && nat_eq (stage + 1) (above before n) in
        recorded stage number within
        ∙ ap (λ l. entered now stage number || (comes shown l steps index && (nat_eq (stage + 1) l && nat_eq number index))) (far.tables.below index)
        ∙ ap₂ (λ a b. a || b) (far.recorded stage number within) (grouped (comes shown (above before index) steps index) (nat_eq (stage + 1) (above before index)) (nat_eq number index))
        ∙ one_more number index (here number) (here index) (λ e. ap here e);
    same_first = λ number. same_first number ∙ far.same_first number;
    same_standing = λ stage number. same_standing stage number ∙ far.same_standing stage number;
    tables = tables_both before now after far.tables tables;
  }

pub all_recorded : (shown : ℕ → ℕ → Bool) (steps : ℕ) (before now : Queues) (index : ℕ) → index ≡ count before → EnteredTo shown steps before now index → (stage number : ℕ) → stage < 8 → entered now stage number ≡ (nat_lt number (count before) && (comes shown (above before number) steps number && nat_eq (stage + 1) (above before number)))
all_recorded shown steps before now index e far stage number within =
    far.recorded stage number within
    ∙ ap (λ n. nat_lt number n && (comes shown (above before number) steps number && nat_eq (stage + 1) (above before number))) e

-- one occurrence, by whether it comes
pub first_kept : (shown : ℕ → ℕ → Bool) (level steps number : ℕ) (a other : Bool) → comes shown level steps number ≡ true → (a || (nat_eq level 0 && other)) ≡ a
first_kept shown level steps number a other is =
    let above_none : 0 < level = ltb-true 0 level (and_parts (nat_lt 0 level) _ is).0 in
    unset a (nat_eq level 0) other (ne_eqb level 0 (λ e. omega arith))
  where
    unset : (a b c : Bool) → b ≡ false → (a || (b && c)) ≡ a
    unset a b c e = grind arith

pub none_comes : (a b c : Bool) → b ≡ false → a ≡ (a || (b && c))
none_comes a b c e = grind arith

-- ---- the stages one after another

-- so many ends of edges before it, what is shown stands that much earlier
abbrev pub coming : (ℕ → ℕ → Bool) → ℕ → ℕ → ℕ → ℕ → Bool
coming shown level steps stage number = nat_lt 0 level && (nat_le level stage && (nat_lt (stage + steps) 8 && shown (stage + steps) number))

pub record Coming (shown : ℕ → ℕ → Bool) (before now : Queues) (steps : ℕ) : Type 0 where
  pub stand : (stage number : ℕ) → stage < 8 → number < count before → standing now stage number ≡ coming shown (above before number) steps stage number
  pub none_beyond : (stage number : ℕ) → stage < 8 → count before ≤ number → standing now stage number ≡ false
  pub none_entered : (stage number : ℕ) → entered now stage number ≡ false
  pub none_first : (number : ℕ) → first now number ≡ false
  pub tables : HasTables before now

all_flushed : (stage : ℕ) → stage < 8 → has 255 stage ≡ true
all_flushed zero within = refl
all_flushed (suc zero) within = refl
all_flushed (suc (suc zero)) within = refl
all_flushed (suc (suc (suc zero))) within = refl
all_flushed (suc (suc (suc (suc zero)))) within = refl
all_flushed (suc (suc (suc (suc (suc zero))))) within = refl
all_flushed (suc (suc (suc (suc (suc (suc zero)))))) within = refl
all_flushed (suc (suc (suc (suc (suc (suc (suc zero))))))) within = refl
all_flushed (suc (suc (suc (suc (suc (suc (suc (suc stage)))))))) within = absurd (omega arith)

none_left : (stood runs recorded : ℕ → Bool) (stage : ℕ) → stage < 8 → ends stood runs recorded 0 255 stage ≡ false
none_left stood runs recorded zero within = shut (stood 0) (has 0 0) (not (has 255 0)) (has_none 0)
  where
    shut : (a b c : Bool) → b ≡ false → (a && (b && c)) ≡ false
    shut a b c e = grind arith
none_left stood runs recorded (suc stage) within = shut (stood (suc stage)) (has 0 (suc stage)) (not (has 255 (suc stage))) (has 0 stage) (has 255 stage) ((stood stage && not (runs stage)) || recorded stage) (has_none (suc stage)) (all_flushed stage (omega arith))
  where
    shut : (a b c d e x : Bool) → b ≡ false → e ≡ true → ((a && (b && c)) || ((not d && not e) && x)) ≡ false
    shut a b c d e x one two = grind arith

pub begun : (shown : ℕ → ℕ → Bool) (before now : Queues) → IsFinished before now 0 255 → Coming shown before now 8
begun shown before now ended = record {
  stand = λ stage number within inside.
      ended.stand stage number within
      ∙ none_left (λ s. standing before s number) (λ s. runs_in before s number) (λ s. entered before s number) stage within
      ∙ far (nat_lt 0 (above before number)) (nat_le (above before number) stage) (nat_lt (stage + 8) 8) (shown (stage + 8) number) (le-ltb (stage + 8) 8 (omega arith));
  none_beyond = λ stage number within beyond.
      ended.stand stage number within ∙ none_left (λ s. standing before s number) (λ s. runs_in before s number) (λ s. entered before s number) stage within;
  none_entered = ended.none_entered;
  none_first = ended.none_first;
  tables = ended.tables;
}
  where
    far : (a b c d : Bool) → c ≡ false → false ≡ (a && (b && (c && d)))
    far a b c d e = grind arith

-- what moves on from a stage where none is held or flushed
moves : (stood runs recorded : ℕ → Bool) (stage : ℕ) → ends stood runs recorded 0 0 (suc stage) ≡ ((stood stage && not (runs stage)) || recorded stage)
moves stood runs recorded stage = open_all (stood (suc stage)) (has 0 (suc stage)) (not (has 0 (suc stage))) (has 0 stage) ((stood stage && not (runs stage)) || recorded stage) (has_none (suc stage)) (has_none stage)
  where
    open_all : (a b c d x : Bool) → b ≡ false → d ≡ false → ((a && (b && c)) || ((not d && not d) && x)) ≡ x
    open_all a b c d x one two = grind arith

at_own : (z a o r t q b : Bool) → a ≡ false → q ≡ true → b ≡ true → (((z && (a && o)) && not r) || ((z && t) && q)) ≡ (z && (b && t))
at_own z a o r t q b one two three = grind arith

off : (z a o r t q b u : Bool) → a ≡ false → q ≡ false → b ≡ false → (((z && (a && o)) && not r) || ((z && t) && q)) ≡ (z && (b && u))
off z a o r t q b u one two three = grind arith

unrun : (z a w s t q b : Bool) → a ≡ true → q ≡ false → b ≡ true → (((z && (a && (w && s))) && not false) || ((z && t) && q)) ≡ (z && (b && (w && s)))
unrun z a w s t q b one two three = grind arith

hidden : (z a w s r t q b : Bool) → q ≡ false → (w && s) ≡ false → (((z && (a && (w && s))) && not r) || ((z && t) && q)) ≡ (z && (b && (w && s)))
hidden z a w s r t q b two none = grind arith

moved : (z a w s r t q b : Bool) → a ≡ true → q ≡ false → b ≡ true → (s ≡ true → w ≡ true → r ≡ false) → (((z && (a && (w && s))) && not r) || ((z && t) && q)) ≡ (z && (b && (w && s)))
moved z a true true r t q b one two three h = ap (λ r. ((z && (a && (true && true))) && not r) || ((z && t) && q)) (h refl refl) ∙ unrun z a true true t q b one two three
moved z a true false r t q b one two three h = hidden z a true false r t q b two refl
moved z a false s r t q b one two three h = hidden z a false s r t q b two refl

-- what stands at a stage, and what is recorded before it
step : (shown : ℕ → ℕ → Bool) (level steps stage number : ℕ) (runs : Bool) → (shown (stage + suc steps) number ≡ true → nat_lt (stage + suc steps) 8 ≡ true → runs ≡ false) → ((coming shown level (suc steps) stage number && not runs) || (comes shown level steps number && nat_eq (stage + 1) level)) ≡ coming shown level steps (suc stage) number
step shown level steps stage number runs until = ⊎_elim here there (cases_lt stage level)
  where
    same : stage + suc steps ≡ suc stage + steps
    same = omega arith

    old : Bool
    old = nat_lt (stage + suc steps) 8 && shown (stage + suc steps) number

    -- the activator's stage comes later, or is this one
    here : stage < level → ((coming shown level (suc steps) stage number && not runs) || (comes shown level steps number && nat_eq (stage + 1) level)) ≡ coming shown level steps (suc stage) number
    here low =
        ⊎_elim
        (λ e.
        ap (λ l. (coming shown l (suc steps) stage number && not runs) || (comes shown l steps number && nat_eq (stage + 1) l)) e
        ∙ at_own (nat_lt 0 (suc stage)) (nat_le (suc stage) stage) old runs (nat_lt (suc stage + steps) 8 && shown (suc stage + steps) number) (nat_eq (stage + 1) (suc stage)) (nat_le (suc stage) (suc stage)) (lt-leb (suc stage) stage (omega arith)) (eq-eqb (stage + 1) (suc stage) (omega arith)) (le-leb (suc stage) (suc stage) (omega arith))
        ∙ ap (λ l. coming shown l steps (suc stage) number) (sym e))
        (λ ne. off (nat_lt 0 level) (nat_le level stage) old runs (nat_lt (level + steps) 8 && shown (level + steps) number) (nat_eq (stage + 1) level) (nat_le level (suc stage)) (nat_lt (suc stage + steps) 8 && shown (suc stage + steps) number) (lt-leb level stage low) (ne_eqb (stage + 1) level (λ f. omega arith)) (lt-leb level (suc stage) (omega arith)))
        (cases_eq level (suc stage))

    -- it came before
    there : level ≤ stage → ((coming shown level (suc steps) stage number && not runs) || (comes shown level steps number && nat_eq (stage + 1) level)) ≡ coming shown level steps (suc stage) number
    there low =
        moved (nat_lt 0 level) (nat_le level stage) (nat_lt (stage + suc steps) 8) (shown (stage + suc steps) number) runs (nat_lt (level + steps) 8 && shown (level + steps) number) (nat_eq (stage + 1) level) (nat_le level (suc stage)) (le-leb level stage low) (ne_eqb (stage + 1) level (λ f. omega arith)) (le-leb level (suc stage) (omega arith)) until
        ∙ ap (λ n. nat_lt 0 level && (nat_le level (suc stage) && (nat_lt n 8 && shown n number))) same

not_held : (a b c : Bool) → b ≡ false → (a && (b && c)) ≡ false
not_held a b c e = grind arith

not_first : (level : ℕ) (x : Bool) → false ≡ (nat_lt 0 level && (nat_le level 0 && x))
not_first level x = grind arith

inside_and : (b x : Bool) → b ≡ true → (b && x) ≡ x
inside_and b x e = grind arith

none_moves : (stood runs below x : Bool) → stood ≡ false → below ≡ false → ((stood && not runs) || (below && x)) ≡ false
none_moves stood runs below x one two = grind arith

pub one_step : (shown : ℕ → ℕ → Bool) (before now recorded after : Queues) (steps : ℕ) → IsShownBetween before shown → EnteredTo shown steps now recorded (count now) → IsFinished recorded after 0 0 → Coming shown before now (suc steps) → Coming shown before after steps
one_step shown before now recorded after steps between all ended far = record {
  stand = stand;
  none_beyond = none_beyond;
  none_entered = ended.none_entered;
  none_first = ended.none_first;
  tables = tables_both before recorded after so_far ended.tables;
}
  where
    so_far : HasTables before recorded
    so_far = tables_both before now recorded far.tables all.tables

    stand : (stage number : ℕ) → stage < 8 → number < count before → standing after stage number ≡ coming shown (above before number) steps stage number
    stand zero number within inside =
        ended.stand 0 number within
        ∙ not_held (standing recorded 0 number) (has 0 0) (not (has 0 0)) (has_none 0)
        ∙ not_first (above before number) (nat_lt (0 + steps) 8 && shown (0 + steps) number)
    stand (suc stage) number within inside =
        ended.stand (suc stage) number within
        ∙ moves (λ s. standing recorded s number) (λ s. runs_in recorded s number) (λ s. entered recorded s number) stage
        ∙ ap₂ (λ a b. a || b)
        (ap₂ (λ a b. a && not b) (all.same_standing stage number ∙ far.stand stage number (omega arith) inside) (so_far.run stage number))
        (all.recorded stage number (omega arith)
        ∙ inside_and (nat_lt number (count now)) (comes shown (above now number) steps number && nat_eq (stage + 1) (above now number)) (lt-ltb number (count now) (subst (λ n. number < n) (sym far.tables.as_many) inside))
        ∙ ap (λ l. comes shown l steps number && nat_eq (stage + 1) l) (far.tables.below number))
        ∙ step shown (above before number) steps stage number (runs_in before stage number) (λ is small. (between (stage + suc steps) number (ltb-true (stage + suc steps) 8 small) inside is).until_own stage (omega arith))

    none_beyond : (stage number : ℕ) → stage < 8 → count before ≤ number → standing after stage number ≡ false
    none_beyond zero number within beyond = ended.stand 0 number within ∙ not_held (standing recorded 0 number) (has 0 0) (not (has 0 0)) (has_none 0)
    none_beyond (suc stage) number within beyond =
        ended.stand (suc stage) number within
        ∙ moves (λ s. standing recorded s number) (λ s. runs_in recorded s number) (λ s. entered recorded s number) stage
        ∙ ap (λ e. (standing recorded stage number && not (runs_in recorded stage number)) || e) (all.recorded stage number (omega arith))
        ∙ none_moves (standing recorded stage number) (runs_in recorded stage number) (nat_lt number (count now)) (comes shown (above now number) steps number && nat_eq (stage + 1) (above now number)) (all.same_standing stage number ∙ far.none_beyond stage number (omega arith) beyond) (le-ltb number (count now) (subst (λ n. n ≤ number) (sym far.tables.as_many) beyond))

pub one_end : (shown : ℕ → ℕ → Bool) (before now recorded after : Queues) (steps i : ℕ) → i + 1 ≡ steps → IsShownBetween before shown → EnteredTo shown i now recorded (count now) → IsFinished recorded after 0 0 → Coming shown before now steps → Coming shown before after i
one_end shown before now recorded after steps i e between all ended far =
    let at : steps ≡ suc i = omega arith in
    one_step shown before now recorded after i between all ended (subst (λ n. Coming shown before now n) at far)

pub all_come : (shown : ℕ → ℕ → Bool) (before now : Queues) (steps : ℕ) → steps ≡ 0 → IsShownBetween before shown → Coming shown before now steps → IsRestored before now shown
all_come shown before now steps e between far = record {
  stand = λ stage number within inside.
      far.stand stage number within inside
      ∙ ap (λ s. coming shown (above before number) s stage number) e
      ∙ ap (λ n. nat_lt 0 (above before number) && (nat_le (above before number) stage && (nat_lt n 8 && shown n number))) (add_none stage)
      ∙ of stage number within inside (shown stage number) refl;
  none_beyond = far.none_beyond;
  none_entered = far.none_entered;
  none_first = far.none_first;
  tables = far.tables;
}
  where
    add_none : (n : ℕ) → n + 0 ≡ n
    add_none n = omega arith

    all : (a b c d : Bool) → a ≡ true → b ≡ true → c ≡ true → (a && (b && (c && d))) ≡ d
    all a b c d one two three = grind arith

    none : (a b c d : Bool) → d ≡ false → (a && (b && (c && d))) ≡ d
    none a b c d e = grind arith

    of : (stage number : ℕ) → stage < 8 → number < count before → (b : Bool) → shown stage number ≡ b → (nat_lt 0 (above before number) && (nat_le (above before number) stage && (nat_lt stage 8 && shown stage number))) ≡ shown stage number
    of stage number within inside true is =
        let b = between stage number within inside is in
        all (nat_lt 0 (above before number)) (nat_le (above before number) stage) (nat_lt stage 8) (shown stage number) (lt-ltb 0 (above before number) b.has_activator) (le-leb (above before number) stage b.after_activator) (lt-ltb stage 8 within)
    of stage number within inside false is = none (nat_lt 0 (above before number)) (nat_le (above before number) stage) (nat_lt stage 8) (shown stage number) is
