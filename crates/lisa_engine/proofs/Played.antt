-- Playing the lines of a schedule.
use Rattle.std.proofs.Common.{◌≡◌, ℕ, zero, suc, ◌+◌, ◌^◌, ◌<◌, ◌≤◌, Bool, true, false, List, [], ◌∷◌, ◌++◌, length, take, get_or, set, replicate, refl, sym, ap, ◌∙◌, subst, arith, ⊎_elim}
use Rattle.lisa_engine.proofs.Places.{any_default}
use Rattle.std.specs.Prelude.{All, AllPairs, fold, filter, nat_le}
use Rattle.std.specs.List.{flat_map}
use Rattle.std.proofs.lemmas.Bool.{cases_Bool, le-leb, lt-leb, cases_eq, cases_lt}
use Rattle.std.proofs.lemmas.Grind.{flat_map-append, get_or-set_at}
use Rattle.std.proofs.lemmas.List.{take_more, append-nil, length-set, length-replicate, get_or-set_other, get_or-replicate}
use Rattle.std.proofs.lemmas.Grind.{fold-append}
use Rattle.std.proofs.lemmas.List.Elements.{All-push}
use Rattle.std.proofs.lemmas.Nat.{pow_pos}
use Rattle.lisa_engine.specs.ScheduleLine.{Line}
use Rattle.lisa_engine.specs.Shape.{IsFitting, AreEntries}
use Rattle.lisa_engine.specs.PinValues.{set_pin, after_lines, lines_until, pins_at, pin_values, IsPlaceAfter, IsFor}
use Rattle.lisa_engine.specs.declared.parts.Item.{Item}
use Rattle.lisa_engine.specs.declared.parts.Setting.{Setting}

-- one more line
pub play_more : (pins : ℕ) (lines : List Line) (k : ℕ) (line : Line) → k < length lines → line ≡ get_or lines k line
    → after_lines pins (take (k + 1) lines) ≡ fold set_pin (after_lines pins (take k lines)) line.settings
play_more pins lines k line within is =
    ap (after_lines pins) (take_more lines k line within)
    ∙ ap (fold set_pin (replicate pins 0)) (flat_map-append (λ l. l.settings) (take k lines) (get_or lines k line ∷ []) ∙ ap (λ t. flat_map (λ l. l.settings) (take k lines) ++ t) (append-nil (get_or lines k line).settings))
    ∙ fold-append set_pin (replicate pins 0) (flat_map (λ l. l.settings) (take k lines)) (get_or lines k line).settings
    ∙ ap (λ l. fold set_pin (after_lines pins (take k lines)) l.settings) (sym is)

-- what a test keeps is a front, where it passes before a place and not from there on
kept_front : {X : Type 0} (p : X → Bool) (xs : List X) (k : ℕ) → k ≤ length xs → ((j : ℕ) (d : X) → j < k → p (get_or xs j d) ≡ true)
    → ((j : ℕ) (d : X) → k ≤ j → j < length xs → p (get_or xs j d) ≡ false) → filter p xs ≡ take k xs
kept_front p [] zero within before after = refl
kept_front p [] (suc k) within before after = absurd (omega arith)
kept_front p (x ∷ xs) zero within before after =
    rw (after 0 x (omega arith) (omega arith)) (kept_front p xs zero (omega arith) (λ j d l. absurd (omega arith)) (λ j d l b. after (suc j) d (omega arith) (omega arith)))
kept_front p (x ∷ xs) (suc k) within before after =
    rw (before 0 x (omega arith)) (ap (λ t. x ∷ t) (kept_front p xs k (omega arith) (λ j d l. before (suc j) d (omega arith)) (λ j d l b. after (suc j) d (omega arith) (omega arith))))

-- the lines before the place after an edge are those that hold in it
pub until_place : (lines : List Line) (edge place : ℕ) → IsPlaceAfter lines edge place → lines_until lines edge ≡ take place lines
until_place lines edge place h =
    kept_front (λ line. nat_le line.edge edge) lines place h.within
    (λ k d l. le-leb (get_or lines k d).edge edge (h.before k d l))
    (λ k d l b. lt-leb (get_or lines k d).edge edge (h.after k d l b))

-- the first line that is later is the place after an edge
pub stop_here : (lines : List Line) (edge place : ℕ) (line : Line) → AllPairs (λ a b. a.edge < b.edge) lines → place < length lines → line ≡ get_or lines place line → edge < line.edge
    → ((k : ℕ) (d : Line) → k < place → (get_or lines k d).edge ≤ edge) → IsPlaceAfter lines edge place
stop_here lines edge place line rising within is later before = record { within = omega arith; before = before; after = after }
  where
    here : (d : Line) → edge < (get_or lines place d).edge
    here d = subst (λ l. edge < l.edge) (is ∙ any_default lines place line d within) later

    after : (k : ℕ) (d : Line) → place ≤ k → k < length lines → edge < (get_or lines k d).edge
    after k d from below = ⊎_elim
        (λ l. let less = rising place k d l below in omega (arith, here d, less))
        (λ ge. let same : place ≡ k = omega arith in subst (λ j. edge < (get_or lines j d).edge) same (here d))
        (cases_lt place k)

pub values_at : (pins : ℕ) (lines : List Line) (edge place : ℕ) → IsPlaceAfter lines edge place → after_lines pins (take place lines) ≡ pins_at pins lines edge
values_at pins lines edge place h = ap (after_lines pins) (sym (until_place lines edge place h))

-- values that fit the pins
pub zeros_fit : (pins : List Item) → IsFitting pins (replicate (length pins) 0)
zeros_fit pins = record {
  count = length-replicate (length pins) 0;
  within = λ k pin h. let zero_there : ◌≡◌ {A = ℕ} (get_or (replicate (length pins) 0) k 0) 0 = get_or-replicate (length pins) k 0 0 h in omega (arith, zero_there, pow_pos (get_or pins k pin).width);
}

pub set_fits : (pins : List Item) (values : List ℕ) (setting : Setting) → IsFitting pins values → setting.pin < length pins → ((pin : Item) → setting.value < 2 ^ (get_or pins setting.pin pin).width)
    → IsFitting pins (set_pin values setting)
set_fits pins values setting fit there small = record {
  count = length-set values setting.pin setting.value ∙ fit.count;
  within = λ k pin h. ⊎_elim
      (λ e. let there : get_or (set values setting.pin setting.value) k 0 ≡ setting.value = get_or-set_at values setting.pin k setting.value 0 e (omega (arith, fit.count)) in
      subst (λ v. v < 2 ^ (get_or pins k pin).width) (sym there) (subst (λ j. setting.value < 2 ^ (get_or pins j pin).width) (sym e) (small pin)))
      (λ ne. subst (λ v. v < 2 ^ (get_or pins k pin).width) (sym (get_or-set_other values setting.pin k setting.value 0 ne)) (fit.within k pin h))
      (cases_eq k setting.pin);
}

settings_fit : (pins : List Item) (settings : List Setting) (values : List ℕ) → IsFitting pins values → All (λ setting. setting.pin < length pins) settings
    → ((pin : Item) → All (λ setting. setting.value < 2 ^ (get_or pins setting.pin pin).width) settings) → IsFitting pins (fold set_pin values settings)
settings_fit pins [] values fit there small = fit
settings_fit pins (s ∷ ss) values fit there small =
    settings_fit pins ss (set_pin values s) (set_fits pins values s fit (there 0 s (omega arith)) (λ pin. small pin 0 s (omega arith)))
    (λ k d h. there (suc k) d (omega arith)) (λ pin k d h. small pin (suc k) d (omega arith))

lines_fit : (pins : List Item) (lines : List Line) (p : Line → Bool) (values : List ℕ) → IsFitting pins values → All (λ line. All (λ setting. setting.pin < length pins) line.settings) lines
    → ((pin : Item) → All (λ line. All (λ setting. setting.value < 2 ^ (get_or pins setting.pin pin).width) line.settings) lines)
    → IsFitting pins (fold set_pin values (flat_map (λ line. line.settings) (filter p lines)))
lines_fit pins [] p values fit there small = fit
lines_fit pins (line ∷ lines) p values fit there small = ⊎_elim
    (λ t. rw t (subst (IsFitting pins) (sym (fold-append set_pin values line.settings (flat_map (λ l. l.settings) (filter p lines))))
    (lines_fit pins lines p (fold set_pin values line.settings)
    (settings_fit pins line.settings values fit (there 0 line (omega arith)) (λ pin. small pin 0 line (omega arith)))
    (λ k d h. there (suc k) d (omega arith)) (λ pin k d h. small pin (suc k) d (omega arith)))))
    (λ f. rw f (lines_fit pins lines p values fit (λ k d h. there (suc k) d (omega arith)) (λ pin k d h. small pin (suc k) d (omega arith))))
    (cases_Bool (p line))

-- the values that a schedule gives to the pins that it is for fit them, in each edge
pub pins_fit : (pins : List Item) (lines : List Line) (edge : ℕ) → IsFor pins lines → IsFitting pins (pins_at (length pins) lines edge)
pins_fit pins lines edge for = lines_fit pins lines (λ line. nat_le line.edge edge) (replicate (length pins) 0) (zeros_fit pins) for.playable.places for.fitting

pub entries_fit : (pins : List Item) (lines : List Line) (n : ℕ) → IsFor pins lines → AreEntries pins (pin_values (length pins) lines n)
entries_fit pins lines zero for = λ k d within. absurd (omega arith)
entries_fit pins lines (suc n) for =
    All-push (IsFitting pins) (pin_values (length pins) lines n) (pins_at (length pins) lines (suc n)) (entries_fit pins lines n for) (pins_fit pins lines (suc n) for)
