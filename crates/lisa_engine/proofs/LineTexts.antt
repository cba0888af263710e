-- The lines of a schedule, part by part.
use Rattle.std.proofs.Common.{◌≡◌, ℕ, zero, suc, ◌+◌, ◌-◌, ◌<◌, ◌≤◌, Bool, true, false, List, [], ◌∷◌, ◌++◌, ◌⊎◌, inl, inr, length, take, drop, get_or, map, refl, sym, ap, ◌∙◌, subst, arith, ⊎_elim, Result, Ok, Err, cond, append_assoc, length-take}
use Rattle.std.specs.Prelude.{◌==◌, slice_index}
use Rattle.std.specs.List.{slice_split, onto_first}
use Rattle.std.specs.Str.Lines.{lines, lines_of_parts, strip_carriage_return}
use Rattle.std.proofs.Math.ListN.{drop_of_length-le}
use Rattle.std.proofs.lemmas.Bool.{cases_Bool, cases_cond, eqb-true, eqb-false, eq-eqb, ne_eqb}
use Rattle.std.proofs.lemmas.List.Splits.{slice_split-cons_yes, slice_split-cons_no, length-slice_split}
use Rattle.std.specs.Prelude.{count_by}
use Rattle.std.specs.Borrow.{Bor}
use Rattle.std.specs.Result.{IsErrAnd}
use Rattle.std.proofs.lemmas.List.{length-map, get_or-map, append-nil}
use Rattle.lisa_engine.specs.ScheduleLine.{Line}
use Rattle.lisa_engine.specs.Schedules.{line_of, onto, followed_by, lines_from, schedule_of, IsUnlessNoMemory}
use Rattle.lisa_engine.specs.declared.parts.Item.{Item}
use Rattle.lisa_engine.specs.declared.schedule.ScheduleFault.{ScheduleFault}
use Rattle.lisa_engine.specs.declared.schedule.ScheduleFault.TheVariants.{NoMemory}

-- lines that are read already, before others
abbrev pub ahead : List Line → Result (List Line) ScheduleFault → Result (List Line) ScheduleFault
ahead done (Err fault) = Err fault
ahead done (Ok lines) = Ok (done ++ lines)

-- a part of the bytes as a line
abbrev pub part_text : Bool → List ℕ → List ℕ
part_text is_last part = cond is_last part (strip_carriage_return part)

-- the lines of the parts from one place on are the part's text and those of the parts behind it, but for an empty last part
opened : (parts : List (List ℕ)) (i : ℕ) (last : Bool) → i < length parts → (last ≡ true → length parts ≡ i + 1) → (last ≡ false → i + 1 < length parts)
    → (lines_of_parts (drop i parts) ≡ part_text last (get_or parts i []) ∷ lines_of_parts (drop (i + 1) parts))
    ⊎ ((length (part_text last (get_or parts i [])) ≡ 0) × (lines_of_parts (drop i parts) ≡ []) × (lines_of_parts (drop (i + 1) parts) ≡ []))
opened [] i last within is_last more = absurd (omega arith)
opened (x ∷ []) zero true within is_last more = ⊎_elim (λ t. inr (eqb-true (length x) 0 t, rw t refl, refl)) (λ f. inl (rw f refl)) (cases_Bool (length x == 0))
opened (x ∷ []) zero false within is_last more = let h = more refl in absurd (omega arith)
opened (x ∷ y ∷ rest) zero true within is_last more = let h = is_last refl in absurd (omega arith)
opened (x ∷ y ∷ rest) zero false within is_last more = inl refl
opened (x ∷ xs) (suc i) last within is_last more =
    let next : suc i + 1 ≡ suc (i + 1) = omega arith in
    rw next (opened xs i last (omega arith) (λ t. let h = is_last t in omega arith) (λ f. let h = more f in omega arith))

module _ (pins : List Item) (parts : List (List ℕ)) (i number before : ℕ) (last : Bool) (within : i < length parts)
    (is_last : last ≡ true → length parts ≡ i + 1) (more : last ≡ false → i + 1 < length parts) where
  -- an empty text is skipped
  pub skipped : length (part_text last (get_or parts i [])) ≡ 0
      → lines_from pins number before (lines_of_parts (drop i parts)) ≡ lines_from pins (number + 1) before (lines_of_parts (drop (i + 1) parts))
  skipped empty = ⊎_elim
      (λ e. rw e (rw (eq-eqb (length (part_text last (get_or parts i []))) 0 empty) refl))
      (λ e. rw (e.1, e.2) refl)
      (opened parts i last within is_last more)

  -- any other text is a line
  pub taken : (length (part_text last (get_or parts i [])) ≡ 0 → ⊥)
      → lines_from pins number before (lines_of_parts (drop i parts))
      ≡ followed_by (λ line. lines_from pins (number + 1) line.edge (lines_of_parts (drop (i + 1) parts))) (line_of pins number before (part_text last (get_or parts i [])))
  taken some = ⊎_elim
      (λ e. rw e (rw (ne_eqb (length (part_text last (get_or parts i []))) 0 some) refl))
      (λ e. absurd (some e.0))
      (opened parts i last within is_last more)

-- one more line behind those that are read
pub ahead_more : (done : List Line) (line : Line) (r : Result (List Line) ScheduleFault) → ahead done (onto line r) ≡ ahead (done ++ line ∷ []) r
ahead_more done line (Err fault) = refl
ahead_more done line (Ok lines) = ap Ok (sym (append_assoc done (line ∷ []) lines))

-- as many parts as there are, and the bytes of one, are at most the bytes and one more
pub parts_room : (p : ℕ → Bool) (bytes : List ℕ) (k : ℕ) (d : List ℕ) → k < length (slice_split p bytes)
    → length (slice_split p bytes) + length (get_or (slice_split p bytes) k d) ≤ length bytes + 1
parts_room p [] zero d within = omega arith
parts_room p [] (suc k) d within = absurd (omega arith)
parts_room p (x ∷ xs) k d within = ⊎_elim
    (λ t. let e = slice_split-cons_yes p x xs t in
    subst (λ parts. length parts + length (get_or parts k d) ≤ length (x ∷ xs) + 1) (sym e) (cut (parts_room p xs) k (subst (λ parts. k < length parts) e within)))
    (λ f. let e = slice_split-cons_no p x xs f in
    subst (λ parts. length parts + length (get_or parts k d) ≤ length (x ∷ xs) + 1) (sym e) (longer (slice_split p xs) (parts_room p xs) (length-slice_split p xs) k (subst (λ parts. k < length parts) e within)))
    (cases_Bool (p x))
  where
    cut : ((k : ℕ) (d : List ℕ) → k < length (slice_split p xs) → length (slice_split p xs) + length (get_or (slice_split p xs) k d) ≤ length xs + 1)
        → (k : ℕ) → k < length ([] ∷ slice_split p xs) → length ([] ∷ slice_split p xs) + length (get_or ([] ∷ slice_split p xs) k d) ≤ length (x ∷ xs) + 1
    cut room zero within = let some = length-slice_split p xs in omega (arith, room 0 d (omega (arith, some)))
    cut room (suc k) within = omega (arith, room k d (omega arith))

    longer : (parts : List (List ℕ)) → ((k : ℕ) (d : List ℕ) → k < length parts → length parts + length (get_or parts k d) ≤ length xs + 1) → length parts ≡ count_by p xs + 1
        → (k : ℕ) → k < length (onto_first x parts) → length (onto_first x parts) + length (get_or (onto_first x parts) k d) ≤ length (x ∷ xs) + 1
    longer [] room some k within = absurd (omega arith)
    longer (part ∷ parts) room some zero within = omega (arith, room 0 d (omega arith))
    longer (part ∷ parts) room some (suc k) within = omega (arith, room (suc k) d (omega arith))

pub text_le : (last : Bool) (part : List ℕ) → length (part_text last part) ≤ length part
text_le true part = omega arith
text_le false part = ⊎_elim
    (λ e. omega (arith, ap length e, length-take (length part - 1) part))
    (λ e. omega (arith, ap length e))
    (cases_cond (slice_index part (length part - 1) == 13) (take (length part - 1) part) part (strip_carriage_return part) refl)

-- a text is the one at a place of the bytes' parts
pub record IsText (bytes : List ℕ) (texts : List (List ℕ)) (place : ℕ) (text : List ℕ) : Type 0 where
  pub cut : texts ≡ slice_split (λ c. c == 10) bytes
  pub within : place < length texts
  pub is : text ≡ part_text (place + 1 == length texts) (get_or texts place [])

pub is_text : (bytes : List ℕ) (items : List (Bor (List ℕ))) (place count : ℕ) (x : Bor (List ℕ)) (text : List ℕ) → map (λ p. p.now) items ≡ slice_split (λ c. c == 10) bytes
    → place < length items → count ≡ length items → x ≡ get_or items place x → text ≡ part_text (place + 1 == count) x.now → IsText bytes (map (λ p. p.now) items) place text
is_text bytes items place count x text cut within is_count is_x spelled = record {
  cut = cut;
  within = omega (arith, length-map items (λ p. p.now));
  is = spelled ∙ ap (λ n. part_text (place + 1 == n) x.now) (is_count ∙ sym (length-map items (λ p. p.now)))
      ∙ ap (part_text (place + 1 == length (map (λ p. p.now) items))) (ap (λ y. y.now) is_x ∙ sym (get_or-map (λ p. p.now) items place x [] within));
}

pub room_for : {bytes : List ℕ} {texts : List (List ℕ)} {place : ℕ} {text : List ℕ} → IsText bytes texts place text → (length text ≡ 0 → ⊥) → place + 1 ≤ length bytes
room_for {bytes = bytes} {texts = texts} {place = place} {text = text} t some =
    let room : length texts + length (get_or texts place []) ≤ length bytes + 1
    = subst (λ ts. length ts + length (get_or ts place []) ≤ length bytes + 1) (sym t.cut) (parts_room (λ c. c == 10) bytes place [] (subst (λ ts. place < length ts) t.cut t.within)) in
    let less = text_le (place + 1 == length texts) (get_or texts place []) in
    let positive : 0 < length text = omega arith in
    let same = ap length t.is in
    omega (arith, room, less, positive, same, t.within)

module _ (pins : List Item) (bytes : List ℕ) (texts : List (List ℕ)) (place before : ℕ) (text : List ℕ) (done : List Line) (t : IsText bytes texts place text)
    (so_far : schedule_of pins bytes ≡ ahead done (lines_from pins (place + 1) before (lines_of_parts (drop place texts)))) where
  at_last : (place + 1 == length texts) ≡ true → length texts ≡ place + 1
  at_last e = sym (eqb-true (place + 1) (length texts) e)

  not_last : (place + 1 == length texts) ≡ false → place + 1 < length texts
  not_last e = let ne = eqb-false (place + 1) (length texts) e in omega (arith, ne, t.within)

  pub after_empty : length text ≡ 0 → schedule_of pins bytes ≡ ahead done (lines_from pins (place + 1 + 1) before (lines_of_parts (drop (place + 1) texts)))
  after_empty empty = so_far ∙ ap (ahead done) (skipped pins texts place (place + 1) before (place + 1 == length texts) t.within at_last not_last (sym (ap length t.is) ∙ empty))

  one_taken : (length text ≡ 0 → ⊥)
      → schedule_of pins bytes ≡ ahead done (followed_by (λ line. lines_from pins (place + 1 + 1) line.edge (lines_of_parts (drop (place + 1) texts))) (line_of pins (place + 1) before text))
  one_taken some = so_far ∙ ap (ahead done)
      (taken pins texts place (place + 1) before (place + 1 == length texts) t.within at_last not_last (λ e. some (ap length t.is ∙ e))
      ∙ ap (λ s. followed_by (λ line. lines_from pins (place + 1 + 1) line.edge (lines_of_parts (drop (place + 1) texts))) (line_of pins (place + 1) before s)) (sym t.is))

  pub after_line : (line : Line) → (length text ≡ 0 → ⊥) → IsUnlessNoMemory (line_of pins (place + 1) before text) (Ok line)
      → schedule_of pins bytes ≡ ahead (done ++ line ∷ []) (lines_from pins (place + 1 + 1) line.edge (lines_of_parts (drop (place + 1) texts)))
  after_line line some (inl e) = one_taken some ∙ ap (λ r. ahead done (followed_by (λ line. lines_from pins (place + 1 + 1) line.edge (lines_of_parts (drop (place + 1) texts))) r)) (sym e)
      ∙ ahead_more done line (lines_from pins (place + 1 + 1) line.edge (lines_of_parts (drop (place + 1) texts)))
  after_line line some (inr e) = cc

  pub after_fault : (fault : ScheduleFault) (r : Result (List Line) ScheduleFault) → (length text ≡ 0 → ⊥) → IsUnlessNoMemory (line_of pins (place + 1) before text) (Err fault)
      → IsErrAnd r (λ e. e ≡ fault) → IsUnlessNoMemory (schedule_of pins bytes) r
  after_fault fault (Ok lines) some here gives = absurd gives
  after_fault fault (Err other) some (inl e) gives =
      inl (ap Err gives ∙ sym (one_taken some ∙ ap (λ r. ahead done (followed_by (λ line. lines_from pins (place + 1 + 1) line.edge (lines_of_parts (drop (place + 1) texts))) r)) (sym e)))
  after_fault fault (Err other) some (inr e) gives = inr (ap Err gives ∙ (let same : ◌≡◌ {A = Result (List Line) ScheduleFault} (Err fault) (Err NoMemory) = cc in same))

-- behind the last part no line is left
pub all_taken : (pins : List Item) (bytes : List ℕ) (texts : List (List ℕ)) (place before : ℕ) (done : List Line) → length texts ≤ place
    → schedule_of pins bytes ≡ ahead done (lines_from pins (place + 1) before (lines_of_parts (drop place texts))) → schedule_of pins bytes ≡ Ok done
all_taken pins bytes texts place before done end so_far =
    so_far ∙ ap (λ ts. ahead done (lines_from pins (place + 1) before (lines_of_parts ts))) (drop_of_length-le texts end) ∙ ap Ok (append-nil done)

pub same_rest : (pins : List Item) (texts : List (List ℕ)) (number : ℕ) {done all : List Line} {before edge : ℕ} → done ≡ all → before ≡ edge
    → ahead done (lines_from pins number before texts) ≡ ahead all (lines_from pins number edge texts)
same_rest pins texts number p q = λ i. ahead (p i) (lines_from pins number (q i) texts)
