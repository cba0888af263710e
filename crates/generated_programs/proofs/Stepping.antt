-- The steps of loops that draw: what is drawn so far, before what is drawn of the rest.
use Rattle.std.proofs.Common.{◌≡◌, ◌<◌, ◌≤◌, ◌+◌, ◌%◌, ◌^◌, ◌++◌, ℕ, suc, Bool, true, false, List, [], ◌∷◌, length, get_or, map, drop, sym, ap, ◌∙◌, arith}
use Rattle.std.proofs.lemmas.List.{append_assoc, append-nil, drop_more, drop_all}
use Rattle.lisa_tree.specs.Descriptions.{DescriptionTree}
use Rattle.lisa_object.specs.Texts.{text_of}
use Rattle.pattern_tables.specs.declared.fields.Place.{Place}
use Rattle.pattern_tables.specs.Places.{pair_of}
use Rattle.generated_programs.specs.Draws.{drawn_values, marked_from, next_line, next_values, drawn_lines}

-- ---- values

abbrev pub behind : {S : Type 0} → List ℕ → List ℕ × S → List ℕ × S
behind done rest = (done ++ rest.0, rest.1)

module _ {S : Type 0} (step : S → ℕ × S) (places : List Place) (whole : List ℕ × S) where
  abbrev pub IsDrawn : ℕ → List ℕ → S → Type 0
  IsDrawn i done s = behind done (drawn_values step (map pair_of (drop i places)) s) ≡ whole

  pub one_more_drawn : (i : ℕ) (p : Place) (done new : List ℕ) (s t : S) (word : ℕ) → i < length places → IsDrawn i done s
      → (word, t) ≡ step s → new ≡ done ++ word % 2 ^ (get_or places i p).width ∷ [] → IsDrawn (i + 1) new t
  one_more_drawn i p done new s t word within drawn stepped pushed =
      let x = word % 2 ^ (get_or places i p).width in
      let rest = drawn_values step (map pair_of (drop (i + 1) places)) t in
      ap (λ (l : List ℕ). behind l rest) pushed
      ∙ ap (λ (l : List ℕ). (l, rest.1)) (append_assoc done (x ∷ []) rest.0)
      ∙ ap (λ (w : ℕ × S). (done ++ w.0 % 2 ^ (get_or places i p).width ∷ (drawn_values step (map pair_of (drop (i + 1) places)) w.1).0, (drawn_values step (map pair_of (drop (i + 1) places)) w.1).1)) stepped
      ∙ sym (ap (λ (l : List Place). behind done (drawn_values step (map pair_of l) s)) (drop_more places i p within))
      ∙ drawn

  pub all_drawn : (i : ℕ) (done : List ℕ) (s : S) → length places ≤ i → IsDrawn i done s → (done, s) ≡ whole
  all_drawn i done s past drawn =
      ap (λ (l : List ℕ). (l, s)) (sym (append-nil done))
      ∙ sym (ap (λ (l : List Place). behind done (drawn_values step (map pair_of l) s)) (drop_all i places past))
      ∙ drawn

-- ---- lines

module _ {S : Type 0} (d : DescriptionTree) (step : S → ℕ × S) (whole : List ℕ) where
  abbrev pub AreDrawn : ℕ → List ℕ → S → Type 0
  AreDrawn left done s = done ++ text_of (drawn_lines d step left s) ≡ whole

  pub one_line_less : (left more : ℕ) (done new : List ℕ) (s t : S) → left ≡ suc more → AreDrawn left done s
      → new ≡ done ++ (next_line d step s ++ 10 ∷ []) → t ≡ (next_values d step s).1 → AreDrawn more new t
  one_line_less left more done new s t less drawn added stepped =
      ap (λ (l : List ℕ). l ++ text_of (drawn_lines d step more t)) added
      ∙ append_assoc done (next_line d step s ++ 10 ∷ []) (text_of (drawn_lines d step more t))
      ∙ ap (λ (u : S). done ++ ((next_line d step s ++ 10 ∷ []) ++ text_of (drawn_lines d step more u))) stepped
      ∙ sym (ap (λ (n : ℕ). done ++ text_of (drawn_lines d step n s)) less)
      ∙ drawn

  pub none_left : (left : ℕ) (done : List ℕ) (s : S) → left ≡ 0 → AreDrawn left done s → done ≡ whole
  none_left left done s none drawn = sym (append-nil done) ∙ sym (ap (λ (n : ℕ). done ++ text_of (drawn_lines d step n s)) none) ∙ drawn

-- ---- marks

abbrev pub AreListed : List Bool → ℕ → List ℕ → Type 0
AreListed marks i done = done ++ marked_from i (drop i marks) ≡ marked_from 0 marks

pub one_more_listed : (marks : List Bool) (i : ℕ) (done new : List ℕ) → i < length marks → AreListed marks i done → get_or marks i false ≡ true → new ≡ done ++ i ∷ [] → AreListed marks (i + 1) new
one_more_listed marks i done new within listed mark pushed =
    let next : suc i ≡ i + 1 = omega arith in
    ap (λ (l : List ℕ). l ++ marked_from (i + 1) (drop (i + 1) marks)) pushed
    ∙ append_assoc done (i ∷ []) (marked_from (i + 1) (drop (i + 1) marks))
    ∙ sym (ap (λ (n : ℕ). done ++ i ∷ marked_from n (drop (i + 1) marks)) next)
    ∙ sym (ap (λ (b : Bool). done ++ marked_from i (b ∷ drop (i + 1) marks)) mark)
    ∙ sym (ap (λ (l : List Bool). done ++ marked_from i l) (drop_more marks i false within))
    ∙ listed

pub one_left_out : (marks : List Bool) (i : ℕ) (done : List ℕ) → i < length marks → AreListed marks i done → get_or marks i false ≡ false → AreListed marks (i + 1) done
one_left_out marks i done within listed mark =
    let next : suc i ≡ i + 1 = omega arith in
    sym (ap (λ (n : ℕ). done ++ marked_from n (drop (i + 1) marks)) next)
    ∙ sym (ap (λ (b : Bool). done ++ marked_from i (b ∷ drop (i + 1) marks)) mark)
    ∙ sym (ap (λ (l : List Bool). done ++ marked_from i l) (drop_more marks i false within))
    ∙ listed

pub all_listed : (marks : List Bool) (i : ℕ) (done : List ℕ) → length marks ≤ i → AreListed marks i done → done ≡ marked_from 0 marks
all_listed marks i done past listed = sym (append-nil done) ∙ sym (ap (λ (l : List Bool). done ++ marked_from i l) (drop_all i marks past)) ∙ listed
