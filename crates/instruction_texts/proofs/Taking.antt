-- A piece that takes nothing from a line shows that no form matches it whose pieces up to there are the same.
use Rattle.std.proofs.Common.{◌≡◌, ℕ, ◌+◌, ◌<◌, ◌≤◌, true, false, nat_eq, List, [], ◌∷◌, ◌++◌, length, map, take, drop, get_or, Option, Some, None, refl, sym, ap, ◌∙◌, subst, arith}
use Rattle.std.specs.Prelude.{option_map, min}
use Rattle.std.proofs.lemmas.List.{append_assoc, append-nil, take-append-drop, take_all, take_more, length-take}
use Rattle.std.proofs.lemmas.Bool.{eqb-true}
use Rattle.asm_source.specs.declared.parts.LineToken.{LineToken}
use Rattle.asm_source.specs.Plain.{PlainToken, token_tree}
use Rattle.instruction_texts.specs.declared.shapes.Shape.{Shape}
use Rattle.instruction_texts.specs.Lines.{Plain, Matches}
use Rattle.instruction_texts.specs.Fronts.{Front, front, listed, with_rest, read}
use Rattle.instruction_texts.specs.Misfits.{NoneBegins}
use Rattle.instruction_texts.proofs.Reading.{read_matches, matches_read}

-- these pieces take the front of the line and leave a rest, whatever pieces follow them
pub record Taken (ss : List Shape) (line rest : List PlainToken) : Type 0 where
  pub given : List Plain
  pub leads : (us : List Shape) → read (ss ++ us) line ≡ option_map (λ gs. given ++ gs) (read us rest)

pub none_taken : (line : List PlainToken) → Taken [] line line
none_taken line = record { given = []; leads = λ us. same (read us line) }
  where
    same : (o : Option (List Plain)) → o ≡ option_map (λ gs. [] ++ gs) o
    same None = refl
    same (Some gs) = refl

joined : (xs ys : List Plain) (o : Option (List Plain)) → option_map (λ gs. xs ++ gs) (option_map (λ gs. ys ++ gs) o) ≡ option_map (λ gs. (xs ++ ys) ++ gs) o
joined xs ys None = refl
joined xs ys (Some gs) = ap (λ (l : List Plain). Some l) (sym (append_assoc xs ys gs))

no_text : (us : List Shape) (gs : List Plain) (line : List PlainToken) → read us line ≡ None → Matches us gs line → ⊥
no_text us gs line e m = let f = matches_read m in cc

module _ (ss : List Shape) (line : List PlainToken) (i : ℕ) (d : Shape) (rest : List PlainToken) (inside : i < length ss) (is : d ≡ get_or ss i d) (taken : Taken (take i ss) line rest) where
  with_piece : (us : List Shape) → take (i + 1) ss ++ us ≡ take i ss ++ (d ∷ us)
  with_piece us = ap (λ (l : List Shape). l ++ us) (take_more ss i d inside ∙ ap (λ (x : Shape). take i ss ++ (x ∷ [])) (sym is)) ∙ append_assoc (take i ss) (d ∷ []) us

  reads : (us : List Shape) (f : Front) → front d rest ≡ f → read (take (i + 1) ss ++ us) line ≡ option_map (λ gs. taken.given ++ gs) (with_rest f (read us))
  reads us f e =
      ap (λ (l : List Shape). read l line) (with_piece us) ∙ taken.leads (d ∷ us)
      ∙ ap (λ (g : Front). option_map (λ gs. taken.given ++ gs) (with_rest g (read us))) e

  pub one_taken : (x : Option Plain × List PlainToken) → front d rest ≡ Some x → Taken (take (i + 1) ss) line x.1
  one_taken x e = record {
    given = taken.given ++ listed x.0;
    leads = λ us. reads us (Some x) e ∙ joined taken.given (listed x.0) (read us x.1);
  }

  pub misfits_here : front d rest ≡ None → NoneBegins ss (i + 1) line
  misfits_here e us gs same m =
      let whole : us ≡ take (i + 1) ss ++ drop (i + 1) us = sym (take-append-drop (i + 1) us) ∙ ap (λ (l : List Shape). l ++ drop (i + 1) us) same in
      no_text us gs line (ap (λ (l : List Shape). read l line) whole ∙ reads (drop (i + 1) us) None e) m

module _ (ss : List Shape) (line : List PlainToken) (i : ℕ) (past : length ss ≤ i) where
  read_all : (rest : List PlainToken) (taken : Taken (take i ss) line rest) → read ss line ≡ option_map (λ gs. taken.given ++ gs) (read [] rest)
  read_all rest taken = ap (λ (l : List Shape). read l line) (sym (ap (λ (l : List Shape). l ++ []) (take_all i ss past) ∙ append-nil ss)) ∙ taken.leads []

  pub whole_line : (rest : List LineToken) → nat_eq (length rest) 0 ≡ true → Taken (take i ss) line (map token_tree rest) → (gs : List Plain) × Matches ss gs line
  whole_line [] empty taken = (taken.given ++ [], read_matches ss line (taken.given ++ []) (read_all [] taken))
  whole_line (t ∷ rest) empty taken = absurd (let e : length (t ∷ rest) ≡ 0 = eqb-true (length (t ∷ rest)) 0 empty in omega arith)

  pub left_over : (rest : List LineToken) → nat_eq (length rest) 0 ≡ false → Taken (take i ss) line (map token_tree rest) → NoneBegins ss (length ss + 1) line
  left_over [] empty taken us gs same m = absurd cc
  left_over (t ∷ rest) empty taken us gs same m = no_text ss gs line (read_all (map token_tree (t ∷ rest)) taken) (subst (λ (l : List Shape). Matches l gs line) is m)
    where
      same_front : take (length ss + 1) us ≡ ss
      same_front = same ∙ take_all (length ss + 1) ss (omega arith)

      short : length us ≤ length ss + 1
      short = let e : min (length ss + 1) (length us) ≡ length ss = sym (length-take (length ss + 1) us) ∙ ap length same_front in omega (arith, e)

      is : us ≡ ss
      is = sym (take_all (length ss + 1) us short) ∙ same_front
