-- Fixes by falling lowest bits.
use Rattle.std.proofs.Common.{◌≡◌, ◌<◌, ◌≤◌, ◌+◌, ℕ, Bool, true, false, cond, List, [], ◌∷◌, ◌++◌, length, map, take, drop, get_or, refl, sym, ap, ◌∙◌, append_assoc, arith}
use Rattle.std.specs.Prelude.{nat_lt}
use Rattle.std.proofs.lemmas.Bool.{ltb-true, ltb-false}
use Rattle.std.proofs.lemmas.List.{map-append, take_more, drop_all}
use Rattle.placed_programs.specs.Entries.{PlainFix}
use Rattle.lisa_assembler.specs.Objects.{put_falling}
use Rattle.lisa_assembler.specs.Fixes.{fix_tree}
use Rattle.lisa_assembler.specs.declared.fixes.Fix.{Fix}
use Rattle.lisa_assembler.proofs.Lists.{one}

falls_behind : (f g : PlainFix) (gs : List PlainFix) → f.lsb < g.lsb → put_falling f (g ∷ gs) ≡ g ∷ put_falling f gs
falls_behind f g gs h = by (nat_lt f.lsb g.lsb) refl
  where
    by : (b : Bool) → nat_lt f.lsb g.lsb ≡ b → put_falling f (g ∷ gs) ≡ g ∷ put_falling f gs
    by true e = ap (λ (b : Bool). cond b (g ∷ put_falling f gs) (f ∷ g ∷ gs)) e
    by false e = absurd (let no : g.lsb ≤ f.lsb = ltb-false f.lsb g.lsb e in omega (arith, no, h))

falls_here : (f g : PlainFix) (gs : List PlainFix) → g.lsb ≤ f.lsb → put_falling f (g ∷ gs) ≡ f ∷ g ∷ gs
falls_here f g gs h = by (nat_lt f.lsb g.lsb) refl
  where
    by : (b : Bool) → nat_lt f.lsb g.lsb ≡ b → put_falling f (g ∷ gs) ≡ f ∷ g ∷ gs
    by false e = ap (λ (b : Bool). cond b (g ∷ put_falling f gs) (f ∷ g ∷ gs)) e
    by true e = absurd (let yes : f.lsb < g.lsb = ltb-true f.lsb g.lsb e in omega (arith, yes, h))

module _ (fixes : List Fix) (place : ℕ) (f : PlainFix) where
  abbrev At : List PlainFix → Type 0
  At gs = put_falling f (map fix_tree fixes) ≡ map fix_tree (take place fixes) ++ gs

  pub place_on : (fix : Fix) → place < length fixes → fix ≡ get_or fixes place fix → f.lsb < fix.lsb → At (put_falling f (map fix_tree (drop place fixes)))
      → put_falling f (map fix_tree fixes) ≡ map fix_tree (take (place + 1) fixes) ++ put_falling f (map fix_tree (drop (place + 1) fixes))
  place_on fix within is less so_far =
      let rest : List PlainFix = put_falling f (map fix_tree (drop (place + 1) fixes)) in
      let front : map fix_tree (take (place + 1) fixes) ≡ map fix_tree (take place fixes) ++ (fix_tree fix ∷ []) =
      ap (map fix_tree) (take_more fixes place fix within) ∙ map-append fix_tree (take place fixes) (get_or fixes place fix ∷ []) ∙ ap (λ (x : Fix). map fix_tree (take place fixes) ++ (fix_tree x ∷ [])) (sym is) in
      let moved : (map fix_tree (take place fixes) ++ (fix_tree fix ∷ [])) ++ rest ≡ map fix_tree (take place fixes) ++ (fix_tree fix ∷ rest) = simp append_assoc in
      so_far
      ∙ ap (λ (gs : List Fix). map fix_tree (take place fixes) ++ put_falling f (map fix_tree gs)) (one fixes place fix within is)
      ∙ ap (λ (gs : List PlainFix). map fix_tree (take place fixes) ++ gs) (falls_behind f (fix_tree fix) (map fix_tree (drop (place + 1) fixes)) less)
      ∙ sym moved
      ∙ ap (λ (gs : List PlainFix). gs ++ rest) (sym front)

  pub place_here : (fix : Fix) → place < length fixes → fix ≡ get_or fixes place fix → fix.lsb ≤ f.lsb → At (put_falling f (map fix_tree (drop place fixes))) → At (f ∷ map fix_tree (drop place fixes))
  place_here fix within is low so_far =
      let here : drop place fixes ≡ fix ∷ drop (place + 1) fixes = one fixes place fix within is in
      so_far
      ∙ ap (λ (gs : List PlainFix). map fix_tree (take place fixes) ++ gs)
      (ap (λ (gs : List Fix). put_falling f (map fix_tree gs)) here ∙ falls_here f (fix_tree fix) (map fix_tree (drop (place + 1) fixes)) low ∙ ap (λ (gs : List Fix). f ∷ map fix_tree gs) (sym here))

  pub place_last : length fixes ≤ place → At (put_falling f (map fix_tree (drop place fixes))) → At (f ∷ map fix_tree (drop place fixes))
  place_last past so_far =
      let end : drop place fixes ≡ [] = drop_all place fixes past in
      so_far
      ∙ ap (λ (gs : List PlainFix). map fix_tree (take place fixes) ++ gs) (ap (λ (gs : List Fix). put_falling f (map fix_tree gs)) end ∙ ap (λ (gs : List Fix). f ∷ map fix_tree gs) (sym end))
