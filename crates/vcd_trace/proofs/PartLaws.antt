-- A part takes one word or more.
use Rattle.std.proofs.Common.{◌≡◌, ℕ, suc, ◌<◌, ◌≤◌, Bool, true, false, cond, List, [], ◌∷◌, length, Option, Some, None, refl, ap, arith}
use Rattle.std.specs.Prelude.{◌||◌, ◌==◌}
use Rattle.lisa_words.specs.Steps.{◌>>=◌}
use Rattle.lisa_words.proofs.StepLaws.{some_is}
use Rattle.lisa_words.proofs.ManyLaws.{Shrinks}
use Rattle.vcd_trace.specs.VcdWords.{Placed}
use Rattle.vcd_trace.specs.Parts.{is_end, keyword_of, numeral_of, bits_of, is_binary, is_range, next_of, behind_end, behind_note, behind_scope, behind_range, variable_of, change_at, time_of, scalar_of, vector_of, with_words, event_of, with_rest, part_by, part_of}
use Rattle.vcd_trace.specs.declared.keywords.Keyword.{Keyword}
use Rattle.vcd_trace.specs.declared.keywords.Keyword.TheVariants as keywords
use Rattle.vcd_trace.specs.declared.parts.Part.{Part}
use Rattle.vcd_trace.specs.declared.parts.Part.TheVariants as parts

same_rest : (xs ys : List Placed) → ◌≡◌ {A = Option (List Placed)} (Some xs) (Some ys) → length ys ≤ length xs
same_rest xs ys e = omega (arith, ap length (some_is xs ys e))

end_less : (ts rest : List Placed) → behind_end ts ≡ Some rest → length rest < length ts
end_less [] rest e = absurd cc
end_less (w ∷ ws) rest e = go (is_end w.text) e
  where
    go : (b : Bool) → cond b (Some ws) None ≡ Some rest → length rest < suc (length ws)
    go true f = omega (arith, same_rest ws rest f)
    go false f = absurd cc

note_less : (ts rest : List Placed) → behind_note ts ≡ Some rest → length rest < length ts
note_less [] rest e = absurd cc
note_less (w ∷ ws) rest e = go (is_end w.text) e (λ f. note_less ws rest f)
  where
    go : (b : Bool) → cond b (Some ws) (behind_note ws) ≡ Some rest → (behind_note ws ≡ Some rest → length rest < length ws) → length rest < suc (length ws)
    go true f rec = omega (arith, same_rest ws rest f)
    go false f rec = omega (arith, rec f)

scope_less : (ts rest : List Placed) → behind_scope ts ≡ Some rest → length rest < length ts
scope_less [] rest e = absurd cc
scope_less (a ∷ []) rest e = absurd cc
scope_less (a ∷ b ∷ ws) rest e = omega (arith, end_less ws rest e)

range_less : (ts rest : List Placed) → behind_range ts ≡ Some rest → length rest < length ts
range_less [] rest e = absurd cc
range_less (w ∷ ws) rest e = go (is_end w.text) (is_range w.text) e
  where
    go : (b c : Bool) → cond b (Some ws) (cond c (behind_end ws) None) ≡ Some rest → length rest < suc (length ws)
    go true c f = omega (arith, same_rest ws rest f)
    go false true f = omega (arith, end_less ws rest f)
    go false false f = absurd cc

same_pair : (p : Part) (ws : List Placed) (x : Part × List Placed) → ◌≡◌ {A = Option (Part × List Placed)} (Some (p, ws)) (Some x) → length x.1 ≤ length ws
same_pair p ws x e = omega (arith, ap (λ (y : Part × List Placed). length y.1) (some_is (p, ws) x e))

variable_less : (ts : List Placed) (x : Part × List Placed) → variable_of ts ≡ Some x → length x.1 ≤ length ts
variable_less [] x e = absurd cc
variable_less (a ∷ []) x e = absurd cc
variable_less (a ∷ b ∷ []) x e = absurd cc
variable_less (a ∷ b ∷ c ∷ []) x e = absurd cc
variable_less (a ∷ b ∷ c ∷ d ∷ ws) x e = go (numeral_of b.text) (behind_range ws) refl e
  where
    go : (n : Option ℕ) (r : Option (List Placed)) → behind_range ws ≡ r
        → (n >>= λ bits. r >>= λ rest. Some (parts.Declares (record { code = c.text; name = d.text; width = bits }), rest)) ≡ Some x → length x.1 ≤ suc (suc (suc (suc (length ws))))
    go None r is f = absurd cc
    go (Some n) None is f = absurd cc
    go (Some n) (Some rest) is f = omega (arith, range_less ws rest is, same_pair (parts.Declares (record { code = c.text; name = d.text; width = n })) rest x f)

vector_less : (at : ℕ) (digits : List ℕ) (ts : List Placed) (x : Part × List Placed) → vector_of at digits ts ≡ Some x → length x.1 ≤ length ts
vector_less at digits ts x e = go ts (is_binary digits) e
  where
    go : (ts : List Placed) (b : Bool) → cond b (next_of ts >>= λ code. Some (change_at at code.0.text (bits_of digits), code.1)) None ≡ Some x → length x.1 ≤ length ts
    go ts false f = absurd cc
    go [] true f = absurd cc
    go (w ∷ ws) true f = omega (arith, same_pair (change_at at w.text (bits_of digits)) ws x f)

words_less : (ts : List Placed) (p : Option Part) (x : Part × List Placed) → with_words ts p ≡ Some x → length x.1 ≤ length ts
words_less ts None x e = absurd cc
words_less ts (Some p) x e = same_pair p ts x e

event_less : (at : ℕ) (text : List ℕ) (ts : List Placed) (x : Part × List Placed) → event_of at text ts ≡ Some x → length x.1 ≤ length ts
event_less at [] ts x e = absurd cc
event_less at (sign ∷ text) ts x e = go (sign == 35) (sign == 48 || sign == 49) (sign == 98 || sign == 66) e
  where
    go : (a b c : Bool) → cond a (with_words ts (time_of at text)) (cond b (with_words ts (scalar_of at sign text)) (cond c (vector_of at text ts) None)) ≡ Some x → length x.1 ≤ length ts
    go true b c f = words_less ts (time_of at text) x f
    go false true c f = words_less ts (scalar_of at sign text) x f
    go false false true f = vector_less at text ts x f
    go false false false f = absurd cc

rest_less : (p : Part) (ts : List Placed) (o : Option (List Placed)) (x : Part × List Placed) → ((rest : List Placed) → o ≡ Some rest → length rest < length ts) → with_rest p o ≡ Some x → length x.1 ≤ length ts
rest_less p ts None x less e = absurd cc
rest_less p ts (Some rest) x less e = omega (arith, less rest refl, same_pair p rest x e)

by_less : (k : Keyword) (w : Placed) (ts : List Placed) (x : Part × List Placed) → part_by k w ts ≡ Some x → length x.1 ≤ length ts
by_less keywords.End w ts x e = same_pair parts.Ends ts x e
by_less keywords.Note w ts x e = rest_less parts.Note ts (behind_note ts) x (note_less ts) e
by_less keywords.Comment w ts x e = rest_less parts.Comment ts (behind_note ts) x (note_less ts) e
by_less keywords.Scope w ts x e = rest_less parts.Opens ts (behind_scope ts) x (scope_less ts) e
by_less keywords.Upscope w ts x e = rest_less parts.Closes ts (behind_end ts) x (end_less ts) e
by_less keywords.Var w ts x e = variable_less ts x e
by_less keywords.Definitions w ts x e = rest_less parts.Definitions ts (behind_end ts) x (end_less ts) e
by_less keywords.Mark w ts x e = same_pair parts.Begins ts x e
by_less keywords.Other w ts x e = event_less w.at w.text ts x e

pub part_shrinks : Shrinks part_of
part_shrinks [] x e = absurd cc
part_shrinks (w ∷ ws) x e = omega (arith, by_less (keyword_of w.text) w ws x e)
