-- Names that a module may have beside its clock and its wires.
use Rattle.std.proofs.Common.{◌≡◌, ◌≢◌, ◌⊎◌, ◌<◌, ◌≤◌, ◌+◌, ◌^◌, ◌∙◌, ◌%◌, ℕ, Bool, true, false, List, [], ◌∷◌, ◌++◌, length, refl, sym, ap, subst, arith, inl, inr}
use Rattle.std.specs.Prelude.{codes, decimal}
use Rattle.std.specs.List.{AllByRecursion, list_all}
use Rattle.std.proofs.lemmas.Bool.Decides.{nat_tests}
use Rattle.std.proofs.lemmas.Fmt.{decimal_by_steps}
use Rattle.std.proofs.lemmas.List.Elements.{All-from_recursion, recursion_from_All}
use Rattle.lisa_words.specs.Bytes.{is_word}
use Rattle.spelled_promises.specs.Words.{IsName}
use Rattle.step_program.specs.WellFormed.{IsGraphic, IsDigit, IsWireName, IsFreeName}
use Rattle.program_declarations.proofs.Apart.{each_append}

-- ---- what stands before a mark

-- no `.` and no `/` stands in it
abbrev pub IsWhole : List ℕ → Type 0
IsWhole [] = Unit {0}
IsWhole (c ∷ n) = (c ≢ 46) × (c ≢ 47) × IsWhole n

abbrev pub Mark : ℕ → Type 0
Mark c = (c ≡ 46) ⊎ (c ≡ 47)

pub dot : Mark 46
dot = inl refl

pub slash : Mark 47
slash = inr refl

unmarked : (c k : ℕ) → Mark c → (k ≡ 46 → ⊥) → (k ≡ 47 → ⊥) → c ≡ k → ⊥
unmarked c k (inl is) no_dot no_slash same = no_dot (sym same ∙ is)
unmarked c k (inr is) no_dot no_slash same = no_slash (sym same ∙ is)

heads : (c k : ℕ) (x y : List ℕ) → c ∷ x ≡ k ∷ y → c ≡ k
heads c k x y e = cc e

tails : (c k : ℕ) (x y : List ℕ) → c ∷ x ≡ k ∷ y → x ≡ y
tails c k x y e = cc e

-- the first marks of two texts are one, and the same stands behind them
split : (a b x y : List ℕ) (c e : ℕ) → IsWhole a → IsWhole b → Mark c → Mark e → a ++ (c ∷ x) ≡ b ++ (e ∷ y) → (c ≡ e) × (x ≡ y)
split [] [] x y c e wa wb mc me h = (heads c e x y h, tails c e x y h)
split [] (k ∷ b) x y c e wa wb mc me h = absurd (unmarked c k mc wb.0 wb.1 (heads c k x (b ++ (e ∷ y)) h))
split (k ∷ a) [] x y c e wa wb mc me h = absurd (unmarked e k me wa.0 wa.1 (sym (heads k e (a ++ (c ∷ x)) y h)))
split (k ∷ a) (l ∷ b) x y c e wa wb mc me h = split a b x y c e wa.2 wb.2 mc me (tails k l (a ++ (c ∷ x)) (b ++ (e ∷ y)) h)

no_mark_in : (a b y : List ℕ) (c : ℕ) → IsWhole a → Mark c → a ≡ b ++ (c ∷ y) → ⊥
no_mark_in [] [] y c w m h = absurd (cc h)
no_mark_in [] (k ∷ b) y c w m h = absurd (cc h)
no_mark_in (k ∷ a) [] y c w m h = unmarked c k m w.0 w.1 (sym (heads k c a y h))
no_mark_in (k ∷ a) (l ∷ b) y c w m h = no_mark_in a b y c w.2 m (tails k l a (b ++ (c ∷ y)) h)

-- a mark stands in it
pub record IsMarked (n : List ℕ) : Type 0 where
  pub first : List ℕ
  pub rest : List ℕ
  pub mark : ℕ
  pub is_mark : Mark mark
  pub is : n ≡ first ++ (mark ∷ rest)

pub marked : (a x : List ℕ) (c : ℕ) → Mark c → IsMarked (a ++ (c ∷ x))
marked a x c is = record { first = a; rest = x; mark = c; is_mark = is; is = refl }

pub unlike_whole : (n k : List ℕ) → IsMarked n → IsWhole k → n ≡ k → ⊥
unlike_whole n k m w same = no_mark_in k m.first m.rest m.mark w m.is_mark (sym same ∙ m.is)

edge_whole : IsWhole (codes "edge")
edge_whole = ((λ e. absurd (cc e)), (λ e. absurd (cc e)), ((λ e. absurd (cc e)), (λ e. absurd (cc e)), ((λ e. absurd (cc e)), (λ e. absurd (cc e)), ((λ e. absurd (cc e)), (λ e. absurd (cc e)), tt))))

wire_whole : IsWhole (codes "wire")
wire_whole = ((λ e. absurd (cc e)), (λ e. absurd (cc e)), ((λ e. absurd (cc e)), (λ e. absurd (cc e)), ((λ e. absurd (cc e)), (λ e. absurd (cc e)), ((λ e. absurd (cc e)), (λ e. absurd (cc e)), tt))))

clock_whole : IsWhole (codes "clock")
clock_whole = ((λ e. absurd (cc e)), (λ e. absurd (cc e)), ((λ e. absurd (cc e)), (λ e. absurd (cc e)), ((λ e. absurd (cc e)), (λ e. absurd (cc e)), ((λ e. absurd (cc e)), (λ e. absurd (cc e)), ((λ e. absurd (cc e)), (λ e. absurd (cc e)), tt)))))

digits_whole : (ds : List ℕ) → AllByRecursion IsDigit ds → IsWhole ds
digits_whole [] h = tt
digits_whole (c ∷ ds) h = ((λ e. (let least = h.0.0 in omega (arith, least, e))), (λ e. (let least = h.0.0 in omega (arith, least, e))), digits_whole ds h.1)

-- ---- bytes of names

word_least : (c : ℕ) → is_word c ≡ true → 33 ≤ c
word_least c is = grind (arith, nat_tests, is)

word_most : (c : ℕ) → is_word c ≡ true → c ≤ 126
word_most c is = grind (arith, nat_tests, is)

word_unmarked : (c m : ℕ) → is_word m ≡ false → is_word c ≡ true → c ≡ m → ⊥
word_unmarked c m none is same = absurd (cc (sym none ∙ ap is_word (sym same) ∙ is))

-- no mark stands in it, and each byte can be printed and is no blank
pub record IsPlain (n : List ℕ) : Type 0 where
  pub whole : IsWhole n
  pub graphic : AllByRecursion IsGraphic n

plain_words : (n : List ℕ) → list_all is_word n ≡ true → IsPlain n
plain_words [] h = record { whole = tt; graphic = tt }
plain_words (c ∷ n) h = by (is_word c) refl h (λ e. plain_words n e)
  where
    by : (b : Bool) → is_word c ≡ b → list_all is_word (c ∷ n) ≡ true → (list_all is_word n ≡ true → IsPlain n) → IsPlain (c ∷ n)
    by true is e more =
        let rest = more (cc (e, is)) in
        record { whole = (word_unmarked c 46 refl is, word_unmarked c 47 refl is, rest.whole); graphic = ((word_least c is, word_most c is), rest.graphic) }
    by false is e more = absurd (cc (e, is))

pub plain : (n : List ℕ) → IsName n → IsPlain n
plain n h = plain_words n h.each

-- ---- free names

free : (n : List ℕ) → 0 < length n → AllByRecursion IsGraphic n → (n ≡ codes "edge.clock" → ⊥) → ((ds : List ℕ) → 0 < length ds → AllByRecursion IsDigit ds → n ≡ codes "wire." ++ ds → ⊥) → IsFreeName n
free n some graphic no_clock no_wire = record {
  some = some;
  graphic = All-from_recursion IsGraphic n graphic;
  no_clock = no_clock;
  no_wire = λ (w : IsWireName n). no_wire w.digits w.some (recursion_from_All IsDigit w.digits w.all) w.is;
}

some_mark : (a x : List ℕ) (c : ℕ) → 0 < length (a ++ (c ∷ x))
some_mark [] x c = omega arith
some_mark (k ∷ a) x c = omega arith

pub alone_free : (n : List ℕ) → 0 < length n → IsPlain n → IsFreeName n
alone_free n some p =
    free n some p.graphic
    (λ e. no_mark_in n (codes "edge") (codes "clock") 46 p.whole dot e)
    (λ ds more all e. no_mark_in n (codes "wire") ds 46 p.whole dot e)

differ : (a b : ℕ) → a ≡ 47 → b ≡ 46 → a ≡ b → ⊥
differ a b is was same = absurd (omega (arith, is, was, same))

-- that of a field
pub across_free : (a b f : List ℕ) → IsPlain a → IsPlain b → AllByRecursion IsGraphic f → IsFreeName (a ++ (codes "/" ++ (b ++ (codes "." ++ f))))
across_free a b f pa pb graphic =
    let rest = b ++ (46 ∷ f) in
    free (a ++ (47 ∷ rest)) (some_mark a rest 47)
    (each_append IsGraphic a (47 ∷ rest) pa.graphic ((omega arith, omega arith), each_append IsGraphic b (46 ∷ f) pb.graphic ((omega arith, omega arith), graphic)))
    (λ e. differ 47 46 refl refl (split a (codes "edge") rest (codes "clock") 47 46 pa.whole edge_whole slash dot e).0)
    (λ ds more all e. differ 47 46 refl refl (split a (codes "wire") rest ds 47 46 pa.whole wire_whole slash dot e).0)

word_graphic : AllByRecursion IsGraphic (codes ".word")
word_graphic = ((omega arith, omega arith), ((omega arith, omega arith), ((omega arith, omega arith), ((omega arith, omega arith), ((omega arith, omega arith), tt)))))

no_digits : (ds : List ℕ) → AllByRecursion IsDigit ds → codes "word" ≡ ds → ⊥
no_digits ds all e = let are : AllByRecursion IsDigit (codes "word") = subst (AllByRecursion IsDigit) (sym e) all in let most = are.0.1 in absurd (omega (arith, most))

-- that of a word
pub held_free : (s : List ℕ) → IsPlain s → IsFreeName (s ++ codes ".word")
held_free s p =
    free (s ++ (46 ∷ codes "word")) (some_mark s (codes "word") 46)
    (each_append IsGraphic s (codes ".word") p.graphic word_graphic)
    (λ e. (let same : codes "word" ≡ codes "clock" = (split s (codes "edge") (codes "word") (codes "clock") 46 46 p.whole edge_whole dot dot e).1 in absurd (cc same)))
    (λ ds more all e. no_digits ds all (split s (codes "wire") (codes "word") ds 46 46 p.whole wire_whole dot dot e).1)

digit_graphic : (ds : List ℕ) → AllByRecursion IsDigit ds → AllByRecursion IsGraphic ds
digit_graphic [] h = tt
digit_graphic (c ∷ ds) h = let least = h.0.0 in let most = h.0.1 in ((omega (arith, least), omega (arith, most)), digit_graphic ds h.1)

decimal_digits : (n : ℕ) → n < 2 ^ 64 → AllByRecursion IsDigit (decimal n)
decimal_digits n low =
    decimal_by_steps (λ m ds. AllByRecursion IsDigit ds) (λ m l. ((omega arith, omega (arith, l)), tt))
    (λ m ds l h. each_append IsDigit ds ((48 + m % 10) ∷ []) h ((omega arith, omega arith), tt)) n low

-- that of a bit
pub standing_free : (s o : List ℕ) (k : ℕ) → IsPlain s → IsPlain o → k < 2 ^ 64 → IsFreeName (s ++ (codes "." ++ (o ++ (codes "." ++ decimal k))))
standing_free s o k ps po low =
    let rest = o ++ (46 ∷ decimal k) in
    free (s ++ (46 ∷ rest)) (some_mark s rest 46)
    (each_append IsGraphic s (46 ∷ rest) ps.graphic ((omega arith, omega arith), each_append IsGraphic o (46 ∷ decimal k) po.graphic ((omega arith, omega arith), digit_graphic (decimal k) (decimal_digits k low))))
    (λ e. no_mark_in (codes "clock") o (decimal k) 46 clock_whole dot (sym (split s (codes "edge") rest (codes "clock") 46 46 ps.whole edge_whole dot dot e).1))
    (λ ds more all e. no_mark_in ds o (decimal k) 46 (digits_whole ds all) dot (sym (split s (codes "wire") rest ds 46 46 ps.whole wire_whole dot dot e).1))
