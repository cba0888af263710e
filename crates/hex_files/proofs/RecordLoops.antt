-- Digits in pairs, and records put piece by piece.
use Rattle.std.proofs.Common.{◌≡◌, ℕ, ◌+◌, ◌-◌, ◌/◌, ◌%◌, ◌<◌, ◌≤◌, min, Bool, cond, List, [], ◌∷◌, ◌++◌, length, get_or, take, drop, Option, Some, None, refl, sym, ap, ◌∙◌, arith, inl, inr, append_assoc, eq-eqb, ne_eqb}
use Rattle.std.specs.Prelude.{option_map, option_and_then, sum}
use Rattle.std.specs.List.{flat_map}
use Rattle.std.proofs.lemmas.Bool.{cases_lt}
use Rattle.std.proofs.lemmas.List.{append-nil, take_all}
use Rattle.std.proofs.lemmas.List.Sums.{sum_by-append}
use Rattle.std.proofs.lemmas.Grind.{flat_map-append}
use Rattle.std.proofs.Math.ListN.{drop_of_length-le}
use Rattle.hex_files.specs.HexText.{pieces, byte_digits, complement, record_bytes, record_line, upper_line, data_lines}
use Rattle.hex_files.specs.HexReading.{byte_of, bytes_of}
use Rattle.hex_files.proofs.PieceLaws.{pieces_some, pieces_none}

-- ---- digits in pairs

-- bytes that were read, and what is still read
abbrev pub ahead : List ℕ → Option (List ℕ) → Option (List ℕ)
ahead front o = option_map (λ more. front ++ more) o

pub begins : (front : List ℕ) (o : Option (List ℕ)) → front ≡ [] → ahead front o ≡ o
begins front o e = ap (λ (f : List ℕ). ahead f o) e ∙ none_yet o
  where
    none_yet : (o : Option (List ℕ)) → ahead [] o ≡ o
    none_yet None = refl
    none_yet (Some bs) = refl

pub two_first : (left : List ℕ) → 2 ≤ length left → left ≡ get_or left 0 0 ∷ get_or left 1 0 ∷ drop 2 left
two_first [] h = absurd (omega arith)
two_first (a ∷ []) h = absurd (omega arith)
two_first (a ∷ b ∷ more) h = refl

regroup : (front : List ℕ) (b : ℕ) (o : Option (List ℕ)) → ahead front (option_map (λ bytes. b ∷ bytes) o) ≡ ahead (front ++ b ∷ []) o
regroup front b None = refl
regroup front b (Some bs) = ap (λ (l : List ℕ). Some l) (sym (append_assoc front (b ∷ []) bs))

opened : (high low : ℕ) (rest : List ℕ) (o : Option ℕ) → byte_of high low ≡ o → bytes_of (high ∷ low ∷ rest) ≡ option_and_then (λ byte. option_map (λ bytes. byte ∷ bytes) (bytes_of rest)) o
unfolding bytes_of
opened high low rest o e = ap (option_and_then (λ byte. option_map (λ bytes. byte ∷ bytes) (bytes_of rest))) e

no_pairs : (l : List ℕ) → length l ≡ 0 → bytes_of l ≡ Some []
unfolding bytes_of
no_pairs [] e = refl
no_pairs (x ∷ l) e = absurd (omega (arith, e))

half_pair : (l : List ℕ) → length l < 2 → 0 < length l → bytes_of l ≡ None
unfolding bytes_of
half_pair [] s p = absurd (omega arith)
half_pair (x ∷ []) s p = refl
half_pair (x ∷ y ∷ l) s p = absurd (omega arith)

module _ (front left : List ℕ) (total : Option (List ℕ)) (same : ahead front (bytes_of left) ≡ total) where
  pub pair_read : (high low byte : ℕ) (rest : List ℕ) → left ≡ high ∷ low ∷ rest → byte_of high low ≡ Some byte → ahead (front ++ byte ∷ []) (bytes_of rest) ≡ total
  pair_read high low byte rest is e = sym (regroup front byte (bytes_of rest)) ∙ ap (ahead front) (sym (ap bytes_of is ∙ opened high low rest (Some byte) e)) ∙ same

  pub no_pair : (high low : ℕ) (rest : List ℕ) → left ≡ high ∷ low ∷ rest → byte_of high low ≡ None → total ≡ None
  no_pair high low rest is e = sym same ∙ ap (ahead front) (ap bytes_of is ∙ opened high low rest None e)

  pub all_pairs : length left ≡ 0 → total ≡ Some front
  all_pairs e = sym same ∙ ap (ahead front) (no_pairs left e) ∙ ap (λ (l : List ℕ). Some l) (append-nil front)

  pub one_left : length left < 2 → 0 < length left → total ≡ None
  one_left short some = sym same ∙ ap (ahead front) (half_pair left short some)

-- ---- sums

pub complement_is : (first total : ℕ) (head content : List ℕ) → first ≡ (0 + sum head) % 256 → total ≡ (first + sum content) % 256 → (256 - total) % 256 ≡ complement (head ++ content)
complement_is first total head content e f = let g : sum (head ++ content) ≡ sum head + sum content = sum_by-append (λ (x : ℕ). x) head content in omega (arith, e, f, g)

-- ---- records

pub record_puts : (o a b c d e head content : List ℕ) (byte address kind : ℕ) → a ≡ o ++ 58 ∷ [] → b ≡ a ++ flat_map byte_digits head → c ≡ b ++ flat_map byte_digits content → d ≡ c ++ byte_digits byte → e ≡ d ++ 10 ∷ []
    → head ++ content ≡ record_bytes address kind content → byte ≡ complement (head ++ content) → e ≡ o ++ record_line address kind content
unfolding record_line
record_puts o a b c d e head content byte address kind pa pb pc pd pe is sum_is =
    pe ∙ ap (λ (t : List ℕ). t ++ 10 ∷ []) (pd ∙ ap (λ (t : List ℕ). t ++ byte_digits byte) (pc ∙ ap (λ (t : List ℕ). t ++ flat_map byte_digits content) (pb ∙ ap (λ (t : List ℕ). t ++ flat_map byte_digits head) pa)))
    ∙ joined o (flat_map byte_digits head) (flat_map byte_digits content) (byte_digits byte)
    ∙ ap (λ (t : List ℕ). o ++ (58 ∷ (t ++ (byte_digits byte ++ 10 ∷ [])))) (sym (flat_map-append byte_digits head content) ∙ ap (flat_map byte_digits) is)
    ∙ ap (λ (n : ℕ). o ++ (58 ∷ (flat_map byte_digits (record_bytes address kind content) ++ (byte_digits n ++ 10 ∷ [])))) (sum_is ∙ ap complement is)
  where
    joined : (o h s t : List ℕ) → ((((o ++ 58 ∷ []) ++ h) ++ s) ++ t) ++ 10 ∷ [] ≡ o ++ (58 ∷ ((h ++ s) ++ (t ++ 10 ∷ [])))
    joined o h s t = simp append_assoc

pub no_upper : (o : List ℕ) (old new : ℕ) → old ≡ new → o ≡ o ++ upper_line old new
no_upper o old new e = sym (ap (λ (b : Bool). o ++ cond b [] (record_line 0 4 (new / 256 ∷ new % 256 ∷ []))) (eq-eqb old new e) ∙ append-nil o)

pub new_upper : (o p : List ℕ) (old new : ℕ) → (old ≡ new → ⊥) → p ≡ o ++ record_line 0 4 (new / 256 ∷ new % 256 ∷ []) → p ≡ o ++ upper_line old new
new_upper o p old new n e = e ∙ sym (ap (λ (b : Bool). o ++ cond b [] (record_line 0 4 (new / 256 ∷ new % 256 ∷ []))) (ne_eqb old new n))

-- ---- pieces

pub taken : (size n : ℕ) (xs : List ℕ) → n ≡ min (length xs) size → take n xs ≡ take size xs
taken size n xs e = elim (cases_lt size (length xs)) [
  | inl lt ↦ (let f : n ≡ size = omega (arith, e) in ap (λ (k : ℕ). take k xs) f)
  | inr le ↦ take_all n xs (omega (arith, e)) ∙ sym (take_all size xs le)
]

pub dropped : (size n : ℕ) (xs : List ℕ) → n ≡ min (length xs) size → drop n xs ≡ drop size xs
dropped size n xs e = elim (cases_lt size (length xs)) [
  | inl lt ↦ (let f : n ≡ size = omega (arith, e) in ap (λ (k : ℕ). drop k xs) f)
  | inr le ↦ drop_of_length-le xs {i = n} (omega (arith, e)) ∙ sym (drop_of_length-le xs {i = size} le)
]

lines_some : (upper address : ℕ) (content : List ℕ) (more : List (List ℕ)) → data_lines upper address (content ∷ more) ≡ upper_line upper (address / 65536) ++ (record_line (address % 65536) 0 content ++ data_lines (address / 65536) (address + length content) more)
unfolding data_lines
lines_some upper address content more = refl

lines_none : (upper address : ℕ) → data_lines upper address [] ≡ []
unfolding data_lines
lines_none upper address = refl

-- the text so far, and the lines that are still put
pub line_put : (out total a b rest content more : List ℕ) (upper address next : ℕ) → out ++ data_lines upper address (pieces 16 rest) ≡ total → 0 < length rest → content ≡ take 16 rest → more ≡ drop 16 rest
    → a ≡ out ++ upper_line upper (address / 65536) → b ≡ a ++ record_line (address % 65536) 0 content → next ≡ address + length content → b ++ data_lines (address / 65536) next (pieces 16 more) ≡ total
line_put out total a b rest content more upper address next same some d m pa pb n =
    ap (λ (t : List ℕ). t ++ data_lines (address / 65536) next (pieces 16 more)) (pb ∙ ap (λ (t : List ℕ). t ++ record_line (address % 65536) 0 content) pa)
    ∙ joined out (upper_line upper (address / 65536)) (record_line (address % 65536) 0 content) (data_lines (address / 65536) next (pieces 16 more))
    ∙ ap (λ (k : ℕ). out ++ (upper_line upper (address / 65536) ++ (record_line (address % 65536) 0 content ++ data_lines (address / 65536) k (pieces 16 more)))) n
    ∙ ap (λ (t : List ℕ). out ++ t) (sym (lines_some upper address content (pieces 16 more)))
    ∙ ap (λ (ps : List (List ℕ)). out ++ data_lines upper address ps) (sym (pieces_some 16 rest (omega arith) some ∙ ap (λ (t : List ℕ). t ∷ pieces 16 (drop 16 rest)) (sym d) ∙ ap (λ (t : List ℕ). content ∷ pieces 16 t) (sym m)))
    ∙ same
  where
    joined : (o u r t : List ℕ) → ((o ++ u) ++ r) ++ t ≡ o ++ (u ++ (r ++ t))
    joined o u r t = simp append_assoc

pub lines_put : (out total rest : List ℕ) (upper address : ℕ) → out ++ data_lines upper address (pieces 16 rest) ≡ total → length rest ≡ 0 → out ≡ total
lines_put out total rest upper address same e =
    sym (append-nil out) ∙ ap (λ (t : List ℕ). out ++ t) (sym (ap (data_lines upper address) (empty rest e) ∙ lines_none upper address)) ∙ same
  where
    empty : (l : List ℕ) → length l ≡ 0 → pieces 16 l ≡ []
    empty [] e = pieces_none 16 (omega arith)
    empty (x ∷ l) e = absurd (omega (arith, e))
