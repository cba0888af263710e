-- Records that are printed, read again.
use Rattle.std.proofs.Common.{◌≡◌, ◌≢◌, ℕ, zero, suc, ◌+◌, ◌-◌, ◌*◌, ◌/◌, ◌%◌, ◌<◌, ◌≤◌, Bool, true, cond, List, [], ◌∷◌, ◌++◌, length, get_or, take, drop, Option, Some, None, Ok, refl, sym, ap, ◌∙◌, arith, ⊎_elim, append_assoc, length-append, eq-eqb, ne_eqb}
use Rattle.std.specs.Prelude.{◌==◌, option_map, option_and_then}
use Rattle.std.specs.List.{flat_map, slice_split, onto_first}
use Rattle.std.specs.Char.{digit_value, is_digit}
use Rattle.std.specs.Fmt.{digit_glyph}
use Rattle.std.specs.Str.Lines.{lines, strip_carriage_return}
use Rattle.std.proofs.lemmas.Bool.{cases_lt, lt-ltb, le-ltb}
use Rattle.std.proofs.lemmas.Grind.{flat_map-append}
use Rattle.std.proofs.lemmas.List.Splits.{slice_split-cons_yes, slice_split-cons_no}
use Rattle.std.proofs.Math.Seq.{take-append_seam, get_or-append_seam}
use Rattle.text_lines.proofs.Parts.{line_there}
use Rattle.hex_files.specs.declared.faults.HexFault.{HexFault}
use Rattle.hex_files.specs.HexRecord.{HexRecord}
use Rattle.hex_files.specs.HexText.{byte_digits, complement, record_bytes, record_line}
use Rattle.hex_files.specs.Before.{unless}
use Rattle.hex_files.specs.HexReading.{byte_of, bytes_of, record_of, is_sized, record_fault}
use Rattle.hex_files.specs.HexMachine.{checked_record, record_at}

-- ---- digits

upper_small : (d : ℕ) → d < 10 → digit_glyph true d ≡ 48 + d
upper_small d h = ap (λ (b : Bool). cond b (48 + d) (55 + d)) (lt-ltb d 10 h)

upper_large : (d : ℕ) → 10 ≤ d → digit_glyph true d ≡ 55 + d
upper_large d h = ap (λ (b : Bool). cond b (48 + d) (55 + d)) (le-ltb d 10 h)

upper_value : (d : ℕ) → d < 16 → digit_value (digit_glyph true d) ≡ d
upper_value d lt = ⊎_elim
    (λ h. ap digit_value (upper_small d h) ∙ rw (le-ltb (48 + d) 48 (omega arith), lt-ltb (48 + d) 58 (omega (arith, h))) (omega arith))
    (λ h. ap digit_value (upper_large d h) ∙ rw (le-ltb (55 + d) 48 (omega arith), le-ltb (55 + d) 58 (omega (arith, h)), le-ltb (55 + d) 65 (omega (arith, h)), lt-ltb (55 + d) 91 (omega (arith, lt))) (omega arith))
    (cases_lt d 10)

upper_above : (d : ℕ) → d < 16 → 47 < digit_glyph true d
upper_above d lt = ⊎_elim (λ h. omega (arith, upper_small d h)) (λ h. omega (arith, upper_large d h)) (cases_lt d 10)

upper_digit : (d : ℕ) → d < 16 → is_digit (digit_glyph true d) 16 ≡ true
upper_digit d lt = lt-ltb (digit_value (digit_glyph true d)) 16 (omega (arith, upper_value d lt))

byte_there : (b : ℕ) → b < 256 → byte_of (digit_glyph true (b / 16)) (digit_glyph true (b % 16)) ≡ Some b
byte_there b lt =
    rw (upper_digit (b / 16) (omega arith), upper_digit (b % 16) (omega arith), upper_value (b / 16) (omega arith), upper_value (b % 16) (omega arith))
    (let e : 16 * (b / 16) + b % 16 ≡ b = omega arith in ap (λ (n : ℕ). Some n) e)

-- bytes
pub data Bytes : List ℕ → Type 0 where
  nil : Bytes []
  cons : {b : ℕ} {bs : List ℕ} → b < 256 → Bytes bs → Bytes (b ∷ bs)

pub bytes-append : (xs ys : List ℕ) → Bytes xs → Bytes ys → Bytes (xs ++ ys)
bytes-append [] ys nil h = h
bytes-append (x ∷ xs) ys (cons lt g) h = cons lt (bytes-append xs ys g h)

pub bytes-take : (n : ℕ) (xs : List ℕ) → Bytes xs → Bytes (take n xs)
bytes-take zero xs g = nil
bytes-take (suc n) [] g = nil
bytes-take (suc n) (x ∷ xs) (cons lt g) = cons lt (bytes-take n xs g)

pub bytes-drop : (n : ℕ) (xs : List ℕ) → Bytes xs → Bytes (drop n xs)
bytes-drop zero xs g = g
bytes-drop (suc n) [] g = nil
bytes-drop (suc n) (x ∷ xs) (cons lt g) = bytes-drop n xs g

pairs_there : (bs : List ℕ) → Bytes bs → bytes_of (flat_map byte_digits bs) ≡ Some bs
unfolding bytes_of
pairs_there [] nil = refl
pairs_there (b ∷ bs) (cons lt g) =
    ap (option_and_then (λ byte. option_map (λ bytes. byte ∷ bytes) (bytes_of (flat_map byte_digits bs)))) (byte_there b lt)
    ∙ ap (option_map (λ bytes. b ∷ bytes)) (pairs_there bs g)

-- ---- lines

-- no line feed, carriage return or other byte below the digits
pub data Above : List ℕ → Type 0 where
  empty : Above []
  next : {b : ℕ} {bs : List ℕ} → 47 < b → Above bs → Above (b ∷ bs)

digits_above : (bs : List ℕ) → Bytes bs → Above (flat_map byte_digits bs)
digits_above [] nil = empty
digits_above (b ∷ bs) (cons lt g) = next (upper_above (b / 16) (omega arith)) (next (upper_above (b % 16) (omega arith)) (digits_above bs g))

cut_there : (xs rest : List ℕ) → Above xs → slice_split (λ b. b == 10) (xs ++ 10 ∷ rest) ≡ xs ∷ slice_split (λ b. b == 10) rest
cut_there [] rest empty = slice_split-cons_yes (λ b. b == 10) 10 rest refl
cut_there (x ∷ xs) rest (next h more) = slice_split-cons_no (λ b. b == 10) x (xs ++ 10 ∷ rest) (ne_eqb x 10 (λ e. omega (arith, e, h))) ∙ ap (onto_first x) (cut_there xs rest more)

no_return_at : (xs : List ℕ) (i : ℕ) → Above xs → get_or xs i 0 ≢ 13
no_return_at [] i empty e = omega (arith, e)
no_return_at (x ∷ xs) zero (next h more) e = omega (arith, e, h)
no_return_at (x ∷ xs) (suc i) (next h more) e = no_return_at xs i more e

no_return : (xs : List ℕ) → Above xs → strip_carriage_return xs ≡ xs
no_return xs h = ap (λ (b : Bool). cond b (take (length xs - 1) xs) xs) (ne_eqb (get_or xs (length xs - 1) 0) 13 (no_return_at xs (length xs - 1) h))

lines_cut : (xs rest : List ℕ) → Above xs → lines (xs ++ 10 ∷ rest) ≡ xs ∷ lines rest
lines_cut xs rest h = line_there (xs ++ 10 ∷ rest) xs rest (cut_there xs rest h) ∙ ap (λ (l : List ℕ). l ∷ lines rest) (no_return xs h)

-- ---- records

-- the bytes of a record, and its line without its end
all_bytes : ℕ → ℕ → List ℕ → List ℕ
all_bytes address kind content = record_bytes address kind content ++ complement (record_bytes address kind content) ∷ []

pub record_text : ℕ → ℕ → List ℕ → List ℕ
record_text address kind content = 58 ∷ flat_map byte_digits (all_bytes address kind content)

pub not_empty : (address kind : ℕ) (content : List ℕ) → 0 < length (record_text address kind content)
unfolding record_text
not_empty address kind content = omega arith

line_is : (address kind : ℕ) (content : List ℕ) → record_line address kind content ≡ record_text address kind content ++ 10 ∷ []
unfolding record_line record_text all_bytes
line_is address kind content =
    let bytes : List ℕ = record_bytes address kind content in
    let last : List ℕ = byte_digits (complement bytes) in
    ap (λ (t : List ℕ). 58 ∷ t) (sym (append_assoc (flat_map byte_digits bytes) last (10 ∷ [])))
    ∙ ap (λ (t : List ℕ). 58 ∷ (t ++ 10 ∷ [])) (sym (flat_map-append byte_digits bytes (complement bytes ∷ [])))

-- a record whose parts are bytes, as many as its type may have
pub record IsWhole (address kind : ℕ) (content : List ℕ) : Type 0 where
  pub short : address < 65536
  pub few : length content < 256
  pub known : kind ≤ 5
  pub bytes : Bytes content
  pub sized : is_sized (record { address = address; kind = kind; content = content; kept = complement (record_bytes address kind content); expected = complement (record_bytes address kind content) }) ≡ true

-- the record that a record's line is
abbrev pub told : ℕ → ℕ → List ℕ → HexRecord
told address kind content = record { address = address; kind = kind; content = content; kept = complement (record_bytes address kind content); expected = complement (record_bytes address kind content) }

module _ (address kind : ℕ) (content : List ℕ) (w : IsWhole address kind content) where
  are_bytes : Bytes (all_bytes address kind content)
  unfolding all_bytes
  are_bytes =
      let s = w.short in let k = w.known in
      bytes-append (record_bytes address kind content) (complement (record_bytes address kind content) ∷ [])
      (cons w.few (cons (omega arith) (cons (omega arith) (cons (omega arith) w.bytes)))) (cons (omega arith) nil)

  pub text_above : Above (record_text address kind content)
  unfolding record_text
  text_above = next (omega arith) (digits_above (all_bytes address kind content) are_bytes)

  pub first_cut : (rest : List ℕ) → lines (record_line address kind content ++ rest) ≡ record_text address kind content ∷ lines rest
  first_cut rest = ap lines (ap (λ (t : List ℕ). t ++ rest) (line_is address kind content) ∙ append_assoc (record_text address kind content) (10 ∷ []) rest) ∙ lines_cut (record_text address kind content) rest text_above

  of_bytes : record_of (all_bytes address kind content) ≡ Some (told address kind content)
  unfolding record_of all_bytes
  of_bytes =
      let c : ℕ = complement (record_bytes address kind content) in
      let sum_is : List ℕ → ℕ = λ t. complement (length content ∷ address / 256 ∷ address % 256 ∷ kind ∷ t) in
      ap (λ (b : Bool). cond b (Some (record { address = 256 * (address / 256) + address % 256; kind = kind; content = take (length content) (content ++ c ∷ []); kept = get_or (content ++ c ∷ []) (length content) 0; expected = sum_is (take (length content) (content ++ c ∷ [])) })) None)
      (eq-eqb (length (content ++ c ∷ [])) (length content + 1) (length-append content (c ∷ [])))
      ∙ ap (λ (t : List ℕ). Some (record { address = 256 * (address / 256) + address % 256; kind = kind; content = t; kept = get_or (content ++ c ∷ []) (length content) 0; expected = sum_is t })) (take-append_seam content (c ∷ []))
      ∙ ap (λ (k : ℕ). Some (record { address = 256 * (address / 256) + address % 256; kind = kind; content = content; kept = k; expected = c })) (get_or-append_seam content c [] 0)
      ∙ (let e : 256 * (address / 256) + address % 256 ≡ address = omega arith in ap (λ (a : ℕ). Some (record { address = a; kind = kind; content = content; kept = c; expected = c })) e)

  no_fault : (line : ℕ) → record_fault line (told address kind content) ≡ None
  no_fault line =
      let k = w.known in
      rw (w.sized, eq-eqb (complement (record_bytes address kind content)) (complement (record_bytes address kind content)) refl, le-ltb 5 kind k) refl

  pub record_read : (line : ℕ) → record_at line (record_text address kind content) ≡ Ok (told address kind content)
  unfolding record_at record_text
  record_read line =
      ap (λ (o : Option (List ℕ)). checked_record line (option_and_then record_of o)) (pairs_there (all_bytes address kind content) are_bytes)
      ∙ ap (checked_record line) of_bytes
      ∙ ap (λ (o : Option HexFault). unless o (told address kind content)) (no_fault line)
