-- Lines read one by one.
use Rattle.std.proofs.Common.{◌≡◌, ℕ, suc, ◌+◌, ◌<◌, ◌≤◌, max, Bool, true, false, cond, List, [], ◌∷◌, length, get_or, drop, drop-cons, Option, Some, None, Result, Ok, Err, refl, sym, ap, subst, ◌∙◌, arith, eq-eqb, ne_eqb}
use Rattle.std.specs.Prelude.{option_and_then}
use Rattle.std.specs.List.{fold}
use Rattle.std.proofs.Math.ListN.{drop_of_length-le}
use Rattle.std.proofs.lemmas.List.Sums.{fold-append}
use Rattle.hex_files.specs.declared.faults.HexFault.{HexFault}
use Rattle.hex_files.specs.declared.faults.HexFault.TheVariants as faults
use Rattle.hex_files.specs.Maps.{Write, laid, stored}
use Rattle.hex_files.specs.HexRecord.{HexRecord}
use Rattle.hex_files.specs.Before.{unless}
use Rattle.hex_files.specs.HexReading.{◌>>=◌, line_bytes, record_of, record_fault, is_past, given_by}
use Rattle.hex_files.specs.HexMachine.{checked_record, record_at, base_behind, Step, meant, step_of, and_more, at_end, writes_from}
use Rattle.hex_files.specs.HexGives.{Misses, bytes_with, values_in}
use Rattle.hex_files.proofs.MapLaws.{all_stored}

pub misses_is : {Y : Type 0} (fault : HexFault) (r : Result Y HexFault) → r ≡ Err fault → Misses fault r
misses_is faults.NoMemory r e = tt
misses_is (faults.NoSuchMemory name) r e = e
misses_is (faults.BadRecord line) r e = e
misses_is (faults.BadSum line kept expected) r e = e
misses_is (faults.RecordType line kind) r e = e
misses_is (faults.AfterEnd line) r e = e
misses_is (faults.PastEnd line address bytes) r e = e
misses_is faults.NoEnd r e = e
misses_is (faults.CellRange index value width) r e = e

-- what misses goes on missing
pub misses_on : {X Y : Type 0} (fault : HexFault) (r : Result X HexFault) (f : Result X HexFault → Result Y HexFault) → ((e : HexFault) → f (Err e) ≡ Err e) → Misses fault r → Misses fault (f r)
misses_on faults.NoMemory r f h m = tt
misses_on (faults.NoSuchMemory name) r f h m = ap f m ∙ h (faults.NoSuchMemory name)
misses_on (faults.BadRecord line) r f h m = ap f m ∙ h (faults.BadRecord line)
misses_on (faults.BadSum line kept expected) r f h m = ap f m ∙ h (faults.BadSum line kept expected)
misses_on (faults.RecordType line kind) r f h m = ap f m ∙ h (faults.RecordType line kind)
misses_on (faults.AfterEnd line) r f h m = ap f m ∙ h (faults.AfterEnd line)
misses_on (faults.PastEnd line address bytes) r f h m = ap f m ∙ h (faults.PastEnd line address bytes)
misses_on faults.NoEnd r f h m = ap f m ∙ h faults.NoEnd
misses_on (faults.CellRange index value width) r f h m = ap f m ∙ h (faults.CellRange index value width)

pub misses_at : {Y : Type 0} (fault : HexFault) (r s : Result Y HexFault) → r ≡ s → Misses fault r → Misses fault s
misses_at fault r s e m = let P : Result _ HexFault → Type 0 = Misses fault in subst P e m

-- ---- the record of a line

module _ (line : ℕ) (text : List ℕ) where
  pub no_record : option_and_then record_of (line_bytes text) ≡ None → record_at line text ≡ Err (faults.BadRecord line)
  unfolding record_at
  no_record e = ap (checked_record line) e

  some_record : (r : HexRecord) → option_and_then record_of (line_bytes text) ≡ Some r → record_at line text ≡ unless (record_fault line r) r
  unfolding record_at
  some_record r e = ap (checked_record line) e

  pub bad_record : (r : HexRecord) (fault : HexFault) → option_and_then record_of (line_bytes text) ≡ Some r → record_fault line r ≡ Some fault → Misses fault (record_at line text)
  bad_record r fault e f = misses_is fault (record_at line text) (some_record r e ∙ ap (λ (o : Option HexFault). unless o r) f)

  pub sound_record : (r : HexRecord) → option_and_then record_of (line_bytes text) ≡ Some r → record_fault line r ≡ None → record_at line text ≡ Ok r
  sound_record r e f = some_record r e ∙ ap (λ (o : Option HexFault). unless o r) f

-- ---- bytes stored one behind the other

module _ (values content : List ℕ) (start at : ℕ) (total : List ℕ) (same : fold stored values (laid (start + at) (drop at content)) ≡ total) where
  pub byte_stored : (now : List ℕ) → at < length content → now ≡ stored values (start + at, get_or content at 0) → fold stored now (laid (start + (at + 1)) (drop (at + 1) content)) ≡ total
  unfolding laid
  byte_stored now inside e =
      ap (λ (l : List ℕ). fold stored l (laid (start + (at + 1)) (drop (at + 1) content))) e
      ∙ (let f : start + (at + 1) ≡ start + at + 1 = omega arith in ap (λ (k : ℕ). fold stored (stored values (start + at, get_or content at 0)) (laid k (drop (at + 1) content))) f)
      ∙ ap (λ (l : List ℕ). fold stored values (laid (start + at) l)) (sym opened) ∙ same
    where
      opened : drop at content ≡ get_or content at 0 ∷ drop (at + 1) content
      opened = let f : suc at ≡ at + 1 = omega arith in drop-cons content at 0 inside ∙ ap (λ (k : ℕ). get_or content at 0 ∷ drop k content) f

  pub bytes_stored : length content ≤ at → values ≡ total
  unfolding laid
  bytes_stored past = ap (λ (l : List ℕ). fold stored values (laid (start + at) l)) (sym (drop_of_length-le content past)) ∙ same

pub first_byte : (values content : List ℕ) (start : ℕ) → fold stored values (laid (start + 0) (drop 0 content)) ≡ fold stored values (laid start content)
first_byte values content start = let e : start + 0 ≡ start = omega arith in ap (λ (k : ℕ). fold stored values (laid k content)) e

-- ---- one line

module _ (size line : ℕ) (base : Option ℕ) (text : List ℕ) where
  pub empty_line : length text ≡ 0 → step_of size line base text ≡ Ok ([], base)
  unfolding step_of
  empty_line e = ap (λ (b : Bool). cond b (Ok ([], base)) (record_at line text >>= meant size line base)) (eq-eqb (length text) 0 e)

  some_line : 0 < length text → step_of size line base text ≡ (record_at line text >>= meant size line base)
  unfolding step_of
  some_line pos = ap (λ (b : Bool). cond b (Ok ([], base)) (record_at line text >>= meant size line base)) (ne_eqb (length text) 0 (λ e. omega (arith, e, pos)))

  pub misses_line : 0 < length text → (fault : HexFault) → Misses fault (record_at line text) → Misses fault (step_of size line base text)
  misses_line pos fault m = misses_at fault _ _ (sym (some_line pos)) (misses_on fault (record_at line text) (λ r. r >>= meant size line base) (λ e. refl) m)

  pub on_record : 0 < length text → (r : HexRecord) → record_at line text ≡ Ok r → step_of size line base text ≡ meant size line base r
  on_record pos r e = some_line pos ∙ ap (λ (x : Result HexRecord HexFault). x >>= meant size line base) e

pub past_record : (size line base : ℕ) (r : HexRecord) → is_past size base r ≡ true → meant size line (Some base) r ≡ Err (faults.PastEnd line (max (base + r.address) size) size)
past_record size line base r e = ap (λ (b : Bool). cond b (Err (faults.PastEnd line (max (base + r.address) size) size)) (Ok (given_by base r, base_behind base r))) e

pub good_record : (size line base : ℕ) (r : HexRecord) → is_past size base r ≡ false → meant size line (Some base) r ≡ Ok (given_by base r, base_behind base r)
good_record size line base r e = ap (λ (b : Bool). cond b (Err (faults.PastEnd line (max (base + r.address) size) size)) (Ok (given_by base r, base_behind base r))) e

-- ---- line by line

pub first_line : (values : List ℕ) (r : Result (List Write) HexFault) → values ≡ [] → bytes_with values r ≡ values_in r
first_line values r e = ap (λ (l : List ℕ). bytes_with l r) e ∙ none_yet r
  where
    none_yet : (r : Result (List Write) HexFault) → bytes_with [] r ≡ values_in r
    none_yet (Err f) = refl
    none_yet (Ok ws) = ap (λ (l : List ℕ). Ok l) (all_stored ws)

lines_some : (size line : ℕ) (base : Option ℕ) (text : List ℕ) (texts : List (List ℕ)) → writes_from size line base (text ∷ texts) ≡ (step_of size line base text >>= λ x. and_more x.0 (writes_from size (line + 1) x.1 texts))
unfolding writes_from
lines_some size line base text texts = refl

lines_none : (size line : ℕ) (base : Option ℕ) → writes_from size line base [] ≡ at_end base
unfolding writes_from
lines_none size line base = refl

module _ (size line : ℕ) (base : Option ℕ) (values : List ℕ) (texts : List (List ℕ)) (total : Result (List ℕ) HexFault) (same : bytes_with values (writes_from size line base texts) ≡ total) where
  pub line_read : (text : List ℕ) (later : List (List ℕ)) (ws : List Write) (behind : Option ℕ) (now : List ℕ) → texts ≡ text ∷ later → step_of size line base text ≡ Ok (ws, behind) → now ≡ fold stored values ws
      → bytes_with now (writes_from size (line + 1) behind later) ≡ total
  line_read text later ws behind now is e f =
      ap (λ (l : List ℕ). bytes_with l (writes_from size (line + 1) behind later)) f ∙ sym (regroup (writes_from size (line + 1) behind later))
      ∙ ap (bytes_with values) (sym (ap (writes_from size line base) is ∙ lines_some size line base text later ∙ ap (λ (x : Result Step HexFault). x >>= λ y. and_more y.0 (writes_from size (line + 1) y.1 later)) e)) ∙ same
    where
      regroup : (r : Result (List Write) HexFault) → bytes_with values (and_more ws r) ≡ bytes_with (fold stored values ws) r
      regroup (Err fault) = refl
      regroup (Ok more) = ap (λ (l : List ℕ). Ok l) (fold-append stored values ws more)

  pub line_missed : (text : List ℕ) (later : List (List ℕ)) (fault : HexFault) → texts ≡ text ∷ later → Misses fault (step_of size line base text) → Misses fault total
  line_missed text later fault is m =
      misses_at fault _ _ (ap (bytes_with values) (sym (ap (writes_from size line base) is ∙ lines_some size line base text later)) ∙ same)
      (misses_on fault (step_of size line base text) (λ r. bytes_with values (r >>= λ y. and_more y.0 (writes_from size (line + 1) y.1 later))) (λ e. refl) m)

  pub all_lines : texts ≡ [] → base ≡ None → total ≡ Ok values
  all_lines e f = sym same ∙ ap (bytes_with values) (ap (writes_from size line base) e ∙ lines_none size line base ∙ ap at_end f)

  pub no_end : (b : ℕ) → texts ≡ [] → base ≡ Some b → total ≡ Err faults.NoEnd
  no_end b e f = sym same ∙ ap (bytes_with values) (ap (writes_from size line base) e ∙ lines_none size line base ∙ ap at_end f)
