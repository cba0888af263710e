-- A reader that goes from line to line gives what the lines give.
use Rattle.std.proofs.Common.{◌≡◌, ℕ, ◌+◌, ◌*◌, max, Bool, true, false, cond, List, [], ◌∷◌, ◌++◌, length, length-append, reverse, get_or, append_assoc, append-nil, Option, Some, None, Result, Ok, Err, refl, sym, ap, ◌∙◌, arith, ne_eqb}
use Rattle.std.specs.Prelude.{slice_get, option_to_list, ◌==◌, ◌||◌}
use Rattle.std.specs.List.{flat_map, list_any}
use Rattle.std.proofs.lemmas.List.{reverse-append}
use Rattle.std.proofs.lemmas.List.Folds.{list_any-append}
use Rattle.std.proofs.lemmas.Grind.{flat_map-append}
use Rattle.hex_files.specs.declared.faults.HexFault.{HexFault}
use Rattle.hex_files.specs.declared.faults.HexFault.TheVariants as faults
use Rattle.hex_files.specs.Before.{with_before, unless}
use Rattle.hex_files.specs.Maps.{Write, or_else}
use Rattle.hex_files.specs.HexRecord.{HexRecord}
use Rattle.hex_files.specs.HexReading.{◌>>=◌, record_fault, is_past, given_by, two_bytes, base_set, base_at, is_end, place_fault, record_in, records_in, fault_in, faults_at, end_fault, given_at, writes_in}
use Rattle.hex_files.specs.HexMachine.{checked_record, record_at, base_behind, Step, meant, step_of, and_more, at_end, writes_from}
use Rattle.hex_files.proofs.Spread.{spread, spread_all}

-- the base in force behind records, and none behind the end record
abbrev base_after : List HexRecord → Option ℕ
base_after rs = cond (list_any is_end rs) None (Some (base_at rs))

after_one : (rs : List HexRecord) (r : HexRecord) → list_any is_end rs ≡ false → base_behind (base_at rs) r ≡ base_after (rs ++ r ∷ [])
after_one rs r e =
    by (r.kind == 1) (r.kind == 2) (r.kind == 4)
    ∙ ap (λ (b : Bool). cond b None (Some (get_or (reverse (base_set r) ++ reverse (flat_map base_set rs)) 0 0))) (sym (list_any-append is_end rs (r ∷ []) ∙ ap (λ (b : Bool). b || ((r.kind == 1) || false)) e))
    ∙ ap (λ (l : List ℕ). cond (list_any is_end (rs ++ r ∷ [])) None (Some (get_or l 0 0))) (sym (reverse-append (flat_map base_set rs) (base_set r)))
    ∙ ap (λ (l : List ℕ). cond (list_any is_end (rs ++ r ∷ [])) None (Some (get_or (reverse l) 0 0))) (sym all_set)
  where
    all_set : flat_map base_set (rs ++ r ∷ []) ≡ flat_map base_set rs ++ base_set r
    all_set = flat_map-append base_set rs (r ∷ []) ∙ ap (λ (l : List ℕ). flat_map base_set rs ++ l) (append-nil (base_set r))

    by : (p q s : Bool) → cond p None (cond q (Some (16 * two_bytes r.content)) (cond s (Some (65536 * two_bytes r.content)) (Some (base_at rs))))
        ≡ cond (p || false) None (Some (get_or (reverse (cond q (16 * two_bytes r.content ∷ []) (cond s (65536 * two_bytes r.content ∷ []) [])) ++ reverse (flat_map base_set rs)) 0 0))
    by true q s = refl
    by false true s = refl
    by false false true = refl
    by false false false = refl

record_more : (front : List (List ℕ)) (text : List ℕ) (o : Option HexRecord) → record_in text ≡ o → records_in (front ++ text ∷ []) ≡ records_in front ++ option_to_list o
record_more front text o e =
    flat_map-append (λ t. option_to_list (record_in t)) front (text ∷ [])
    ∙ ap (λ (l : List HexRecord). records_in front ++ l) (append-nil (option_to_list (record_in text)) ∙ ap option_to_list e)

-- what lines give behind others
abbrev gives_behind : ℕ → List (List ℕ) → List (List ℕ) → Result (List Write) HexFault
gives_behind size front texts =
    unless (or_else (slice_get (spread (faults_at size) front texts) 0) (end_fault (records_in (front ++ texts)))) (spread given_at (records_in front) (records_in texts))

put_before : (ws more : List Write) (o : Option HexFault) → and_more ws (unless o more) ≡ unless o (ws ++ more)
put_before ws more None = refl
put_before ws more (Some f) = refl

no_writes : (r : Result (List Write) HexFault) → and_more [] r ≡ r
no_writes (Ok ws) = refl
no_writes (Err f) = refl

at_the_end : (size line : ℕ) (front : List (List ℕ)) → writes_from size line (base_after (records_in front)) [] ≡ gives_behind size front []
unfolding writes_from spread
at_the_end size line front = by (list_any is_end (records_in front)) ∙ ap (λ (l : List (List ℕ)). unless (end_fault (records_in l)) []) (sym (append-nil front))
  where
    by : (b : Bool) → at_end (cond b None (Some (base_at (records_in front)))) ≡ unless (cond b None (Some faults.NoEnd)) []
    by true = refl
    by false = refl

module _ (size : ℕ) (front : List (List ℕ)) (texts : List (List ℕ)) where
  -- an empty line
  passed : writes_from size (length (front ++ [] ∷ []) + 1) (base_after (records_in (front ++ [] ∷ []))) texts ≡ gives_behind size (front ++ [] ∷ []) texts
      → writes_from size (length front + 1) (base_after (records_in front)) ([] ∷ texts) ≡ gives_behind size front ([] ∷ texts)
  unfolding writes_from step_of spread
  passed rec =
      let same : records_in (front ++ [] ∷ []) ≡ records_in front = record_more front [] None refl ∙ append-nil (records_in front) in
      no_writes (writes_from size (length front + 1 + 1) (base_after (records_in front)) texts)
      ∙ ap (λ (l : List HexRecord). writes_from size (length front + 1 + 1) (base_after l) texts) (sym same)
      ∙ ap (λ (k : ℕ). writes_from size (k + 1) (base_after (records_in (front ++ [] ∷ []))) texts) (sym (length-append front ([] ∷ [])))
      ∙ rec
      ∙ ap (λ (l : List HexRecord). unless (or_else (slice_get (spread (faults_at size) (front ++ [] ∷ []) texts) 0) (end_fault (records_in ((front ++ [] ∷ []) ++ texts)))) (spread given_at l (records_in texts))) same
      ∙ ap (λ (l : List (List ℕ)). unless (or_else (slice_get (spread (faults_at size) (front ++ [] ∷ []) texts) 0) (end_fault (records_in l))) (spread given_at (records_in front) (records_in texts))) (append_assoc front ([] ∷ []) texts)

  -- a line with a byte
  module _ (b : ℕ) (bs : List ℕ) (rec : writes_from size (length (front ++ (b ∷ bs) ∷ []) + 1) (base_after (records_in (front ++ (b ∷ bs) ∷ []))) texts ≡ gives_behind size (front ++ (b ∷ bs) ∷ []) texts) where
    abbrev later : Step → Result (List Write) HexFault
    later x = and_more x.0 (writes_from size (length front + 1 + 1) x.1 texts)

    abbrev more_faults : List HexFault
    more_faults = spread (faults_at size) (front ++ (b ∷ bs) ∷ []) texts

    abbrev at_last : Option HexFault
    at_last = end_fault (records_in (front ++ (b ∷ bs) ∷ texts))

    abbrev refused : Option HexFault → List Write → Result (List Write) HexFault
    refused o ws = unless (or_else (slice_get (option_to_list o ++ more_faults) 0) at_last) ws

    taken : (r : HexRecord) → record_in (b ∷ bs) ≡ Some r → list_any is_end (records_in front) ≡ false
        → and_more (given_by (base_at (records_in front)) r) (writes_from size (length front + 1 + 1) (base_behind (base_at (records_in front)) r) texts)
        ≡ refused None (spread given_at (records_in front) (r ∷ records_in texts))
    unfolding spread
    taken r e going =
        let same : records_in (front ++ (b ∷ bs) ∷ []) ≡ records_in front ++ r ∷ [] = record_more front (b ∷ bs) (Some r) e in
        let ws : List Write = given_by (base_at (records_in front)) r in
        ap (λ (o : Option ℕ). and_more ws (writes_from size (length front + 1 + 1) o texts)) (after_one (records_in front) r going)
        ∙ ap (λ (l : List HexRecord). and_more ws (writes_from size (length front + 1 + 1) (base_after l) texts)) (sym same)
        ∙ ap (λ (k : ℕ). and_more ws (writes_from size (k + 1) (base_after (records_in (front ++ (b ∷ bs) ∷ []))) texts)) (sym (length-append front ((b ∷ bs) ∷ [])))
        ∙ ap (and_more ws) rec
        ∙ ap (λ (l : List HexRecord). and_more ws (unless (or_else (slice_get more_faults 0) (end_fault (records_in ((front ++ (b ∷ bs) ∷ []) ++ texts)))) (spread given_at l (records_in texts)))) same
        ∙ ap (λ (l : List (List ℕ)). and_more ws (unless (or_else (slice_get more_faults 0) (end_fault (records_in l))) (spread given_at (records_in front ++ r ∷ []) (records_in texts)))) (append_assoc front ((b ∷ bs) ∷ []) texts)
        ∙ put_before ws (spread given_at (records_in front ++ r ∷ []) (records_in texts)) (or_else (slice_get more_faults 0) at_last)

    module _ (r : HexRecord) (e : record_in (b ∷ bs) ≡ Some r) where
      abbrev given : List Write
      given = spread given_at (records_in front) (r ∷ records_in texts)

      abbrev past : HexFault
      past = faults.PastEnd (length front + 1) (max (base_at (records_in front) + r.address) size) size

      by_place : list_any is_end (records_in front) ≡ false → (p : Bool)
          → (cond p (Err past) (Ok (given_by (base_at (records_in front)) r, base_behind (base_at (records_in front)) r)) >>= later) ≡ refused (cond p (Some past) None) given
      by_place going true = refl
      by_place going false = taken r e going

      by_end : (ended : Bool) → list_any is_end (records_in front) ≡ ended
          → (meant size (length front + 1) (cond ended None (Some (base_at (records_in front)))) r >>= later)
          ≡ refused (cond ended (Some (faults.AfterEnd (length front + 1))) (cond (is_past size (base_at (records_in front)) r) (Some past) None)) given
      by_end true is = refl
      by_end false is = by_place is (is_past size (base_at (records_in front)) r)

      by_fault : (f : Option HexFault)
          → ((unless f r >>= meant size (length front + 1) (base_after (records_in front))) >>= later) ≡ refused (or_else f (place_fault size (records_in front) (length front + 1) r)) given
      by_fault (Some f) = refl
      by_fault None = by_end (list_any is_end (records_in front)) refl

    by_record : (o : Option HexRecord) → record_in (b ∷ bs) ≡ o
        → ((checked_record (length front + 1) o >>= meant size (length front + 1) (base_after (records_in front))) >>= later)
        ≡ refused (fault_in size (records_in front) (length front + 1) o) (spread given_at (records_in front) (option_to_list o ++ records_in texts))
    by_record None e = refl
    by_record (Some r) e = by_fault r e (record_fault (length front + 1) r)

    read : writes_from size (length front + 1) (base_after (records_in front)) ((b ∷ bs) ∷ texts) ≡ gives_behind size front ((b ∷ bs) ∷ texts)
    unfolding writes_from step_of record_at spread
    read =
        ap (λ (c : Bool). cond c (Ok ([], base_after (records_in front))) (checked_record (length front + 1) (record_in (b ∷ bs)) >>= meant size (length front + 1) (base_after (records_in front))) >>= later) some
        ∙ by_record (record_in (b ∷ bs)) refl
        ∙ ap (λ (c : Bool). refused (cond c None (fault_in size (records_in front) (length front + 1) (record_in (b ∷ bs)))) (spread given_at (records_in front) (option_to_list (record_in (b ∷ bs)) ++ records_in texts))) (sym some)
      where
        some : (length (b ∷ bs) == 0) ≡ false
        some = ne_eqb (length (b ∷ bs)) 0 (λ e. omega (arith, e))

agrees : (size : ℕ) (front texts : List (List ℕ)) → writes_from size (length front + 1) (base_after (records_in front)) texts ≡ gives_behind size front texts
agrees size front [] = at_the_end size (length front + 1) front
agrees size front ([] ∷ texts) = passed size front texts (agrees size (front ++ [] ∷ []) texts)
agrees size front ((b ∷ bs) ∷ texts) = read size front texts b bs (agrees size (front ++ (b ∷ bs) ∷ []) texts)

pub lines_agree : (size : ℕ) (texts : List (List ℕ)) → writes_from size 1 (Some 0) texts ≡ writes_in size texts
lines_agree size texts =
    agrees size [] texts
    ∙ ap (λ (l : List HexFault). unless (or_else (slice_get l 0) (end_fault (records_in texts))) (spread given_at [] (records_in texts))) (sym (spread_all (faults_at size) texts))
    ∙ ap (λ (l : List Write). unless (or_else (slice_get (flat_map (faults_at size) (with_before texts)) 0) (end_fault (records_in texts))) l) (sym (spread_all given_at (records_in texts)))
