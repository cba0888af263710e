-- A board that was read has its items and pins there, and no two devices drive one pin.
use Rattle.std.proofs.Common.{◌≡◌, ◌≢◌, ℕ, zero, suc, ◌<◌, ◌≤◌, Bool, true, false, cond, List, [], ◌∷◌, ◌++◌, length, map, refl, sym, ap, ◌∙◌, subst, arith, append_assoc, length-append, Result, Ok, Err}
use Rattle.std.specs.Prelude.{◌==◌, ◌||◌, codes, nat_le, nat_lt, is_some, All, AllPairs, Option, Some, None}
use Rattle.std.specs.List.{list_any, slice_split}
use Rattle.std.specs.Str.{bytes_eq}
use Rattle.std.proofs.lemmas.Bool.{or_parts, eqb-false, leb-false, ltb-false}
use Rattle.std.proofs.lemmas.List.{get_or-map, map-append}
use Rattle.std.proofs.lemmas.List.Elements.{All-push, All-cons}
use Rattle.std.proofs.lemmas.List.Kept.{AllPairs-cons}
use Rattle.std.proofs.lemmas.List.Quantifiers.{position-Some, all_pairs_push}
use Rattle.lisa_engine.specs.Schedules.{is_named, width_at}
use Rattle.lisa_engine.specs.declared.parts.Item.{Item}
use Rattle.lisa_board.specs.declared.parts.Timer.{Timer}
use Rattle.lisa_board.specs.declared.parts.Console.{Console}
use Rattle.lisa_board.specs.declared.device.Device.{Device}
use Rattle.lisa_board.specs.declared.device.Device.TheVariants as devices
use Rattle.lisa_board.specs.declared.fault.BoardFault.{BoardFault}
use Rattle.lisa_board.specs.declared.fault.BoardFault.TheVariants.{BadLine, UnknownItem, UnknownPin, PinTaken, PinWidth, TooMany}
use Rattle.lisa_board.specs.Boards.{Devices, console_pins, driven_pins, IsTimerFor, IsBoardFor}
use Rattle.lisa_board.specs.BoardLines.{place_of, found, followed_by, is_driven, timer_of, named_console, placed_console, console_of, device_of_words, is_empty_word, device_of, with_device, no_devices}

-- ---- steps that may fail

found_is : {T : Type 0} (o : Option ℕ) (fault : BoardFault) (next : ℕ → Result T BoardFault) (x : T) → found o fault next ≡ Ok x → (p : ℕ) × ((o ≡ Some p) × (next p ≡ Ok x))
found_is None fault next x is = cc
found_is (Some p) fault next x is = (p, (refl, is))

unless_is : {T : Type 0} (test : Bool) (fault : BoardFault) (rest : Result T BoardFault) (x : T) → cond test (Err fault) rest ≡ Ok x → (test ≡ false) × (rest ≡ Ok x)
unless_is true fault rest x is = cc
unless_is false fault rest x is = (refl, is)

where_is : {T : Type 0} (test : Bool) (fault : BoardFault) (rest : Result T BoardFault) (x : T) → cond test rest (Err fault) ≡ Ok x → rest ≡ Ok x
where_is true fault rest x is = is
where_is false fault rest x is = cc

followed_is : {S T : Type 0} (next : S → Result T BoardFault) (r : Result S BoardFault) (x : T) → followed_by next r ≡ Ok x → (y : S) × ((r ≡ Ok y) × (next y ≡ Ok x))
followed_is next (Err fault) x is = cc
followed_is next (Ok y) x is = (y, (refl, is))

ok_same : {T : Type 0} (x y : T) → ◌≡◌ {A = Result T BoardFault} (Ok x) (Ok y) → x ≡ y
ok_same x y is = cc

-- ---- places and pins

there : (parts : List Item) (name : List ℕ) (place : ℕ) → place_of parts name ≡ Some place → place < length parts
there parts name place is = (position-Some (is_named name) parts place (record { name = []; width = 0 }) is).0

free : (pin : ℕ) (others : List ℕ) → list_any (λ other. other == pin) others ≡ false → All (λ other. other ≢ pin) others
free pin [] none k d within = absurd (omega arith)
free pin (o ∷ others) none zero d within = eqb-false o pin (or_parts (o == pin) (list_any (λ other. other == pin) others) none).0
free pin (o ∷ others) none (suc k) d within = free pin others (or_parts (o == pin) (list_any (λ other. other == pin) others) none).1 k d (omega arith)

module _ (items pins : List Item) (line : ℕ) (board : Devices) (for : IsBoardFor items pins board) where
  -- the device that was read is the one that was made
  same_device : (made device : Device) → ◌≡◌ {A = Result Device BoardFault} (Ok made) (Ok device) → IsBoardFor items pins (with_device board made) → IsBoardFor items pins (with_device board device)
  same_device made device same = subst (λ d. IsBoardFor items pins (with_device board d)) (ok_same made device same)

  -- ---- timers

  timer_more : (timer : Timer) → IsTimerFor items pins timer → is_driven board timer.pin ≡ false → nat_le 8 (length board.timers) ≡ false → IsBoardFor items pins (with_device board (devices.Timer timer))
  timer_more timer fits is_free few = record {
    timers = All-push (IsTimerFor items pins) board.timers timer for.timers fits;
    console = for.console;
    count = for.count;
    few = omega (arith, leb-false 8 (length board.timers) few, length-append board.timers (timer ∷ []));
    apart = subst (AllPairs (λ a b. a ≢ b)) (sym same)
        (all_pairs_push (λ a b. a ≢ b) (driven_pins board) timer.pin for.apart (free timer.pin (driven_pins board) is_free));
  }
    where
      same : console_pins board.console ++ map (λ t. t.pin) (board.timers ++ timer ∷ []) ≡ driven_pins board ++ timer.pin ∷ []
      same =
          ap (λ l. console_pins board.console ++ l) (map-append (λ t. t.pin) board.timers (timer ∷ []))
          ∙ sym (append_assoc (console_pins board.console) (map (λ t. t.pin) board.timers) (timer.pin ∷ []))

  timer_fits : (load pin : List ℕ) (device : Device) → timer_of items pins line board load pin ≡ Ok device → IsBoardFor items pins (with_device board device)
  timer_fits load pin device is =
      let of_item = found_is (place_of items load) (UnknownItem line load) (λ item.
      found (place_of pins pin) (UnknownPin line pin) (λ place.
      cond (is_driven board place) (Err (PinTaken line pin))
      (cond (nat_le 8 (length board.timers)) (Err (TooMany line (codes "timer") 8))
      (Ok (devices.Timer (record { load = item; pin = place })))))) device is in
      let of_pin = found_is (place_of pins pin) (UnknownPin line pin) (λ place.
      cond (is_driven board place) (Err (PinTaken line pin))
      (cond (nat_le 8 (length board.timers)) (Err (TooMany line (codes "timer") 8))
      (Ok (devices.Timer (record { load = of_item.0; pin = place }))))) device of_item.1.1 in
      let is_free = unless_is (is_driven board of_pin.0) (PinTaken line pin)
      (cond (nat_le 8 (length board.timers)) (Err (TooMany line (codes "timer") 8)) (Ok (devices.Timer (record { load = of_item.0; pin = of_pin.0 })))) device of_pin.1.1 in
      let is_few = unless_is (nat_le 8 (length board.timers)) (TooMany line (codes "timer") 8) (Ok (devices.Timer (record { load = of_item.0; pin = of_pin.0 }))) device is_free.1 in
      same_device (devices.Timer (record { load = of_item.0; pin = of_pin.0 })) device is_few.1
      (timer_more (record { load = of_item.0; pin = of_pin.0 }) (record { load = there items load of_item.0 of_item.1.0; pin = there pins pin of_pin.0 of_pin.1.0 }) is_free.0 is_few.0)

  -- ---- consoles

  record IsNamed (console : Console) : Type 0 where
    shown : console.shown < length items
    strobe : console.strobe < length items
    taken : console.taken < length items
    byte : console.byte < length pins
    valid : console.valid < length pins

  same_console : (made console : Console) → ◌≡◌ {A = Result Console BoardFault} (Ok made) (Ok console) → IsNamed made → IsNamed console
  same_console made console same = subst IsNamed (ok_same made console same)

  named_fits : (shown strobe byte valid taken : List ℕ) (console : Console) → named_console items pins line shown strobe byte valid taken ≡ Ok console → IsNamed console
  named_fits shown strobe byte valid taken console is =
      let of_shown = found_is (place_of items shown) (UnknownItem line shown) (λ a.
      found (place_of items strobe) (UnknownItem line strobe) (λ b.
      found (place_of items taken) (UnknownItem line taken) (λ c.
      found (place_of pins byte) (UnknownPin line byte) (λ d.
      found (place_of pins valid) (UnknownPin line valid) (λ e.
      Ok (record { shown = a; strobe = b; byte = d; valid = e; taken = c })))))) console is in
      let of_strobe = found_is (place_of items strobe) (UnknownItem line strobe) (λ b.
      found (place_of items taken) (UnknownItem line taken) (λ c.
      found (place_of pins byte) (UnknownPin line byte) (λ d.
      found (place_of pins valid) (UnknownPin line valid) (λ e.
      Ok (record { shown = of_shown.0; strobe = b; byte = d; valid = e; taken = c }))))) console of_shown.1.1 in
      let of_taken = found_is (place_of items taken) (UnknownItem line taken) (λ c.
      found (place_of pins byte) (UnknownPin line byte) (λ d.
      found (place_of pins valid) (UnknownPin line valid) (λ e.
      Ok (record { shown = of_shown.0; strobe = of_strobe.0; byte = d; valid = e; taken = c })))) console of_strobe.1.1 in
      let of_byte = found_is (place_of pins byte) (UnknownPin line byte) (λ d.
      found (place_of pins valid) (UnknownPin line valid) (λ e.
      Ok (record { shown = of_shown.0; strobe = of_strobe.0; byte = d; valid = e; taken = of_taken.0 }))) console of_taken.1.1 in
      let of_valid = found_is (place_of pins valid) (UnknownPin line valid) (λ e.
      Ok (record { shown = of_shown.0; strobe = of_strobe.0; byte = of_byte.0; valid = e; taken = of_taken.0 })) console of_byte.1.1 in
      same_console (record { shown = of_shown.0; strobe = of_strobe.0; byte = of_byte.0; valid = of_valid.0; taken = of_taken.0 }) console of_valid.1.1
      (record {
        shown = there items shown of_shown.0 of_shown.1.0;
        strobe = there items strobe of_strobe.0 of_strobe.1.0;
        taken = there items taken of_taken.0 of_taken.1.0;
        byte = there pins byte of_byte.0 of_byte.1.0;
        valid = there pins valid of_valid.0 of_valid.1.0;
      })

  none_there : (o : Option Console) → is_some o ≡ false → console_pins o ≡ []
  none_there None is = refl
  none_there (Some c) is = cc

  console_more : (console : Console) → IsNamed console → is_driven board console.byte ≡ false → (is_driven board console.valid || console.valid == console.byte) ≡ false
      → nat_lt (width_at pins console.byte) 8 ≡ false → is_some board.console ≡ false → IsBoardFor items pins (with_device board (devices.Console console))
  console_more console names byte_free valid_free wide alone = record {
    timers = for.timers;
    console = record {
      shown = names.shown;
      strobe = names.strobe;
      taken = names.taken;
      byte = names.byte;
      valid = names.valid;
      wide = λ pin. subst (λ w. 8 ≤ w) (get_or-map (λ p. p.width) pins console.byte pin 0 names.byte) (ltb-false (width_at pins console.byte) 8 wide);
    };
    count = for.count;
    few = for.few;
    apart = AllPairs-cons (λ a b. a ≢ b) console.byte (console.valid ∷ timer_pins)
        (All-cons (λ b. console.byte ≢ b) console.valid timer_pins (λ e. eqb-false console.valid console.byte both.1 (sym e)) (λ k d h e. free_timers console.byte byte_free k d h (sym e)))
        (AllPairs-cons (λ a b. a ≢ b) console.valid timer_pins (λ k d h e. free_timers console.valid both.0 k d h (sym e)) (subst (AllPairs (λ a b. a ≢ b)) same for.apart));
  }
    where
      timer_pins : List ℕ
      timer_pins = map (λ t. t.pin) board.timers

      same : driven_pins board ≡ timer_pins
      same = ap (λ l. l ++ timer_pins) (none_there board.console alone)

      both : (is_driven board console.valid ≡ false) × ((console.valid == console.byte) ≡ false)
      both = or_parts (is_driven board console.valid) (console.valid == console.byte) valid_free

      free_timers : (pin : ℕ) → is_driven board pin ≡ false → All (λ other. other ≢ pin) timer_pins
      free_timers pin is = free pin timer_pins (subst (λ l. list_any (λ other. other == pin) l ≡ false) same is)

  placed_fits : (byte valid : List ℕ) (console : Console) (device : Device) → IsNamed console → placed_console pins line board byte valid console ≡ Ok device → IsBoardFor items pins (with_device board device)
  placed_fits byte valid console device names is =
      let alone : Result Device BoardFault = cond (is_some board.console) (Err (TooMany line (codes "console") 1)) (Ok (devices.Console console)) in
      let wide : Result Device BoardFault = cond (nat_lt (width_at pins console.byte) 8) (Err (PinWidth line byte (width_at pins console.byte))) alone in
      let apart : Result Device BoardFault = cond (is_driven board console.valid || console.valid == console.byte) (Err (PinTaken line valid)) wide in
      let a = unless_is (is_driven board console.byte) (PinTaken line byte) apart device is in
      let b = unless_is (is_driven board console.valid || console.valid == console.byte) (PinTaken line valid) wide device a.1 in
      let c = unless_is (nat_lt (width_at pins console.byte) 8) (PinWidth line byte (width_at pins console.byte)) alone device b.1 in
      let d = unless_is (is_some board.console) (TooMany line (codes "console") 1) (Ok (devices.Console console)) device c.1 in
      same_device (devices.Console console) device d.1 (console_more console names a.0 b.0 c.0 d.0)

  console_fits : (shown strobe byte valid taken : List ℕ) (device : Device) → console_of items pins line board shown strobe byte valid taken ≡ Ok device → IsBoardFor items pins (with_device board device)
  console_fits shown strobe byte valid taken device is =
      let named = followed_is (placed_console pins line board byte valid) (named_console items pins line shown strobe byte valid taken) device is in
      placed_fits byte valid named.0 device (named_fits shown strobe byte valid taken named.0 named.1.0) named.1.1

  words_fit : (words : List (List ℕ)) (device : Device) → device_of_words items pins line board words ≡ Ok device → IsBoardFor items pins (with_device board device)
  words_fit [] device is = cc
  words_fit (a ∷ []) device is = cc
  words_fit (a ∷ b ∷ []) device is = cc
  words_fit (a ∷ b ∷ c ∷ []) device is = timer_fits b c device (where_is (bytes_eq a (codes "timer")) (BadLine line) (timer_of items pins line board b c) device is)
  words_fit (a ∷ b ∷ c ∷ d ∷ []) device is = cc
  words_fit (a ∷ b ∷ c ∷ d ∷ e ∷ []) device is = cc
  words_fit (a ∷ b ∷ c ∷ d ∷ e ∷ f ∷ []) device is =
      console_fits b c d e f device (where_is (bytes_eq a (codes "console")) (BadLine line) (console_of items pins line board b c d e f) device is)
  words_fit (a ∷ b ∷ c ∷ d ∷ e ∷ f ∷ g ∷ more) device is = cc

-- one more device
pub device_fits : (items pins : List Item) (line : ℕ) (board : Devices) (text : List ℕ) (device : Device) → IsBoardFor items pins board → device_of items pins line board text ≡ Ok device
    → IsBoardFor items pins (with_device board device)
device_fits items pins line board text device for is =
    let words = slice_split (λ c. c == 32) text in
    words_fit items pins line board for words device (unless_is (list_any is_empty_word words) (BadLine line) (device_of_words items pins line board words) device is).1

-- and none
pub none_fits : (items pins : List Item) → IsBoardFor items pins (no_devices (length pins))
none_fits items pins = record {
  timers = λ k d within. absurd (omega arith);
  console = tt;
  count = refl;
  few = omega arith;
  apart = λ i j d less within. absurd (omega arith);
}
