-- What a board feeds fits the pins.
use Rattle.std.proofs.Common.{◌≡◌, ℕ, zero, suc, ◌^◌, ◌<◌, ◌≤◌, List, [], ◌∷◌, length, get_or, map, replicate, sym, ap, ◌∙◌, subst, arith, ⊎_elim}
use Rattle.std.specs.Prelude.{◌==◌, All, fold, slice_index, Option, Some, None, IfSome}
use Rattle.std.proofs.Math.Pow.{pow_mono}
use Rattle.std.proofs.lemmas.Bool.{cases_Bool}
use Rattle.std.proofs.lemmas.List.Elements.{All-map, All-drop}
use Rattle.std.proofs.lemmas.Grind.{fold-append}
use Rattle.lisa_engine.specs.Shape.{IsFitting, IsWidth}
use Rattle.lisa_engine.specs.PinValues.{set_pin}
use Rattle.lisa_engine.specs.declared.parts.Item.{Item}
use Rattle.lisa_engine.specs.declared.parts.Setting.{Setting}
use Rattle.lisa_engine.proofs.Played.{zeros_fit, set_fits}
use Rattle.lisa_board.specs.declared.parts.Timer.{Timer}
use Rattle.lisa_board.specs.declared.parts.Console.{Console}
use Rattle.lisa_board.specs.declared.timers.Counter.{Counter}
use Rattle.lisa_board.specs.Boards.{Devices, IsTimerFor, IsConsoleFor, IsBoardFor}
use Rattle.lisa_board.specs.Kept.{offered_by}
use Rattle.lisa_board.specs.Feeding.{tick, at_zero, counter_after, pulse_of, offer, offers, rest_of, feed}

-- the pin is there, and the value fits it
record IsSettingFor (pins : List Item) (setting : Setting) : Type 0 where
  there : setting.pin < length pins
  small : (pin : Item) → setting.value < 2 ^ (get_or pins setting.pin pin).width

settings_fit : (pins : List Item) (settings : List Setting) (values : List ℕ) → IsFitting pins values → All (IsSettingFor pins) settings → IsFitting pins (fold set_pin values settings)
settings_fit pins [] values fit all = fit
settings_fit pins (s ∷ ss) values fit all =
    let first : IsSettingFor pins s = all 0 s (omega arith) in
    settings_fit pins ss (set_pin values s) (set_fits pins values s fit first.there first.small) (λ k d h. all (suc k) d (omega arith))

-- a width of at least one bit has 0 and 1, and one of 8 has each byte
bit_fits : (value width : ℕ) → value ≤ 1 → 1 ≤ width → value < 2 ^ width
bit_fits value width bit wide = let least : 2 ^ 1 ≤ 2 ^ width = pow_mono wide in omega (arith, least)

byte_fits : (value width : ℕ) → value < 256 → 8 ≤ width → value < 2 ^ width
byte_fits value width byte wide = let least : 2 ^ 8 ≤ 2 ^ width = pow_mono wide in omega (arith, least)

tick_bit : (counter : Counter) (load : ℕ) → (tick counter load).pulse ≤ 1
tick_bit counter load = ⊎_elim
    (λ t. rw t (omega arith))
    (λ f. rw f (⊎_elim (λ t. rw t (omega arith)) (λ g. rw g (omega arith)) (cases_Bool (counter.count == 1))))
    (cases_Bool (counter.count == 0))

ticks_bit : (loads : List ℕ) (counter : Counter) → counter.pulse ≤ 1 → (fold tick counter loads).pulse ≤ 1
ticks_bit [] counter bit = bit
ticks_bit (load ∷ loads) counter bit = ticks_bit loads (tick counter load) (tick_bit counter load)

module _ (items pins : List Item) (widths : All (λ pin. IsWidth pin.width) pins) where
  pulse_fits : (rows : List (List ℕ)) (timer : Timer) → IsTimerFor items pins timer → IsSettingFor pins (pulse_of rows timer)
  pulse_fits rows timer for = record {
    there = for.pin;
    small = λ pin. bit_fits (counter_after timer rows).pulse (get_or pins timer.pin pin).width
        (ticks_bit (map (λ row. slice_index row timer.load) rows) at_zero (omega arith)) (widths timer.pin pin for.pin).0;
  }

  valid_fits : (console : Console) (value : ℕ) → IsConsoleFor items pins console → value ≤ 1 → IsSettingFor pins (record { pin = console.valid; value = value })
  valid_fits console value for bit = record { there = for.valid; small = λ pin. bit_fits value (get_or pins console.valid pin).width bit (widths console.valid pin for.valid).0 }

  byte_is : (console : Console) (value : ℕ) → IsConsoleFor items pins console → value < 256 → IsSettingFor pins (record { pin = console.byte; value = value })
  byte_is console value for byte = record { there = for.byte; small = λ pin. byte_fits value (get_or pins console.byte pin).width byte (for.wide pin) }

  both_fit : (a b : Setting) → IsSettingFor pins a → IsSettingFor pins b → All (IsSettingFor pins) (a ∷ b ∷ [])
  both_fit a b first second zero d h = first
  both_fit a b first second (suc zero) d h = second
  both_fit a b first second (suc (suc k)) d h = absurd (omega arith)

  offer_fits : (console : Console) (rest : List ℕ) → IsConsoleFor items pins console → All (λ b. b < 256) rest → All (IsSettingFor pins) (offer console rest)
  offer_fits console [] for bytes =
      both_fit (record { pin = console.byte; value = 0 }) (record { pin = console.valid; value = 0 }) (byte_is console 0 for (omega arith)) (valid_fits console 0 for (omega arith))
  offer_fits console (byte ∷ rest) for bytes =
      both_fit (record { pin = console.byte; value = byte }) (record { pin = console.valid; value = 1 }) (byte_is console byte for (bytes 0 byte (omega arith))) (valid_fits console 1 for (omega arith))

  offers_fit : (console : Option Console) (input : List ℕ) (rows : List (List ℕ)) → IfSome console (IsConsoleFor items pins) → All (λ b. b < 256) input → All (IsSettingFor pins) (offers console input rows)
  offers_fit None input rows for bytes = λ k d h. absurd (omega arith)
  offers_fit (Some console) input rows for bytes = offer_fits console (rest_of console input rows) for (All-drop (λ b. b < 256) _ input bytes)

  pub feed_fits : (board : Devices) (input : List ℕ) (rows : List (List ℕ)) → IsBoardFor items pins board → All (λ b. b < 256) input → IsFitting pins (feed board input rows)
  feed_fits board input rows for bytes =
      let zeros : IsFitting pins (replicate board.pins 0) = subst (λ n. IsFitting pins (replicate n 0)) (sym for.count) (zeros_fit pins) in
      let timers : All (IsSettingFor pins) (map (pulse_of rows) board.timers)
      = All-map (IsSettingFor pins) (pulse_of rows) board.timers (λ k d h. pulse_fits rows (get_or board.timers k d) (for.timers k d h)) in
      subst (IsFitting pins) (sym (fold-append set_pin (replicate board.pins 0) (map (pulse_of rows) board.timers) (offers board.console input rows)))
      (settings_fit pins (offers board.console input rows) (fold set_pin (replicate board.pins 0) (map (pulse_of rows) board.timers))
      (settings_fit pins (map (pulse_of rows) board.timers) (replicate board.pins 0) zeros timers)
      (offers_fit board.console input rows for.console bytes))

-- the devices' pins are among so many
pub timer_pins : (items pins : List Item) (board : Devices) (n : ℕ) → IsBoardFor items pins board → n ≡ board.pins → All (λ timer. timer.pin < n) board.timers
timer_pins items pins board n for is k d h = omega (arith, (for.timers k d h).pin, for.count)

pub byte_pin : (items pins : List Item) (o : Option Console) (n : ℕ) → IfSome o (IsConsoleFor items pins) → n ≡ length pins → IfSome o (λ c. c.byte < n)
byte_pin items pins None n for is = tt
byte_pin items pins (Some console) n for is = omega (arith, for.byte)

pub valid_pin : (items pins : List Item) (o : Option Console) (n : ℕ) → IfSome o (IsConsoleFor items pins) → n ≡ length pins → IfSome o (λ c. c.valid < n)
valid_pin items pins None n for is = tt
valid_pin items pins (Some console) n for is = omega (arith, for.valid)

-- pins that are cleared, then given the timers' values and then the console's, are fed
pub pins_fed : (board : Devices) (console : Option Console) (timers : List Timer) (counters : List Counter) (input rest : List ℕ) (rows : List (List ℕ)) (first pulsed last : List ℕ)
    → timers ≡ board.timers → console ≡ board.console → counters ≡ map (λ t. counter_after t rows) board.timers → offered_by board.console rest ≡ offers board.console input rows
    → first ≡ replicate board.pins 0 → ((rs : List (List ℕ)) → counters ≡ map (λ t. counter_after t rs) timers → pulsed ≡ fold set_pin first (map (pulse_of rs) timers))
    → last ≡ fold set_pin pulsed (offered_by console rest) → last ≡ feed board input rows
pins_fed board console timers counters input rest rows first pulsed last same alone looked left cleared pulses offered =
    let zeros : List ℕ = replicate board.pins 0 in
    let pulsing : pulsed ≡ fold set_pin zeros (map (pulse_of rows) board.timers)
    = pulses rows (looked ∙ ap (map (λ t. counter_after t rows)) (sym same))
    ∙ ap (λ v. fold set_pin v (map (pulse_of rows) timers)) cleared
    ∙ ap (λ ts. fold set_pin zeros (map (pulse_of rows) ts)) same in
    offered
    ∙ ap (λ v. fold set_pin v (offered_by console rest)) pulsing
    ∙ ap (λ c. fold set_pin (fold set_pin zeros (map (pulse_of rows) board.timers)) (offered_by c rest)) alone
    ∙ ap (fold set_pin (fold set_pin zeros (map (pulse_of rows) board.timers))) left
    ∙ sym (fold-append set_pin zeros (map (pulse_of rows) board.timers) (offers board.console input rows))
