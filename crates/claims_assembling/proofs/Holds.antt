-- The line of a hold is read back. Assumes nothing.
use mathlib.Core.Path.{◌≡◌, refl, ap, ◌∙◌}
use mathlib.Core.Logic.{inl, inr}
use mathlib.Core.Bool.{Bool, true, false, cond}
use mathlib.Core.List.{List, [], ◌∷◌, ◌++◌, append-nil}
use Prim.Native.Nat.{ℕ, ◌/◌, ◌%◌, ◌<◌, ◌≤◌, ◌^◌}
use native.Mathlib.Omega.{arith}
use lib.Dec.{eqb}
use lib.ListN.{length, get_or}
use Rattle.qsm.specs.declared.event.Event.TheVariants.{Reset, Hold}
use Rattle.trace.specs.Trace.{reset_kind, hold_kind, long_hold_kind}
use Rattle.std.specs.Prelude.{Result, Ok, Err}
use Rattle.text.specs.Digits.{ascii, decimal, hex_byte}
use Rattle.text.specs.Record.{hold, event}
use Rattle.tool_assemble.specs.Scan.{takes, digits, limit, numeral, blanks_from, closed, literal, element, scan_from}
use Rattle.tool_assemble.specs.Item.{hold_item, hold_pattern, long_hold_pattern, holds, reads, writes, reset_item, line_item, access_item, entries, said, item}
use Rattle.tool_assemble.specs.declared.scan.Numbers.{Numbers}
use Rattle.tool_assemble.specs.declared.scan.Found.{Found}
use Rattle.tool_assemble.specs.declared.item.Item.TheVariants.{Record}
use Rattle.tool_assemble.specs.declared.item.Wrong.{Wrong}
use Rattle.tool_assemble.specs.declared.item.Fault.TheVariants.{NotUnderstood}
use Rattle.claims_assembling.specs.Laws.{HoldsGiveBack, ResetsGiveBack}
use Rattle.claims_assembling.proofs.Digits.{hex_least, decimal_first}
use Rattle.claims_assembling.proofs.Steps.{bytes_step, gap_step, number_step, push, found, pins_read, decimal_field}
use Rattle.claims_assembling.proofs.Lines.{printed_is, numbered}

abbrev pub whole : Numbers → Result Found Wrong
whole n = Ok (record { left = 0; numbers = n })

pub end_step : (n : Numbers) → scan_from (31 ∷ []) [] n ≡ whole n
unfolding scan_from element closed blanks_from
end_step n = refl

-- The parts of the pattern and of the text, from the end on.
abbrev clocks_p : ℕ → List ℕ
clocks_p c = ascii "clocks" ++ 32 ∷ c ∷ 31 ∷ []

abbrev rxd_p : ℕ → List ℕ
rxd_p c = ascii "RXD" ++ 32 ∷ 4 ∷ 44 ∷ 32 ∷ clocks_p c

abbrev pins_p : ℕ → List ℕ
pins_p c = ascii "pins" ++ 32 ∷ 1 ∷ 44 ∷ 32 ∷ rxd_p c

abbrev clocks_t : ℕ → List ℕ
clocks_t clocks = ascii "clocks" ++ 32 ∷ (decimal 10 clocks ++ [])

abbrev rxd_t : ℕ → ℕ → List ℕ
rxd_t b clocks = ascii "RXD" ++ 32 ∷ b ∷ 44 ∷ 32 ∷ clocks_t clocks

abbrev pins_t : ℕ → ℕ → ℕ → List ℕ
pins_t pins b clocks = ascii "pins" ++ 32 ∷ (hex_byte pins ++ (44 ∷ 32 ∷ rxd_t b clocks))

module _ (c most clocks : ℕ) (least : 4 ≤ c) (field : c < 31) (is : limit c ≡ most) (small : clocks < most) (fits : clocks < 10 ^ 10) where
  clocks_scan : (n : Numbers) → scan_from (32 ∷ clocks_p c) (32 ∷ clocks_t clocks) n ≡ whole (push n clocks)
  clocks_scan n =
      let first : 48 ≤ get_or (decimal 10 clocks ++ []) 0 0 = (decimal_first 10 clocks [] (omega arith)).0 in
      gap_step (clocks_p c) (clocks_t clocks) n (omega arith)
      ∙ bytes_step (ascii "clocks") (32 ∷ c ∷ 31 ∷ []) (32 ∷ (decimal 10 clocks ++ [])) n refl
      ∙ gap_step (c ∷ 31 ∷ []) (decimal 10 clocks ++ []) n (omega (arith, first))
      ∙ number_step c clocks (decimal 10 clocks) (31 ∷ []) [] n field (decimal_field c 9 clocks most [] least is small fits (omega arith))
      ∙ end_step (push n clocks)

  rxd_scan : (b v : ℕ) (n : Numbers) → 33 ≤ b → numeral 4 ((b ∷ []) ++ (44 ∷ 32 ∷ clocks_t clocks)) ≡ found 1 v →
      scan_from (32 ∷ rxd_p c) (32 ∷ rxd_t b clocks) n ≡ whole (push (push n v) clocks)
  rxd_scan b v n solid read =
      gap_step (rxd_p c) (rxd_t b clocks) n (omega arith)
      ∙ bytes_step (ascii "RXD") (32 ∷ 4 ∷ 44 ∷ 32 ∷ clocks_p c) (32 ∷ b ∷ 44 ∷ 32 ∷ clocks_t clocks) n refl
      ∙ gap_step (4 ∷ 44 ∷ 32 ∷ clocks_p c) (b ∷ 44 ∷ 32 ∷ clocks_t clocks) n solid
      ∙ number_step 4 v (b ∷ []) (44 ∷ 32 ∷ clocks_p c) (44 ∷ 32 ∷ clocks_t clocks) n (omega arith) read
      ∙ bytes_step (44 ∷ []) (32 ∷ clocks_p c) (32 ∷ clocks_t clocks) (push n v) refl
      ∙ clocks_scan (push n v)

  pins_scan : (pins b v : ℕ) (n : Numbers) → pins < 256 → 33 ≤ b → numeral 4 ((b ∷ []) ++ (44 ∷ 32 ∷ clocks_t clocks)) ≡ found 1 v →
      scan_from (32 ∷ pins_p c) (32 ∷ pins_t pins b clocks) n ≡ whole (push (push (push n pins) v) clocks)
  pins_scan pins b v n byte solid read =
      gap_step (pins_p c) (pins_t pins b clocks) n (omega arith)
      ∙ bytes_step (ascii "pins") (32 ∷ 1 ∷ 44 ∷ 32 ∷ rxd_p c) (32 ∷ (hex_byte pins ++ (44 ∷ 32 ∷ rxd_t b clocks))) n refl
      ∙ gap_step (1 ∷ 44 ∷ 32 ∷ rxd_p c) (hex_byte pins ++ (44 ∷ 32 ∷ rxd_t b clocks)) n (omega (arith, hex_least (pins / 16)))
      ∙ number_step 1 pins (hex_byte pins) (44 ∷ 32 ∷ rxd_p c) (44 ∷ 32 ∷ rxd_t b clocks) n (omega arith)
      (pins_read pins (44 ∷ 32 ∷ rxd_t b clocks) byte (omega arith))
      ∙ bytes_step (44 ∷ []) (32 ∷ rxd_p c) (32 ∷ rxd_t b clocks) (push n pins) refl
      ∙ rxd_scan b v (push n pins) solid read

zero_read : (t : List ℕ) → numeral 4 (48 ∷ 44 ∷ t) ≡ found 1 0
unfolding numeral digits takes
zero_read t = refl

one_read : (t : List ℕ) → numeral 4 (49 ∷ 44 ∷ t) ≡ found 1 1
unfolding numeral digits takes
one_read t = refl

abbrev level_byte : Bool → ℕ
level_byte rxd = cond rxd 49 48

level_read : (rxd : Bool) (t : List ℕ) → numeral 4 (level_byte rxd ∷ 44 ∷ t) ≡ found 1 (cond rxd 1 0)
level_read true t = one_read t
level_read false t = zero_read t

level_solid : (rxd : Bool) → 33 ≤ level_byte rxd
level_solid true = omega arith
level_solid false = omega arith

-- A hold as `text` prints it.
spelled : (pins : ℕ) (rxd : Bool) (clocks : ℕ) → hold pins rxd clocks ≡ ascii "hold" ++ 32 ∷ pins_t pins (level_byte rxd) clocks
unfolding hold
spelled pins true clocks = rw append-nil
spelled pins false clocks = rw append-nil

abbrev pub none : Numbers
none = record { first = 0; second = 0; third = 0 }

module _ (c most pins : ℕ) (rxd : Bool) (clocks : ℕ) (least : 4 ≤ c) (field : c < 31) (is : limit c ≡ most) (small : clocks < most) (fits : clocks < 10 ^ 10)
    (byte : pins < 256) where
  hold_scan : scan_from (ascii "hold" ++ 32 ∷ pins_p c) (ascii "hold" ++ 32 ∷ pins_t pins (level_byte rxd) clocks) none
      ≡ whole (record { first = pins; second = cond rxd 1 0; third = clocks })
  hold_scan =
      bytes_step (ascii "hold") (32 ∷ pins_p c) (32 ∷ pins_t pins (level_byte rxd) clocks) none refl
      ∙ pins_scan c most clocks least field is small fits pins (level_byte rxd) (cond rxd 1 0) none byte (level_solid rxd)
      (level_read rxd (32 ∷ clocks_t clocks))

  long_scan : scan_from (ascii "long" ++ 32 ∷ ascii "hold" ++ 32 ∷ pins_p c) (ascii "long" ++ 32 ∷ ascii "hold" ++ 32 ∷ pins_t pins (level_byte rxd) clocks) none
      ≡ whole (record { first = pins; second = cond rxd 1 0; third = clocks })
  long_scan =
      bytes_step (ascii "long") (32 ∷ ascii "hold" ++ 32 ∷ pins_p c) (32 ∷ ascii "hold" ++ 32 ∷ pins_t pins (level_byte rxd) clocks) none refl
      ∙ gap_step (ascii "hold" ++ 32 ∷ pins_p c) (ascii "hold" ++ 32 ∷ pins_t pins (level_byte rxd) clocks) none (omega arith)
      ∙ hold_scan

is_one : (rxd : Bool) → eqb (cond rxd 1 0) 1 ≡ rxd
is_one true = refl
is_one false = refl

hold_item_holds : (kind : ℕ) (pattern t : List ℕ) (pins : ℕ) (rxd : Bool) (clocks : ℕ) → pins < 256 → clocks < 4294967296 →
    scan_from pattern t none ≡ whole (record { first = pins; second = cond rxd 1 0; third = clocks }) →
    hold_item kind pattern t ≡ Ok (Record kind (Hold pins rxd clocks))
unfolding hold_item
hold_item_holds kind pattern t pins rxd clocks byte small is =
    let same : pins % 256 ≡ pins = omega arith in
    let all : clocks % 4294967296 ≡ clocks = omega arith in
    rw (is, is_one rxd, same, all)

-- A long hold is no hold.
other_item : (t : List ℕ) → hold_item hold_kind hold_pattern (108 ∷ t) ≡ Err (record { fault = NotUnderstood; left = length (108 ∷ t) })
unfolding hold_item scan_from element literal
other_item t = refl

hold_entry : (pins : ℕ) (rxd : Bool) (clocks : ℕ) → pins < 256 → clocks < 65536 → entries (hold pins rxd clocks) ≡ Ok (Record hold_kind (Hold pins rxd clocks))
unfolding entries holds
hold_entry pins rxd clocks byte small =
    rw (
      spelled pins rxd clocks,
      hold_item_holds hold_kind hold_pattern (ascii "hold" ++ 32 ∷ pins_t pins (level_byte rxd) clocks) pins rxd clocks byte (omega arith)
          (hold_scan 6 65536 pins rxd clocks (omega arith) (omega arith) refl small (omega arith) byte),
    )

long_entry : (pins : ℕ) (rxd : Bool) (clocks : ℕ) → pins < 256 → clocks < 4294967296 →
    entries (ascii "long " ++ hold pins rxd clocks) ≡ Ok (Record long_hold_kind (Hold pins rxd clocks))
unfolding entries holds
long_entry pins rxd clocks byte small =
    rw (
      spelled pins rxd clocks,
      other_item (ascii "ong hold" ++ 32 ∷ pins_t pins (level_byte rxd) clocks),
      hold_item_holds long_hold_kind long_hold_pattern (ascii "long" ++ 32 ∷ ascii "hold" ++ 32 ∷ pins_t pins (level_byte rxd) clocks) pins rxd clocks byte small
          (long_scan 7 4294967296 pins rxd clocks (omega arith) (omega arith) refl small (omega arith) byte),
    )

hold_first : (pins : ℕ) (rxd : Bool) (clocks : ℕ) → 33 ≤ get_or (hold pins rxd clocks) 0 0
hold_first pins rxd clocks = rw (spelled pins rxd clocks) (omega arith)

pub holds_give_back : HoldsGiveBack
unfolding event
holds_give_back n kind pins rxd clocks (byte, inl (is, small)) =
    rw is
    (ap item (printed_is n hold_kind (Hold pins rxd clocks))
    ∙ numbered n (hold pins rxd clocks) (hold_first pins rxd clocks)
    ∙ ap said (hold_entry pins rxd clocks byte small))
holds_give_back n kind pins rxd clocks (byte, inr (is, small)) =
    rw is
    (ap item (printed_is n long_hold_kind (Hold pins rxd clocks))
    ∙ numbered n (ascii "long " ++ hold pins rxd clocks) (omega arith)
    ∙ ap said (long_entry pins rxd clocks byte small))

reset_entry : entries (ascii "reset") ≡ Ok (Record reset_kind Reset)
unfolding entries holds reads writes reset_item line_item hold_item access_item scan_from element literal numeral blanks_from closed
reset_entry = refl

pub resets_give_back : ResetsGiveBack
unfolding event
resets_give_back n = ap item (printed_is n reset_kind Reset) ∙ numbered n (ascii "reset") (omega arith) ∙ ap said reset_entry
