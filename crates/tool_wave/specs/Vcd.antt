-- A change as text, as a VCD file has it: its time in ns, and the value and name of each line that differs.
use Rattle.std.specs.Prelude.{cond, List, [], ◌∷◌, ◌++◌, ℕ, zero, suc, ◌+◌, ◌*◌, ◌/◌, ◌%◌, eqb}
use Rattle.steps.specs.Bits.{bit, digit}
use Rattle.text.specs.Digits.{decimal_digit, decimal}
use Rattle.tool_wave.specs.declared.view.View.{View}
use Rattle.tool_wave.specs.declared.vcd.Bits.{Bits}
use Rattle.tool_wave.specs.declared.Step.{Step}

-- Clock n of so many a second stands at n x 10^9 / HZ, rounded down.
abbrev pub time : ℕ → ℕ → ℕ
time hz n = cond (eqb hz 0) 0 (n * 1000000000 / hz)

-- `#` and the time.
abbrev pub time_text : ℕ → ℕ → List ℕ
time_text hz n = 35 ∷ decimal 29 (time hz n) ++ (10 ∷ [])

-- The last nine digits of a number.
unfoldable pub nine : ℕ → List ℕ
nine n =
    decimal_digit (n / 100000000)
    ∷ decimal_digit (n / 10000000)
    ∷ decimal_digit (n / 1000000)
    ∷ decimal_digit (n / 100000)
    ∷ decimal_digit (n / 10000)
    ∷ decimal_digit (n / 1000)
    ∷ decimal_digit (n / 100)
    ∷ decimal_digit (n / 10)
    ∷ decimal_digit n
    ∷ []

-- The first of some lines: x where they are not known, z where it is not driven, else 0 or 1.
abbrev pub sign : Bits → ℕ
sign b = cond b.known (cond (bit 0 b.mask) (48 + b.levels % 2) 122) 120

abbrev pub halved : Bits → Bits
halved b = record { known = b.known; mask = b.mask / 2; levels = b.levels / 2 }

-- A value and the name of its line, where it differs.
abbrev pub value : ℕ → ℕ → ℕ → List ℕ
value id a b = cond (eqb a b) [] (b ∷ id ∷ 10 ∷ [])

-- n lines, named from id on.
unfoldable pub values : ℕ → ℕ → Bits → Bits → List ℕ
values zero id a b = []
values (suc n) id a b = value id (sign a) (sign b) ++ values n (id + 1) (halved a) (halved b)

-- MISO, MOSI, SCK, PCS0 to PCS3 and TXD as driven; the inputs and RXD as given; level and vector.
abbrev pub outputs : View → Bits
outputs v = record { known = v.known; mask = v.look.mask; levels = v.look.levels }

abbrev pub inputs : View → Bits
inputs v = record { known = v.given; mask = 255; levels = v.inputs }

abbrev pub rxd : View → Bits
rxd v = record { known = v.given; mask = 255; levels = digit v.rxd }

abbrev pub level : View → Bits
level v = record { known = v.known; mask = 255; levels = v.look.level }

abbrev pub vector : View → Bits
vector v = record { known = v.known; mask = 255; levels = v.look.vector }

-- An event named by the refusal's number.
abbrev pub refused : ℕ → List ℕ
refused why = cond (eqb why 0) [] (49 ∷ (48 + why % 10) ∷ 10 ∷ [])

-- Outputs a to h, inputs A to H, RXD I, level i to k, vector l to s, refusals 1 to 4.
abbrev pub step_text : ℕ → Step → List ℕ
step_text hz s =
    time_text hz s.clock
    ++ values 8 97 (outputs s.before) (outputs s.after)
    ++ values 8 65 (inputs s.before) (inputs s.after)
    ++ values 1 73 (rxd s.before) (rxd s.after)
    ++ values 3 105 (level s.before) (level s.after)
    ++ values 8 108 (vector s.before) (vector s.after)
    ++ refused s.refusal
