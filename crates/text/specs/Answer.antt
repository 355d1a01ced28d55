-- The line of an answer: `8: refusal 2 (unmapped), value 00000000, pins TXD=0, no request, clock 1024`; one of kind 10 has no clock.
use Rattle.std.specs.Prelude.{Bool, cond, not, ◌&&◌, List, [], ◌∷◌, ◌++◌, ℕ, eqb, ltb}
use Rattle.steps.specs.Bits.{bit}
use Rattle.qsm.specs.declared.event.Answer.{Answer}
use Rattle.answers.specs.Answer.{clocked}
use Rattle.text.specs.Digits.{ascii, decimal, hex_byte, hex_long, number}
use Rattle.text.specs.declared.log.Logged.{Logged}

-- A refusal that no answer has: an access is refused 1 to 4 (document 01), a driver's event 9 too (02, L11).
abbrev pub unnamed : ℕ → Bool
unnamed number = ltb 4 number && not (eqb number 9)

-- Those that an answer has.
unfoldable pub refusal : ℕ → List ℕ
refusal number =
    cond (eqb number 0) (ascii "ok")
    (cond (eqb number 1) (ascii "refusal 1 (misshapen)")
    (cond (eqb number 2) (ascii "refusal 2 (unmapped)")
    (cond (eqb number 3) (ascii "refusal 3 (unmodelled bit)")
    (cond (eqb number 4) (ascii "refusal 4 (guarded field)")
    (cond (eqb number 9) (ascii "refusal 9 (not yours)")
    (ascii "unknown refusal"))))))

-- A pin by its name with its level, if it is driven.
abbrev pub pin : List ℕ → Bool → Bool → List ℕ
pin name driven high = cond driven (name ++ cond high (ascii "=1") (ascii "=0")) []

-- Pins 0 to 7.
unfoldable pub each_pin : ℕ → ℕ → List ℕ
each_pin mask levels =
    pin (ascii " MISO") (bit 0 mask) (bit 0 levels)
    ++ pin (ascii " MOSI") (bit 1 mask) (bit 1 levels)
    ++ pin (ascii " SCK") (bit 2 mask) (bit 2 levels)
    ++ pin (ascii " PCS0") (bit 3 mask) (bit 3 levels)
    ++ pin (ascii " PCS1") (bit 4 mask) (bit 4 levels)
    ++ pin (ascii " PCS2") (bit 5 mask) (bit 5 levels)
    ++ pin (ascii " PCS3") (bit 6 mask) (bit 6 levels)
    ++ pin (ascii " TXD") (bit 7 mask) (bit 7 levels)

unfoldable pub pins : ℕ → ℕ → List ℕ
pins mask levels = cond (eqb mask 0) (ascii "no pin driven") (ascii "pins" ++ each_pin mask levels)

-- Level 0 is no request.
unfoldable pub request : ℕ → ℕ → List ℕ
request level vector =
    cond (eqb level 0) (ascii "no request")
    (ascii "request level " ++ decimal 3 level ++ ascii " vector " ++ hex_byte vector)

unfoldable pub fields : Answer → List ℕ
fields a =
    refusal a.refusal
    ++ ascii ", value "
    ++ hex_long a.value
    ++ ascii ", "
    ++ pins a.mask a.levels
    ++ ascii ", "
    ++ request a.level a.vector

unfoldable pub clock : ℕ → ℕ → List ℕ
clock kind clocks = cond (eqb kind clocked) (ascii ", clock " ++ decimal 20 clocks) []

-- The line of answer n, with the byte that ends a line.
abbrev pub answer_line : ℕ → Logged → List ℕ
answer_line n l = number n ++ fields l.answer ++ clock l.kind l.answer.clock ++ (10 ∷ [])
