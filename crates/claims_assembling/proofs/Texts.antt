-- No byte of a record's line ends a line. Assumes nothing.
use mathlib.Core.Path.{◌≡◌, refl}
use mathlib.Core.Bool.{Bool, true, false, cond}
use mathlib.Core.List.{List, [], ◌∷◌, ◌++◌}
use Prim.Native.Nat.{ℕ, zero, suc, ◌+◌, ◌-◌, ◌*◌, ◌/◌, ◌%◌}
use native.Mathlib.Omega.{arith}
use lib.Dec.{eqb, ltb}
use borrow.Author.Tests.{lt-ltb, ltb-true, ltb-false}
use Rattle.qsm.specs.model.Map.{decode}
use Rattle.qsm.specs.declared.map.OwnWord.{OwnWord}
use Rattle.qsm.specs.declared.map.OwnWord.TheVariants.{Qsmcr, QilrQivr, Portqs, PqsparDdrqs}
use Rattle.qsm.specs.declared.map.SerialWord.{SerialWord}
use Rattle.qsm.specs.declared.map.SerialWord.TheVariants.{Sccr0, Sccr1, Scsr, Scdr}
use Rattle.qsm.specs.declared.map.QueueWord.{QueueWord}
use Rattle.qsm.specs.declared.map.QueueWord.TheVariants.{Spcr0, Spcr1, Spcr2, Spcr3Spsr, Receive, Transmit, Command}
use Rattle.qsm.specs.declared.map.Place.{Place}
use Rattle.qsm.specs.declared.map.Place.TheVariants.{Own, Serial, Queue, Hole}
use Rattle.qsm.specs.declared.event.Access.TheVariants.{Read, Write}
use Rattle.qsm.specs.declared.event.Event.{Event}
use Rattle.qsm.specs.declared.event.Event.TheVariants.{Reset, Hold}
use Rattle.qsm.specs.declared.event.Event.TheVariants as events
use Rattle.trace.specs.Trace.{long_hold_kind}
use Rattle.text.specs.Digits.{ascii, decimal, decimal_digit, hex_digit, hex_byte, hex_word, hex_long, number}
use Rattle.text.specs.Register.{part_of, pair, own, serial, command, queue, register, registers}
use Rattle.text.specs.declared.register.Part.{Part}
use Rattle.text.specs.declared.register.Part.TheVariants.{Upper, Lower, Whole}
use Rattle.text.specs.Record.{privilege, place, long, hold, event}
use Rattle.text.proofs.Decimal.{decimal_none, decimal_one, decimal_more}
use Rattle.claims_assembling.specs.Laws.{printed}
use Rattle.claims_assembling.proofs.Digits.{hex_least}

-- Every byte is above 10.
abbrev pub clear : List ℕ → Bool
clear [] = true
clear (b ∷ t) = cond (ltb 10 b) (clear t) false

pub parts : (p q : Bool) → cond p q false ≡ true → (p ≡ true) × (q ≡ true)
parts true q h = (refl, h)
parts false q h = let z : ◌≡◌ {A = ℕ} 0 1 = cc in absurd (omega arith)

join : (s t : List ℕ) → clear s ≡ true → clear t ≡ true → clear (s ++ t) ≡ true
join [] t h k = k
join (b ∷ s) t h k =
    let both = parts (ltb 10 b) (clear s) h in
    rw both.0 (join s t both.1 k)

either : (b : Bool) (s t : List ℕ) → clear s ≡ true → clear t ≡ true → clear (cond b s t) ≡ true
either true s t h k = h
either false s t h k = k

digits_step : (k n : ℕ) (first : Bool) → ltb n 10 ≡ first → clear (decimal k (n / 10)) ≡ true → clear (decimal (suc k) n) ≡ true
digits_step k n true is before =
    rw (decimal_one (suc k) n (omega arith) (ltb-true n 10 is), lt-ltb 10 (48 + n % 10) (omega arith))
digits_step k n false is before =
    let less : suc k - 1 ≡ k = omega arith in
    rw (decimal_more (suc k) n (omega arith) (ltb-false n 10 is), less)
    (join (decimal k (n / 10)) (decimal_digit n ∷ []) before (rw (lt-ltb 10 (48 + n % 10) (omega arith))))

digits_clear : (k n : ℕ) → clear (decimal k n) ≡ true
digits_clear zero n = rw decimal_none
digits_clear (suc k) n = digits_step k n (ltb n 10) refl (digits_clear k (n / 10))

hex_clear : (n : ℕ) → clear (hex_byte n) ≡ true
hex_clear n =
    rw (lt-ltb 10 (hex_digit (n / 16)) (omega (arith, hex_least (n / 16))), lt-ltb 10 (hex_digit n) (omega (arith, hex_least n)))

word_clear : (n : ℕ) → clear (hex_word n) ≡ true
word_clear n = join (hex_byte (n / 256 % 256)) (hex_byte (n % 256)) (hex_clear (n / 256 % 256)) (hex_clear (n % 256))

long_clear : (n : ℕ) → clear (hex_long n) ≡ true
long_clear n = join (hex_word (n / 65536 % 65536)) (hex_word (n % 65536)) (word_clear (n / 65536 % 65536)) (word_clear (n % 65536))

pair_clear : (p : Part) (s t : List ℕ) → clear s ≡ true → clear t ≡ true → clear (pair p s t) ≡ true
pair_clear Upper s t h k = h
pair_clear Lower s t h k = k
pair_clear Whole s t h k = join (s ++ ascii "/") t (join s (ascii "/") h refl) k

own_clear : (p : Part) (w : OwnWord) → clear (own p w) ≡ true
own_clear p Qsmcr = refl
own_clear p QilrQivr = pair_clear p (ascii "QILR") (ascii "QIVR") refl refl
own_clear p Portqs = refl
own_clear p PqsparDdrqs = pair_clear p (ascii "PQSPAR") (ascii "DDRQS") refl refl

serial_clear : (w : SerialWord) → clear (serial w) ≡ true
serial_clear Sccr0 = refl
serial_clear Sccr1 = refl
serial_clear Scsr = refl
serial_clear Scdr = refl

queue_clear : (p : Part) (w : QueueWord) → clear (queue p w) ≡ true
unfolding command
queue_clear p Spcr0 = refl
queue_clear p Spcr1 = refl
queue_clear p Spcr2 = refl
queue_clear p Spcr3Spsr = pair_clear p (ascii "SPCR3") (ascii "SPSR") refl refl
queue_clear p (Receive k) = join (ascii "receive RAM ") (decimal 3 k) refl (digits_clear 3 k)
queue_clear p (Transmit k) = join (ascii "transmit RAM ") (decimal 3 k) refl (digits_clear 3 k)
queue_clear p (Command k) =
    join (ascii "command RAM ") (pair p (decimal 3 (k * 2)) (decimal 3 (k * 2 + 1))) refl
    (pair_clear p (decimal 3 (k * 2)) (decimal 3 (k * 2 + 1)) (digits_clear 3 (k * 2)) (digits_clear 3 (k * 2 + 1)))

register_clear : (p : Part) (w : Place) → clear (register p w) ≡ true
unfolding register
register_clear p (Own w) = own_clear p w
register_clear p (Serial w) = serial_clear w
register_clear p (Queue w) = queue_clear p w
register_clear p Hole = refl

registers_clear : (width offset : ℕ) → clear (registers width offset) ≡ true
unfolding registers
registers_clear width offset =
    join (register (part_of width offset) (decode offset)) (cond (eqb width 4) (ascii " and " ++ register Whole (decode (offset + 2))) [])
    (register_clear (part_of width offset) (decode offset))
    (either (eqb width 4) (ascii " and " ++ register Whole (decode (offset + 2))) []
    (join (ascii " and ") (register Whole (decode (offset + 2))) refl (register_clear Whole (decode (offset + 2)))) refl)

place_clear : (supervisor : Bool) (width offset : ℕ) → clear (place supervisor width offset) ≡ true
unfolding place
place_clear supervisor width offset =
    let a = privilege supervisor ++ decimal 3 width in
    let b = a ++ ascii ", " in
    let c = b ++ registers width offset in
    let d = c ++ ascii " at " in
    join d (hex_word offset)
    (join c (ascii " at ")
    (join b (registers width offset)
    (join a (ascii ", ")
    (join (privilege supervisor) (decimal 3 width) (either supervisor (ascii " as supervisor, width ") (ascii " as user, width ") refl refl) (digits_clear 3 width))
    refl)
    (registers_clear width offset))
    refl)
    (word_clear offset)

event_clear : (e : Event) → clear (event e) ≡ true
unfolding event hold
event_clear Reset = refl
event_clear (Hold pins rxd clocks) =
    join (ascii "hold pins " ++ hex_byte pins ++ cond rxd (ascii ", RXD 1, clocks ") (ascii ", RXD 0, clocks ")) (decimal 10 clocks)
    (join (ascii "hold pins " ++ hex_byte pins) (cond rxd (ascii ", RXD 1, clocks ") (ascii ", RXD 0, clocks "))
    (join (ascii "hold pins ") (hex_byte pins) refl (hex_clear pins))
    (either rxd (ascii ", RXD 1, clocks ") (ascii ", RXD 0, clocks ") refl refl))
    (digits_clear 10 clocks)
event_clear (events.Access (Read supervisor width offset)) = join (ascii "read") (place supervisor width offset) refl (place_clear supervisor width offset)
event_clear (events.Access (Write supervisor width offset value)) =
    join (ascii "write" ++ place supervisor width offset ++ ascii ", value ") (hex_long value)
    (join (ascii "write" ++ place supervisor width offset) (ascii ", value ") (join (ascii "write") (place supervisor width offset) refl (place_clear supervisor width offset)) refl)
    (long_clear value)

pub printed_clear : (n kind : ℕ) (e : Event) → clear (printed n kind e) ≡ true
printed_clear n kind e =
    join (number n ++ long (eqb kind long_hold_kind)) (event e)
    (join (number n) (long (eqb kind long_hold_kind)) (join (decimal 20 n) (ascii ": ") (digits_clear 20 n) refl) (either (eqb kind long_hold_kind) (ascii "long ") [] refl refl))
    (event_clear e)
