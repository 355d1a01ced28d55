-- How long the texts can be: no line of an answer or of a record is longer than a line has room for. Assumes nothing.
use mathlib.Core.Bool.{Bool, true, false, cond}
use mathlib.Core.List.{List, [], ◌++◌}
use Prim.Native.Nat.{ℕ, zero, suc, ◌+◌, ◌*◌, ◌/◌, ◌≤◌}
use native.Mathlib.Omega.{arith}
use lib.Dec.{eqb, ltb}
use lib.ListN.{length, length-append}
use Rattle.steps.specs.Bits.{bit}
use Rattle.qsm.specs.model.Map.{decode}
use Rattle.qsm.specs.declared.event.Answer.{Answer}
use Rattle.qsm.specs.declared.event.Access.{Access}
use Rattle.qsm.specs.declared.event.Access.TheVariants.{Read, Write}
use Rattle.qsm.specs.declared.event.Event.{Event}
use Rattle.qsm.specs.declared.event.Event.TheVariants.{Reset, Hold}
use Rattle.qsm.specs.declared.event.Event.TheVariants as events
use Rattle.qsm.specs.declared.map.OwnWord.{OwnWord}
use Rattle.qsm.specs.declared.map.OwnWord.TheVariants.{Qsmcr, QilrQivr, Portqs, PqsparDdrqs}
use Rattle.qsm.specs.declared.map.SerialWord.{SerialWord}
use Rattle.qsm.specs.declared.map.SerialWord.TheVariants.{Sccr0, Sccr1, Scsr, Scdr}
use Rattle.qsm.specs.declared.map.QueueWord.{QueueWord}
use Rattle.qsm.specs.declared.map.QueueWord.TheVariants.{Spcr0, Spcr1, Spcr2, Spcr3Spsr, Receive, Transmit, Command}
use Rattle.qsm.specs.declared.map.Place.{Place}
use Rattle.qsm.specs.declared.map.Place.TheVariants.{Own, Serial, Queue, Hole}
use Rattle.text.specs.Digits.{ascii, decimal}
use Rattle.text.specs.Line.{room}
use Rattle.text.specs.Answer.{refusal, pin, each_pin, pins, request, fields, clock, answer_line}
use Rattle.text.specs.Register.{part_of, pair, own, serial, command, queue, register, registers}
use Rattle.answers.specs.Answer.{clocked}
use Rattle.trace.specs.Trace.{long_hold_kind}
use Rattle.text.specs.Record.{place, hold, access, event, record_line}
use Rattle.text.specs.declared.log.Logged.{Logged}
use Rattle.text.specs.declared.register.Part.{Part}
use Rattle.text.specs.declared.register.Part.TheVariants.{Upper, Lower, Whole}

pub either : (b : Bool) (s t : List ℕ) (m : ℕ) → length s ≤ m → length t ≤ m → length (cond b s t) ≤ m
either true s t m h i = h
either false s t m h i = i

pub decimal_length : (digits n : ℕ) → length (decimal digits n) ≤ digits
unfolding decimal
decimal_length zero n = omega arith
decimal_length (suc digits) n =
    let before : length (cond (ltb n 10) [] (decimal digits (n / 10))) ≤ digits =
    either (ltb n 10) [] _ digits (omega arith) (decimal_length digits (n / 10)) in
    simp length-append (omega arith)

-- ---- an answer

pub refusal_length : (n : ℕ) → length (refusal n) ≤ 26
unfolding refusal
refusal_length n =
    either (eqb n 0) _ _ 26 (omega arith)
    (either (eqb n 1) _ _ 26 (omega arith)
    (either (eqb n 2) _ _ 26 (omega arith)
    (either (eqb n 3) _ _ 26 (omega arith)
    (either (eqb n 4) _ _ 26 (omega arith)
    (either (eqb n 9) _ _ 26 (omega arith) (omega arith))))))

pin_length : (name : List ℕ) (driven high : Bool) → length (pin name driven high) ≤ length name + 2
pin_length name true true = simp length-append (omega arith)
pin_length name true false = simp length-append (omega arith)
pin_length name false high = omega arith

each_pin_length : (mask levels : ℕ) → length (each_pin mask levels) ≤ 54
unfolding each_pin
each_pin_length mask levels =
    simp length-append
    (omega (
      arith,
      pin_length (ascii " MISO") (bit 0 mask) (bit 0 levels),
      pin_length (ascii " MOSI") (bit 1 mask) (bit 1 levels),
      pin_length (ascii " SCK") (bit 2 mask) (bit 2 levels),
      pin_length (ascii " PCS0") (bit 3 mask) (bit 3 levels),
      pin_length (ascii " PCS1") (bit 4 mask) (bit 4 levels),
      pin_length (ascii " PCS2") (bit 5 mask) (bit 5 levels),
      pin_length (ascii " PCS3") (bit 6 mask) (bit 6 levels),
      pin_length (ascii " TXD") (bit 7 mask) (bit 7 levels),
    ))

pub pins_length : (mask levels : ℕ) → length (pins mask levels) ≤ 58
unfolding pins
pins_length mask levels = either (eqb mask 0) _ _ 58 (omega arith) (simp length-append (omega (arith, each_pin_length mask levels)))

request_length : (level vector : ℕ) → length (request level vector) ≤ 27
unfolding request
request_length level vector = either (eqb level 0) _ _ 27 (omega arith) (simp length-append (omega (arith, decimal_length 3 level)))

fields_length : (a : Answer) → length (fields a) ≤ 131
unfolding fields
fields_length a =
    simp length-append
    (omega (arith, refusal_length a.refusal, pins_length a.mask a.levels, request_length a.level a.vector))

clock_length : (kind clocks : ℕ) → length (clock kind clocks) ≤ 28
unfolding clock
clock_length kind clocks = either (eqb kind clocked) _ _ 28 (simp length-append (omega (arith, decimal_length 20 clocks))) (omega arith)

pub answer_fits : (n : ℕ) (l : Logged) → length (answer_line n l) ≤ room
answer_fits n l =
    simp length-append
    (omega (arith, decimal_length 20 n, fields_length l.answer, clock_length l.kind l.answer.clock))

-- ---- a record

pair_length : (p : Part) (upper lower : List ℕ) → length (pair p upper lower) ≤ length upper + 1 + length lower
pair_length Upper upper lower = omega arith
pair_length Lower upper lower = omega arith
pair_length Whole upper lower = simp length-append (omega arith)

own_length : (p : Part) (w : OwnWord) → length (own p w) ≤ 19
own_length p Qsmcr = omega arith
own_length p QilrQivr = omega (arith, pair_length p (ascii "QILR") (ascii "QIVR"))
own_length p Portqs = omega arith
own_length p PqsparDdrqs = omega (arith, pair_length p (ascii "PQSPAR") (ascii "DDRQS"))

serial_length : (w : SerialWord) → length (serial w) ≤ 19
serial_length Sccr0 = omega arith
serial_length Sccr1 = omega arith
serial_length Scsr = omega arith
serial_length Scdr = omega arith

command_length : (p : Part) (k : ℕ) → length (command p k) ≤ 19
unfolding command
command_length p k =
    simp length-append
    (omega (arith, pair_length p (decimal 3 (k * 2)) (decimal 3 (k * 2 + 1)), decimal_length 3 (k * 2), decimal_length 3 (k * 2 + 1)))

queue_length : (p : Part) (w : QueueWord) → length (queue p w) ≤ 19
queue_length p Spcr0 = omega arith
queue_length p Spcr1 = omega arith
queue_length p Spcr2 = omega arith
queue_length p Spcr3Spsr = omega (arith, pair_length p (ascii "SPCR3") (ascii "SPSR"))
queue_length p (Receive k) = simp length-append (omega (arith, decimal_length 3 k))
queue_length p (Transmit k) = simp length-append (omega (arith, decimal_length 3 k))
queue_length p (Command k) = command_length p k

register_length : (part : Part) (p : Place) → length (register part p) ≤ 19
unfolding register
register_length part (Own w) = own_length part w
register_length part (Serial w) = serial_length w
register_length part (Queue w) = queue_length part w
register_length part Hole = omega arith

registers_length : (width offset : ℕ) → length (registers width offset) ≤ 43
unfolding registers
registers_length width offset =
    let second : length (cond (eqb width 4) (ascii " and " ++ register Whole (decode (offset + 2))) []) ≤ 24 =
    either (eqb width 4) _ _ 24 (simp length-append (omega (arith, register_length Whole (decode (offset + 2))))) (omega arith) in
    simp length-append (omega (arith, register_length (part_of width offset) (decode offset)))

place_length : (supervisor : Bool) (width offset : ℕ) → length (place supervisor width offset) ≤ 78
unfolding place
place_length supervisor width offset =
    simp length-append
    (omega (
      arith,
      either supervisor (ascii " as supervisor, width ") (ascii " as user, width ") 22 (omega arith) (omega arith),
      decimal_length 3 width,
      registers_length width offset,
    ))

hold_length : (pins : ℕ) (rxd : Bool) (clocks : ℕ) → length (hold pins rxd clocks) ≤ 38
unfolding hold
hold_length pins rxd clocks =
    simp length-append
    (omega (
      arith,
      either rxd (ascii ", RXD 1, clocks ") (ascii ", RXD 0, clocks ") 16 (omega arith) (omega arith),
      decimal_length 10 clocks,
    ))

access_length : (a : Access) → length (access a) ≤ 99
access_length (Read supervisor width offset) = simp length-append (omega (arith, place_length supervisor width offset))
access_length (Write supervisor width offset value) = simp length-append (omega (arith, place_length supervisor width offset))

event_length : (e : Event) → length (event e) ≤ 99
unfolding event
event_length Reset = omega arith
event_length (Hold pins rxd clocks) = omega (arith, hold_length pins rxd clocks)
event_length (events.Access a) = access_length a

pub record_fits : (n kind : ℕ) (e : Event) → length (record_line n kind e) ≤ room
record_fits n kind e =
    simp length-append
    (omega (
      arith,
      decimal_length 20 n,
      either (eqb kind long_hold_kind) (ascii "long ") [] 5 (omega arith) (omega arith),
      event_length e,
    ))
