-- Demand 3: one claim about every list of events on a module fresh from reset.
use Rattle.std.specs.Prelude.{Bool, true, false, List, [], ◌∷◌, ◌++◌, ◌≡◌, ℕ, ◌+◌, ◌-◌, ◌/◌, ◌%◌, ◌^◌, ◌≤◌, ◌<◌}
use Rattle.std.proofs.Math.Option.{some}
use Rattle.sci.specs.model.Flags.{flag, receive_flags, common}
use Rattle.sci.specs.model.Control.{SCBR, RE, settings}
use Rattle.sci.specs.claims.Line.{Op, no_flag, Ones, samples_in, resync_samples}
use Rattle.sci.specs.claims.Overrun.{Mark, frame_lost, word_came, status_read, word_delivered, was_reset, Overrun}
use Rattle.qsm.specs.model.State.{reset_module}
use Rattle.qsm.specs.model.Lanes.{touches}
use Rattle.qsm.specs.model.Decision.{permits, decide_read}
use Rattle.qsm.specs.model.Event.{step}
use Rattle.qsm.specs.declared.state.Module.{Module}
use Rattle.qsm.specs.declared.event.Access.TheVariants.{Read}
use Rattle.qsm.specs.declared.event.Event.{Event}
use Rattle.qsm.specs.declared.event.Event.TheVariants.{Reset}
use Rattle.qsm.specs.declared.event.Event.TheVariants as event
use Rattle.claims_histories.specs.History.{after, run, receiver_read, Unbroken, read_op, ops, fresh_word, watched, log, counted}

-- The byte at a place, of the value that a read of a width at an offset gives: fields are big-endian.
abbrev pub byte_at : ℕ → ℕ → ℕ → ℕ → ℕ
byte_at place width offset value = value / 256 ^ (offset + width - (place + 1)) % 256

-- A permitted read that touches byte 0D, where all six receive flags stand, and whose answer shows none of them.
pub record ShowsNone (m : Module) (supervisor : Bool) (width offset : ℕ) : Type 0 where
  pub permitted : permits (decide_read m supervisor width offset) ≡ true
  pub touching : touches 0x0D 1 width offset ≡ true
  pub none :
      common (flag (byte_at 0x0D width offset (step m (event.Access (Read supervisor width offset))).answer.value)) receive_flags
      ≡ no_flag

-- A beginning of the list leaves the receiver on and not asleep, at m. After it 352 or more samples in a row are ones and, still on ones,
-- a permitted read of the status word shows no receive flag, all with no reset or counted write.
pub record Recovers (m : Module) (quiet : List Event) (supervisor : Bool) (width offset : ℕ) : Type 0 where
  pub on : RE m.sci.sccr1 ≡ true
  pub awake : m.sci.receiver.asleep ≡ false
  pub unbroken : Unbroken quiet m
  pub ones : Ones (ops quiet m)
  pub enough : resync_samples ≤ samples_in (ops quiet m)
  pub shows : ShowsNone (run quiet m) supervisor width offset

-- RE is clear after each event.
abbrev pub Off : List Event → Module → Type 0
Off [] m = Unit {0}
Off (e ∷ es) m = (RE (after e m).sci.sccr1 ≡ false) × Off es (after e m)

-- The receiver compared with: any history since a reset in which RE first rises by the event `enable`, with RWU clear; then 352 or more
-- samples are ones, with no counted write.
pub record Compared (early : List Event) (enable : Event) (waited : List Event) : Type 0 where
  pub off : Off early reset_module
  pub rises : RE (after enable (run early reset_module)).sci.sccr1 ≡ true
  pub awake : (after enable (run early reset_module)).sci.receiver.asleep ≡ false
  pub unbroken : Unbroken waited (after enable (run early reset_module))
  pub ones : Ones (ops waited (after enable (run early reset_module)))
  pub enough : resync_samples ≤ samples_in (ops waited (after enable (run early reset_module)))

-- From there to a reset or counted write: of equal settings (ILT, PT, PE, M, WAKE; SCBR says only which clocks are samples, so that it
-- need not be asked for), and getting the same samples and permitted reads of 0C to 0F in one order, the two have equal receive flags
-- after each, and the same fresh words at the same reads.
abbrev pub Recovered : Type 0
Recovered =
    (before quiet : List Event) (supervisor : Bool) (width offset : ℕ) (early : List Event) (enable : Event)
    (waited later later' : List Event) →
    Recovers (run before reset_module) quiet supervisor width offset → Compared early enable waited →
    let m : Module = run before reset_module in
    let c : Module = after enable (run early reset_module) in
    let z : Module = after (event.Access (Read supervisor width offset)) (run quiet m) in
    let y : Module = run waited c in
    settings m.sci.sccr1 ≡ settings c.sci.sccr1 →
    Unbroken later z → Unbroken later' y → ops later z ≡ ops later' y → watched later z ≡ watched later' y

-- Such a receiver there always is, with SCBR equal too and after exactly 352 ones: for every list of events from the read on, to a reset or
-- counted write, one that gets the same samples and permitted reads. Its own clocks, counted from its reset (02, L9), stay within 2^64 - 1
-- since the module's do.
pub record Comparison (m : Module) (given : List Op) : Type 0 where
  pub early : List Event
  pub enable : Event
  pub waited : List Event
  pub later : List Event
  pub compared : Compared early enable waited
  pub exactly : samples_in (ops waited (after enable (run early reset_module))) ≡ 352
  pub rate : SCBR (after enable (run early reset_module)).sci.sccr0 ≡ SCBR m.sci.sccr0
  pub equal : settings m.sci.sccr1 ≡ settings (after enable (run early reset_module)).sci.sccr1
  pub unbroken : Unbroken later (run waited (after enable (run early reset_module)))
  pub same : given ≡ ops later (run waited (after enable (run early reset_module)))

abbrev pub Comparable : Type 0
Comparable =
    (before quiet : List Event) (supervisor : Bool) (width offset : ℕ) (later : List Event) →
    Recovers (run before reset_module) quiet supervisor width offset →
    let m : Module = run before reset_module in
    let z : Module = after (event.Access (Read supervisor width offset)) (run quiet m) in
    Unbroken later z → Comparison m (ops later z)

-- Reads are alike where they touch the same of bytes 0C to 0F: both reach the receiver or neither does, and in the same way.
abbrev pub ReadsAlike : Type 0
ReadsAlike =
    (width offset width' offset' : ℕ) → 0 < width → 0 < width' → touches 0x0C 1 width offset ≡ touches 0x0C 1 width' offset' →
    touches 0x0D 1 width offset ≡ touches 0x0D 1 width' offset' → touches 0x0E 1 width offset ≡ touches 0x0E 1 width' offset' →
    touches 0x0F 1 width offset ≡ touches 0x0F 1 width' offset' →
    (touches 0x0C 4 width offset ≡ touches 0x0C 4 width' offset') × (read_op width offset ≡ read_op width' offset')

-- A fresh word is what its read answers: RDRF falls only at a permitted read that touches byte 0F, and of the value in its answer that byte is
-- the word's low byte, and byte 0E, where the read touches it too, is the rest of the word, bit 8.
abbrev pub FreshAnswered : Type 0
FreshAnswered =
    (m : Module) (supervisor : Bool) (width offset word : ℕ) →
    let e : Event = event.Access (Read supervisor width offset) in
    fresh_word m (after e m) ≡ some word →
    (receiver_read m supervisor width offset ≡ true) × (touches 0x0F 1 width offset ≡ true) × (word < 512)
    × (byte_at 0x0F width offset (step m e).answer.value ≡ word % 256)
    × (touches 0x0E 1 width offset ≡ true → byte_at 0x0E width offset (step m e).answer.value ≡ word / 256)

-- Since then no word came, none was delivered and no reset.
abbrev pub untouched : List Mark → Bool
untouched [] = true
untouched (frame_lost raises ∷ h) = untouched h
untouched (word_came w ∷ h) = false
untouched (status_read ∷ h) = untouched h
untouched (word_delivered w ∷ h) = false
untouched (was_reset ∷ h) = false

-- The word that came in last, and was not delivered yet.
pub record CameLast (past : List Mark) (word : ℕ) : Type 0 where
  pub before : List Mark
  pub since : List Mark
  pub came : past ≡ before ++ (word_came word ∷ since)
  pub stays : untouched since ≡ true

-- A word that is delivered is the last that came in: none is delivered twice, made up or behind a later one.
abbrev pub Delivered : Type 0
Delivered =
    (es : List Event) (past rest : List Mark) (word : ℕ) →
    log es reset_module ≡ past ++ (word_delivered word ∷ rest) → CameLast past word

-- Of what came before a reset nothing is left: histories from a module's last reset on are all its histories.
abbrev pub Afresh : Type 0
Afresh = (past es : List Event) (m : Module) → run (past ++ (Reset ∷ es)) m ≡ run es reset_module

-- Each event gets the module that the step of the last one left.
abbrev pub Stepped : Type 0
Stepped = (m : Module) (e : Event) → after e m ≡ (step m e).state

-- The count of clocks (02, L9) is not compared: it is none of what `watched` shows, and no hypothesis is about it. It is the number of
-- clocks of the holds not refused since the last reset.
abbrev pub Counted : Type 0
Counted = (es : List Event) (m : Module) → (run es m).clock ≡ counted es m m.clock

-- And whatever RXD and the firmware do, no word that came after a lost one, with no reset between, is delivered before a permitted
-- status read made since its run of losses raised OR.
pub record Demand3 : Type 0 where
  pub recovered : Recovered
  pub comparable : Comparable
  pub stepped : Stepped
  pub reads_alike : ReadsAlike
  pub fresh_answered : FreshAnswered
  pub afresh : Afresh
  pub counted : Counted
  pub delivered : Delivered
  pub overrun : (es : List Event) → Overrun (log es reset_module)
