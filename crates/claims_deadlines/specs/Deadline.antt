-- How long a word may wait in SCDR. Firmware that requests drive is late or not by the clocks from the word's coming to its delivery.
use Rattle.std.specs.Prelude.{Bool, true, false, cond, ◌&&◌, List, [], ◌∷◌, ◌≡◌, ℕ, zero, suc, ◌*◌, ◌≤◌, ◌<◌}
use Rattle.std.proofs.Math.Option.{Option, none, some}
use Rattle.sci.specs.model.Control.{SCBR, RIE, RE, M, bits_of}
use Rattle.sci.specs.model.Framer.{ends, framed}
use Rattle.sci.specs.model.Serial as serial
use Rattle.sci.specs.declared.framer.Framer.{Framer}
use Rattle.qsm.specs.model.State.{reset_module}
use Rattle.qsm.specs.model.Request.{ILSCI}
use Rattle.qsm.specs.model.Event.{held, clock_module, step}
use Rattle.qsm.specs.declared.state.Module.{Module}
use Rattle.qsm.specs.declared.event.Event.{Event}
use Rattle.qsm.specs.declared.event.Event.TheVariants.{Reset, Hold}
use Rattle.qsm.specs.declared.event.Event.TheVariants as event
use Rattle.qsm.specs.declared.event.Stepped.{Stepped}
use Rattle.claims_histories.specs.History.{after, run, played_clocks, ops, log}
use Rattle.claims_polling.specs.Spacing.{apart, samples_of}
use Rattle.claims_polling.specs.Rule.{lost_in, waiting, longest, MovingIn, polled_after, Within}
use Rattle.claims_polling.specs.Replays.{replayed}

-- The age of a word that waits: the clocks since the one that it came in. Over a clock that takes a module m to m' it goes up by one if the
-- word waits before and after it; a word that comes is 0 old. (Where nothing waits the age says nothing.)
abbrev pub age_after : Module → Module → ℕ → ℕ
age_after m m' k = cond (waiting m && waiting m') (suc k) 0

-- After each of so many clocks of a level: the age; and it is below `limit`.
abbrev pub age_for : ℕ → Bool → Module → ℕ → ℕ
age_for zero rxd m k = k
age_for (suc n) rxd m k = age_for n rxd (clock_module rxd m) (age_after m (clock_module rxd m) k)

abbrev pub InTimeFor : ℕ → ℕ → Bool → Module → ℕ → Type 0
InTimeFor limit zero rxd m k = Unit {0}
InTimeFor limit (suc n) rxd m k =
    (age_after m (clock_module rxd m) k < limit) × InTimeFor limit n rxd (clock_module rxd m) (age_after m (clock_module rxd m) k)

-- No word still waits `limit` clocks after the one that it came in: it is delivered by then, by a status read and a data read, with any
-- clocks between. An access takes no clock.
unfoldable pub InTime : ℕ → List Event → Module → ℕ → Type 0
InTime limit [] m k = Unit {0}
InTime limit (Reset ∷ es) m k = InTime limit es (after Reset m) k
InTime limit (Hold pins rxd n ∷ es) m k =
    InTimeFor limit (played_clocks m n) rxd (held m pins) k
    × InTime limit es (after (Hold pins rxd n) m) (age_for (played_clocks m n) rxd (held m pins) k)
InTime limit (event.Access a ∷ es) m k = InTime limit es (after (event.Access a) m) k

-- The samples since the one at which the last frame ended, if one has.
abbrev pub since_end : Bool → Option ℕ → Option ℕ
since_end true last = some 0
since_end false none = none
since_end false (some k) = some (suc k)

abbrev pub FarEnough : ℕ → Option ℕ → Type 0
FarEnough d none = Unit {0}
FarEnough d (some k) = d ≤ suc k

-- Two frames end at least d samples apart, taken or not.
unfoldable pub SpacedFrom : ℕ → ℕ → Bool → Bool → Bool → Framer → Option ℕ → List Bool → Type 0
SpacedFrom d n a b c f last [] = Unit {0}
SpacedFrom d n a b c f last (x ∷ xs) =
    (ends f ≡ true → FarEnough d last) × SpacedFrom d n x a b (framed n f (a && b && c) x) (since_end (ends f) last) xs

abbrev pub SpacedBy : ℕ → List Event → Module → Type 0
SpacedBy d es m =
    SpacedFrom d (bits_of (M m.sci.sccr1)) m.sci.receiver.last1 m.sci.receiver.last2 m.sci.receiver.last3
    m.sci.receiver.framer none (samples_of (ops es m))

-- On, which is RE set, after each event; so none is a reset. Requests, TE, RWU and SCDR are free. (SCCR0 and M are guarded.)
abbrev pub StaysOn : List Event → Module → Type 0
StaysOn [] m = Unit {0}
StaysOn (e ∷ es) m = (RE (after e m).sci.sccr1 ≡ true) × StaysOn es (after e m)

-- From nothing waiting on: where frames end d samples apart, and each word is delivered fewer than d samples' clocks after the clock that
-- it came in, no frame is lost.
abbrev pub Deadline : Type 0
Deadline =
    (d : ℕ) (past es : List Event) → let m : Module = run past reset_module in
    RE m.sci.sccr1 ≡ true → waiting m ≡ false → StaysOn es m → SpacedBy d es m → InTime (d * (2 * SCBR m.sci.sccr0)) es m 0 →
    lost_in (log es m) ≡ 0

-- Of every line frames end 112 samples apart (122 with M=1), and 154 (170) where no sampling point moves.
abbrev pub AnyLine : Type 0
AnyLine =
    (moves : Bool) (past es : List Event) → let m : Module = run past reset_module in
    MovingIn moves es m → SpacedBy (apart moves (bits_of (M m.sci.sccr1))) es m

-- So on any line, as on one where no point moves.
abbrev pub Served : Type 0
Served =
    (moves : Bool) (past es : List Event) → let m : Module = run past reset_module in
    RE m.sci.sccr1 ≡ true → waiting m ≡ false → StaysOn es m → MovingIn moves es m → InTime (longest moves m) es m 0 →
    lost_in (log es m) ≡ 0

-- Polls that come every `limit` clocks at most are in time, whatever else happens.
abbrev pub Polled : Type 0
Polled =
    (limit : ℕ) (ess : List (List Event)) (m : Module) (k : ℕ) → waiting m ≡ false → Within limit ess →
    InTime limit (polled_after ess m) m k

-- So the rule of polls holds of them while RE is set, with requests, TE and RWU free.
abbrev pub PolledKept : Type 0
PolledKept =
    (moves : Bool) (past : List Event) (ess : List (List Event)) → let m : Module = run past reset_module in
    RE m.sci.sccr1 ≡ true → waiting m ≡ false → StaysOn (polled_after ess m) m → Within (longest moves m) ess →
    MovingIn moves (polled_after ess m) m → lost_in (log (polled_after ess m) m) ≡ 0

-- A replay that is polled every `limit` clocks at most is in time, for every trace, resets included; so while RE is set it loses no frame.
abbrev pub ReplayInTime : Type 0
ReplayInTime =
    (limit period since clock : ℕ) (t : List ℕ) (m : Module) (k : ℕ) → waiting m ≡ false → since < period → period ≤ limit →
    InTime limit (replayed period since clock t m) m k

abbrev pub ReplayServed : Type 0
ReplayServed =
    (moves : Bool) (past : List Event) (period since clock : ℕ) (t : List ℕ) → let m : Module = run past reset_module in
    let es : List Event = replayed period since clock t m in
    RE m.sci.sccr1 ≡ true → waiting m ≡ false → since < period → period ≤ longest moves m → StaysOn es m → MovingIn moves es m →
    lost_in (log es m) ≡ 0

-- As long as a word waits and RIE is set SCI asks; so from the clock that it came in on until it is delivered.
abbrev pub Asks : Type 0
Asks = (m : Module) → waiting m ≡ true → RIE m.sci.sccr1 ≡ true → serial.asks m.sci ≡ true

-- And the answer to an event that leaves the module so shows that level, or a higher one.
abbrev pub AnswerAsks : Type 0
AnswerAsks =
    (m : Module) (e : Event) → let q : Stepped = step m e in
    waiting q.state ≡ true → RIE q.state.sci.sccr1 ≡ true → ILSCI q.state.qilr ≤ q.answer.level
