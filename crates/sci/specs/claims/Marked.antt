-- Document 01, Marked examples: K1 to K6 and K11, as a list of what is to be true.
use Rattle.std.specs.Prelude.{Bool, true, false, cond, not, ◌&&◌, List, [], ◌∷◌, ◌++◌, ℕ, ◌+◌, ◌*◌, eqb, ltb, replicate, take}
use Rattle.sci.specs.model.Flags.{OR, IDLE, RDRF}
use Rattle.sci.specs.model.Status.{has}
use Rattle.sci.specs.model.Control.{bits_of}
use Rattle.sci.specs.model.Serial.{reset_sci, sampled, status_read, data_read, wrote_sccr1}
use Rattle.sci.specs.declared.framer.Framer.{Framer}
use Rattle.sci.specs.declared.serial.Sci.{Sci}

-- Samples of RXD, one after another.
unfoldable pub samples : List Bool → Sci → Sci
samples [] s = s
samples (x ∷ xs) s = samples xs (sampled s x)

-- RE set, M as given, all else as after a reset, and three samples of one.
abbrev pub listening : Bool → Sci
listening m = samples (replicate 3 true) (wrote_sccr1 reset_sci (cond m 0x0204 0x0004) true true)

-- A start bit up to sample 7, with samples 3, 5, 7 as given.
abbrev pub started : Bool → Bool → Bool → Framer
started s3 s5 s7 =
    (samples (false ∷ false ∷ s3 ∷ false ∷ s5 ∷ false ∷ s7 ∷ []) (listening false)).receiver.framer

-- 000: accept clean.
abbrev pub K1 : Bool
K1 = (started false false false).framing && not (ltb 0 (started false false false).noise)

-- 010: accept noisy.
abbrev pub K2 : Bool
K2 = (started false true false).framing && ltb 0 (started false true false).noise

-- 011: abandon.
abbrev pub K3 : Bool
K3 = not (started false true true).framing

-- A clean frame of ones, FF or 1FF, with its stop bit.
abbrev pub clean : Bool → List Bool
clean m = replicate 16 false ++ replicate (16 * (bits_of m + 1)) true

-- A frame has ended by its sample k.
abbrev pub ended : Bool → ℕ → Bool
ended m k = has (samples (take k (clean m)) (listening m)).status RDRF

-- M=0: frames end at sample 154.
abbrev pub K4 : Bool
K4 = not (ended false 153) && ended false 154

-- M=1: at sample 170.
abbrev pub K5 : Bool
K5 = not (ended true 169) && ended true 170

-- k samples past the stop bit of a clean FF, ILT=0, M=0.
abbrev pub past : ℕ → Sci
past k = samples (clean false ++ replicate k true) (listening false)

-- Idle at 160 ones, 16 samples past the stop bit; 159 is not idle.
abbrev pub K6 : Bool
K6 =
    eqb (past 16).receiver.idle 160 && has (past 16).status IDLE && eqb (past 15).receiver.idle 159
    && not (has (past 15).status IDLE)

-- A frame, a status read, another frame, a data read.
abbrev pub overrun : Sci
overrun = data_read (samples (clean false) (status_read (samples (clean false) (listening false))))

-- Overrun between status and data read leaves OR set.
abbrev pub K11 : Bool
K11 = has overrun.status OR && not (has overrun.status RDRF)

abbrev pub marked : List Bool
marked = K1 ∷ K2 ∷ K3 ∷ K4 ∷ K5 ∷ K6 ∷ K11 ∷ []
