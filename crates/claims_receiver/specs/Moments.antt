-- Document 01, Receiver and Transmitter, and 02, L3: moments by number, computed of samples.
use Rattle.std.specs.Prelude.{◌≡◌, Bool, true, false, ◌&&◌, List, [], ◌∷◌, ◌++◌, ℕ, ◌+◌, ltb, replicate, take}
use Rattle.std.specs.Bool.{beq}
use Rattle.steps.specs.Bits.{digit}
use Rattle.steps.specs.Iterate.{iterate}
use Rattle.sci.specs.model.Flags.{IDLE, RAF, RDRF}
use Rattle.sci.specs.model.Status.{has}
use Rattle.sci.specs.model.Serial.{reset_sci, sampled, wrote_sccr1, txd_driven}
use Rattle.sci.specs.claims.Levels.{low_bits}
use Rattle.sci.specs.claims.Marked.{samples}
use Rattle.sci.specs.claims.Moves.{lasting}
use Rattle.sci.specs.declared.serial.Sci.{Sci}

-- SCCR1 written after a reset, and three ones.
abbrev pub listening : ℕ → Sci
listening c = samples (replicate 3 true) (wrote_sccr1 reset_sci c true true)

-- A start bit and so many ones: a clean FF or 1FF, and then an idle line.
abbrev pub ones : ℕ → ℕ → Sci
ones c k = samples (replicate 16 false ++ replicate k true) (listening c)

-- The line is idle after these ones and not one sooner: IDLE rises and RAF falls.
pub record IdleAt (c before k : ℕ) : Type 0 where
  pub not_yet : has (ones c before).status IDLE ≡ false
  pub active : has (ones c before).status RAF ≡ true
  pub idle : has (ones c k).status IDLE ≡ true
  pub over : has (ones c k).status RAF ≡ false

-- ILT=0: 160 ones (M=0) or 176 (M=1). ILT=1: as many after the frame's end, which comes with one 138 or 154.
pub record Idles : Type 0 where
  pub short_8 : IdleAt 0x0004 159 160
  pub short_9 : IdleAt 0x0204 175 176
  pub long_8 : IdleAt 0x1004 297 298
  pub long_9 : IdleAt 0x1204 329 330

-- A start bit up to RT7, all 64 of them: RAF is set after it exactly if fewer than two of RT3, RT5 and RT7 are ones; with two the start is
-- abandoned, and RAF falls.
abbrev pub both : (Bool → Bool) → Bool
both f = f true && f false

abbrev pub start_bit : Bool → Bool → Bool → Bool → Bool → Bool → Bool
start_bit x2 x3 x4 x5 x6 x7 =
    beq (has (samples (false ∷ x2 ∷ x3 ∷ x4 ∷ x5 ∷ x6 ∷ x7 ∷ []) (listening 0x0004)).status RAF)
    (ltb (digit x3 + digit x5 + digit x7) 2)

abbrev pub Abandons : Type 0
Abandons =
    both (λ x2. both (λ x3. both (λ x4. both (λ x5. both (λ x6. both (λ x7. start_bit x2 x3 x4 x5 x6 x7)))))) ≡ true

-- TE is set and the preamble begins with the next sample; TE clear again, TXD is driven up to the sample of its end, 160 (M=0) or
-- 176 later.
abbrev pub leaving : ℕ → ℕ → Sci
leaving te off = wrote_sccr1 (sampled (wrote_sccr1 reset_sci te true true) true) off true true

abbrev pub later : ℕ → Sci → Sci
later k s = iterate k (λ s. sampled s true) s

pub record DrivenFor (te off before k : ℕ) : Type 0 where
  pub still : txd_driven (later before (leaving te off)) ≡ true
  pub over : txd_driven (later k (leaving te off)) ≡ false

pub record Driven : Type 0 where
  pub off : txd_driven reset_sci ≡ false
  pub on : txd_driven (wrote_sccr1 reset_sci 0x0008 true true) ≡ true
  pub eight : DrivenFor 0x0008 0x0000 159 160
  pub nine : DrivenFor 0x0208 0x0200 175 176

-- 02, L3: of a sender whose bits last 18 samples the word 55 arrives, by late falls (RT2 to RT7): the fall of its second bit comes at RT5 of the
-- third, which becomes RT1. With points that stay, the fifth bit, a one, would be read at samples 88, 89 and 90 (from 0), two of which are zeros.
abbrev pub slow : List Bool
slow = lasting 18 (false ∷ low_bits 8 0x55 ++ (true ∷ []))

abbrev pub heard : ℕ → Sci
heard k = samples (take k slow) (listening 0x0004)

pub record LateFalls : Type 0 where
  pub before : (heard 36).receiver.framer.rt ≡ 4
  pub moves : (heard 37).receiver.framer.rt ≡ 1
  pub arrives : has (heard 180).status RDRF ≡ true
  pub word : (heard 180).receiver.scdr ≡ 0x55
