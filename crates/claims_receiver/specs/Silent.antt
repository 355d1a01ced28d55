-- Document 01, Receiver: with RE clear no receive flag rises or falls in a hold, RAF and SCDR stay, also while TE is set or a frame runs. And the
-- three samples before a start, told through holds.
use Rattle.std.specs.Prelude.{◌≡◌, Bool, false, not, ◌&&◌, ℕ, ◌<◌}
use Rattle.qsm.specs.model.Event.{step}
use Rattle.qsm.specs.claims.Registers.{writing}
use Rattle.qsm.specs.declared.state.Module.{Module}
use Rattle.qsm.specs.declared.event.Event.TheVariants.{Reset, Hold}
use Rattle.claims_clauses.specs.FlagsFall.{word, set, RE}

-- RDRF 6, RAF 5, IDLE 4, OR 3, NF 2, FE 1, PF 0; SCDR is at 0E.
pub record Silent (m n : Module) : Type 0 where
  pub flag : (k : ℕ) → k < 7 → set n k ≡ set m k
  pub SCDR : word n 0x0E ≡ word m 0x0E

abbrev pub OffSilent : Type 0
OffSilent =
    (m : Module) (pins : ℕ) (rxd : Bool) (n : ℕ) → RE m ≡ false → Silent m (step m (Hold pins rxd n)).state

-- RE (0004) is set after a reset, with SCBR 3: a hold of 6 clocks is one sample.
abbrev pub listening : Module → Module
listening m = (writing (writing (step m Reset).state 2 0x08 3).state 2 0x0A 0x0004).state

abbrev pub hears : Module → Bool → Module
hears m x = (step m (Hold 0 x 6)).state

-- RAF is set after four samples exactly if three ones came and then a zero; and one clock before the fourth it is not.
pub record FourSamples (m : Module) (a b c d : Bool) : Type 0 where
  pub RAF : set (hears (hears (hears (hears (listening m) a) b) c) d) 5 ≡ a && b && c && not d
  pub before : set (step (hears (hears (hears (listening m) a) b) c) (Hold 0 d 5)).state 5 ≡ false
