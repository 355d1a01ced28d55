-- What holds of every receiver that is on, whatever the line and the reads do.
use Rattle.std.specs.Prelude.{true, false, cond, ◌≡◌, ℕ, ◌+◌, ◌-◌, ◌*◌, ◌%◌, ◌≤◌, ◌<◌}
use Rattle.sci.specs.model.Flags.{receive_flags, contains, common}
use Rattle.sci.specs.model.Control.{frame_samples}
use Rattle.sci.specs.model.Framer.{searching}
use Rattle.sci.specs.declared.framer.Framer.{Framer}
use Rattle.sci.specs.declared.receiver.Received.{Received}

-- Samples of a frame of n data bits up to its end, RT10 of the stop bit: 154, 170.
abbrev pub span : ℕ → ℕ
span n = 16 * (n + 1) + 10

-- Samples to go until the running frame ends, if nothing abandons it.
abbrev pub togo : ℕ → Framer → ℕ
togo n f = cond f.framing (cond f.starting (span n - f.rt) (16 * f.left + 10 - f.rt % 16)) 0

-- RT within its bit, and the bit within the frame.
pub record Fits (n : ℕ) (f : Framer) : Type 0 where
  pub rests : f.framing ≡ false → f ≡ searching
  pub early : f.framing ≡ true → f.starting ≡ true → (0 < f.rt) × (f.rt < 16) × (f.left ≡ n)
  pub late : f.framing ≡ true → f.starting ≡ false → (f.rt % 16 < 16 * f.left + 10) × (f.left ≤ n)

pub record Sound (n : ℕ) (p : Received) : Type 0 where
  pub fits : Fits n p.receiver.framer
  -- In a frame: the idle count has not yet gone on for as long as the frame.
  pub low : 0 < togo n p.receiver.framer → p.receiver.idle + togo n p.receiver.framer < span n
  pub top : p.receiver.idle ≤ frame_samples n
  -- The count stands at its limit only with no frame since.
  pub calm : p.receiver.idle ≡ frame_samples n → p.receiver.since ≡ false
  -- A receive flag that is marked as seen is set.
  pub marks : contains p.status.flags (common p.status.seen receive_flags) ≡ true
