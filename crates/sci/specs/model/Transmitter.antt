-- Document 01, Transmitter: what runs, what TXD shows, and one sample.
use Rattle.std.specs.Prelude.{Bool, cond, not, ◌&&◌, ◌||◌, ℕ, ◌+◌, ◌-◌, ◌*◌, ◌/◌, ◌%◌, ◌^◌, eqb, leb}
use Rattle.sci.specs.model.Flags.{TC, TDRE}
use Rattle.sci.specs.model.Status.{has, raise_if}
use Rattle.sci.specs.model.Control.{PT, PE, M, TE, bits_of, frame_samples}
use Rattle.sci.specs.model.Bits.{parity_bit}
use Rattle.sci.specs.declared.status.Status.{Status}
use Rattle.sci.specs.declared.transmitter.Transmitter.{Transmitter}
use Rattle.sci.specs.declared.transmitter.Sent.{Sent}

-- A frame or preamble runs.
abbrev pub runs : Transmitter → Bool
runs t = not (eqb t.left 0)

-- TXD rests at one.
abbrev pub level : Transmitter → Bool
level t = not (runs t) || eqb (t.shift % 2) 1

-- PE replaces the top one of n data bits.
abbrev pub with_parity : ℕ → Bool → ℕ → ℕ
with_parity n pt w = cond (parity_bit pt (w % 2 ^ (n - 1))) (w % 2 ^ (n - 1) + 2 ^ (n - 1)) (w % 2 ^ (n - 1))

abbrev pub data_sent : ℕ → Bool → Bool → ℕ → ℕ
data_sent n pe pt w = cond pe (with_parity n pt w) w

-- A frame of n data bits, low bit first: the start bit is zero, the stop bit one.
abbrev pub frame_bits : ℕ → ℕ → ℕ
frame_bits n w = 2 ^ (n + 1) + 2 * (w % 2 ^ n)

-- A preamble: as many ones as a frame has bits.
abbrev pub preamble_bits : ℕ → ℕ
preamble_bits n = 2 ^ (n + 2) - 1

-- What begins at sample s ends at s + 160 (M=0) or s + 176.
abbrev pub new_left : Bool → ℕ → ℕ → ℕ
new_left begins n left = cond begins (frame_samples n) (left - 1)

-- A bit lasts 16 samples.
abbrev pub passed : Bool → ℕ → ℕ
passed over shift = cond over (shift / 2) shift

abbrev pub new_shift : Bool → Bool → ℕ → ℕ → ℕ → ℕ
new_shift preamble frame ones bits rest = cond preamble ones (cond frame bits rest)

-- The shifter is free at this sample: nothing runs, or what runs ends with it.
abbrev pub free : Transmitter → Bool
free t = leb t.left 1

abbrev pub ends : Transmitter → Bool
ends t = eqb t.left 1

-- A queued preamble goes before data.
abbrev pub begins_preamble : Transmitter → ℕ → Bool
begins_preamble t sccr1 = TE sccr1 && free t && t.preamble

-- At a sample with the shifter free, TE set and TDRE clear, the frame starts.
abbrev pub begins_frame : Transmitter → Status → ℕ → Bool
begins_frame t s sccr1 = TE sccr1 && free t && not t.preamble && not (has s TDRE)

-- One sample: when a frame or preamble ends with TDRE set, TC rises; when a frame starts, TDRE rises.
unfoldable pub sent : Transmitter → Status → ℕ → Sent
sent t s sccr1 =
    let n : ℕ = bits_of (M sccr1) in
    let preamble : Bool = begins_preamble t sccr1 in
    let frame : Bool = begins_frame t s sccr1 in
    let left : ℕ = new_left (preamble || frame) n t.left in
    record {
      transmitter =
          record {
            scdr = t.scdr;
            preamble = t.preamble && not preamble;
            shift =
                new_shift preamble frame (preamble_bits n) (frame_bits n (data_sent n (PE sccr1) (PT sccr1) t.scdr))
                (passed (eqb (left % 16) 0) t.shift);
            left = left;
          };
      status = raise_if frame (raise_if (ends t && has s TDRE) s TC) TDRE;
    }
