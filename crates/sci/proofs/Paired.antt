-- A frame's sender and its receiver clock by clock, v < P apart: where the receiver's count is at its end, both have the same k, so its
-- samples are the sender's levels.
-- Assumes nothing.
use Prim.Native.Nat.{ℕ, suc, ◌+◌, ◌*◌, ◌-◌, ◌≤◌, ◌<◌}
use mathlib.Core.Path.{◌≡◌, ap, sym, subst, ◌∙◌}
use mathlib.Core.List.{List, [], ◌∷◌}
use mathlib.Core.Bool.{Bool, true, false, ◌&&◌}
use native.Mathlib.Omega.{arith}
use lib.ListN.{length, get_or}
use Rattle.sci.specs.model.Control.{PT, PE, M, bits_of}
use Rattle.sci.specs.model.Bits.{parity_bit}
use Rattle.sci.specs.model.Serial.{clocked, txd}
use Rattle.sci.specs.claims.Levels.{low_bits, value, frame_levels, end_sample}
use Rattle.sci.specs.claims.Link.{InScdr}
use Rattle.sci.specs.claims.Wire.{Wired, Access, read_status, read_data, write_data, write_control, accessed, Same, Unchanged, Step, clock, at_sender, at_receiver, step, steps, clocks_in, reads_of, hearing}
use Rattle.sci.proofs.Sending.{shows, low_length}
use Rattle.sci.proofs.Stages.{Stage, waiting, free, stages}
use Rattle.sci.proofs.Going.{Rested}
use Rattle.sci.proofs.Arriving.{stop_level}
use Rattle.sci.proofs.Heeding.{heeded}
use Rattle.sci.proofs.Timing.{receiver_access, receiver_ends, receiver_rests_holds}
use Rattle.sci.proofs.Pace.{aligned, earlier, SenderOn, sender_clock, sender_touched, ReceiverOn, receiver_clock}

-- Both on their way, v clocks apart, with the frame's last sample still to come.
pub record Both (c g w P v : ℕ) (st : Stage) (t : ℕ) (q : Wired) : Type 0 where
  pub sender : SenderOn (bits_of (M c)) w P t q.sender
  pub receiver : ReceiverOn c g (low_bits (bits_of (M c)) w) st P (t + v) q.receiver

module _ (c g w P v : ℕ) (near : v < P) where
  abbrev bits : List Bool
  bits = low_bits (bits_of (M c)) w

  sized : bits_of (M c) ≡ length bits
  sized = sym (low_length (bits_of (M c)) w)

  -- Where the receiver's sample is due, TXD shows that sample of the frame.
  level_then : (st : Stage) (t : ℕ) (q : Wired) (b : Both c g w P v st t q) → t < suc (end_sample (bits_of (M c))) * P → b.receiver.p + 1 ≡ P →
      txd q.sender ≡ get_or (frame_levels bits) b.receiver.k true
  level_then st t q b l full =
      let z : b.sender.k ≡ b.receiver.k =
      aligned P b.sender.k b.sender.p v b.receiver.k b.sender.small near
      (omega (arith, b.sender.time, b.receiver.time)) in
      let few : b.sender.k ≤ end_sample (bits_of (M c)) =
      earlier P b.sender.k b.sender.p (end_sample (bits_of (M c))) (P - 1) (omega (arith, b.sender.time)) (omega arith) in
      shows (bits_of (M c)) w b.sender.k q.sender.transmitter b.sender.at.sending (omega (arith, few))
      ∙ ap (λ (k : ℕ). get_or (frame_levels bits) k true) z

  pub record Last (st : Stage) (q : Wired) : Type 0 where
    pub t : ℕ
    pub both : Both c g w P v st t q
    pub left : t + v + 1 ≡ suc (end_sample (bits_of (M c))) * P

  touched : (a : Access) (st : Stage) (t : ℕ) (q : Wired) → Same q.receiver (accessed a q.receiver) → Both c g w P v st t q →
      Both c g w P v (heeded a st) t (record { sender = q.sender; receiver = accessed a q.receiver })
  touched a st t q same b =
      let h : ReceiverOn c g bits st P (t + v) q.receiver = b.receiver in
      record {
        sender = b.sender;
        receiver =
            record {
              k = h.k;
              p = h.p;
              at = receiver_access c g bits st (g + h.k) P h.p q.receiver a same h.at;
              small = h.small;
              time = h.time;
            };
      }

  pub run : (es : List Step) (st : Stage) (q : Wired) (t : ℕ) → Unchanged es q → Both c g w P v st t q →
      clocks_in es + (t + v) + 1 ≡ suc (end_sample (bits_of (M c))) * P → Last (stages (reads_of es) st) (steps es q)
  unfolding steps step clocks_in reads_of stages Unchanged
  run [] st q t un b l = record { t = t; both = b; left = omega arith }
  run (clock x ∷ es) st q t un b l =
      let z : suc (t + v) ≡ suc t + v = omega arith in
      run es st (step (clock x) q) (suc t) un
      (record {
        sender = sender_clock (bits_of (M c)) w P t q.sender x b.sender (omega arith);
        receiver =
            subst (λ (i : ℕ). ReceiverOn c g bits st P i (clocked q.receiver (txd q.sender))) z
            (receiver_clock c g bits st P (t + v) q.receiver (txd q.sender) sized b.receiver (omega arith)
            (level_then st t q b (omega arith)));
      })
      (omega arith)
  run (at_sender a ∷ es) st q t un b l =
      run es st (step (at_sender a) q) t un.1
      (record { sender = sender_touched (bits_of (M c)) w P t q.sender a b.sender; receiver = b.receiver })
      l
  run (at_receiver read_status ∷ es) st q t un b l =
      run es (heeded read_status st) (step (at_receiver read_status) q) t un.1 (touched read_status st t q un.0 b) l
  run (at_receiver read_data ∷ es) st q t un b l =
      run es (heeded read_data st) (step (at_receiver read_data) q) t un.1 (touched read_data st t q un.0 b) l
  run (at_receiver (write_data x upper) ∷ es) st q t un b l =
      run es st (step (at_receiver (write_data x upper)) q) t un.1 (touched (write_data x upper) st t q un.0 b) l
  run (at_receiver (write_control x upper lower) ∷ es) st q t un b l =
      run es st (step (at_receiver (write_control x upper lower)) q) t un.1 (touched (write_control x upper lower) st t q un.0 b) l

  -- The last sample.
  pub record Ended (q : Wired) : Type 0 where
    pub word : InScdr (value bits) (hearing (clocked q.receiver (txd q.sender)))
    pub rested : Rested waiting (hearing (clocked q.receiver (txd q.sender)))

  pub ends_well : (st : Stage) (q : Wired) → Last st q → st ≡ free → PE c && parity_bit (PT c) (value bits) ≡ false → Ended q
  ends_well st q h read even =
      let r : ReceiverOn c g bits st P (h.t + v) q.receiver = h.both.receiver in
      let z : r.k ≡ end_sample (bits_of (M c)) =
      aligned P r.k r.p 0 (end_sample (bits_of (M c))) r.small (omega (arith, near)) (omega (arith, r.time, h.left)) in
      let y : r.k * P ≡ end_sample (bits_of (M c)) * P = ap (λ (k : ℕ). k * P) z in
      let full : r.p + 1 ≡ P = omega (arith, r.time, h.left) in
      let i : r.k ≡ 0 + (16 * length bits + 16 + 9) = omega (arith, sized) in
      let one : txd q.sender ≡ true =
      level_then st h.t q h.both (omega (arith, h.left)) full ∙ ap (λ (k : ℕ). get_or (frame_levels bits) k true) i
      ∙ stop_level 0 bits 9 (omega arith) in
      record {
        word =
            receiver_ends c g bits sized st (g + r.k) P r.p q.receiver (txd q.sender) r.at full (ap (λ (k : ℕ). g + k) z) read
            one even;
        rested =
            receiver_rests_holds c g bits sized st (g + r.k) P r.p q.receiver (txd q.sender) r.at full (ap (λ (k : ℕ). g + k) z) read
            one even;
      }
