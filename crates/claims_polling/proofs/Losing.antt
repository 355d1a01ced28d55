-- Polled one clock too late, a receiver loses a frame: computed. Assumes nothing.
use mathlib.Core.Path.{◌≡◌, refl, sym, subst}
use mathlib.Core.Bool.{Bool, true, false, not, ◌&&◌, true≢false, false≢true}
use mathlib.Core.List.{List, [], ◌∷◌}
use Prim.Native.Nat.{ℕ, suc, ◌*◌}
use native.Mathlib.Omega.{arith}
use lib.ListN.{take}
use borrow.Author.Tests.{not-true}
use Rattle.steps.specs.Iterate.{iterate}
use Rattle.sci.specs.model.Status.{has, raise, raise_if, fall, fall_if, mark_seen, fall_seen}
use Rattle.sci.specs.model.Control.{M, bits_of}
use Rattle.sci.specs.model.Framer.{adjusts, start_bit, data_bit, stop_bit, fixed, framed}
use Rattle.sci.specs.model.Receiver.{outcome, raised, entered, status_after, receiver_after, received}
use Rattle.sci.specs.model.Transmitter.{sent}
use Rattle.sci.specs.claims.Levels.{Unmoved, stretched, low_bits, frame_levels}
use Rattle.sci.specs.claims.Line.{Op}
use Rattle.sci.specs.model.Serial.{sampled, clocked, wrote_sccr0, wrote_sccr1, sccr0_guarded, sccr1_guarded}
use Rattle.sci.specs.declared.framer.Framer.{Framer}
use Rattle.sci.specs.declared.receiver.Receiver.{Receiver}
use Rattle.sci.specs.declared.serial.Sci.{Sci}
use Rattle.sci.proofs.Membership.{and_left, and_right}
use Rattle.qsm.specs.model.State.{reset_module}
use Rattle.qsm.specs.model.Map.{decode}
use Rattle.qsm.specs.model.Lanes.{in_map, is_restricted}
use Rattle.qsm.specs.model.Serial.{peek_serial, serial_read, put_serial, serial_unmodelled, serial_guarded}
use Rattle.qsm.specs.model.Word.{peek, put, unmodelled, guarded}
use Rattle.qsm.specs.model.Access.{fetch, fetched, store, stored}
use Rattle.qsm.specs.model.Decision.{admitted, decide_read, stored_by, decide_stored, decide_write}
use Rattle.qsm.specs.model.Event.{clock_module, clocks, after_read, read_value, refused, holds, reads, writes, does}
use Rattle.qsm.specs.declared.state.Module.{Module}
use Rattle.qsm.specs.declared.event.Access.TheVariants.{Read, Write}
use Rattle.qsm.specs.declared.event.Event.{Event}
use Rattle.qsm.specs.declared.event.Event.TheVariants.{Reset, Hold}
use Rattle.qsm.specs.declared.event.Event.TheVariants as event
use Rattle.claims_histories.specs.History.{after, run, Unbroken, ops, log}
use Rattle.claims_polling.specs.Spacing.{apart, samples_of, cut, shortest}
use Rattle.claims_polling.specs.Rule.{lost_in, waiting, longest, polled_after, Within, late, started, Loses}

-- Holds and reads break nothing.
abbrev pub harmless : List Event → Bool
harmless [] = true
harmless (Reset ∷ es) = false
harmless (Hold pins rxd n ∷ es) = harmless es
harmless (event.Access (Read supervisor width offset) ∷ es) = harmless es
harmless (event.Access (Write supervisor width offset value) ∷ es) = false

pub harmless_unbroken : (es : List Event) (m : Module) → harmless es ≡ true → Unbroken es m
harmless_unbroken [] m e = tt
harmless_unbroken (Reset ∷ es) m e = absurd (false≢true e)
harmless_unbroken (Hold pins rxd n ∷ es) m e = (refl, harmless_unbroken es (after (Hold pins rxd n) m) e)
harmless_unbroken (event.Access (Read supervisor width offset) ∷ es) m e =
    (refl, harmless_unbroken es (after (event.Access (Read supervisor width offset)) m) e)
harmless_unbroken (event.Access (Write supervisor width offset value) ∷ es) m e = absurd (false≢true e)

-- That nothing moves, as a test.
unfoldable still : ℕ → Bool → Bool → Bool → Framer → List Bool → Bool
still n a b c f [] = true
still n a b c f (x ∷ xs) = not (adjusts n f (a && b && c) x) && still n x a b (framed n f (a && b && c) x) xs

still_unmoved : (n : ℕ) (a b c : Bool) (f : Framer) (xs : List Bool) → still n a b c f xs ≡ true → Unmoved n a b c f xs
unfolding still Unmoved
still_unmoved n a b c f [] e = tt
still_unmoved n a b c f (x ∷ xs) e =
    let g : Framer = framed n f (a && b && c) x in (
      not-true (adjusts n f (a && b && c) x) (and_left (not (adjusts n f (a && b && c) x)) (still n x a b g xs) e),
      still_unmoved n x a b g xs (and_right (not (adjusts n f (a && b && c) x)) (still n x a b g xs) e),
    )

abbrev stays : Sci → List Op → Bool
stays s os =
    still (bits_of (M s.sccr1)) s.receiver.last1 s.receiver.last2 s.receiver.last3 s.receiver.framer (samples_of os)

record Computed (moves m : Bool) (xs : List Bool) : Type 0 where
  quiet : harmless (polled_after (late xs) (started m)) ≡ true
  clear : waiting (started m) ≡ false
  period : longest moves (started m) ≡ 2 * apart moves (bits_of m)
  within : Within (suc (2 * apart moves (bits_of m))) (late xs)
  loses : lost_in (log (polled_after (late xs) (started m)) (started m)) ≡ 1
  moving : moves ≡ false → stays (started m).sci (ops (polled_after (late xs) (started m)) (started m)) ≡ true

losing : (moves m : Bool) (xs : List Bool) → Computed moves m xs → Loses moves m xs
losing moves m xs c =
    let n : Module = started m in
    let r : Receiver = n.sci.receiver in
    record {
      clear = c.clear;
      unbroken = harmless_unbroken (polled_after (late xs) n) n c.quiet;
      within = subst (λ (p : ℕ). Within (suc p) (late xs)) (sym c.period) c.within;
      moving = λ e.
          still_unmoved (bits_of (M n.sci.sccr1)) r.last1 r.last2 r.last3 r.framer
          (samples_of (ops (polled_after (late xs) n) n)) (c.moving e);
      loses = c.loses;
    }

-- The four cases.
moving_8 : Computed true false (shortest 8)
unfolding iterate has raise raise_if fall fall_if mark_seen fall_seen start_bit data_bit stop_bit fixed framed outcome raised entered status_after receiver_after received sent sampled clocked wrote_sccr0 wrote_sccr1 sccr0_guarded sccr1_guarded reset_module decode in_map is_restricted peek_serial serial_read put_serial serial_unmodelled serial_guarded peek put unmodelled guarded fetch fetched store stored admitted decide_read stored_by decide_stored decide_write clock_module clocks after_read read_value refused holds reads writes does run ops log polled_after cut stretched low_bits still
moving_8 =
    record {
      quiet = refl;
      clear = refl;
      period = refl;
      within = (omega arith, (omega arith, tt));
      loses = refl;
      moving = λ e. absurd (true≢false e);
    }

moving_9 : Computed true true (shortest 9)
unfolding iterate has raise raise_if fall fall_if mark_seen fall_seen start_bit data_bit stop_bit fixed framed outcome raised entered status_after receiver_after received sent sampled clocked wrote_sccr0 wrote_sccr1 sccr0_guarded sccr1_guarded reset_module decode in_map is_restricted peek_serial serial_read put_serial serial_unmodelled serial_guarded peek put unmodelled guarded fetch fetched store stored admitted decide_read stored_by decide_stored decide_write clock_module clocks after_read read_value refused holds reads writes does run ops log polled_after cut stretched low_bits still
moving_9 =
    record {
      quiet = refl;
      clear = refl;
      period = refl;
      within = (omega arith, (omega arith, tt));
      loses = refl;
      moving = λ e. absurd (true≢false e);
    }

fixed_8 : Computed false false (take 154 (frame_levels (low_bits 8 0xFF)))
unfolding iterate has raise raise_if fall fall_if mark_seen fall_seen start_bit data_bit stop_bit fixed framed outcome raised entered status_after receiver_after received sent sampled clocked wrote_sccr0 wrote_sccr1 sccr0_guarded sccr1_guarded reset_module decode in_map is_restricted peek_serial serial_read put_serial serial_unmodelled serial_guarded peek put unmodelled guarded fetch fetched store stored admitted decide_read stored_by decide_stored decide_write clock_module clocks after_read read_value refused holds reads writes does run ops log polled_after cut stretched low_bits still
fixed_8 =
    record {
      quiet = refl;
      clear = refl;
      period = refl;
      within = (omega arith, (omega arith, tt));
      loses = refl;
      moving = λ e. refl;
    }

fixed_9 : Computed false true (take 170 (frame_levels (low_bits 9 0x1FF)))
unfolding iterate has raise raise_if fall fall_if mark_seen fall_seen start_bit data_bit stop_bit fixed framed outcome raised entered status_after receiver_after received sent sampled clocked wrote_sccr0 wrote_sccr1 sccr0_guarded sccr1_guarded reset_module decode in_map is_restricted peek_serial serial_read put_serial serial_unmodelled serial_guarded peek put unmodelled guarded fetch fetched store stored admitted decide_read stored_by decide_stored decide_write clock_module clocks after_read read_value refused holds reads writes does run ops log polled_after cut stretched low_bits still
fixed_9 =
    record {
      quiet = refl;
      clear = refl;
      period = refl;
      within = (omega arith, (omega arith, tt));
      loses = refl;
      moving = λ e. refl;
    }

pub loses : Loses true false (shortest 8) × Loses true true (shortest 9)
    × Loses false false (take 154 (frame_levels (low_bits 8 0xFF))) × Loses false true (take 170 (frame_levels (low_bits 9 0x1FF)))
loses = (
  losing true false (shortest 8) moving_8,
  losing true true (shortest 9) moving_9,
  losing false false (take 154 (frame_levels (low_bits 8 0xFF))) fixed_8,
  losing false true (take 170 (frame_levels (low_bits 9 0x1FF))) fixed_9,
)
