-- The first frame of the two modules.
use mathlib.Core.Bool.{true, false, and-false}
use mathlib.Core.List.{List, ◌∷◌}
use mathlib.Core.Path.{◌≡◌, refl, ap, sym, subst, ◌∙◌}
use native.Mathlib.Omega.{arith}
use Prim.Native.Nat.{ℕ, zero, suc, ◌+◌, ◌*◌}
use lib.ListN.{replicate}
use Rattle.steps.specs.Iterate.{iterate}
use Rattle.sci.specs.model.Flags.{flag}
use Rattle.sci.specs.model.Status.{has, raise, raise_if, fall, fall_if, mark_seen, fall_seen}
use Rattle.sci.specs.model.Control.{SCBR, M, bits_of}
use Rattle.sci.specs.model.Framer.{fixed, framed}
use Rattle.sci.specs.model.Receiver.{outcome, entered, status_after, receiver_after, received}
use Rattle.sci.specs.model.Transmitter.{begins_frame, sent}
use Rattle.sci.specs.model.Serial.{reset_sci, due, sampled, clocked, wrote_sccr0, wrote_sccr1, sccr0_guarded, sccr1_guarded}
use Rattle.sci.specs.claims.Levels.{end_sample}
use Rattle.sci.specs.claims.History as sci
use Rattle.sci.specs.claims.Wire.{Wired, step, Matched}
use Rattle.sci.specs.claims.Wire as wire
use Rattle.sci.specs.declared.serial.Sci.{Sci}
use Rattle.qsm.specs.model.Map.{decode}
use Rattle.qsm.specs.model.Lanes.{in_map}
use Rattle.qsm.specs.model.Word.{unmodelled, guarded}
use Rattle.qsm.specs.model.Serial.{serial_unmodelled, serial_guarded}
use Rattle.qsm.specs.model.Access.{store, stored}
use Rattle.qsm.specs.model.Decision.{permits, admitted, decide_read, stored_by, decide_stored, decide_write}
use Rattle.qsm.specs.declared.state.Module.{Module}
use Rattle.qsm.specs.declared.event.Access.TheVariants.{Write}
use Rattle.qsm.specs.declared.event.Event.TheVariants as event
use Rattle.claims_histories.specs.History.{breaks}
use Rattle.claims_histories.specs.Demand2.{Two, halves, Moment, clock, at_sender, at_receiver, next, play, Counts, Unchanged, begun, ended, Begins, Sends}
use Rattle.claims_histories.proofs.Pin.{wire_driven}
use Rattle.claims_histories.proofs.OnWire.{joined, at_r}
use Rattle.claims_histories.proofs.Room.{since_count}
use Rattle.claims_histories.proofs.LowCounts.{Low, low_counts, low_next, low_play}
use Rattle.claims_histories.proofs.Uncounted.{uncounted}
use Rattle.claims_histories.proofs.Joined.{project, clock_halves}
use Rattle.claims_histories.proofs.Arriving.{begins_driven, at_ended}
use Rattle.claims_histories.proofs.Requested.{request_stays, request_given}
use Rattle.claims_histories.proofs.Sent.{past, past', two, tick, ticks, status, one, all_clocks, sending, listening, at_past, start}

-- The first frame: it begins, and the receiver is ready then.
pub one_begins : Begins two.sender
unfolding has
one_begins =
    record {
      sample = ap due at_past;
      frame = ap (λ (s : Sci). begins_frame s.transmitter s.status s.sccr1) at_past;
    }

abbrev pub b : Two
b = begun one two

-- The counts are low.
two_low : Low 321 two
two_low = (since_count past, omega (arith, since_count past'))

pub two_counts : Counts two
two_counts = low_counts 321 two two_low (omega arith)

pub b_low : Low 322 b
b_low = low_next (clock tick) 321 two two_low

abbrev begun_halves : Wired
begun_halves = step (wire.clock true) (joined sending listening)

at_b : halves b ≡ begun_halves
at_b =
    sym (clock_halves tick two two_counts (wire_driven two.sender true (begins_driven two.sender one_begins)))
    ∙ ap (step (wire.clock true)) start

matched : Matched begun_halves
unfolding sci.run sci.step wrote_sccr0 wrote_sccr1 sccr0_guarded sccr1_guarded has raise raise_if fall_if step clocked sampled sent received receiver_after outcome status_after entered framed fixed
matched =
    record {
      rate = refl;
      same = refl;
      on = refl;
      awake = refl;
      searches = refl;
      ones = refl;
      rdrf = refl;
      errors = record { or = refl; nf = refl; fe = refl; pf = refl };
    }

pub one_matched : Matched (halves b)
one_matched = subst Matched (sym at_b) matched

-- What is asked of the receiver's SCCR1, and its count.
record Heard (s : Sci) : Type 0 where
  control : s.sccr1 ≡ 4
  awake : s.receiver.asleep ≡ false
  count : s.prescaler ≡ 0

b_heard : Heard b.receiver.sci
unfolding sci.run sci.step wrote_sccr0 wrote_sccr1 sccr0_guarded sccr1_guarded step clocked sampled received receiver_after outcome
b_heard = subst (λ (w : Wired). Heard w.receiver) (sym at_b) (record { control = refl; awake = refl; count = refl })

-- When the next word is written and the receiver's RIE set.
abbrev asked : Two
asked = next (at_sender status) b

abbrev filled : Two
filled = next (at_sender (Write true 2 0x0E 0x2A)) asked

abbrev loaded : Two
loaded = next (at_receiver (Write true 2 0x0A 0x24)) filled

loaded_low : Low 322 loaded
loaded_low =
    low_next (at_receiver (Write true 2 0x0A 0x24)) 322 filled
    (low_next (at_sender (Write true 2 0x0E 0x2A)) 322 asked (low_next (at_sender status) 322 b b_low))

write_uncounted : (m : Module) → breaks (event.Access (Write true 2 0x0E 0x2A)) m ≡ false
write_uncounted m = and-false (permits (decide_write m true 2 0x0E 0x2A))

pub one_unchanged : (es : List Moment) → ((q : Two) → Low 322 q → Unchanged es q) →
    Unchanged (at_sender status ∷ (at_sender (Write true 2 0x0E 0x2A) ∷ (at_receiver (Write true 2 0x0A 0x24) ∷ es))) b
unfolding next
one_unchanged es u = (
  (uncounted b.sender status refl).same,
  (
    (uncounted _ (Write true 2 0x0E 0x2A) (write_uncounted _)).same,
    (
      request_stays b.receiver b_heard.control b_heard.awake,
      u loaded loaded_low,
    ),
  ),
)

pub one_sends : Sends one two
one_sends =
    record {
      begins = one_begins;
      counts = two_counts;
      unchanged = one_unchanged (ticks 307) (λ q low. all_clocks 307 322 q low (omega arith));
      counts_last = low_counts 629 (play one.later b) (low_play one.later 322 b b_low) (omega arith);
      last =
          ap (λ (k : ℕ). 308 + k) b_heard.count
          ∙ sym (ap (λ (s : Sci). suc (end_sample (bits_of (M s.sccr1))) * (2 * SCBR s.sccr0)) at_past);
    }

-- The first frame ends: what comes on the wire meanwhile, and the two serial halves then.
pub project_ticks : (n : ℕ) (q : Two) → project (ticks n) q ≡ replicate n (wire.clock true)
project_ticks zero q = refl
project_ticks (suc n) q = ap (λ (fs : List wire.Step). wire.clock true ∷ fs) (project_ticks n (next (clock tick) q))

abbrev one_later : List wire.Step
one_later =
    wire.at_sender wire.read_status
    ∷ (wire.at_sender (wire.write_data 0x2A true) ∷ (wire.at_receiver (wire.write_control 0x24 true true) ∷ replicate 307 (wire.clock true)))

same_later : project one.later b ≡ one_later
unfolding next decide_read decide_write decide_stored admitted in_map decode stored_by stored store iterate unmodelled guarded serial_unmodelled serial_guarded
same_later =
    ap
    (λ (fs : List wire.Step). wire.at_sender wire.read_status ∷ (wire.at_sender (wire.write_data 0x2A true) ∷ fs))
    (ap (λ (ks : List wire.Access). at_r ks (project (ticks 307) loaded)) (request_given b.receiver b_heard.control)
    ∙ ap (λ (fs : List wire.Step). wire.at_receiver (wire.write_control 0x24 true true) ∷ fs) (project_ticks 307 loaded))

abbrev pub sent_one : Sci
sent_one =
    record {
      sccr0 = 1;
      sccr1 = 8;
      status = record { flags = flag 0; seen = flag 0 };
      prescaler = 0;
      receiver = reset_sci.receiver;
      transmitter = record { scdr = 0x2A; preamble = false; shift = 1; left = 6 };
      account = reset_sci.account;
    }

abbrev pub heard_one : Sci
heard_one = (step (wire.clock true) (wire.steps one_later begun_halves)).receiver

passed : step (wire.clock true) (wire.steps one_later begun_halves) ≡ joined sent_one heard_one
unfolding has raise raise_if fall mark_seen fall_seen sent sampled clocked wrote_sccr1 wire.accessed step wire.steps
passed = refl

abbrev pub e : Two
e = ended one two

pub e_low : Low 630 e
e_low = low_next (clock tick) 629 (play one.later b) (low_play one.later 322 b b_low)

pub at_e : halves e ≡ joined sent_one heard_one
at_e =
    sym (at_ended one two one_sends)
    ∙ ap (λ (fs : List wire.Step). step (wire.clock true) (wire.steps fs (step (wire.clock true) (halves two)))) same_later
    ∙ ap (λ (w : Wired). step (wire.clock true) (wire.steps one_later (step (wire.clock true) w))) start ∙ passed
