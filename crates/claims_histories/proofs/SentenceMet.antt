-- Two lists of events that meet what the sentence asks: the word 55 goes from the one to the other while the next is written and RIE is set.
use mathlib.Core.Bool.{Bool, true, false, cond, and-false}
use mathlib.Core.List.{List, [], ◌∷◌, ◌++◌}
use mathlib.Core.Path.{◌≡◌, refl, ap, sym, subst, ◌∙◌}
use Prim.Native.Nat.{ℕ, zero, suc, ◌+◌, ◌-◌, ◌*◌, ◌/◌, ◌%◌, ◌^◌, ◌≤◌, ◌<◌}
use native.Mathlib.Omega.{arith}
use lib.Count.{ones}
use lib.ListN.{length, get_or, replicate}
use Rattle.steps.specs.Bits.{digit}
use Rattle.steps.specs.Iterate.{iterate}
use Rattle.sci.specs.model.Status.{has, raise, raise_if, fall_if}
use Rattle.sci.specs.model.Control.{SCBR, PT, PE, M, RE, settings, frame_samples}
use Rattle.sci.specs.model.Framer.{searching, fixed, framed}
use Rattle.sci.specs.model.Receiver.{three, outcome, entered, status_after, receiver_after, received}
use Rattle.sci.specs.model.Transmitter.{sent}
use Rattle.sci.specs.model.Serial.{reset_sci, sampled, clocked, wrote_sccr0, wrote_sccr1, sccr0_guarded, sccr1_guarded}
use Rattle.sci.specs.claims.Levels.{low_bits, stretched, frame_levels}
use Rattle.sci.specs.claims.Line.{shown, no_flag}
use Rattle.sci.specs.claims.History as sci
use Rattle.sci.specs.declared.serial.Sci.{Sci}
use Rattle.sci.proofs.History.{clocks}
use Rattle.sci.proofs.Sending.{shows}
use Rattle.sci.proofs.Sender.{SenderAt, sender_begins}
use Rattle.sci.proofs.Pace.{SenderOn, sender_clock}
use Rattle.qsm.specs.model.State.{reset_module}
use Rattle.qsm.specs.model.Map.{decode}
use Rattle.qsm.specs.model.Lanes.{in_map, is_restricted}
use Rattle.qsm.specs.model.Word.{put, unmodelled, guarded}
use Rattle.qsm.specs.model.Serial.{put_serial, serial_unmodelled, serial_guarded}
use Rattle.qsm.specs.model.Access.{store, stored}
use Rattle.qsm.specs.model.Decision.{permits, admitted, decide_read, stored_by, decide_stored, decide_write}
use Rattle.qsm.specs.model.Event.{clock_limit, held, clock_module, does}
use Rattle.qsm.specs.model.Event as events
use Rattle.qsm.specs.declared.state.Module.{Module}
use Rattle.qsm.specs.declared.pins.Outputs.{Outputs}
use Rattle.qsm.specs.declared.event.Access.TheVariants.{Read, Write}
use Rattle.qsm.specs.declared.event.Event.{Event}
use Rattle.qsm.specs.declared.event.Event.TheVariants.{Reset, Hold}
use Rattle.qsm.specs.declared.event.Event.TheVariants as event
use Rattle.claims_histories.specs.History.{after, run}
use Rattle.claims_histories.specs.Demand2.{SameSettings}
use Rattle.claims_histories.specs.Sentence.{clock_outputs, driven, rxd_in, Carries, Exchange, sender, starts, receiver, hearing, Asked, CanArrive}
use Rattle.claims_histories.proofs.Lifted.{all, from_reset}
use Rattle.claims_histories.proofs.Pin.{pin_shows}
use Rattle.claims_histories.proofs.Given.{makes, access_half}
use Rattle.claims_histories.proofs.Joined.{hold_half}
use Rattle.qsm.proofs.Limit.{is_room}
use Rattle.claims_histories.proofs.Room.{total, all_played, after_count, access_count, since_plain, since_count, run_count}
use Rattle.claims_histories.proofs.Uncounted.{uncounted}
use Rattle.claims_histories.proofs.Requested.{request_stays}
use Rattle.claims_histories.proofs.Sent.{past, sending, at_past}
use Rattle.claims_histories.proofs.SentOne.{one_begins}
use Rattle.claims_histories.proofs.Carried.{left_runs, touched}

-- Thirty-two clocks of a level are a bit.
abbrev bit_of : Bool → Event
bit_of x = Hold 0 x 32

abbrev e : Exchange
e =
    record {
      past = past;
      pins = 0;
      rxd = true;
      sending = event.Access (Read true 2 0x0C) ∷ (event.Access (Write true 2 0x0E 0x2A) ∷ (Hold 0 true 308 ∷ []));
      past' = event.Access (Write true 2 0x08 1) ∷ (event.Access (Write true 2 0x0A 4) ∷ (Hold 0 true 6 ∷ []));
      meanwhile =
          event.Access (Write true 2 0x0A 0x24)
          ∷ (bit_of false ∷ (bit_of true ∷ (bit_of false ∷ (bit_of true ∷ (bit_of false ∷ (bit_of true ∷ (bit_of false ∷ (bit_of true ∷ (bit_of false ∷ [])))))))));
      pins' = 0;
      rxd' = true;
      more = 19;
    }

-- RXD where every hold is played.
abbrev plain_rxd : List Event → List Bool
plain_rxd [] = []
plain_rxd (Reset ∷ es) = plain_rxd es
plain_rxd (Hold pins x n ∷ es) = replicate n x ++ plain_rxd es
plain_rxd (event.Access a ∷ es) = plain_rxd es

plain_rxd_holds : (es : List Event) (m : Module) → m.clock + total es ≤ clock_limit → rxd_in es m ≡ plain_rxd es
unfolding rxd_in
plain_rxd_holds [] m l = refl
plain_rxd_holds (Reset ∷ es) m l = plain_rxd_holds es (after Reset m) (omega (arith, after_count Reset m))
plain_rxd_holds (Hold pins x n ∷ es) m l =
    ap (λ (k : ℕ). replicate k x ++ rxd_in es (after (Hold pins x n) m)) (all_played m n (omega arith))
    ∙ ap (λ (ys : List Bool). replicate n x ++ ys) (plain_rxd_holds es (after (Hold pins x n) m) (omega (arith, after_count (Hold pins x n) m)))
plain_rxd_holds (event.Access a ∷ es) m l = plain_rxd_holds es (after (event.Access a) m) (omega (arith, after_count (event.Access a) m))

-- The levels of the frame.
abbrev levels_from : ℕ → ℕ → List Bool
levels_from t zero = []
levels_from t (suc j) = get_or (frame_levels (low_bits 8 0x55)) (t / 2) true ∷ levels_from (suc t) j

carries : (j t : ℕ) (y : Bool) (m : Module) → SenderOn 8 0x55 2 t m.sci → t + j < 320 → Carries (clock_outputs j y m ++ []) (levels_from t j)
unfolding clock_module
carries zero t y m h l = tt
carries (suc j) t y m h l =
    let few : h.k < frame_samples 8 = omega (arith, h.time) in
    let z : h.k ≡ t / 2 = omega (arith, h.time, h.small) in (
      λ d. sym ((pin_shows m (left_runs 8 0x55 h.k m.sci h.at.sending few)).1
          ∙ shows 8 0x55 h.k m.sci.transmitter h.at.sending few
          ∙ ap (λ (i : ℕ). get_or (frame_levels (low_bits 8 0x55)) i true) z),
      carries j (suc t) y (clock_module y m) (sender_clock 8 0x55 2 t m.sci y h (omega arith)) (omega arith),
    )

-- The sender.
abbrev m : Module
m = sender e

abbrev b : Module
b = after (starts e) m

abbrev asked : Module
asked = after (event.Access (Read true 2 0x0C)) b

abbrev filled : Module
filled = after (event.Access (Write true 2 0x0E 0x2A)) asked

m_low : m.clock ≤ 321
m_low = since_count past

filled_low : filled.clock ≤ 322
filled_low =
    omega (arith, m_low, after_count (starts e) m, access_count (Read true 2 0x0C) b, access_count (Write true 2 0x0E 0x2A) asked)

played : events.passes m 1 ≡ false
played = is_room m 1 (omega (arith, m_low))

begins : SenderAt 8 0x55 0 2 0 (clocked sending true)
unfolding has
begins = sender_begins sending true refl refl

b_on : SenderOn 8 0x55 2 0 b.sci
b_on =
    record {
      k = 0;
      p = 0;
      at =
          subst (λ (s : Sci). SenderAt 8 0x55 0 2 0 s)
          (ap (λ (s : Sci). clocked s true) (sym at_past) ∙ sym (hold_half 0 true m played)) begins;
      small = omega arith;
      time = refl;
    }

asked_same : SameSettings b asked
asked_same = (uncounted b (Read true 2 0x0C) refl).same

filled_same : SameSettings asked filled
filled_same = (uncounted asked (Write true 2 0x0E 0x2A) (and-false (permits (decide_write asked true 2 0x0E 0x2A)))).same

filled_on : SenderOn 8 0x55 2 0 filled.sci
filled_on =
    subst (SenderOn 8 0x55 2 0) (access_half (Write true 2 0x0E 0x2A) asked filled_same)
    (touched 8 0x55 2 0 (omega arith) (makes (Write true 2 0x0E 0x2A) asked) 0 asked.sci
    (subst (SenderOn 8 0x55 2 0) (access_half (Read true 2 0x0C) b asked_same)
    (touched 8 0x55 2 0 (omega arith) (makes (Read true 2 0x0C) b) 0 b.sci b_on)))

shown_all : driven e.sending b ≡ clock_outputs 308 true (held filled 0) ++ []
unfolding driven
shown_all = ap (λ (k : ℕ). clock_outputs k true (held filled 0) ++ []) (all_played filled 308 (omega (arith, filled_low)))

-- The receiver.
abbrev r : Module
r = receiver e

r_low : r.clock ≤ 6
r_low = since_count e.past'

abbrev listening : Sci
listening = sci.run (sci.writesSccr0 1 true true ∷ (sci.writesSccr1 4 true true ∷ clocks 6 true)) reset_sci

same_past : all e.past' reset_module ≡ sci.writesSccr0 1 true true ∷ (sci.writesSccr1 4 true true ∷ clocks 6 true)
unfolding reset_module does events.writes events.refused decide_write decide_stored decide_read admitted in_map is_restricted decode stored_by stored store iterate put unmodelled guarded put_serial serial_unmodelled serial_guarded wrote_sccr0 wrote_sccr1 sccr0_guarded sccr1_guarded
same_past = since_plain e.past' (omega arith)

at_r_holds : r.sci ≡ listening
at_r_holds = from_reset e.past' ∙ ap (λ (es : List sci.Step). sci.run es reset_sci) same_past

record Ready (s : Sci) : Type 0 where
  control : s.sccr1 ≡ 4
  rate : s.sccr0 ≡ 1
  count : s.prescaler ≡ 0
  awake : s.receiver.asleep ≡ false
  searches : s.receiver.framer ≡ searching
  ones : three s.receiver ≡ true
  none : shown s.status ≡ no_flag

ready : Ready r.sci
unfolding sci.run sci.step wrote_sccr0 wrote_sccr1 sccr0_guarded sccr1_guarded has raise raise_if fall_if clocked sampled sent received receiver_after outcome status_after entered framed fixed
ready =
    subst Ready (sym at_r_holds)
    (record { control = refl; rate = refl; count = refl; awake = refl; searches = refl; ones = refl; none = refl })

all_rxd : rxd_in (hearing e) r ≡ levels_from 0 308
unfolding low_bits stretched
all_rxd = plain_rxd_holds (hearing e) r (omega (arith, r_low))

asked_of : Asked e
asked_of =
    record {
      frame = one_begins;
      played = played;
      on = ap RE ready.control;
      awake = ready.awake;
      rate = ap (λ (s : Sci). SCBR s.sccr0) at_past ∙ sym (ap SCBR ready.rate);
      same = ap (λ (s : Sci). settings s.sccr1) at_past ∙ sym (ap settings ready.control);
      searches = ready.searches;
      ones = ready.ones;
      no_receive_flag = ready.none;
      sender_stays = (asked_same, (filled_same, (tt, tt)));
      receiver_stays =
          (request_stays r ready.control ready.awake, (tt, (tt, (tt, (tt, (tt, (tt, (tt, (tt, (tt, tt))))))))));
      wire =
          subst (λ (os : List Outputs). Carries os (rxd_in (hearing e) r)) (sym shown_all)
          (subst (Carries (clock_outputs 308 true (held filled 0) ++ [])) (sym all_rxd)
          (carries 308 0 true (held filled 0) filled_on (omega arith)));
      whole =
          ap (λ (xs : List Bool). length xs + r.sci.prescaler) all_rxd ∙ ap (λ (k : ℕ). 308 + k) ready.count
          ∙ sym (ap (λ (s : Sci). cond (M s.sccr1) 170 154 * (2 * SCBR r.sci.sccr0)) at_past ∙ ap (λ (k : ℕ). 154 * (2 * SCBR k)) ready.rate);
      played' = is_room (run e.meanwhile r) 20 (omega (arith, r_low, run_count e.meanwhile r));
    }

abbrev bits_of_sender : Sci → ℕ
bits_of_sender s =
    let n : ℕ = cond (M s.sccr1) 9 8 in
    let low : ℕ = s.transmitter.scdr % 2 ^ (n - 1) in
    cond (PE s.sccr1) (low + (ones low + digit (PT s.sccr1)) % 2 * 2 ^ (n - 1)) (s.transmitter.scdr % 2 ^ n)

pub can_arrive : CanArrive
can_arrive =
    (e, asked_of, ap bits_of_sender at_past)
