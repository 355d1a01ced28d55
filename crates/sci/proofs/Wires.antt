-- Two serial halves clock by clock: each word sent arrives, whatever the counts of the prescalers.
-- Assumes nothing.
use Prim.Native.Nat.{ℕ, suc, ◌*◌, ◌%◌, ◌^◌, ◌<◌}
use mathlib.Core.Path.{◌≡◌, refl, ap, sym, subst, ◌∙◌}
use mathlib.Core.List.{List, [], ◌∷◌, ◌++◌}
use mathlib.Core.Bool.{Bool, true, false, ◌&&◌, true≢false}
use native.Mathlib.Omega.{arith}
use Rattle.sci.specs.model.Control.{SCBR, PT, PE, M, RE, bits_of, settings}
use Rattle.sci.specs.model.Bits.{parity_bit}
use Rattle.sci.specs.model.Serial.{clocked, txd}
use Rattle.sci.specs.claims.Levels.{low_bits, value, end_sample}
use Rattle.sci.specs.claims.Line.{Op}
use Rattle.sci.specs.claims.Link.{data_bits, InScdr}
use Rattle.sci.specs.claims.Wire.{Wired, Unchanged, Step, clock, step, steps, reads_of, hearing, Matched, Rests, Begins, Frame, begun, ended, period, width, Sends, Received, Arrives, Waits, Word, AllSent, AllRead, AllReceived, ArriveInTurn}
use Rattle.sci.specs.declared.serial.Sci.{Sci}
use Rattle.sci.proofs.Sending.{value_low}
use Rattle.sci.proofs.Stages.{Stage, waiting, free, staged, stages}
use Rattle.sci.proofs.Flagged.{has_flag}
use Rattle.sci.proofs.Going.{Rested, start}
use Rattle.sci.proofs.Arriving.{no_error}
use Rattle.sci.proofs.Linked.{same_M, same_PE, same_PT, parity_link, clean, stages_free}
use Rattle.sci.proofs.Train.{both}
use Rattle.sci.proofs.Sampling.{samples, sample_leaves}
use Rattle.sci.proofs.Sender.{begins_free, begins_active, SenderAt, sender_begins}
use Rattle.sci.proofs.Timing.{ReceiverAt}
use Rattle.sci.proofs.Waiting.{WaitingAt, count_small}
use Rattle.sci.proofs.Stops.{Stops, sent_stops, clock_stops, steps_stop, free_one}
use Rattle.sci.proofs.Registers.{Registers, clock_registers, clock_on}
use Rattle.sci.proofs.Unchanged.{goes_on, joined, keeps, keeps_receiver, keeps_on}
use Rattle.sci.proofs.Pace.{due_rate}
use Rattle.sci.proofs.Paired.{Both, Last, run, Ended, ends_well}

-- The same rate and settings, and the receiver searching after three ones; what is read of the word before, by the stage.
record Meets (st : Stage) (q : Wired) : Type 0 where
  rate : SCBR q.sender.sccr0 ≡ SCBR q.receiver.sccr0
  same : settings q.sender.sccr1 ≡ settings q.receiver.sccr1
  on : RE q.receiver.sccr1 ≡ true
  rested : Rested st (hearing q.receiver)

-- A frame that begins, from when it has begun on.
module _ (st : Stage) (q : Wired) (f : Frame) (d : Sends f q) (m : Meets st (begun f q)) where
  -- The sender's SCCR1, the receiver's, and the word.
  abbrev c₁ : ℕ
  c₁ = q.sender.sccr1

  abbrev c₂ : ℕ
  c₂ = (begun f q).receiver.sccr1

  abbrev w : ℕ
  w = data_bits c₁ q.sender.transmitter.scdr

  abbrev line : List Bool
  line = low_bits (bits_of (M c₂)) w

  fixed : Registers q.sender (begun f q).sender
  unfolding step
  fixed = clock_registers q.sender f.first

  fixed_receiver : Registers q.receiver (begun f q).receiver
  unfolding step
  fixed_receiver = clock_registers q.receiver (txd q.sender)

  same : settings c₁ ≡ settings c₂
  same = sym fixed.control ∙ m.same

  positive : 0 < period q
  positive = due_rate q.sender d.begins.sample

  same_n : width q ≡ bits_of (M c₂)
  same_n = ap bits_of (same_M c₁ c₂ same)

  same_P : 2 * SCBR (begun f q).receiver.sccr0 ≡ period q
  same_P = ap (λ (v : ℕ). 2 * v) (sym m.rate ∙ ap SCBR fixed.sccr0)

  sends : SenderAt (bits_of (M c₂)) w 0 (period q) 0 (begun f q).sender
  unfolding step
  sends =
      subst (λ (n : ℕ). SenderAt n w 0 (period q) 0 (clocked q.sender f.first)) same_n
      (sender_begins q.sender f.first d.begins.sample d.begins.frame)

  abbrev v : ℕ
  v = (begun f q).receiver.prescaler

  small : v < period q
  unfolding step
  small =
      let e : 2 * SCBR q.receiver.sccr0 ≡ period q = ap (λ (k : ℕ). 2 * SCBR k) (sym fixed_receiver.sccr0) ∙ same_P in
      subst (λ (P : ℕ). v < P) e
      (count_small q.receiver (txd q.sender) (sym (clock_on q.receiver (txd q.sender)) ∙ m.on) (omega (arith, e, positive)))

  hears : ReceiverAt c₂ 0 line st 0 (period q) v (begun f q).receiver
  hears =
      record {
        going = start (bits_of (M c₂)) 0 line st (hearing (begun f q).receiver) m.rested;
        control = refl;
        on = m.on;
        rate = same_P;
        count = refl;
      }

  word : value line ≡ w % 2 ^ width q
  word = value_low (bits_of (M c₂)) w ∙ ap (λ (n : ℕ). w % 2 ^ n) (sym same_n)

  even : PE c₂ && parity_bit (PT c₂) (value line) ≡ false
  even = rw (← same_PE c₁ c₂ same, ← same_PT c₁ c₂ same, word) (parity_link c₁ q.sender.transmitter.scdr)

  set_off : Both c₂ 0 w (period q) v st 0 (begun f q)
  set_off =
      record {
        sender = record { k = 0; p = 0; at = sends; small = positive; time = omega arith };
        receiver = record { k = 0; p = v; at = hears; small = small; time = omega arith };
      }

  at_last : Last c₂ 0 w (period q) v small (stages (reads_of f.later) st) (steps f.later (begun f q))
  at_last =
      let e : suc (end_sample (width q)) * period q ≡ suc (end_sample (bits_of (M c₂))) * period q =
      ap (λ (n : ℕ). suc (end_sample n) * period q) same_n in
      run c₂ 0 w (period q) v small f.later st (begun f q) 0 d.unchanged set_off (omega (arith, d.last, e))

  module _ (seen : stages (reads_of f.later) st ≡ free) where
    all_well : Ended c₂ 0 w (period q) v small (steps f.later (begun f q))
    all_well =
        ends_well c₂ 0 w (period q) v small (stages (reads_of f.later) st) (steps f.later (begun f q)) at_last seen even

    arrived : Received f q
    unfolding step
    arrived = subst (λ (x : ℕ). InScdr x (hearing (ended f q).receiver)) word all_well.word

    again : Meets waiting (ended f q)
    unfolding step
    again =
        let z : Wired = steps f.later (begun f q) in
        let s : Registers (begun f q).sender (ended f q).sender =
        joined (keeps f.later (begun f q) d.unchanged) (clock_registers z.sender f.last) in
        let r : Registers (begun f q).receiver (ended f q).receiver =
        joined (keeps_receiver f.later (begun f q) d.unchanged) (clock_registers z.receiver (txd z.sender)) in
        record {
          rate = ap SCBR s.sccr0 ∙ m.rate ∙ sym (ap SCBR r.sccr0);
          same = s.control ∙ m.same ∙ sym r.control;
          on = clock_on z.receiver (txd z.sender) ∙ keeps_on f.later (begun f q) d.unchanged ∙ m.on;
          rested = all_well.rested;
        }

-- What runs then ends with a one.
begun_stops : (f : Frame) (q : Wired) → Begins q → Stops (begun f q).sender.transmitter
unfolding step
begun_stops f q b =
    subst Stops
    (sym (ap (λ (s : Sci). s.transmitter) (samples q.sender f.first (begins_active q.sender b.frame) b.sample)
    ∙ (sample_leaves q.sender f.first).transmitter))
    (sent_stops q.sender.transmitter q.sender.status q.sender.sccr1 (λ e. absurd (true≢false (sym b.frame ∙ e))))

ended_stops : (f : Frame) (q : Wired) → Stops (begun f q).sender.transmitter → Stops (ended f q).sender.transmitter
unfolding step
ended_stops f q h = clock_stops (steps f.later (begun f q)).sender f.last (steps_stop f.later (begun f q) h)

-- A pause at one, and the clock at which the next frame begins.
paused : (st : Stage) (es : List Step) (q : Wired) → Meets st q → Unchanged es q → Rests es q → Meets (stages (reads_of es) st) (steps es q)
paused st es q m un r =
    let h : WaitingAt q.receiver.sccr1 q.receiver (stages (reads_of es) st) (steps es q).receiver =
    goes_on q.receiver.sccr1 q.receiver es st q un r
    (record { rested = m.rested; on = m.on; control = refl; rate = refl }) in
    let s : Registers q.sender (steps es q).sender = keeps es q un in
    record {
      rate = ap SCBR s.sccr0 ∙ m.rate ∙ sym (ap SCBR h.rate);
      same = s.control ∙ m.same ∙ sym h.control;
      on = h.on;
      rested = h.rested;
    }

set_out : (st : Stage) (f : Frame) (q : Wired) → Begins q → Stops q.sender.transmitter → Meets st q → Meets st (begun f q)
unfolding steps Unchanged Rests reads_of stages
set_out st f q b h m =
    paused st (clock f.first ∷ []) q m tt (free_one q.sender.transmitter h (begins_free q.sender b.frame), tt)

meets : (q : Wired) → Matched q → Meets free q
meets q m =
    record {
      rate = m.rate;
      same = m.same;
      on = m.on;
      rested =
          record {
            searches = m.searches;
            ones = m.ones;
            awake = m.awake;
            clean = clean q.receiver.status m.errors;
            rdrf = sym (has_flag 6 q.receiver.status) ∙ m.rdrf;
          };
    }

matched : (q : Wired) → Meets free q → Matched q
matched q m =
    record {
      rate = m.rate;
      same = m.same;
      on = m.on;
      awake = m.rested.awake;
      searches = m.rested.searches;
      ones = m.rested.ones;
      rdrf = has_flag 6 q.receiver.status ∙ m.rested.rdrf;
      errors = no_error q.receiver.status m.rested.clean;
    }

stages_append : (xs ys : List Op) (st : Stage) → stages (xs ++ ys) st ≡ stages ys (stages xs st)
unfolding stages
stages_append [] ys st = refl
stages_append (e ∷ xs) ys st = stages_append xs ys (staged e st)

pub arrives : Arrives
arrives q f d m = arrived free q f d (meets (begun f q) m) (stages_free (reads_of f.later))

pub waits : Waits
waits q es m un r =
    matched (steps es q) (subst (λ (st : Stage). Meets st (steps es q)) (stages_free (reads_of es)) (paused free es q (meets q m) un r))

in_turn : (us : List Word) (q : Wired) → Stops q.sender.transmitter → Meets waiting q → AllSent us q → AllRead us → AllReceived us q
unfolding AllSent AllRead AllReceived
in_turn [] q h m d r = tt
in_turn (u ∷ us) q h m d r =
    let z : Wired = steps u.idle q in
    let st : Stage = stages (reads_of u.idle) waiting in
    let k : Stops z.sender.transmitter = steps_stop u.idle q h in
    let n : Meets st (begun u.frame z) =
    set_out st u.frame z d.0.sends.begins k (paused waiting u.idle q m d.0.unchanged d.0.rests) in
    let e : stages (reads_of u.frame.later) st ≡ free =
    sym (stages_append (reads_of u.idle) (reads_of u.frame.later) waiting) ∙ both (reads_of u.idle ++ reads_of u.frame.later) r.0 in (
      arrived st z u.frame d.0.sends n e,
      in_turn us (ended u.frame z) (ended_stops u.frame z (begun_stops u.frame z d.0.sends.begins))
          (again st z u.frame d.0.sends n e) d.1 r.1,
    )

pub arrive_in_turn : ArriveInTurn
arrive_in_turn q f us d m s r =
    let e : stages (reads_of f.later) free ≡ free = stages_free (reads_of f.later) in
    let n : Meets free (begun f q) = meets (begun f q) m in (
      arrived free q f d n e,
      in_turn us (ended f q) (ended_stops f q (begun_stops f q d.begins)) (again free q f d n e) s r,
    )
