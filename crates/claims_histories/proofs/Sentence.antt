-- Demand 2's sentence, of two modules and their lists of events.
use mathlib.Core.Path.{◌≡◌, refl, ap, sym, subst, ◌∙◌}
use mathlib.Core.Bool.{Bool, true, false, cond, ◌&&◌}
use mathlib.Core.List.{List, [], ◌∷◌, ◌++◌, append-nil}
use Prim.Native.Nat.{ℕ, suc, ◌+◌, ◌*◌, ◌%◌, ◌^◌, ◌<◌}
use native.Mathlib.Omega.{arith}
use lib.ListN.{length, replicate, length-append, length-replicate}
use Rattle.steps.specs.Bits.{bit}
use Rattle.sci.specs.model.Flags.{RDRF, flag}
use Rattle.sci.specs.model.Status.{has}
use Rattle.sci.specs.model.Control.{SCBR, PT, PE, M, bits_of}
use Rattle.sci.specs.model.Bits.{parity_bit}
use Rattle.sci.specs.claims.Levels.{low_bits, value, end_sample}
use Rattle.sci.specs.claims.Line.{shown}
use Rattle.sci.specs.claims.Link.{data_bits}
use Rattle.sci.specs.model.Serial.{clocked}
use Rattle.sci.specs.claims.History as half
use Rattle.sci.specs.claims.Wire as wire
use Rattle.sci.specs.claims.Overrun.{Mark, word_came}
use Rattle.sci.specs.declared.serial.Sci.{Sci}
use Rattle.sci.proofs.Flagged.{is_set, has_flag}
use Rattle.sci.proofs.Sending.{value_low}
use Rattle.sci.proofs.Stages.{free}
use Rattle.sci.proofs.Going.{Rested, start}
use Rattle.sci.proofs.Linked.{same_M, same_PE, same_PT, parity_link}
use Rattle.sci.proofs.Sender.{SenderAt, sender_begins}
use Rattle.sci.proofs.Pace.{due_rate, SenderOn}
use Rattle.sci.proofs.History.{clocks}
use Rattle.qsm.specs.model.Event.{held}
use Rattle.qsm.specs.declared.state.Module.{Module}
use Rattle.claims_histories.specs.History.{after, run, clock_marks, log}
use Rattle.claims_histories.specs.Sentence.{rxd_in, Exchange, sender, starts, receiver, ends, hearing, ended, width, lastSample, bitsSent, Asked, word_marks, Arrived, Sentence}
use Rattle.claims_histories.proofs.Follows.{follows}
use Rattle.claims_histories.proofs.Joined.{hold_half}
use Rattle.claims_histories.proofs.Carried.{Shows, carried}
use Rattle.claims_histories.proofs.Marking.{words_append, fits}
use Rattle.claims_histories.proofs.Hears.{Hearing, Went, events_quiet}
use Rattle.claims_histories.proofs.Enters.{Came, clocks_end}
use Rattle.claims_histories.proofs.CountSmall.{since_small}
use Rattle.claims_histories.proofs.Fetching.{reads}
use Rattle.claims_histories.proofs.SentBits.{clear_at, rdrf_alone, data_sent_holds, last_sample, few}
use Rattle.claims_histories.proofs.Appended.{run_after, rxd_after, log_after}

module _ (h : Exchange) (a : Asked h) where
  abbrev m : Module
  m = sender h

  abbrev b : Module
  b = after (starts h) m

  abbrev r : Module
  r = receiver h

  abbrev z : Module
  z = run h.meanwhile r

  abbrev c₁ : ℕ
  c₁ = m.sci.sccr1

  abbrev c₂ : ℕ
  c₂ = r.sci.sccr1

  abbrev n : ℕ
  n = bits_of (M c₂)

  abbrev w : ℕ
  w = data_bits c₁ m.sci.transmitter.scdr

  abbrev P : ℕ
  P = 2 * SCBR m.sci.sccr0

  abbrev v : ℕ
  v = r.sci.prescaler

  abbrev j : ℕ
  j = h.more

  abbrev x : Bool
  x = h.rxd'

  positive : 0 < P
  positive = due_rate m.sci a.frame.sample

  same_n : width h ≡ n
  same_n = ap bits_of (same_M c₁ c₂ a.same)

  same_P : 2 * SCBR r.sci.sccr0 ≡ P
  same_P = ap (λ (k : ℕ). 2 * k) (sym a.rate)

  near : v < P
  near = subst (λ (k : ℕ). v < k) same_P (since_small h.past' (omega (arith, positive, same_P)))

  -- The frame has begun.
  begun : SenderOn n w P 0 b.sci
  begun =
      record {
        k = 0;
        p = 0;
        at =
            subst (λ (s : Sci). SenderAt n w 0 P 0 s) (sym (hold_half h.pins h.rxd m a.played))
            (subst (λ (i : ℕ). SenderAt i w 0 P 0 (clocked m.sci h.rxd)) same_n
            (sender_begins m.sci h.rxd a.frame.sample a.frame.frame));
        small = positive;
        time = omega arith;
      }

  clear : (k : ℕ) → bit k 95 ≡ true → bit k 0 ≡ false → is_set k r.sci.status ≡ false
  clear k = clear_at r.sci.status a.no_receive_flag k

  rested : Rested free (wire.hearing r.sci)
  rested =
      record {
        searches = a.searches;
        ones = a.ones;
        awake = a.awake;
        clean = record { pf = clear 0 refl refl; fe = clear 1 refl refl; nf = clear 2 refl refl; or = clear 3 refl refl };
        rdrf = clear 6 refl refl;
      }

  ready : Hearing c₂ w P v near r.sci.receiver.idle 0 r.sci
  ready =
      record {
        on =
            record {
              k = 0;
              p = v;
              at =
                  record {
                    going = start n 0 (low_bits n w) free (wire.hearing r.sci) rested;
                    control = refl;
                    on = a.on;
                    rate = same_P;
                    count = refl;
                  };
              small = near;
              time = omega arith;
            };
        counting =
            record {
              idle = clear 4 refl refl;
              early = λ e. omega arith;
              late = λ e. absurd (omega arith);
            };
      }

  -- RXD to the frame's end.
  last_rxd : rxd_in (ends h ∷ []) z ≡ replicate (suc j) x
  unfolding rxd_in
  last_rxd = ap (λ (c : Bool). replicate (cond c 0 (suc j)) x ++ []) a.played' ∙ append-nil (replicate (suc j) x)

  all_rxd : rxd_in (hearing h) r ≡ rxd_in h.meanwhile r ++ replicate (suc j) x
  all_rxd = rxd_after h.meanwhile (ends h ∷ []) r ∙ ap (λ (l : List Bool). rxd_in h.meanwhile r ++ l) last_rxd

  abbrev T : ℕ
  T = length (rxd_in (hearing h) r)

  whole : T + v ≡ suc (end_sample n) * P
  whole =
      a.whole ∙ ap (λ (k : ℕ). lastSample h * k) same_P ∙ ap (λ (k : ℕ). k * P) (last_sample (M c₁))
      ∙ ap (λ (i : ℕ). suc (end_sample i) * P) same_n

  levels : Shows n w P 0 (rxd_in h.meanwhile r ++ replicate (suc j) x)
  levels =
      subst (Shows n w P 0) all_rxd
      (carried n w P T (few v T n P whole positive) h.sending b
      (rxd_in (hearing h) r) 0 begun a.sender_stays (omega arith) a.wire)

  clocks_all : length (rxd_in h.meanwhile r) + suc j ≡ T
  clocks_all =
      ap (λ (k : ℕ). length (rxd_in h.meanwhile r) + k) (sym (length-replicate (suc j) x))
      ∙ sym (length-append (rxd_in h.meanwhile r) (replicate (suc j) x)) ∙ ap length (sym all_rxd)

  went : Went c₂ w P v near r.sci.receiver.idle (log h.meanwhile r) 0 (length (rxd_in h.meanwhile r)) z.sci (replicate (suc j) x)
  went =
      events_quiet c₂ w P v near r.sci.receiver.idle h.meanwhile r (replicate (suc j) x) 0 ready a.receiver_stays levels
      (omega (arith, clocks_all, whole))

  word : value (low_bits n w) ≡ w % 2 ^ width h
  word = value_low n w ∙ ap (λ (i : ℕ). w % 2 ^ i) (sym same_n)

  sent_word : value (low_bits n w) ≡ bitsSent h
  sent_word = word ∙ data_sent_holds (M c₁) (PE c₁) (PT c₁) m.sci.transmitter.scdr

  even : PE c₂ && parity_bit (PT c₂) (value (low_bits n w)) ≡ false
  even = rw (← same_PE c₁ c₂ a.same, ← same_PT c₁ c₂ a.same, word) (parity_link c₁ m.sci.transmitter.scdr)

  came : Came c₂ w P v near r.sci.receiver.idle (clock_marks (suc j) x (held z h.pins')) (half.run (clocks (suc j) x) z.sci)
  came =
      clocks_end c₂ w P v near r.sci.receiver.idle even j x (held z h.pins') went.u went.hearing went.later
      (omega (arith, went.time, clocks_all, whole))

  at_end_holds : (ended h).sci ≡ half.run (clocks (suc j) x) z.sci
  unfolding run
  at_end_holds =
      ap (λ (q : Module). q.sci) (run_after h.meanwhile (ends h ∷ []) r) ∙ follows (ends h) z
      ∙ ap (λ (c : Bool). half.run (clocks (cond c 0 (suc j)) x) z.sci) a.played'

  last_log : log (ends h ∷ []) z ≡ clock_marks (suc j) x (held z h.pins') ++ []
  unfolding log
  last_log = ap (λ (c : Bool). clock_marks (cond c 0 (suc j)) x (held z h.pins') ++ []) a.played'

  rdrf : has (ended h).sci.status RDRF ≡ true
  rdrf = ap (λ (s : Sci). has s.status RDRF) at_end_holds ∙ came.delivered.rdrf

  scdr : (ended h).sci.receiver.scdr ≡ bitsSent h
  scdr = ap (λ (s : Sci). s.receiver.scdr) at_end_holds ∙ came.delivered.word ∙ sent_word

  -- A flag at the end.
  is_clear : (k : ℕ) → has (half.run (clocks (suc j) x) z.sci).status (flag (2 ^ k)) ≡ false → is_set k (ended h).sci.status ≡ false
  is_clear k e =
      ap (λ (s : Sci). is_set k s.status) at_end_holds ∙ sym (has_flag k (half.run (clocks (suc j) x) z.sci).status) ∙ e

  alone : shown (ended h).sci.status ≡ RDRF
  alone =
      rdrf_alone (ended h).sci.status (is_clear 0 came.delivered.errors.pf) (is_clear 1 came.delivered.errors.fe)
      (is_clear 2 came.delivered.errors.nf) (is_clear 3 came.delivered.errors.or)
      (ap (λ (s : Sci). is_set 4 s.status) at_end_holds ∙ came.idle) (sym (has_flag 6 (ended h).sci.status) ∙ rdrf)

  pub arrived : Arrived h
  arrived =
      record {
        word = scdr;
        flags = alone;
        noise = ap (λ (s : Sci). s.receiver.noise) at_end_holds ∙ came.noise;
        alone =
            ap word_marks (log_after h.meanwhile (ends h ∷ []) r) ∙ words_append (log h.meanwhile r) (log (ends h ∷ []) z)
            ∙ ap (λ (l : List Mark). l ++ word_marks (log (ends h ∷ []) z)) went.quiet ∙ ap word_marks last_log
            ∙ words_append (clock_marks (suc j) x (held z h.pins')) [] ∙ ap (λ (l : List Mark). l ++ []) came.marks
            ∙ ap (λ (k : ℕ). word_came k ∷ []) sent_word;
        reads = λ supervisor supervisor' e e'.
            reads (ended h) supervisor supervisor' e e' (bitsSent h)
            (subst (λ (k : ℕ). k % 512 ≡ k) sent_word (fits (M c₂) w)) scdr alone rdrf;
      }

pub sentence : Sentence
sentence h a = arrived h a
