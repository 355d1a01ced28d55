-- What the transmitter's part of a sample, and an access, leave of the receiver and its flags.
-- Assumes nothing.
use Prim.Native.Nat.{ℕ, ◌*◌, ◌/◌, ◌%◌, ◌^◌}
use mathlib.Core.Path.{◌≡◌, refl, ap, sym, ◌∙◌}
use mathlib.Core.List.{List}
use mathlib.Core.Bool.{Bool, true, false, false≢true}
use native.Mathlib.Omega.{arith}
use lib.Dec.{eqb}
use Rattle.steps.specs.Bits.{merge}
use Rattle.sci.specs.model.Flags.{receive_flags, transmit_flags}
use Rattle.sci.specs.claims.Members.{member}
use Rattle.sci.specs.model.Status.{fall_seen}
use Rattle.sci.specs.model.Control.{RE, sccr1_bits, settings}
use Rattle.sci.specs.model.Transmitter.{sent}
use Rattle.sci.specs.model.Parts.{with_sleep}
use Rattle.sci.specs.model.Serial.{sccr1_word, with_sccr1, stopped, wrote_sccr1}
use Rattle.sci.specs.claims.Line.{read}
use Rattle.sci.specs.claims.Wire.{Access, read_status, read_data, write_data, write_control, accessed, Same}
use Rattle.sci.specs.declared.status.Status.{Status}
use Rattle.sci.specs.declared.receiver.Received.{Received}
use Rattle.sci.specs.declared.transmitter.Transmitter.{Transmitter}
use Rattle.sci.specs.declared.serial.Sci.{Sci}
use Rattle.sci.proofs.Flagged.{is_set, set_markSeen, fallSeen_keeps, fallSeen_keeps_marked, fallSeen_clear}
use Rattle.sci.proofs.Same.{Receives, set_at, marked_at, same_sent}
use Rattle.sci.proofs.Stages.{Clean, Stage, staged, Rdrf, rdrf_same, rdrf_read}
use Rattle.sci.proofs.Going.{Rested, Going}

-- The receiver's flags don't change in the transmitter's part of a sample.
clean_sent : (t : Transmitter) (s : Status) (c : ℕ) → Clean s → Clean (sent t s c).status
unfolding member
clean_sent t s c h =
    record { pf = keeps 0 refl ∙ h.pf; fe = keeps 1 refl ∙ h.fe; nf = keeps 2 refl ∙ h.nf; or = keeps 3 refl ∙ h.or }
  where
    keeps : (k : ℕ) → Receives k → is_set k (sent t s c).status ≡ is_set k s
    keeps k e = sym (set_at s (sent t s c).status (same_sent t s c) k e)

rdrf_sent : (st : Stage) (t : Transmitter) (s : Status) (c : ℕ) → Rdrf st s → Rdrf st (sent t s c).status
unfolding member
rdrf_sent st t s c h =
    rdrf_same st s (sent t s c).status (sym (set_at s (sent t s c).status (same_sent t s c) 6 refl))
    (sym (marked_at s (sent t s c).status (same_sent t s c) 6 refl)) h

pub rested_sent : (st : Stage) (p : Received) (t : Transmitter) (c : ℕ) → Rested st p →
    Rested st (record { receiver = p.receiver; status = (sent t p.status c).status })
rested_sent st p t c r =
    record {
      searches = r.searches;
      ones = r.ones;
      awake = r.awake;
      clean = clean_sent t p.status c r.clean;
      rdrf = rdrf_sent st t p.status c r.rdrf;
    }

pub going_sent : (n g : ℕ) (line : List Bool) (k : ℕ) (st : Stage) (p : Received) (t : Transmitter) (c : ℕ) → Going n g line k st p →
    Going n g line k st (record { receiver = p.receiver; status = (sent t p.status c).status })
going_sent n g line k st p t c r =
    record {
      hearing = r.hearing;
      clean = clean_sent t p.status c r.clean;
      rdrf = rdrf_sent st t p.status c r.rdrf;
    }

-- What an access does about RDRF.
abbrev pub heeded : Access → Stage → Stage
heeded read_status st = staged (read true false) st
heeded read_data st = staged (read false true) st
heeded (write_data v upper) st = st
heeded (write_control v upper lower) st = st

-- Whatever the access: the receiver stays, and no clear flag rises.
pub record Untouched (a : Access) (s r : Sci) : Type 0 where
  pub receiver : r.receiver ≡ s.receiver
  pub sccr0 : r.sccr0 ≡ s.sccr0
  pub control : settings r.sccr1 ≡ settings s.sccr1
  pub on : RE r.sccr1 ≡ RE s.sccr1
  pub prescaler : r.prescaler ≡ s.prescaler
  pub clear : (k : ℕ) → is_set k s.status ≡ false → is_set k r.status ≡ false
  pub rdrf : (st : Stage) → Rdrf st s.status → Rdrf (heeded a st) r.status

-- RE as it is written is RE as it is kept.
re_kept : (v : ℕ) → RE (sccr1_bits v) ≡ RE v
re_kept v =
    let e : v % 2 ^ 13 / 4 * 4 / 2 ^ 2 % 2 ≡ v / 2 ^ 2 % 2 = omega arith in
    ap (λ (x : ℕ). eqb x 1) e

pub untouched : (s : Sci) (a : Access) → RE s.sccr1 ≡ true → Same s (accessed a s) → Untouched a s (accessed a s)
unfolding accessed wrote_sccr1 member
untouched s read_status on h =
    record {
      receiver = refl;
      sccr0 = refl;
      control = refl;
      on = refl;
      prescaler = refl;
      clear = λ k e. set_markSeen k s.status ∙ e;
      rdrf = λ st h. rdrf_read st true false s.status h;
    }
untouched s read_data on h =
    record {
      receiver = refl;
      sccr0 = refl;
      control = refl;
      on = refl;
      prescaler = refl;
      clear = λ k e. fallSeen_clear k s.status receive_flags e;
      rdrf = λ st h. rdrf_read st false true s.status h;
    }
untouched s (write_data v upper) on h =
    record {
      receiver = refl;
      sccr0 = refl;
      control = refl;
      on = refl;
      prescaler = refl;
      clear = λ k e. fallSeen_clear k s.status transmit_flags e;
      rdrf = λ st h.
          rdrf_same st s.status (fall_seen s.status transmit_flags) (fallSeen_keeps 6 s.status transmit_flags refl)
          (fallSeen_keeps_marked 6 s.status transmit_flags refl) h;
    }
untouched s (write_control v upper lower) on h = go (RE new) refl h
  where
    new : ℕ
    new = merge (sccr1_word s) v upper lower

    go : (b : Bool) → RE new ≡ b → Same s (stopped b (with_sccr1 s new)) → Untouched (write_control v upper lower) s (stopped b (with_sccr1 s new))
    go true e m =
        record {
          receiver = ap (with_sleep s.receiver) m.asleep;
          sccr0 = refl;
          control = m.set;
          on = m.on;
          prescaler = refl;
          clear = λ k z. z;
          rdrf = λ st z. z;
        }
    go false e m = absurd (false≢true (sym e ∙ sym (re_kept new) ∙ m.on ∙ on))
