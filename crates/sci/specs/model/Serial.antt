-- Document 01: the serial half as one state. Its registers after a reset, the prescaler, the accesses, TXD and the request.
use Rattle.std.specs.Prelude.{Bool, true, false, cond, not, ◌&&◌, ◌||◌, ℕ, ◌+◌, ◌*◌, ◌%◌, ◌^◌, min, eqb, leb}
use Rattle.steps.specs.Bits.{merge}
use Rattle.sci.specs.model.Flags.{OR, IDLE, RAF, RDRF, TC, TDRE, flag, receive_flags, transmit_flags}
use Rattle.sci.specs.model.Status.{has, fall, mark_seen, fall_seen}
use Rattle.sci.specs.model.Control.{SCBR, TIE, TCIE, RIE, ILIE, TE, RE, RWU, sccr0_bits, sccr1_bits, settings}
use Rattle.sci.specs.model.Parts.{with_status, with_data, with_receiver, with_sleep, with_preamble, after_sent, after_received}
use Rattle.sci.specs.model.Framer.{searching}
use Rattle.sci.specs.model.Receiver.{start_state, outcome, received}
use Rattle.sci.specs.model.Account.{counting}
use Rattle.sci.specs.model.Transmitter.{runs, level, sent}
use Rattle.sci.specs.declared.serial.Sci.{Sci}

-- Values after a reset: SCCR0 0004, SCCR1 0000, SCSR 0180, SCDR 0 on both sides, its noise figure 0; nothing seen, no frame counted.
abbrev pub reset_sci : Sci
reset_sci =
    record {
      sccr0 = 4;
      sccr1 = 0;
      status = record { flags = transmit_flags; seen = flag 0 };
      prescaler = 0;
      receiver =
          record {
            framer = searching;
            last1 = false;
            last2 = false;
            last3 = false;
            idle = 0;
            since = false;
            asleep = false;
            scdr = 0;
            noise = 0;
          };
      transmitter = record { scdr = 0; preamble = false; shift = 0; left = 0 };
      account = record { taken = 0; lost = 0 };
    }

-- TE or RE is set, or a frame or preamble runs: the prescaler runs and the settings are guarded (the paper's word).
abbrev pub active : Sci → Bool
active s = TE s.sccr1 || RE s.sccr1 || runs s.transmitter

-- One sample every 2 x SCBR clocks; none if SCBR is 0.
abbrev pub due : Sci → Bool
due s = not (eqb (2 * SCBR s.sccr0) 0) && leb (2 * SCBR s.sccr0) (s.prescaler + 1)

abbrev pub heard : Bool → Sci → Bool → Sci
heard true s x =
    after_received s (received s.receiver s.status s.sccr1 x)
    (counting s.account (outcome s.receiver s.status s.sccr1 x))
heard false s x = s

-- On a sample, transmitter before receiver.
unfoldable pub sampled : Sci → Bool → Sci
sampled s x = heard (RE s.sccr1) (after_sent s (sent s.transmitter s.status s.sccr1)) x

-- (Only with SCBR 0, where no sample comes, can the count get to 65,535.)
abbrev pub counted : Sci → Sci
counted s =
    record {
      sccr0 = s.sccr0;
      sccr1 = s.sccr1;
      status = s.status;
      prescaler = min 65535 (s.prescaler + 1);
      receiver = s.receiver;
      transmitter = s.transmitter;
      account = s.account;
    }

abbrev pub prescaled : Bool → Sci → Bool → Sci
prescaled true s x = sampled s x
prescaled false s x = counted s

-- One system clock: the prescaler keeps still while TE and RE are both clear and no frame or preamble runs.
unfoldable pub clocked : Sci → Bool → Sci
clocked s x = cond (active s) (prescaled (due s) s x) s

-- SCCR1 as it is read, RWU with it.
abbrev pub sccr1_word : Sci → ℕ
sccr1_word s = cond s.receiver.asleep (sccr1_bits s.sccr1 + 2) (sccr1_bits s.sccr1)

-- SCSR as it is read: its nine flags.
abbrev pub scsr_word : Sci → ℕ
scsr_word s = s.status.flags.bits % 2 ^ 9

-- SCDR as it is read: the receiver's side, nine bits.
abbrev pub scdr_word : Sci → ℕ
scdr_word s = s.receiver.scdr % 2 ^ 9

-- A read of either byte of SCSR.
abbrev pub status_read : Sci → Sci
status_read s = with_status s (mark_seen s.status)

-- A read of SCDR's low byte or word: the receive flags that are set and seen fall.
abbrev pub data_read : Sci → Sci
data_read s = with_status s (fall_seen s.status receive_flags)

-- A low-byte write keeps bit 8. TDRE and TC fall if seen.
abbrev pub loaded : Sci → ℕ → Bool → Sci
loaded s v upper =
    with_status (with_data s (merge s.transmitter.scdr v upper true % 512)) (fall_seen s.status transmit_flags)

-- A write of SCDR's upper byte alone does nothing.
abbrev pub data_written : Bool → Sci → ℕ → Bool → Sci
data_written lower s v upper = cond lower (loaded s v upper) s

abbrev pub with_sccr0 : Sci → ℕ → Sci
with_sccr0 s v =
    record {
      sccr0 = v;
      sccr1 = s.sccr1;
      status = s.status;
      prescaler = 0;
      receiver = s.receiver;
      transmitter = s.transmitter;
      account = s.account;
    }

abbrev pub sccr0_set : Bool → Sci → ℕ → Sci
sccr0_set same s v = cond same s (with_sccr0 s v)

-- A changed SCCR0 restarts the prescaler.
unfoldable pub wrote_sccr0 : Sci → ℕ → Bool → Bool → Sci
wrote_sccr0 s v upper lower =
    let new : ℕ = sccr0_bits (merge s.sccr0 v upper lower) in
    sccr0_set (eqb new s.sccr0) s new

-- RE clear puts the receiver in its start state, RAF 0; the other flags stay.
abbrev pub stopped : Bool → Sci → Sci
stopped true s = s
stopped false s = with_receiver s (start_state s.receiver) (fall s.status RAF)

-- TE rising queues a preamble; TE falling forgets it.
abbrev pub with_sccr1 : Sci → ℕ → Sci
with_sccr1 s v =
    record {
      sccr0 = s.sccr0;
      sccr1 = sccr1_bits v;
      status = s.status;
      prescaler = s.prescaler;
      receiver = with_sleep s.receiver (RWU v);
      transmitter = with_preamble s.transmitter (TE v && (s.transmitter.preamble || not (TE s.sccr1)));
      account = s.account;
    }

unfoldable pub wrote_sccr1 : Sci → ℕ → Bool → Bool → Sci
wrote_sccr1 s v upper lower =
    let new : ℕ = merge (sccr1_word s) v upper lower in
    stopped (RE new) (with_sccr1 s new)

-- Guarded: a write that changes SCCR0, or ILT, PT, PE, M, WAKE, while the serial half is active.
unfoldable pub sccr0_guarded : Sci → ℕ → Bool → Bool → Bool
sccr0_guarded s v upper lower =
    active s && not (eqb (sccr0_bits (merge s.sccr0 v upper lower)) (sccr0_bits s.sccr0))

unfoldable pub sccr1_guarded : Sci → ℕ → Bool → Bool → Bool
sccr1_guarded s v upper lower =
    active s && not (eqb (settings (merge s.sccr1 v upper lower)) (settings s.sccr1))

-- TXD is driven while TE is set or a frame or preamble runs.
abbrev pub txd_driven : Sci → Bool
txd_driven s = TE s.sccr1 || runs s.transmitter

abbrev pub txd : Sci → Bool
txd s = level s.transmitter

-- SCI asks on TDRE and TIE, TC and TCIE, RDRF or OR and RIE, IDLE and ILIE.
abbrev pub asks : Sci → Bool
asks s =
    (has s.status TDRE && TIE s.sccr1) || (has s.status TC && TCIE s.sccr1)
    || ((has s.status RDRF || has s.status OR) && RIE s.sccr1) || (has s.status IDLE && ILIE s.sccr1)
