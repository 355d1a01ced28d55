-- Document 01: the clauses on the register map, on RE and TE, on the prescaler and on the request, in any state of the serial half.
use Rattle.std.specs.Prelude.{Bool, true, false, cond, ◌&&◌, ◌||◌, List, [], ◌∷◌, ◌≡◌, ℕ, zero, suc, ◌*◌, ◌%◌, ◌^◌, ◌<◌}
use Rattle.steps.specs.Bits.{bit}
use Rattle.steps.specs.Iterate.{iterate}
use Rattle.sci.specs.model.Flags.{PF, FE, NF, OR, IDLE, RAF, RDRF, TC, TDRE, flag}
use Rattle.sci.specs.claims.Members.{member}
use Rattle.sci.specs.model.Status.{has}
use Rattle.sci.specs.model.Control.{SCBR, ILT, PT, PE, M, WAKE, TIE, TCIE, RIE, ILIE, TE, RE, RWU}
use Rattle.sci.specs.model.Transmitter.{runs}
use Rattle.sci.specs.model.Serial.{reset_sci, active, sampled, clocked, sccr1_word, scsr_word, wrote_sccr0, wrote_sccr1, asks}
use Rattle.sci.specs.quick.Quiet.{with_count}
use Rattle.sci.specs.claims.Wire.{Access, accessed}
use Rattle.sci.specs.declared.flags.Flags.{Flags}
use Rattle.sci.specs.declared.serial.Sci.{Sci}

-- Bits k to 1 of a word, the highest first; and flags k to 0.
unfoldable pub bits_down : ℕ → ℕ → List Bool
bits_down zero w = []
bits_down (suc k) w = bit (suc k) w ∷ bits_down k w

unfoldable pub flags_down : ℕ → List Flags
flags_down zero = flag 1 ∷ []
flags_down (suc k) = flag (2 ^ suc k) ∷ flags_down k

-- The register map: the fields of SCCR1 from bit 12 down, and the flags of SCSR from bit 8 down.
pub record Mapped : Type 0 where
  pub sccr1 : (c : ℕ) →
      ILT c ∷ PT c ∷ PE c ∷ M c ∷ WAKE c ∷ TIE c ∷ TCIE c ∷ RIE c ∷ ILIE c ∷ TE c ∷ RE c ∷ RWU c ∷ [] ≡ bits_down 12 c
  pub scsr : TDRE ∷ TC ∷ RDRF ∷ RAF ∷ IDLE ∷ OR ∷ NF ∷ FE ∷ PF ∷ [] ≡ flags_down 8

-- A write that leaves RE clear: searching, no ones seen, count 0, no frame since, RAF 0; the other flags and SCDR stay.
pub record Stopped (s r : Sci) : Type 0 where
  pub searching : r.receiver.framer.framing ≡ false
  pub no_ones : r.receiver.last1 || r.receiver.last2 || r.receiver.last3 ≡ false
  pub count : r.receiver.idle ≡ 0
  pub since : r.receiver.since ≡ false
  pub raf : has r.status RAF ≡ false
  pub others : (k : ℕ) → (k ≡ 5 → ⊥) → member k r.status.flags ≡ member k s.status.flags
  pub scdr : r.receiver.scdr ≡ s.receiver.scdr

abbrev pub REStops : Type 0
REStops =
    (s : Sci) (v : ℕ) (upper lower : Bool) → RE (wrote_sccr1 s v upper lower).sccr1 ≡ false → Stopped s (wrote_sccr1 s v upper lower)

-- A write of SCCR1's low byte puts RWU, with RE clear too; one of the other byte leaves it.
abbrev pub Sleeps : Type 0
Sleeps =
    (s : Sci) (v : ℕ) (upper lower : Bool) →
    (wrote_sccr1 s v upper lower).receiver.asleep ≡ cond lower (bit 1 v) s.receiver.asleep

-- A write of SCCR1 and the transmitter: TE rising queues a preamble; TE falling forgets it, and lets what runs finish.
pub record Queued (s r : Sci) : Type 0 where
  pub rises : TE s.sccr1 ≡ false → TE r.sccr1 ≡ true → r.transmitter.preamble ≡ true
  pub stays : TE s.sccr1 ≡ true → TE r.sccr1 ≡ true → r.transmitter.preamble ≡ s.transmitter.preamble
  pub falls : TE r.sccr1 ≡ false → r.transmitter.preamble ≡ false
  pub left : r.transmitter.left ≡ s.transmitter.left
  pub shift : r.transmitter.shift ≡ s.transmitter.shift
  pub scdr : r.transmitter.scdr ≡ s.transmitter.scdr

-- A changed SCCR0 restarts the prescaler; one that is as it was leaves all as it was, whatever is written to bits that don't exist.
pub record Restarts (s : Sci) : Type 0 where
  pub changed : (v : ℕ) (upper lower : Bool) → ((wrote_sccr0 s v upper lower).sccr0 ≡ s.sccr0 → ⊥) →
      (wrote_sccr0 s v upper lower).prescaler ≡ 0
  pub kept : (v : ℕ) (upper lower : Bool) → (wrote_sccr0 s v upper lower).sccr0 ≡ s.sccr0 → wrote_sccr0 s v upper lower ≡ s
  pub same : (v : ℕ) → v % 2 ^ 13 ≡ s.sccr0 → wrote_sccr0 s v true true ≡ s
  -- Reads of SCSR and SCDR and writes of SCDR and SCCR1 don't touch it.
  pub others : (a : Access) → (accessed a s).prescaler ≡ s.prescaler

-- One sample every 2 x SCBR clocks, the first that long after the prescaler restarts; none if SCBR is 0. It keeps still while TE and RE are
-- both clear and no frame or preamble runs.
pub record Paced (s : Sci) (x : Bool) : Type 0 where
  pub before : active s ≡ true → s.prescaler ≡ 0 → (k : ℕ) → k < 2 * SCBR s.sccr0 →
      iterate k (λ (c : Sci). clocked c x) s ≡ with_count s k
  pub sample : active s ≡ true → s.prescaler ≡ 0 → 0 < SCBR s.sccr0 →
      iterate (2 * SCBR s.sccr0) (λ (c : Sci). clocked c x) s ≡ sampled s x
  pub none : SCBR s.sccr0 ≡ 0 → clocked s x ≡ with_count s (clocked s x).prescaler
  pub still : TE s.sccr1 ≡ false → RE s.sccr1 ≡ false → runs s.transmitter ≡ false → clocked s x ≡ s

-- What asks: a flag by its bit of SCSR, with its enable by its bit of SCCR1.
pub record Source : Type 0 where
  pub flag : ℕ
  pub enable : ℕ

abbrev pub source : ℕ → ℕ → Source
source f e = record { flag = f; enable = e }

-- TDRE and TIE, TC and TCIE, RDRF and RIE, OR and RIE, IDLE and ILIE.
abbrev pub sources : List Source
sources = source 8 7 ∷ source 7 6 ∷ source 6 5 ∷ source 3 5 ∷ source 4 4 ∷ []

-- Both bits of one of them are set.
unfoldable pub some_set : List Source → ℕ → ℕ → Bool
some_set [] scsr sccr1 = false
some_set (p ∷ ps) scsr sccr1 = (bit p.flag scsr && bit p.enable sccr1) || some_set ps scsr sccr1

pub record SerialClauses : Type 0 where
  pub mapped : Mapped
  pub stops : REStops
  pub sleeps : Sleeps
  pub queued : (s : Sci) (v : ℕ) (upper lower : Bool) → Queued s (wrote_sccr1 s v upper lower)
  pub restarts : (s : Sci) → Restarts s
  pub reset : reset_sci.prescaler ≡ 0
  pub paced : (s : Sci) (x : Bool) → Paced s x
  -- SCI asks where one does, each by itself, by what SCSR and SCCR1 read.
  pub request : (s : Sci) → asks s ≡ some_set sources (scsr_word s) (sccr1_word s)
