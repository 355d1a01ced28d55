-- Document 02, L10: an accepted plan does what it says, whoever made it: of the module's own events, the writes that load it and then holds,
-- however the clocks are split into holds.
use Rattle.std.specs.Prelude.{◌≡◌, Bool, true, false, cond, not, ℕ, suc, ◌+◌, ◌-◌, ◌*◌, ◌%◌, ◌^◌, ◌≤◌, ◌<◌, eqb, ltb, leb, length, get_or}
use mathlib.Core.List.{List, [], ◌∷◌, foldl}
use Rattle.steps.specs.Bits.{bit}
use Rattle.qspi.specs.model.Fields.{cpol, cpha, spbr, spe, halt, pre_delay}
use Rattle.qspi.specs.model.Queue.{selected}
use Rattle.qspi.specs.claims.Run.{edge_at}
use Rattle.qsm.specs.model.Event.{answer_of, clock_limit, does}
use Rattle.qsm.specs.claims.PinClauses.{assigned, DrivenAt, OutputAt}
use Rattle.qsm.specs.declared.state.Module.{Module}
use Rattle.qsm.specs.declared.event.Event.{Event}
use Rattle.qsm.specs.declared.event.Event.TheVariants.{Hold}
use Rattle.tool_plan.specs.Check.{select_no, bits_no, word_no, command_no, clock_before, accepts}
use Rattle.tool_plan.specs.Loading.{loading}
use Rattle.tool_plan.specs.declared.SetPoints.{SetPoints}
use Rattle.tool_plan.specs.declared.Plan.{Plan}

-- Each event gets the module that the last one left.
abbrev pub played : List Event → Module → Module
played es m = foldl (λ (k : Module) (e : Event). (does k e).state) m es

-- A hold: pin levels, an RXD level and a number of clocks.
pub record Span : Type 0 where
  pub pins : ℕ
  pub rxd : Bool
  pub clocks : ℕ

abbrev pub holding : List Span → List Event
holding [] = []
holding (h ∷ hs) = Hold h.pins h.rxd h.clocks ∷ holding hs

abbrev pub total : List Span → ℕ
total [] = 0
total (h ∷ hs) = h.clocks + total hs

-- Loaded, and run.
abbrev pub ran : Plan → Module → List Span → Module
ran p m hs = played (holding hs) (played (loading p) m)

-- Without mode fault: PQS3 is not an assigned input at low.
abbrev pub NoFault : Module → List Span → Type 0
NoFault m [] = Unit {0}
NoFault m (h ∷ hs) =
    (selected (record { levels = h.pins; pqspar = m.pqspar; ddrqs = m.ddrqs }) ≡ false) × NoFault m hs

-- The module before: SPE, SPIF and HALT clear, MOSI an assigned output; the queue RAM as its type has it, sixteen words and bytes.
pub record Ready (m : Module) : Type 0 where
  pub off : spe m.qspi.registers.spcr1 ≡ false
  pub low : m.qspi.spsr.flags.spif ≡ false
  pub goes : halt m.qspi.registers.spcr3 ≡ false
  pub mosi_assigned : assigned m 1 ≡ true
  pub mosi_output : bit 1 m.ddrqs ≡ true
  pub words : length m.qspi.ram.transmit ≡ 16
  pub commands : length m.qspi.ram.commands ≡ 16
  pub bytes : (i : ℕ) → get_or m.qspi.ram.commands i 0 < 256

-- A plan as its type has it: words of sixteen bits and bytes.
pub record Sized (p : Plan) : Type 0 where
  pub spcr0 : p.spcr0 < 2 ^ 16
  pub spcr1 : p.spcr1 < 2 ^ 16
  pub spcr2 : p.spcr2 < 2 ^ 16
  pub commands : (k : ℕ) → command_no p k < 256

-- The clock of edge j of entry k, counted from the first entry's clock 1; 'edge 0' is the end of the clock before the entry's.
abbrev pub start_of : Plan → ℕ → ℕ
start_of p k = clock_before p.spcr0 p.spcr1 p.commands k

abbrev pub edge_no : Plan → ℕ → ℕ → ℕ
edge_no p k j = start_of p k + edge_at (pre_delay p.spcr0 p.spcr1 (command_no p k)) (spbr p.spcr0) j

-- After c clocks j edges of entry k have fallen and the next hasn't.
pub record Within (p : Plan) (k j c : ℕ) : Type 0 where
  pub begun : start_of p k < c
  pub fallen : edge_no p k j ≤ c
  pub next : c < edge_no p k (suc j)

-- The clock in which bit i of entry k is read by the other side: with CPHA=0 that of odd edges, with CPHA=1 the one before that of even edges,
-- since at the queue's last edge SPE falls and the pin goes back to PORTQS.
abbrev pub read_in : Plan → ℕ → ℕ → ℕ
read_in p k i = cond (cpha p.spcr0) (edge_no p k (i * 2 + 2) - 1) (edge_no p k (i * 2 + 1))

-- The module c clocks after the loading, by its pins as an answer shows them: 1 MOSI, 2 SCK, 3 to 6 PCS0 to PCS3.
pub record Does (s : SetPoints) (p : Plan) (m : Module) (c : ℕ) : Type 0 where
  -- SPIF rises, and SPE falls, at the stated clock and not before.
  pub spif : m.qspi.spsr.flags.spif ≡ leb p.clock c
  pub enabled : spe m.qspi.registers.spcr1 ≡ ltb c p.clock
  -- MOSI shows the set-point's word, highest bit first, where the other side reads it.
  pub sends : (k i : ℕ) → k < s.count → i < bits_no s k → c ≡ read_in p k i →
      DrivenAt (answer_of m 0 0) 1 (bit (bits_no s k - 1 - i) (word_no s k))
  -- SCK turns with each of the 2n edges of its bit count,
  pub clocks : (k j : ℕ) → k < s.count → j < bits_no s k * 2 → Within p k j c →
      DrivenAt (answer_of m 0 0) 2 (cond (eqb (j % 2) 1) (not (cpol p.spcr0)) (cpol p.spcr0))
  -- and rests at CPOL from the last of them to the next entry;
  pub rests : (k : ℕ) → suc k < s.count → edge_no p k (bits_no s k * 2) ≤ c → c ≤ start_of p (suc k) →
      DrivenAt (answer_of m 0 0) 2 (cpol p.spcr0)
  -- the assigned PCS outputs show its select.
  pub selects : (k j i : ℕ) → k < s.count → j < bits_no s k * 2 → Within p k j c → i < 4 → assigned m (3 + i) ≡ true →
      OutputAt m (answer_of m 0 0) (3 + i) (bit i (select_no s k))

-- No hold is refused 10: the module's clocks stay within 2^64 - 1.
abbrev pub Counts : Module → List Span → Type 0
Counts m hs = m.clock + total hs ≤ clock_limit

abbrev pub DoesWhatItSays : Type 0
DoesWhatItSays =
    (s : SetPoints) (window : ℕ) (p : Plan) (m : Module) (hs : List Span) → accepts s window p ≡ true → Sized p → Ready m →
    Counts m hs → NoFault m hs → Does s p (ran p m hs) (total hs)
