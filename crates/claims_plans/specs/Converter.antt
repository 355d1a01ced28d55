-- Document 02, L10: what a converter on the pins makes of a plan: a shift register of an entry's bits, clocked by SCK as CPHA and CPOL say,
-- behind a chip select, holds the set-point's word when the entry is over.
use Rattle.std.specs.Prelude.{◌≡◌, Bool, true, false, cond, not, ◌&&◌, List, ℕ, zero, suc, ◌+◌, ◌*◌, ◌%◌, ◌^◌, ◌≤◌, ◌<◌}
use Rattle.steps.specs.Bits.{bit, digit}
use Rattle.qspi.specs.model.Fields.{cpol, cpha}
use Rattle.qsm.specs.model.Event.{answer_of}
use Rattle.qsm.specs.claims.PinClauses.{assigned, high}
use Rattle.qsm.specs.declared.state.Module.{Module}
use Rattle.qsm.specs.declared.event.Answer.{Answer}
use Rattle.qsm.specs.declared.event.Event.{Event}
use Rattle.tool_plan.specs.Check.{select_no, bits_no, word_no}
use Rattle.tool_plan.specs.Running.{start_of, edge_no}
use Rattle.tool_plan.specs.declared.SetPoints.{SetPoints}
use Rattle.tool_plan.specs.declared.Plan.{Plan}
use Rattle.claims_plans.specs.Watching.{clocks_in, Watched}
use Rattle.claims_plans.specs.Moments.{moment}

-- A converter: its chip select, how many bits its register has, and the SCK that it is made for.
pub record Converter : Type 0 where
  pub select : ℕ
  pub bits : ℕ
  pub polarity : Bool
  pub phase : Bool

abbrev pub same : Bool → Bool → Bool
same a b = cond a b (not b)

-- The four PCS pins show its chip select.
abbrev pub chosen : ℕ → Answer → Bool
chosen v a =
    same (high a 3) (bit 0 v) && (same (high a 4) (bit 1 v) && (same (high a 5) (bit 2 v) && same (high a 6) (bit 3 v)))

-- SCK at rest: the level of CPOL.
abbrev pub at_rest : Converter → Answer → Bool
at_rest v a = same (high a 2) v.polarity

-- From one clock to the next SCK leaves its rest, which is the edge that reads with CPHA=0, or comes back to it, with CPHA=1.
abbrev pub reads : Converter → Answer → Answer → Bool
reads v before now = cond v.phase (not (at_rest v before) && at_rest v now) (at_rest v before && not (at_rest v now))

-- What is read at the edge: with CPHA=0 the pins in its clock, with CPHA=1 as they stood in the clock before, since at the queue's last edge SPE
-- falls and the pins go back to PORTQS.
abbrev pub at_edge : Converter → Answer → Answer → Answer
at_edge v before now = cond v.phase before now

-- Each reading edge under its chip select shifts MOSI in below the bits before.
abbrev pub shifted : Converter → Answer → Answer → ℕ → ℕ
shifted v before now r =
    cond (reads v before now && chosen v.select (at_edge v before now)) ((r * 2 + digit (high (at_edge v before now) 1)) % 2 ^ v.bits) r

-- The register after c clocks, whatever it held at first.
unfoldable pub holds_at : Converter → (ℕ → Answer) → ℕ → ℕ → ℕ
holds_at v pins r zero = r
holds_at v pins r (suc c) = shifted v (pins c) (pins (suc c)) (holds_at v pins r c)

-- The converter for set-point k.
abbrev pub converter_for : SetPoints → Plan → ℕ → Converter
converter_for s p k =
    record { select = select_no s k; bits = bits_no s k; polarity = cpol p.spcr0; phase = cpha p.spcr0 }

-- The pins clock by clock, as answers show them.
abbrev pub pins_at : Module → List Event → ℕ → Answer
pins_at m es c = answer_of (moment m es c) 0 0

-- The PCS are assigned outputs.
pub record Wired (m : Module) : Type 0 where
  pub assigned : (i : ℕ) → i < 4 → assigned m (3 + i) ≡ true
  pub output : (i : ℕ) → i < 4 → bit (3 + i) m.ddrqs ≡ true

-- With SPE clear, SCK is at CPOL: PORTQS has it so, or it isn't driven and CPOL is 0.
abbrev pub Parked : Plan → Module → Type 0
Parked p m = cond (bit 2 m.ddrqs) (bit 2 m.portqs) false ≡ cpol p.spcr0

-- From edge 2n of entry k on, until a later entry with its select begins, or for good if none does, its converter holds the set-point's word,
-- whatever the host reads and whatever the register held at first. (Only of the last entry's last edge with CPHA=1 is more asked: that SCK
-- comes to rest as SPE falls.)
abbrev pub Holds : SetPoints → Plan → Module → Type 0
Holds s p m =
    (es : List Event) (k r c : ℕ) → Watched m es → k < s.count → (cpha p.spcr0 ≡ true → suc k ≡ s.count → Parked p m) →
    edge_no p k (bits_no s k * 2) ≤ c → c ≤ clocks_in es →
    ((j : ℕ) → k < j → j < s.count → start_of p j < c → select_no s j ≡ select_no s k → ⊥) →
    holds_at (converter_for s p k) (pins_at m es) r c ≡ word_no s k
