-- The laws of the pins, each from the sets of pins. Assumes nothing.
use mathlib.Core.Path.{◌≡◌, sym, ap, ◌∙◌}
use mathlib.Core.Bool.{Bool, true, false, cond, ◌||◌}
use Prim.Native.Nat.{ℕ, ◌+◌, ◌*◌, ◌/◌, ◌%◌, ◌<◌}
use native.Mathlib.Omega.{arith}
use borrow.Author.Tests.{ne_eqb}
use Rattle.steps.specs.Bits.{bit}
use Rattle.sci.specs.model.Transmitter.{runs}
use Rattle.sci.specs.model.Serial.{txd, txd_driven}
use Rattle.sci.proofs.Membership.{bit_of_or, bit_of_and, bit_less}
use Rattle.qspi.specs.model.Outputs.{sck, pcs}
use Rattle.qspi.specs.model.Outputs as queue
use Rattle.qsm.specs.model.Pins.{outputs, mask, owned, own_levels, levels, portqs_read}
use Rattle.qsm.specs.model.Event.{answer_of, does, step}
use Rattle.qsm.specs.claims.StatusFlags.{read_at}
use Rattle.qsm.specs.claims.PinClauses.{SPE, transmitting, mosi, PinClauses}
use Rattle.qsm.specs.declared.state.Module.{Module}
use Rattle.qsm.specs.declared.event.Event.{Event}
use Rattle.qsm.specs.declared.pins.Outputs.{Outputs}
use Rattle.qsm.proofs.Booleans.{constants, bit_if, low_bit}
use Rattle.qsm.proofs.Reading.{spcr1_read, portqs_read_holds}
use Rattle.qsm.proofs.StatusFlags.{controls}
use Rattle.qsm.proofs.PinOwners.{port_level, own_level, undriven_level, read_level, below_7, below_8, not_sck, Select, select}

-- ---- which pins are driven, and which are the halves'

module _ (o : Outputs) where
  port_off : (k : ℕ) → k < 7 → o.spe ≡ false → (bit k (mask o) ≡ bit k o.ddrqs) × (bit k (owned o) ≡ false)
  unfolding mask owned
  port_off k less off = (
    simp (off, bit_of_or k, bit_less k, bit_if k, below_7 k less, constants),
    simp (off, bit_of_or k, bit_if k, below_7 k less, constants),
  )

  port_rest : (k : ℕ) → k < 7 → (k ≡ 2 → ⊥) → o.spe ≡ true → bit k o.pqspar ≡ false →
      (bit k (mask o) ≡ bit k o.ddrqs) × (bit k (owned o) ≡ false)
  unfolding mask owned
  port_rest k less not-2 on free = (
    simp (on, bit_of_or k, bit_less k, bit_of_and k, bit_if k, free, below_7 k less, not_sck k less not-2, constants),
    simp (on, bit_of_or k, bit_of_and k, bit_if k, free, below_7 k less, not_sck k less not-2, constants),
  )

  port_txd : o.driving ≡ false → (bit 7 (mask o) ≡ bit 7 o.ddrqs) × (bit 7 (owned o) ≡ false)
  unfolding mask owned
  port_txd off = (
    simp (off, bit_of_or 7, bit_less 7, bit_of_and 7, bit_if 7, constants),
    simp (off, bit_of_or 7, bit_of_and 7, bit_if 7, constants),
  )

  sent_txd : o.driving ≡ true → (bit 7 (mask o) ≡ true) × (bit 7 (owned o) ≡ true)
  unfolding mask owned
  sent_txd on = (simp (on, bit_of_or 7, constants), simp (on, bit_of_or 7, constants))

  queue_sck : o.spe ≡ true → (bit 2 (mask o) ≡ true) × (bit 2 (owned o) ≡ true)
  unfolding mask owned
  queue_sck on = (simp (on, bit_of_or 2, constants), simp (on, bit_of_or 2, constants))

  queue_mosi : o.spe ≡ true → bit 1 o.pqspar ≡ true →
      (bit 1 (mask o) ≡ bit 1 o.ddrqs) × (bit 1 (owned o) ≡ true)
  unfolding mask owned
  queue_mosi on mine = (
    simp (on, bit_of_or 1, bit_less 1, bit_of_and 1, bit_if 1, constants),
    simp (on, bit_of_or 1, bit_of_and 1, mine),
  )

  queue_pcs : (i : ℕ) → Select i → o.spe ≡ true → bit (3 + i) o.pqspar ≡ true →
      (bit (3 + i) (mask o) ≡ bit (3 + i) o.ddrqs) × (bit (3 + i) (owned o) ≡ true)
  unfolding mask owned
  queue_pcs i s on mine = (
    simp (on, bit_of_or (3 + i), bit_less (3 + i), bit_of_and (3 + i), bit_if (3 + i), s.no_miso, s.no_sck, s.no_txd, constants),
    simp (on, bit_of_or (3 + i), bit_of_and (3 + i), mine, s.group),
  )

  miso_free : o.spe ≡ true → bit 0 o.pqspar ≡ true → bit 0 (mask o) ≡ false
  unfolding mask
  miso_free on mine = simp (on, bit_of_or 0, bit_less 0, bit_of_and 0, bit_if 0, mine, constants)

  -- ---- what the halves put out

  sck_level : bit 2 (own_levels o) ≡ o.sck
  unfolding own_levels
  sck_level = simp (bit_of_or 2, bit_if 2, ne_eqb (o.pcs % 16 * 8 / 4 % 2) 1 (λ e. omega arith), constants)

  mosi_level : bit 1 (own_levels o) ≡ o.mosi
  unfolding own_levels
  mosi_level = simp (bit_of_or 1, bit_if 1, ne_eqb (o.pcs % 16 * 8 / 2 % 2) 1 (λ e. omega arith), constants)

  pcs_level : (i : ℕ) → Select i → bit (3 + i) (own_levels o) ≡ bit i o.pcs
  unfolding own_levels
  pcs_level i s =
      simp (bit_of_or (3 + i), bit_if (3 + i), s.no_mosi, s.no_sck, s.no_txd, s.value o.pcs, constants)

  txd_level : bit 7 (own_levels o) ≡ o.txd
  unfolding own_levels
  txd_level = simp (bit_of_or 7, bit_if 7, ne_eqb (o.pcs % 16 * 8 / 128 % 2) 1 (λ e. omega arith), constants)

-- ---- the laws

module _ (m : Module) where
  abbrev o : Outputs
  o = outputs m

  spe_is : (b : Bool) → SPE m ≡ b → queue.enabled m.qspi ≡ b
  spe_is b h = sym (ap (bit 15) (spcr1_read m)) ∙ h

  driving_is : (b : Bool) → transmitting m ≡ b → txd_driven m.sci ≡ b
  driving_is b h = sym (ap (λ (x : Bool). x || runs m.sci.transmitter) (controls m).4) ∙ h

  resting : runs m.sci.transmitter ≡ false → txd m.sci ≡ true
  resting h = rw h

  read_is : (k : ℕ) → k < 8 →
      bit k (read_at m 1 0x15) ≡ cond (bit k (mask o)) (bit k (levels o)) (bit k m.inputs)
  read_is k less =
      ap (bit k) (portqs_read_holds m) ∙ low_bit k 8 (portqs_read o m.inputs) (below_8 k less)
      ∙ read_level o k m.inputs

  -- What the port rules, from which pins it drives and owns; and what a half owns.
  ruled : (k : ℕ) → (bit k (mask o) ≡ bit k m.ddrqs) × (bit k (owned o) ≡ false) →
      (bit k (mask o) ≡ bit k m.ddrqs) × (bit k (mask o) ≡ true → bit k (levels o) ≡ bit k m.portqs)
  ruled k h = (h.0, port_level o k h.1)

  put_out : (k : ℕ) (x : Bool) → (bit k (mask o) ≡ bit k m.ddrqs) × (bit k (owned o) ≡ true) →
      bit k (own_levels o) ≡ x → (bit k (mask o) ≡ bit k m.ddrqs) × (bit k (mask o) ≡ true → bit k (levels o) ≡ x)
  put_out k x h e = (h.0, λ g. own_level o k h.1 g ∙ e)

  driven_at : (k : ℕ) (x : Bool) → (bit k (mask o) ≡ true) × (bit k (owned o) ≡ true) →
      bit k (own_levels o) ≡ x → (bit k (mask o) ≡ true) × (bit k (levels o) ≡ x)
  driven_at k x h e = (h.0, own_level o k h.1 h.0 ∙ e)

  shown : (refusal value : ℕ) → PinClauses m (answer_of m refusal value)
  unfolding answer_of
  shown refusal v =
      record {
        port = λ k less off. ruled k (port_off o k less (spe_is false off));
        clock = λ on. driven_at 2 (sck m.qspi) (queue_sck o (spe_is true on)) (sck_level o);
        data_out = λ on mine. put_out 1 (mosi m.qspi) (queue_mosi o (spe_is true on) mine) (mosi_level o);
        selects =
            λ i less on mine. put_out (3 + i) (bit i (pcs m.qspi m.portqs)) (queue_pcs o i (select i less) (spe_is true on) mine)
            (pcs_level o i (select i less));
        data_in = λ on mine. miso_free o (spe_is true on) mine;
        rest = λ k less not-2 on free. ruled k (port_rest o k less not-2 (spe_is true on) free);
        sends = λ on. driven_at 7 (txd m.sci) (sent_txd o (driving_is true on)) (txd_level o);
        rests = λ on quiet. (driven_at 7 (txd m.sci) (sent_txd o (driving_is true on)) (txd_level o)).1 ∙ resting quiet;
        not_sending = λ off. ruled 7 (port_txd o (driving_is false off));
        undriven = λ k h. undriven_level o k h;
        reads = read_is;
      }

pub pins : (m : Module) (e : Event) → PinClauses (step m e).state (step m e).answer
unfolding step
pins m e = shown (does m e).state (does m e).refusal (does m e).value
