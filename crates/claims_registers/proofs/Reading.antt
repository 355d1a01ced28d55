-- Pins and requests by what a host reads, from the laws of the module's answers. Assumes nothing.
use mathlib.Core.Path.{◌≡◌, refl, sym, ap, subst, ◌∙◌}
use mathlib.Core.Bool.{Bool, true, false, cond}
use Prim.Native.Nat.{ℕ, ◌+◌, ◌-◌, ◌*◌, ◌/◌, ◌%◌, ◌≤◌, ◌<◌}
use native.Mathlib.Nat.{div-one}
use native.Mathlib.Omega.{arith}
use borrow.Author.Tests.{eqb-true, eqb-false}
use Rattle.steps.specs.Bits.{bit}
use Rattle.qsm.specs.model.Map.{decode}
use Rattle.qsm.specs.model.Own.{peek_own, put_own}
use Rattle.qsm.specs.model.Word.{peek, put}
use Rattle.qsm.specs.model.Event.{answer_of, step}
use Rattle.qsm.specs.claims.Registers.{reading, writing}
use Rattle.qsm.specs.claims.StatusFlags.{Half, SCI, QSPI, Flag, half, read_at}
use Rattle.qsm.specs.claims.RequestClauses.{asks, RequestClauses, Shows}
use Rattle.qsm.specs.claims.RequestClauses as clauses
use Rattle.qsm.specs.claims.PinClauses.{SPE, driven, high, PinClauses}
use Rattle.qsm.specs.declared.state.Module.{Module}
use Rattle.qsm.specs.declared.event.Access.TheVariants.{Write}
use Rattle.qsm.specs.declared.event.Event.TheVariants as event
use Rattle.qsm.specs.declared.event.Answer.{Answer}
use Rattle.qsm.proofs.Words.{byte_read}
use Rattle.qsm.proofs.PinClauses.{pins}
use Rattle.qsm.proofs.Requests.{requests}
use Rattle.claims_registers.specs.Formed.{Formed}
use Rattle.claims_registers.specs.Reading.{output, Driven, PortWritten, level_of, vector_of, Requested, ShownBy}
use Rattle.claims_registers.proofs.Masked.{merged_upper, merged_lower}
use Rattle.claims_registers.proofs.Formed.{keeps}
use Rattle.claims_registers.proofs.Lanes.{byte_put}

module _ (m : Module) (f : Formed m) where
  at_04 : (reading m 1 0x04).value ≡ m.qilr
  unfolding decode peek peek_own
  at_04 = byte_read m 0x04 refl ∙ merged_upper m.qilr m.qivr f.QIVR (omega (arith, f.QILR))

  at_05 : (reading m 1 0x05).value ≡ m.qivr
  unfolding decode peek peek_own
  at_05 = byte_read m 0x05 refl ∙ merged_lower m.qilr m.qivr f.QIVR

  at_16 : (reading m 1 0x16).value ≡ m.pqspar
  unfolding decode peek peek_own
  at_16 = byte_read m 0x16 refl ∙ merged_upper m.pqspar m.ddrqs f.DDRQS (omega (arith, f.PQSPAR))

  at_17 : (reading m 1 0x17).value ≡ m.ddrqs
  unfolding decode peek peek_own
  at_17 = byte_read m 0x17 refl ∙ merged_lower m.pqspar m.ddrqs f.DDRQS

  -- From what is read to what is kept, and back.
  kept_16 : (k : ℕ) {b : Bool} → bit k (reading m 1 0x16).value ≡ b → bit k m.pqspar ≡ b
  kept_16 k h = ap (bit k) (sym at_16) ∙ h

  out : (k : ℕ) {b : Bool} → b ≡ bit k m.ddrqs → b ≡ output m k
  out k h = h ∙ ap (bit k) (sym at_17)

  driven_by : (a : Answer) → PinClauses m a → Driven m a
  driven_by a c =
      record {
        port = λ k less off. out k (c.port k less off).0;
        SCK = λ on. (c.clock on).0;
        MISO = λ on h. c.data_in on (kept_16 0 h);
        MOSI = λ on h. out 1 (c.data_out on (kept_16 1 h)).0;
        Pcs = λ i less on h. out (3 + i) (c.selects i less on (kept_16 (3 + i) h)).0;
        rest = λ k less other on h. out k (c.rest k less other on (kept_16 k h)).0;
        TXD = λ sends. (c.sends sends).0;
        silent = λ none. out 7 (c.not_sending none).0;
      }

  level_is : (h : Half) → clauses.level_of m h ≡ level_of m h
  level_is SCI = ap (λ x. x % 8) (sym at_04)
  level_is QSPI = ap (λ x. x / 8 % 8) (sym at_04)

  -- QIVR is odd: its own number for QSPI, one less for SCI.
  even_low : (x : ℕ) → bit 0 x ≡ false → x ≡ x / 2 * 2
  even_low x h =
      let never : x % 2 ≡ 1 → ⊥ = λ e. eqb-false (x / 1 % 2) 1 h (ap (λ y. y % 2) (div-one x) ∙ e) in omega (arith, never)

  odd_low : (x : ℕ) → bit 0 x ≡ true → x ≡ x / 2 * 2 + 1
  odd_low x h = let one : x % 2 ≡ 1 = ap (λ y. y % 2) (sym (div-one x)) ∙ eqb-true (x / 1 % 2) 1 h in omega (arith, one)

  vector_is : (h : Half) (x : ℕ) → x / 2 ≡ m.qivr / 2 → bit 0 x ≡ clauses.low_bit h → x ≡ vector_of m h
  vector_is SCI x half low =
      let here : x ≡ m.qivr - 1 = omega (arith, even_low x low, f.lowest, half) in here ∙ ap (λ y. y - 1) (sym at_05)
  vector_is QSPI x half low =
      let here : x ≡ m.qivr = omega (arith, odd_low x low, f.lowest, half) in here ∙ sym at_05

  requested_by : (a : Answer) → RequestClauses m a → Requested m a
  requested_by a c =
      record {
        higher = λ g h. subst (λ l. l ≤ a.level) (level_is (half g)) (c.higher g h);
        shows =
            λ some.
            let it : (g : Flag) × Shows m a g = c.shows some in (
              it.0,
              record {
                asks = it.1.asking;
                level = it.1.level ∙ level_is (half it.0);
                vector = vector_is (half it.0) a.vector it.1.upper it.1.lowest;
              },
            );
        tie =
            λ g of h same some.
            vector_is QSPI a.vector (c.shows some).1.upper (c.tie g of h (level_is QSPI ∙ same) some);
        none = c.none;
      }

-- A byte written to PORTQS.
module _ (m : Module) (v : ℕ) (f : Formed m) (r : (writing m 1 0x15 v).answer.refusal ≡ 0) where
  abbrev n : Module
  n = (writing m 1 0x15 v).state

  formed : Formed n
  formed = keeps.kept m (event.Access (Write true 1 0x15 v)) f

  port_is : n.portqs ≡ v
  unfolding decode put put_own
  port_is =
      let less : v < 256 = (byte_put m 0x15 v refl r).small in
      let low : v * 257 % 256 ≡ v = omega arith in
      ap (λ (k : Module). k.portqs) (byte_put m 0x15 v refl r).state ∙ low

  inputs_are : n.inputs ≡ m.inputs
  unfolding decode put put_own
  inputs_are = ap (λ (k : Module). k.inputs) (byte_put m 0x15 v refl r).state

  clauses_here : PinClauses n (writing m 1 0x15 v).answer
  clauses_here = pins m (event.Access (Write true 1 0x15 v))

  read_same : (w o : ℕ) → read_at n w o ≡ (reading n w o).value
  unfolding step answer_of
  read_same w o = refl

  level_there : (k : ℕ) → k < 7 → SPE n ≡ false → output n k ≡ true → high (writing m 1 0x15 v).answer k ≡ bit k v
  level_there k less off o =
      (clauses_here.port k less off).1 ((clauses_here.port k less off).0 ∙ ap (bit k) (sym (at_17 n formed)) ∙ o) ∙ ap (bit k) port_is

  reads_by_holds : (k : ℕ) (b : Bool) → k < 7 → SPE n ≡ false → output n k ≡ b →
      bit k (reading n 1 0x15).value ≡ cond b (bit k v) (bit k m.inputs)
  reads_by_holds k true less off o =
      let it : driven (writing m 1 0x15 v).answer k ≡ true = (clauses_here.port k less off).0 ∙ ap (bit k) (sym (at_17 n formed)) ∙ o in
      ap (bit k) (sym (read_same 1 0x15)) ∙ clauses_here.reads k (omega arith)
      ∙ ap (λ b. cond b (high (writing m 1 0x15 v).answer k) (bit k n.inputs)) it ∙ level_there k less off o
  reads_by_holds k false less off o =
      let it : driven (writing m 1 0x15 v).answer k ≡ false = (clauses_here.port k less off).0 ∙ ap (bit k) (sym (at_17 n formed)) ∙ o in
      ap (bit k) (sym (read_same 1 0x15)) ∙ clauses_here.reads k (omega arith)
      ∙ ap (λ b. cond b (high (writing m 1 0x15 v).answer k) (bit k n.inputs)) it ∙ ap (bit k) inputs_are

  port_written : PortWritten m v
  port_written = record { level = level_there; reads = λ k less off. reads_by_holds k (output n k) less off refl }

pub shown_by : ShownBy
shown_by =
    record {
      pins = λ m e f. driven_by (step m e).state (keeps.kept m e f) (step m e).answer (pins m e);
      port = λ m v f r. port_written m v f r;
      requests = λ m e f. requested_by (step m e).state (keeps.kept m e f) (step m e).answer (requests m e);
    }
