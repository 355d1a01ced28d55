-- The two writes that set a receiver up, as a replay plays them from reset on, and what they leave. Assumes nothing.
use mathlib.Core.Path.{◌≡◌, refl, ap, sym, subst, ◌∙◌}
use mathlib.Core.Bool.{Bool, true, false, cond, ◌&&◌, false≢true}
use mathlib.Core.List.{List, [], ◌∷◌, ◌++◌}
use Prim.Native.Nat.{ℕ, ◌+◌, ◌*◌, ◌/◌, ◌%◌, ◌^◌, ◌<◌}
use native.Mathlib.Omega.{arith}
use lib.Dec.{eqb, ltb}
use lib.ListN.{length, length-append, drop}
use borrow.Author.Tests.{lt-ltb, eqb-true}
use Rattle.steps.specs.Iterate.{iterate}
use Rattle.steps.specs.Bits.{merge}
use Rattle.sci.specs.model.Status.{has}
use Rattle.sci.specs.model.Control.{RE, PE, sccr0_bits}
use Rattle.sci.specs.model.Framer.{searching}
use Rattle.sci.specs.model.Serial.{reset_sci, with_sccr0, with_sccr1, sccr0_set, wrote_sccr0, wrote_sccr1, sccr0_guarded, sccr1_guarded}
use Rattle.sci.specs.claims.Members.{member}
use Rattle.qsm.specs.model.State.{reset_module, with_sci}
use Rattle.qsm.specs.model.Map.{decode}
use Rattle.qsm.specs.model.Lanes.{in_map, touches}
use Rattle.qsm.specs.model.Serial.{put_serial, serial_unmodelled, serial_guarded}
use Rattle.qsm.specs.model.Word.{put, unmodelled, guarded}
use Rattle.qsm.specs.model.Access.{store, stored}
use Rattle.qsm.specs.model.Decision.{permits, tested, shaped, admitted, stored_by, decide_stored}
use Rattle.qsm.specs.model.Event.{write_decided, writes, does}
use Rattle.qsm.specs.declared.state.Module.{Module}
use Rattle.qsm.specs.declared.event.Access.{Access}
use Rattle.qsm.specs.declared.event.Access.TheVariants.{Write}
use Rattle.qsm.specs.declared.event.Event.{Event}
use Rattle.qsm.specs.declared.event.Event.TheVariants as event
use Rattle.trace.specs.Trace.{write_kind}
use Rattle.tool_lines.specs.Schedule.{Act, plays, reaches, stopped, followed, Scheduled, next, scheduled}
use Rattle.tool_lines.proofs.Schedules.{unroll}
use Rattle.tool_assemble.specs.Encode.{record_bytes}
use Rattle.claims_assembling.specs.Laws.{Fits}
use Rattle.claims_assembling.proofs.Records.{bytes_give_back}
use Rattle.claims_histories.specs.History.{after, run}
use Rattle.claims_polling.specs.Rule.{waiting}
use Rattle.claims_lines.proofs.Slots.{slot_of, empty}
use Rattle.claims_senders.specs.Undamaged.{Undamaged}
use Rattle.claims_through.specs.Through.{bits_in}
use Rattle.claims_text.specs.Through.{rate, enable}
use Rattle.claims_text.proofs.Held.{drop_first}

-- ---- what they leave

abbrev rated : ℕ → Module
rated c = with_sci reset_module (with_sccr0 reset_sci c)

abbrev opened : ℕ → Module
opened c = with_sci reset_module (with_sccr1 (with_sccr0 reset_sci c) 4)

set_is : (v : ℕ) → sccr0_set (eqb v 4) reset_sci v ≡ with_sccr0 reset_sci v
set_is v = go (eqb v 4) refl
  where
    go : (b : Bool) → eqb v 4 ≡ b → sccr0_set b reset_sci v ≡ with_sccr0 reset_sci v
    go true e = subst (λ (z : ℕ). reset_sci ≡ with_sccr0 reset_sci z) (sym (eqb-true v 4 e)) refl
    go false e = refl

same_word : (c : ℕ) → c < 2 ^ 13 → sccr0_bits (merge 4 (c % 0x10000 * 0x10000 / 0x10000) true true) ≡ c
same_word c h =
    let a : c % 0x10000 * 0x10000 / 0x10000 ≡ c = omega arith in
    let b : c / 256 % 256 * 256 + c % 256 ≡ c = omega arith in
    let d : c % 2 ^ 13 ≡ c = omega arith in
    ap (λ (v : ℕ). sccr0_bits (merge 4 v true true)) a ∙ ap sccr0_bits b ∙ d

rate_written : (c : ℕ) → c < 2 ^ 13 → after (rate c) reset_module ≡ rated c
unfolding does writes stored_by decide_stored admitted in_map decode stored store iterate put put_serial wrote_sccr0 unmodelled serial_unmodelled guarded serial_guarded sccr0_guarded reset_module
rate_written c h =
    go (ltb c 0x10000) (lt-ltb c 0x10000 (omega (arith, h))) ∙ ap (λ (v : ℕ). with_sci reset_module (sccr0_set (eqb v 4) reset_sci v)) (same_word c h)
    ∙ ap (with_sci reset_module) (set_is c)
  where
    go : (b : Bool) → b ≡ true →
        (write_decided (tested (admitted reset_module b true 2 8) (permits (admitted reset_module b true 2 8)) (stored_by reset_module 2 8 c).unmodelled (stored_by reset_module 2 8 c).guarded)
        reset_module (stored_by reset_module 2 8 c)).state
        ≡ with_sci reset_module (sccr0_set (eqb (sccr0_bits (merge 4 (c % 0x10000 * 0x10000 / 0x10000) true true)) 4) reset_sci (sccr0_bits (merge 4 (c % 0x10000 * 0x10000 / 0x10000) true true)))
    go true e = refl
    go false e = absurd (false≢true e)

re_written : (c : ℕ) → after enable (rated c) ≡ opened c
unfolding does writes stored_by decide_stored admitted in_map decode stored store iterate put put_serial wrote_sccr1 unmodelled serial_unmodelled guarded serial_guarded sccr1_guarded reset_module
re_written c = refl

abbrev pub set_up : ℕ → List Event
set_up c = rate c ∷ (enable ∷ [])

-- On, awake and searching, with nothing in SCDR.
pub record Started (c : ℕ) (m : Module) : Type 0 where
  pub on : RE m.sci.sccr1 ≡ true
  pub awake : m.sci.receiver.asleep ≡ false
  pub searches : m.sci.receiver.framer ≡ searching
  pub clear : waiting m ≡ false
  pub undamaged : Undamaged m.sci
  pub clock : m.clock ≡ 0
  pub rate : m.sci.sccr0 ≡ c
  pub bits : bits_in m ≡ 8
  pub parity : PE m.sci.sccr1 ≡ false
  pub slot : slot_of m.sci ≡ empty 0

opened_so : (c : ℕ) → Started c (opened c)
unfolding reset_module has member
opened_so c =
    record {
      on = refl;
      awake = refl;
      searches = refl;
      clear = refl;
      undamaged = record { nf = refl; fe = refl; pf = refl; figure = refl };
      clock = refl;
      rate = refl;
      bits = refl;
      parity = refl;
      slot = refl;
    }

pub started_so : (c : ℕ) → c < 2 ^ 13 → Started c (run (set_up c) reset_module)
unfolding run
started_so c h = subst (Started c) (sym (ap (after enable) (rate_written c h) ∙ re_written c)) (opened_so c)

-- ---- what a replay plays of them

write_next : (on : ℕ → ℕ → Scheduled) (since clock : ℕ) (a : Access) (o : Bool) → o ≡ false →
    (cond (eqb (cond o 3 0) 0) (followed (plays (event.Access a) ∷ []) (on since clock)) (stopped (cond o 3 0))).acts
    ≡ plays (event.Access a) ∷ (on since clock).acts
write_next on since clock a o e = rw e refl

write_acts : (period since clock offset v : ℕ) (t : List ℕ) → offset < 65536 → v < 2 ^ 32 → reaches (Write true 2 offset v) ≡ false →
    (scheduled period since clock (record_bytes write_kind (event.Access (Write true 2 offset v)) ++ t)).acts
    ≡ plays (event.Access (Write true 2 offset v)) ∷ (scheduled period since clock t).acts
write_acts period since clock offset v t o w quiet =
    let e : Event = event.Access (Write true 2 offset v) in
    let x : List ℕ = record_bytes write_kind e in
    let fits : Fits write_kind e = (refl, omega arith, o, w) in
    let front : 0 < length x = omega arith in
    let some : 0 < length (x ++ t) = omega (arith, length-append x t, front) in
    ap (λ (z : Scheduled). z.acts)
    (unroll period since clock (x ++ t) some ∙ ap (next (scheduled period) period since clock (x ++ t)) (bytes_give_back write_kind e t fits).0)
    ∙ write_next (λ passed now. scheduled period passed now (drop (length x) (x ++ t))) since clock (Write true 2 offset v) (reaches (Write true 2 offset v)) quiet
    ∙ ap (λ (u : List ℕ). plays e ∷ (scheduled period since clock u).acts) (drop_first x t)

rate_quiet : (c : ℕ) → reaches (Write true 2 0x08 c) ≡ false
unfolding in_map decode
rate_quiet c = go (ltb c 0x10000)
  where
    go : (b : Bool) → shaped 2 0x08 && b && in_map 2 0x08 && touches 0x0C 4 2 0x08 ≡ false
    go true = refl
    go false = refl

enable_quiet : reaches (Write true 2 0x0A 4) ≡ false
unfolding in_map decode
enable_quiet = refl

pub set_up_acts : (period c : ℕ) (t : List ℕ) → c < 2 ^ 13 →
    (scheduled period 0 0 (record_bytes write_kind (rate c) ++ (record_bytes write_kind enable ++ t))).acts
    ≡ plays (rate c) ∷ (plays enable ∷ (scheduled period 0 0 t).acts)
set_up_acts period c t h =
    write_acts period 0 0 0x08 c (record_bytes write_kind enable ++ t) (omega arith) (omega (arith, h)) (rate_quiet c)
    ∙ ap (λ (xs : List Act). plays (rate c) ∷ xs) (write_acts period 0 0 0x0A 4 t (omega arith) (omega arith) enable_quiet)
