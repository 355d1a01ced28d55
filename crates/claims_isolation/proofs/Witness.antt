-- The witness, computed. Assumes nothing.
use mathlib.Core.Path.{◌≡◌, refl, sym, ◌∙◌}
use mathlib.Core.Bool.{Bool, true, false, false≢true}
use mathlib.Core.List.{List, [], ◌∷◌, ◌++◌}
use Prim.Native.Nat.{ℕ, zero, suc, ◌+◌, ◌*◌, ◌<◌}
use native.Mathlib.Omega.{arith}
use Rattle.steps.specs.Iterate.{iterate}
use Rattle.sci.specs.model.Status.{has}
use Rattle.sci.specs.model.Serial.{clocked}
use Rattle.qspi.specs.model.Fields.{bits_of, pre_delay, delay_after}
use Rattle.qspi.specs.model.Registers.{reset, write_spcr1}
use Rattle.qspi.specs.model.Entry.{mosi_after, collected_after}
use Rattle.qspi.specs.model.Queue.{completed, edge, play_clock, delay_clock, start_clock, queue_clock, clock}
use Rattle.qsm.specs.model.State.{reset_module}
use Rattle.qsm.specs.model.Map.{decode}
use Rattle.qsm.specs.model.Lanes.{in_map, is_restricted}
use Rattle.qsm.specs.model.Own.{put_own, own_unmodelled}
use Rattle.qsm.specs.model.Serial.{serial_read}
use Rattle.qsm.specs.model.Queue.{peek_queue, put_queue, queue_unmodelled, queue_guarded, queue_read}
use Rattle.qsm.specs.model.Word.{peek, put, unmodelled, guarded}
use Rattle.qsm.specs.model.Access.{fetch, fetched, store, stored}
use Rattle.qsm.specs.model.Decision.{admitted, decide_read, stored_by, decide_stored}
use Rattle.qsm.specs.model.Request.{request}
use Rattle.qsm.specs.model.Event.{answer_of, clock_module, clocks, held, after_read, read_value, refused, resets, holds, reads, writes}
use Rattle.qsm.specs.model.Event as model
use Rattle.drivers.specs.State.{new_shared, owns}
use Rattle.drivers.specs.Reach.{reaches, allows, admits}
use Rattle.drivers.specs.Reach as reach
use Rattle.drivers.specs.Event.{told, played, refuses, restarted, does, step}
use Rattle.drivers.specs.declared.state.Driver.{Driver}
use Rattle.drivers.specs.declared.state.Driver.TheVariants.{Axis, Spindle}
use Rattle.drivers.specs.declared.state.Shared.{Shared}
use Rattle.drivers.specs.declared.event.Event.{Event}
use Rattle.drivers.specs.declared.event.Event.TheVariants.{Hold, Claim}
use Rattle.claims_isolation.specs.Running.{runs_one_of}
use Rattle.claims_isolation.specs.Twins.{to_transmit, HeldAlike, Twins}
use Rattle.claims_isolation.specs.Twins.Twin.{same, words, levels}
use Rattle.claims_isolation.specs.Witness.{sets, begins, entry_of, other_reads, history, BothMet}

-- The state after a list of events.
abbrev after : List Event → Shared → Shared
after [] d = d
after (e ∷ es) d = after es (step d e).state

-- Lists that are the same are alike, and may go before others.
alike : (who : Driver) (es : List Event) (d : Shared) → Twins who d es es
alike who [] d = tt
alike who (e ∷ es) d = (same e, alike who es (step d e).state)

before : (who : Driver) (past es es' : List Event) (d : Shared) → Twins who (after past d) es es' → Twins who d (past ++ es) (past ++ es')
before who [] es es' d t = t
before who (e ∷ past) es es' d t = (same e, before who past es es' (step d e).state t)

-- Up to the hold in which MISO differs.
abbrev starts : Driver → ℕ → List Event
starts who i = sets who (0x120 + i * 2) 0xA5 ∷ Claim who ∷ sets who 0x1C (0x8000 + i * 0x101) ∷ sets who 0x1A 0x8404 ∷ []

abbrev holding : Driver → ℕ → Shared
holding who i = after (starts who i) (after begins new_shared)

twins : (who : Driver) (i j : ℕ) → to_transmit 2 (0x120 + i * 2) ≡ true → HeldAlike who (holding who i) 0xFF 0xFE true 2 →
    Twins who new_shared (history who i j 0xA5 0xFF) (history who i j 0x3C 0xFE)
twins who i j t h =
    let rest : List Event = Hold 0xFF true 30 ∷ other_reads who i j in
    let d : Shared = (step (holding who i) (Hold 0xFF true 2)).state in
    let from_entry : Twins who (after begins new_shared) (entry_of who i 0xA5 0xFF ++ other_reads who i j) (entry_of who i 0x3C 0xFE ++ other_reads who i j) =
    (words true 2 (0x120 + i * 2) 0xA5 0x3C t, (same _, (same _, (same _, (levels 0xFF 0xFE true 2 h, alike who rest d))))) in
    before who begins (entry_of who i 0xA5 0xFF ++ other_reads who i j) (entry_of who i 0x3C 0xFE ++ other_reads who i j) new_shared from_entry

-- In each of the first two clocks.
two : {P : Type 0} (f : ℕ → Bool) → f 0 ≡ false → f 1 ≡ false → (k : ℕ) → k < 2 → f k ≡ true → P
two f a b zero less h = absurd (false≢true (sym a ∙ h))
two f a b (suc zero) less h = absurd (false≢true (sym b ∙ h))
two f a b (suc (suc k)) less h = absurd (omega arith)

pub met : BothMet
unfolding step does refuses told played restarted new_shared admits allows reaches reach.writes model.step model.does resets holds reads writes refused answer_of request clocks clock_module iterate clock queue_clock start_clock delay_clock play_clock edge completed mosi_after collected_after bits_of pre_delay delay_after reset reset_module clocked has serial_read after_read read_value fetched fetch stored_by stored store decide_stored decide_read admitted in_map is_restricted decode peek put unmodelled guarded put_own own_unmodelled peek_queue put_queue queue_unmodelled queue_guarded queue_read write_spcr1
met =
    record {
      axis =
          record {
            twins =
                twins Axis 0 1 refl
                (record {
                  others = refl;
                  miso = two (λ k. runs_one_of (owns 1 Spindle) (clocks (held (holding Axis 0).qsm 0xFF) true k).qspi) refl refl;
                });
            first = refl;
            second = refl;
            theirs = refl;
            requested = refl;
          };
      spindle =
          record {
            twins =
                twins Spindle 1 0 refl
                (record {
                  others = refl;
                  miso = two (λ k. runs_one_of (owns 1 Axis) (clocks (held (holding Spindle 1).qsm 0xFF) true k).qspi) refl refl;
                });
            first = refl;
            second = refl;
            theirs = refl;
            requested = refl;
          };
    }
