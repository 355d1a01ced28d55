-- The stop bit at the module's pin.
use mathlib.Core.Path.{◌≡◌, ap, sym, subst, ◌∙◌}
use mathlib.Core.Bool.{Bool, true, false}
use mathlib.Core.List.{List, ◌++◌}
use Prim.Native.Nat.{ℕ, suc, ◌+◌, ◌*◌, ◌≤◌, ◌<◌}
use native.Mathlib.Omega.{arith}
use Rattle.sci.specs.model.Control.{TE, frame_samples}
use Rattle.sci.specs.model.Serial.{txd_driven, txd}
use Rattle.sci.specs.claims.Wire.{Wired, steps, step}
use Rattle.sci.specs.claims.Wire as wire
use Rattle.sci.proofs.StopBit.{frame_drives, stop_bit_rests}
use Rattle.claims_histories.specs.Demand2.{Two, halves, wire_level, Tick, Moment, clock, next, play, clocks_in, Counts, Unchanged, period, width, Begins, StopBit, StopBitRests}
use Rattle.claims_histories.proofs.Pin.{wire_driven}
use Rattle.claims_histories.proofs.Arriving.{begins_driven}
use Rattle.claims_histories.proofs.Joined.{Plain, project, clock_halves, project_steps, project_clocks, Drives, drives_plain, rests_project, unchanged_append, plain_first, plain_second, clocks_append, play_append}

module _ (q : Two) (t : Tick) (es later : List Moment) (h : Begins q.sender) (counts : Counts q) (u : Unchanged es (next (clock t) q))
    (v : Unchanged later (play es (next (clock t) q))) (low : 16 * suc (width q) * period q ≤ clocks_in es)
    (whole : suc (clocks_in es + clocks_in later) ≡ frame_samples (width q) * period q) where
  abbrev b : Two
  b = next (clock t) q

  abbrev c : Two
  c = play es b

  abbrev z : Two
  z = play later c

  first_plain : wire_level q.sender t.undriven ≡ txd q.sender.sci
  first_plain = wire_driven q.sender t.undriven (begins_driven q.sender h)

  begins : wire.Begins (halves q)
  begins = record { sample = h.sample; frame = h.frame }

  abbrev n : ℕ
  n = frame_samples (width q) * period q

  at_b : step (wire.clock t.rxd) (halves q) ≡ halves b
  at_b = clock_halves t q counts first_plain

  drives : Drives n (halves b)
  drives fs k =
      subst (λ (w : Wired). txd_driven (steps fs w).sender ≡ true) at_b (frame_drives (halves q) t.rxd fs begins k)

  plain : Plain (es ++ later) b
  plain =
      drives_plain (es ++ later) b n drives (omega (arith, clocks_append es later, whole)) (unchanged_append es later b u v)

  at_c : steps (project es b) (halves b) ≡ halves c
  at_c = project_steps es b u (plain_first es later b plain)

  from_c : steps (project es b) (step (wire.clock t.rxd) (halves q)) ≡ halves c
  from_c = ap (steps (project es b)) at_b ∙ at_c

  at_z : steps (project later c) (halves c) ≡ halves z
  at_z = project_steps later c v (plain_second es later b plain)

  driven : txd_driven z.sender.sci ≡ true
  driven =
      subst (λ (w : Two). txd_driven w.sender.sci ≡ true) (play_append es later b)
      (subst (λ (w : Wired). txd_driven w.sender ≡ true) (project_steps (es ++ later) b (unchanged_append es later b u v) plain)
      (drives (project (es ++ later) b)
      (subst (λ (k : ℕ). k < n) (sym (project_clocks (es ++ later) b)) (omega (arith, clocks_append es later, whole)))))

  stops : wire.StopBit (project later c) (halves c)
  stops =
      subst (wire.StopBit (project later c)) from_c
      (stop_bit_rests (halves q) t.rxd (project es b) (project later c) begins
      (subst (λ (k : ℕ). 16 * suc (width q) * period q ≤ k) (sym (project_clocks es b)) low)
      (ap (λ (k : ℕ). suc (k + wire.clocks_in (project later c))) (project_clocks es b)
      ∙ ap (λ (k : ℕ). suc (clocks_in es + k)) (project_clocks later c) ∙ whole))

  one : (x : Bool) → wire_level z.sender x ≡ true
  one x = wire_driven z.sender x driven ∙ subst (λ (w : Wired). txd w.sender ≡ true) at_z stops.one

  stopped : StopBit later c
  stopped =
      record {
        rests = rests_project later c v (plain_second es later b plain) stops.rests;
        one = one;
        begins =
            λ clear on empty.
            let e : wire.Begins (halves z) =
            subst wire.Begins at_z
            (stops.next clear (subst (λ (w : Wired). TE w.sender.sccr1 ≡ true) (sym at_z) on)
            (subst (λ (w : Wired). w.sender.transmitter.preamble ≡ false) (sym at_z) empty)) in
            record { sample = e.sample; frame = e.frame };
      }

pub stop_bit_holds : StopBitRests
stop_bit_holds q t es later h counts u v low whole = stopped q t es later h counts u v low whole
