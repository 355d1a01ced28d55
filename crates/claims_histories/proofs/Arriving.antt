-- Demand 2, lifted from two serial halves to two modules.
use mathlib.Core.Path.{◌≡◌, ap, sym, subst, ◌∙◌}
use mathlib.Core.Bool.{Bool, true, ◌||◌}
use mathlib.Core.List.{List, [], ◌∷◌}
use Prim.Native.Nat.{ℕ, suc, ◌+◌, ◌*◌, ◌%◌, ◌^◌, ◌<◌, ◌≤◌}
use native.Mathlib.Omega.{arith}
use native.Mathlib.Nat.{mul-le-mul_right}
use Rattle.sci.specs.model.Control.{frame_samples}
use Rattle.sci.specs.model.Transmitter.{runs, free}
use Rattle.sci.specs.model.Serial.{txd_driven, txd}
use Rattle.sci.specs.claims.Levels.{end_sample}
use Rattle.sci.specs.claims.Link.{data_bits, InScdr}
use Rattle.sci.specs.claims.Wire.{Wired, steps, step, hearing, Matched}
use Rattle.sci.specs.claims.Wire as wire
use Rattle.sci.specs.declared.serial.Sci.{Sci}
use Rattle.sci.proofs.Sender.{begins_te, begins_free}
use Rattle.sci.proofs.StopBit.{frame_drives}
use Rattle.sci.proofs.Stops.{free_at_one}
use Rattle.sci.proofs.Wires as half
use Rattle.qsm.specs.model.State.{reset_module}
use Rattle.qsm.specs.declared.state.Module.{Module}
use Rattle.claims_histories.specs.History.{run}
use Rattle.claims_histories.specs.Demand2.{Two, halves, wire_level, play, clocks_in, Frame, begun, ended, period, width, Begins, Sends, Received, Waits, Word, AllSent, AllRead, AllReceived, ArriveInTurn, BeginsAtOne}
use Rattle.claims_histories.proofs.Lifted.{all, from_reset}
use Rattle.claims_histories.proofs.Pin.{wire_driven}
use Rattle.claims_histories.proofs.Joined.{Plain, project, clock_halves, project_steps, project_unchanged, project_rests, project_clocks, rests_plain, Drives, drives_plain}
use Rattle.claims_histories.proofs.Reading.{project_both}

-- A module that begins a frame drives the wire.
pub begins_driven : (m : Module) → Begins m → txd_driven m.sci ≡ true
begins_driven m b = ap (λ (t : Bool). t || runs m.sci.transmitter) (begins_te m.sci b.frame)

-- And the wire is at one.
pub begins_at_one : BeginsAtOne
begins_at_one es undriven b =
    let m : Module = run es reset_module in
    wire_driven m undriven (begins_driven m b) ∙ ap txd (from_reset es)
    ∙ free_at_one (all es reset_module) (subst (λ (s : Sci). free s.transmitter ≡ true) (from_reset es) (begins_free m.sci b.frame))

-- The receiver's last sample comes before the frame's last clock.
within : (c v n p : ℕ) → suc c + v ≡ suc (end_sample n) * p → c < frame_samples n * p
within c v n p e =
    let l : suc (end_sample n) ≤ frame_samples n = omega arith in
    omega (arith, e, mul-le-mul_right p l)

abbrev pub on_wire : Frame → Two → wire.Frame
on_wire f q = record { first = f.first.rxd; later = project f.later (begun f q); last = f.last.rxd }

module _ (f : Frame) (q : Two) (d : Sends f q) where
  abbrev b : Two
  b = begun f q

  abbrev n : ℕ
  n = frame_samples (width q) * period q

  begins : wire.Begins (halves q)
  begins = record { sample = d.begins.sample; frame = d.begins.frame }

  pub at_begun : wire.begun (on_wire f q) (halves q) ≡ halves b
  at_begun = clock_halves f.first q d.counts (wire_driven q.sender f.first.undriven (begins_driven q.sender d.begins))

  drives : Drives n (halves b)
  drives fs h =
      subst (λ (w : Wired). txd_driven (steps fs w).sender ≡ true) at_begun (frame_drives (halves q) f.first.rxd fs begins h)

  few : clocks_in f.later < n
  few = within (clocks_in f.later) b.receiver.sci.prescaler (width q) (period q) d.last

  later_plain : Plain f.later b
  later_plain = drives_plain f.later b n drives (omega (arith, few)) d.unchanged

  at_later : steps (project f.later b) (halves b) ≡ halves (play f.later b)
  at_later = project_steps f.later b d.unchanged later_plain

  last_plain : wire_level (play f.later b).sender f.last.undriven ≡ txd (play f.later b).sender.sci
  last_plain =
      wire_driven (play f.later b).sender f.last.undriven
      (subst (λ (w : Wired). txd_driven w.sender ≡ true) at_later
      (drives (project f.later b) (subst (λ (k : ℕ). k < n) (sym (project_clocks f.later b)) few)))

  pub at_ended : wire.ended (on_wire f q) (halves q) ≡ halves (ended f q)
  at_ended =
      ap (λ (w : Wired). step (wire.clock f.last.rxd) (steps (project f.later b) w)) at_begun
      ∙ ap (step (wire.clock f.last.rxd)) at_later ∙ clock_halves f.last (play f.later b) d.counts_last last_plain

  sends : wire.Sends (on_wire f q) (halves q)
  sends =
      record {
        begins = begins;
        unchanged = subst (wire.Unchanged (project f.later b)) (sym at_begun) (project_unchanged f.later b d.unchanged later_plain);
        last =
            ap (λ (k : ℕ). suc k + (wire.begun (on_wire f q) (halves q)).receiver.prescaler) (project_clocks f.later b)
            ∙ ap (λ (w : Wired). suc (clocks_in f.later) + w.receiver.prescaler) at_begun ∙ d.last;
      }

  matches : Matched (halves b) → Matched (wire.begun (on_wire f q) (halves q))
  matches m = subst Matched (sym at_begun) m

  received : wire.Received (on_wire f q) (halves q) → Received f q
  received r =
      subst
      (λ (w : Wired).
      InScdr (data_bits q.sender.sci.sccr1 q.sender.sci.transmitter.scdr % 2 ^ width q) (hearing w.receiver))
      at_ended r

pub waits : Waits
waits q es m u r =
    let p : Plain es q = rests_plain es q r in
    subst Matched (project_steps es q u p)
    (half.waits (halves q) (project es q) m (project_unchanged es q u p) (project_rests es q u p r))

-- Words in turn.
abbrev all_on_wire : List Word → Two → List wire.Word
all_on_wire [] q = []
all_on_wire (u ∷ us) q =
    record { idle = project u.idle q; frame = on_wire u.frame (play u.idle q) } ∷ all_on_wire us (ended u.frame (play u.idle q))

module _ (u : Word) (us : List Word) (q : Two) (d : AllSent (u ∷ us) q) where
  abbrev z : Two
  z = play u.idle q

  plain : Plain u.idle q
  plain = rests_plain u.idle q d.0.rests

  at_idle : steps (project u.idle q) (halves q) ≡ halves z
  at_idle = project_steps u.idle q d.0.unchanged plain

  at_next : wire.ended (on_wire u.frame z) (steps (project u.idle q) (halves q)) ≡ halves (ended u.frame z)
  at_next = ap (wire.ended (on_wire u.frame z)) at_idle ∙ at_ended u.frame z d.0.sends

  follows : wire.Follows (record { idle = project u.idle q; frame = on_wire u.frame z }) (halves q)
  follows =
      record {
        unchanged = project_unchanged u.idle q d.0.unchanged plain;
        rests = project_rests u.idle q d.0.unchanged plain d.0.rests;
        sends = subst (wire.Sends (on_wire u.frame z)) (sym at_idle) (sends u.frame z d.0.sends);
      }

all_sent : (us : List Word) (q : Two) → AllSent us q → wire.AllSent (all_on_wire us q) (halves q)
unfolding wire.AllSent
all_sent [] q d = tt
all_sent (u ∷ us) q d = (
  follows u us q d,
  subst (wire.AllSent (all_on_wire us (ended u.frame (play u.idle q)))) (sym (at_next u us q d))
      (all_sent us (ended u.frame (play u.idle q)) d.1),
)

all_read : (us : List Word) (q : Two) → AllRead us q → wire.AllRead (all_on_wire us q)
unfolding wire.AllRead
all_read [] q r = tt
all_read (u ∷ us) q r = (
  project_both u.idle u.frame.later q (begun u.frame (play u.idle q)) r.0,
  all_read us (ended u.frame (play u.idle q)) r.1,
)

all_received : (us : List Word) (q : Two) → AllSent us q → wire.AllReceived (all_on_wire us q) (halves q) → AllReceived us q
unfolding wire.AllReceived
all_received [] q d r = tt
all_received (u ∷ us) q d r = (
  received u.frame (play u.idle q) d.0.sends
      (subst (wire.Received (on_wire u.frame (play u.idle q))) (at_idle u us q d) r.0),
  all_received us (ended u.frame (play u.idle q)) d.1
      (subst (wire.AllReceived (all_on_wire us (ended u.frame (play u.idle q)))) (at_next u us q d) r.1),
)

pub arrive_in_turn : ArriveInTurn
arrive_in_turn q f us d m s r =
    let g = half.arrive_in_turn (halves q) (on_wire f q) (all_on_wire us (ended f q)) (sends f q d) (matches f q d m)
    (subst (wire.AllSent (all_on_wire us (ended f q))) (sym (at_ended f q d)) (all_sent us (ended f q) s)) (all_read us (ended f q) r) in (
      received f q d g.0,
      all_received us (ended f q) s (subst (wire.AllReceived (all_on_wire us (ended f q))) (at_ended f q d) g.1),
    )
