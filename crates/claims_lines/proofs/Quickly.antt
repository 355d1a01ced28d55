-- A line is dropped for OR only where a frame was lost. Assumes nothing.
use mathlib.Core.Path.{◌≡◌, refl, sym, ap, ◌∙◌}
use mathlib.Core.Bool.{Bool, true, false, cond, true≢false}
use mathlib.Core.List.{List, [], ◌∷◌, ◌++◌, append_assoc}
use mathlib.Core.Logic.{◌⊎◌, inl, inr}
use Prim.Native.Nat.{ℕ, suc, ◌+◌}
use native.Mathlib.Omega.{arith}
use lib.Dec.{eqb, ltb}
use Rattle.qsm.specs.model.State.{reset_module}
use Rattle.qsm.specs.declared.state.Module.{Module}
use Rattle.qsm.specs.declared.event.Event.{Event}
use Rattle.qsm.specs.declared.event.Access.TheVariants.{Write}
use Rattle.claims_histories.specs.History.{after, run, log}
use Rattle.tool_lines.specs.Poll.{poll_events, polled}
use Rattle.tool_lines.specs.Schedule.{Act, plays, polls, scheduled, scheduled_for, cut}
use Rattle.tool_lines.specs.Gather.{Report, handed, dropped, most, too_long, overrun}
use Rattle.tool_lines.specs.Replay.{events_of, polled_events, lines}
use Rattle.claims_polling.specs.Rule.{lost_in}
use Rattle.claims_polling.specs.Replays.{replayed}
use Rattle.claims_polling.proofs.Joined.{run_joined, log_joined, lost_joined}
use Rattle.claims_polling.proofs.Losing.{harmless, harmless_unbroken}
use Rattle.claims_polling.proofs.Replaying.{poll_run, replay_kept}
use Rattle.claims_lines.specs.Happened.{Damage, Happening, frame_lost, word_came, status_read, word_delivered, was_reset, marks_of}
use Rattle.claims_lines.specs.Segment.{letters_of, or_else, damaged, cause_from, cause_of, Line}
use Rattle.claims_lines.specs.Claims.{heard, Dropped, AllTold}
use Rattle.claims_lines.specs.Witness.{hold}
use Rattle.claims_lines.specs.Quick.{NotFor, NoneLost, QuickEnough, Such}
use Rattle.claims_lines.proofs.Marked.{marks_joined, as_marked_holds}
use Rattle.claims_lines.proofs.Lines.{from_wire_holds}
use Rattle.steps.specs.Iterate.{iterate}
use Rattle.sci.specs.model.Status.{has, raise, raise_if, fall, fall_if, mark_seen, fall_seen}
use Rattle.sci.specs.model.Framer.{start_bit, data_bit, stop_bit, fixed, framed}
use Rattle.sci.specs.model.Receiver.{outcome, raised, entered, status_after, receiver_after, received}
use Rattle.sci.specs.model.Transmitter.{sent}
use Rattle.sci.specs.model.Serial.{sampled, clocked, wrote_sccr0, wrote_sccr1, sccr0_guarded, sccr1_guarded}
use Rattle.qsm.specs.model.Map.{decode}
use Rattle.qsm.specs.model.Lanes.{in_map, is_restricted}
use Rattle.qsm.specs.model.Serial.{peek_serial, serial_read, put_serial, serial_unmodelled, serial_guarded}
use Rattle.qsm.specs.model.Word.{peek, put, unmodelled, guarded}
use Rattle.qsm.specs.model.Access.{fetch, fetched, store, stored}
use Rattle.qsm.specs.model.Decision.{admitted, decide_read, stored_by, decide_stored, decide_write}
use Rattle.qsm.specs.model.Event.{clock_module, clocks, after_read, read_value, refused, holds, reads, writes, does}
use Rattle.qsm.specs.declared.event.Event.TheVariants as event

-- ---- the cause of a line in which no frame was lost

or_is : (a b : ℕ) → or_else a b ≡ overrun → (a ≡ overrun) ⊎ (b ≡ overrun)
or_is a b e = go (eqb a 0) e
  where
    go : (c : Bool) → cond c b a ≡ overrun → (a ≡ overrun) ⊎ (b ≡ overrun)
    go true e = inr e
    go false e = inl e

damaged_not : (fe pf nf : Bool) → ◌≡◌ {A = ℕ} (cond fe 1 (cond pf 2 (cond nf 3 0))) overrun → ⊥
damaged_not true pf nf e = omega (arith, e)
damaged_not false true nf e = omega (arith, e)
damaged_not false false true e = omega (arith, e)
damaged_not false false false e = omega (arith, e)

long_not : (short : Bool) → ◌≡◌ {A = ℕ} (cond short 0 too_long) overrun → ⊥
long_not true e = omega (arith, e)
long_not false e = omega (arith, e)

neither : {A B : Type 0} → (A → ⊥) → (B → ⊥) → A ⊎ B → ⊥
neither f g (inl a) = f a
neither f g (inr b) = g b

not_lost : (k : ℕ) (h : List Happening) → lost_in (marks_of h) ≡ 0 → cause_from k h ≡ overrun → ⊥
not_lost k [] l e = omega (arith, e)
not_lost k (frame_lost raises ∷ h) l e = omega (arith, l)
not_lost k (word_came w d ∷ h) l e =
    let long : ℕ = cond (ltb k most) 0 too_long in
    neither (damaged_not d.fe d.pf d.nf)
    (λ f. neither (long_not (ltb k most)) (not_lost (suc k) h l) (or_is long (cause_from (suc k) h) f))
    (or_is (damaged d) (or_else long (cause_from (suc k) h)) e)
not_lost k (status_read ∷ h) l e = not_lost k h l e
not_lost k (word_delivered w ∷ h) l e = not_lost k h l e
not_lost k (was_reset ∷ h) l e = not_lost k h l e

cause_not : (body : List Happening) (d : Damage) → lost_in (marks_of body) ≡ 0 → cause_of body d ≡ overrun → ⊥
cause_not body d l e =
    neither (not_lost 0 body l) (damaged_not d.fe d.pf d.nf) (or_is (cause_from 0 body) (damaged d) e)

-- ---- reports

abbrev cause_in : Report → ℕ
cause_in (handed number characters) = 0
cause_in (dropped number cause) = cause

told_cause : (whole : Bool) (number cause : ℕ) (cs : List ℕ) → cause_in (cond whole (handed number cs) (dropped number cause)) ≡ overrun → cause ≡ overrun
told_cause true number cause cs e = absurd (omega (arith, e))
told_cause false number cause cs e = e

lost_parts : (h k : List Happening) → lost_in (marks_of (h ++ k)) ≡ lost_in (marks_of h) + lost_in (marks_of k)
lost_parts h k = ap lost_in (marks_joined h k) ∙ lost_joined (marks_of h) (marks_of k)

module _ (h : List Happening) (none : lost_in (marks_of h) ≡ 0) where
  body_kept : (line : Line h) → lost_in (marks_of line.body) ≡ 0
  body_kept line =
      let rest : List Happening = word_came line.last line.damage ∷ line.after in
      omega (
        arith,
        none,
        ap (λ (l : List Happening). lost_in (marks_of l)) line.split,
        lost_parts line.before (line.body ++ rest),
        lost_parts line.body rest,
      )

  dropped_not : (number cause : ℕ) → Dropped h number cause → cause ≡ overrun → ⊥
  dropped_not number cause d e =
      let body = d.line.body in
      let damage = d.line.damage in
      cause_not body damage (body_kept d.line)
      (told_cause (eqb (cause_of body damage) 0) number (cause_of body damage) (letters_of body) (ap cause_in d.report ∙ e))

  all_not : (rs : List Report) → AllTold h rs → NotFor overrun rs
  all_not [] a = tt
  all_not (handed number characters ∷ rs) a = all_not rs a.1
  all_not (dropped number cause ∷ rs) a = (dropped_not number cause a.0, all_not rs a.1)

pub none_lost : NoneLost
none_lost period t none =
    all_not (heard period t) (ap lost_in (as_marked_holds (polled_events period t) reset_module) ∙ none) (lines period t) (from_wire_holds period t)

-- ---- a first part and the rest

pub events_joined : (xs ys : List Act) (m : Module) → events_of (xs ++ ys) m ≡ events_of xs m ++ events_of ys (run (events_of xs m) m)
unfolding events_of run
events_joined [] ys m = refl
events_joined (plays e ∷ xs) ys m = ap (λ (es : List Event). e ∷ es) (events_joined xs ys (after e m))
events_joined (polls ∷ xs) ys m =
    let b : Module = (polled m).state in
    let es : List Event = events_of xs b in
    ap (λ (l : List Event). poll_events m ++ l) (events_joined xs ys b) ∙ sym (append_assoc (poll_events m) es (events_of ys (run es b)))
    ∙ ap (λ (n : Module). (poll_events m ++ es) ++ events_of ys n)
    (ap (run es) (poll_run m) ∙ sym (run_joined (poll_events m) es m))

pub quick_enough : QuickEnough
quick_enough moves period t first since clock v r =
    let es : List Event = events_of first reset_module in
    let m : Module = run es reset_module in
    let fs : List Event = replayed period since clock v m in
    let is : polled_events period t ≡ es ++ fs =
    ap (λ (xs : List Act). events_of xs reset_module) r.splits ∙ events_joined first (scheduled period since clock v).acts reset_module in
    let later : lost_in (log fs m) ≡ 0 = replay_kept moves es period since clock v r.clear r.within r.close r.unbroken r.moving in
    let none : lost_in (log (polled_events period t) reset_module) ≡ 0 =
    ap (λ (l : List Event). lost_in (log l reset_module)) is ∙ ap lost_in (log_joined es fs reset_module) ∙ lost_joined (log es reset_module) (log fs m)
    ∙ omega (arith, r.kept, later) in
    (none, none_lost period t none)

-- ---- such a trace

abbrev set : List Act
set = plays (event.Access (Write true 2 0x08 1)) ∷ (plays (event.Access (Write true 2 0x0A 4)) ∷ [])

harmless_on : harmless (replayed 3 0 0 (hold 1 6) (run (events_of set reset_module) reset_module)) ≡ true
unfolding iterate has raise raise_if fall fall_if mark_seen fall_seen start_bit data_bit stop_bit fixed framed outcome raised entered status_after receiver_after received sent sampled clocked wrote_sccr0 wrote_sccr1 sccr0_guarded sccr1_guarded reset_module decode in_map is_restricted peek_serial serial_read put_serial serial_unmodelled serial_guarded peek put unmodelled guarded fetch fetched store stored admitted decide_read stored_by decide_stored decide_write clock_module clocks after_read read_value refused holds reads writes does run polled cut scheduled_for events_of log
harmless_on = refl

pub such : Such
unfolding iterate has raise raise_if fall fall_if mark_seen fall_seen start_bit data_bit stop_bit fixed framed outcome raised entered status_after receiver_after received sent sampled clocked wrote_sccr0 wrote_sccr1 sccr0_guarded sccr1_guarded reset_module decode in_map is_restricted peek_serial serial_read put_serial serial_unmodelled serial_guarded peek put unmodelled guarded fetch fetched store stored admitted decide_read stored_by decide_stored decide_write clock_module clocks after_read read_value refused holds reads writes does run polled cut scheduled_for events_of log
such =
    record {
      first = set;
      ruled =
          record {
            splits = refl;
            kept = refl;
            clear = refl;
            within = omega arith;
            close = omega arith;
            unbroken =
                harmless_unbroken (replayed 3 0 0 (hold 1 6) (run (events_of set reset_module) reset_module)) (run (events_of set reset_module) reset_module) harmless_on;
            moving = λ e. absurd (true≢false e);
          };
    }
