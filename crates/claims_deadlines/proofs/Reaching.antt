-- A word delivered in time, and one clock later: computed. Assumes nothing.
use mathlib.Core.Path.{◌≡◌, refl}
use mathlib.Core.Bool.{Bool, true, false, not, ◌&&◌, ◌||◌, true≢false, false≢true}
use mathlib.Core.List.{List, [], ◌∷◌}
use mathlib.Core.Option.{Option, none, some}
use Prim.Native.Nat.{ℕ, zero, suc, ◌*◌}
use lib.Dec.{leb, ltb}
use borrow.Author.Tests.{not-true, leb-true, ltb-true}
use Rattle.steps.specs.Iterate.{iterate}
use Rattle.sci.specs.model.Status.{has, raise, raise_if, fall, fall_if, mark_seen, fall_seen}
use Rattle.sci.specs.model.Control.{RE, M, bits_of}
use Rattle.sci.specs.model.Framer.{ends, adjusts, start_bit, data_bit, stop_bit, fixed, framed}
use Rattle.sci.specs.model.Receiver.{outcome, raised, entered, status_after, receiver_after, received}
use Rattle.sci.specs.model.Transmitter.{sent}
use Rattle.sci.specs.claims.Levels.{Unmoved, stretched, low_bits}
use Rattle.sci.specs.claims.Line.{Op}
use Rattle.sci.specs.model.Serial.{sampled, clocked, wrote_sccr0, wrote_sccr1, sccr0_guarded, sccr1_guarded}
use Rattle.sci.specs.declared.framer.Framer.{Framer}
use Rattle.sci.specs.declared.receiver.Receiver.{Receiver}
use Rattle.sci.specs.declared.serial.Sci.{Sci}
use Rattle.sci.proofs.Membership.{and_left, and_right}
use Rattle.qsm.specs.model.State.{reset_module}
use Rattle.qsm.specs.model.Map.{decode}
use Rattle.qsm.specs.model.Lanes.{in_map, is_restricted}
use Rattle.qsm.specs.model.Serial.{peek_serial, serial_read, put_serial, serial_unmodelled, serial_guarded}
use Rattle.qsm.specs.model.Word.{peek, put, unmodelled, guarded}
use Rattle.qsm.specs.model.Access.{fetch, fetched, store, stored}
use Rattle.qsm.specs.model.Decision.{admitted, decide_read, stored_by, decide_stored, decide_write}
use Rattle.qsm.specs.model.Event.{held, clock_module, clocks, after_read, read_value, refused, holds, reads, writes, does}
use Rattle.qsm.specs.declared.state.Module.{Module}
use Rattle.qsm.specs.declared.event.Event.{Event}
use Rattle.qsm.specs.declared.event.Event.TheVariants.{Reset, Hold}
use Rattle.qsm.specs.declared.event.Event.TheVariants as event
use Rattle.claims_histories.specs.History.{after, run, played_clocks, ops, log}
use Rattle.claims_polling.specs.Spacing.{samples_of, cut}
use Rattle.claims_polling.specs.Rule.{waiting, started}
use Rattle.claims_polling.proofs.Losing.{harmless, harmless_unbroken}
use Rattle.claims_deadlines.specs.Deadline.{age_after, age_for, InTimeFor, InTime, since_end, FarEnough, SpacedFrom}
use Rattle.claims_deadlines.specs.Reached.{Meets, Reached, AnyReached, StillReached, changing, FairReached}
use Rattle.claims_deadlines.proofs.Ruled.{unbroken_stays}

-- That a word is in time, as a test.
unfoldable in_time_for : ℕ → ℕ → Bool → Module → ℕ → Bool
in_time_for limit zero rxd m k = true
in_time_for limit (suc n) rxd m k =
    let m' : Module = clock_module rxd m in
    let k' : ℕ = age_after m m' k in
    ltb k' limit && in_time_for limit n rxd m' k'

unfoldable in_time : ℕ → List Event → Module → ℕ → Bool
in_time limit [] m k = true
in_time limit (Reset ∷ es) m k = in_time limit es (after Reset m) k
in_time limit (Hold pins rxd n ∷ es) m k =
    in_time_for limit (played_clocks m n) rxd (held m pins) k
    && in_time limit es (after (Hold pins rxd n) m) (age_for (played_clocks m n) rxd (held m pins) k)
in_time limit (event.Access a ∷ es) m k = in_time limit es (after (event.Access a) m) k

for_true : (limit n : ℕ) (rxd : Bool) (m : Module) (k : ℕ) → in_time_for limit n rxd m k ≡ true → InTimeFor limit n rxd m k
unfolding in_time_for
for_true limit zero rxd m k e = tt
for_true limit (suc n) rxd m k e =
    let m' : Module = clock_module rxd m in
    let k' : ℕ = age_after m m' k in (
      ltb-true k' limit (and_left (ltb k' limit) (in_time_for limit n rxd m' k') e),
      for_true limit n rxd m' k' (and_right (ltb k' limit) (in_time_for limit n rxd m' k') e),
    )

in_true : (limit : ℕ) (es : List Event) (m : Module) (k : ℕ) → in_time limit es m k ≡ true → InTime limit es m k
unfolding in_time InTime
in_true limit [] m k e = tt
in_true limit (Reset ∷ es) m k e = in_true limit es (after Reset m) k e
in_true limit (Hold pins rxd n ∷ es) m k e =
    let q : Module = held m pins in
    let p : ℕ = played_clocks m n in
    let j : ℕ = age_for p rxd q k in
    let m' : Module = after (Hold pins rxd n) m in (
      for_true limit p rxd q k (and_left (in_time_for limit p rxd q k) (in_time limit es m' j) e),
      in_true limit es m' j (and_right (in_time_for limit p rxd q k) (in_time limit es m' j) e),
    )
in_true limit (event.Access a ∷ es) m k e = in_true limit es (after (event.Access a) m) k e

-- That nothing moves, as a test.
unfoldable still : ℕ → Bool → Bool → Bool → Framer → List Bool → Bool
still n a b c f [] = true
still n a b c f (x ∷ xs) = not (adjusts n f (a && b && c) x) && still n x a b (framed n f (a && b && c) x) xs

still_unmoved : (n : ℕ) (a b c : Bool) (f : Framer) (xs : List Bool) → still n a b c f xs ≡ true → Unmoved n a b c f xs
unfolding still Unmoved
still_unmoved n a b c f [] e = tt
still_unmoved n a b c f (x ∷ xs) e =
    let g : Framer = framed n f (a && b && c) x in (
      not-true (adjusts n f (a && b && c) x) (and_left (not (adjusts n f (a && b && c) x)) (still n x a b g xs) e),
      still_unmoved n x a b g xs (and_right (not (adjusts n f (a && b && c) x)) (still n x a b g xs) e),
    )

abbrev stays : Sci → List Op → Bool
stays s os =
    still (bits_of (M s.sccr1)) s.receiver.last1 s.receiver.last2 s.receiver.last3 s.receiver.framer (samples_of os)

-- That frames end far enough apart, as a test.
abbrev far : ℕ → Option ℕ → Bool
far d none = true
far d (some k) = leb d (suc k)

unfoldable spaced : ℕ → ℕ → Bool → Bool → Bool → Framer → Option ℕ → List Bool → Bool
spaced d n a b c f last [] = true
spaced d n a b c f last (x ∷ xs) =
    (not (ends f) || far d last) && spaced d n x a b (framed n f (a && b && c) x) (since_end (ends f) last) xs

far_true : (over : Bool) (d : ℕ) (last : Option ℕ) → not over || far d last ≡ true → over ≡ true → FarEnough d last
far_true true d none e z = tt
far_true true d (some k) e z = leb-true d (suc k) e
far_true false d last e z = absurd (false≢true z)

spaced_true : (d n : ℕ) (a b c : Bool) (f : Framer) (last : Option ℕ) (xs : List Bool) → spaced d n a b c f last xs ≡ true →
    SpacedFrom d n a b c f last xs
unfolding spaced SpacedFrom
spaced_true d n a b c f last [] e = tt
spaced_true d n a b c f last (x ∷ xs) e =
    let rest : Bool = spaced d n x a b (framed n f (a && b && c) x) (since_end (ends f) last) xs in (
      far_true (ends f) d last (and_left (not (ends f) || far d last) rest e),
      spaced_true d n x a b (framed n f (a && b && c) x) (since_end (ends f) last) xs (and_right (not (ends f) || far d last) rest e),
    )

abbrev apart_by : ℕ → Sci → List Op → Bool
apart_by d s os =
    spaced d (bits_of (M s.sccr1)) s.receiver.last1 s.receiver.last2 s.receiver.last3 s.receiver.framer none (samples_of os)

record Computed (moves m : Bool) (d limit : ℕ) (es : List Event) : Type 0 where
  on : RE (started m).sci.sccr1 ≡ true
  clear : waiting (started m) ≡ false
  quiet : harmless es ≡ true
  moving : moves ≡ false → stays (started m).sci (ops es (started m)) ≡ true
  apart : apart_by d (started m).sci (ops es (started m)) ≡ true
  timely : in_time limit es (started m) 0 ≡ true

meets : (moves m : Bool) (d limit : ℕ) (es : List Event) → Computed moves m d limit es → Meets moves m d limit es
meets moves m d limit es c =
    let q : Module = started m in
    let n : ℕ = bits_of (M q.sci.sccr1) in
    let r : Receiver = q.sci.receiver in
    record {
      on = c.on;
      clear = c.clear;
      stays = unbroken_stays es q c.on (harmless_unbroken es q c.quiet);
      moving = λ e. still_unmoved n r.last1 r.last2 r.last3 r.framer (samples_of (ops es q)) (c.moving e);
      spaced = spaced_true d n r.last1 r.last2 r.last3 r.framer none (samples_of (ops es q)) c.apart;
      in_time = in_true limit es q 0 c.timely;
    }

-- The six cases.
pub any_8 : AnyReached false 8 0xFF
unfolding iterate has raise raise_if fall fall_if mark_seen fall_seen start_bit data_bit stop_bit fixed framed outcome raised entered status_after receiver_after received sent sampled clocked wrote_sccr0 wrote_sccr1 sccr0_guarded sccr1_guarded reset_module decode in_map is_restricted peek_serial serial_read put_serial serial_unmodelled serial_guarded peek put unmodelled guarded fetch fetched store stored admitted decide_read stored_by decide_stored decide_write clock_module clocks after_read read_value refused holds reads writes does run ops log cut stretched low_bits still spaced in_time_for in_time
any_8 =
    record {
      rate = refl;
      prompt = meets true false 112 (112 * 2) _ (record { on = refl; clear = refl; quiet = refl; moving = λ e. absurd (true≢false e); apart = refl; timely = refl });
      delivers = refl;
      late = meets true false 112 (suc (112 * 2)) _ (record { on = refl; clear = refl; quiet = refl; moving = λ e. absurd (true≢false e); apart = refl; timely = refl });
      loses = refl;
    }

pub any_9 : AnyReached true 9 0x1FF
unfolding iterate has raise raise_if fall fall_if mark_seen fall_seen start_bit data_bit stop_bit fixed framed outcome raised entered status_after receiver_after received sent sampled clocked wrote_sccr0 wrote_sccr1 sccr0_guarded sccr1_guarded reset_module decode in_map is_restricted peek_serial serial_read put_serial serial_unmodelled serial_guarded peek put unmodelled guarded fetch fetched store stored admitted decide_read stored_by decide_stored decide_write clock_module clocks after_read read_value refused holds reads writes does run ops log cut stretched low_bits still spaced in_time_for in_time
any_9 =
    record {
      rate = refl;
      prompt = meets true true 122 (122 * 2) _ (record { on = refl; clear = refl; quiet = refl; moving = λ e. absurd (true≢false e); apart = refl; timely = refl });
      delivers = refl;
      late = meets true true 122 (suc (122 * 2)) _ (record { on = refl; clear = refl; quiet = refl; moving = λ e. absurd (true≢false e); apart = refl; timely = refl });
      loses = refl;
    }

pub still_8 : StillReached false 8 0xFF
unfolding iterate has raise raise_if fall fall_if mark_seen fall_seen start_bit data_bit stop_bit fixed framed outcome raised entered status_after receiver_after received sent sampled clocked wrote_sccr0 wrote_sccr1 sccr0_guarded sccr1_guarded reset_module decode in_map is_restricted peek_serial serial_read put_serial serial_unmodelled serial_guarded peek put unmodelled guarded fetch fetched store stored admitted decide_read stored_by decide_stored decide_write clock_module clocks after_read read_value refused holds reads writes does run ops log cut stretched low_bits still spaced in_time_for in_time
still_8 =
    record {
      rate = refl;
      prompt = meets false false 154 (154 * 2) _ (record { on = refl; clear = refl; quiet = refl; moving = λ e. refl; apart = refl; timely = refl });
      delivers = refl;
      late = meets false false 154 (suc (154 * 2)) _ (record { on = refl; clear = refl; quiet = refl; moving = λ e. refl; apart = refl; timely = refl });
      loses = refl;
    }

pub still_9 : StillReached true 9 0x1FF
unfolding iterate has raise raise_if fall fall_if mark_seen fall_seen start_bit data_bit stop_bit fixed framed outcome raised entered status_after receiver_after received sent sampled clocked wrote_sccr0 wrote_sccr1 sccr0_guarded sccr1_guarded reset_module decode in_map is_restricted peek_serial serial_read put_serial serial_unmodelled serial_guarded peek put unmodelled guarded fetch fetched store stored admitted decide_read stored_by decide_stored decide_write clock_module clocks after_read read_value refused holds reads writes does run ops log cut stretched low_bits still spaced in_time_for in_time
still_9 =
    record {
      rate = refl;
      prompt = meets false true 170 (170 * 2) _ (record { on = refl; clear = refl; quiet = refl; moving = λ e. refl; apart = refl; timely = refl });
      delivers = refl;
      late = meets false true 170 (suc (170 * 2)) _ (record { on = refl; clear = refl; quiet = refl; moving = λ e. refl; apart = refl; timely = refl });
      loses = refl;
    }

fair_8 : Reached true false 148 5 1 (changing false (16 ∷ (22 ∷ (16 ∷ (17 ∷ (80 ∷ (10 ∷ []))))))) (changing false (16 ∷ (10 ∷ (112 ∷ (10 ∷ [])))))
unfolding iterate has raise raise_if fall fall_if mark_seen fall_seen start_bit data_bit stop_bit fixed framed outcome raised entered status_after receiver_after received sent sampled clocked wrote_sccr0 wrote_sccr1 sccr0_guarded sccr1_guarded reset_module decode in_map is_restricted peek_serial serial_read put_serial serial_unmodelled serial_guarded peek put unmodelled guarded fetch fetched store stored admitted decide_read stored_by decide_stored decide_write clock_module clocks after_read read_value refused holds reads writes does run ops log cut stretched low_bits still spaced in_time_for in_time
fair_8 =
    record {
      rate = refl;
      prompt = meets true false 148 (148 * 2) _ (record { on = refl; clear = refl; quiet = refl; moving = λ e. absurd (true≢false e); apart = refl; timely = refl });
      delivers = refl;
      late = meets true false 148 (suc (148 * 2)) _ (record { on = refl; clear = refl; quiet = refl; moving = λ e. absurd (true≢false e); apart = refl; timely = refl });
      loses = refl;
    }

fair_9 : Reached true true 164 5 1 (changing false (16 ∷ (22 ∷ (16 ∷ (17 ∷ (96 ∷ (10 ∷ []))))))) (changing false (16 ∷ (10 ∷ (128 ∷ (10 ∷ [])))))
unfolding iterate has raise raise_if fall fall_if mark_seen fall_seen start_bit data_bit stop_bit fixed framed outcome raised entered status_after receiver_after received sent sampled clocked wrote_sccr0 wrote_sccr1 sccr0_guarded sccr1_guarded reset_module decode in_map is_restricted peek_serial serial_read put_serial serial_unmodelled serial_guarded peek put unmodelled guarded fetch fetched store stored admitted decide_read stored_by decide_stored decide_write clock_module clocks after_read read_value refused holds reads writes does run ops log cut stretched low_bits still spaced in_time_for in_time
fair_9 =
    record {
      rate = refl;
      prompt = meets true true 164 (164 * 2) _ (record { on = refl; clear = refl; quiet = refl; moving = λ e. absurd (true≢false e); apart = refl; timely = refl });
      delivers = refl;
      late = meets true true 164 (suc (164 * 2)) _ (record { on = refl; clear = refl; quiet = refl; moving = λ e. absurd (true≢false e); apart = refl; timely = refl });
      loses = refl;
    }

pub fair : FairReached
fair = (fair_8, fair_9)
