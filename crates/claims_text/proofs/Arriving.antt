-- A text's trace, replayed: its words come and are delivered, so the lines are the text's. Assumes nothing.
use mathlib.Core.Path.{◌≡◌, refl, ap, sym, subst, ◌∙◌}
use mathlib.Core.Bool.{Bool, true, cond}
use mathlib.Core.List.{List, [], ◌∷◌, ◌++◌, append-nil}
use Prim.Native.Nat.{ℕ, ◌+◌, ◌-◌, ◌*◌, ◌%◌, ◌^◌, ◌<◌, ◌≤◌}
use native.Mathlib.Omega.{arith}
use lib.Dec.{eqb, ltb}
use lib.ListN.{length, replicate}
use Rattle.sci.specs.model.Control.{SCBR}
use Rattle.qsm.specs.model.State.{reset_module}
use Rattle.qsm.specs.model.Event.{clock_limit}
use Rattle.qsm.specs.model.Event as model
use Rattle.qsm.specs.declared.state.Module.{Module}
use Rattle.qsm.specs.declared.event.Event.{Event}
use Rattle.qsm.specs.declared.event.Event.TheVariants.{Reset, Hold}
use Rattle.qsm.specs.declared.event.Event.TheVariants as event
use Rattle.tool_lines.specs.Schedule.{Act, plays, polls, acts, scheduled_for, scheduled}
use Rattle.tool_lines.specs.Replay.{events_of, lines}
use Rattle.tool_lines.proofs.Schedules.{cut_poll}
use Rattle.tool_assemble.specs.Sent.{bit_clocks, hold_kind_of}
use Rattle.tool_assemble.specs.declared.sent.Sent.{Sent}
use Rattle.claims_assembling.specs.Laws.{Fits}
use Rattle.claims_assembling.specs.Traces.{held, clocks_of}
use Rattle.claims_histories.specs.History.{after, run, log, played_clocks}
use Rattle.claims_polling.specs.Rule.{lost_in}
use Rattle.claims_deadlines.specs.Deadline.{age_for, InTime}
use Rattle.claims_deadlines.proofs.Replaying.{in_time_holds}
use Rattle.claims_lines.specs.Happened.{Happening, happened}
use Rattle.claims_lines.specs.Claims.{heard}
use Rattle.claims_lines.proofs.Marked.{as_marked_holds}
use Rattle.claims_lines.proofs.Slots.{Slot, slot_of}
use Rattle.claims_lines.proofs.Quickly.{events_joined}
use Rattle.claims_senders.specs.Fair.{SentFrame, words_sent, line, FairFrames}
use Rattle.claims_senders.specs.Heard.{earliest}
use Rattle.claims_through.specs.Through.{sample_of, bits_in, words_came}
use Rattle.claims_through.proofs.Levels.{act_levels_holds}
use Rattle.claims_through.proofs.Levels as through
use Rattle.claims_through.proofs.Polls.{quiet_stays}
use Rattle.claims_text.specs.Text.{text_frames}
use Rattle.claims_text.specs.Lines.{text_lines, delivered, Clean}
use Rattle.claims_text.specs.Through.{ones, sent_trace, Within}
use Rattle.claims_text.proofs.Held.{Sendable, Both, none_both, none_yet, kind_fits, hold_acts, hold_both, Splits, HeldAs, end_as, record_as, text_as}
use Rattle.claims_text.proofs.Sending.{bit_few, slower, text_sent, text_fair, no_parity}
use Rattle.claims_text.proofs.Accounted.{lines_of_words}
use Rattle.claims_text.proofs.Ones.{Sends, words_come, no_flag}
use Rattle.claims_text.proofs.Served.{Sound, clear, pending, came_in, Serves}
use Rattle.claims_text.proofs.Delivering.{Served, comes, left, all_serves, last_delivered}
use Rattle.claims_text.proofs.Start.{set_up, Started, started_so, set_up_acts}
use Rattle.claims_text.proofs.Paused as paused

-- Served in time from the first on.
in_first : (limit : ℕ) (es fs : List Event) (m : Module) (k : ℕ) → InTime limit (es ++ fs) m k → InTime limit es m k
unfolding InTime
in_first limit [] fs m k t = tt
in_first limit (Reset ∷ es) fs m k t = in_first limit es fs (after Reset m) k t
in_first limit (Hold pins rxd n ∷ es) fs m k t =
    (t.0, in_first limit es fs (after (Hold pins rxd n) m) (age_for (played_clocks m n) rxd (model.held m pins) k) t.1)
in_first limit (event.Access a ∷ es) fs m k t = in_first limit es fs (after (event.Access a) m) k t

narrow : (n c : ℕ) → n ≤ 151 * (2 * c) → c < 2 ^ 13 → n < 2 ^ 32
narrow n c l h = omega arith

ones_fit : (pins n : ℕ) → pins < 256 → n < 2 ^ 32 → Fits (hold_kind_of n) (Hold pins true n)
ones_fit pins n p h = kind_fits pins n true (ltb n 65536) refl p h

sample_is : (v c : ℕ) → v ≡ c → c < 2 ^ 13 → 2 * SCBR v ≡ 2 * c
sample_is v c e h = let z : c % 2 ^ 13 ≡ c = omega arith in ap (λ (k : ℕ). 2 * SCBR k) e ∙ ap (λ (k : ℕ). 2 * k) z

module _ (s : Sent) (scbr before : ℕ) (text : List ℕ) (behind period : ℕ) (w : Within s scbr before text behind period) where
  abbrev tail : List ℕ
  tail = ones s.pins behind

  abbrev body : List ℕ
  body = ones s.pins before ++ (held s 0 text ++ tail)

  abbrev c₁ : ℕ
  c₁ = before + clocks_of s (0 + 10 * length text)

  abbrev ls : List Bool
  ls = replicate before true ++ line (text_frames s 0 text)

  ok : Sendable s
  ok =
      record {
        pins = w.pins;
        rate = w.some;
        short = λ k.
            narrow (bit_clocks s k) scbr
            (bit_few s k (151 * (2 * scbr)) w.some (slower s.clock s.baud (151 * (2 * scbr) * s.baud) w.fast)) w.whole;
      }

  all_room : c₁ + behind ≤ clock_limit
  all_room =
      let e : 10 * length text ≡ 0 + 10 * length text = omega arith in
      subst (λ (k : ℕ). before + clocks_of s k + behind ≤ clock_limit) e w.room

  -- ---- what is played

  tail_acts : (since : ℕ) → (scheduled period since c₁ tail).acts ≡ acts period since (Hold s.pins true behind)
  unfolding scheduled_for
  tail_acts since =
      ap (λ (t : List ℕ). (scheduled period since c₁ t).acts) (sym (append-nil tail))
      ∙ hold_acts period w.polled (hold_kind_of behind) s.pins true behind since c₁ [] (ones_fit s.pins behind w.pins w.fits.1) all_room
      ∙ append-nil (acts period since (Hold s.pins true behind))

  tail_both : (since : ℕ) → since < period → Both c₁ (scheduled period since c₁ tail).acts (replicate behind true)
  tail_both since lt =
      subst (λ (xs : List Act). Both c₁ xs (replicate behind true)) (append-nil _ ∙ sym (tail_acts since))
      (subst (Both c₁ (acts period since (Hold s.pins true behind) ++ [])) (append-nil (replicate behind true))
      (hold_both period w.polled s.pins true behind since c₁ [] [] lt all_room (none_both (c₁ + behind))))

  split : Splits period w.polled c₁ tail (replicate behind true) 0 0 body ls
  split =
      let pos : 0 < period = w.polled in
      let start : before + clocks_of s 0 ≡ 0 + before = (let z : clocks_of s 0 ≡ 0 = none_yet s in omega (arith, z)) in
      let room : c₁ ≤ clock_limit = (let r = all_room in omega (arith, r)) in
      let first : before ≤ c₁ = omega arith in
      record_as period pos c₁ tail (replicate behind true) (hold_kind_of before) s.pins true before 0 (held s 0 text ++ tail) (line (text_frames s 0 text))
      (ones_fit s.pins before w.pins w.fits.0) (omega (arith, room, first))
      (subst (λ (c : ℕ). HeldAs period pos c₁ tail (replicate behind true) c (held s 0 text ++ tail) (line (text_frames s 0 text))) start
      (text_as period pos c₁ tail (replicate behind true) s ok before text 0 tail room (end_as period pos c₁ tail (replicate behind true) tail_both)))
      0 pos

  abbrev m : Module
  m = run (set_up scbr) reset_module

  st : Started scbr m
  st = started_so scbr w.whole

  sample : sample_of m ≡ 2 * scbr
  sample = sample_is m.sci.sccr0 scbr st.rate w.whole

  abbrev xs : List Act
  xs = split.first

  abbrev zs : List Act
  zs = split.first ++ (scheduled period split.passed c₁ tail).acts

  lasts : 0 < 2 * scbr
  lasts = let r = w.runs in omega (arith, r)

  full : paused.Whole s behind (2 * scbr) lasts w.some w.slow w.fast before text
  full = paused.whole s behind (2 * scbr) lasts w.some w.slow w.fast before text w.bytes

  runs : 0 < SCBR m.sci.sccr0
  runs = (let r = w.runs in let e = sample in omega (arith, r, e))

  long : (g : ℕ) → before ≤ g → 3 * sample_of m ≤ g
  long g l = (let e = sample in let t = w.three in omega (arith, e, t, l))

  -- Acts that are holds and polls, of ones and frames.
  sends : (ys : List Act) (ks : List Bool) (g : ℕ) (fs : List SentFrame) → Both 0 ys ks → ks ≡ replicate g true ++ line fs → before ≤ g →
      FairFrames (2 * scbr) 8 fs → Sends g fs (events_of ys m) m
  sends ys ks g fs b e l fair =
      record {
        on = st.on;
        awake = st.awake;
        runs = runs;
        searches = st.searches;
        stays = quiet_stays ys m (record { on = st.on; awake = st.awake }) b.quiet;
        levels =
            act_levels_holds ys m (subst (λ (c : ℕ). through.Fits c ys) (sym st.clock) b.good.fits) ∙ b.good.same ∙ e;
        long = long g l;
        fair =
            subst (λ (k : ℕ). FairFrames k (bits_in m) fs) (sym sample) (subst (λ (n : ℕ). FairFrames (2 * scbr) n fs) (sym st.bits) fair);
      }

  sends_all : Sends full.lead full.frames (events_of zs m) m
  sends_all = sends zs (ls ++ replicate behind true) full.lead full.frames split.whole full.same full.more full.fair

  sends_text : Sends before (text_frames s 0 text) (events_of xs m) m
  sends_text =
      sends xs ls before (text_frames s 0 text) split.part refl (omega arith)
      (text_fair s (2 * scbr) text 0 lasts w.some w.slow w.fast)

  -- ---- in time

  close : period ≤ earliest (bits_in m) * sample_of m
  close =
      subst (λ (n : ℕ). period ≤ earliest n * sample_of m) (sym st.bits) (subst (λ (k : ℕ). period ≤ 148 * k) (sym sample) w.close)

  timely : InTime (earliest (bits_in m) * sample_of m) (events_of zs m) m 0
  timely =
      subst (λ (ys : List Act). InTime (earliest (bits_in m) * sample_of m) (events_of ys m) m 0) split.is
      (in_time_holds (earliest (bits_in m) * sample_of m) period 0 0 body m 0 st.clear w.polled close)

  timely_text : InTime (earliest (bits_in m) * sample_of m) (events_of xs m) m 0
  timely_text =
      in_first (earliest (bits_in m) * sample_of m) (events_of xs m) (events_of (scheduled period split.passed c₁ tail).acts (left xs m)) m 0
      (subst (λ (es : List Event). InTime (earliest (bits_in m) * sample_of m) es m 0)
      (events_joined xs (scheduled period split.passed c₁ tail).acts m) timely)

  come_all : (words_came (log (events_of zs m) m) ≡ words_sent full.frames) × (lost_in (log (events_of zs m) m) ≡ 0)
  come_all = words_come (set_up scbr) (events_of zs m) full.lead full.frames sends_all st.clear timely

  come_text : words_came (log (events_of xs m) m) ≡ text
  come_text =
      (words_come (set_up scbr) (events_of xs m) before (text_frames s 0 text) sends_text st.clear timely_text).0 ∙ text_sent s text 0 w.bytes

  -- ---- delivered

  comes_all : comes zs m ≡ text
  comes_all = ap words_came (as_marked_holds (events_of zs m) m) ∙ come_all.0 ∙ full.words

  comes_text : comes xs m ≡ text
  comes_text = ap words_came (as_marked_holds (events_of xs m) m) ∙ come_text

  served : Served zs m
  served =
      record {
        quiet = split.whole.quiet;
        sound = subst Sound (sym st.slot) (clear 0);
        undamaged =
            no_flag (set_up scbr) (events_of zs m) full.lead full.frames sends_all (no_parity m.sci.sccr1 full.frames st.parity) st.undamaged;
        none = ap lost_in (as_marked_holds (events_of zs m) m) ∙ come_all.1;
      }

  abbrev later : List Act
  later = cond (eqb (behind - (period - split.passed)) 0) [] (acts period 0 (Hold s.pins true (behind - (period - split.passed))))

  tail_polls : (scheduled period split.passed c₁ tail).acts ≡ plays (Hold s.pins true (period - split.passed)) ∷ (polls ∷ later)
  tail_polls =
      tail_acts split.passed
      ∙ cut_poll period split.passed s.pins true behind w.polled split.within (let o = w.once in omega (arith, o))

  none_waits : pending (slot_of (left zs m).sci) ≡ []
  none_waits =
      subst (λ (ys : List Act). Served (xs ++ ys) m → comes (xs ++ ys) m ≡ comes xs m → pending (slot_of (left (xs ++ ys) m).sci) ≡ []) (sym tail_polls)
      (last_delivered xs later s.pins true (period - split.passed) m) served (comes_all ∙ sym comes_text)

  abbrev h : List Happening
  h = happened (events_of zs m) m

  serves_all : Serves (slot_of m.sci) h (slot_of (left zs m).sci)
  serves_all = all_serves zs m served

  all_delivered : delivered h ≡ text
  all_delivered =
      sym (append-nil (delivered h)) ∙ ap (λ (l : List ℕ). delivered h ++ l) (sym none_waits) ∙ sym serves_all.words
      ∙ ap (λ (v : Slot). pending v ++ came_in h) st.slot ∙ comes_all

  -- ---- heard

  heard_is : heard period (sent_trace s scbr before text behind) ≡ h
  unfolding events_of happened run
  heard_is =
      ap (λ (ys : List Act). happened (events_of ys reset_module) reset_module) (set_up_acts period scbr body w.whole)
      ∙ ap (λ (ys : List Act). happened (events_of ys m) m) split.is

  pub all_lines : lines period (sent_trace s scbr before text behind) ≡ text_lines text
  all_lines =
      lines_of_words period (sent_trace s scbr before text behind) (subst Clean (sym heard_is) serves_all.clean)
      ∙ ap (λ (k : List Happening). text_lines (delivered k)) heard_is ∙ ap text_lines all_delivered
