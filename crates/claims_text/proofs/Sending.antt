-- A text's frames are fair and its words are its bytes; so they come. Assumes nothing.
use mathlib.Core.Path.{◌≡◌, refl, ap, ap₂, sym, subst, ◌∙◌}
use mathlib.Core.Bool.{Bool, false, ◌&&◌}
use mathlib.Core.List.{List, [], ◌∷◌}
use Prim.Native.Nat.{ℕ, ◌+◌, ◌*◌, ◌/◌, ◌%◌, ◌^◌, ◌<◌, ◌≤◌}
use native.Mathlib.Omega.{arith}
use native.Mathlib.Nat.{le-div_iff_mul-le, div-mul-le_self, add-mul, add-mul-div_right}
use borrow.Author.Tests.{ne_eqb}
use lib.Dec.{eqb}
use lib.ListN.{length}
use Rattle.sci.specs.claims.Levels.{value, low_bits}
use Rattle.sci.specs.model.Control.{SCBR, PE, PT}
use Rattle.sci.specs.model.Bits.{parity_bit}
use Rattle.sci.proofs.Sending.{value_low}
use Rattle.qsm.specs.model.State.{reset_module}
use Rattle.qsm.specs.model.Event.{clock_limit}
use Rattle.qsm.specs.declared.state.Module.{Module}
use Rattle.qsm.specs.declared.event.Event.{Event}
use Rattle.claims_histories.specs.History.{run, log}
use Rattle.tool_lines.specs.Schedule.{scheduled}
use Rattle.claims_polling.specs.Rule.{lost_in, on, started}
use Rattle.claims_polling.specs.Replays.{replayed}
use Rattle.tool_assemble.specs.Sent.{edge, bit_clocks}
use Rattle.tool_assemble.specs.declared.sent.Sent.{Sent}
use Rattle.claims_assembling.specs.Traces.{held, clocks_of}
use Rattle.claims_deadlines.proofs.Replaying.{in_time_holds}
use Rattle.claims_senders.specs.Fair.{SentFrame, data_of, word_of, words_sent, FairFrames, line}
use Rattle.claims_senders.specs.Heard.{earliest}
use Rattle.claims_senders.specs.Rates.{bits_at}
use Rattle.claims_senders.specs.Undamaged.{RightParity}
use Rattle.claims_senders.proofs.Grid.{rates}
use Rattle.claims_through.specs.Through.{sample_of, bits_in, OnRxd, words_came}
use Rattle.claims_through.proofs.Whole.{words_through, none_damaged}
use Rattle.claims_through.proofs.Levels.{act_levels_holds}
use Rattle.claims_through.proofs.Polls.{quiet_stays}
use Rattle.claims_through.proofs.Meeting.{begun}
use Rattle.claims_text.specs.Text.{Bytes, bits_of_byte, text_frames, InReach, sender, text, TextWords}
use Rattle.claims_text.proofs.Held.{Sendable, Both, text_both}

low_eight : (b : ℕ) → bits_of_byte b ≡ low_bits 8 b
unfolding low_bits
low_eight b =
    λ j. is (e₀ j) ∷ is (e₁ j) ∷ is (e₂ j) ∷ is (e₃ j) ∷ is (e₄ j) ∷ is (e₅ j) ∷ is (e₆ j) ∷ is (e₇ j) ∷ []
  where
    is : ℕ → Bool
    is n = eqb (n % 2) 1

    e₀ : b / 2 ^ 0 ≡ b
    e₀ = omega arith

    e₁ : b / 2 ^ 1 ≡ b / 2
    e₁ = omega arith

    e₂ : b / 2 ^ 2 ≡ b / 2 / 2
    e₂ = omega arith

    e₃ : b / 2 ^ 3 ≡ b / 2 / 2 / 2
    e₃ = omega arith

    e₄ : b / 2 ^ 4 ≡ b / 2 / 2 / 2 / 2
    e₄ = omega arith

    e₅ : b / 2 ^ 5 ≡ b / 2 / 2 / 2 / 2 / 2
    e₅ = omega arith

    e₆ : b / 2 ^ 6 ≡ b / 2 / 2 / 2 / 2 / 2 / 2
    e₆ = omega arith

    e₇ : b / 2 ^ 7 ≡ b / 2 / 2 / 2 / 2 / 2 / 2 / 2
    e₇ = omega arith

pub byte_word : (b : ℕ) → b < 256 → value (bits_of_byte b) ≡ b
byte_word b h = let w : b % 2 ^ 8 ≡ b = omega (arith, h) in ap value (low_eight b) ∙ value_low 8 b ∙ w

pub text_sent : (s : Sent) (bs : List ℕ) (k : ℕ) → Bytes bs → words_sent (text_frames s k bs) ≡ bs
unfolding words_sent text_frames Bytes data_of bits_at
text_sent s [] k h = refl
text_sent s (b ∷ bs) k h = ap₂ (λ (w : ℕ) (ws : List ℕ). w ∷ ws) (byte_word b h.0) (text_sent s bs (k + 10) h.1)

pub text_fair : (s : Sent) (clocks : ℕ) (bs : List ℕ) (k : ℕ) → 0 < clocks → 0 < s.baud →
    154 * clocks * s.baud + s.baud ≤ 10 * s.clock → 9 * s.clock + s.baud ≤ 151 * clocks * s.baud → FairFrames clocks 8 (text_frames s k bs)
unfolding text_frames FairFrames bits_at
text_fair s clocks [] k p r slow fast = tt
text_fair s clocks (b ∷ bs) k p r slow fast =
    (refl, rates.rounded clocks s.clock s.baud (s.baud / 2) k 0 (bits_of_byte b) p r slow fast, text_fair s clocks bs (k + 10) p r slow fast)

-- ---- a bit's clocks

below : (a b k : ℕ) → 0 < k → a ≤ b → a / k ≤ b / k
below a b k pos h = (le-div_iff_mul-le pos).1 (omega (arith, div-mul-le_self a k))

few : (a h q b : ℕ) → 0 < b → h ≤ q * b → (a + h) / b ≤ a / b + q
few a h q b pos l =
    let x : a + h ≤ a + q * b = omega (arith, l) in
    let y : (a + h) / b ≤ (a + q * b) / b = below (a + h) (a + q * b) b pos x in
    omega (arith, y, add-mul-div_right a q {z = b} pos)

pub bit_few : (s : Sent) (k q : ℕ) → 0 < s.baud → s.clock ≤ q * s.baud → bit_clocks s k ≤ q
unfolding edge
bit_few s k q pos l =
    let o : ℕ = s.baud / 2 in
    let e : (k + 1) * s.clock + o ≡ k * s.clock + o + s.clock = omega (arith, add-mul k 1 s.clock) in
    let y : (k * s.clock + o + s.clock) / s.baud ≤ (k * s.clock + o) / s.baud + q = few (k * s.clock + o) s.clock q s.baud pos l in
    rw (ne_eqb s.baud 0 (λ z. omega arith), e) (omega (arith, y))

pub slower : (h b x : ℕ) → 9 * h + b ≤ x → h ≤ x
slower h b x l = omega arith

small : (n v : ℕ) → n ≤ 151 * (2 * SCBR v) → n < 2 ^ 32
small n v l = omega arith

sendable : (s : Sent) (bs : List ℕ) (period since : ℕ) (m : Module) → InReach s bs period since m → Sendable s
sendable s bs period since m i =
    record {
      pins = i.pins;
      rate = i.some;
      short = λ k.
          small (bit_clocks s k) m.sci.sccr0
          (bit_few s k (151 * sample_of m) i.some (slower s.clock s.baud (151 * sample_of m * s.baud) i.fast));
    }

sends : (past : List Event) (s : Sent) (bs : List ℕ) (period since : ℕ) → let m : Module = run past reset_module in
    InReach s bs period since m → OnRxd (text_frames s 0 bs) (replayed period since m.clock (held s 0 bs) m) m
sends past s bs period since i =
    let m : Module = run past reset_module in
    let ok : Sendable s = sendable s bs period since m i in
    let pos : 0 < period = let l = i.within in omega (arith, l) in
    let b : Both m.clock (scheduled period since m.clock (held s 0 bs)).acts (line (text_frames s 0 bs)) =
    text_both period pos s ok m.clock bs since i.within i.room in
    let runs : 0 < sample_of m = let z = i.ready.runs in omega (arith, z) in
    record {
      ready = i.ready;
      stays = quiet_stays (scheduled period since m.clock (held s 0 bs)).acts m (record { on = i.ready.on; awake = i.ready.awake }) b.quiet;
      levels = act_levels_holds (scheduled period since m.clock (held s 0 bs)).acts m b.good.fits ∙ b.good.same;
      fair =
          subst (λ (n : ℕ). FairFrames (sample_of m) n (text_frames s 0 bs)) (sym i.eight)
          (text_fair s (sample_of m) bs 0 runs ok.rate i.slow i.fast);
    }

words : (past : List Event) (s : Sent) (bs : List ℕ) (period since : ℕ) → Bytes bs → InReach s bs period since (run past reset_module) →
    (words_came (log (replayed period since (run past reset_module).clock (held s 0 bs) (run past reset_module)) (run past reset_module)) ≡ bs)
    × (lost_in (log (replayed period since (run past reset_module).clock (held s 0 bs) (run past reset_module)) (run past reset_module)) ≡ 0)
words past s bs period since bytes i =
    let m : Module = run past reset_module in
    let close : period ≤ earliest (bits_in m) * sample_of m =
    subst (λ (n : ℕ). period ≤ earliest n * sample_of m) (sym i.eight) i.close in
    let es : List Event = replayed period since m.clock (held s 0 bs) m in
    let w : (words_came (log es m) ≡ words_sent (text_frames s 0 bs)) × (lost_in (log es m) ≡ 0) =
    words_through past es (text_frames s 0 bs) (sends past s bs period since i) i.clear
    (in_time_holds (earliest (bits_in m) * sample_of m) period since m.clock (held s 0 bs) m 0 i.clear i.within close) in
    (w.0 ∙ text_sent s bs 0 bytes, w.1)

-- Without parity none is wrong.
pub no_parity : (c : ℕ) (fs : List SentFrame) → PE c ≡ false → RightParity c fs
unfolding RightParity
no_parity c [] e = tt
no_parity c (f ∷ fs) e = (ap (λ (b : Bool). b && parity_bit (PT c) (word_of f)) e, no_parity c fs e)

-- ---- a text

text_clocks : clocks_of sender (10 * length text) ≡ 630
unfolding clocks_of edge
text_clocks = refl

text_bytes : Bytes text
unfolding Bytes
text_bytes = (omega arith, (omega arith, tt))

in_limit : (c n : ℕ) → c ≡ 6 → n ≡ 630 → c + n ≤ clock_limit
in_limit c n e f = omega (arith, e, f)

reach : InReach sender text 296 0 (started false)
reach =
    record {
      ready = begun.ready;
      clear = begun.clear;
      eight = begun.bits;
      pins = omega arith;
      some = omega arith;
      slow = rw begun.sample (omega arith);
      fast = rw begun.sample (omega arith);
      within = omega arith;
      close = rw begun.sample (omega arith);
      room = in_limit (started false).clock (clocks_of sender (10 * length text)) begun.clock text_clocks;
    }

pub text_words : TextWords
text_words = record { words = words; undamaged = λ past s bs period since i e u. none_damaged past (replayed period since (run past reset_module).clock (held s 0 bs) (run past reset_module)) (text_frames s 0 bs) (sends past s bs period since i) (no_parity (run past reset_module).sci.sccr1 (text_frames s 0 bs) e) u; met = record { reach = reach; words = (words (on false) sender text 296 0 text_bytes reach).0 } }
