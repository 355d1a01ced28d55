-- A text's frames with ones behind the last: they are its stop bit's pause, and with no frame at all more of the ones before. Assumes nothing.
use mathlib.Core.Path.{◌≡◌, refl, ap, ap₂, sym, ◌∙◌}
use mathlib.Core.Bool.{Bool, true, false}
use mathlib.Core.List.{List, [], ◌∷◌, ◌++◌, append_assoc, append-nil}
use Prim.Native.Nat.{ℕ, zero, suc, ◌+◌, ◌*◌, ◌/◌, ◌<◌, ◌≤◌}
use native.Mathlib.Omega.{arith}
use lib.ListN.{replicate}
use Rattle.tool_assemble.specs.declared.sent.Sent.{Sent}
use Rattle.claims_senders.specs.Fair.{Bit, SentFrame, levels, levels_of, line, data_of, words_sent, FairFrames, FairFrame}
use Rattle.claims_senders.specs.Rates.{bits_at, frame_at}
use Rattle.claims_senders.proofs.Grid.{rates}
use Rattle.claims_text.specs.Text.{Bytes, bits_of_byte, byte_frame, text_frames}
use Rattle.claims_text.proofs.Sending.{byte_word}

replicate_joined : (a h : ℕ) → replicate a true ++ replicate h true ≡ replicate (a + h) true
replicate_joined zero h = let e : h ≡ 0 + h = omega arith in ap (λ (k : ℕ). replicate k true) e
replicate_joined (suc a) h =
    let e : suc (a + h) ≡ suc a + h = omega arith in
    ap (λ (l : List Bool). true ∷ l) (replicate_joined a h) ∙ ap (λ (k : ℕ). replicate k true) e

abbrev stop : ℕ → List Bit
stop t = record { level = true; lasts = t } ∷ []

stop_longer : (bs : List Bit) (a h : ℕ) → levels (bs ++ stop (a + 0)) ++ replicate h true ≡ levels (bs ++ stop (a + h))
unfolding levels
stop_longer [] a h =
    let e : a + 0 ≡ a = omega arith in
    ap (λ (l : List Bool). l ++ replicate h true) (append-nil (replicate (a + 0) true)) ∙ ap (λ (k : ℕ). replicate k true ++ replicate h true) e
    ∙ replicate_joined a h ∙ sym (append-nil (replicate (a + h) true))
stop_longer (b ∷ bs) a h =
    append_assoc (replicate b.lasts b.level) (levels (bs ++ stop (a + 0))) (replicate h true)
    ∙ ap (λ (l : List Bool). replicate b.lasts b.level ++ l) (stop_longer bs a h)

frame_longer : (start : ℕ) (bs : List Bit) (a h : ℕ) →
    levels_of (record { start = start; bits = bs; stop = a + 0 }) ++ replicate h true ≡ levels_of (record { start = start; bits = bs; stop = a + h })
frame_longer start bs a h =
    append_assoc (replicate start false) (levels (bs ++ stop (a + 0))) (replicate h true)
    ∙ ap (λ (l : List Bool). replicate start false ++ l) (stop_longer bs a h)

module _ (s : Sent) (h : ℕ) where
  -- Bytes b and bs from bit k on, and h ones.
  paused : ℕ → ℕ → List ℕ → List SentFrame
  paused k b [] = frame_at s.clock s.baud (s.baud / 2) k (bits_of_byte b) h ∷ []
  paused k b (c ∷ bs) = byte_frame s k b ∷ paused (k + 10) c bs

  paused_line : (k b : ℕ) (bs : List ℕ) → line (text_frames s k (b ∷ bs)) ++ replicate h true ≡ line (paused k b bs)
  unfolding paused line text_frames
  paused_line k b [] =
      let f : SentFrame = byte_frame s k b in
      ap (λ (l : List Bool). l ++ replicate h true) (append-nil (levels_of f))
      ∙ frame_longer f.start f.bits _ h ∙ sym (append-nil _)
  paused_line k b (c ∷ bs) =
      append_assoc (levels_of (byte_frame s k b)) (line (text_frames s (k + 10) (c ∷ bs))) (replicate h true)
      ∙ ap (λ (l : List Bool). levels_of (byte_frame s k b) ++ l) (paused_line (k + 10) c bs)

  paused_sent : (k b : ℕ) (bs : List ℕ) → Bytes (b ∷ bs) → words_sent (paused k b bs) ≡ b ∷ bs
  unfolding paused words_sent Bytes data_of bits_at
  paused_sent k b [] p = ap (λ (w : ℕ). w ∷ []) (byte_word b p.0)
  paused_sent k b (c ∷ bs) p = ap₂ (λ (w : ℕ) (ws : List ℕ). w ∷ ws) (byte_word b p.0) (paused_sent (k + 10) c bs p.1)

  module _ (clocks : ℕ) (pos : 0 < clocks) (some : 0 < s.baud) (slow : 154 * clocks * s.baud + s.baud ≤ 10 * s.clock)
      (fast : 9 * s.clock + s.baud ≤ 151 * clocks * s.baud) where
    one_fair : (k pause b : ℕ) → FairFrame clocks (frame_at s.clock s.baud (s.baud / 2) k (bits_of_byte b) pause)
    one_fair k pause b = rates.rounded clocks s.clock s.baud (s.baud / 2) k pause (bits_of_byte b) pos some slow fast

    paused_fair : (k b : ℕ) (bs : List ℕ) → FairFrames clocks 8 (paused k b bs)
    unfolding paused FairFrames bits_at
    paused_fair k b [] = (refl, one_fair k h b, tt)
    paused_fair k b (c ∷ bs) = (refl, one_fair k 0 b, paused_fair (k + 10) c bs)

    -- g ones, a text and h ones, as ones and frames.
    pub record Whole (g : ℕ) (bs : List ℕ) : Type 0 where
      pub lead : ℕ
      pub frames : List SentFrame
      pub more : g ≤ lead
      pub same : (replicate g true ++ line (text_frames s 0 bs)) ++ replicate h true ≡ replicate lead true ++ line frames
      pub fair : FairFrames clocks 8 frames
      pub words : words_sent frames ≡ bs

    pub whole : (g : ℕ) (bs : List ℕ) → Bytes bs → Whole g bs
    unfolding line text_frames FairFrames words_sent
    whole g [] p =
        record {
          lead = g + h;
          frames = [];
          more = omega arith;
          same =
              ap (λ (l : List Bool). l ++ replicate h true) (append-nil (replicate g true)) ∙ replicate_joined g h
              ∙ sym (append-nil (replicate (g + h) true));
          fair = tt;
          words = refl;
        }
    whole g (b ∷ bs) p =
        record {
          lead = g;
          frames = paused 0 b bs;
          more = omega arith;
          same =
              append_assoc (replicate g true) (line (text_frames s 0 (b ∷ bs))) (replicate h true)
              ∙ ap (λ (l : List Bool). replicate g true ++ l) (paused_line 0 b bs);
          fair = paused_fair 0 b bs;
          words = paused_sent 0 b bs p;
        }
