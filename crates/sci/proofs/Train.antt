-- Frames back to back.
-- Assumes nothing.
use Prim.Native.Nat.{ℕ, suc, ◌+◌, ◌*◌, ◌-◌, ◌%◌, ◌^◌, ◌<◌}
use mathlib.Core.Path.{◌≡◌, ap, sym, subst, ◌∙◌}
use mathlib.Core.List.{List, [], ◌∷◌, ◌++◌, append_assoc}
use mathlib.Core.Bool.{Bool, true, false, ◌&&◌, false≢true}
use native.Mathlib.Omega.{arith}
use native.Mathlib.Decide.{dec_lt}
use lib.ListN.{replicate, length, take, get_or, length-append, length-replicate, get_or-append, get_or-replicate}
use lib.Seq.{take-length, get_or-take, get_or-append-add, get_or-append_seam}
use Rattle.sci.specs.model.Control.{PT, PE, M, bits_of, frame_samples, settings}
use Rattle.sci.specs.model.Bits.{parity_bit}
use Rattle.sci.specs.claims.Levels.{low_bits, value, frame_levels, end_sample}
use Rattle.sci.specs.claims.Line.{Op, sample, read, act, acts}
use Rattle.sci.specs.claims.Link.{sent_around, shown, data_bits, samples_of, InScdr}
use Rattle.sci.specs.claims.BackToBack.{Turn, sent_all, levels_of, samples_in, Begins, Sends, reads_data, reads_both, Attended, WordForWord, BackToBack}
use Rattle.sci.specs.declared.receiver.Received.{Received}
use Rattle.sci.specs.declared.transmitter.Transmitter.{Transmitter}
use Rattle.sci.proofs.Sending.{low_length, value_low}
use Rattle.sci.proofs.Stages.{Stage, waiting, seen, free, stages}
use Rattle.sci.proofs.Going.{line_of, Rested, start, Going, going}
use Rattle.sci.proofs.Arriving.{stop_level, delivered, still_clean, searches_again, ones_again, awake_again}
use Rattle.sci.proofs.Linked.{levels_length, frames_shown, frames_begin, same_M, same_PE, same_PT, parity_link, ready_rested, stages_free}

line_length : (g : ℕ) (bits : List Bool) (n : ℕ) → length (frame_levels bits) ≡ frame_samples n → length (line_of g bits) ≡ g + frame_samples n
line_length g bits n e = rw (length-append (replicate g true) (frame_levels bits), length-replicate g true, e)

-- The last six levels of a frame are ones before the next.
six_left : (g n : ℕ) (bits rest : List Bool) → n ≡ length bits → length (frame_levels bits) ≡ frame_samples n → (j : ℕ) →
    get_or (line_of g bits ++ rest) (g + suc (end_sample n) + j) true ≡ get_or (replicate 6 true ++ rest) j true
six_left g n bits rest e m j = go (dec_lt j 6)
  where
    go : Dec (j < 6) → get_or (line_of g bits ++ rest) (g + suc (end_sample n) + j) true ≡ get_or (replicate 6 true ++ rest) j true
    go (yes u) =
        let z : g + suc (end_sample n) + j ≡ g + (16 * length bits + 16 + (10 + j)) = omega arith in
        get_or-append (line_of g bits) rest true (g + suc (end_sample n) + j) (omega (arith, line_length g bits n m))
        ∙ ap (λ (i : ℕ). get_or (line_of g bits) i true) z
        ∙ stop_level g bits (10 + j) (omega arith)
        ∙ sym (get_or-replicate 6 j true true u) ∙ sym (get_or-append (replicate 6 true) rest true j u)
    go (no u) =
        let z : g + suc (end_sample n) + j ≡ length (line_of g bits) + (j - 6) = omega (arith, line_length g bits n m) in
        let y : length (replicate 6 true) + (j - 6) ≡ j = omega arith in
        ap (λ (i : ℕ). get_or (line_of g bits ++ rest) i true) z ∙ get_or-append-add (line_of g bits) rest (j - 6) true
        ∙ sym (get_or-append-add (replicate 6 true) rest (j - 6) true) ∙ ap (λ (i : ℕ). get_or (replicate 6 true ++ rest) i true) y

-- The reads that a turn asks for make RDRF fall.
sees : (os : List Op) → reads_data os ≡ true → stages os seen ≡ free
unfolding reads_data stages
sees [] h = absurd (false≢true h)
sees (sample x ∷ os) h = sees os h
sees (read scsr true ∷ os) h = stages_free os
sees (read scsr false ∷ os) h = sees os h

pub both : (os : List Op) → reads_both os ≡ true → stages os waiting ≡ free
unfolding reads_both stages
both [] h = absurd (false≢true h)
both (sample x ∷ os) h = both os h
both (read true true ∷ os) h = stages_free os
both (read true false ∷ os) h = sees os h
both (read false scdr ∷ os) h = both os h

-- One turn: g ones, then the frame of these bits, then the rest of the line.
record Turned (d : ℕ) (bits rest more : List Bool) (p : Received) : Type 0 where
  word : InScdr (value bits) p
  rested : Rested waiting p
  agree : (j : ℕ) → j < length more → get_or more j true ≡ get_or (replicate 6 true ++ rest) j true

turn : (d g : ℕ) (st : Stage) (p : Received) (os : List Op) (x : Bool) (bits rest more : List Bool) → bits_of (M d) ≡ length bits →
    length (frame_levels bits) ≡ frame_samples (bits_of (M d)) → PE d && parity_bit (PT d) (value bits) ≡ false → Rested st p →
    stages os st ≡ free → length (samples_of os) ≡ g + end_sample (bits_of (M d)) →
    ((j : ℕ) → j < length (samples_of os ++ (x ∷ more)) → get_or (samples_of os ++ (x ∷ more)) j true ≡ get_or (line_of g bits ++ rest) j true) →
    Turned d bits rest more (act d (sample x) (acts d os p))
unfolding act
turn d g st p os x bits rest more sized long even r staged m agree =
    record {
      word = delivered d g bits sized (acts d os p) stands x one even;
      rested =
          record {
            searches = searches_again d g bits sized (acts d os p) stands x one even;
            ones = ones_again d g bits sized (acts d os p) stands x one even;
            awake = awake_again d g bits sized (acts d os p) stands x one even;
            clean = still_clean d g bits sized (acts d os p) stands x one even;
            rdrf = tt;
          };
      agree = λ j u.
          let z : g + suc (end_sample (bits_of (M d))) + j ≡ length (samples_of os) + suc j = omega (arith, m) in
          sym (get_or-append-add (samples_of os) (x ∷ more) (suc j) true)
          ∙ agree (length (samples_of os) + suc j) (rw (length-append (samples_of os) (x ∷ more)) (omega arith))
          ∙ ap (λ (i : ℕ). get_or (line_of g bits ++ rest) i true) (sym z)
          ∙ six_left g (bits_of (M d)) bits rest sized long j;
    }
  where
    whole : length (line_of g bits) ≡ g + frame_samples (bits_of (M d))
    whole = line_length g bits (bits_of (M d)) long

    on : (j : ℕ) → j < length (samples_of os) → get_or (samples_of os) j true ≡ get_or (line_of g bits) (0 + j) true
    on j u =
        let z : j ≡ 0 + j = omega arith in
        sym (get_or-append (samples_of os) (x ∷ more) true j u)
        ∙ agree j (rw (length-append (samples_of os) (x ∷ more)) (omega arith))
        ∙ get_or-append (line_of g bits) rest true j (omega (arith, m, whole))
        ∙ ap (λ (i : ℕ). get_or (line_of g bits) i true) z

    one : x ≡ true
    one =
        let z : length (samples_of os) ≡ g + (16 * length bits + 16 + 9) = omega (arith, m, sized) in
        sym (get_or-append_seam (samples_of os) x more true)
        ∙ agree (length (samples_of os)) (rw (length-append (samples_of os) (x ∷ more)) (omega arith))
        ∙ get_or-append (line_of g bits) rest true (length (samples_of os)) (omega (arith, m, whole))
        ∙ ap (λ (i : ℕ). get_or (line_of g bits) i true) z ∙ stop_level g bits 9 (omega arith)

    there : 0 + length (samples_of os) ≡ g + end_sample (bits_of (M d))
    there = omega (arith, m)

    stands : Going (bits_of (M d)) g (line_of g bits) (g + end_sample (bits_of (M d))) free (acts d os p)
    stands =
        subst (λ (s : Stage). Going (bits_of (M d)) g (line_of g bits) (g + end_sample (bits_of (M d))) s (acts d os p)) staged
        (subst (λ (k : ℕ). Going (bits_of (M d)) g (line_of g bits) k (stages os st) (acts d os p)) there
        (going d g bits sized os 0 st p (start (bits_of (M d)) g bits st p r) on (omega (arith, there))))

-- The bits of a turn, by the transmitter's settings and the receiver's.
module _ (d : ℕ) (u : Turn) (t : Transmitter) (b : Begins (settings d) u t) where
  abbrev c : ℕ
  c = u.begin.sccr1

  abbrev bits : List Bool
  bits = low_bits (bits_of (M c)) (data_bits c u.begin.scdr)

  sized : bits_of (M d) ≡ length bits
  sized = ap bits_of (sym (same_M c d b.same)) ∙ sym (low_length (bits_of (M c)) (data_bits c u.begin.scdr))

  long : length (frame_levels bits) ≡ frame_samples (bits_of (M d))
  long = levels_length (bits_of (M c)) (data_bits c u.begin.scdr) ∙ ap (λ (m : Bool). frame_samples (bits_of m)) (same_M c d b.same)

  even : PE d && parity_bit (PT d) (value bits) ≡ false
  even =
      rw (← same_PE c d b.same, ← same_PT c d b.same, value_low (bits_of (M c)) (data_bits c u.begin.scdr))
      (parity_link c u.begin.scdr)

  levels : shown u.later (sent_around u.begin t) ≡ frame_levels bits
  levels =
      let r : Transmitter = record { scdr = u.begin.scdr; preamble = u.begin.preamble; shift = t.shift; left = t.left } in
      frames_shown (bits_of (M c)) (data_bits c u.begin.scdr) (sent_around u.begin t) u.later
      (frames_begin r u.begin.status c b.frame) (omega (arith, b.whole))
      ∙ ap (λ (k : ℕ). take k (frame_levels bits)) (b.whole ∙ sym (levels_length (bits_of (M c)) (data_bits c u.begin.scdr)))
      ∙ take-length (frame_levels bits)

  word_sent : value bits ≡ data_bits c u.begin.scdr % 2 ^ bits_of (M d)
  word_sent =
      value_low (bits_of (M c)) (data_bits c u.begin.scdr)
      ∙ ap (λ (m : Bool). data_bits c u.begin.scdr % 2 ^ bits_of m) (same_M c d b.same)

  -- A turn of a train.
  one_turn : (g : ℕ) (st : Stage) (p : Received) (rest more : List Bool) → Rested st p → stages u.ops st ≡ free →
      length (samples_of u.ops) ≡ g + end_sample (bits_of (M d)) →
      ((j : ℕ) → j < length (samples_of u.ops ++ (u.last ∷ more)) →
      get_or (samples_of u.ops ++ (u.last ∷ more)) j true
      ≡ get_or (replicate g true ++ (shown u.later (sent_around u.begin t) ++ rest)) j true) →
      Turned d bits rest more (act d (sample u.last) (acts d u.ops p))
  one_turn g st p rest more r s m a =
      turn d g st p u.ops u.last bits rest more sized long even r s m
      (λ j l.
      a j l
      ∙ ap (λ (xs : List Bool). get_or (replicate g true ++ (xs ++ rest)) j true) levels
      ∙ ap (λ (xs : List Bool). get_or xs j true) (sym (append_assoc (replicate g true) (frame_levels bits) rest)))

train : (d : ℕ) (us : List Turn) (t : Transmitter) (p : Received) → Rested waiting p → Sends (settings d) us t →
    Attended (bits_of (M d)) us →
    ((j : ℕ) → j < length (samples_in us) → get_or (samples_in us) j true ≡ get_or (replicate 6 true ++ levels_of us t) j true) →
    WordForWord d us p
unfolding Sends Attended samples_in levels_of WordForWord
train d [] t p r s h a = tt
train d (u ∷ us) t p r s h a =
    let t' : Transmitter = sent_all u.later (sent_around u.begin t) in
    let z : Turned d (bits d u t s.0) (levels_of us t') (samples_in us) (act d (sample u.last) (acts d u.ops p)) =
    one_turn d u t s.0 6 waiting p (levels_of us t') (samples_in us) r (both u.ops h.0.reads) (omega (arith, h.0.spaced)) a in (
      subst (λ (v : ℕ). InScdr v (act d (sample u.last) (acts d u.ops p))) (word_sent d u t s.0) z.word,
      train d us t' (act d (sample u.last) (acts d u.ops p)) z.rested s.1 h.1 z.agree,
    )

pub back_to_back_holds : BackToBack
unfolding Sends samples_in levels_of WordForWord
back_to_back_holds d u us t p s r m h e =
    let t' : Transmitter = sent_all u.later (sent_around u.begin t) in
    let q : Rested free p = ready_rested p r in
    let xs : List Bool = samples_of u.ops ++ (u.last ∷ samples_in us) in
    let ys : List Bool = shown u.later (sent_around u.begin t) ++ levels_of us t' in
    let z : Turned d (bits d u t s.0) (levels_of us t') (samples_in us) (act d (sample u.last) (acts d u.ops p)) =
    one_turn d u t s.0 0 free p (levels_of us t') (samples_in us) q (stages_free u.ops) (omega (arith, m))
    (λ j l. ap (λ (v : List Bool). get_or v j true) e ∙ get_or-take (length xs) ys j true l) in (
      subst (λ (v : ℕ). InScdr v (act d (sample u.last) (acts d u.ops p))) (word_sent d u t s.0) z.word,
      train d us t' (act d (sample u.last) (acts d u.ops p)) z.rested s.1 h z.agree,
    )
