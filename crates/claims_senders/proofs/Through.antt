-- A fair frame is heard whole: by induction over its bits, from fall to rise and from rise to fall. Assumes nothing.
use mathlib.Core.Path.{◌≡◌, refl, ap, sym, subst, ◌∙◌}
use mathlib.Core.Bool.{Bool, true, false, true≢false}
use mathlib.Core.List.{List, [], ◌∷◌, ◌++◌, append_assoc}
use Prim.Native.Nat.{ℕ, suc, ◌+◌, ◌-◌, ◌*◌, ◌≤◌}
use native.Mathlib.Omega.{arith}
use lib.ListN.{length, replicate, length-append, length-replicate}
use Rattle.sci.specs.model.Framer.{searching}
use Rattle.sci.specs.declared.framer.Framer.{Framer}
use Rattle.claims_senders.specs.Fair.{Bit, Count, NotEarly, NotLate, Each, longer, FairBy, Fair, SentFrame, FairFrame, rest, levels, levels_of, data_of, word_of}
use Rattle.claims_senders.specs.Heard.{earliest, latest}
use Rattle.claims_senders.proofs.Inside.{Inside, turned}
use Rattle.claims_senders.proofs.Runs.{poured, last1, last2, last3, Ran}
use Rattle.claims_senders.proofs.Zeros.{InBounds, Which, new, old, Landed, lands_fall, lands_start, on_level}
use Rattle.claims_senders.proofs.Counts.{count, Has, here, there, has_longer, has_same, in_bounds, gathered, gathered_value, data_length}
use Rattle.claims_senders.proofs.Level.{Comes, Both, Ones, Zeros, HeardOnes, HeardZeros, before_it, levels_length, ones_same, zeros_same, ones_stop}

-- A frame that begins after t₀ samples and is over after t', with the word W; then ys.
module _ (n stop t₀ t' W : ℕ) (ys : List Bool) where
  abbrev ending : List Bit
  ending = record { level = true; lasts = stop } ∷ []

  -- A fall: ones up to it, then zeros with a count of their own.
  module _ (e : ℕ) (bs : List Bit) (cs : List Count) (t d s m j : ℕ) (a b c : Bool) (f : Framer)
      (h : Ones n stop t₀ t' W ys (record { level = false; lasts = e } ∷ bs) cs t d s m j f) where
    abbrev zs : List Bool
    zs = (replicate e false ++ levels (bs ++ ending)) ++ ys

    in_all : Each (NotEarly 1) cs × Each (NotLate 1) cs
    unfolding FairBy
    in_all = h.both.fair.0 refl

    to_the_fall : Ran n true d t (d + t) a b c f zs (h.w - d) (poured n true s m)
    to_the_fall =
        let p : InBounds (h.k + m) (h.u + d) = in_bounds in_all h.has in
        on_level true s (m + j) m j d t (d + t) (h.w - d) a b c zs h.inside refl (omega arith) (omega arith) (omega arith) (omega arith)
        (omega arith) refl (λ y. refl)

    after_the_fall : (a b c : Bool) (g : Framer) → Inside n true (h.w - d) (poured n true s m) g →
        Zeros n stop t₀ t' W ys bs (count 1 e ∷ longer e cs) (d + t) e (poured n true s m) 1 (j - 1) a b c g
    unfolding FairBy levels gathered data_of poured
    after_the_fall a b c g i =
        let p : InBounds (h.k + m) (h.u + d) = in_bounds in_all h.has in
        let q : InBounds h.both.k₁ h.both.u₁ = in_bounds in_all h.both.start in
        let o : Both n stop t₀ t' W ys true (record { level = false; lasts = e } ∷ bs) cs t d s m j = h.both in
        let l : j ≡ suc (length bs) = o.left in
        let z : length (replicate e false ++ levels (bs ++ ending)) ≡ e + length (levels (bs ++ ending)) = levels_length n stop t₀ t' W ys e false (levels (bs ++ ending)) in
        let y : t' ≡ t + (d + length (replicate e false ++ levels (bs ++ ending))) = o.time in
        record {
          both =
              record {
                left = omega arith;
                k₁ = suc o.k₁;
                u₁ = o.u₁ + e;
                start = there (has_longer (suc o.k₁) (o.u₁ + e) e o.start refl refl);
                bits = omega arith;
                since = omega arith;
                word = o.word;
                time = omega arith;
                fair = o.fair.1;
              };
          some = omega arith;
          k = h.k + m;
          u = h.u + d;
          j₀ = j;
          first = omega arith;
          lands =
              lands_fall n j (poured n true s m) (h.k + m) (h.u + d) (d + t) (h.w - d) a b c g i (omega arith) (omega arith) (omega arith);
          fresh = here;
          has = there (has_longer (h.k + m + 1) (h.u + d + e) e h.has (omega arith) refl);
          soon = omega arith;
          late = omega arith;
          soon' = omega arith;
          late' = omega arith;
        }

    falls_there : HeardZeros n stop t₀ t' W ys bs → Comes n stop t₀ t' W ys t a b c f (replicate d true ++ zs)
    falls_there ih =
        let r : Ran n true d t (d + t) a b c f zs (h.w - d) (poured n true s m) = to_the_fall in
        let z : Comes n stop t₀ t' W ys (d + t) (last1 d true a b c) (last2 d true a b c) (last3 d true a b c) r.to (replicate e false ++ (levels (bs ++ ending) ++ ys)) =
        ih (count 1 e ∷ longer e cs) (d + t) e (poured n true s m) 1 (j - 1) (last1 d true a b c) (last2 d true a b c) (last3 d true a b c) r.to
        (after_the_fall (last1 d true a b c) (last2 d true a b c) (last3 d true a b c) r.to r.inside) in
        before_it n stop t₀ t' W ys r.same
        (subst (Comes n stop t₀ t' W ys (d + t) (last1 d true a b c) (last2 d true a b c) (last3 d true a b c) r.to)
        (sym (append_assoc (replicate e false) (levels (bs ++ ending)) ys)) z)

  ones_fall : (e : ℕ) (bs : List Bit) → HeardZeros n stop t₀ t' W ys bs → HeardOnes n stop t₀ t' W ys (record { level = false; lasts = e } ∷ bs)
  unfolding levels
  ones_fall e bs ih cs t d s m j a b c f h = falls_there e bs cs t d s m j a b c f h ih

  -- A rise, or the stop bit after a zero.
  abbrev Rises : List Bit → Type 0
  Rises bs =
      (cs : List Count) → Fair 1 cs false (bs ++ ending) → (Each (NotEarly 1) cs × Each (NotLate 1) cs) × Fair 1 cs true (bs ++ ending)

  module _ (bs : List Bit) (rises : Rises bs) (cs : List Count) (t d s m j : ℕ) (a b c : Bool) (f : Framer) (h : Zeros n stop t₀ t' W ys bs cs t d s m j a b c f) where
    abbrev more : List Bool
    more = levels (bs ++ ending) ++ ys

    all_in : Each (NotEarly 1) cs × Each (NotLate 1) cs
    all_in = (rises cs h.both.fair).0

    to_the_rise : Landed n s t (d + t) a b c f h.k h.u m d j more
    to_the_rise = h.lands m j d (d + t) more h.first h.some refl (in_bounds all_in h.fresh) (in_bounds all_in h.has)

    on_with : (w k u : ℕ) (g : Framer) → InBounds k u → Has (count k u) cs → w + u ≡ 16 * (k + j) + 10 → Inside n false w (poured n false s m) g →
        t₀ + earliest n ≤ d + t + w → d + t + w ≤ t₀ + latest n → Ones n stop t₀ t' W ys bs cs (d + t) 0 (poured n false s m) 0 j g
    unfolding poured
    on_with w k u g p has e i soon late =
        let o : Both n stop t₀ t' W ys false bs cs t d s m j = h.both in
        record {
          both =
              record {
                left = o.left;
                k₁ = o.k₁;
                u₁ = o.u₁;
                start = o.start;
                bits = o.bits;
                since = omega arith;
                word = o.word;
                time = omega arith;
                fair = (rises cs o.fair).1;
              };
          w = w;
          k = k;
          u = u;
          inside = turned j true (omega arith) (omega arith) i;
          low = omega arith;
          high = omega arith;
          counted = omega arith;
          has = has_same (k + 0) (u + 0) has (omega arith) (omega arith);
          soon = soon;
          late = late;
        }

    by_count : (w : ℕ) (g : Framer) → Which w h.k h.u m d j → Inside n false w (poured n false s m) g →
        Ones n stop t₀ t' W ys bs cs (d + t) 0 (poured n false s m) 0 j g
    by_count w g (new e) i =
        let z : h.j₀ ≡ m + j = h.first in
        on_with w m d g (in_bounds all_in h.fresh) h.fresh e i (omega (arith, h.soon)) (omega (arith, h.late))
    by_count w g (old e) i =
        let z : h.j₀ ≡ m + j = h.first in
        on_with w (h.k + m) (h.u + d) g (in_bounds all_in h.has) h.has e i (omega (arith, h.soon')) (omega (arith, h.late'))

    rises_there : HeardOnes n stop t₀ t' W ys bs → Comes n stop t₀ t' W ys t a b c f (replicate d false ++ more)
    rises_there ih =
        let r : Landed n s t (d + t) a b c f h.k h.u m d j more = to_the_rise in
        before_it n stop t₀ t' W ys r.same (ih cs (d + t) 0 (poured n false s m) 0 j r.a' r.b' r.c' r.to (by_count r.w r.to r.which r.inside))

  rising : (bs : List Bit) → Rises bs → HeardOnes n stop t₀ t' W ys bs → HeardZeros n stop t₀ t' W ys bs
  rising bs rises ih cs t d s m j a b c f h = rises_there bs rises cs t d s m j a b c f h ih

  stop_rises : Rises []
  unfolding FairBy
  stop_rises cs h = (h.0 refl, (λ z. absurd (true≢false z), h.1))

  one_rises : (e : ℕ) (bs : List Bit) → Rises (record { level = true; lasts = e } ∷ bs)
  unfolding FairBy
  one_rises e bs cs h = (h.0 refl, (λ z. absurd (true≢false z), h.1))

  step : (x : Bool) (e : ℕ) (bs : List Bit) → HeardOnes n stop t₀ t' W ys bs → HeardZeros n stop t₀ t' W ys bs →
      HeardOnes n stop t₀ t' W ys (record { level = x; lasts = e } ∷ bs) × HeardZeros n stop t₀ t' W ys (record { level = x; lasts = e } ∷ bs)
  step true e bs o z =
      let p : HeardOnes n stop t₀ t' W ys (record { level = true; lasts = e } ∷ bs) = ones_same n stop t₀ t' W ys e bs o in
      (p, rising (record { level = true; lasts = e } ∷ bs) (one_rises e bs) p)
  step false e bs o z = (ones_fall e bs z, zeros_same n stop t₀ t' W ys e bs z)

  heard : (bs : List Bit) → HeardOnes n stop t₀ t' W ys bs × HeardZeros n stop t₀ t' W ys bs
  heard [] = (ones_stop n stop t₀ t' W ys, rising [] stop_rises (ones_stop n stop t₀ t' W ys))
  heard (b ∷ bs) = step b.level b.lasts bs (heard bs).0 (heard bs).1

-- A whole frame, after t samples, the last three of them ones.
pub frame_heard : (n t : ℕ) (f : SentFrame) (ys : List Bool) → length f.bits ≡ n → FairFrame 1 f →
    Comes n f.stop t (t + length (levels_of f)) (word_of f) ys t true true true searching (levels_of f ++ ys)
unfolding poured
frame_heard n t f ys l h =
    let e : length (levels_of f) ≡ f.start + length (levels (rest f)) =
    length-append (replicate f.start false) (levels (rest f)) ∙ rw (length-replicate f.start false) in
    let g : n ≡ length (data_of f.bits) = sym l ∙ sym (data_length f.bits) in
    let z : Zeros n f.stop t (t + length (levels_of f)) (word_of f) ys f.bits (count 1 f.start ∷ []) t f.start 0 1 n true true true searching =
    record {
      both =
          record {
            left = sym l;
            k₁ = 1;
            u₁ = f.start;
            start = here;
            bits = omega arith;
            since = refl;
            word = sym (gathered_value n (data_of f.bits) g);
            time = ap (λ (y : ℕ). t + y) e;
            fair = h;
          };
      some = omega arith;
      k = 0;
      u = 0;
      j₀ = suc n;
      first = omega arith;
      lands = lands_start n t;
      fresh = here;
      has = has_same (0 + 1) (0 + f.start) here refl (omega arith);
      soon = omega arith;
      late = omega arith;
      soon' = omega arith;
      late' = omega arith;
    } in
    subst (Comes n f.stop t (t + length (levels_of f)) (word_of f) ys t true true true searching)
    (sym (append_assoc (replicate f.start false) (levels (rest f)) ys))
    ((heard n f.stop t (t + length (levels_of f)) (word_of f) ys f.bits).1 (count 1 f.start ∷ []) t f.start 0 1 n true true true searching z)
