-- The noise figure, sample by sample, at any RT. Assumes nothing.
use mathlib.Core.Path.{◌≡◌, refl, sym, ap, subst, ◌∙◌}
use mathlib.Core.Bool.{Bool, true, false, cond}
use Prim.Native.Nat.{ℕ, zero, suc, ◌+◌, ◌%◌, ◌≤◌}
use native.Mathlib.Omega.{arith}
use Rattle.sci.specs.model.Framer.{start_bit, fixed, framed}
use Rattle.sci.specs.declared.framer.Framer.{Framer}
use Rattle.sci.proofs.Moves.{moving}
use Rattle.claims_clauses.specs.Noise.{start_gives, bit_gives}
use Rattle.claims_clauses.proofs.Figure.{made, start, InStart, InBits, Going, bits}
use Rattle.claims_clauses.proofs.FigureInStart.{FromStart, start_2, start_3, start_4, start_5, start_6, start_7, start_8, start_9, start_10, start_11, start_12, start_13, start_14, start_15, start_16}
use Rattle.claims_clauses.proofs.FigureBeforeVote.{FromBits, bits_0, bits_1, bits_2, bits_3, bits_4, bits_5, bits_6, bits_16}
use Rattle.claims_clauses.proofs.FigureInVote.{bits_7, bits_8, bits_9}
use Rattle.claims_clauses.proofs.FigureAfterVote.{bits_10, bits_11, bits_12, bits_13, bits_14, bits_15}

each : (P : ℕ → Type 0) → P 0 → P 1 → P 2 → P 3 → P 4 → P 5 → P 6 → P 7 → P 8 → P 9 → P 10 → P 11 → P 12 → P 13 → P 14 → P 15 → P 16 → (k : ℕ) → k ≤ 16 → P k
each P p0 p1 p2 p3 p4 p5 p6 p7 p8 p9 p10 p11 p12 p13 p14 p15 p16 zero h = p0
each P p0 p1 p2 p3 p4 p5 p6 p7 p8 p9 p10 p11 p12 p13 p14 p15 p16 (suc zero) h = p1
each P p0 p1 p2 p3 p4 p5 p6 p7 p8 p9 p10 p11 p12 p13 p14 p15 p16 (suc (suc zero)) h = p2
each P p0 p1 p2 p3 p4 p5 p6 p7 p8 p9 p10 p11 p12 p13 p14 p15 p16 (suc (suc (suc zero))) h = p3
each P p0 p1 p2 p3 p4 p5 p6 p7 p8 p9 p10 p11 p12 p13 p14 p15 p16 (suc (suc (suc (suc zero)))) h = p4
each P p0 p1 p2 p3 p4 p5 p6 p7 p8 p9 p10 p11 p12 p13 p14 p15 p16 (suc (suc (suc (suc (suc zero))))) h = p5
each P p0 p1 p2 p3 p4 p5 p6 p7 p8 p9 p10 p11 p12 p13 p14 p15 p16 (suc (suc (suc (suc (suc (suc zero)))))) h = p6
each P p0 p1 p2 p3 p4 p5 p6 p7 p8 p9 p10 p11 p12 p13 p14 p15 p16 (suc (suc (suc (suc (suc (suc (suc zero))))))) h = p7
each P p0 p1 p2 p3 p4 p5 p6 p7 p8 p9 p10 p11 p12 p13 p14 p15 p16 (suc (suc (suc (suc (suc (suc (suc (suc zero)))))))) h = p8
each P p0 p1 p2 p3 p4 p5 p6 p7 p8 p9 p10 p11 p12 p13 p14 p15 p16 (suc (suc (suc (suc (suc (suc (suc (suc (suc zero))))))))) h = p9
each P p0 p1 p2 p3 p4 p5 p6 p7 p8 p9 p10 p11 p12 p13 p14 p15 p16 (suc (suc (suc (suc (suc (suc (suc (suc (suc (suc zero)))))))))) h = p10
each P p0 p1 p2 p3 p4 p5 p6 p7 p8 p9 p10 p11 p12 p13 p14 p15 p16 (suc (suc (suc (suc (suc (suc (suc (suc (suc (suc (suc zero))))))))))) h = p11
each P p0 p1 p2 p3 p4 p5 p6 p7 p8 p9 p10 p11 p12 p13 p14 p15 p16 (suc (suc (suc (suc (suc (suc (suc (suc (suc (suc (suc (suc zero)))))))))))) h = p12
each P p0 p1 p2 p3 p4 p5 p6 p7 p8 p9 p10 p11 p12 p13 p14 p15 p16 (suc (suc (suc (suc (suc (suc (suc (suc (suc (suc (suc (suc (suc zero))))))))))))) h = p13
each P p0 p1 p2 p3 p4 p5 p6 p7 p8 p9 p10 p11 p12 p13 p14 p15 p16 (suc (suc (suc (suc (suc (suc (suc (suc (suc (suc (suc (suc (suc (suc zero)))))))))))))) h = p14
each P p0 p1 p2 p3 p4 p5 p6 p7 p8 p9 p10 p11 p12 p13 p14 p15 p16 (suc (suc (suc (suc (suc (suc (suc (suc (suc (suc (suc (suc (suc (suc (suc zero))))))))))))))) h = p15
each P p0 p1 p2 p3 p4 p5 p6 p7 p8 p9 p10 p11 p12 p13 p14 p15 p16 (suc (suc (suc (suc (suc (suc (suc (suc (suc (suc (suc (suc (suc (suc (suc (suc zero)))))))))))))))) h = p16
each P p0 p1 p2 p3 p4 p5 p6 p7 p8 p9 p10 p11 p12 p13 p14 p15 p16 (suc (suc (suc (suc (suc (suc (suc (suc (suc (suc (suc (suc (suc (suc (suc (suc (suc k))))))))))))))))) h = absurd (omega arith)

as_made : (P : Framer → Type 0) (f : Framer) (s : Bool) → f.framing ≡ true → f.starting ≡ s →
    P (made s f.left f.rt f.first f.second f.noise f.moved f.shift) → P f
as_made P f s g h p =
    let whole : made s f.left f.rt f.first f.second f.noise f.moved f.shift ≡ f =
    ap (λ (t : Bool). made t f.left f.rt f.first f.second f.noise f.moved f.shift) (sym h)
    ∙ ap (λ (t : Bool). framed_so t f) (sym g) in
    subst P whole p
  where
    framed_so : Bool → Framer → Framer
    framed_so t f =
        record { framing = t; starting = f.starting; left = f.left; rt = f.rt; first = f.first; second = f.second; noise = f.noise; moved = f.moved; shift = f.shift }

abbrev pub Goes : ℕ → Framer → Bool → Bool → Bool → Bool → ℕ → Type 0
Goes n f l1 l2 three x sum =
    (framed n f three x).framing ≡ true →
    Going n (framed n f three x) x l1 (sum + cond f.starting (start_gives (f.rt % 16 + 1) x) (bit_gives (f.rt % 16 + 1) l2 l1 x))

module _ (n : ℕ) (few : n ≤ 200) (left : ℕ) (a b : Bool) (noise : ℕ) (moved : Bool) (shift : ℕ) (l1 l2 three x : Bool) (sum : ℕ) where
  abbrev in_start : ℕ → Framer
  in_start rt = made true left rt a b noise moved shift

  start_is : (rt : ℕ) → framed n (in_start rt) three x ≡ start_bit (in_start rt) (rt % 16 + 1) x
  unfolding fixed
  start_is rt = (moving.rule n (in_start rt) three x).start refl

  any_start : (rt : ℕ) → rt ≤ 16 → InStart n (in_start rt) sum → (start_bit (in_start rt) (rt % 16 + 1) x).framing ≡ true →
      Going n (start_bit (in_start rt) (rt % 16 + 1) x) x l1 (sum + start_gives (rt % 16 + 1) x)
  any_start =
      each (FromStart n few left a b noise moved shift l1 x sum) (λ i. absurd (omega (arith, i.low)))
      (start_2 n few left a b noise moved shift l1 x sum) (start_3 n few left a b noise moved shift l1 x sum) (start_4 n few left a b noise moved shift l1 x sum) (start_5 n few left a b noise moved shift l1 x sum) (start_6 n few left a b noise moved shift l1 x sum) (start_7 n few left a b noise moved shift l1 x sum) (start_8 n few left a b noise moved shift l1 x sum) (start_9 n few left a b noise moved shift l1 x sum) (start_10 n few left a b noise moved shift l1 x sum) (start_11 n few left a b noise moved shift l1 x sum) (start_12 n few left a b noise moved shift l1 x sum) (start_13 n few left a b noise moved shift l1 x sum) (start_14 n few left a b noise moved shift l1 x sum) (start_15 n few left a b noise moved shift l1 x sum) (start_16 n few left a b noise moved shift l1 x sum)
      (λ i. absurd (omega (arith, i.high)))

  any_bits : (rt : ℕ) → rt ≤ 16 → FromBits n few left a b noise moved shift l1 l2 three x sum rt
  any_bits =
      each (FromBits n few left a b noise moved shift l1 l2 three x sum)
      (bits_0 n few left a b noise moved shift l1 l2 three x sum) (bits_1 n few left a b noise moved shift l1 l2 three x sum) (bits_2 n few left a b noise moved shift l1 l2 three x sum) (bits_3 n few left a b noise moved shift l1 l2 three x sum) (bits_4 n few left a b noise moved shift l1 l2 three x sum) (bits_5 n few left a b noise moved shift l1 l2 three x sum) (bits_6 n few left a b noise moved shift l1 l2 three x sum) (bits_7 n few left a b noise moved shift l1 l2 three x sum) (bits_8 n few left a b noise moved shift l1 l2 three x sum) (bits_9 n few left a b noise moved shift l1 l2 three x sum) (bits_10 n few left a b noise moved shift l1 l2 three x sum) (bits_11 n few left a b noise moved shift l1 l2 three x sum) (bits_12 n few left a b noise moved shift l1 l2 three x sum) (bits_13 n few left a b noise moved shift l1 l2 three x sum) (bits_14 n few left a b noise moved shift l1 l2 three x sum) (bits_15 n few left a b noise moved shift l1 l2 three x sum) (bits_16 n few left a b noise moved shift l1 l2 three x sum)

  goes_start : (rt : ℕ) → InStart n (in_start rt) sum → Goes n (in_start rt) l1 l2 three x sum
  goes_start rt i g =
      rw (start_is rt) (any_start rt (omega (arith, i.high)) i (ap (λ (f : Framer). f.framing) (sym (start_is rt)) ∙ g))

  goes_bits : (rt : ℕ) → InBits n (made false left rt a b noise moved shift) l1 l2 sum →
      Goes n (made false left rt a b noise moved shift) l1 l2 three x sum
  goes_bits rt i g = any_bits rt i.high i g

pub goes : (n : ℕ) → n ≤ 200 → (f : Framer) (l1 l2 three x : Bool) (sum : ℕ) → f.framing ≡ true → Going n f l1 l2 sum →
    Goes n f l1 l2 three x sum
goes n few f l1 l2 three x sum h (start s i) =
    as_made (λ (g : Framer). InStart n g sum → Goes n g l1 l2 three x sum) f true h s
    (goes_start n few f.left f.first f.second f.noise f.moved f.shift l1 l2 three x sum f.rt) i
goes n few f l1 l2 three x sum h (bits s i) =
    as_made (λ (g : Framer). InBits n g l1 l2 sum → Goes n g l1 l2 three x sum) f false h s
    (goes_bits n few f.left f.first f.second f.noise f.moved f.shift l1 l2 three x sum f.rt) i
