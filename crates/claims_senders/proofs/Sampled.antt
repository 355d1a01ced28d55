-- Sampled every s clocks, a fair frame of clocks is a fair frame of samples. Assumes nothing.
use mathlib.Core.Path.{◌≡◌, refl, ap, sym, subst, ◌∙◌}
use mathlib.Core.Bool.{Bool, true, false, not, ◌&&◌, cond}
use mathlib.Core.List.{List, [], ◌∷◌, ◌++◌, append_assoc}
use Prim.Native.Nat.{ℕ, zero, suc, ◌+◌, ◌*◌, ◌≤◌, ◌<◌}
use native.Mathlib.Omega.{arith}
use native.Mathlib.Nat.{lt_of_mul-lt-mul_right}
use lib.Dec.{leb}
use lib.ListN.{length, replicate}
use borrow.Author.Tests.{leb-true, leb-false}
use Rattle.claims_senders.specs.Fair.{Bit, Count, NotEarly, NotLate, Each, longer, following, FairBy, Fair, SentFrame, rest, FairFrames, levels, line, data_of}
use Rattle.claims_senders.specs.Heard.{as_sent, frames_of, ends_of, Apart, earliest, HeardWhole}
use Rattle.claims_senders.specs.Clocks.{sampled_at, SampledAs, ClocksHeard}
use Rattle.claims_senders.proofs.Whole.{frames_are_heard}

-- m clocks of a level, from a count p: u samples, and a count p'.
pub record Stretch (s p m : ℕ) (x : Bool) : Type 0 where
  pub u : ℕ
  pub p' : ℕ
  pub small : p' < s
  pub sum : p + m ≡ u * s + p'
  pub same : (ys : List Bool) → sampled_at s p (replicate m x ++ ys) ≡ replicate u x ++ sampled_at s p' ys

pub stretch : (s p m : ℕ) (x : Bool) → p < s → Stretch s p m x
unfolding sampled_at
stretch s p zero x h = record { u = 0; p' = p; small = h; sum = omega arith; same = λ ys. refl }
stretch s p (suc m) x h = go (λ q k. stretch s q m x k) (leb s (p + 1)) refl
  where
    go : ((q : ℕ) → q < s → Stretch s q m x) → (b : Bool) → leb s (p + 1) ≡ b → Stretch s p (suc m) x
    go on true e =
        let z : p + 1 ≡ s = omega (arith, leb-true s (p + 1) e) in
        let r : Stretch s 0 m x = on 0 (omega arith) in
        record {
          u = suc r.u;
          p' = r.p';
          small = r.small;
          sum = omega (arith, r.sum);
          same = λ ys. rw e (ap (λ (l : List Bool). x ∷ l) (r.same ys));
        }
    go on false e =
        let z : p + 1 < s = leb-false s (p + 1) e in
        let r : Stretch s (p + 1) m x = on (p + 1) z in
        record {
          u = r.u;
          p' = r.p';
          small = r.small;
          sum = omega (arith, r.sum);
          same = λ ys. rw e (r.same ys);
        }

-- Counts in clocks and in samples: one began at a count q of the prescaler, which is p now.
data Alike (s p : ℕ) : List Count → List Count → Type 0 where
  none : Alike s p [] []
  more : {cs ds : List Count} (k t u q : ℕ) → q < s → t + q ≡ u * s + p → Alike s p cs ds →
      Alike s p (record { bits = k; clocks = t } ∷ cs) (record { bits = k; clocks = u } ∷ ds)

module _ (s p : ℕ) (h : p < s) where
  early_in_samples : (k t u q : ℕ) → q < s → t + q ≡ u * s + p → 16 * k * s ≤ t + 6 * s → 16 * k * 1 ≤ u + 6 * 1
  early_in_samples k t u q g e a =
      let b : 16 * k * s < (u + 7) * s = omega arith in
      let c : 16 * k < u + 7 = lt_of_mul-lt-mul_right s b in
      omega arith

  late_in_samples : (k t u q : ℕ) → q < s → t + q ≡ u * s + p → t ≤ (16 * k + 7) * s → u ≤ (16 * k + 7) * 1
  late_in_samples k t u q g e a =
      let b : u * s < (16 * k + 8) * s = omega arith in
      let c : u < 16 * k + 8 = lt_of_mul-lt-mul_right s b in
      omega arith

  all_early : {cs ds : List Count} → Alike s p cs ds → Each (NotEarly s) cs → Each (NotEarly 1) ds
  unfolding Each
  all_early none e = tt
  all_early (more k t u q g z r) e = (early_in_samples k t u q g z e.0, all_early r e.1)

  all_late : {cs ds : List Count} → Alike s p cs ds → Each (NotLate s) cs → Each (NotLate 1) ds
  unfolding Each
  all_late none e = tt
  all_late (more k t u q g z r) e = (late_in_samples k t u q g z e.0, all_late r e.1)

alike_longer : (s p p' t u : ℕ) {cs ds : List Count} → p + t ≡ u * s + p' → Alike s p cs ds → Alike s p' (longer t cs) (longer u ds)
unfolding longer
alike_longer s p p' t u e none = none
alike_longer s p p' t u e (more k v w q g z r) = more (suc k) (v + t) (w + u) q g (omega arith) (alike_longer s p p' t u e r)

alike_following : (s p p' t u : ℕ) (was x : Bool) {cs ds : List Count} → p < s → p + t ≡ u * s + p' → Alike s p cs ds →
    Alike s p' (following was (record { level = x; lasts = t }) cs) (following was (record { level = x; lasts = u }) ds)
alike_following s p p' t u was x {cs} {ds} h e r = go (was && not x)
  where
    go : (y : Bool) →
        Alike s p' (cond y (record { bits = 1; clocks = t } ∷ longer t cs) (longer t cs)) (cond y (record { bits = 1; clocks = u } ∷ longer u ds) (longer u ds))
    go true = more 1 t u p h (omega arith) (alike_longer s p p' t u e r)
    go false = alike_longer s p p' t u e r

abbrev ending : ℕ → List Bit
ending stop = record { level = true; lasts = stop } ∷ []

-- Bits and a stop bit, from a count p.
record Bits (s p : ℕ) (bs : List Bit) (stop : ℕ) : Type 0 where
  bits : List Bit
  last : ℕ
  p' : ℕ
  small : p' < s
  same : (ys : List Bool) → sampled_at s p (levels (bs ++ ending stop) ++ ys) ≡ levels (bits ++ ending last) ++ sampled_at s p' ys
  levels_same : data_of bits ≡ data_of bs
  many : length bits ≡ length bs
  fair : (was : Bool) (cs ds : List Count) → Alike s p cs ds → Fair s cs was (bs ++ ending stop) → Fair 1 ds was (bits ++ ending last)

in_samples : (s p : ℕ) (bs : List Bit) (stop : ℕ) → p < s → Bits s p bs stop
unfolding levels data_of FairBy
in_samples s p [] stop h =
    let r : Stretch s p stop true = stretch s p stop true h in
    record {
      bits = [];
      last = r.u;
      p' = r.p';
      small = r.small;
      same = λ ys.
          ap (sampled_at s p) (append_assoc (replicate stop true) [] ys) ∙ r.same ys
          ∙ sym (append_assoc (replicate r.u true) [] (sampled_at s r.p' ys));
      levels_same = refl;
      many = refl;
      fair = λ was cs ds a f. (
        λ e. (all_early s p h a (f.0 e).0, all_late s p h a (f.0 e).1),
        all_early s r.p' r.small (alike_following s p r.p' stop r.u was true h r.sum a) f.1,
      );
    }
in_samples s p (b ∷ bs) stop h =
    let r : Stretch s p b.lasts b.level = stretch s p b.lasts b.level h in
    let q : Bits s r.p' bs stop = in_samples s r.p' bs stop r.small in
    record {
      bits = record { level = b.level; lasts = r.u } ∷ q.bits;
      last = q.last;
      p' = q.p';
      small = q.small;
      same = λ ys.
          ap (sampled_at s p) (append_assoc (replicate b.lasts b.level) (levels (bs ++ ending stop)) ys)
          ∙ r.same (levels (bs ++ ending stop) ++ ys)
          ∙ ap (λ (l : List Bool). replicate r.u b.level ++ l) (q.same ys)
          ∙ sym (append_assoc (replicate r.u b.level) (levels (q.bits ++ ending q.last)) (sampled_at s q.p' ys));
      levels_same = ap (λ (l : List Bool). b.level ∷ l) q.levels_same;
      many = ap suc q.many;
      fair = λ was cs ds a f. (
        λ e. (all_early s p h a (f.0 e).0, all_late s p h a (f.0 e).1),
        q.fair b.level (following was b cs) (following was (record { level = b.level; lasts = r.u }) ds)
            (alike_following s p r.p' b.lasts r.u was b.level h r.sum a) f.1,
      );
    }

-- Frames one after another.
lines : (s p n : ℕ) (fs : List SentFrame) → p < s → FairFrames s n fs → (gs : List SentFrame) × SampledAs s p n fs gs
unfolding line sampled_at FairFrames as_sent
lines s p n [] h f = ([], record { levels = refl; fair = tt; words = refl })
lines s p n (x ∷ fs) h f =
    let r : Stretch s p x.start false = stretch s p x.start false h in
    let q : Bits s r.p' x.bits x.stop = in_samples s r.p' x.bits x.stop r.small in
    let o : (gs : List SentFrame) × SampledAs s q.p' n fs gs = lines s q.p' n fs q.small f.2 in
    let g : SentFrame = record { start = r.u; bits = q.bits; stop = q.last } in
    let a : Alike s r.p' (record { bits = 1; clocks = x.start } ∷ []) (record { bits = 1; clocks = r.u } ∷ []) =
    more 1 x.start r.u p h (omega (arith, r.sum)) none in (
      g ∷ o.0,
      record {
        levels =
            ap (sampled_at s p)
            (append_assoc (replicate x.start false) (levels (rest x)) (line fs))
            ∙ r.same (levels (rest x) ++ line fs)
            ∙ ap (λ (l : List Bool). replicate r.u false ++ l) (q.same (line fs) ∙ ap (λ (l : List Bool). levels (rest g) ++ l) o.1.levels)
            ∙ sym (append_assoc (replicate r.u false) (levels (rest g)) (line o.0));
        fair = (q.many ∙ f.0, q.fair false (record { bits = 1; clocks = x.start } ∷ []) (record { bits = 1; clocks = r.u } ∷ []) a f.1, o.1.fair);
        words = rw (q.levels_same, o.1.words);
      },
    )

heard_whole : (s p n : ℕ) (fs : List SentFrame) → p < s → FairFrames s n fs →
    (frames_of n (sampled_at s p (line fs)) ≡ as_sent fs) × Apart (earliest n) (ends_of n (sampled_at s p (line fs)))
heard_whole s p n fs h f = go (lines s p n fs h f)
  where
    go : (gs : List SentFrame) × SampledAs s p n fs gs →
        (frames_of n (sampled_at s p (line fs)) ≡ as_sent fs) × Apart (earliest n) (ends_of n (sampled_at s p (line fs)))
    go r =
        let w : HeardWhole n r.0 = frames_are_heard.heard n r.0 r.1.fair in
        (ap (frames_of n) r.1.levels ∙ w.words ∙ r.1.words, subst (λ (l : List Bool). Apart (earliest n) (ends_of n l)) (sym r.1.levels) w.apart)

pub clocks_heard : ClocksHeard
clocks_heard =
    record {
      sampled = lines;
      words = λ s p n fs h f. (heard_whole s p n fs h f).0;
      apart = λ s p n fs h f. (heard_whole s p n fs h f).1;
    }
