-- Samples of one level, one after another; the first zero after ones; the start bit; the stop bit. Assumes nothing.
use mathlib.Core.Path.{◌≡◌, refl, ap, sym, subst, ◌∙◌}
use mathlib.Core.Bool.{Bool, true, false, cond, not, ◌&&◌, ◌||◌, false≢true, true≢false}
use mathlib.Core.List.{List, ◌∷◌, ◌++◌, append_assoc}
use Prim.Native.Nat.{ℕ, zero, suc, ◌+◌, ◌-◌, ◌*◌, ◌/◌, ◌%◌, ◌≤◌, ◌<◌}
use native.Mathlib.Omega.{arith}
use lib.Dec.{eqb, leb, ltb}
use lib.ListN.{replicate, replicate-append-replicate}
use borrow.Author.Tests.{eqb-true, eqb-false, leb-true}
use Rattle.sci.specs.model.Framer.{searching, ends, frame_of, collected, start_bit, stop_bit, fixed, next_rt, near_next, near_this, after_one, early_fall, late_fall, adjusts, adjusted, framed}
use Rattle.sci.specs.declared.framer.Framer.{Framer}
use Rattle.sci.proofs.Membership.{and_left, and_right}
use Rattle.sci.proofs.Adjusting.{adjusting}
use Rattle.sci.proofs.Frames.{by_cond}
use Rattle.sci.proofs.Walk.{unmoved}
use Rattle.claims_senders.specs.Heard.{ended_in}
use Rattle.claims_senders.proofs.Inside.{in_start, in_data, Inside, early, late, taken, fixed_on, not_last, turned}

-- What is collected after i bits x.
unfoldable pub poured : ℕ → Bool → ℕ → ℕ → ℕ
poured n x s zero = s
poured n x s (suc i) = collected x n (poured n x s i)

-- Each multiple of 16 passed on the way down is one.
pour : (n : ℕ) (x : Bool) (s q w : ℕ) → suc w ≤ 16 * q →
    taken n x w (poured n x s (q - (suc w + 15) / 16)) ≡ poured n x s (q - (w + 15) / 16)
unfolding poured
pour n x s q w h =
    by_cond (λ (v : ℕ). v ≡ poured n x s (q - (w + 15) / 16)) (eqb (w % 16) 0)
    (λ e. ap (poured n x s) (more_by_one (eqb-true (w % 16) 0 e)))
    (λ e. ap (poured n x s) (no_more (eqb-false (w % 16) 0 e)))
  where
    more_by_one : w % 16 ≡ 0 → suc (q - (suc w + 15) / 16) ≡ q - (w + 15) / 16
    more_by_one e = omega arith

    no_more : (w % 16 ≡ 0 → ⊥) → q - (suc w + 15) / 16 ≡ q - (w + 15) / 16
    no_more e = omega arith

-- The last three samples after k more, all x.
abbrev pub last1 : ℕ → Bool → Bool → Bool → Bool → Bool
last1 zero x a b c = a
last1 (suc k) x a b c = last1 k x x a b

abbrev pub last2 : ℕ → Bool → Bool → Bool → Bool → Bool
last2 zero x a b c = b
last2 (suc k) x a b c = last2 k x x a b

abbrev pub last3 : ℕ → Bool → Bool → Bool → Bool → Bool
last3 zero x a b c = c
last3 (suc k) x a b c = last3 k x x a b

pub one_same : (k : ℕ) (x b c : Bool) → last1 k x x b c ≡ x
one_same zero x b c = refl
one_same (suc k) x b c = one_same k x x b

pub two_same : (k : ℕ) (x c : Bool) → last2 k x x x c ≡ x
two_same zero x c = refl
two_same (suc k) x c = two_same k x x

-- A sample with which no frame ends.
pub goes : (n t : ℕ) (a b c : Bool) (f : Framer) (x : Bool) (ys : List Bool) → ends f ≡ false →
    ended_in n t a b c f (x ∷ ys) ≡ ended_in n (suc t) x a b (framed n f (a && b && c) x) ys
unfolding ended_in
goes n t a b c f x ys e = go (ends f) e
  where
    go : (y : Bool) → y ≡ false →
        cond y (record { sample = suc t; frame = frame_of f x } ∷ ended_in n (suc t) x a b (framed n f (a && b && c) x) ys)
        (ended_in n (suc t) x a b (framed n f (a && b && c) x) ys)
        ≡ ended_in n (suc t) x a b (framed n f (a && b && c) x) ys
    go y e = rw e

-- No adjustment at a one, nor at a zero after a zero.
level_stays : (n : ℕ) (f : Framer) (three x : Bool) → (three ≡ true → x ≡ true) → framed n f three x ≡ fixed n f three x
level_stays n f three true h = unmoved n f three true refl
level_stays n f true false h = absurd (false≢true (h refl))
level_stays n f false false h = unmoved n f false false refl

-- After k samples x.
pub record Ran (n : ℕ) (x : Bool) (k t t' : ℕ) (a b c : Bool) (f : Framer) (ys : List Bool) (w s : ℕ) : Type 0 where
  pub to : Framer
  pub inside : Inside n x w s to
  pub same : ended_in n t a b c f (replicate k x ++ ys) ≡ ended_in n t' (last1 k x a b c) (last2 k x a b c) (last3 k x a b c) to ys

pub run : {n : ℕ} {x : Bool} {f : Framer} (s q k v w t t' : ℕ) (a b c : Bool) (ys : List Bool) →
    Inside n x v (poured n x s (q - (v + 15) / 16)) f → v ≡ k + w → 0 < w → v ≤ 16 * q → t' ≡ k + t → (a && b && c ≡ true → x ≡ true) →
    Ran n x k t t' a b c f ys w (poured n x s (q - (w + 15) / 16))
run {n} {x} {f} s q zero v w t t' a b c ys i m some h e l =
    let z : v ≡ w = omega arith in
    let y : t ≡ t' = omega arith in
    record {
      to = f;
      inside = subst (λ (u : ℕ). Inside n x u (poured n x s (q - (u + 15) / 16)) f) z i;
      same = ap (λ (u : ℕ). ended_in n u a b c f ys) y;
    }
run {n} {x} {f} s q (suc k) v w t t' a b c ys i m some h e l =
    let g : Framer = framed n f (a && b && c) x in
    let r : framed n f (a && b && c) x ≡ fixed n f (a && b && c) x = level_stays n f (a && b && c) x l in
    let z : v ≡ suc (k + w) = omega arith in
    let i' : Inside n x (suc (k + w)) (poured n x s (q - (suc (k + w) + 15) / 16)) f =
    subst (λ (u : ℕ). Inside n x u (poured n x s (q - (u + 15) / 16)) f) z i in
    let j : Inside n x (k + w) (poured n x s (q - (k + w + 15) / 16)) g =
    subst (λ (y : ℕ). Inside n x (k + w) y g) (pour n x s q (k + w) (omega arith))
    (subst (Inside n x (k + w) (taken n x (k + w) (poured n x s (q - (suc (k + w) + 15) / 16)))) (sym r)
    (fixed_on i' (omega arith) (a && b && c))) in
    let r : Ran n x k (suc t) t' x a b g ys w (poured n x s (q - (w + 15) / 16)) =
    run {n = n} {x = x} {f = g} s q k (k + w) w (suc t) t' x a b ys j refl some (omega arith) (omega arith) (λ z. and_left x a (and_left (x && a) b z)) in
    record {
      to = r.to;
      inside = r.inside;
      same = goes n t a b c f x (replicate k x ++ ys) (not_last i (omega arith)) ∙ r.same;
    }

-- A first zero after ones, where the level may change with j data bits to come: RT1 of the first of them is set there, or the count goes on.
pub data Fell (n j w s : ℕ) (g : Framer) : Type 0 where
  anew : Inside n false (16 * j + 9) s g → Fell n j w s g
  onward : (v : ℕ) → w ≡ suc v → Inside n false v s g → Fell n j w s g

module _ (n j w s left rt : ℕ) (p q mv : Bool) (e : w + rt % 16 ≡ 16 * left + 10) (l : 16 * j + 3 ≤ w) (u : w ≤ 16 * j + 16) where
  abbrev f : Framer
  f = in_data left rt p q mv s

  set_anew : (k : ℕ) → k ≡ j → Inside n false (16 * j + 9) s (in_data k 1 p q true s)
  set_anew k z =
      late k 1 p q true (omega arith) (omega arith) (omega arith) (λ y. absurd (omega arith)) (λ y. absurd (omega arith)) (λ y. absurd (omega arith))

  by_place : (y : Bool) → early_fall f ≡ y → y || late_fall f ≡ true → Inside n false (16 * j + 9) s (in_data (cond y (left - 1) left) 1 p q true s)
  by_place true z h =
      let a : 11 ≤ rt % 16 + 1 = leb-true 11 (rt % 16 + 1) (and_left (near_next f) (ltb 1 left) z) in
      set_anew (left - 1) (omega arith)
  by_place false z h =
      let g : near_this f && ltb 0 left ≡ true = and_left (near_this f && ltb 0 left) (not mv) h in
      let k : near_this f ≡ true = and_left (near_this f) (ltb 0 left) g in
      let a : 2 ≤ rt % 16 + 1 = leb-true 2 (rt % 16 + 1) (and_left (leb 2 (next_rt f)) (leb (next_rt f) 7) k) in
      let b : rt % 16 + 1 ≤ 7 = leb-true (rt % 16 + 1) 7 (and_right (leb 2 (next_rt f)) (leb (next_rt f) 7) k) in
      set_anew left (omega arith)

adjusts_anew : {n w s : ℕ} {f : Framer} (j : ℕ) (three : Bool) → 16 * j + 3 ≤ w → w ≤ 16 * j + 16 → Inside n true w s f →
    adjusts n f three false ≡ true → Inside n false (16 * j + 9) s (adjusted f)
adjusts_anew {n} {w} {s} j three l u (early rt p q mv g h e) a =
    absurd (true≢false (adjusting n (in_start n rt p q mv s) three false a).starting)
adjusts_anew {n} {w} {s} j three l u (late left rt p q mv g h e x y z) a =
    let f : Framer = in_data left rt p q mv s in
    by_place n j w s left rt p q mv e l u (early_fall f) refl
    (and_right (not false && three && true && not false && after_one n f) (early_fall f || late_fall f) a)

onward_from : {n w s : ℕ} {f : Framer} (j v : ℕ) (three : Bool) → w ≡ suc v → 16 * j + 3 ≤ w → w ≤ 16 * j + 16 → Inside n true w s f →
    Inside n false v s (fixed n f three false)
onward_from {n} {w} {s} {f} j v three z l u i =
    let k : Inside n false (suc v) s f = subst (λ (y : ℕ). Inside n false y s f) z (turned j false l u i) in
    let t : taken n false v s ≡ s = by_cond (λ (y : ℕ). y ≡ s) (eqb (v % 16) 0) (λ e. absurd (omega (arith, eqb-true (v % 16) 0 e))) (λ e. refl) in
    subst (λ (y : ℕ). Inside n false v y (fixed n f three false)) t (fixed_on k (omega arith) three)

pub falls : {n w s : ℕ} {f : Framer} (j : ℕ) (three : Bool) → 16 * j + 3 ≤ w → w ≤ 16 * j + 16 → Inside n true w s f →
    Fell n j w s (framed n f three false)
unfolding framed
falls {n} {w} {s} {f} j three l u i =
    by_cond (Fell n j w s) (adjusts n f three false) (λ a. anew (adjusts_anew j three l u i a))
    (λ a. onward (w - 1) (omega arith) (onward_from j (w - 1) three (omega arith) l u i))

-- A start: ten zeros.
pub begins_ten : (n t t' : ℕ) (ys : List Bool) → t' ≡ 10 + t →
    ended_in n t true true true searching (replicate 10 false ++ ys) ≡ ended_in n t' false false false (in_start n 10 false false false 0) ys
unfolding ended_in framed fixed start_bit
begins_ten n t t' ys e = ap (λ (u : ℕ). ended_in n u false false false (in_start n 10 false false false 0) ys) (omega arith)

-- The line rests.
pub rests : (n k t t' : ℕ) (ys : List Bool) → t' ≡ k + t →
    ended_in n t true true true searching (replicate k true ++ ys) ≡ ended_in n t' true true true searching ys
unfolding ended_in framed fixed
rests n zero t t' ys e = ap (λ (u : ℕ). ended_in n u true true true searching ys) (omega arith)
rests n (suc k) t t' ys e = rests n k (suc t) t' ys (omega arith)

-- The stop bit's RT10.
pub last_one : {n s : ℕ} {f : Framer} (t : ℕ) (a b c : Bool) (ys : List Bool) → Inside n true 1 s f →
    ended_in n t a b c f (true ∷ ys)
    ≡ record { sample = suc t; frame = record { word = s; noise = 0; stop = true } } ∷ ended_in n (suc t) true a b searching ys
unfolding ended_in framed fixed stop_bit
last_one {n} {s} t a b c ys (early rt p q mv g h e) = absurd (omega arith)
last_one {n} {s} t a b c ys (late left rt p q mv g h e x y z) =
    go left rt p q (omega arith) (omega arith) (y (omega arith)) (z (omega arith))
  where
    go : (left rt : ℕ) (p q : Bool) → left ≡ 0 → rt ≡ 9 → p ≡ true → q ≡ true →
        ended_in n t a b c (in_data left rt p q mv s) (true ∷ ys)
        ≡ record { sample = suc t; frame = record { word = s; noise = 0; stop = true } } ∷ ended_in n (suc t) true a b searching ys
    go left rt p q k l m o = rw (k, l, m, o)

-- A run of samples cut in two.
pub cut : (k m d : ℕ) (x : Bool) (ys : List Bool) → d ≡ k + m → replicate d x ++ ys ≡ replicate k x ++ (replicate m x ++ ys)
cut k m d x ys e =
    ap (λ (u : ℕ). replicate u x ++ ys) e ∙ ap (λ (l : List Bool). l ++ ys) (sym (replicate-append-replicate k m x))
    ∙ append_assoc (replicate k x) (replicate m x) ys

-- Ones to the frame's end and on.
pub finishes : {n w : ℕ} {f : Framer} (s j d t t' at : ℕ) (a b c : Bool) (ys : List Bool) → Inside n true w s f →
    16 * j + 3 ≤ w → w ≤ 16 * j + 16 → w ≤ d → t' ≡ d + t → at ≡ t + w →
    ended_in n t a b c f (replicate d true ++ ys)
    ≡ record { sample = at; frame = record { word = poured n true s j; noise = 0; stop = true } } ∷ ended_in n t' true true true searching ys
unfolding poured
finishes {n} {w} {f} s j d t t' at a b c ys i l u h e o =
    let z : suc j - (w + 15) / 16 ≡ 0 = omega arith in
    let i' : Inside n true w (poured n true s (suc j - (w + 15) / 16)) f = rw z i in
    go (suc (suc (w - 3))) refl (omega arith)
    (run s (suc j) (suc (suc (w - 3))) w 1 t (suc (suc (w - 3)) + t) a b c (replicate (suc (d - w)) true ++ ys) i' (omega arith) (omega arith) (omega arith) refl (λ y. refl))
  where
    go : (k : ℕ) → k ≡ suc (suc (w - 3)) → suc k ≡ w →
        Ran n true k t (k + t) a b c f (replicate (suc (d - w)) true ++ ys) 1 (poured n true s (suc j - (1 + 15) / 16)) →
        ended_in n t a b c f (replicate d true ++ ys)
        ≡ record { sample = at; frame = record { word = poured n true s j; noise = 0; stop = true } } ∷ ended_in n t' true true true searching ys
    go k y m r =
        let v : suc j - (1 + 15) / 16 ≡ j = omega arith in
        let x : suc (k + t) ≡ at = omega arith in
        let p : last1 k true a b c ≡ true = ap (λ (z : ℕ). last1 z true a b c) y ∙ one_same (w - 3) true true a in
        let q : last2 k true a b c ≡ true = ap (λ (z : ℕ). last2 z true a b c) y ∙ two_same (w - 3) true a in
        ap (ended_in n t a b c f) (cut k (suc (d - w)) d true ys (omega arith)) ∙ r.same
        ∙ last_one (k + t) (last1 k true a b c) (last2 k true a b c) (last3 k true a b c) (replicate (d - w) true ++ ys) r.inside
        ∙ rw (p, q, rests n (d - w) (suc (k + t)) t' ys (omega arith), v, x)
