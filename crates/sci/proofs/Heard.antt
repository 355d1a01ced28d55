-- A frame of any number of bits, sample by sample, as a framer that searches after three ones takes it.
-- The bits go by induction; the shift register with j bits of value v gathered and m to come holds v * 2 ^ m.
-- Assumes nothing.
use Prim.Native.Nat.{ℕ, zero, suc, ◌+◌, ◌*◌, ◌-◌, ◌^◌, ◌<◌}
use mathlib.Core.Bool.{Bool, true, false, not, ◌&&◌, and-false, false≢true}
use mathlib.Core.List.{List, [], ◌∷◌, ◌++◌, append_assoc}
use mathlib.Core.Path.{◌≡◌, refl, ap, ap₂, sym, subst, ◌∙◌}
use native.Mathlib.Omega.{arith}
use lib.ListN.{replicate, length, take, get_or, length-append, get_or-append}
use lib.Seq.{take-append-le, take-length}
use lib.Bits.{shifted_half}
use lib.Pow.{pow-add}
use native.Mathlib.Nat.{pow-suc}
use Rattle.steps.specs.Bits.{digit}
use Rattle.sci.specs.model.Framer.{searching, begun, ends, collected, fixed, after_one, adjusts, framed}
use Rattle.sci.specs.claims.Levels.{value, stretched, frame_levels, end_sample, framer_after, Unmoved}
use Rattle.sci.specs.declared.framer.Framer.{Framer}
use Rattle.sci.proofs.Walk.{Walk, here, on, bit_at, walk_start, walk_bit, walk_stop, unmoved, along}
use Rattle.sci.proofs.Membership.{and_left}

-- Sixteen equal samples are one bit, with no noise.
walk_equal : {g : Framer} (n m : ℕ) (b a c : Bool) (s : ℕ) (xs : List Bool) →
    Walk n xs (bit_at (suc m - 1) 16 b b 0 (collected b n s)) g → Walk n (replicate 16 b ++ xs) (bit_at (suc m) 16 a c 0 s) g
walk_equal n m true a c s xs w =
    walk_bit n m a c 0 s true true true true true true true true true true true true true true true true xs w
walk_equal n m false a c s xs w =
    walk_bit n m a c 0 s false false false false false false false false false false false false false false false false xs w

-- The shift register after bits that come in at its top.
gathered : ℕ → ℕ → List Bool → ℕ
gathered n s [] = s
gathered n s (b ∷ bits) = gathered n (collected b n s) bits

suc_less : (m : ℕ) → suc m - 1 ≡ m
suc_less m = omega arith

walk_bits : (n : ℕ) (bits : List Bool) (a c : Bool) (s : ℕ) →
    Walk n (stretched bits ++ replicate 9 true) (bit_at (length bits) 16 a c 0 s) (bit_at 0 9 true true 0 (gathered n s bits))
unfolding gathered stretched
walk_bits n [] a c s = walk_stop n a c 0 s true true true true true true true true true
walk_bits n (b ∷ bits) a c s =
    rw append_assoc
    (walk_equal n (length bits) b a c s (stretched bits ++ replicate 9 true)
    (rw (suc_less (length bits)) (walk_bits n bits b b (collected b n s))))

-- With j bits gathered, of value v, and m to come.
collect : (b : Bool) (j m v : ℕ) → collected b (j + suc m) (v * 2 ^ suc m) ≡ (v + digit b * 2 ^ j) * 2 ^ m
collect true j m v =
    let p : j + suc m - 1 ≡ j + m = omega arith in
    rw (shifted_half v m, p, pow-add 2 j m) (omega arith)
collect false j m v = rw (shifted_half v m) (omega arith)

gather : (n j v : ℕ) (bits : List Bool) → n ≡ j + length bits → gathered n (v * 2 ^ length bits) bits ≡ v + 2 ^ j * value bits
unfolding gathered value
gather n j v [] e = omega arith
gather n j v (b ∷ bits) e =
    let h : collected b n (v * 2 ^ suc (length bits)) ≡ (v + digit b * 2 ^ j) * 2 ^ length bits =
    rw e (collect b j (length bits) v) in
    rw h
    (gather n (suc j) (v + digit b * 2 ^ j) bits (omega arith)
    ∙ rw (pow-suc 2 j) (omega arith))

gathered_value : (n : ℕ) (bits : List Bool) → n ≡ length bits → gathered n 0 bits ≡ value bits
gathered_value n bits e =
    ap (λ (s : ℕ). gathered n s bits) (omega arith) ∙ gather n 0 0 bits (omega arith) ∙ omega arith

-- The samples before the frame's last: all but the last seven levels of the frame.
abbrev until_end : List Bool → List Bool
until_end bits = replicate 16 false ++ (stretched bits ++ replicate 9 true)

stretched_append : (bits more : List Bool) → stretched (bits ++ more) ≡ stretched bits ++ stretched more
unfolding stretched
stretched_append [] more = refl
stretched_append (b ∷ bits) more = ap (λ (l : List Bool). replicate 16 b ++ l) (stretched_append bits more) ∙ sym (append_assoc (replicate 16 b) (stretched bits) (stretched more))

pub stretched_length : (bits : List Bool) → length (stretched bits) ≡ 16 * length bits
unfolding stretched
stretched_length [] = refl
stretched_length (b ∷ bits) = rw (stretched_length bits) (omega arith)

levels : (bits : List Bool) → frame_levels bits ≡ until_end bits ++ replicate 7 true
unfolding stretched
levels bits =
    ap (λ (l : List Bool). replicate 16 false ++ l)
    (stretched_append bits (true ∷ []) ∙ sym (append_assoc (stretched bits) (replicate 9 true) (replicate 7 true)))

until_length : (bits : List Bool) → length (until_end bits) ≡ end_sample (length bits)
until_length bits = rw (length-append (stretched bits) (replicate 9 true), stretched_length bits) (omega arith)

-- Samples of which none makes an adjustment, whatever the samples before, so long as three ones end with the one before, a.
data Steady (n : ℕ) : Bool → List Bool → Framer → Type 0 where
  done : {a : Bool} {f : Framer} → Steady n a [] f
  steady : {a x : Bool} {xs : List Bool} {f : Framer} →
      ((three : Bool) → (three ≡ true → a ≡ true) → adjusts n f three x ≡ false) → Steady n x xs (fixed n f true x) →
      Steady n a (x ∷ xs) f

-- No adjustment at a one; at a zero after a zero; at RT1.
same_level : (n : ℕ) (f : Framer) (x three : Bool) → (three ≡ true → x ≡ true) → adjusts n f three x ≡ false
same_level n f true three i = refl
same_level n f false true i = absurd (false≢true (i refl))
same_level n f false false i = refl

at_edge : (n m : ℕ) (a c : Bool) (noise s : ℕ) (three x : Bool) → adjusts n (bit_at m 16 a c noise s) three x ≡ false
at_edge n m a c noise s three x = and-false (not x && three && true && true && after_one n (bit_at m 16 a c noise s))

-- So none does along the way.
level_unmoved : {n : ℕ} {xs : List Bool} {f g : Framer} (a b c : Bool) → Walk n xs f g → Steady n a xs f → Unmoved n a b c f xs
unfolding Unmoved
level_unmoved a b c here s = tt
level_unmoved {n} a b c (on {f = f} {x = x} {xs = xs} next h q e w) (steady t s) =
    let z : adjusts n f (a && b && c) x ≡ false = t (a && b && c) (λ z. and_left a b (and_left (a && b) c z)) in
    let o : framed n f (a && b && c) x ≡ next = unmoved n f (a && b && c) x z ∙ e (a && b && c) in (
      z,
      subst (λ (k : Framer). Unmoved n x a b k xs) (sym o) (level_unmoved x a b w (subst (Steady n x xs) (e true) s)),
    )

steady_run : {n : ℕ} {ys : List Bool} {f g : Framer} (k : ℕ) (x : Bool) → Walk n (replicate k x) f g → Steady n x ys g →
    Steady n x (replicate k x ++ ys) f
steady_run zero x here s = s
steady_run {n} {ys} {f} (suc k) x (on next h q e w) s =
    steady (λ three i. same_level n f x three i)
    (subst (Steady n x (replicate k x ++ ys)) (sym (e true)) (steady_run k x w s))

-- A level that begins at RT1.
steady_level : {n : ℕ} {ys : List Bool} {g : Framer} (m : ℕ) (a c : Bool) (s k : ℕ) (x before : Bool) →
    Walk n (replicate (suc k) x) (bit_at m 16 a c 0 s) g → Steady n x ys g →
    Steady n before (replicate (suc k) x ++ ys) (bit_at m 16 a c 0 s)
steady_level {n} {ys} m a c s k x before (on next h q e w) t =
    steady (λ three i. at_edge n m a c 0 s three x)
    (subst (Steady n x (replicate k x ++ ys)) (sym (e true)) (steady_run k x w t))

steady_bits : (n : ℕ) (bits : List Bool) (a c : Bool) (s : ℕ) (before : Bool) →
    Steady n before (stretched bits ++ replicate 9 true) (bit_at (length bits) 16 a c 0 s)
unfolding stretched
steady_bits n [] a c s before =
    steady_level 0 a c s 8 true before (walk_stop n a c 0 s true true true true true true true true true) done
steady_bits n (b ∷ bits) a c s before =
    rw append_assoc
    (steady_level (suc (length bits)) a c s 15 b before
    (walk_equal n (length bits) b a c s [] here)
    (rw (suc_less (length bits)) (steady_bits n bits b b (collected b n s) b)))

-- After k samples of a walk.
record Underway (n : ℕ) (a : Bool) (xs : List Bool) (k : ℕ) (f g : Framer) : Type 0 where
  quiet : ends f ≡ false
  steps : (three : Bool) → (three ≡ true → get_or (a ∷ xs) k true ≡ true) → framed n f three (get_or xs k true) ≡ g

underway : {n : ℕ} {xs : List Bool} {f g : Framer} (a b c : Bool) (k : ℕ) → Walk n xs f g → Steady n a xs f → k < length xs →
    Underway n a xs k (framer_after n a b c f (take k xs)) (framer_after n a b c f (take (suc k) xs))
unfolding framer_after
underway a b c k here s h = absurd (omega arith)
underway {n} a b c zero (on {f = f} {x = x} next r q e w) (steady t s) h =
    record {
      quiet = q;
      steps = λ three i.
          unmoved n f three x (t three i) ∙ e three
          ∙ sym (unmoved n f (a && b && c) x (t (a && b && c) (λ z. and_left a b (and_left (a && b) c z))) ∙ e (a && b && c));
    }
underway {n} a b c (suc k) (on {f = f} {x = x} {xs = xs} next r q e w) (steady t s) h =
    let o : framed n f (a && b && c) x ≡ next =
    unmoved n f (a && b && c) x (t (a && b && c) (λ z. and_left a b (and_left (a && b) c z))) ∙ e (a && b && c) in
    let u : Underway n x xs k (framer_after n x a b next (take k xs)) (framer_after n x a b next (take (suc k) xs)) =
    underway x a b k w (subst (Steady n x xs) (e true) s) (omega arith) in
    subst
    (λ (y : Framer).
    Underway n a (x ∷ xs) (suc k) (framer_after n x a b y (take k xs)) (framer_after n x a b y (take (suc k) xs)))
    (sym o)
    (record { quiet = u.quiet; steps = u.steps })

-- The walk of a whole frame after its first sample.
frame_walk : (n : ℕ) (bits : List Bool) → n ≡ length bits →
    Walk n (replicate 15 false ++ (stretched bits ++ replicate 9 true)) (begun n) (bit_at 0 9 true true 0 (value bits))
frame_walk n bits e =
    walk_start n false false false false false false false false false false false false false false false (stretched bits ++ replicate 9 true) refl
    (subst
    (λ (m : ℕ). Walk n (stretched bits ++ replicate 9 true) (bit_at m 16 false false 0 0) (bit_at 0 9 true true 0 (value bits)))
    (sym e)
    (subst
    (λ (v : ℕ). Walk n (stretched bits ++ replicate 9 true) (bit_at (length bits) 16 false false 0 0) (bit_at 0 9 true true 0 v))
    (gathered_value n bits e)
    (walk_bits n bits false false 0)))

frame_steady : (n : ℕ) (bits : List Bool) → n ≡ length bits →
    Steady n false (replicate 15 false ++ (stretched bits ++ replicate 9 true)) (begun n)
frame_steady n bits e =
    steady_run 15 false
    (walk_start n false false false false false false false false false false false false false false false [] refl here)
    (subst (λ (m : ℕ). Steady n false (stretched bits ++ replicate 9 true) (bit_at m 16 false false 0 0)) (sym e)
    (steady_bits n bits false false 0 false))

-- A framer that searches after three ones, after k samples of a line.
abbrev pub after : ℕ → List Bool → ℕ → Framer
after n line k = framer_after n true true true searching (take k line)

-- It is inside a frame or at its beginning, and the next sample takes it on; `three` is of the samples before, of which the line has some.
pub record At (n : ℕ) (line : List Bool) (k : ℕ) : Type 0 where
  pub quiet : ends (after n line k) ≡ false
  pub steps : (three : Bool) → (k ≡ 0 → three ≡ true) → ((j : ℕ) → k ≡ suc j → three ≡ true → get_or line j true ≡ true) →
      framed n (after n line k) three (get_or line k true) ≡ after n line (suc k)

at_until : (n : ℕ) (bits ys : List Bool) (k : ℕ) → n ≡ length bits → k < end_sample n → At n (until_end bits ++ ys) k
unfolding framer_after framed fixed
at_until n bits ys zero e h = record { quiet = refl; steps = λ three i p. rw (i refl) }
at_until n bits ys (suc k) e h =
    let xs : List Bool = replicate 15 false ++ (stretched bits ++ replicate 9 true) in
    let l : suc (length xs) ≡ end_sample (length bits) = until_length bits in
    let u : Underway n false xs k (framer_after n false true true (begun n) (take k xs)) (framer_after n false true true (begun n) (take (suc k) xs)) =
    underway false true true k (frame_walk n bits e) (frame_steady n bits e) (omega arith) in
    let t : take k (xs ++ ys) ≡ take k xs = take-append-le k xs ys (omega arith) in
    let t' : take (suc k) (xs ++ ys) ≡ take (suc k) xs = take-append-le (suc k) xs ys (omega arith) in
    let g : get_or (xs ++ ys) k true ≡ get_or xs k true = get_or-append xs ys true k (omega arith) in
    let b : get_or ((false ∷ xs) ++ ys) k true ≡ get_or (false ∷ xs) k true = get_or-append (false ∷ xs) ys true k (omega arith) in
    record {
      quiet = ap (λ (v : List Bool). ends (framer_after n false true true (begun n) v)) t ∙ u.quiet;
      steps = λ three i p.
          ap₂ (λ (v : List Bool) (x : Bool). framed n (framer_after n false true true (begun n) v) three x) t g
          ∙ u.steps three (λ z. sym b ∙ p k refl z)
          ∙ ap (λ (v : List Bool). framer_after n false true true (begun n) v) (sym t');
    }

pub at : (n : ℕ) (bits : List Bool) (k : ℕ) → n ≡ length bits → k < end_sample n → At n (frame_levels bits) k
at n bits k e h = subst (λ (l : List Bool). At n l k) (sym (levels bits)) (at_until n bits (replicate 7 true) k e h)

-- The sample before the last leaves the stop bit at RT9.
pub at_end_holds : (n : ℕ) (bits : List Bool) → n ≡ length bits →
    after n (frame_levels bits) (end_sample n) ≡ bit_at 0 9 true true 0 (value bits)
unfolding framer_after framed fixed
at_end_holds n bits e =
    let l : end_sample n ≡ length (until_end bits) = ap end_sample e ∙ sym (until_length bits) in
    ap₂ (λ (v : List Bool) (k : ℕ). after n v k) (levels bits) l
    ∙ ap (λ (v : List Bool). framer_after n true true true searching v)
    (take-append-le (length (until_end bits)) (until_end bits) (replicate 7 true) (omega arith) ∙ take-length (until_end bits))
    ∙ along false true true (frame_walk n bits e) (level_unmoved false true true (frame_walk n bits e) (frame_steady n bits e))

-- On sixteen equal samples for each bit nothing moves.
pub exact_rate : (bits : List Bool) →
    Unmoved (length bits) true true true searching (take (end_sample (length bits)) (frame_levels bits))
unfolding Unmoved framed fixed
exact_rate bits =
    let n : ℕ = length bits in
    let l : end_sample n ≡ length (until_end bits) = sym (until_length bits) in
    let e : take (end_sample n) (frame_levels bits) ≡ until_end bits =
    ap₂ (λ (k : ℕ) (v : List Bool). take k v) l (levels bits)
    ∙ take-append-le (length (until_end bits)) (until_end bits) (replicate 7 true) (omega arith) ∙ take-length (until_end bits) in
    rw e (refl, level_unmoved false true true (frame_walk n bits refl) (frame_steady n bits refl))
