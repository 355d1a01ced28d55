-- The levels that a transmitter shows while a frame runs, and the parity that it sends.
-- k samples after the frame began the shifter holds `frame_bits` shifted by k / 16, so that sample shows bit k / 16.
-- Assumes nothing.
use Prim.Native.Nat.{ℕ, zero, suc, ◌+◌, ◌*◌, ◌-◌, ◌/◌, ◌%◌, ◌^◌, ◌<◌}
use mathlib.Core.Bool.{Bool, true, false, not, ◌&&◌, cond, and-false}
use mathlib.Core.List.{List, [], ◌∷◌, ◌++◌}
use mathlib.Core.Path.{◌≡◌, refl, ap, ap₂, sym, ◌∙◌}
use native.Mathlib.Omega.{arith}
use native.Mathlib.Decide.{dec_lt}
use native.Mathlib.Nat.{pow-suc, mod-lt, mod-eq_of_lt}
use lib.Dec.{eqb}
use lib.ListN.{replicate, length, get_or, get_or-replicate, get_or-append}
use lib.Seq.{get_or-append-add}
use lib.Arith.{mod-mul}
use lib.Pow.{pow_pos, shr-shr}
use lib.Count.{ones, ones_cat}
use borrow.Author.Tests.{ne_eqb, lt-leb, eqb-true, eqb-false, not-true}
use Rattle.steps.specs.Bits.{digit}
use Rattle.sci.specs.model.Control.{PT, PE, M, TE, bits_of, frame_samples}
use Rattle.sci.specs.model.Flags.{TDRE}
use Rattle.sci.specs.model.Status.{has}
use Rattle.sci.specs.model.Bits.{parity_bit}
use Rattle.sci.specs.model.Transmitter.{level, data_sent, frame_bits, begins_preamble, begins_frame, free, sent}
use Rattle.sci.specs.claims.Levels.{low_bits, value, stretched, frame_levels}
use Rattle.sci.specs.declared.status.Status.{Status}
use Rattle.sci.specs.declared.transmitter.Transmitter.{Transmitter}
use Rattle.sci.proofs.Membership.{and_left, and_right}

-- The value of a word's low n bits.
pub digit_eqb : (d : ℕ) → d < 2 → digit (eqb d 1) ≡ d
digit_eqb zero h = refl
digit_eqb (suc zero) h = refl
digit_eqb (suc (suc d)) h = absurd (omega arith)

pub mod_suc : (n w : ℕ) → w % 2 ^ suc n ≡ (w / 2 % 2 ^ n) * 2 + w % 2
mod_suc n w = ap (λ (x : ℕ). w % x) (pow-suc 2 n) ∙ mod-mul w (pow_pos n) (omega arith)

pub value_low : (n w : ℕ) → value (low_bits n w) ≡ w % 2 ^ n
unfolding low_bits value
value_low zero w = omega arith
value_low (suc n) w = rw (value_low n (w / 2), mod_suc n w, digit_eqb (w % 2) (omega arith)) (omega arith)

pub low_length : (n w : ℕ) → length (low_bits n w) ≡ n
unfolding low_bits
low_length zero w = refl
low_length (suc n) w = ap suc (low_length n (w / 2))

-- A frame's bits are those of `frame_bits`.
low_stop : (n w : ℕ) → low_bits (suc n) (2 ^ n + w % 2 ^ n) ≡ low_bits n w ++ (true ∷ [])
unfolding low_bits
low_stop zero w =
    let e : 2 ^ 0 + w % 2 ^ 0 ≡ 1 = omega arith in
    rw e
low_stop (suc n) w =
    let e : (2 ^ suc n + w % 2 ^ suc n) % 2 ≡ w % 2 = rw (mod_suc n w, pow-suc 2 n) (omega arith) in
    let f : (2 ^ suc n + w % 2 ^ suc n) / 2 ≡ 2 ^ n + w / 2 % 2 ^ n = rw (mod_suc n w, pow-suc 2 n) (omega arith) in
    ap₂ (λ (x y : ℕ). eqb x 1 ∷ low_bits (suc n) y) e f ∙ ap (λ (l : List Bool). eqb (w % 2) 1 ∷ l) (low_stop n (w / 2))

pub frame_low : (n w : ℕ) → low_bits (n + 2) (frame_bits n w) ≡ false ∷ low_bits n w ++ (true ∷ [])
unfolding low_bits
frame_low n w =
    let m : n + 2 ≡ suc (suc n) = omega arith in
    let p : 2 ^ (n + 1) ≡ 2 ^ n * 2 = ap (λ (j : ℕ). 2 ^ j) (omega arith) ∙ pow-suc 2 n in
    let e : (2 ^ (n + 1) + 2 * (w % 2 ^ n)) % 2 ≡ 0 = omega arith in
    let f : (2 ^ (n + 1) + 2 * (w % 2 ^ n)) / 2 ≡ 2 ^ n + w % 2 ^ n = omega arith in
    ap (λ (j : ℕ). low_bits j (frame_bits n w)) m ∙ ap₂ (λ (x y : ℕ). eqb x 1 ∷ low_bits (suc n) y) e f
    ∙ ap (λ (l : List Bool). false ∷ l) (low_stop n w)

-- Bit j of a word.
pub low_at : (n w j : ℕ) → j < n → get_or (low_bits n w) j true ≡ eqb (w / 2 ^ j % 2) 1
unfolding low_bits
low_at zero w j h = absurd (omega arith)
low_at (suc n) w zero h =
    let e : w ≡ w / 2 ^ 0 = omega arith in
    ap (λ (x : ℕ). eqb (x % 2) 1) e
low_at (suc n) w (suc j) h =
    low_at n (w / 2) j (omega arith)
    ∙ ap (λ (x : ℕ). eqb (x % 2) 1) (shr-shr w 1 j ∙ ap (λ (i : ℕ). w / 2 ^ i) (omega arith))

-- Sample k of bits that last 16 samples each is bit k / 16.
pub stretched_at : (bits : List Bool) (k : ℕ) → get_or (stretched bits) k true ≡ get_or bits (k / 16) true
unfolding stretched
stretched_at [] k = refl
stretched_at (b ∷ bits) k = go (dec_lt k 16) (stretched_at bits (k - 16))
  where
    go : Dec (k < 16) → get_or (stretched bits) (k - 16) true ≡ get_or bits ((k - 16) / 16) true →
        get_or (replicate 16 b ++ stretched bits) k true ≡ get_or (b ∷ bits) (k / 16) true
    go (yes h) ih =
        let q : k / 16 ≡ 0 = omega arith in
        get_or-append (replicate 16 b) (stretched bits) true k h ∙ get_or-replicate 16 k b true h
        ∙ ap (λ (j : ℕ). get_or (b ∷ bits) j true) (sym q)
    go (no h) ih =
        let q : k / 16 ≡ suc ((k - 16) / 16) = omega arith in
        let e : k ≡ length (replicate 16 b) + (k - 16) = omega arith in
        ap (λ (j : ℕ). get_or (replicate 16 b ++ stretched bits) j true) e
        ∙ get_or-append-add (replicate 16 b) (stretched bits) (k - 16) true ∙ ih ∙ ap (λ (j : ℕ). get_or (b ∷ bits) j true) (sym q)

-- k samples after a frame of n data bits of w began.
pub record Sending (n w k : ℕ) (t : Transmitter) : Type 0 where
  pub left : t.left + k ≡ frame_samples n
  pub shift : t.shift ≡ frame_bits n w / 2 ^ (k / 16)

-- The level then is that sample of the frame.
pub shows : (n w k : ℕ) (t : Transmitter) → Sending n w k t → k < frame_samples n →
    level t ≡ get_or (frame_levels (low_bits n w)) k true
shows n w k t h l =
    let e : eqb t.left 0 ≡ false = ne_eqb t.left 0 (λ z. omega (arith, h.left)) in
    rw (e, h.shift)
    (sym (low_at (n + 2) (frame_bits n w) (k / 16) (omega arith))
    ∙ sym (stretched_at (low_bits (n + 2) (frame_bits n w)) k)
    ∙ ap (λ (b : List Bool). get_or (stretched b) k true) (frame_low n w))

-- While more than one sample is left, nothing begins.
pub no_preamble : (t : Transmitter) (c : ℕ) → 1 < t.left → begins_preamble t c ≡ false
no_preamble t c h =
    ap (λ (b : Bool). TE c && b && t.preamble) (lt-leb t.left 1 h) ∙ ap (λ (b : Bool). b && t.preamble) (and-false (TE c))

pub no_frame : (t : Transmitter) (s : Status) (c : ℕ) → 1 < t.left → begins_frame t s c ≡ false
no_frame t s c h =
    ap (λ (b : Bool). TE c && b && not t.preamble && not (has s TDRE)) (lt-leb t.left 1 h)
    ∙ ap (λ (b : Bool). b && not t.preamble && not (has s TDRE)) (and-false (TE c))

-- So the shifter goes on, whatever the firmware does to the rest.
pub keeps_sending : (n w k : ℕ) (t : Transmitter) (s : Status) (c : ℕ) → Sending n w k t → suc k < frame_samples n →
    Sending n w (suc k) (sent t s c).transmitter
unfolding sent
keeps_sending n w k t s c h l =
    let more : 1 < t.left = omega (arith, h.left) in
    rw (no_preamble t c more, no_frame t s c more)
    (record { left = omega (arith, h.left); shift = go (eqb ((t.left - 1) % 16) 0) refl })
  where
    go : (b : Bool) → eqb ((t.left - 1) % 16) 0 ≡ b → cond b (t.shift / 2) t.shift ≡ frame_bits n w / 2 ^ (suc k / 16)
    go true e =
        let q : k / 16 + 1 ≡ suc k / 16 = omega (arith, h.left, eqb-true ((t.left - 1) % 16) 0 e) in
        ap (λ (x : ℕ). x / 2) h.shift ∙ shr-shr (frame_bits n w) (k / 16) 1 ∙ ap (λ (j : ℕ). frame_bits n w / 2 ^ j) q
    go false e =
        let q : k / 16 ≡ suc k / 16 = omega (arith, h.left, eqb-false ((t.left - 1) % 16) 0 e) in
        h.shift ∙ ap (λ (j : ℕ). frame_bits n w / 2 ^ j) q

-- A frame that begins.
pub begins_sending : (t : Transmitter) (s : Status) (c : ℕ) → begins_frame t s c ≡ true →
    Sending (bits_of (M c)) (data_sent (bits_of (M c)) (PE c) (PT c) t.scdr) 0 (sent t s c).transmitter
unfolding sent
begins_sending t s c e =
    let p : t.preamble ≡ false =
    not-true t.preamble (and_right (TE c && free t) (not t.preamble) (and_left (TE c && free t && not t.preamble) (not (has s TDRE)) e)) in
    let q : begins_preamble t c ≡ false = ap (λ (b : Bool). TE c && free t && b) p ∙ and-false (TE c && free t) in
    rw (q, e) (record { left = omega arith; shift = omega arith })

-- Parity goes by the number of ones, even or odd.
ones_digit : (d : ℕ) → d < 2 → ones d ≡ d
unfolding ones
ones_digit zero h = refl
ones_digit (suc zero) h = refl
ones_digit (suc (suc d)) h = absurd (omega arith)

by_ones : (pt : Bool) (w : ℕ) → parity_bit pt w ≡ parity_bit pt (ones w % 2)
by_ones pt w =
    let same : ones (ones w % 2) % 2 ≡ ones w % 2 = rw (ones_digit (ones w % 2) (omega arith)) (omega arith) in
    rw same

-- The top bit turns it round.
turned : (pt : Bool) (d : ℕ) → d < 2 → parity_bit pt (1 - d) ≡ not (parity_bit pt d)
unfolding ones
turned true zero h = refl
turned true (suc zero) h = refl
turned false zero h = refl
turned false (suc zero) h = refl
turned pt (suc (suc d)) h = absurd (omega arith)

top_turns : (pt : Bool) (m w : ℕ) → w < 2 ^ m → parity_bit pt (w + 2 ^ m) ≡ not (parity_bit pt w)
unfolding ones
top_turns pt m w h =
    let e : w + 2 ^ m ≡ 1 * 2 ^ m + w = omega arith in
    let count : ones (w + 2 ^ m) ≡ 1 + ones w = ap ones e ∙ ones_cat m 1 w h in
    let more : ones (w + 2 ^ m) % 2 ≡ 1 - ones w % 2 = omega arith in
    by_ones pt (w + 2 ^ m) ∙ ap (parity_bit pt) more ∙ turned pt (ones w % 2) (omega arith) ∙ ap not (sym (by_ones pt w))

-- The word sent with PE has right parity.
pub parity_right : (n w : ℕ) (pt : Bool) → parity_bit pt (data_sent n true pt w) ≡ false
parity_right n w pt = go (parity_bit pt low) refl
  where
    low : ℕ
    low = w % 2 ^ (n - 1)

    go : (p : Bool) → parity_bit pt low ≡ p → parity_bit pt (cond p (low + 2 ^ (n - 1)) low) ≡ false
    go true e = top_turns pt (n - 1) low (mod-lt w (pow_pos (n - 1))) ∙ ap not e
    go false e = e

pred_suc : (n : ℕ) → 0 < n → n ≡ suc (n - 1)
pred_suc n h = omega arith

-- It has no more than n bits.
pub sent_fits : (n w : ℕ) (pt : Bool) → 0 < n → data_sent n true pt w % 2 ^ n ≡ data_sent n true pt w
sent_fits n w pt h = mod-eq_of_lt (go (parity_bit pt low))
  where
    low : ℕ
    low = w % 2 ^ (n - 1)

    go : (p : Bool) → cond p (low + 2 ^ (n - 1)) low < 2 ^ n
    go true = omega (arith, mod-lt w (pow_pos (n - 1)), ap (λ (j : ℕ). 2 ^ j) (pred_suc n h) ∙ pow-suc 2 (n - 1))
    go false = omega (arith, mod-lt w (pow_pos (n - 1)), ap (λ (j : ℕ). 2 ^ j) (pred_suc n h) ∙ pow-suc 2 (n - 1))
