-- A frame or a preamble that starts, told by what runs before the sample and after it, and by TXD.
-- Assumes nothing.
use mathlib.Core.Path.{◌≡◌, refl, ap, ap₂, sym, ◌∙◌}
use mathlib.Core.Bool.{Bool, true, false, not, ◌&&◌, ◌||◌, and-true, and-false, or-false, and_comm, false≢true}
use Prim.Native.Nat.{ℕ, ◌+◌, ◌*◌, ◌-◌, ◌%◌, ◌^◌, ◌≤◌}
use native.Mathlib.Omega.{arith}
use native.Mathlib.Nat.{pow-suc}
use lib.Dec.{eqb, leb}
use lib.Pow.{pow_pos}
use borrow.Author.Tests.{ne_eqb, eqb-true, leb-true, leb-false, not-false}
use Rattle.sci.specs.model.Flags.{TC, TDRE}
use Rattle.sci.specs.claims.Members.{member}
use Rattle.sci.specs.model.Status.{has}
use Rattle.sci.specs.model.Control.{PT, PE, M, TE, bits_of, frame_samples}
use Rattle.sci.specs.model.Transmitter.{runs, level, data_sent, frame_bits, preamble_bits, new_left, passed, new_shift, ends, begins_preamble, begins_frame, sent}
use Rattle.sci.specs.claims.TransmitterClauses.{frame_starts, preamble_starts, StartClauses}
use Rattle.sci.specs.declared.status.Status.{Status}
use Rattle.sci.specs.declared.transmitter.Transmitter.{Transmitter}
use Rattle.sci.proofs.Membership.{and_right}
use Rattle.sci.proofs.Flagged.{has_flag, set_raiseIf, raise_keeps}
use Rattle.sci.proofs.Sending.{no_preamble, no_frame}

-- The transmitter after a sample, where a preamble (p) or a frame (f) of n bits of w begins, or neither.
abbrev after : Transmitter → ℕ → ℕ → Bool → Bool → Transmitter
after t n w p f =
    record {
      scdr = t.scdr;
      preamble = t.preamble && not p;
      shift =
          new_shift p f (preamble_bits n) (frame_bits n w) (passed (eqb (new_left (p || f) n t.left % 16) 0) t.shift);
      left = new_left (p || f) n t.left;
    }

module _ (t : Transmitter) (n w : ℕ) where
  long : eqb (frame_samples n) 0 ≡ false
  long = ne_eqb (frame_samples n) 0 (λ z. omega arith)

  -- A preamble is at one, a frame's start bit at zero.
  preamble_odd : preamble_bits n % 2 ≡ 1
  preamble_odd =
      let e : 2 ^ (n + 2) ≡ 2 ^ (n + 1) * 2 = ap (λ (j : ℕ). 2 ^ j) (omega arith) ∙ pow-suc 2 (n + 1) in
      omega (arith, pow_pos (n + 1))

  frame_even : frame_bits n w % 2 ≡ 0
  frame_even =
      let e : 2 ^ (n + 1) ≡ 2 ^ n * 2 = ap (λ (j : ℕ). 2 ^ j) (omega arith) ∙ pow-suc 2 n in
      omega arith

  preamble_level : (f : Bool) → level (after t n w true f) ≡ true
  preamble_level f = rw (long, preamble_odd)

  frame_level : level (after t n w false true) ≡ false
  frame_level = rw (long, frame_even)

  none_runs : t.left ≤ 1 → runs (after t n w false false) ≡ false
  none_runs h =
      let z : t.left - 1 ≡ 0 = omega arith in
      rw z

  -- With the shifter free the two bools tell what starts.
  shows_frame : t.left ≤ 1 → (p f : Bool) → (p ≡ true → f ≡ false) →
      runs (after t n w p f) && not (level (after t n w p f)) ≡ f
  shows_frame h true f e = rw (preamble_level f, e refl) (and-false (runs (after t n w true false)))
  shows_frame h false true e = rw (frame_level, long)
  shows_frame h false false e = rw (none_runs h)

  shows_preamble : t.left ≤ 1 → (p f : Bool) → runs (after t n w p f) && level (after t n w p f) ≡ p
  shows_preamble h true f = rw (preamble_level f, long)
  shows_preamble h false true = rw (frame_level) (and-false (runs (after t n w false true)))
  shows_preamble h false false = rw (none_runs h)

shuffle_frame : (te free queued empty : Bool) → te && free && not queued && not empty ≡ free && te && not empty && not queued
shuffle_frame true true true true = refl
shuffle_frame true true true false = refl
shuffle_frame true true false empty = sym (and-true (not empty))
shuffle_frame true false queued empty = refl
shuffle_frame false true queued empty = refl
shuffle_frame false false queued empty = refl

module _ (c : ℕ) (t : Transmitter) (s : Status) where
  abbrev u : Transmitter
  u = (sent t s c).transmitter

  abbrev n : ℕ
  n = bits_of (M c)

  abbrev w : ℕ
  w = data_sent n (PE c) (PT c) t.scdr

  u_is : u ≡ after t n w (begins_preamble t c) (begins_frame t s c)
  unfolding sent
  u_is = refl

  not_both : begins_preamble t c ≡ true → begins_frame t s c ≡ false
  not_both e =
      let queued : t.preamble ≡ true = and_right (TE c && leb t.left 1) t.preamble e in
      rw (queued, and-false)

  pub frame_is : frame_starts t u ≡ begins_frame t s c
  frame_is = go (leb t.left 1) refl
    where
      go : (b : Bool) → leb t.left 1 ≡ b → b && runs u && not (level u) ≡ begins_frame t s c
      go true e = rw u_is (shows_frame t n w (leb-true t.left 1 e) (begins_preamble t c) (begins_frame t s c) not_both)
      go false e = sym (no_frame t s c (leb-false t.left 1 e))

  pub preamble_is : preamble_starts t u ≡ begins_preamble t c
  preamble_is = go (leb t.left 1) refl
    where
      go : (b : Bool) → leb t.left 1 ≡ b → b && runs u && level u ≡ begins_preamble t c
      go true e = rw u_is (shows_preamble t n w (leb-true t.left 1 e) (begins_preamble t c) (begins_frame t s c))
      go false e = sym (no_preamble t c (leb-false t.left 1 e))

  -- What starts has all its samples left.
  pub starts_whole : frame_starts t u || preamble_starts t u ≡ true → u.left ≡ frame_samples n
  unfolding sent
  starts_whole e = go (begins_preamble t c) (begins_frame t s c) (sym (ap₂ (λ (a b : Bool). a || b) frame_is preamble_is) ∙ e)
    where
      go : (p f : Bool) → f || p ≡ true → new_left (p || f) n t.left ≡ frame_samples n
      go true f e = refl
      go false true e = refl
      go false false e = absurd (false≢true e)

  tdre : has (sent t s c).status TDRE ≡ has s TDRE || frame_starts t u
  unfolding sent member
  tdre =
      has_flag 8 (sent t s c).status ∙ set_raiseIf 8 (begins_frame t s c) _ TDRE
      ∙ ap₂ (λ (a b : Bool). a || b) (raise_keeps 8 (ends t && has s TDRE) s TC refl ∙ sym (has_flag 8 s))
      (and-true (begins_frame t s c) ∙ sym frame_is)

  pub tc : has (sent t s c).status TC ≡ has s TC || (eqb t.left 1 && has s TDRE)
  unfolding sent member
  tc =
      has_flag 7 (sent t s c).status ∙ raise_keeps 7 (begins_frame t s c) _ TDRE refl
      ∙ set_raiseIf 7 (ends t && has s TDRE) s TC ∙ rw (and-true, has_flag 7 s)

  rests : runs t ≡ false → has (sent t s c).status TC ≡ has s TC
  rests e =
      let none : t.left ≡ 0 = eqb-true t.left 0 (not-false (eqb t.left 0) e) in
      tc ∙ rw none (or-false (has s TC))

  pub starts : StartClauses c t s
  starts =
      record {
        frame = frame_is ∙ shuffle_frame (TE c) (leb t.left 1) t.preamble (has s TDRE);
        preamble = preamble_is ∙ ap (λ (b : Bool). b && t.preamble) (and_comm (TE c) (leb t.left 1));
        queued = ap (λ (v : Transmitter). v.preamble) u_is ∙ ap (λ (b : Bool). t.preamble && not b) (sym preamble_is);
        tdre = tdre;
        rests = rests;
      }
