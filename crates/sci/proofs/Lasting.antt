-- What starts lasts its samples, TC rises with the last of them, and a preamble is ones.
-- Assumes nothing.
use mathlib.Core.Path.{◌≡◌, refl, ap, ap₂, sym, ◌∙◌}
use mathlib.Core.Bool.{Bool, true, false, cond, not, ◌&&◌, ◌||◌, or-true}
use mathlib.Core.List.{List, [], ◌∷◌}
use Prim.Native.Nat.{ℕ, zero, suc, ◌+◌, ◌*◌, ◌-◌, ◌/◌, ◌%◌, ◌^◌, ◌≤◌, ◌<◌}
use native.Mathlib.Omega.{arith}
use native.Mathlib.Nat.{pow-suc}
use lib.Dec.{eqb}
use lib.ListN.{length, replicate}
use lib.Pow.{pow_pos}
use borrow.Author.Tests.{eq-eqb, ne_eqb, eqb-true, eqb-false}
use Rattle.sci.specs.model.Flags.{TC, TDRE}
use Rattle.sci.specs.model.Status.{has}
use Rattle.sci.specs.model.Control.{M, bits_of, frame_samples}
use Rattle.sci.specs.model.Transmitter.{runs, level, preamble_bits, begins_preamble, sent}
use Rattle.sci.specs.claims.Link.{Around, sent_around, shown}
use Rattle.sci.specs.claims.TransmitterClauses.{frame_starts, sent_all, EachLasts, PreambleOnes, TransmitterClauses}
use Rattle.sci.specs.declared.status.Status.{Status}
use Rattle.sci.specs.declared.transmitter.Transmitter.{Transmitter}
use Rattle.sci.proofs.Sending.{no_preamble, no_frame}
use Rattle.sci.proofs.Starting.{preamble_is, starts_whole, tc, starts}
use Rattle.sci.proofs.ParitySent.{parity_sent}

-- With more than one sample left, one is taken away.
one_less : (a : Around) (t : Transmitter) → 1 < t.left → (sent_around a t).left ≡ t.left - 1
unfolding sent
one_less a t h =
    let v : Transmitter = record { scdr = a.scdr; preamble = a.preamble; shift = t.shift; left = t.left } in
    rw (no_preamble v a.sccr1 h, no_frame v a.status a.sccr1 h)

left_after : (later : List Around) (t : Transmitter) → length later < t.left → (sent_all later t).left + length later ≡ t.left
unfolding sent_all
left_after [] t h = omega arith
left_after (a ∷ later) t h =
    let e : (sent_around a t).left ≡ t.left - 1 = one_less a t (omega arith) in
    let rest : (sent_all later (sent_around a t)).left + length later ≡ (sent_around a t).left = left_after later (sent_around a t) (omega arith) in
    omega arith

runs_left : (t : Transmitter) → 0 < t.left → runs t ≡ true
runs_left t h = ap not (ne_eqb t.left 0 (λ z. omega arith))

last_is : (left k samples : ℕ) → left + k ≡ samples → eqb left 1 ≡ eqb (suc k) samples
last_is left k samples e = go (eqb left 1) refl
  where
    go : (b : Bool) → eqb left 1 ≡ b → b ≡ eqb (suc k) samples
    go true h = sym (eq-eqb (suc k) samples (omega (arith, eqb-true left 1 h)))
    go false h = sym (ne_eqb (suc k) samples (λ z. eqb-false left 1 h (omega arith)))

each_lasts : EachLasts
each_lasts c t s later a h l =
    let u : Transmitter = (sent t s c).transmitter in
    let n : ℕ = bits_of (M c) in
    let whole : u.left ≡ frame_samples n = starts_whole c t s h in
    let e : (sent_all later u).left + length later ≡ frame_samples n = left_after later u (omega arith) ∙ whole in
    record {
      runs = runs_left (sent_all later u) (omega arith);
      tc =
          tc a.sccr1 (sent_all later u) a.status
          ∙ ap (λ (b : Bool). has a.status TC || (b && has a.status TDRE)) (last_is (sent_all later u).left (length later) (frame_samples n) e);
    }

-- Ones to come: as many, at least, as there are bits left.
record Ones (j : ℕ) (t : Transmitter) : Type 0 where
  shift : t.shift ≡ 2 ^ j - 1
  enough : t.left ≤ 16 * j

ones_half : (j : ℕ) → (2 ^ suc j - 1) / 2 ≡ 2 ^ j - 1
ones_half j = omega (arith, pow-suc 2 j, pow_pos j)

ones_level : (j : ℕ) (t : Transmitter) → Ones j t → 0 < t.left → level t ≡ true
ones_level zero t h l = absurd (omega (arith, h.enough))
ones_level (suc j) t h l =
    let e : t.shift % 2 ≡ 1 = omega (arith, h.shift, pow-suc 2 j, pow_pos j) in
    rw (runs_left t l, e)

module _ (a : Around) (t : Transmitter) (more : 1 < t.left) where
  abbrev v : Transmitter
  v = record { scdr = a.scdr; preamble = a.preamble; shift = t.shift; left = t.left }

  next_shift : (sent_around a t).shift ≡ cond (eqb ((t.left - 1) % 16) 0) (t.shift / 2) t.shift
  unfolding sent
  next_shift = rw (no_preamble v a.sccr1 more, no_frame v a.status a.sccr1 more)

  ones_on : (j : ℕ) → Ones j t → (i : ℕ) × Ones i (sent_around a t)
  ones_on j h = go j h (eqb ((t.left - 1) % 16) 0) refl
    where
      go : (j : ℕ) → Ones j t → (b : Bool) → eqb ((t.left - 1) % 16) 0 ≡ b → (i : ℕ) × Ones i (sent_around a t)
      go zero h b e = absurd (omega (arith, h.enough))
      go (suc j) h true e = (
        j,
        record {
          shift = next_shift ∙ rw e (ap (λ (x : ℕ). x / 2) h.shift ∙ ones_half j);
          enough = omega (arith, one_less a t more, h.enough, eqb-true ((t.left - 1) % 16) 0 e);
        },
      )
      go (suc j) h false e =
          (suc j, record { shift = next_shift ∙ rw e h.shift; enough = omega (arith, one_less a t more, h.enough) })

ones_shown : (later : List Around) (j : ℕ) (t : Transmitter) → Ones j t → length later < t.left →
    shown later t ≡ replicate (suc (length later)) true
unfolding shown
ones_shown [] j t h l = ap (λ (b : Bool). b ∷ []) (ones_level j t h (omega arith))
ones_shown (a ∷ later) j t h l =
    let on = ones_on a t (omega arith) j h in
    ap₂ (λ (b : Bool) (bs : List Bool). b ∷ bs) (ones_level j t h (omega arith))
    (ones_shown later on.0 (sent_around a t) on.1 (omega (arith, one_less a t (omega arith))))

preamble_shift : (c : ℕ) (t : Transmitter) (s : Status) → begins_preamble t c ≡ true →
    (sent t s c).transmitter.shift ≡ preamble_bits (bits_of (M c))
unfolding sent
preamble_shift c t s e = rw e

preamble_ones : PreambleOnes
preamble_ones c t s later h l =
    let u : Transmitter = (sent t s c).transmitter in
    let n : ℕ = bits_of (M c) in
    let whole : u.left ≡ frame_samples n = starts_whole c t s (ap (λ (b : Bool). frame_starts t u || b) h ∙ or-true (frame_starts t u)) in
    ones_shown later (n + 2) u (record { shift = preamble_shift c t s (sym (preamble_is c t s) ∙ h); enough = omega arith }) (omega arith)

pub transmitter_clauses : TransmitterClauses
transmitter_clauses = record { starts = starts; lasts = each_lasts; preamble = preamble_ones; parity = parity_sent }
