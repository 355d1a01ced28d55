-- What one sample makes of a receiver and its flags: inside a frame, and at a frame's last.
-- Assumes nothing.
use Prim.Native.Nat.{ℕ, ◌+◌, ◌≤◌, ◌<◌, min}
use mathlib.Core.Bool.{Bool, true, false, not, ◌&&◌, ◌||◌, cond, and-false}
use mathlib.Core.Path.{◌≡◌, refl, ap, ◌∙◌}
use native.Mathlib.Omega.{arith}
use lib.Dec.{ltb}
use borrow.Author.Tests.{ne_eqb}
use Rattle.steps.specs.Bits.{bit}
use Rattle.sci.specs.model.Flags.{PF, FE, NF, OR, IDLE, RAF, RDRF}
use Rattle.sci.specs.claims.Members.{member}
use Rattle.sci.specs.model.Status.{raise_if, fall_if}
use Rattle.sci.specs.model.Control.{PT, PE, M, bits_of, frame_samples}
use Rattle.sci.specs.model.Bits.{parity_bit}
use Rattle.sci.specs.model.Framer.{ends, frame_of}
use Rattle.sci.specs.model.Receiver.{full, outcome, raised, entered, status_after, receiver_after, received}
use Rattle.sci.specs.declared.status.Status.{Status}
use Rattle.sci.specs.declared.framer.Frame.{Frame}
use Rattle.sci.specs.declared.receiver.Receiver.{Receiver}
use Rattle.sci.specs.declared.receiver.Outcome.{Outcome}
use Rattle.sci.proofs.Flagged.{is_set, is_marked, set_raise, marked_raiseIf, raise_off, raise_keeps, fall_keeps, fall_keeps_marked}

-- Flag k is neither RAF nor, where the line falls idle, IDLE.
pub status_set : (k : ℕ) (s : Status) (o : Outcome) (f : Frame) (bad idles : Bool) → bit k 32 ≡ false → idles && bit k 16 ≡ false →
    is_set k (status_after s o f bad idles) ≡ is_set k (entered (o.taken && not o.lost) (raise_if o.lost s OR) f bad)
unfolding status_after member
status_set k s o f bad idles h i =
    let a : Status = entered (o.taken && not o.lost) (raise_if o.lost s OR) f bad in
    let b : Status = raise_if o.begun a RAF in
    let c : Status = fall_if (o.abandoned || o.reached) b RAF in
    raise_off k idles c IDLE i ∙ fall_keeps k (o.abandoned || o.reached) b RAF h ∙ raise_keeps k o.begun a RAF h

pub status_marked : (k : ℕ) (s : Status) (o : Outcome) (f : Frame) (bad idles : Bool) → bit k 32 ≡ false →
    is_marked k (status_after s o f bad idles) ≡ is_marked k (entered (o.taken && not o.lost) (raise_if o.lost s OR) f bad)
unfolding status_after member
status_marked k s o f bad idles h =
    let a : Status = entered (o.taken && not o.lost) (raise_if o.lost s OR) f bad in
    let b : Status = raise_if o.begun a RAF in
    let c : Status = fall_if (o.abandoned || o.reached) b RAF in
    marked_raiseIf k idles c IDLE ∙ fall_keeps_marked k (o.abandoned || o.reached) b RAF h ∙ marked_raiseIf k o.begun a RAF

-- Nothing is taken.
none_entered : (s : Status) (f : Frame) (bad taken lost : Bool) → taken ≡ false → lost ≡ false →
    entered (taken && not lost) (raise_if lost s OR) f bad ≡ s
unfolding entered raise_if
none_entered s f bad taken lost t l = rw (t, l)

-- A clean frame enters.
clean_entered : (k : ℕ) (s : Status) (f : Frame) (bad taken lost : Bool) → taken ≡ true → lost ≡ false → f.noise ≡ 0 →
    f.stop ≡ true → bad ≡ false → is_set k (entered (taken && not lost) (raise_if lost s OR) f bad) ≡ is_set k s || bit k 64
unfolding entered raise_if raised member
clean_entered k s f bad taken lost t l e g b = rw (t, l, e, g, b) (set_raise k s RDRF)

-- A flag that is none of the receiver's.
entered_keeps : (k : ℕ) (enters lost : Bool) (s : Status) (f : Frame) (bad : Bool) → bit k 64 ≡ false → bit k 8 ≡ false →
    bit k 4 ≡ false → bit k 2 ≡ false → bit k 1 ≡ false → is_set k (entered enters (raise_if lost s OR) f bad) ≡ is_set k s
unfolding entered raised raise_if member
entered_keeps k false lost s f bad a b c d e = raise_keeps k lost s OR b
entered_keeps k true lost s f bad a b c d e =
    let s₀ : Status = raise_if lost s OR in
    let s₁ : Status = raise_if true s₀ RDRF in
    let s₂ : Status = raise_if (ltb 0 f.noise) s₁ NF in
    let s₃ : Status = raise_if (not f.stop) s₂ FE in
    raise_keeps k bad s₃ PF e ∙ raise_keeps k (not f.stop) s₂ FE d ∙ raise_keeps k (ltb 0 f.noise) s₁ NF c
    ∙ raise_keeps k true s₀ RDRF a ∙ raise_keeps k lost s OR b

module _ (r : Receiver) (s : Status) (c : ℕ) (x : Bool) where
  abbrev pub idles : Bool
  idles = (outcome r s c x).reached && not r.asleep && r.since

  abbrev bad : Bool
  bad = PE c && parity_bit (PT c) r.framer.shift

  not_taken : ends r.framer ≡ false → (outcome r s c x).taken ≡ false
  unfolding outcome
  not_taken e = rw e

  not_lost : ends r.framer ≡ false → (outcome r s c x).lost ≡ false
  unfolding outcome
  not_lost e = rw e

  is_taken : ends r.framer ≡ true → r.asleep ≡ false → (outcome r s c x).taken ≡ true
  unfolding outcome
  is_taken e a = rw (e, a)

  is_kept : full s ≡ false → (outcome r s c x).lost ≡ false
  unfolding outcome
  is_kept f = ap (λ (b : Bool). (outcome r s c x).taken && b) f ∙ and-false (outcome r s c x).taken

  -- The idle count is not at its limit after this sample.
  pub not_reached : r.idle + 1 < frame_samples (bits_of (M c)) → (outcome r s c x).reached ≡ false
  unfolding outcome
  not_reached h =
      ap (λ (b : Bool). (outcome r s c x).counted && b)
      (ne_eqb (r.idle + 1) (frame_samples (bits_of (M c))) (λ e. omega arith))
      ∙ and-false (outcome r s c x).counted

  pub zero_not_reached : x ≡ false → (outcome r s c x).reached ≡ false
  unfolding outcome
  zero_not_reached e = rw e

  -- A sample that ends no frame.
  pub passed_flags : ends r.framer ≡ false → (k : ℕ) → bit k 32 ≡ false → bit k 16 ≡ false →
      is_set k (received r s c x).status ≡ is_set k s
  unfolding received
  passed_flags e k h i =
      status_set k s (outcome r s c x) (frame_of r.framer x) bad idles h (ap (λ (b : Bool). idles && b) i ∙ and-false idles)
      ∙ ap (is_set k) (none_entered s (frame_of r.framer x) bad (outcome r s c x).taken (outcome r s c x).lost (not_taken e) (not_lost e))

  pub passed_idle : ends r.framer ≡ false → (outcome r s c x).reached ≡ false → is_set 4 (received r s c x).status ≡ is_set 4 s
  unfolding received
  passed_idle e n =
      status_set 4 s (outcome r s c x) (frame_of r.framer x) bad idles refl (rw n)
      ∙ ap (is_set 4) (none_entered s (frame_of r.framer x) bad (outcome r s c x).taken (outcome r s c x).lost (not_taken e) (not_lost e))

  pub passed_marks : ends r.framer ≡ false → (k : ℕ) → bit k 32 ≡ false → is_marked k (received r s c x).status ≡ is_marked k s
  unfolding received
  passed_marks e k h =
      status_marked k s (outcome r s c x) (frame_of r.framer x) bad idles h
      ∙ ap (is_marked k)
      (none_entered s (frame_of r.framer x) bad (outcome r s c x).taken (outcome r s c x).lost (not_taken e) (not_lost e))

  pub transmit_flags_holds : (k : ℕ) → bit k 64 ≡ false → bit k 32 ≡ false → bit k 16 ≡ false → bit k 8 ≡ false →
      bit k 4 ≡ false → bit k 2 ≡ false → bit k 1 ≡ false → is_set k (received r s c x).status ≡ is_set k s
  unfolding received
  transmit_flags_holds k h i j l m n o =
      status_set k s (outcome r s c x) (frame_of r.framer x) bad idles i (ap (λ (b : Bool). idles && b) j ∙ and-false idles)
      ∙ entered_keeps k ((outcome r s c x).taken && not (outcome r s c x).lost) (outcome r s c x).lost s (frame_of r.framer x) bad h l m n o

  pub stays_awake : r.asleep ≡ false → (received r s c x).receiver.asleep ≡ false
  unfolding received receiver_after
  stays_awake a = rw a

  pub count_up : (received r s c x).receiver.idle ≤ r.idle + 1
  unfolding received receiver_after
  count_up = go (outcome r s c x).counted
    where
      go : (b : Bool) → cond b (min (frame_samples (bits_of (M c))) (r.idle + 1)) 0 ≤ r.idle + 1
      go true = omega arith
      go false = omega arith

  pub count_zero : x ≡ false → (received r s c x).receiver.idle ≡ 0
  unfolding received receiver_after outcome
  count_zero e = rw e

  -- The last sample of a clean frame.
  module _ (w : ℕ) (end : ends r.framer ≡ true) (clean : frame_of r.framer x ≡ record { word = w; noise = 0; stop = true })
      (awake : r.asleep ≡ false) (empty : full s ≡ false) where
    pub entered_word : (received r s c x).receiver.scdr ≡ w
    unfolding received receiver_after
    entered_word = rw (is_taken end awake, is_kept empty) (ap (λ (f : Frame). f.word) clean)

    pub entered_flags : PE c && parity_bit (PT c) w ≡ false → (k : ℕ) → bit k 32 ≡ false → idles && bit k 16 ≡ false →
        is_set k (received r s c x).status ≡ is_set k s || bit k 64
    unfolding received
    entered_flags p k h i =
        status_set k s (outcome r s c x) (frame_of r.framer x) bad idles h i
        ∙ clean_entered k s (frame_of r.framer x) bad (outcome r s c x).taken (outcome r s c x).lost (is_taken end awake) (is_kept empty)
        (ap (λ (f : Frame). f.noise) clean) (ap (λ (f : Frame). f.stop) clean)
        (ap (λ (v : ℕ). PE c && parity_bit (PT c) v) (ap (λ (f : Frame). f.word) clean) ∙ p)
