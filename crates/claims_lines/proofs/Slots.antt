-- SCDR and its flags through a clock: nothing, a word that comes to a clear receiver, or a frame lost to a full one. Assumes nothing.
use mathlib.Core.Path.{◌≡◌, refl, ap, sym, subst, ◌∙◌}
use mathlib.Core.Bool.{Bool, true, false, cond, not, ◌&&◌, ◌||◌, or-false, true≢false, false≢true}
use mathlib.Core.List.{List, [], ◌∷◌}
use Prim.Native.Nat.{ℕ, ◌%◌}
use Rattle.sci.specs.model.Flags.{OR}
use Rattle.sci.specs.claims.Members.{member}
use Rattle.sci.specs.model.Status.{has}
use Rattle.sci.specs.model.Control.{RE, PE, PT}
use Rattle.sci.specs.model.Bits.{parity_bit}
use Rattle.sci.specs.model.Framer.{frame_of}
use Rattle.sci.specs.model.Receiver.{outcome, receiver_after, received}
use Rattle.sci.specs.model.Transmitter.{sent}
use Rattle.sci.specs.model.Serial.{active, due, clocked}
use Rattle.sci.specs.claims.Alike.{Same}
use Rattle.sci.specs.declared.status.Status.{Status}
use Rattle.sci.specs.declared.framer.Frame.{Frame}
use Rattle.sci.specs.declared.receiver.Receiver.{Receiver}
use Rattle.sci.specs.declared.receiver.Outcome.{Outcome}
use Rattle.sci.specs.declared.serial.Sci.{Sci}
use Rattle.sci.proofs.Flagged.{is_set, has_flag}
use Rattle.sci.proofs.Same.{set_at, same_sent}
use Rattle.sci.proofs.Figures.{figures}
use Rattle.sci.proofs.Rising.{rdrf_after, or_after, fe_after, pf_after}
use Rattle.sci.proofs.Reachable.{turned, clock_turned}
use Rattle.claims_polling.proofs.Full.{full_sets}
use Rattle.claims_lines.specs.Happened.{Damage, Happening, frame_lost, word_came, damage_of, sampled, clock_happens}

-- The word in SCDR with its flags, and whether a frame was lost since.
pub record Slot : Type 0 where
  pub rdrf : Bool
  pub or : Bool
  pub damage : Damage
  pub word : ℕ

abbrev pub slot_in : Status → ℕ → Slot
slot_in s w =
    record { rdrf = is_set 6 s; or = is_set 3 s; damage = record { fe = is_set 1 s; pf = is_set 0 s; nf = is_set 2 s }; word = w }

abbrev pub slot_of : Sci → Slot
slot_of s = slot_in s.status (s.receiver.scdr % 512)

pub slot_same : (s t : Status) (w : ℕ) → Same s t → slot_in s w ≡ slot_in t w
unfolding member
slot_same s t w e = rw (set_at s t e 6 refl, set_at s t e 3 refl, set_at s t e 1 refl, set_at s t e 0 refl, set_at s t e 2 refl)

abbrev pub no_damage : Damage
no_damage = record { fe = false; pf = false; nf = false }

abbrev pub empty : ℕ → Slot
empty w = record { rdrf = false; or = false; damage = no_damage; word = w }

abbrev pub holding : ℕ → Damage → Bool → Slot
holding w d over = record { rdrf = true; or = over; damage = d; word = w }

-- A sample, by what becomes of a frame.
abbrev after_taken : Bool → Bool → Slot → Damage → ℕ → Slot
after_taken took lost v d w =
    record {
      rdrf = v.rdrf || (took && not lost);
      or = v.or || lost;
      damage =
          record {
            fe = v.damage.fe || (took && not lost && d.fe);
            pf = v.damage.pf || (took && not lost && d.pf);
            nf = v.damage.nf || (took && not lost && d.nf);
          };
      word = cond (took && not lost) w v.word;
    }

module _ (r : Receiver) (t : Status) (sccr1 : ℕ) (x : Bool) where
  abbrev o : Outcome
  o = outcome r t sccr1 x

  abbrev bad : Bool
  bad = PE sccr1 && parity_bit (PT sccr1) r.framer.shift

  abbrev came : Damage
  came = damage_of (frame_of r.framer x) bad

  word_after : (b : Bool) → cond b r.framer.shift r.scdr % 512 ≡ cond b (r.framer.shift % 512) (r.scdr % 512)
  word_after true = refl
  word_after false = refl

  nf_after : is_set 2 (received r t sccr1 x).status ≡ is_set 2 t || (o.taken && not o.lost && came.nf)
  nf_after =
      sym (has_flag 2 (received r t sccr1 x).status) ∙ figures.rises r t sccr1 x
      ∙ ap (λ (b : Bool). b || (o.taken && not o.lost && came.nf)) (has_flag 2 t)

  sample_slot : slot_in (received r t sccr1 x).status ((received r t sccr1 x).receiver.scdr % 512)
      ≡ after_taken o.taken o.lost (slot_in t (r.scdr % 512)) came (r.framer.shift % 512)
  unfolding received receiver_after
  sample_slot =
      let f : Frame = frame_of r.framer x in
      let idles : Bool = o.reached && not r.asleep && r.since in
      rw (
        rdrf_after t o f bad idles,
        or_after t o f bad idles,
        fe_after t o f bad idles,
        pf_after t o f bad idles,
        nf_after,
        word_after (o.taken && not o.lost),
      )

  lost_is : o.lost ≡ o.taken && (is_set 6 t || is_set 3 t)
  unfolding outcome
  lost_is = ap (λ (b : Bool). o.taken && b) (full_sets t)

-- A clock that is no sample of the receiver's leaves the slot.
idle_slot : (a d on : Bool) (s : Sci) (x : Bool) → a && d && on ≡ false → slot_of (turned a d on s x) ≡ slot_of s
idle_slot true true true s x e = absurd (true≢false e)
idle_slot true true false s x e =
    sym (slot_same s.status (sent s.transmitter s.status s.sccr1).status (s.receiver.scdr % 512)
    (same_sent s.transmitter s.status s.sccr1))
idle_slot true false on s x e = refl
idle_slot false d on s x e = refl

module _ (P : List Happening → Slot → Type 0) (s : Sci) (x : Bool) where
  abbrev t : Status
  t = (sent s.transmitter s.status s.sccr1).status

  abbrev out : Outcome
  out = outcome s.receiver t s.sccr1 x

  sent_slot : slot_in t (s.receiver.scdr % 512) ≡ slot_of s
  sent_slot = sym (slot_same s.status t (s.receiver.scdr % 512) (same_sent s.transmitter s.status s.sccr1))

  -- By what becomes of a frame at a sample.
  by_taken : (v : Slot) → slot_of s ≡ v →
      ((took lost : Bool) (d : Damage) (raises : Bool) (w : ℕ) → lost ≡ took && (v.rdrf || v.or) →
      P (cond lost (frame_lost raises ∷ []) (cond took (word_came w d ∷ []) [])) (after_taken took lost v d w)) →
      P (sampled s t x) (slot_of (turned true true true s x))
  by_taken v e k =
      let d : Damage = came s.receiver t s.sccr1 x in
      let z : slot_in t (s.receiver.scdr % 512) ≡ v = sent_slot ∙ e in
      subst (P (sampled s t x))
      (sym (sample_slot s.receiver t s.sccr1 x
      ∙ ap (λ (u : Slot). after_taken out.taken out.lost u d (s.receiver.framer.shift % 512)) z))
      (k out.taken out.lost d (not (has t OR)) (s.receiver.framer.shift % 512)
      (lost_is s.receiver t s.sccr1 x ∙ ap (λ (u : Slot). out.taken && (u.rdrf || u.or)) z))

  by_clock : (v : Slot) → slot_of s ≡ v → P [] v →
      ((took lost : Bool) (d : Damage) (raises : Bool) (w : ℕ) → lost ≡ took && (v.rdrf || v.or) →
      P (cond lost (frame_lost raises ∷ []) (cond took (word_came w d ∷ []) [])) (after_taken took lost v d w)) →
      P (clock_happens s x) (slot_of (clocked s x))
  by_clock v e n k =
      subst (λ (u : Sci). P (clock_happens s x) (slot_of u)) (sym (clock_turned s x)) (go (active s) (due s) (RE s.sccr1))
    where
      quiet : (a d on : Bool) → a && d && on ≡ false → P [] (slot_of (turned a d on s x))
      quiet a d on z = subst (P []) (sym (idle_slot a d on s x z ∙ e)) n

      go : (a d on : Bool) → P (cond (a && d && on) (sampled s t x) []) (slot_of (turned a d on s x))
      go true true true = by_taken v e k
      go true true false = quiet true true false refl
      go true false on = quiet true false on refl
      go false d on = quiet false d on refl

  -- A clear receiver: nothing, or a word comes.
  pub from_empty : (u : ℕ) → slot_of s ≡ empty u → P [] (empty u) → ((w : ℕ) (d : Damage) → P (word_came w d ∷ []) (holding w d false)) →
      P (clock_happens s x) (slot_of (clocked s x))
  from_empty u e n k = by_clock (empty u) e n go
    where
      go : (took lost : Bool) (d : Damage) (raises : Bool) (w : ℕ) → lost ≡ took && false →
          P (cond lost (frame_lost raises ∷ []) (cond took (word_came w d ∷ []) [])) (after_taken took lost (empty u) d w)
      go true true d raises w z = absurd (true≢false z)
      go true false d raises w z = k w d
      go false true d raises w z = absurd (true≢false z)
      go false false d raises w z = n

  -- A full one: nothing, or a frame is lost.
  pub from_holding : (w : ℕ) (d : Damage) (over : Bool) → slot_of s ≡ holding w d over → P [] (holding w d over) →
      ((raises : Bool) → P (frame_lost raises ∷ []) (holding w d true)) → P (clock_happens s x) (slot_of (clocked s x))
  from_holding w d over e n k = by_clock (holding w d over) e n go
    where
      same : (lost : Bool) (d' : Damage) (w' : ℕ) → (took : Bool) → took && not lost ≡ false →
          after_taken took lost (holding w d over) d' w' ≡ record { rdrf = true; or = over || lost; damage = d; word = w }
      same lost d' w' took z = rw (z, or-false d.fe, or-false d.pf, or-false d.nf)

      or_true : (b : Bool) → b || true ≡ true
      or_true true = refl
      or_true false = refl

      go : (took lost : Bool) (d' : Damage) (raises : Bool) (w' : ℕ) → lost ≡ took && true →
          P (cond lost (frame_lost raises ∷ []) (cond took (word_came w' d' ∷ []) [])) (after_taken took lost (holding w d over) d' w')
      go true true d' raises w' z =
          subst (P (frame_lost raises ∷ [])) (sym (same true d' w' true refl ∙ rw (or_true over))) (k raises)
      go true false d' raises w' z = absurd (false≢true z)
      go false true d' raises w' z = absurd (true≢false z)
      go false false d' raises w' z = subst (P []) (sym (same false d' w' false refl ∙ rw (or-false over))) n
