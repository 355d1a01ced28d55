-- What an access leaves of a serial half whose RE stays set: the rate, the width of a frame, the prescaler's count and the framer; and it
-- lets no word come. Assumes nothing.
use mathlib.Core.Path.{◌≡◌, refl, ap, sym, subst, ◌∙◌}
use mathlib.Core.Bool.{Bool, true, false, cond, not, ◌&&◌, true≢false, false≢true}
use Prim.Native.Nat.{ℕ}
use lib.Dec.{eqb}
use borrow.Author.Tests.{eqb-true, eq-eqb}
use Rattle.steps.specs.Bits.{merge}
use Rattle.sci.specs.model.Flags.{transmit_flags}
use Rattle.sci.specs.model.Status.{fall_seen}
use Rattle.sci.specs.model.Control.{SCBR, RE, sccr0_bits, sccr1_bits, settings}
use Rattle.sci.specs.model.Receiver.{full}
use Rattle.sci.specs.claims.Line.{read_status}
use Rattle.sci.specs.model.Serial.{active, sccr0_set, wrote_sccr0, wrote_sccr1, stopped, with_sccr1, sccr1_word, sccr0_guarded, sccr1_guarded}
use Rattle.sci.specs.claims.History.{Step, reset, clock, reads, writesSccr0, writesSccr1, writesScdr, step}
use Rattle.sci.specs.declared.serial.Sci.{Sci}
use Rattle.sci.proofs.Same.{same_loaded}
use Rattle.sci.proofs.Settings.{same_bits}
use Rattle.sci.proofs.Sampling.{re_active}
use Rattle.sci.proofs.Reachable.{re_put, settings_stand}
use Rattle.claims_histories.proofs.Given.{Accesses}
use Rattle.claims_polling.proofs.Full.{full_same, read_clear}
use Rattle.claims_polling.proofs.Timed.{width}

pub record Left (s r : Sci) : Type 0 where
  pub sccr0 : r.sccr0 ≡ s.sccr0
  pub width : width r ≡ width s
  pub prescaler : r.prescaler ≡ s.prescaler
  pub framer : r.receiver.framer ≡ s.receiver.framer
  pub last1 : r.receiver.last1 ≡ s.receiver.last1
  pub last2 : r.receiver.last2 ≡ s.receiver.last2
  pub last3 : r.receiver.last3 ≡ s.receiver.last3
  pub waits : full r.status ≡ true → full s.status ≡ true

left_none : (s : Sci) → Left s s
left_none s =
    record { sccr0 = refl; width = refl; prescaler = refl; framer = refl; last1 = refl; last2 = refl; last3 = refl; waits = λ e. e }

left_same : (s r : Sci) → r ≡ s → Left s r
left_same s r e = subst (Left s) (sym e) (left_none s)

pub refuted_full : (a b : Bool) → (a ≡ false → b ≡ false) → b ≡ true → a ≡ true
refuted_full true b f e = refl
refuted_full false b f e = absurd (false≢true (sym (f refl) ∙ e))

-- SCCR0 is guarded: what is written is what stands.
unguarded : (a q : Bool) → a ≡ true → a && not q ≡ false → q ≡ true
unguarded a true h e = refl
unguarded true false h e = absurd (true≢false e)
unguarded false false h e = absurd (false≢true h)

sccr0_stays : (g : Bool) (s : Sci) (v : ℕ) (upper lower : Bool) → RE s.sccr1 ≡ true → s.sccr0 ≡ SCBR s.sccr0 →
    sccr0_guarded s v upper lower ≡ g → cond g s (wrote_sccr0 s v upper lower) ≡ s
unfolding wrote_sccr0 sccr0_guarded
sccr0_stays true s v upper lower on small e = refl
sccr0_stays false s v upper lower on small e =
    let new : ℕ = sccr0_bits (merge s.sccr0 v upper lower) in
    let q : new ≡ sccr0_bits s.sccr0 = eqb-true new (sccr0_bits s.sccr0) (unguarded (active s) (eqb new (sccr0_bits s.sccr0)) (re_active s on) e) in
    ap (λ (b : Bool). sccr0_set b s new) (eq-eqb new s.sccr0 (q ∙ sym small))

-- SCCR1 with RE kept.
left_put : (b : Bool) (s : Sci) (w : ℕ) → RE w ≡ b → RE (stopped b (with_sccr1 s w)).sccr1 ≡ true →
    settings (sccr1_bits w) ≡ settings s.sccr1 → Left s (stopped b (with_sccr1 s w))
left_put true s w e on stand =
    record {
      sccr0 = refl;
      width = same_bits (sccr1_bits w) s.sccr1 stand;
      prescaler = refl;
      framer = refl;
      last1 = refl;
      last2 = refl;
      last3 = refl;
      waits = λ e. e;
    }
left_put false s w e on stand = absurd (false≢true (sym e ∙ sym (re_put w) ∙ on))

left_sccr1 : (g : Bool) (s : Sci) (v : ℕ) (upper lower : Bool) → sccr1_guarded s v upper lower ≡ g → RE s.sccr1 ≡ true →
    RE (cond g s (wrote_sccr1 s v upper lower)).sccr1 ≡ true → Left s (cond g s (wrote_sccr1 s v upper lower))
unfolding wrote_sccr1
left_sccr1 true s v upper lower e on still = left_none s
left_sccr1 false s v upper lower e on still =
    let w : ℕ = merge (sccr1_word s) v upper lower in
    left_put (RE w) s w refl still (settings_stand s v upper lower e on)

pub left : (e : Step) (s : Sci) → Accesses e → RE s.sccr1 ≡ true → s.sccr0 ≡ SCBR s.sccr0 → RE (step e s).sccr1 ≡ true →
    Left s (step e s)
unfolding step
left reset s a on small still = absurd a
left (clock x) s a on small still = absurd a
left (reads scsr scdr) s a on small still =
    record {
      sccr0 = refl;
      width = refl;
      prescaler = refl;
      framer = refl;
      last1 = refl;
      last2 = refl;
      last3 = refl;
      waits = refuted_full (full s.status) (full (read_status scsr scdr s.status)) (read_clear scsr scdr s.status);
    }
left (writesSccr0 v upper lower) s a on small still =
    left_same s _ (sccr0_stays (sccr0_guarded s v upper lower) s v upper lower on small refl)
left (writesSccr1 v upper lower) s a on small still = left_sccr1 (sccr1_guarded s v upper lower) s v upper lower refl on still
left (writesScdr v upper true) s a on small still =
    record {
      sccr0 = refl;
      width = refl;
      prescaler = refl;
      framer = refl;
      last1 = refl;
      last2 = refl;
      last3 = refl;
      waits = λ e. full_same s.status (fall_seen s.status transmit_flags) (same_loaded s.status) ∙ e;
    }
left (writesScdr v upper false) s a on small still = left_none s
