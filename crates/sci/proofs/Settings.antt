-- A sample depends on SCCR1 only by ILT, PT, PE, M and WAKE.
use mathlib.Core.Path.{◌≡◌, refl, ap}
use mathlib.Core.Bool.{Bool}
use Prim.Native.Nat.{ℕ, ◌/◌, ◌%◌, ◌^◌}
use native.Mathlib.Omega.{arith}
use lib.Dec.{eqb}
use Rattle.sci.specs.model.Control.{ILT, PT, PE, M, WAKE, bits_of, settings}
use Rattle.sci.specs.model.Receiver.{outcome, receiver_after, received}
use Rattle.sci.specs.claims.Line.{Op, sample, read, act}
use Rattle.sci.specs.declared.status.Status.{Status}
use Rattle.sci.specs.declared.receiver.Receiver.{Receiver}
use Rattle.sci.specs.declared.receiver.Outcome.{Outcome}
use Rattle.sci.specs.declared.receiver.Received.{Received}

module _ (a b : ℕ) (e : settings a ≡ settings b) where
  same_ILT : ILT a ≡ ILT b
  same_ILT = let h : a / 2 ^ 12 % 2 ≡ b / 2 ^ 12 % 2 = omega arith in ap (λ d. eqb d 1) h

  same_PT : PT a ≡ PT b
  same_PT = let h : a / 2 ^ 11 % 2 ≡ b / 2 ^ 11 % 2 = omega arith in ap (λ d. eqb d 1) h

  same_PE : PE a ≡ PE b
  same_PE = let h : a / 2 ^ 10 % 2 ≡ b / 2 ^ 10 % 2 = omega arith in ap (λ d. eqb d 1) h

  pub same_M : M a ≡ M b
  same_M = let h : a / 2 ^ 9 % 2 ≡ b / 2 ^ 9 % 2 = omega arith in ap (λ d. eqb d 1) h

  same_WAKE : WAKE a ≡ WAKE b
  same_WAKE = let h : a / 2 ^ 8 % 2 ≡ b / 2 ^ 8 % 2 = omega arith in ap (λ d. eqb d 1) h

  pub same_bits : bits_of (M a) ≡ bits_of (M b)
  same_bits = ap bits_of same_M

  outcome_settings : (r : Receiver) (s : Status) (x : Bool) → outcome r s a x ≡ outcome r s b x
  unfolding outcome
  outcome_settings r s x = rw (same_ILT, same_M, same_WAKE)

  after_settings : (r : Receiver) (o : Outcome) (x : Bool) → receiver_after r o a x ≡ receiver_after r o b x
  unfolding receiver_after
  after_settings r o x = rw (same_M, same_WAKE)

  received_settings : (r : Receiver) (s : Status) (x : Bool) → received r s a x ≡ received r s b x
  unfolding received
  received_settings r s x =
      rw (outcome_settings r s x, after_settings r (outcome r s b x) x, same_PE, same_PT)

  pub act_settings : (o : Op) (p : Received) → act a o p ≡ act b o p
  unfolding act
  act_settings (sample x) p = received_settings p.receiver p.status x
  act_settings (read scsr scdr) p = refl
