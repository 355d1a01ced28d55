-- Fairness tested, and frames played. Assumes nothing.
use mathlib.Core.Path.{◌≡◌, refl}
use mathlib.Core.Bool.{Bool, true, false, ◌&&◌, ◌||◌, beq, true≢false}
use mathlib.Core.List.{List, [], ◌∷◌}
use Prim.Native.Nat.{ℕ, ◌+◌, ◌*◌}
use lib.Dec.{leb}
use borrow.Author.Tests.{leb-true}
use Rattle.sci.specs.model.Framer.{start_bit, data_bit, stop_bit, fixed, framed}
use Rattle.sci.specs.claims.Levels.{value}
use Rattle.sci.proofs.Membership.{and_left, and_right}
use Rattle.claims_senders.specs.Fair.{Bit, Count, EarlyBy, LateBy, Each, longer, following, FairBy, SentFrame, rest, FrameBy, FairFrames, levels, line, data_of}
use Rattle.claims_senders.specs.Heard.{ended_in}
use Rattle.claims_senders.specs.Witness.{Played, exact, late_end, soon_end, late_end9, soon_end9, last_fall, start_only, last_fall_alone, start_alone, early, next, late}

all : (Count → Bool) → List Count → Bool
all p [] = true
all p (c ∷ cs) = p c && all p cs

module _ (p : Count → Bool) (P : Count → Type 0) (sound : (c : Count) → p c ≡ true → P c) where
  each : (cs : List Count) → all p cs ≡ true → Each P cs
  unfolding Each all
  each [] h = tt
  each (c ∷ cs) h = (sound c (and_left (p c) (all p cs) h), each cs (and_right (p c) (all p cs) h))

module _ (by by' s : ℕ) (go_on : Bool → Bit → List Count → List Count) where
  in_time_holds : Count → Bool
  in_time_holds c = leb (16 * c.bits * s) (c.clocks + by * s)

  not_over : Count → Bool
  not_over c = leb c.clocks ((16 * c.bits + by') * s)

  fairly : List Count → Bool → List Bit → Bool
  fairly cs was [] = all in_time_holds cs
  fairly cs was (b ∷ bs) = (beq was b.level || (all in_time_holds cs && all not_over cs)) && fairly (go_on was b cs) b.level bs

  by_test : (same y : Bool) → same || y ≡ true → same ≡ false → y ≡ true
  by_test true y h e = absurd (true≢false e)
  by_test false y h e = h

  is_fair : (cs : List Count) (was : Bool) (bs : List Bit) → fairly cs was bs ≡ true → FairBy (EarlyBy by s) (LateBy by' s) go_on cs was bs
  unfolding FairBy fairly in_time_holds not_over
  is_fair cs was [] h = each in_time_holds (EarlyBy by s) (λ c. leb-true _ _) cs h
  is_fair cs was (b ∷ bs) h =
      let same : Bool = beq was b.level in
      let ok : Bool = all in_time_holds cs && all not_over cs in
      let on : Bool = fairly (go_on was b cs) b.level bs in (
        λ e.
            let z : ok ≡ true = by_test same ok (and_left (same || ok) on h) e in (
              each in_time_holds (EarlyBy by s) (λ c. leb-true _ _) cs (and_left (all in_time_holds cs) (all not_over cs) z),
              each not_over (LateBy by' s) (λ c. leb-true _ _) cs (and_right (all in_time_holds cs) (all not_over cs) z),
            ),
        is_fair (go_on was b cs) b.level bs (and_right (same || ok) on h),
      )

  meets : (f : SentFrame) → fairly (record { bits = 1; clocks = f.start } ∷ []) false (rest f) ≡ true →
      FrameBy (FairBy (EarlyBy by s) (LateBy by' s) go_on) f
  meets f h = is_fair (record { bits = 1; clocks = f.start } ∷ []) false (rest f) h

pub playing : Played
unfolding ended_in framed fixed start_bit data_bit stop_bit levels line data_of value FairFrames longer fairly all in_time_holds not_over
playing =
    record {
      exactly = ((refl, meets 6 7 1 following exact refl, tt), refl);
      reached = ((refl, meets 6 7 1 following late_end refl, (refl, meets 6 7 1 following soon_end refl, tt)), refl);
      reached9 = ((refl, meets 6 7 1 following late_end9 refl, (refl, meets 6 7 1 following soon_end9 refl, tt)), refl);
      fe = (meets 6 7 1 last_fall last_fall_alone refl, refl);
      wrong = (refl, meets 6 7 1 start_only start_alone refl, refl);
      noisy = (meets 7 7 1 following early refl, meets 6 7 1 following next refl, refl, refl);
      disturbed = (meets 6 8 1 following late refl, refl);
    }
