-- The figures of `tool_rates` by those of the theorems. Assumes nothing.
use mathlib.Core.Path.{◌≡◌, refl, sym, subst}
use mathlib.Core.Bool.{Bool, true, false, cond, ◌&&◌, false≢true}
use Prim.Native.Nat.{ℕ, zero, suc, ◌+◌, ◌*◌, ◌/◌, ◌≤◌, ◌<◌}
use native.Mathlib.Omega.{arith}
use lib.Dec.{ltb}
use lib.ListN.{length}
use borrow.Author.Tests.{ltb-true, leb-true}
use Rattle.sci.specs.model.Control.{SCBR, M, bits_of}
use Rattle.tool_rates.specs.Rates.{apart, sample_of, own_bit, not_early, not_late}
use Rattle.claims_polling.specs.Spacing as spacing
use Rattle.claims_senders.specs.Fair.{FairFrame}
use Rattle.claims_senders.specs.Heard.{earliest}
use Rattle.claims_senders.specs.Rates.{frame_at}
use Rattle.claims_senders.proofs.Grid.{rates}
use Rattle.claims_text.specs.Told.{Deadlines, HeardFair, RatesTold}

any_apart : (nine : Bool) (s : ℕ) → apart nine false * s ≡ spacing.apart true (bits_of nine) * s
any_apart true s = refl
any_apart false s = refl

fair_apart : (nine : Bool) (s : ℕ) → apart nine true * s ≡ earliest (bits_of nine) * s
fair_apart true s = refl
fair_apart false s = refl

deadlines : Deadlines
deadlines m =
    (any_apart (M m.sci.sccr1) (2 * SCBR m.sci.sccr0), fair_apart (M m.sci.sccr1) (2 * SCBR m.sci.sccr0))

first : (a b c : Bool) → a && b && c ≡ true → a ≡ true
first true b c e = refl
first false b c e = absurd (false≢true e)

second : (a b c : Bool) → a && b && c ≡ true → b ≡ true
second true true c e = refl
second true false c e = absurd (false≢true e)
second false b c e = absurd (false≢true e)

third : (a b c : Bool) → a && b && c ≡ true → c ≡ true
third true true c e = e
third true false c e = absurd (false≢true e)
third false b c e = absurd (false≢true e)

some_clocks : (s b : ℕ) → 0 < 16 * s * b → 0 < s
some_clocks zero b h = absurd (omega (arith, h))
some_clocks (suc s) b h = omega arith

some_baud : (s b : ℕ) → 0 < 16 * s * b → 0 < b
some_baud s zero h = absurd (omega (arith, h))
some_baud s (suc b) h = omega arith

heard_fair : HeardFair
heard_fair clock baud sccr0 k pause nine bits h n =
    let s : ℕ = sample_of sccr0 in
    let a : Bool = ltb 0 (own_bit baud sccr0) in
    let b : Bool = not_early clock baud sccr0 nine in
    let c : Bool = not_late clock baud sccr0 nine in
    let own : 0 < 16 * s * baud = ltb-true 0 (own_bit baud sccr0) (first a b c h) in
    go nine n (leb-true _ _ (second a b c h)) (leb-true _ _ (third a b c h)) (some_clocks s baud own) (some_baud s baud own)
  where
    go : (nine : Bool) → length bits ≡ bits_of nine → cond nine 170 154 * sample_of sccr0 * baud + baud ≤ cond nine 11 10 * clock →
        cond nine 10 9 * clock + baud ≤ cond nine 167 151 * sample_of sccr0 * baud → 0 < sample_of sccr0 → 0 < baud →
        FairFrame (sample_of sccr0) (frame_at clock baud (baud / 2) k bits pause)
    go nine e slow fast p q =
        rates.rounded (sample_of sccr0) clock baud (baud / 2) k pause bits p q
        (subst (λ (n : ℕ). (16 * n + 26) * sample_of sccr0 * baud + baud ≤ (n + 2) * clock) (sym e) (as_slow nine slow))
        (subst (λ (n : ℕ). (n + 1) * clock + baud ≤ (16 * n + 23) * sample_of sccr0 * baud) (sym e) (as_fast nine fast))
      where
        as_slow : (nine : Bool) → cond nine 170 154 * sample_of sccr0 * baud + baud ≤ cond nine 11 10 * clock →
            (16 * bits_of nine + 26) * sample_of sccr0 * baud + baud ≤ (bits_of nine + 2) * clock
        as_slow true l = l
        as_slow false l = l

        as_fast : (nine : Bool) → cond nine 10 9 * clock + baud ≤ cond nine 167 151 * sample_of sccr0 * baud →
            (bits_of nine + 1) * clock + baud ≤ (16 * bits_of nine + 23) * sample_of sccr0 * baud
        as_fast true l = l
        as_fast false l = l

pub rates_told : RatesTold
rates_told = record { deadlines = deadlines; fair = heard_fair; usual = record { heard = refl; unheard = refl } }
