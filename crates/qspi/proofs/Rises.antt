-- In which clocks MODF and HALTA rise. Assumes nothing.
use mathlib.Core.Path.{◌≡◌, refl, sym, ap, ◌∙◌}
use mathlib.Core.Bool.{Bool, true, false, ◌||◌, true≢false, false≢true}
use Rattle.qspi.specs.model.Fields.{halt}
use Rattle.qspi.specs.model.Queue.{clock, followed, fault_now}
use Rattle.qspi.specs.claims.Clauses.{ModfOnly, LastOfDelay, HaltaOnly, HaltaOnce}
use Rattle.qspi.specs.declared.Qspi.{Qspi}
use Rattle.qspi.specs.declared.Pins.{Pins}
use Rattle.qspi.proofs.Cases.{clock_by}
use Rattle.qspi.proofs.Delay.{halt_holds}
use Rattle.qspi.proofs.Mosi.{by_test}
use Rattle.qspi.proofs.Quiet.{clock_faults}

followed_modf : (last wrap : Bool) (q : Qspi) → (followed last wrap q).spsr.flags.modf ≡ q.spsr.flags.modf
followed_modf true true q = refl
followed_modf true false q = refl
followed_modf false wrap q = refl

modf_stays : (q : Qspi) (pins : Pins) → fault_now q pins ≡ false →
    (clock q pins).spsr.flags.modf ≡ q.spsr.flags.modf
modf_stays q pins safe =
    clock_by (λ r. r.spsr.flags.modf ≡ q.spsr.flags.modf) q pins
    (record {
      fault = λ due. absurd (true≢false (sym due ∙ safe));
      still = refl;
      within = λ e. refl;
      ends = λ e last wrap. followed_modf last wrap _;
      delay_over_holds = λ e on waits last. refl;
      starts = λ s e. refl;
      starts_ends = λ s e last wrap. followed_modf last wrap _;
    })

pub modf_only : ModfOnly
modf_only q pins =
    by_test (fault_now q pins)
    (λ due.
    ap (λ r. r.spsr.flags.modf) (clock_faults q pins due) ∙ ap (λ b. b || q.spsr.flags.modf) (sym due))
    (λ safe. modf_stays q pins safe ∙ ap (λ b. b || q.spsr.flags.modf) (sym safe))

followed_halta : (last wrap : Bool) (q : Qspi) → (followed last wrap q).spsr.flags.halta ≡ q.spsr.flags.halta
followed_halta true true q = refl
followed_halta true false q = refl
followed_halta false wrap q = refl

asked : (h x : Bool) → x ≡ false → h || x ≡ true → h ≡ true
asked true x low up = refl
asked false x low up = absurd (false≢true (sym low ∙ up))

pub halta_only : HaltaOnly
halta_only q pins low =
    let same : (b : Bool) → b ≡ q.spsr.flags.halta → b ≡ true → LastOfDelay q =
    λ b e up. absurd (false≢true (sym low ∙ sym e ∙ up)) in
    clock_by (λ r. r.spsr.flags.halta ≡ true → LastOfDelay q) q pins
    (record {
      fault = λ due. same _ refl;
      still = same _ refl;
      within = λ e. same _ refl;
      ends = λ e last wrap. same _ (followed_halta last wrap _);
      delay_over_holds =
          λ e on waits last up.
          record { on = on; delaying = waits; last = last; halts = asked (halt q.registers.spcr3) _ low up };
      starts = λ s e. same _ refl;
      starts_ends = λ s e last wrap. same _ (followed_halta last wrap _);
    })

pub halta_once : HaltaOnce
halta_once q pins h calm sets low d = ap (λ r. r.spsr.flags.halta) (halt_holds q pins h calm sets d) ∙ low
