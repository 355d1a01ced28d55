-- Who asks: a half asks where one of its flags does. Assumes nothing.
use mathlib.Core.Path.{◌≡◌, refl, sym, ap, ◌∙◌}
use mathlib.Core.Bool.{Bool, true, false, ◌&&◌, ◌||◌}
use Rattle.sci.specs.model.Flags as flags
use Rattle.sci.specs.model.Status.{has}
use Rattle.sci.specs.model.Control.{TIE, TCIE, RIE, ILIE}
use Rattle.sci.specs.model.Serial as serial
use Rattle.sci.proofs.Membership.{and_right}
use Rattle.qspi.specs.model.Fields.{spifie, hmie}
use Rattle.qspi.specs.model.Outputs as queue
use Rattle.qsm.specs.claims.StatusFlags.{Half, SCI, QSPI, Flag, TDRE, TC, RDRF, RAF, IDLE, OR, NF, FE, PF, SPIF, MODF, HALTA, half, is_set}
use Rattle.qsm.specs.claims.RequestClauses.{enabled, asks}
use Rattle.qsm.specs.declared.state.Module.{Module}
use Rattle.qsm.proofs.Booleans.{left_or, right_or, same_or, one_of, clash}
use Rattle.qsm.proofs.StatusFlags.{scsr_flag, controls, spif_read, modf_read, halta_read, hmie_read}

-- A half asks, as the module has it.
abbrev pub asking : Module → Half → Bool
asking m SCI = serial.asks m.sci
asking m QSPI = queue.asks m.qspi

and_same : {a b c d : Bool} → a ≡ c → b ≡ d → a && b ≡ c && d
and_same {a} {b} {c} {d} e f = ap (λ (x : Bool). x && b) e ∙ ap (λ (x : Bool). c && x) f

first : (a b c d : Bool) → a ≡ true → a || b || c || d ≡ true
first true b c d h = refl
first false b c d h = clash false refl h

second : (a b c d : Bool) → b ≡ true → a || b || c || d ≡ true
second true b c d h = refl
second false true c d h = refl
second false false c d h = clash false refl h

third : (a b c d : Bool) → c ≡ true → a || b || c || d ≡ true
third true b c d h = refl
third false true c d h = refl
third false false true d h = refl
third false false false d h = clash false refl h

fourth : (a b c d : Bool) → d ≡ true → a || b || c || d ≡ true
fourth true b c d h = refl
fourth false true c d h = refl
fourth false false true d h = refl
fourth false false false d h = h

any_of : {P : Type 0} (a b c d : Bool) → a || b || c || d ≡ true → (a ≡ true → P) → (b ≡ true → P) → (c ≡ true → P)
    → (d ≡ true → P) → P
any_of true b c d h f g i j = f refl
any_of false true c d h f g i j = g refl
any_of false false true d h f g i j = i refl
any_of false false false d h f g i j = j h

same_four : {a b c d a' b' c' d' : Bool} → a ≡ a' → b ≡ b' → c ≡ c' → d ≡ d' → a || b || c || d ≡ a' || b' || c' || d'
same_four p q r s = rw (p, q, r, s)

-- Two flags with one enable.
shared : (a b e : Bool) → (a && e) || (b && e) ≡ (a || b) && e
shared true b true = refl
shared true true false = refl
shared true false false = refl
shared false b e = refl

module _ (m : Module) where
  of_tdre : asks m TDRE ≡ has m.sci.status flags.TDRE && TIE m.sci.sccr1
  of_tdre = and_same (scsr_flag 8 m refl) (controls m).0

  of_tc : asks m TC ≡ has m.sci.status flags.TC && TCIE m.sci.sccr1
  of_tc = and_same (scsr_flag 7 m refl) (controls m).1

  of_rdrf : asks m RDRF ≡ has m.sci.status flags.RDRF && RIE m.sci.sccr1
  of_rdrf = and_same (scsr_flag 6 m refl) (controls m).2

  of_or : asks m OR ≡ has m.sci.status flags.OR && RIE m.sci.sccr1
  of_or = and_same (scsr_flag 3 m refl) (controls m).2

  of_idle : asks m IDLE ≡ has m.sci.status flags.IDLE && ILIE m.sci.sccr1
  of_idle = and_same (scsr_flag 4 m refl) (controls m).3

  of_spif : asks m SPIF ≡ m.qspi.spsr.flags.spif && spifie m.qspi.next.working
  of_spif = and_same (spif_read m) refl

  of_modf : asks m MODF ≡ m.qspi.spsr.flags.modf && hmie m.qspi.registers.spcr3
  of_modf = and_same (modf_read m) (hmie_read m)

  of_halta : asks m HALTA ≡ m.qspi.spsr.flags.halta && hmie m.qspi.registers.spcr3
  of_halta = and_same (halta_read m) (hmie_read m)

  of_serial : asks m TDRE || asks m TC || (asks m RDRF || asks m OR) || asks m IDLE ≡ asking m SCI
  of_serial =
      same_four of_tdre of_tc
      (same_or of_rdrf of_or ∙ shared (has m.sci.status flags.RDRF) (has m.sci.status flags.OR) (RIE m.sci.sccr1))
      of_idle

  of_queue : asks m SPIF || (asks m MODF || asks m HALTA) ≡ asking m QSPI
  of_queue =
      same_or of_spif
      (same_or of_modf of_halta ∙ shared m.qspi.spsr.flags.modf m.qspi.spsr.flags.halta (hmie m.qspi.registers.spcr3))

  -- No enable.
  never : (f : Flag) → enabled m f ≡ false → asks m f ≡ true → asking m (half f) ≡ true
  never f off h = clash (enabled m f) off (and_right (is_set m f) (enabled m f) h)

  -- Each by itself.
  pub each : (f : Flag) → asks m f ≡ true → asking m (half f) ≡ true
  each TDRE h = sym of_serial ∙ first (asks m TDRE) (asks m TC) (asks m RDRF || asks m OR) (asks m IDLE) h
  each TC h = sym of_serial ∙ second (asks m TDRE) (asks m TC) (asks m RDRF || asks m OR) (asks m IDLE) h
  each RDRF h =
      sym of_serial
      ∙ third (asks m TDRE) (asks m TC) (asks m RDRF || asks m OR) (asks m IDLE) (left_or (asks m RDRF) (asks m OR) h)
  each RAF h = never RAF refl h
  each IDLE h = sym of_serial ∙ fourth (asks m TDRE) (asks m TC) (asks m RDRF || asks m OR) (asks m IDLE) h
  each OR h =
      sym of_serial
      ∙ third (asks m TDRE) (asks m TC) (asks m RDRF || asks m OR) (asks m IDLE) (right_or (asks m RDRF) (asks m OR) h)
  each NF h = never NF refl h
  each FE h = never FE refl h
  each PF h = never PF refl h
  each SPIF h = sym of_queue ∙ left_or (asks m SPIF) (asks m MODF || asks m HALTA) h
  each MODF h =
      sym of_queue ∙ right_or (asks m SPIF) (asks m MODF || asks m HALTA) (left_or (asks m MODF) (asks m HALTA) h)
  each HALTA h =
      sym of_queue ∙ right_or (asks m SPIF) (asks m MODF || asks m HALTA) (right_or (asks m MODF) (asks m HALTA) h)

  -- Nothing else.
  pub some_serial : {P : Type 0} → asking m SCI ≡ true → ((f : Flag) → half f ≡ SCI → asks m f ≡ true → P) → P
  some_serial h p =
      any_of (asks m TDRE) (asks m TC) (asks m RDRF || asks m OR) (asks m IDLE) (of_serial ∙ h) (p TDRE refl) (p TC refl)
      (λ a. one_of (asks m RDRF) (asks m OR) a (p RDRF refl) (p OR refl)) (p IDLE refl)

  pub some_queue : {P : Type 0} → asking m QSPI ≡ true → ((f : Flag) → half f ≡ QSPI → asks m f ≡ true → P) → P
  some_queue h p =
      one_of (asks m SPIF) (asks m MODF || asks m HALTA) (of_queue ∙ h) (p SPIF refl)
      (λ a. one_of (asks m MODF) (asks m HALTA) a (p MODF refl) (p HALTA refl))
