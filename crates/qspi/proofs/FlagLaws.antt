-- How SPSR's flags rise, are seen and fall. Assumes nothing.
use mathlib.Core.Path.{◌≡◌, refl, sym, ap, ◌∙◌}
use mathlib.Core.Bool.{Bool, true, false, not, ◌&&◌, ◌||◌, true≢false, false≢true}
use Prim.Native.Nat.{ℕ, ◌+◌, ◌*◌, ◌/◌, ◌%◌}
use native.Mathlib.Omega.{arith}
use borrow.Author.Tests.{eq-eqb, ne_eqb}
use Rattle.steps.specs.Bits.{bit, digit, merge}
use Rattle.qspi.specs.model.Fields.{spe, halt}
use Rattle.qspi.specs.model.Spsr.{falls, raised, only_spif, only_modf, halta_if}
use Rattle.qspi.specs.model.Registers.{reset, with_spcr1, switched, write_spcr1}
use Rattle.qspi.specs.model.Parts.{with_registers}
use Rattle.qspi.specs.model.Queue.{clock, followed}
use Rattle.qspi.specs.claims.FlagLaws.{Flag, SPIF, MODF, HALTA, clocked, status_seen, spcr0_put, spcr1_put, spcr2_put, spcr3_spsr_put, receive_put, transmit_put, command_put, member, is_set, FlagShows, FlagFalls, FallsOnly, ReadSees, SeenOnly, SeenLasts, ResetForgets, CptqpStays}
use Rattle.qspi.specs.declared.Qspi.{Qspi}
use Rattle.qspi.specs.declared.Pins.{Pins}
use Rattle.qspi.specs.declared.spsr.Flags.{Flags}
use Rattle.qspi.specs.declared.spsr.Spsr.{Spsr}
use Rattle.qspi.proofs.Cases.{clock_by}
use Rattle.qspi.proofs.Order.{or_true}
use Rattle.qspi.proofs.Word.{digit_small}

-- Each in its place.
pub flag_shows : FlagShows
flag_shows SPIF q = first q.registers.spcr3 q.spsr.cptqp q.spsr.flags.spif q.spsr.flags.modf q.spsr.flags.halta
  where
    first : (h c : ℕ) (a b d : Bool) → bit 7 (h * 256 + (digit a * 128 + digit b * 64 + digit d * 32 + c % 16)) ≡ a
    first h c true b d =
        eq-eqb ((h * 256 + (1 * 128 + digit b * 64 + digit d * 32 + c % 16)) / 128 % 2) 1
        (omega (arith, digit_small b, digit_small d))
    first h c false b d =
        ne_eqb ((h * 256 + (0 * 128 + digit b * 64 + digit d * 32 + c % 16)) / 128 % 2) 1
        (λ e. omega (arith, digit_small b, digit_small d))
flag_shows MODF q = second q.registers.spcr3 q.spsr.cptqp q.spsr.flags.spif q.spsr.flags.modf q.spsr.flags.halta
  where
    second : (h c : ℕ) (a b d : Bool) → bit 6 (h * 256 + (digit a * 128 + digit b * 64 + digit d * 32 + c % 16)) ≡ b
    second h c a true d =
        eq-eqb ((h * 256 + (digit a * 128 + 1 * 64 + digit d * 32 + c % 16)) / 64 % 2) 1 (omega (arith, digit_small d))
    second h c a false d =
        ne_eqb ((h * 256 + (digit a * 128 + 0 * 64 + digit d * 32 + c % 16)) / 64 % 2) 1
        (λ e. omega (arith, digit_small d))
flag_shows HALTA q = third q.registers.spcr3 q.spsr.cptqp q.spsr.flags.spif q.spsr.flags.modf q.spsr.flags.halta
  where
    third : (h c : ℕ) (a b d : Bool) → bit 5 (h * 256 + (digit a * 128 + digit b * 64 + digit d * 32 + c % 16)) ≡ d
    third h c a b true =
        eq-eqb ((h * 256 + (digit a * 128 + digit b * 64 + 1 * 32 + c % 16)) / 32 % 2) 1 (omega arith)
    third h c a b false =
        ne_eqb ((h * 256 + (digit a * 128 + digit b * 64 + 0 * 32 + c % 16)) / 32 % 2) 1 (λ e. omega arith)

-- What a clock does: no flag falls, and none is seen.
either_keeps : (b c : Bool) → c ≡ true → b || c ≡ true
either_keeps b c h = rw h (or_true b)

raised_keeps : (f : Flag) (g : Flags) (s : Spsr) → member f s.flags ≡ true → member f (raised g s).flags ≡ true
raised_keeps SPIF g s h = either_keeps g.spif s.flags.spif h
raised_keeps MODF g s h = either_keeps g.modf s.flags.modf h
raised_keeps HALTA g s h = either_keeps g.halta s.flags.halta h

followed_keeps : (f : Flag) (last wrap : Bool) (q : Qspi) → is_set f q ≡ true → is_set f (followed last wrap q) ≡ true
followed_keeps f true true q h = raised_keeps f only_spif q.spsr h
followed_keeps f true false q h = raised_keeps f only_spif q.spsr h
followed_keeps f false wrap q h = h

pub clock_keeps : (f : Flag) (q : Qspi) (pins : Pins) → is_set f q ≡ true → is_set f (clock q pins) ≡ true
clock_keeps f q pins h =
    clock_by (λ r. is_set f r ≡ true) q pins
    (record {
      fault = λ due. raised_keeps f only_modf q.spsr h;
      still = h;
      within = λ e. h;
      ends = λ e last wrap. followed_keeps f last wrap _ h;
      delay_over_holds = λ e on waits last. raised_keeps f (halta_if (halt q.registers.spcr3)) q.spsr h;
      starts = λ s e. h;
      starts_ends = λ s e last wrap. followed_keeps f last wrap _ h;
    })

followed_seen : (last wrap : Bool) (q : Qspi) → (followed last wrap q).spsr.seen ≡ q.spsr.seen
followed_seen true true q = refl
followed_seen true false q = refl
followed_seen false wrap q = refl

clock_seen_holds : (q : Qspi) (pins : Pins) → (clock q pins).spsr.seen ≡ q.spsr.seen
clock_seen_holds q pins =
    clock_by (λ r. r.spsr.seen ≡ q.spsr.seen) q pins
    (record {
      fault = λ due. refl;
      still = refl;
      within = λ e. refl;
      ends = λ e last wrap. followed_seen last wrap _;
      delay_over_holds = λ e on waits last. refl;
      starts = λ s e. refl;
      starts_ends = λ s e last wrap. followed_seen last wrap _;
    })

switched_spsr : (before after : Bool) (q : Qspi) → (switched before after q).spsr ≡ q.spsr
switched_spsr false false q = refl
switched_spsr false true q = refl
switched_spsr true false q = refl
switched_spsr true true q = refl

write_spsr : (q : Qspi) (v : ℕ) (upper lower : Bool) → (write_spcr1 q v upper lower).spsr ≡ q.spsr
unfolding write_spcr1
write_spsr q v upper lower =
    switched_spsr (spe q.registers.spcr1) (spe (merge q.registers.spcr1 v upper lower))
    (with_registers q (with_spcr1 q.registers (merge q.registers.spcr1 v upper lower)))

-- A write of byte 1F, for one flag x with its mark s; the write touches the byte if l, and puts b there.
falls_by : (x l s b : Bool) → s ≡ true → l && not b ≡ true → x && not (falls l s b) ≡ false
falls_by true true true false h k = refl
falls_by true true true true h k = absurd (false≢true k)
falls_by true true false b h k = absurd (false≢true h)
falls_by true false s b h k = absurd (false≢true k)
falls_by false l s b h k = refl

fell_by : (x l s b : Bool) → x ≡ true → x && not (falls l s b) ≡ false → (s ≡ true) × (l && not b ≡ true)
fell_by true true true false h k = (refl, refl)
fell_by true true true true h k = absurd (true≢false k)
fell_by true true false b h k = absurd (true≢false k)
fell_by true false s b h k = absurd (true≢false k)
fell_by false l s b h k = absurd (false≢true h)

lasts : (l s b : Bool) → s ≡ true → s && not (falls l s b) ≡ not (l && not b)
lasts true true b h = refl
lasts false true b h = refl
lasts l false b h = absurd (false≢true h)

unmarked : (s t : Bool) → s ≡ false → s && t ≡ true → ⊥
unmarked true t h k = true≢false h
unmarked false t h k = false≢true k

pub flag_falls : FlagFalls
flag_falls SPIF (spcr3_spsr_put v upper lower) q seen zero = falls_by q.spsr.flags.spif lower q.spsr.seen.spif (bit 7 v) seen zero
flag_falls MODF (spcr3_spsr_put v upper lower) q seen zero = falls_by q.spsr.flags.modf lower q.spsr.seen.modf (bit 6 v) seen zero
flag_falls HALTA (spcr3_spsr_put v upper lower) q seen zero = falls_by q.spsr.flags.halta lower q.spsr.seen.halta (bit 5 v) seen zero
flag_falls f (clocked pins) q seen zero = absurd (false≢true zero)
flag_falls f status_seen q seen zero = absurd (false≢true zero)
flag_falls f (spcr0_put v upper lower) q seen zero = absurd (false≢true zero)
flag_falls f (spcr1_put v upper lower) q seen zero = absurd (false≢true zero)
flag_falls f (spcr2_put v upper lower) q seen zero = absurd (false≢true zero)
flag_falls f (receive_put i v upper lower) q seen zero = absurd (false≢true zero)
flag_falls f (transmit_put i v upper lower) q seen zero = absurd (false≢true zero)
flag_falls f (command_put i v upper lower) q seen zero = absurd (false≢true zero)

pub falls_only : FallsOnly
falls_only SPIF (spcr3_spsr_put v upper lower) q up down = fell_by q.spsr.flags.spif lower q.spsr.seen.spif (bit 7 v) up down
falls_only MODF (spcr3_spsr_put v upper lower) q up down = fell_by q.spsr.flags.modf lower q.spsr.seen.modf (bit 6 v) up down
falls_only HALTA (spcr3_spsr_put v upper lower) q up down = fell_by q.spsr.flags.halta lower q.spsr.seen.halta (bit 5 v) up down
falls_only f (clocked pins) q up down = absurd (true≢false (sym (clock_keeps f q pins up) ∙ down))
falls_only f status_seen q up down = absurd (true≢false (sym up ∙ down))
falls_only f (spcr0_put v upper lower) q up down = absurd (true≢false (sym up ∙ down))
falls_only f (spcr1_put v upper lower) q up down =
    absurd (true≢false (sym up ∙ ap (λ s. member f s.flags) (sym (write_spsr q v upper lower)) ∙ down))
falls_only f (spcr2_put v upper lower) q up down = absurd (true≢false (sym up ∙ down))
falls_only f (receive_put i v upper lower) q up down = absurd (true≢false (sym up ∙ down))
falls_only f (transmit_put i v upper lower) q up down = absurd (true≢false (sym up ∙ down))
falls_only f (command_put i v upper lower) q up down = absurd (true≢false (sym up ∙ down))

pub read_sees : ReadSees
read_sees SPIF q h = either_keeps q.spsr.seen.spif q.spsr.flags.spif h
read_sees MODF q h = either_keeps q.spsr.seen.modf q.spsr.flags.modf h
read_sees HALTA q h = either_keeps q.spsr.seen.halta q.spsr.flags.halta h

newly : (s x : Bool) → s ≡ false → s || x ≡ true → x ≡ true
newly true x h k = absurd (true≢false h)
newly false x h k = k

pub seen_only : SeenOnly
seen_only SPIF status_seen q before after = (refl, newly q.spsr.seen.spif q.spsr.flags.spif before after)
seen_only MODF status_seen q before after = (refl, newly q.spsr.seen.modf q.spsr.flags.modf before after)
seen_only HALTA status_seen q before after = (refl, newly q.spsr.seen.halta q.spsr.flags.halta before after)
seen_only SPIF (spcr3_spsr_put v upper lower) q before after = absurd (unmarked q.spsr.seen.spif _ before after)
seen_only MODF (spcr3_spsr_put v upper lower) q before after = absurd (unmarked q.spsr.seen.modf _ before after)
seen_only HALTA (spcr3_spsr_put v upper lower) q before after = absurd (unmarked q.spsr.seen.halta _ before after)
seen_only f (clocked pins) q before after =
    absurd (false≢true (sym before ∙ ap (member f) (sym (clock_seen_holds q pins)) ∙ after))
seen_only f (spcr0_put v upper lower) q before after = absurd (false≢true (sym before ∙ after))
seen_only f (spcr1_put v upper lower) q before after =
    absurd (false≢true (sym before ∙ ap (λ s. member f s.seen) (sym (write_spsr q v upper lower)) ∙ after))
seen_only f (spcr2_put v upper lower) q before after = absurd (false≢true (sym before ∙ after))
seen_only f (receive_put i v upper lower) q before after = absurd (false≢true (sym before ∙ after))
seen_only f (transmit_put i v upper lower) q before after = absurd (false≢true (sym before ∙ after))
seen_only f (command_put i v upper lower) q before after = absurd (false≢true (sym before ∙ after))

pub seen_lasts : SeenLasts
seen_lasts SPIF (spcr3_spsr_put v upper lower) q seen = lasts lower q.spsr.seen.spif (bit 7 v) seen
seen_lasts MODF (spcr3_spsr_put v upper lower) q seen = lasts lower q.spsr.seen.modf (bit 6 v) seen
seen_lasts HALTA (spcr3_spsr_put v upper lower) q seen = lasts lower q.spsr.seen.halta (bit 5 v) seen
seen_lasts SPIF status_seen q seen = rw seen
seen_lasts MODF status_seen q seen = rw seen
seen_lasts HALTA status_seen q seen = rw seen
seen_lasts f (clocked pins) q seen = ap (member f) (clock_seen_holds q pins) ∙ seen
seen_lasts f (spcr0_put v upper lower) q seen = seen
seen_lasts f (spcr1_put v upper lower) q seen = ap (λ s. member f s.seen) (write_spsr q v upper lower) ∙ seen
seen_lasts f (spcr2_put v upper lower) q seen = seen
seen_lasts f (receive_put i v upper lower) q seen = seen
seen_lasts f (transmit_put i v upper lower) q seen = seen
seen_lasts f (command_put i v upper lower) q seen = seen

pub reset_forgets : ResetForgets
unfolding reset
reset_forgets SPIF = (refl, refl)
reset_forgets MODF = (refl, refl)
reset_forgets HALTA = (refl, refl)

pub cptqp_stays : CptqpStays
cptqp_stays (clocked pins) q h = absurd (true≢false h)
cptqp_stays status_seen q h = refl
cptqp_stays (spcr0_put v upper lower) q h = refl
cptqp_stays (spcr1_put v upper lower) q h = ap (λ s. s.cptqp) (write_spsr q v upper lower)
cptqp_stays (spcr2_put v upper lower) q h = refl
cptqp_stays (spcr3_spsr_put v upper lower) q h = refl
cptqp_stays (receive_put i v upper lower) q h = refl
cptqp_stays (transmit_put i v upper lower) q h = refl
cptqp_stays (command_put i v upper lower) q h = refl
